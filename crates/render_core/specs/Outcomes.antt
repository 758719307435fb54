-- How the renders of a renderer's frames went.
use Rattle.std.specs.Prelude.{◌≡◌, Bool, true, false, not, List}
use Rattle.std.specs.List.{list_any}
use Rattle.frame_record.specs.declared.frame.Outcome.{Outcome}
pub use Rattle.frame_record.specs.Outcomes.{is_shown}
use Rattle.frame_record.specs.declared.frame.Outcome.TheVariants as outcomes

-- the frame was not drawn
abbrev pub is_skipped : Outcome → Bool
is_skipped outcomes.Shown = false
is_skipped outcomes.PictureFault = false
is_skipped outcomes.OutOfMemory = false
is_skipped outcomes.Skipped = true

-- whether a frame was not shown
abbrev pub has_ended : List Outcome → Bool
has_ended all = list_any (λ o. not (is_shown o)) all

-- the same as a fact
abbrev pub IsShown : Outcome → Type 0
IsShown o = is_shown o ≡ true

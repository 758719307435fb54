-- Items that share, by their marks.
use Rattle.std.specs.Prelude.{ℕ, ◌&&◌, ◌==◌, Bool, false, not, List, length, Option, Some, None, slice_index_or}
use Rattle.std.specs.List.{find, range_with_len}
use Rattle.shared_keys.specs.declared.marks.Mark.{Mark}
use Rattle.shared_keys.specs.Marks.{same_kind}
use Rattle.shared_items.specs.Items.{ItemSharing}

-- two marks are of the view and of two encoders, and clash; what has no mark clashes with nothing
abbrev pub marks_clash : (view : ℕ) → Option Mark → Option Mark → Bool
marks_clash v (Some x) (Some y) = (x.view == v) && not (x.encoder == y.encoder) && (x.view == y.view) && same_kind x.is_blit y.is_blit && (x.key == y.key)
marks_clash v _ _ = false

-- the same of two lists, by places
abbrev pub clash_at : (view : ℕ) → List (Option Mark) → List (Option Mark) → ItemSharing
clash_at v lefts rights i j = marks_clash v (slice_index_or lefts i None) (slice_index_or rights j None)

-- the first of a list with which a mark clashes
abbrev pub partner_mark : (view : ℕ) → Option Mark → List (Option Mark) → Option ℕ
partner_mark v left rights = find (λ j. marks_clash v left (slice_index_or rights j None)) (range_with_len 0 (length rights))

-- Frames that are begun.
use Rattle.std.specs.Prelude.{◌≡◌, ◌≢◌, ◌≤◌, ◌<◌, ◌-◌, ℕ, Bool, true, false, List, [], length, fold, take, drop, ⊤}
use Rattle.store_laws.specs.ByIndex.{Stores}
use Rattle.frame_record.specs.declared.frame.Frame.{Frame}
use Rattle.frame_record.specs.declared.frame.Outcome.{Outcome}
use Rattle.render_stores.specs.Seen.{stores_seen}
use Rattle.view_drawing.specs.Begun.{begun_seen}
use Rattle.view_drawing.specs.Passes.{after_part}
use Rattle.render_core.specs.Lists.{AreListed}
use Rattle.render_core.specs.Needs.{NeedsMemory}
use Rattle.render_core.specs.Seen.{frame_seen}
use Rattle.render_core.specs.ViewParts.{parts_in, stores_within}
use Rattle.render_core.specs.Outcomes.{has_ended}
use Rattle.render_core.specs.declared.lists.Lists.{Lists}
use Rattle.render_core.specs.declared.picture.PictureText.{PictureText}
use Rattle.render_core.specs.declared.renderer.Canvas.{Canvas}
use Rattle.render_core.specs.declared.stages.Stage.{Stage}
use Rattle.render_core.specs.declared.stages.Stage.TheVariants as stages
use Rattle.render_core.specs.declared.held_passes.HeldPass.{HeldPass}
use Rattle.render_core.specs.declared.held_passes.HeldPass.TheVariants as passes
use Rattle.render_core.specs.declared.next_views.NextViews.{NextViews}
use Rattle.render_core.specs.declared.next_views.NextViews.TheVariants as nexts

-- the stores that a pass ends with
abbrev pub held_seen : HeldPass → Stores
held_seen (passes.Lent pass) = pass
held_seen (passes.Done stores) = stores_seen stores

-- the frame is skipped
abbrev pub skips : Stage → Bool
skips stages.Skipped = true
skips stages.Stopped = false
skips (stages.Entered n) = false

-- a frame's items are listed, where it has some
abbrev pub AreReady : Frame → Lists → Type 0
AreReady f l = f.journal.items ≢ [] → AreListed f l

-- after so many of a frame's views, with its items listed
pub record IsWithin (h : Stores) (f : Frame) (l : Lists) (n : ℕ) (now : Stores) : Type 0 where
  pub many : n ≤ length (parts_in (frame_seen f))
  pub stores : now ≡ stores_within h (frame_seen f) n
  pub ready : AreReady f l

-- what the stores are where a frame that was begun on others stands; where memory was wanting, nothing is known of them
abbrev pub StandsAt : Stage → Stores → Frame → Lists → Stores → Type 0
StandsAt stages.Skipped h f l now = now ≡ h
StandsAt stages.Stopped h f l now = NeedsMemory f
StandsAt (stages.Entered n) h f l now = IsWithin h f l n now

-- where a frame stands that was begun on a renderer's canvas behind its outcomes: the text's room is the canvas's, and the frame is skipped
-- exactly where an earlier one was not shown
pub record StandsOn (c : Canvas) (os : List Outcome) (f : Frame) (s : Stage) (l : Lists) (t : PictureText) (now : Stores) : Type 0 where
  pub text : t ≡ c.text
  pub skipped : skips s ≡ has_ended os
  pub stands : StandsAt s (stores_seen c.stores) f l now

-- what comes of beginning the views behind so many: those before a later number, where one is left; none where memory is wanting
abbrev pub ComesNext : NextViews → Stores → Frame → ℕ → Type 0
ComesNext (nexts.Begun n pass) h f e = (e < n) × ((n ≤ length (parts_in (frame_seen f))) × (begun_seen pass ≡ fold after_part h (take (n - e) (drop e (parts_in (frame_seen f))))))
ComesNext (nexts.AllEntered stores) h f e = (stores_seen stores ≡ h) × (e ≡ length (parts_in (frame_seen f)))
ComesNext (nexts.Stopped stores) h f e = NeedsMemory f

-- no pass is left: all views are entered, or no more can be
abbrev pub IsLast : Stage → Frame → Type 0
IsLast stages.Skipped f = ⊤
IsLast stages.Stopped f = NeedsMemory f
IsLast (stages.Entered n) f = n ≡ length (parts_in (frame_seen f))

-- a stage is behind so many views, and before the number
abbrev pub IsBefore : Stage → ℕ → Type 0
IsBefore stages.Skipped n = ⊥
IsBefore stages.Stopped n = ⊥
IsBefore (stages.Entered e) n = e < n

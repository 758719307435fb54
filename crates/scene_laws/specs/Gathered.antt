-- What is gathered of a frame's encoders is the scene's.
use Rattle.std.specs.Prelude.{◌≡◌, ℕ, ◌||◌, true, nat_lt, if◌then◌else◌, List, map, length, filter_map, slice_index_or}
use Rattle.std.specs.List.{AllByRecursion}
use Rattle.schedule_model.specs.Held.{count_of}
use Rattle.gfx_model.specs.Views.{Views}
use Rattle.gfx_model.specs.World.{Item, is_blit, ordered}
use Rattle.gfx_model.specs.Frames.{Recorded, collected, item_of_entry, is_ordered, draw_order, NumbersAscend}
use Rattle.scene_model.specs.Fold.{FramePlan, nothing_accepted}
use Rattle.scene_model.specs.Journal.{IsLawfulFrame, item_of}

-- the encoders from 0 to below a number have one recording each, and no other encoder has one
abbrev pub IsOnceEach : ℕ → List Recorded → Type 0
IsOnceEach many rs = (e : ℕ) → count_of e (map (λ r. r.encoder) rs) ≡ (if nat_lt e many then 1 else 0)

-- a recording has the items that the frame's plan has of its encoder
abbrev pub HasPlanned : FramePlan → Recorded → Type 0
HasPlanned plan r = map (λ i. i.item) r.items ≡ (slice_index_or plan.encoders r.encoder nothing_accepted).items

-- an item is a blit, or has its place in the order of a frame with these views
abbrev pub IsDrawn : Views → Item → Type 0
IsDrawn vs i = (is_blit i || is_ordered vs i) ≡ true

-- each encoder of a frame has one recording, of the items that the plan has of it, whose numbers ascend
pub record IsGathered (plan : FramePlan) (rs : List Recorded) : Type 0 where
  pub once : IsOnceEach (length plan.encoders) rs
  pub planned : AllByRecursion (HasPlanned plan) rs
  pub ascend : AllByRecursion (λ r. NumbersAscend 0 r.items) rs
  pub drawn : AllByRecursion (λ r. AllByRecursion (λ i. IsDrawn plan.views i.item) r.items) rs

-- the journal of recordings is lawful for the frame, and their items, in the journal's order and in that of the drawing, are the frame's
pub record HasFrame (plan : FramePlan) (rs : List Recorded) : Type 0 where
  pub lawful : IsLawfulFrame plan (collected rs)
  pub items : filter_map (item_of_entry rs) (collected rs) ≡ filter_map (item_of plan.encoders) (collected rs)
  pub ordered_items : filter_map (item_of_entry rs) (draw_order plan.views rs (collected rs)) ≡ ordered plan.views (filter_map (item_of plan.encoders) (collected rs))

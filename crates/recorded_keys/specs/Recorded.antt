-- The marks of what encoders recorded, and recordings that are a frame's.
use Rattle.std.specs.Prelude.{◌≡◌, ℕ, List, [], ◌∷◌, flat_map, if◌then◌else◌, Some, slice_get}
use Rattle.std.specs.List.{AllByRecursion}
use Rattle.gfx_model.specs.Views.{Views}
use Rattle.gfx_model.specs.World.{Item}
use Rattle.scene_model.specs.Fold.{Accepted, FramePlan}
use Rattle.shared_keys.specs.declared.marks.Mark.{Mark}
use Rattle.shared_keys.specs.Marks.{can_clash, mark_of}
use Rattle.shared_keys.specs.Members.{In}
use Rattle.draw_encoder.specs.declared.items.Recording.{Recording}
use Rattle.draw_encoder.specs.Bundles.{items_of}

-- the mark of an encoder's item, where it can clash
abbrev pub marks_of_item : Views → (encoder : ℕ) → Item → List Mark
marks_of_item vs e i = if can_clash i then mark_of vs (record { encoder = e; item = i }) ∷ [] else []

-- the marks of an encoder's items
abbrev pub marks_of_items : Views → (encoder : ℕ) → List Item → List Mark
marks_of_items vs e items = flat_map (marks_of_item vs e) items

-- the marks of what encoders recorded
abbrev pub marks_of : Views → List Recording → List Mark
marks_of vs rs = flat_map (λ r. marks_of_items vs r.encoder (items_of r)) rs

-- what a recording has is what the frame's plan has of its encoder
abbrev pub HasPlan : FramePlan → Recording → Type 0
HasPlan p r = (a : Accepted) × (slice_get p.encoders r.encoder ≡ Some a) × (items_of r ≡ a.items)

-- each recording has what the frame's plan has of its encoder, and each encoder of the plan has a recording
pub record ArePlanned (p : FramePlan) (rs : List Recording) : Type 0 where
  pub each : AllByRecursion (HasPlan p) rs
  pub all : (e : ℕ) (a : Accepted) → slice_get p.encoders e ≡ Some a → (r : Recording) × In r rs × (r.encoder ≡ e)

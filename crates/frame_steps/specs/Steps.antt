-- The pictures of the steps of a frame by index, on a renderer's stores.
use Rattle.std.specs.Prelude.{◌≡◌, ℕ, List, [], ◌∷◌, ◌++◌, map, flat_map, Option}
use Rattle.io_edge.specs.Edge.{with_back}
use Rattle.gfx_model.specs.Raster.{Texels}
use Rattle.scene_model.specs.Output.{picture_text}
use Rattle.store_laws.specs.ByIndex.{Stores, FrameData}
use Rattle.trace_laws.specs.ByIndex.{begun_in, deeds_in, stores_after_each}
use Rattle.trace_laws.specs.Deeds.{Deed}
use Rattle.frame_record.specs.declared.frame.Frame.{Frame}
use Rattle.trace_lines.specs.declared.doers.Doer.{Doer}
use Rattle.trace_lines.specs.Seen.{doer_seen}
use Rattle.frame_steps.specs.Doing.{deed_of_frame, stores_after_some}

-- the pictures of stores
abbrev pub pictures_in : List Stores → List Texels
pictures_in hs = map (λ h. h.back.color) hs

-- the picture before the first deed of a frame, and that after each
abbrev pub step_pictures_in : Stores → FrameData → List Texels
step_pictures_in h f = pictures_in (begun_in h f ∷ stores_after_each (begun_in h f) (deeds_in f))

-- their texts, one behind the other
abbrev pub steps_text : Stores → FrameData → List ℕ
steps_text h f = flat_map picture_text (step_pictures_in h f)

-- ---- deeds, each if there is one

-- the deeds of doers of a frame
abbrev pub deeds_of_doers : Frame → List Doer → List (Option Deed)
deeds_of_doers f ds = map (λ d. deed_of_frame f (doer_seen d)) ds

-- the stores after each of these
abbrev pub stores_after_these : Stores → List (Option Deed) → List Stores
stores_after_these h [] = []
stores_after_these h (o ∷ os) = stores_after_some h o ∷ stores_after_these (stores_after_some h o) os

-- the texts of the pictures after each of these
abbrev pub texts_after : Stores → List (Option Deed) → List ℕ
texts_after h os = flat_map picture_text (pictures_in (stores_after_these h os))

-- ---- a text that is put in pieces

-- of a whole text all but this rest was put
pub record IsPutSoFar (old : Option (List ℕ)) (rest whole : List ℕ) (new : Option (List ℕ)) : Type 0 where
  pub done : List ℕ
  pub put : new ≡ with_back old done
  pub left : whole ≡ done ++ rest

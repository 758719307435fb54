-- What frames leave that were rendered one after another, by how they ended.
use Rattle.std.specs.Prelude.{◌≡◌, ◌≤◌, ◌<◌, ℕ, false, List, [], ◌∷◌, length, take, flat_map, fold, Option}
use Rattle.io_edge.specs.Edge.{with_back, counted, Rose}
use Rattle.gfx_model.specs.Raster.{Texels}
use Rattle.scene_model.specs.Output.{picture_text}
use Rattle.store_laws.specs.ByIndex.{Stores, frame_by_index}
use Rattle.store_laws.specs.Run.{pictures_by_index}
use Rattle.frame_record.specs.declared.frame.Outcome.{Outcome}
use Rattle.frame_record.specs.declared.frame.Outcome.TheVariants as outcomes
use Rattle.frame_record.specs.declared.frame.RenderedFrame.{RenderedFrame}
use Rattle.render_core.specs.Laws.{frames_seen}
use Rattle.render_core.specs.Outcomes.{has_ended}
use Rattle.io_whole.specs.Whole.{HasFront}
use Rattle.render_core.specs.Rendered.{Rendering, AreRendered}

-- the first of two outcomes that is not Shown, or Shown
abbrev pub outcome_then : Outcome → Outcome → Outcome
outcome_then outcomes.Shown later = later
outcome_then outcomes.PictureFault later = outcomes.PictureFault
outcome_then outcomes.OutOfMemory later = outcomes.OutOfMemory
outcome_then outcomes.Skipped later = outcomes.Skipped

-- how frames ended: the outcome of the first that was not shown, or Shown where all were
abbrev pub first_outcome : List RenderedFrame → Outcome
first_outcome [] = outcomes.Shown
first_outcome (r ∷ rs) = outcome_then r.outcome (first_outcome rs)

-- the pictures of frames that are drawn one after another from these stores on
abbrev pub pictures_seen : Stores → List RenderedFrame → List Texels
pictures_seen h rs = pictures_by_index h (frames_seen rs)

-- the texts of these pictures, one behind the other
abbrev pub texts_seen : Stores → List RenderedFrame → List ℕ
texts_seen h rs = flat_map picture_text (pictures_seen h rs)

-- what a sink counted, with a text more; just that where the text is empty
abbrev pub counted_with : Option (ℕ × ℕ) → List ℕ → Option (ℕ × ℕ)
counted_with told [] = told
counted_with told (b ∷ rest) = counted told (b ∷ rest)

-- what rendered frames leave, by how they ended: where all were shown, the stores after them, and the texts of their pictures more, held and counted;
-- after a fault of the sink, whose count of faults rose, a front of these texts; for want of memory the whole texts of the first ones, and not of all. No first end is a skip
abbrev pub EndsAs : Outcome → (old : Rendering) → List RenderedFrame → (new : Rendering) → Type 0
EndsAs outcomes.Shown old rs new =
    (new.stores ≡ fold frame_by_index old.stores (frames_seen rs))
    × (new.held ≡ with_back old.held (texts_seen old.stores rs))
    × (new.tally ≡ counted_with old.tally (texts_seen old.stores rs))
EndsAs outcomes.PictureFault old rs new = HasFront old.held (texts_seen old.stores rs) new.held × Rose old.faults new.faults
EndsAs outcomes.OutOfMemory old rs new =
    (j : ℕ) × (j < length rs) × (new.held ≡ with_back old.held (flat_map picture_text (take j (pictures_seen old.stores rs))))
EndsAs outcomes.Skipped old rs new = ⊥

-- frames leave what their end says, where no frame before them had ended the run
abbrev pub EndedLaw : Type 0
EndedLaw = (old new : Rendering) (rs : List RenderedFrame) → AreRendered old rs new → has_ended old.outcomes ≡ false → EndsAs (first_outcome rs) old rs new

-- however frames ended, the sink's faults did not become fewer, and it is sure of just what it was
abbrev pub KeptLaw : Type 0
KeptLaw = (old new : Rendering) (rs : List RenderedFrame) → AreRendered old rs new → (old.faults ≤ new.faults) × (new.sure ≡ old.sure)

-- what a sink has of rendered frames, by how they ended
abbrev pub HasTexts : Outcome → (old : Rendering) → List RenderedFrame → (new : Rendering) → Type 0
HasTexts outcomes.Shown old rs new = (new.held ≡ with_back old.held (texts_seen old.stores rs)) × (new.tally ≡ counted_with old.tally (texts_seen old.stores rs))
HasTexts outcomes.PictureFault old rs new = EndsAs outcomes.PictureFault old rs new
HasTexts outcomes.OutOfMemory old rs new = EndsAs outcomes.OutOfMemory old rs new
HasTexts outcomes.Skipped old rs new = ⊥

-- a sink has what the end says too where it is only known that frames were rendered one after another, as of a link that renders in place
abbrev pub TextsLaw : Type 0
TextsLaw = (old new : Rendering) (rs : List RenderedFrame) → ∥ AreRendered old rs new ∥₁ → has_ended old.outcomes ≡ false → HasTexts (first_outcome rs) old rs new

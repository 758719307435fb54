-- What a job of a scene's block records is what the definition accepts.
use Rattle.std.proofs.Common.{◌≡◌, ◌<◌, ℕ, List, ap, sym, ◌∙◌, arith}
use Rattle.std.proofs.lemmas.List.FromFn.{get_or-map-range_with_len}
use Rattle.gfx_model.specs.World.{Item}
use Rattle.scene_model.specs.Scene.{Scene, SceneFrame}
use Rattle.scene_model.specs.Fold.{Progress, Recording, Accepted, accepted_of, nothing_accepted, accepted_in, accepted, recording_of}
use Rattle.block_recording.specs.Lines.{recorded}
use Rattle.block_recording.specs.Jobs.{JobView, IsReady}
use Rattle.block_recording.specs.Promised.{IsAccepted, IsStateBefore, IsBlockJob, BlockJobsAreReady}

-- what the definition accepts of a block is what the block records by the state before
accepted_is : (s : Scene) (k e : ℕ) (f : SceneFrame) (p : Progress) → IsStateBefore s k f p → e < s.encoders → accepted s k e ≡ accepted_of (recording_of s k p f e)
accepted_is s k e f p before below =
    ap (accepted_in e) before.planned
    ∙ get_or-map-range_with_len (λ (d : ℕ). accepted_of (recording_of s k p f d)) 0 s.encoders e e nothing_accepted below (omega arith)

-- the job is ready for whatever admits what the definition accepts of its block
pub ready_for : (admits : ℕ → ℕ → List Item → ℕ → Type 0) (s : Scene) (k e : ℕ) (f : SceneFrame) (p : Progress) (j : JobView)
    → ((items : List Item) (dropped : ℕ) → IsAccepted s e k items dropped → admits e k items dropped) → IsStateBefore s k f p → IsBlockJob s k e f p j → IsReady admits j
ready_for admits s k e f p j admit before job =
    let records : recorded p j.encoder.recorder j.lines ≡ recording_of s k p f e = λ i. recorded p (job.begun i) (job.lines i) in
    let is : accepted s k e ≡ accepted_of (recording_of s k p f e) = accepted_is s k e f p before job.below in
    let items : (recorded p j.encoder.recorder j.lines).recorder.items ≡ (accepted s k e).items = ap (λ (r : Recording). r.recorder.items) records ∙ ap (λ (a : Accepted). a.items) (sym is) in
    let dropped : (recorded p j.encoder.recorder j.lines).dropped ≡ (accepted s k e).dropped = ap (λ (r : Recording). r.dropped) records ∙ ap (λ (a : Accepted). a.dropped) (sym is) in
    record {
      few = job.few;
      frame = ap (λ r. r.frame) job.begun ∙ sym job.whose.1;
      state = p;
      stand = job.stand;
      admitted = rw (job.whose.0, job.whose.1) (admit (recorded p j.encoder.recorder j.lines).recorder.items (recorded p j.encoder.recorder j.lines).dropped (items, dropped));
    }

pub ready : BlockJobsAreReady
ready s k e f p j before job = ready_for (IsAccepted s) s k e f p j (λ items dropped is. is) before job

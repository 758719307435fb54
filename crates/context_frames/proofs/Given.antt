-- A frame that a context gives is the scene's.
use Rattle.std.proofs.Common.{◌≡◌, List, sym, ap, ◌∙◌}
use Rattle.gfx_model.specs.Frames as model
use Rattle.gfx_model.specs.Frames.{collected, draw_order}
use Rattle.gfx_model.specs.Views.{Views, view_order}
use Rattle.gfx_model.specs.World.{ordered}
use Rattle.call_laws.specs.Calls.{Written}
use Rattle.scene_model.specs.Fold.{FramePlan, plan_of}
use Rattle.scene_laws.specs.Gathered.{HasFrame}
use Rattle.scene_laws.specs.Laws.{GatheredLaw}
use Rattle.scene_laws.specs.SceneFrames.{written_by, items_by}
use Rattle.resource_book.specs.Laws.{bared}
use Rattle.frame_record.specs.Placed.{items_in}
use Rattle.frame_record.specs.Seen.{recordings_seen}
use Rattle.render_core.specs.Seen.{recordings_of, journal_of}
use Rattle.context_frames.specs.Laws.{GivenFrameLaw, after_before, after_all}
use Rattle.context_frames.proofs.Recordings.{gathered, of_plan}

pub given_frames : (L : Type 0) → GatheredLaw → GivenFrameLaw L
given_frames L law s k f gone first places old frame w handles planned wrote stands are counted is =
    let plan : FramePlan = plan_of s k f gone (after_before s f first) (after_all s f first) in
    let all : Written = written_by s.names first f in
    let rs : List model.Recorded = recordings_seen old.gathered in
    let has : HasFrame plan rs = law plan rs (gathered s k plan planned counted places old.gathered (of_plan s k f gone (after_before s f first) (after_all s f first) places old.gathered are)) in
    let book : old.book ≡ bared all = stands.book_is ∙ ap bared wrote in
    let views : frame.views ≡ all.resources.views = is.views ∙ ap (λ b. b.resources.views) book in
    let same : all.resources.views ≡ plan.views = ap (λ r. r.views) (ap (λ (x : Written). x.resources) (sym wrote) ∙ stands.resources) in
    let recorded : recordings_of frame ≡ rs = ap recordings_seen is.recordings in
    let items : items_in (recordings_of frame) (journal_of frame) ≡ items_by plan.encoders (collected rs) = (λ j. items_in (recorded j) (is.journal j)) ∙ has.items in
    let in_order : items_in (recordings_of frame) (draw_order frame.views (recordings_of frame) (journal_of frame)) ≡ ordered all.resources.views (items_by plan.encoders (collected rs)) =
    (λ j. items_in (recorded j) (draw_order ((views ∙ same) j) (recorded j) (is.journal j)))
    ∙ has.ordered_items
    ∙ ap (λ (vs : Views). ordered vs (items_by plan.encoders (collected rs))) (sym same) in
    λ j. record {
      pre = (is.pre ∙ ap (λ b. b.pre) book) j;
      post = (is.post ∙ ap (λ b. b.post) book) j;
      payloads = (is.payloads ∙ ap (λ b. b.payloads) book) j;
      views = views j;
      sequence = view_order (views j);
      items = items j;
      ordered = in_order j;
    }

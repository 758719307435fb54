-- Frames that were all shown.
use Rattle.std.proofs.Common.{◌≡◌, List, [], ◌∷◌, ◌++◌, refl, ap, ◌∙◌}
use Rattle.std.specs.List.{AllByRecursion}
use Rattle.io_edge.specs.Edge.{with_back}
use Rattle.scene_model.specs.Output.{picture_text}
use Rattle.store_laws.specs.ByIndex.{Stores, FrameData, frame_by_index}
use Rattle.frame_record.specs.declared.frame.RenderedFrame.{RenderedFrame}
use Rattle.render_core.specs.Ended.{texts_seen}
use Rattle.render_core.specs.Laws.{ShownLaw}
use Rattle.render_core.specs.Outcomes.{IsShown}
use Rattle.render_core.specs.Rendered.{Rendering, IsRendered, AreRendered, rendered_none, rendered_more}
use Rattle.render_core.specs.Seen.{frame_seen}
use Rattle.io_whole.proofs.Pieces.{with_back-with_back, with_back-nothing}
use Rattle.render_core.proofs.Shows.{stores_if, held_if}
use Rattle.render_core.proofs.Texts.{stores_seen_after, text_at, stores_more, texts_more, text_is}

abbrev AllShown : List RenderedFrame → Type 0
AllShown rs = AllByRecursion (λ r. IsShown r.outcome) rs

all_front : (rs : List RenderedFrame) (r : RenderedFrame) → AllShown (rs ++ r ∷ []) → AllShown rs
all_front [] r all = tt
all_front (x ∷ rs) r all = (all.0, all_front rs r all.1)

all_last : (rs : List RenderedFrame) (r : RenderedFrame) → AllShown (rs ++ r ∷ []) → IsShown r.outcome
all_last [] r all = all.0
all_last (x ∷ rs) r all = all_last rs r all.1

-- what was shown
record Shows (old : Rendering) (rs : List RenderedFrame) (new : Rendering) : Type 0 where
  pub stores : new.stores ≡ stores_seen_after old.stores rs
  pub held : new.held ≡ with_back old.held (texts_seen old.stores rs)

shows_more : (old mid new : Rendering) (rs : List RenderedFrame) (r : RenderedFrame) → Shows old rs mid → IsRendered mid r new → IsShown r.outcome → Shows old (rs ++ r ∷ []) new
shows_more old mid new rs r before step shown =
    let f : FrameData = frame_seen r.frame in
    let stores : new.stores ≡ frame_by_index mid.stores f = stores_if r.outcome mid.stores new.stores f step.stores shown in
    let last : picture_text new.stores.back.color ≡ text_at (stores_seen_after old.stores rs) f = text_is (stores_seen_after old.stores rs) mid.stores new.stores f before.stores stores in
    record {
      stores = stores ∙ ap (λ (h : Stores). frame_by_index h f) before.stores ∙ stores_more old.stores rs r;
      held = held_if r.outcome (picture_text new.stores.back.color) mid.held new.held step.held shown
          ∙ (λ i. with_back (before.held i) (last i))
          ∙ with_back-with_back old.held (texts_seen old.stores rs) (text_at (stores_seen_after old.stores rs) f)
          ∙ ap (with_back old.held) (texts_more old.stores rs r);
    }

shows_all : {old new : Rendering} {rs : List RenderedFrame} → AreRendered old rs new → AllShown rs → Shows old rs new
shows_all {old} rendered_none all = record { stores = refl; held = with_back-nothing old.held }
shows_all {old} {new} (rendered_more {rs} {mid} r before step) all = shows_more old mid new rs r (shows_all before (all_front rs r all)) step (all_last rs r all)

pub shown_frames : ShownLaw
shown_frames old new rs are all = let s = shows_all are all in (s.stores, s.held)

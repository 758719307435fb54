-- A frame in passes, step by step.
use Rattle.std.proofs.Common.{◌≡◌, ℕ, ◌-◌, ◌<◌, ◌≤◌, ◌==◌, false, true, List, [], ◌∷◌, length, Option, Some, Result, Ok, Err, refl, sym, ap, ◌∙◌, subst, arith}
use Rattle.std.proofs.lemmas.Bool.{eqb-true}
use Rattle.gfx_model.specs.Words.{Handle}
use Rattle.atomic_table.specs.Seated.{TableId}
use Rattle.context_core.specs.Ended.{Gives}
use Rattle.context_core.specs.States.{CoreView}
use Rattle.context_core.specs.declared.ending.Prepared.{Prepared}
use Rattle.frame_record.specs.declared.frame.Frame.{Frame}
use Rattle.render_core.specs.Begun.{IsBefore}
use Rattle.render_core.specs.BegunFrames.{BegunView}
use Rattle.render_core.specs.Rendered.{Rendering}
use Rattle.render_core.specs.declared.stages.Stage.{Stage}
use Rattle.render_core.specs.declared.stages.Stage.TheVariants as stages
use Rattle.c_words.specs.declared.faults.Fault.{Fault}
use Rattle.c_calls.specs.Bands.{ComesNext, OnFrame}
use Rattle.c_calls.specs.Begun.{IsOpenOn, IsReadied, OpenView, frame_in, opening_in}
use Rattle.c_calls.specs.Calls.{is_over}
use Rattle.c_calls.specs.Frames.{Delivers, IsDelivered, IsMade, IsTold, Tells, came_back, emptied}
use Rattle.c_calls.specs.Passes.{EndsAsOne}
use Rattle.c_calls.specs.Rendered.{rendering_of}
use Rattle.c_calls.specs.Views.{ContextView, IsOn}
use Rattle.c_calls.specs.declared.frame.Framed.{Framed}
use Rattle.c_calls.specs.declared.objects.Object.{Object}
use Rattle.c_calls.specs.declared.objects.Object.TheVariants.{Drawing}
use Rattle.c_calls.specs.declared.open_frames.Place.{Place}
use Rattle.c_calls.specs.declared.open_frames.Place.TheVariants.{Between, Within}
use Rattle.c_calls.specs.declared.picture.PictureSink.{PictureSink}
use Rattle.c_calls.proofs.Frames.{is_oldest, on_finished, one_out}

-- ---- a frame is begun

-- the frame is made of what the context had
pub made_of : (p : Prepared) (dropped : ℕ) (from now : ContextView) (f : Frame) (made : CoreView) → IsReadied p dropped from now → Gives p.work f now.core made
    → IsMade f dropped from (record from { core = came_back made })
made_of p dropped from now f made r g = record {
  mid = r.mid;
  gathers = r.gathers;
  dropped_is = r.dropped_is;
  prepared = p;
  ready = now.core;
  made = made;
  is_ready = r.is_ready;
  gives = g;
  after = refl;
}

-- all that an object with a frame that is begun keeps
pub opened_on : {t : TableId} (p : Prepared) (dropped : ℕ) (from now : ContextView) (f : Frame) (made : CoreView) (opening : Rendering) (rows : List (Option Handle)) (most : ℕ)
    → IsOn t now.core → is_over from ≡ false → IsReadied p dropped from now → Gives p.work f now.core made
    → rows ≡ now.rows → most ≡ now.most → now.renderer.sure ≡ Some now.most → opening ≡ emptied now.renderer
    → IsOpenOn t made rows dropped most from f opening
opened_on p dropped from now f made opening rows most on runs r g rows_are most_is sure opening_is =
    let renderer : now.renderer ≡ from.renderer = ap (λ (c : ContextView). c.renderer) r.same in
    let emptied_is : opening ≡ emptied from.renderer = opening_is ∙ ap emptied renderer in
    record {
      runs = runs;
      made = made_of p dropped from now f made r g;
      on = on_finished on p.work f made (came_back made) g refl;
      out = one_out p.work f now.core made on.none_out g ∙ (let none = on.none_out in omega (arith, none));
      oldest = is_oldest p.work f now.core made on.none_out g;
      rows_are = rows_are ∙ ap (λ (c : ContextView). c.rows) r.same;
      most_is = most_is ∙ ap (λ (c : ContextView). c.most) r.same;
      sure = ap (λ (o : Rendering). o.sure) opening_is ∙ sure ∙ ap (λ (n : ℕ). Some n) (sym most_is);
      opening_is = emptied_is;
    }

-- ---- a pass is begun

-- a stage that is before a view is before each later one
pub before_later : (s : Stage) (m n : ℕ) → IsBefore s m → m < n → IsBefore s n
before_later stages.Skipped m n b lt = b
before_later stages.Stopped m n b lt = b
before_later (stages.Entered e) m n b lt = omega (arith, b, lt)

-- what comes next of a frame that came on comes next of the frame as it was
pub comes_on : (a b : BegunView PictureSink) → b.opening ≡ a.opening → b.frame ≡ a.frame → ((n : ℕ) → IsBefore b.stage n → IsBefore a.stage n)
    → (p : Place) (n : ℕ) (vs : List (Option Object)) → ComesNext b p n vs → ComesNext a p n vs
comes_on a b opening frame later (Between e) n vs c = (c.0 ∙ opening, c.1 ∙ frame, c.2, c.3, c.4)
comes_on a b opening frame later (Within l) n vs c = (c.0 ∙ opening, c.1 ∙ frame, later l.entered c.2, c.3)

-- it is of the same frame, on the same renderer
pub comes_same : (b : BegunView PictureSink) (p : Place) (n : ℕ) (vs : List (Option Object)) → ComesNext b p n vs → (frame_in p ≡ b.frame) × (opening_in p ≡ rendering_of b.opening)
comes_same b (Between e) n vs c = (c.1, ap rendering_of c.0)
comes_same b (Within l) n vs c = (c.1, ap rendering_of c.0)

-- what an object with a frame that is begun keeps, where that comes to another place
pub open_moved : {t : TableId} {core : CoreView} {rows : List (Option Handle)} {dropped most : ℕ} {from : ContextView} (p q : Place) → frame_in p ≡ frame_in q → opening_in p ≡ opening_in q
    → IsOpenOn t core rows dropped most from (frame_in q) (opening_in q) → IsOpenOn t core rows dropped most from (frame_in p) (opening_in p)
open_moved {t = t} {core = core} {rows = rows} {dropped = dropped} {most = most} {from = from} p q frame opening i =
    subst (λ (f : Frame). IsOpenOn t core rows dropped most from f (opening_in p)) (sym frame)
    (subst (λ (o : Rendering). IsOpenOn t core rows dropped most from (frame_in q) o) (sym opening) i)

-- ---- a handle of a frame that is begun

pub on_frame : (new : Option Object) (status : ℕ) (says : OpenView → Type 0) (other : Type 0) (old : Option Object) (o : OpenView) → old ≡ Some (Drawing o) → says o → OnFrame old new status says other
on_frame new status says other old o was s = subst (λ (x : Option Object). OnFrame x new status says other) (sym was) s

-- ---- a frame ends

-- the frame came back
pub back_again : (c new : CoreView) → c.state.out ≡ 1 → new ≡ record c { state = record c.state { out = c.state.out - 1 } } → new ≡ came_back c
back_again c new one e =
    let none : c.state.out - 1 ≡ 0 = omega (arith, one) in
    e ∙ (λ j. record c { state = record c.state { out = none j } })

-- one that was made and rendered ends as one
module _ (frame : Frame) (dropped : ℕ) (from mid new : ContextView) (runs : is_over from ≡ false) (made : IsMade frame dropped from mid) where
  pub delivered_as_one : (before after : List ℕ) (result : Result Framed Fault) → (length before == 0) ≡ false → from.most ≤ length before → Delivers result frame dropped before after mid new
      → EndsAsOne result before after from new
  delivered_as_one [] after result some enough d = absurd (cc some)
  delivered_as_one (b ∷ bs) after (Ok framed) some enough d = record {
    runs = runs;
    room = enough;
    mid = mid;
    frame = frame;
    made = subst (λ (n : ℕ). IsMade frame n from mid) (sym d.dropped_is) made;
    delivered = subst (λ (n : ℕ). IsDelivered framed frame n (b ∷ bs) after mid new) (sym d.dropped_is) d;
  }
  delivered_as_one (b ∷ bs) after (Err f) some enough d = record { mid = mid; frame = frame; dropped = dropped; made = made; not_shown = d }

  pub told_as_one : (before : List ℕ) (result : Result Framed Fault) → (length before == 0) ≡ true → Tells result frame dropped mid new → EndsAsOne result before before from new
  told_as_one [] (Ok framed) none t = (
    record {
      runs = runs;
      mid = mid;
      frame = frame;
      made = subst (λ (n : ℕ). IsMade frame n from mid) (sym t.dropped_is) made;
      told = subst (λ (n : ℕ). IsTold framed frame n mid new) (sym t.dropped_is) t;
    },
    refl,
  )
  told_as_one [] (Err f) none t = (record { mid = mid; frame = frame; dropped = dropped; made = made; not_shown = t }, refl)
  told_as_one (b ∷ bs) result none t = let no = eqb-true (length (b ∷ bs)) 0 none in absurd (omega (arith, no))

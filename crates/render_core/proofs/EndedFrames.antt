-- Frames that were rendered one after another, however they ended.
use Rattle.std.proofs.Common.{◌≡◌, ◌≤◌, ◌<◌, ◌+◌, ℕ, suc, false, List, [], ◌∷◌, ◌++◌, length, take, Option, ⊎_elim, refl, sym, ap, subst, ◌∙◌, arith, length-append}
use Rattle.std.specs.Prelude.{flat_map, not, ◌||◌}
use Rattle.std.proofs.lemmas.Bool.{cases_lt}
use Rattle.std.proofs.lemmas.List.{length-map, take-append-le, take_all}
use Rattle.std.proofs.Math.Seq.{take-append-add, take-append_seam}
use Rattle.io_edge.specs.Edge.{with_back, counted, Rose}
use Rattle.gfx_model.specs.Raster.{Texels}
use Rattle.scene_model.specs.Output.{picture_text}
use Rattle.store_laws.specs.ByIndex.{Stores, FrameData, frame_by_index}
use Rattle.store_laws.specs.Run.{pictures_by_index}
use Rattle.frame_record.specs.declared.frame.Outcome.{Outcome}
use Rattle.frame_record.specs.declared.frame.Outcome.TheVariants as outcomes
use Rattle.frame_record.specs.declared.frame.RenderedFrame.{RenderedFrame}
use Rattle.render_core.specs.Ended.{outcome_then, first_outcome, pictures_seen, texts_seen, counted_with, EndsAs, EndedLaw, KeptLaw}
use Rattle.render_core.specs.Laws.{frames_seen}
use Rattle.render_core.specs.Outcomes.{has_ended, is_shown, is_skipped}
use Rattle.io_whole.specs.Whole.{HasFront}
use Rattle.render_core.specs.Rendered.{Rendering, IsRendered, AreRendered, rendered_none, rendered_more}
use Rattle.render_core.specs.Seen.{frame_seen}
use Rattle.render_core.specs.Shown.{StoresAfter, HeldAfter, TallyAfter, FaultIf}
use Rattle.io_whole.proofs.Pieces.{with_back-with_back, with_back-nothing, rose_after}
use Rattle.io_whole.proofs.Tallies.{counted_both}
use Rattle.render_core.proofs.Texts.{stores_seen_after, picture_at, text_at, stores_more, pictures_more, texts_more, text_is}

-- ---- the first outcome

then_shown : (o : Outcome) → outcome_then o outcomes.Shown ≡ o
then_shown outcomes.Shown = refl
then_shown outcomes.PictureFault = refl
then_shown outcomes.OutOfMemory = refl
then_shown outcomes.Skipped = refl

then_both : (o p q : Outcome) → outcome_then o (outcome_then p q) ≡ outcome_then (outcome_then o p) q
then_both outcomes.Shown p q = refl
then_both outcomes.PictureFault p q = refl
then_both outcomes.OutOfMemory p q = refl
then_both outcomes.Skipped p q = refl

-- one frame more
first_more : (rs : List RenderedFrame) (r : RenderedFrame) → outcome_then (first_outcome rs) r.outcome ≡ first_outcome (rs ++ r ∷ [])
first_more [] r = sym (then_shown r.outcome)
first_more (x ∷ rs) r = sym (then_both x.outcome (first_outcome rs) r.outcome) ∙ ap (outcome_then x.outcome) (first_more rs r)

ended_then : (o p : Outcome) → (not (is_shown o) || not (is_shown p)) ≡ not (is_shown (outcome_then o p))
ended_then outcomes.Shown p = refl
ended_then outcomes.PictureFault p = refl
ended_then outcomes.OutOfMemory p = refl
ended_then outcomes.Skipped p = refl

-- ---- fronts, counts and faults

-- a front of a text is one of a longer text
front_longer : (old new : Option (List ℕ)) (text more : List ℕ) → HasFront old text new → HasFront old (text ++ more) new
front_longer old new text more (n, is) =
    ⊎_elim
    (λ (lt : n < length text). (n, is ∙ ap (with_back old) (sym (take-append-le n text more (omega (arith, lt))))))
    (λ (le : length text ≤ n). (length text, is ∙ ap (with_back old) (take_all n text le ∙ sym (take-append_seam text more))))
    (cases_lt n (length text))

-- a front of what is put after a text
front_after : (old mid new : Option (List ℕ)) (text more : List ℕ) → mid ≡ with_back old text → HasFront mid more new → HasFront old (text ++ more) new
front_after old mid new text more was (n, is) =
    (length text + n, is ∙ ap (λ h. with_back h (take n more)) was ∙ with_back-with_back old text (take n more) ∙ ap (with_back old) (sym (take-append-add text more n)))

counted_text : (told : Option (ℕ × ℕ)) (t : Texels) → counted told (picture_text t) ≡ counted_with told (picture_text t)
counted_text told t = refl

-- a picture's text more
counted_more : (told : Option (ℕ × ℕ)) (text : List ℕ) (t : Texels) → counted (counted_with told text) (picture_text t) ≡ counted_with told (text ++ picture_text t)
counted_more told [] t = counted_text told t
counted_more told (b ∷ rest) t = counted_both told (b ∷ rest) (picture_text t)

length_by_index : (h : Stores) (fs : List FrameData) → length (pictures_by_index h fs) ≡ length fs
length_by_index h [] = refl
length_by_index h (f ∷ fs) = ap suc (length_by_index (frame_by_index h f) fs)

-- there are as many pictures as frames
pub length_pictures : (h : Stores) (rs : List RenderedFrame) → length (pictures_seen h rs) ≡ length rs
length_pictures h rs = length_by_index h (frames_seen rs) ∙ length-map rs (λ r. frame_seen r.frame)

-- ---- one frame more

-- what a frame leaves by its outcome
record Goes (o : Outcome) (f : FrameData) (mid new : Rendering) : Type 0 where
  pub stores : StoresAfter o mid.stores f new.stores
  pub held : HeldAfter o (picture_text new.stores.back.color) mid.held new.held
  pub tally : TallyAfter o (picture_text new.stores.back.color) mid.tally new.tally
  pub faults : FaultIf o mid.faults new.faults

module _ (old mid new : Rendering) (rs : List RenderedFrame) (r : RenderedFrame) where
  abbrev after : Stores
  after = stores_seen_after old.stores rs

  abbrev last : List ℕ
  last = text_at after (frame_seen r.frame)

  many : length (rs ++ r ∷ []) ≡ length rs + 1
  many = length-append rs (r ∷ [])

  -- all were shown, and this one is
  shown_more : EndsAs outcomes.Shown old rs mid → Goes outcomes.Shown (frame_seen r.frame) mid new → EndsAs outcomes.Shown old (rs ++ r ∷ []) new
  shown_more e g =
      let text : picture_text new.stores.back.color ≡ last = text_is after mid.stores new.stores (frame_seen r.frame) e.0 g.stores in (
        g.stores ∙ ap (λ (h : Stores). frame_by_index h (frame_seen r.frame)) e.0 ∙ stores_more old.stores rs r,
        g.held ∙ (λ i. with_back (e.1 i) (text i)) ∙ with_back-with_back old.held (texts_seen old.stores rs) last ∙ ap (with_back old.held) (texts_more old.stores rs r),
        g.tally ∙ (λ i. counted (e.2 i) (text i)) ∙ counted_more old.tally (texts_seen old.stores rs) (picture_at after (frame_seen r.frame)) ∙ ap (counted_with old.tally) (texts_more old.stores rs r),
      )

  -- all were shown, and this one's picture was not put whole
  fault_more : EndsAs outcomes.Shown old rs mid → Goes outcomes.PictureFault (frame_seen r.frame) mid new → old.faults ≤ mid.faults → EndsAs outcomes.PictureFault old (rs ++ r ∷ []) new
  fault_more e g le =
      let text : picture_text new.stores.back.color ≡ last = text_is after mid.stores new.stores (frame_seen r.frame) e.0 g.stores in
      let front : HasFront mid.held last new.held = subst (λ (t : List ℕ). HasFront mid.held t new.held) text g.held in (
        subst (λ (t : List ℕ). HasFront old.held t new.held) (texts_more old.stores rs r) (front_after old.held mid.held new.held (texts_seen old.stores rs) last e.1 front),
        rose_after old.faults mid.faults new.faults le g.faults,
      )

  -- the pictures of the first frames, with one frame more
  first_pictures : (j : ℕ) → j ≤ length (pictures_seen old.stores rs) → take j (pictures_seen old.stores rs) ≡ take j (pictures_seen old.stores (rs ++ r ∷ []))
  first_pictures j le = sym (take-append-le j (pictures_seen old.stores rs) (picture_at after (frame_seen r.frame) ∷ []) le) ∙ ap (take j) (pictures_more old.stores rs r)

  -- all were shown, and memory was wanting for this one
  memory_more : EndsAs outcomes.Shown old rs mid → Goes outcomes.OutOfMemory (frame_seen r.frame) mid new → EndsAs outcomes.OutOfMemory old (rs ++ r ∷ []) new
  memory_more e g =
      let all : length (pictures_seen old.stores rs) ≡ length rs = length_pictures old.stores rs in (
        length rs,
        omega (arith, many),
        g.held ∙ e.1 ∙ ap (λ ts. with_back old.held (flat_map picture_text ts)) (sym (take_all (length rs) (pictures_seen old.stores rs) (omega (arith, all))) ∙ first_pictures (length rs) (omega (arith, all))),
      )

  -- the picture of an earlier one was not put whole, and this one was skipped
  fault_kept : EndsAs outcomes.PictureFault old rs mid → Goes outcomes.Skipped (frame_seen r.frame) mid new → EndsAs outcomes.PictureFault old (rs ++ r ∷ []) new
  fault_kept e g =
      let front : HasFront old.held (texts_seen old.stores rs ++ last) mid.held = front_longer old.held mid.held (texts_seen old.stores rs) last e.0 in (
        subst (λ (t : List ℕ). HasFront old.held t new.held) (texts_more old.stores rs r) (front.0, g.held ∙ front.1),
        subst (λ (n : ℕ). Rose old.faults n) (sym g.faults) e.1,
      )

  -- memory was wanting for an earlier one, and this one was skipped
  memory_kept : EndsAs outcomes.OutOfMemory old rs mid → Goes outcomes.Skipped (frame_seen r.frame) mid new → EndsAs outcomes.OutOfMemory old (rs ++ r ∷ []) new
  memory_kept e g =
      let all : length (pictures_seen old.stores rs) ≡ length rs = length_pictures old.stores rs in
      (e.0, omega (arith, many, e.1), g.held ∙ e.2 ∙ ap (λ ts. with_back old.held (flat_map picture_text ts)) (first_pictures e.0 (omega (arith, all, e.1))))

  ends_more : (o p : Outcome) → EndsAs o old rs mid → is_skipped p ≡ not (is_shown o) → Goes p (frame_seen r.frame) mid new → old.faults ≤ mid.faults → EndsAs (outcome_then o p) old (rs ++ r ∷ []) new
  ends_more outcomes.Shown outcomes.Shown e is g le = shown_more e g
  ends_more outcomes.Shown outcomes.PictureFault e is g le = fault_more e g le
  ends_more outcomes.Shown outcomes.OutOfMemory e is g le = memory_more e g
  ends_more outcomes.Shown outcomes.Skipped e is g le = cc is
  ends_more outcomes.PictureFault outcomes.Shown e is g le = cc is
  ends_more outcomes.PictureFault outcomes.PictureFault e is g le = cc is
  ends_more outcomes.PictureFault outcomes.OutOfMemory e is g le = cc is
  ends_more outcomes.PictureFault outcomes.Skipped e is g le = fault_kept e g
  ends_more outcomes.OutOfMemory outcomes.Shown e is g le = cc is
  ends_more outcomes.OutOfMemory outcomes.PictureFault e is g le = cc is
  ends_more outcomes.OutOfMemory outcomes.OutOfMemory e is g le = cc is
  ends_more outcomes.OutOfMemory outcomes.Skipped e is g le = memory_kept e g
  ends_more outcomes.Skipped p e is g le = absurd e

-- ---- all frames

-- how frames ended, what they leave, and that the sink's faults are no fewer
record Ended (old : Rendering) (rs : List RenderedFrame) (new : Rendering) : Type 0 where
  pub ends : EndsAs (first_outcome rs) old rs new
  pub ended : has_ended new.outcomes ≡ not (is_shown (first_outcome rs))
  pub faults : old.faults ≤ new.faults

ended_more : (old mid new : Rendering) (rs : List RenderedFrame) (r : RenderedFrame) → Ended old rs mid → IsRendered mid r new → Ended old (rs ++ r ∷ []) new
ended_more old mid new rs r before step =
    let goes : Goes r.outcome (frame_seen r.frame) mid new = record { stores = step.stores; held = step.held; tally = step.tally; faults = step.faults } in
    record {
      ends = subst (λ (o : Outcome). EndsAs o old (rs ++ r ∷ []) new) (first_more rs r)
          (ends_more old mid new rs r (first_outcome rs) r.outcome before.ends (step.skipped ∙ before.ended) goes before.faults);
      ended = step.ended ∙ ap (λ b. b || not (is_shown r.outcome)) before.ended ∙ ended_then (first_outcome rs) r.outcome ∙ ap (λ o. not (is_shown o)) (first_more rs r);
      faults = omega (arith, before.faults, step.no_fewer);
    }

ended_all : {old new : Rendering} {rs : List RenderedFrame} → AreRendered old rs new → has_ended old.outcomes ≡ false → Ended old rs new
ended_all {old} rendered_none none = record { ends = (refl, with_back-nothing old.held, refl); ended = none; faults = omega arith }
ended_all {old} {new} (rendered_more {rs} {mid} r before step) none = ended_more old mid new rs r (ended_all before none) step

pub ended_frames : EndedLaw
ended_frames old new rs are none = let e = ended_all are none in e.ends

kept_all : {old new : Rendering} {rs : List RenderedFrame} → AreRendered old rs new → (old.faults ≤ new.faults) × (new.sure ≡ old.sure)
kept_all rendered_none = (omega arith, refl)
kept_all (rendered_more r before step) = let kept = kept_all before in (omega (arith, kept.0, step.no_fewer), step.sure ∙ kept.1)

pub kept_frames : KeptLaw
kept_frames old new rs are = kept_all are

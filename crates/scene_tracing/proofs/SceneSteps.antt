-- The pictures of the steps of a frame that a link was given are those of the scene.
use Rattle.std.proofs.Common.{◌≡◌, ◌∙◌, ℕ, ◌<◌, ◌≤◌, ◌-◌, Bool, List, ◌++◌, map, take, length, Option, Some, None, inl, inr, sym, ap, subst, arith, length-append, ⊎_elim}
use Rattle.std.proofs.Math.Logic.{∥∥₁_map, ∥∥₁_elim}
use Rattle.std.specs.Coded.{codes, Coded, Coded-set, coded_ℕ, coded_list, coded_option, le_prop}
use Rattle.std.specs.Prelude.{flat_map}
use Rattle.std.proofs.lemmas.Bool.{cases_lt}
use Rattle.std.proofs.lemmas.List.{length-take-le, take_all}
use Rattle.io_edge.specs.Edge.{with_back, Rose}
use Rattle.io_whole.specs.Whole.{HasFront}
use Rattle.io_whole.proofs.Pieces.{with_back-nothing}
use Rattle.scene_model.specs.Scene.{Scene}
use Rattle.scene_model.specs.Journal.{Journal, serial}
use Rattle.scene_model.specs.Output.{picture_text}
use Rattle.spelling_model.specs.Readable.{IsReadable}
use Rattle.scene_laws.specs.Readables.{ColorsLaw}
use Rattle.scene_laws.specs.SceneFrames.{HasColors}
use Rattle.scene_traces.specs.Traced.{SceneTracedLaw, GatheredDoersLaw}
use Rattle.frame_record.specs.declared.frame.Frame.{Frame}
use Rattle.scene_playing.specs.Frames.{AreEnded}
use Rattle.scene_playing.specs.Order.{Follows}
use Rattle.trace_lines.specs.Seen.{doer_seen}
use Rattle.frame_steps.specs.declared.steps.StepFault.TheVariants as faults
use Rattle.scene_tracing.specs.declared.asked.AskedFrame.{AskedFrame}
use Rattle.scene_tracing.specs.declared.stepped.StepsEnd.{StepsEnd}
use Rattle.scene_tracing.specs.Asked.{journal_asked}
use Rattle.scene_tracing.specs.Steps.{scene_doers, scene_steps_text, steps_at}
use Rattle.scene_tracing.specs.Stepping.{Told, HasPutText, IsEnded, IsSteppedIn}
use Rattle.scene_tracing.specs.Tracing.{stores_behind}
use Rattle.scene_tracing.proofs.GivenFrames.{IsFrameOf, of-scene, asked-front}

-- ---- a frame of a scene

-- the pictures of the steps of frame k of a scene by a journal were put, and its deeds have these doers
pub record IsStepped (s : Scene) (j : Journal) (k : ℕ) (old : Told) (end : StepsEnd) (new : Told) : Type 0 where
  pub put : HasPutText (scene_steps_text s j k) old end new
  pub doers : end.fault ≡ None → map doer_seen end.doers.items ≡ scene_doers s j k

stepped-by : (s : Scene) (j : Journal) (a : AskedFrame) (old : Told) (end : StepsEnd) (new : Told) (front : List Frame) (f : Frame) → IsFrameOf s j a.width a.height front f
    → IsSteppedIn (stores_behind a.width a.height front) f old end new → IsStepped s j (length front) old end new
stepped-by s j a old end new front f of is = record {
  put = subst (λ (t : List ℕ). HasPutText t old end new) (ap (flat_map picture_text) of.traced.steps ∙ ap steps_at (sym of.begins)) is.put;
  doers = λ e. is.doers e ∙ of.doers;
}

-- nothing was put
pub put-nothing : (text : List ℕ) (old : Told) (end : StepsEnd) (new : Told) → end.fault ≡ Some faults.OutOfMemory → new ≡ old → HasPutText text old end new
put-nothing text old end new wanting same = record {
  whole = λ e. absurd (cc (sym wanting ∙ e));
  front = (0, ap (λ (t : Told). t.held) same ∙ with_back-nothing old.held);
  fault = λ e. absurd (cc (sym wanting ∙ e));
  sure = ap (λ (t : Told). t.sure) same;
  no_fewer = subst (λ (t : Told). old.faults ≤ t.faults) (sym same) (omega arith);
}

ended-of : SceneTracedLaw → GatheredDoersLaw → (s : Scene) (wanted j : Journal) (given : List Frame) (notes : List (ℕ × ℕ)) (is_whole : Bool) (a : AskedFrame) (old : Told) (end : StepsEnd) (new : Told)
    → HasColors s → AreEnded s given j notes is_whole → j ≡ take (length j) wanted → a.width ≡ s.width → a.height ≡ s.height → IsEnded a given old end new → IsStepped s wanted a.frame old end new
ended-of traced_law doers_law s wanted j given notes is_whole a old end new colors ended front_is wide high (inl h) =
    of-scene traced_law doers_law s wanted j given notes is_whole colors ended front_is a.width a.height wide high (λ st g. IsSteppedIn st g old end new) (λ k. IsStepped s wanted k old end new) a.frame h
    (λ front f of is. stepped-by s wanted a old end new front f of is)
ended-of traced_law doers_law s wanted j given notes is_whole a old end new colors ended front_is wide high (inr (wanting, same)) =
    record { put = put-nothing (scene_steps_text s wanted a.frame) old end new wanting same; doers = λ e. absurd (cc (sym wanting ∙ e)) }

-- what was asked for of a play
pub steps-asked : SceneTracedLaw → GatheredDoersLaw → ColorsLaw → (s : Scene) (o : Option Journal) (j : Journal) (given : List Frame) (notes : List (ℕ × ℕ)) (is_whole : Bool) (a asked : AskedFrame) (first old : Told) (end : StepsEnd) (new : Told)
    → IsReadable s → AreEnded s given j notes is_whole → Follows o j → (o ≡ None → Follows (Some (serial s)) j) → a ≡ asked → asked.width ≡ s.width → asked.height ≡ s.height → first ≡ old
    → ∥ IsEnded a given first end new ∥₁ → ∥ IsStepped s (journal_asked s o) asked.frame old end new ∥₁
steps-asked traced_law doers_law colors_law s o j given notes is_whole a asked first old end new readable ended follows alone is wide high opened h =
    ∥∥₁_map h (λ e.
    ended-of traced_law doers_law s (journal_asked s o) j given notes is_whole asked old end new (colors_law s readable) ended (asked-front s o j follows alone) wide high
    (subst (λ (t : Told). IsEnded asked given t end new) opened (subst (λ (x : AskedFrame). IsEnded x given first end new) is e)))

-- ---- one by one

held_coded : Coded (Option (List ℕ))
held_coded = coded_option (coded_list coded_ℕ)

-- how many bytes more are held
abbrev more_held : Option (List ℕ) → Option (List ℕ) → ℕ
more_held (Some a) (Some b) = length b - length a
more_held _ _ = 0

more_is : (a b : List ℕ) → more_held (Some a) (Some (a ++ b)) ≡ length b
more_is a b = let long = length-append a b in omega (arith, long)

front_same : (n : ℕ) (text : List ℕ) → take n text ≡ take (length (take n text)) text
front_same n text =
    ⊎_elim
    (λ (lt : n < length text). ap (λ m. take m text) (sym (length-take-le n text (omega (arith, lt)))))
    (λ (le : length text ≤ n).
    take_all n text le
    ∙ sym (take_all (length text) text (omega arith))
    ∙ ap (λ (xs : List ℕ). take (length xs) text) (sym (take_all n text le)))
    (cases_lt n (length text))

front_by : (old new : Option (List ℕ)) (text : List ℕ) → HasFront old text new → new ≡ with_back old (take (more_held old new) text)
front_by None new text f = f.1
front_by (Some a) new text f =
    let n = f.0 in
    let P : Option (List ℕ) → Type 0 = λ h. h ≡ Some (a ++ take (more_held (Some a) h) text) in
    subst P (sym f.1) (ap (λ xs. Some (a ++ xs)) (front_same n text ∙ ap (λ m. take m text) (sym (more_is a (take n text)))))

front_of : (old new : Option (List ℕ)) (text : List ℕ) → ∥ HasFront old text new ∥₁ → HasFront old text new
front_of old new text h = (more_held old new, ∥∥₁_elim h (Coded-set held_coded new (with_back old (take (more_held old new) text))) (front_by old new text))

rose_of : (a b : ℕ) → ∥ Rose a b ∥₁ → Rose a b
rose_of a b h =
    ⊎_elim
    (λ (lt : a < b). inl lt)
    (λ (le : b ≤ a). inr (∥∥₁_elim h le_prop (λ r. ⊎_elim (λ (lt : a < b). absurd (omega (arith, lt, le))) (λ (most : 18446744073709551615 ≤ b). most) r)))
    (cases_lt a b)

module _ (s : Scene) (j : Journal) (k : ℕ) (old : Told) (end : StepsEnd) (new : Told) (h : ∥ IsStepped s j k old end new ∥₁) where
  pub whole-put : end.fault ≡ None → new.held ≡ with_back old.held (scene_steps_text s j k)
  whole-put e = ∥∥₁_elim h (Coded-set held_coded new.held (with_back old.held (scene_steps_text s j k))) (λ i. i.put.whole e)

  pub front-put : HasFront old.held (scene_steps_text s j k) new.held
  front-put = front_of old.held new.held (scene_steps_text s j k) (∥∥₁_map h (λ i. i.put.front))

  pub doers-are : end.fault ≡ None → map doer_seen end.doers.items ≡ scene_doers s j k
  doers-are e = ∥∥₁_elim h (hlevel codes) (λ i. i.doers e)

  pub fault-rose : end.fault ≡ Some faults.Fault → Rose old.faults new.faults
  fault-rose e = rose_of old.faults new.faults (∥∥₁_map h (λ i. i.put.fault e))

  pub sure-same : new.sure ≡ old.sure
  sure-same = ∥∥₁_elim h (Coded-set (coded_option coded_ℕ) new.sure old.sure) (λ i. i.put.sure)

  pub none-fewer : old.faults ≤ new.faults
  none-fewer = ∥∥₁_elim h le_prop (λ i. i.put.no_fewer)

  -- all of them
  pub text-put : HasPutText (scene_steps_text s j k) old end new
  text-put = record { whole = whole-put; front = front-put; fault = fault-rose; sure = sure-same; no_fewer = none-fewer }

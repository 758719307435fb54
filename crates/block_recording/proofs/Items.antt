-- How many items a line puts down.
use Rattle.std.proofs.Common.{◌≡◌, ℕ, ◌+◌, ◌≤◌, ◌==◌, Bool, true, false, if◌then◌else◌, List, ◌∷◌, length, map, Option, Some, None, option_map, option_and_then, refl, ap, sym, ◌∙◌, subst, arith, length-append}
use Rattle.std.proofs.lemmas.Bool.{eqb-true, eqb-false}
use Rattle.gfx_model.specs.Words.{Handle}
use Rattle.gfx_model.specs.Resources.{Refusal, Resources, word_of, first_refusal, or_refusal}
use Rattle.gfx_model.specs.Recorder as calls
use Rattle.draw_encoder.specs.Calls.{EncoderView}
use Rattle.scene_model.specs.Scene as lines
use Rattle.scene_model.specs.Scene.{EncoderLine}
use Rattle.scene_model.specs.Fold.{Bindings, Progress, Recording, thing_named, option_named, encoder_call, recording_after, after_encoder_call, blit_call}
use Rattle.block_recording.specs.Lines.{is_item_line, counted, StandFor, IsLineDone}
use Rattle.block_recording.specs.Jobs.{IsStep}
use Rattle.block_recording.proofs.OnTheWay.{on_way}

-- ---- calls

-- the calls that put an item down
abbrev is_item_call : calls.EncoderCall → Bool
is_item_call (calls.submit view h depth flags) = true
is_item_call (calls.touch view) = true
is_item_call (calls.blit b) = true
is_item_call _ = false

abbrev one_where : Bool → ℕ
one_where true = 1
one_where false = 0

items_after : (e : calls.Recorder) (c : calls.EncoderCall) → length (calls.after e c).items ≡ length e.items + one_where (is_item_call c)
items_after e (calls.set_state word) = omega arith
items_after e (calls.set_stencil front back) = omega arith
items_after e (calls.set_scissor rect) = omega arith
items_after e (calls.set_transform model) = omega arith
items_after e (calls.set_vertices h first count) = omega arith
items_after e (calls.set_indices h first count) = omega arith
items_after e (calls.set_transient_vertices h bytes) = omega arith
items_after e (calls.set_transient_indices bytes) = omega arith
items_after e (calls.set_texture stage t) = omega arith
items_after e (calls.set_uniform h v) = omega arith
items_after e (calls.submit v h depth flags) = length-append e.items _
items_after e (calls.touch v) = length-append e.items _
items_after e (calls.blit b) = length-append e.items _

-- ---- a line's call

mapped : {A : Type 0} (f : A → calls.EncoderCall) (b : Bool) (o : Option A) (c : calls.EncoderCall) → ((a : A) → is_item_call (f a) ≡ b) → option_map f o ≡ Some c → is_item_call c ≡ b
mapped f b None c all is = cc
mapped f b (Some a) c all is = let same : f a ≡ c = cc in sym (ap is_item_call same) ∙ all a

mapped_twice : (f : Handle → Handle → calls.EncoderCall) (b : Bool) (o p : Option Handle) (c : calls.EncoderCall) → ((x y : Handle) → is_item_call (f x y) ≡ b) → option_and_then (λ x. option_map (f x) p) o ≡ Some c → is_item_call c ≡ b
mapped_twice f b None p c all is = cc
mapped_twice f b (Some x) p c all is = mapped (f x) b p c (all x) is

call_is : (a c : calls.EncoderCall) → Some a ≡ Some c → is_item_call c ≡ is_item_call a
call_is a c is = let same : a ≡ c = cc in sym (ap is_item_call same)

item_line : (bs : Bindings) (line : EncoderLine) (c : calls.EncoderCall) → encoder_call bs line ≡ Some c → is_item_call c ≡ is_item_line line
item_line bs (lines.state_line word) c is = call_is (calls.set_state word) c is
item_line bs (lines.stencil_line front back) c is = call_is (calls.set_stencil front back) c is
item_line bs (lines.scissor_line rect) c is = call_is (calls.set_scissor rect) c is
item_line bs (lines.transform_line m) c is = call_is (calls.set_transform m) c is
item_line bs (lines.vertices_line n first count) c is = mapped (λ h. calls.set_vertices h first count) false (thing_named bs n) c (λ h. refl) is
item_line bs (lines.indices_line n first count) c is = mapped (λ h. calls.set_indices h first count) false (thing_named bs n) c (λ h. refl) is
item_line bs (lines.transient_vertices_line n bytes) c is = mapped (λ h. calls.set_transient_vertices h bytes) false (thing_named bs n) c (λ h. refl) is
item_line bs (lines.transient_indices_line bytes) c is = call_is (calls.set_transient_indices bytes) c is
item_line bs (lines.bind_line stage n) c is = mapped (calls.set_texture stage) false (option_named bs n) c (λ h. refl) is
item_line bs (lines.set_line n v) c is = mapped (λ h. calls.set_uniform h v) false (thing_named bs n) c (λ h. refl) is
item_line bs (lines.submit_line v n depth flags) c is = mapped (λ h. calls.submit v h depth flags) true (thing_named bs n) c (λ h. refl) is
item_line bs (lines.touch_line v) c is = call_is (calls.touch v) c is
item_line bs (lines.blit_line v d dx dy s sx sy w h) c is = mapped_twice (λ x y. blit_call v dx dy sx sy w h x y) true (thing_named bs d) (thing_named bs s) c (λ x y. refl) is

-- ---- a line

-- a line that is not dropped has a call, which puts as many items down as such calls do; one that is dropped leaves the encoder as it was
record PutsDown (r : Recording) (o : Option calls.EncoderCall) (new : calls.Recorder) (dropped : ℕ) : Type 0 where
  pub accepted : dropped ≡ 0 → (c : calls.EncoderCall) × (o ≡ Some c) × (length new.items ≡ length r.recorder.items + one_where (is_item_call c))
  pub refused : 1 ≤ dropped → new ≡ r.recorder

module _ (r : Recording) (new : calls.Recorder) (dropped : ℕ) where
  not_done : (o : Option calls.EncoderCall) → record r { dropped = r.dropped + 1 } ≡ counted new (r.dropped + dropped) → PutsDown r o new dropped
  not_done o is =
      let more : r.dropped + 1 ≡ r.dropped + dropped = ap (λ (x : Recording). x.dropped) is in
      record { accepted = λ none. absurd (omega (arith, more, none)); refused = λ some. sym (ap (λ (x : Recording). x.recorder) is) }

  by_answer : (c : calls.EncoderCall) (o : Option Refusal) → recording_after r (or_refusal (calls.after r.recorder c) o) ≡ counted new (r.dropped + dropped) → PutsDown r (Some c) new dropped
  by_answer c (Some x) is = not_done (Some c) is
  by_answer c None is =
      let more : r.dropped ≡ r.dropped + dropped = ap (λ (x : Recording). x.dropped) is in
      let same : calls.after r.recorder c ≡ new = ap (λ (x : Recording). x.recorder) is in
      record {
        accepted = λ none. (c, refl, ap (λ (e : calls.Recorder). length e.items) (sym same) ∙ items_after r.recorder c);
        refused = λ some. absurd (omega (arith, more, some));
      }

  by_call : (resources : Resources) (o : Option calls.EncoderCall) → after_encoder_call resources r o ≡ counted new (r.dropped + dropped) → PutsDown r o new dropped
  by_call resources None is = not_done None is
  by_call resources (Some c) is = by_answer c (first_refusal (calls.refusals r.recorder (map (word_of resources) (calls.asked c)) c)) is

module _ (names : List (Option Handle)) (line : EncoderLine) (rest : List EncoderLine) (old new : EncoderView) (dropped more : ℕ) (done : IsLineDone names line old new more) (p : Progress) (stand : StandFor names old.seat p) where
  puts : PutsDown (counted old.recorder dropped) (encoder_call p.bindings line) new.recorder more
  puts = by_call (counted old.recorder dropped) new.recorder more p.resources (encoder_call p.bindings line) (done.after p dropped stand)

  accepted_line : more ≡ 0 → length new.recorder.items ≡ length old.recorder.items + one_where (is_item_line line)
  accepted_line none =
      let (c, is, items) = puts.accepted none in
      items ∙ ap (λ (b : Bool). length old.recorder.items + one_where b) (item_line p.bindings line c is)

  refused_line : 1 ≤ more → length new.recorder.items ≡ length old.recorder.items
  refused_line some = ap (λ (e : calls.Recorder). length e.items) (puts.refused some)

  abbrev pub step : Bool → Type 0
  step found = IsStep (Some found) (on_way old dropped (line ∷ rest) names) (on_way new (dropped + more) rest names)

  by_tests : (item none : Bool) → is_item_line line ≡ item → (more == 0) ≡ none → step (if item then none else false)
  by_tests true true is e = (accepted_line (eqb-true more 0 e) ∙ ap (λ (b : Bool). length old.recorder.items + one_where b) is, omega arith)
  by_tests false true is e =
      let items = accepted_line (eqb-true more 0 e) ∙ ap (λ (b : Bool). length old.recorder.items + one_where b) is in
      (omega (arith, items), omega arith)
  by_tests true false is e = (refused_line (omega (arith, eqb-false more 0 e)), omega arith)
  by_tests false false is e = (refused_line (omega (arith, eqb-false more 0 e)), omega arith)

  pub stepped : (found : Bool) → found ≡ (if is_item_line line then more == 0 else false) → step found
  stepped found is = subst step (sym is) (by_tests (is_item_line line) (more == 0) refl refl)

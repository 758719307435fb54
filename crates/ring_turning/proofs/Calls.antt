-- What accepted calls of an encoder leave.
use Rattle.std.proofs.Common.{◌≡◌, ℕ, ◌+◌, ◌*◌, ◌%◌, List, [], ◌∷◌, ◌++◌, map, Option, Some, None, Result, Ok, Err, OnOk, refl, sym, ap, ◌∙◌, subst}
use Rattle.std.specs.List.{range_with_len}
use Rattle.std.proofs.lemmas.List.{append_assoc}
use Rattle.std.proofs.lemmas.List.FromFn.{map-range_with_len_more}
use Rattle.gfx.specs.Definitions.{UniformValue, Affine, Item, UniformSet, draw_item, stored_vertices, ModelRefusal, first_refusal, or_refusal, Recorder, DrawState, EncoderCall, set_transform, set_uniform, set_vertices, submit, after, refusals}
use Rattle.gfx.specs.Calls.{Refusal, EncoderView, Answers}
use Rattle.ring_turning.specs.declared.things.Things.{Things}
use Rattle.ring_turning.specs.Ring.{turn, color, triangle, triangles, IsPlain, Records, IsPart}

after_by : (e d : Recorder) (c : EncoderCall) (o : Option ModelRefusal) → or_refusal (after e c) o ≡ Ok d → d ≡ after e c
after_by e d c None is = let same : after e c ≡ d = cc is in sym same
after_by e d c (Some r) is = cc is

-- an accepted call leaves what the definition says
accepted : (old new : EncoderView) (c : EncoderCall) → Answers old new c (Ok tt) → new.recorder ≡ after old.recorder c
accepted old new c a = after_by old.recorder new.recorder c (first_refusal (refusals old.recorder a.words c)) a.outcome.0

-- the four calls of a draw
abbrev drawn : Things → Affine → UniformValue → Recorder → Recorder
drawn t m v e = after (after (after (after e (set_transform m)) (set_uniform t.color v)) (set_vertices t.corners 0 3)) (submit 0 t.paint 0 255)

-- the draw that they record
abbrev shape : Things → Affine → UniformValue → DrawState → List UniformSet → Item
shape t m v s p = draw_item (record {
  view = 0;
  program = t.paint;
  depth = 0;
  state = s.state;
  front = s.front;
  back = s.back;
  scissor = s.scissor;
  model = m;
  vertices = stored_vertices t.corners 0 3;
  indices = s.indices;
  textures = s.textures;
  values = p ++ record { uniform = t.color; value = v } ∷ [];
})

drawn_plain : (t : Things) (steps i : ℕ) (m : Affine) (v : UniformValue) (e : Recorder) → m ≡ turn steps → v ≡ color i → IsPlain e → Records (triangle t steps i ∷ []) e (drawn t m v e)
drawn_plain t steps i m v e turned colored plain = record {
  items_are = λ j. e.items ++ shape t (turned j) (colored j) (plain.0 j) (plain.1 j) ∷ [];
  plain = (refl, refl);
}

-- four calls, of which the first three were accepted
pub submitted : (t : Things) (steps i : ℕ) (m : Affine) (v : UniformValue) (e0 e1 e2 e3 e4 : EncoderView) (r : Result (Unit {0}) Refusal) → m ≡ turn steps → v ≡ color i → IsPlain e0.recorder
    → Answers e0 e1 (set_transform m) (Ok tt) → Answers e1 e2 (set_uniform t.color v) (Ok tt) → Answers e2 e3 (set_vertices t.corners 0 3) (Ok tt) → Answers e3 e4 (submit 0 t.paint 0 255) r
    → OnOk r (Records (triangle t steps i ∷ []) e0.recorder e4.recorder)
submitted t steps i m v e0 e1 e2 e3 e4 (Ok u) turned colored plain a b c d =
    let all : e4.recorder ≡ drawn t m v e0.recorder =
    accepted e3 e4 (submit 0 t.paint 0 255) d
    ∙ ap (λ (e : Recorder). after e (submit 0 t.paint 0 255)) (accepted e2 e3 (set_vertices t.corners 0 3) c
    ∙ ap (λ (e : Recorder). after e (set_vertices t.corners 0 3)) (accepted e1 e2 (set_uniform t.color v) b
    ∙ ap (λ (e : Recorder). after e (set_uniform t.color v)) (accepted e0 e1 (set_transform m) a))) in
    subst (λ (e : Recorder). Records (triangle t steps i ∷ []) e0.recorder e) (sym all) (drawn_plain t steps i m v e0.recorder turned colored plain)
submitted t steps i m v e0 e1 e2 e3 e4 (Err x) turned colored plain a b c d = tt

-- one triangle more
pub one_more : (t : Things) (steps first i : ℕ) (a b d : Recorder) → Records (triangles t steps first i) a b → Records (triangle t ((steps + (first + i)) % 16) (first + i) ∷ []) b d
    → Records (triangles t steps first (i + 1)) a d
one_more t steps first i a b d was one =
    let f : ℕ → Item = λ n. triangle t ((steps + n) % 16) n in
    record {
      items_are = one.items_are ∙ ap (λ (xs : List Item). xs ++ f (first + i) ∷ []) was.items_are ∙ append_assoc a.items (map f (range_with_len first i)) (f (first + i) ∷ [])
          ∙ ap (λ (xs : List Item). a.items ++ xs) (sym (map-range_with_len_more f first i (first + i) refl));
      plain = one.plain;
    }

-- half of the ring, on an encoder that had recorded nothing
pub part : (t : Things) (steps first : ℕ) (old new : EncoderView) → Records (triangles t steps first 8) old.recorder new.recorder → old.recorder.items ≡ []
    → steps ≡ old.seat.frame % 16 → first ≡ 8 * old.seat.encoder → (new.seat.encoder ≡ old.seat.encoder) × (new.seat.frame ≡ old.seat.frame) → IsPart new.seat.encoder new.seat.frame new.recorder.items 0
part t steps first old new r none turned half same _ = (
  t,
  r.items_are ∙ ap (λ (xs : List Item). xs ++ triangles t steps first 8) none
      ∙ (λ j. triangles t ((turned ∙ ap (λ n. n % 16) (sym same.1)) j) ((half ∙ ap (λ n. 8 * n) (sym same.0)) j) 8),
)

-- Marks with their keys.
use Rattle.std.proofs.Common.{◌≡◌, ℕ, zero, suc, ◌+◌, ◌<◌, true, false, cond, List, [], ◌∷◌, ◌++◌, map, drop, length, flat_map, slice_index_or, Some, None, sym, ap, subst, ◌∙◌, arith, append_assoc}
use Rattle.std.specs.List.{AllByRecursion}
use Rattle.std.proofs.lemmas.List.{drop_more}
use Rattle.gfx_model.specs.Views.{Views}
use Rattle.gfx_model.specs.World.{Draw, Touch, draw_item, touch_item}
use Rattle.scene_model.specs.Journal.{is_nonempty}
use Rattle.shared_keys.specs.declared.marks.Mark.{Mark}
use Rattle.shared_keys.specs.Marks.{clash_key}
use Rattle.recorded_keys.specs.Recorded.{marks_of_item}

pub key-same : (k m : ℕ) → Some k ≡ Some m → k ≡ m
key-same k m e = cc e

pub none-some : {A : Type 0} (k : ℕ) → None ≡ Some k → A
none-some k e = absurd (cc e)

abbrev drawn : (view key encoder : ℕ) → List Mark
drawn v k e = record { view = v; is_blit = false; key = k; encoder = e } ∷ []

pub draw-marked : (vs : Views) (e k : ℕ) (d : Draw) → Some k ≡ Some (clash_key vs (draw_item d)) → drawn d.view k e ≡ marks_of_item vs e (draw_item d)
draw-marked vs e k d is = ap (λ n. drawn d.view n e) (key-same k (clash_key vs (draw_item d)) is)

pub touch-marked : (vs : Views) (e k : ℕ) (t : Touch) → is_nonempty t.values ≡ true → Some k ≡ Some (clash_key vs (touch_item t)) → drawn t.view k e ≡ marks_of_item vs e (touch_item t)
touch-marked vs e k t some is = ap (λ n. drawn t.view n e) (key-same k (clash_key vs (touch_item t)) is) ∙ (λ i. cond (sym some i) (drawn t.view (clash_key vs (touch_item t)) e) [])

pub touch-plain : (vs : Views) (e : ℕ) (t : Touch) → is_nonempty t.values ≡ false → [] ≡ marks_of_item vs e (touch_item t)
touch-plain vs e t none = λ i. cond (sym none i) (drawn t.view (clash_key vs (touch_item t)) e) []

-- ---- one element more of a list

pub flat-step : {A : Type 0} (f : A → List Mark) (xs : List A) (i : ℕ) (x : A) (marks new total : List Mark) → i < length xs → x ≡ slice_index_or xs i x
    → marks ++ flat_map f (drop i xs) ≡ total → new ≡ marks ++ f x → new ++ flat_map f (drop (i + 1) xs) ≡ total
flat-step {A} f xs i x marks new total lt is before more =
    ap (λ (ms : List Mark). ms ++ flat_map f (drop (i + 1) xs)) more
    ∙ append_assoc marks (f x) (flat_map f (drop (i + 1) xs))
    ∙ ap (λ (y : A). marks ++ (f y ++ flat_map f (drop (i + 1) xs))) is
    ∙ ap (λ (ys : List A). marks ++ flat_map f ys) (sym (drop_more xs i x lt))
    ∙ before

pub item-step : {A B : Type 0} (f : B → List Mark) (g : A → B) (xs : List A) (i : ℕ) (x : A) (marks new total : List Mark) → i < length xs → x ≡ slice_index_or xs i x
    → marks ++ flat_map f (map g (drop i xs)) ≡ total → new ≡ marks ++ f (g x) → new ++ flat_map f (map g (drop (i + 1) xs)) ≡ total
item-step {A} f g xs i x marks new total lt is before more =
    ap (λ (ms : List Mark). ms ++ flat_map f (map g (drop (i + 1) xs))) more
    ∙ append_assoc marks (f (g x)) (flat_map f (map g (drop (i + 1) xs)))
    ∙ ap (λ (y : A). marks ++ (f (g y) ++ flat_map f (map g (drop (i + 1) xs)))) is
    ∙ ap (λ (ys : List A). marks ++ flat_map f (map g ys)) (sym (drop_more xs i x lt))
    ∙ before

pub at-index : {A B : Type 0} (P : B → Type 0) (f : A → B) (xs : List A) (i : ℕ) (x : A) → i < length xs → x ≡ slice_index_or xs i x → AllByRecursion P (map f xs) → P (f x)
at-index P f [] i x lt e a = absurd (omega (arith, lt))
at-index {A} {B} P f (y ∷ ys) zero x lt e a = subst (λ (z : A). P (f z)) (sym e) a.0
at-index P f (y ∷ ys) (suc i) x lt e a = at-index P f ys i x (omega (arith, lt)) e a.1

pub one-of : {A : Type 0} (P : A → Type 0) (xs : List A) (i : ℕ) (x : A) → i < length xs → x ≡ slice_index_or xs i x → AllByRecursion P xs → P x
one-of P [] i x lt e a = absurd (omega (arith, lt))
one-of {A} P (y ∷ ys) zero x lt e a = subst P (sym e) a.0
one-of P (y ∷ ys) (suc i) x lt e a = one-of P ys i x (omega (arith, lt)) e a.1

-- Lists of the columns of rows, put in one after the other.
use Rattle.std.proofs.Common.{◌≡◌, ℕ, ◌+◌, ◌<◌, ◌≤◌, Bool, true, false, ◌&&◌, nat_le, nat_lt, List, length, slice_index_or, slice_set, refl, ap, sym, subst, ◌∙◌, arith, ⊎_elim}
use Rattle.std.proofs.lemmas.List.{get_or-set_same, get_or-set_other}
use Rattle.std.proofs.lemmas.Bool.{cases_order, cases_lt, lt-ltb, le-ltb, and_right}
use Rattle.gfx_model.specs.Vertex.{Triangle}
use Rattle.gfx_model.specs.Raster.{ScreenVertex, covers}
use Rattle.tri_cover.specs.Bounded.{is_let, IsCut, IsSpan, HoldsCuts, HoldsSpans}
use Rattle.tri_cover.specs.declared.bounds.Bounds.{Bounds}

-- one entry more
pub entries_more : (P : ℕ → ℕ × ℕ → Type 0) (spans : List (ℕ × ℕ)) (n : ℕ) (s : ℕ × ℕ) → ((k : ℕ) → k < n → P k (slice_index_or spans k (0, 0))) → n < length spans → P n s →
    (k : ℕ) → k < n + 1 → P k (slice_index_or (slice_set spans n s) k (0, 0))
entries_more P spans n s h b p k hi = ⊎_elim here (λ d. ⊎_elim before behind d) (cases_order k n)
  where
    here : k ≡ n → P k (slice_index_or (slice_set spans n s) k (0, 0))
    here e = subst (λ m. P m (slice_index_or (slice_set spans n s) m (0, 0))) (sym e) (subst (λ v. P n v) (sym (get_or-set_same spans n s (0, 0) b)) p)

    before : k < n → P k (slice_index_or (slice_set spans n s) k (0, 0))
    before l = subst (λ v. P k v) (sym (get_or-set_other spans n k s (0, 0) (omega (arith, l)))) (h k l)

    behind : n < k → P k (slice_index_or (slice_set spans n s) k (0, 0))
    behind l = absurd (omega (arith, l, hi))

no_column : (first after x : ℕ) (c d : Bool) → after ≤ x → ((nat_le first x && nat_lt x after) && c) ≡ ((nat_le first x && nat_lt x after) && d)
no_column first after x c d h =
    let none : (nat_le first x && nat_lt x after) ≡ false = and_right (nat_le first x) (nat_lt x after) (le-ltb x after h) in
    (λ i. none i && c) ∙ sym (λ i. none i && d)

-- what bounds let pass is what a triangle covers
cut_span : (s : ℕ × ℕ) (b : Bounds) (t : Triangle ScreenVertex) (first after y k : ℕ) → after < 65536 → ((x : ℕ) → x < 65536 → is_let b k x ≡ covers t x y) → IsCut s b first after k → IsSpan s t first after y
cut_span s b t first after y k small h c = record {
  order = c.order;
  within = c.within;
  columns = λ x. c.columns x ∙ ⊎_elim (λ l. ap (λ v. (nat_le first x && nat_lt x after) && v) (h x (omega (arith, l, small)))) (λ l. no_column first after x (is_let b k x) (covers t x y) l) (cases_lt x after);
}

pub cuts_spans : (spans : List (ℕ × ℕ)) (b : Bounds) (t : Triangle ScreenVertex) (first after y count : ℕ) → after < 65536 → ((k x : ℕ) → k < count → x < 65536 → is_let b k x ≡ covers t x (y + k)) → HoldsCuts spans b first after count →
    HoldsSpans spans t first after y count
cuts_spans spans b t first after y count small h c k l = cut_span (slice_index_or spans k (0, 0)) b t first after (y + k) k small (λ x. h k x l) (c k l)

-- the columns of a row from a column on
pub span_from : (whole s : ℕ × ℕ) (t : Triangle ScreenVertex) (first after y : ℕ) → whole.1 ≤ after → ((x : ℕ) → x < after → covers t x y ≡ (nat_le whole.0 x && nat_lt x whole.1)) → s.0 ≤ s.1 → s.1 ≤ whole.1 →
    ((x : ℕ) → (nat_le s.0 x && nat_lt x s.1) ≡ (nat_le first x && (nat_le whole.0 x && nat_lt x whole.1))) → IsSpan s t first after y
span_from whole s t first after y hw h order within e = record {
  order = order;
  within = omega (arith, within, hw);
  columns = λ x. e x ∙ ⊎_elim (here x) (beyond x) (cases_lt x after);
}
  where
    keep : (a c : Bool) → (a && c) ≡ ((a && true) && c)
    keep true c = refl
    keep false c = refl

    empty : (a b c : Bool) → (a && (b && false)) ≡ ((a && false) && c)
    empty true true c = refl
    empty true false c = refl
    empty false b c = refl

    here : (x : ℕ) → x < after → (nat_le first x && (nat_le whole.0 x && nat_lt x whole.1)) ≡ ((nat_le first x && nat_lt x after) && covers t x y)
    here x l =
        let inside : nat_lt x after ≡ true = lt-ltb x after l in
        (λ i. nat_le first x && sym (h x l) i) ∙ keep (nat_le first x) (covers t x y) ∙ sym (λ i. (nat_le first x && inside i) && covers t x y)

    beyond : (x : ℕ) → after ≤ x → (nat_le first x && (nat_le whole.0 x && nat_lt x whole.1)) ≡ ((nat_le first x && nat_lt x after) && covers t x y)
    beyond x l =
        let none : nat_lt x whole.1 ≡ false = le-ltb x whole.1 (omega (arith, l, hw)) in
        let out : nat_lt x after ≡ false = le-ltb x after l in
        (λ i. nat_le first x && (nat_le whole.0 x && none i)) ∙ empty (nat_le first x) (nat_le whole.0 x) (covers t x y) ∙ sym (λ i. (nat_le first x && out i) && covers t x y)

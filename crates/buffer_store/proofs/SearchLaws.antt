-- The search for the newest uniform of a name and a kind: one slot more, and slots that are empty from an end on.
use Rattle.std.proofs.Common.{◌≡◌, ℕ, zero, suc, ◌+◌, ◌<◌, ◌≤◌, ◌⊎◌, inl, inr, Bool, true, false, List, length, set, take, replicate, Option, Some, None, refl, sym, ap, subst, ◌∙◌, arith, length-take-le}
use Rattle.std.specs.Prelude.{◌&&◌, nat_le, MatchOption, option_map}
use Rattle.std.proofs.lemmas.Bool.{cases_lt, leb-true}
use Rattle.std.proofs.lemmas.List.{get_or-take, get_or_past, length-set}
use Rattle.std.proofs.lemmas.Option.{none-some, same_Some, unwrap_or-slice_get}
use Rattle.gfx_model.specs.Words.{UniformKind, uniform_kind, greatest}
use Rattle.store_model.specs.Slots.{at, no_slots, filled_at, emptied_at, changed_at}
use Rattle.store_model.specs.Buffers.{UniformSlot, is_named, IsNewest, HasNoneNamed}
use Rattle.store_model.proofs.AttachLaws.{at_set}
use Rattle.buffer_store.specs.Search.{is_as_new, takes_over, found_at, IsFound, IsEmptyFrom, HasEnd}

-- what stands among the first slots
at_taken : (slots : List (Option UniformSlot)) (n j : ℕ) → j < n → at (take n slots) j ≡ at slots j
at_taken slots n j lt = unwrap_or-slice_get (take n slots) j None ∙ get_or-take n slots j None lt ∙ sym (unwrap_or-slice_get slots j None)

at_none : (slots : List (Option UniformSlot)) (n j : ℕ) (s : UniformSlot) → n ≤ length slots → at (take n slots) j ≡ Some s → j < n
at_none slots n j s le e = by_place (cases_lt j n)
  where
    by_place : (j < n) ⊎ (n ≤ j) → j < n
    by_place (inl lt) = lt
    by_place (inr past) = absurd (none-some s (sym (get_or_past (take n slots) j None (omega (arith, past, length-take-le n slots le))) ∙ sym (unwrap_or-slice_get (take n slots) j None) ∙ e))

-- a slot among one more is the last one, or one of those before
one_more : (slots : List (Option UniformSlot)) (n j : ℕ) (s : UniformSlot) → n < length slots → at (take (n + 1) slots) j ≡ Some s → ((j ≡ n) × (at slots n ≡ Some s)) ⊎ (at (take n slots) j ≡ Some s)
one_more slots n j s lt e = by_place (cases_lt j n)
  where
    below : j < n + 1
    below = at_none slots (n + 1) j s (omega (arith, lt)) e

    there : at slots j ≡ Some s
    there = sym (at_taken slots (n + 1) j below) ∙ e

    by_place : (j < n) ⊎ (n ≤ j) → ((j ≡ n) × (at slots n ≡ Some s)) ⊎ (at (take n slots) j ≡ Some s)
    by_place (inl less) = inr (at_taken slots n j less ∙ there)
    by_place (inr past) = let same : j ≡ n = omega (arith, past, below) in inl (same, ap (at slots) (sym same) ∙ there)

same_slot_of : (o : Option UniformSlot) (s t : UniformSlot) → o ≡ Some s → o ≡ Some t → s ≡ t
same_slot_of o s t a b = same_Some s t (sym a ∙ b)

-- the last slot does not take over
pub found_kept : (name : List ℕ) (kind : UniformKind) (slots : List (Option UniformSlot)) (n : ℕ) (found : Option ℕ) → n < length slots → takes_over name kind (found_at slots found) (at slots n) ≡ false
    → IsFound name kind slots n found → IsFound name kind slots (n + 1) found
found_kept name kind slots n None lt stays none = λ j s e. by_place j s (one_more slots n j s lt e)
  where
    unnamed : (s : UniformSlot) → at slots n ≡ Some s → is_named name kind s ≡ false
    unnamed s is = by_name (is_named name kind s) (sym (ap (takes_over name kind None) is) ∙ stays)
      where
        by_name : (b : Bool) → (b && true) ≡ false → b ≡ false
        by_name true e = e
        by_name false e = refl

    by_place : (j : ℕ) (s : UniformSlot) → ((j ≡ n) × (at slots n ≡ Some s)) ⊎ (at (take n slots) j ≡ Some s) → is_named name kind s ≡ false
    by_place j s (inl last) = unnamed s last.1
    by_place j s (inr before) = none j s before
found_kept name kind slots n (Some i) lt stays best = record {
  uniform = best.uniform;
  there = at_taken slots (n + 1) i (omega (arith, below)) ∙ here;
  named = best.named;
  most = λ j s e m. by_most j s m (one_more slots n j s lt e);
  last = λ j s e m same. by_last j s m same (one_more slots n j s lt e);
}
  where
    below : i < n
    below = at_none slots n i best.uniform (omega (arith, lt)) best.there

    here : at slots i ≡ Some best.uniform
    here = sym (at_taken slots n i below) ∙ best.there

    older : (s : UniformSlot) → at slots n ≡ Some s → is_named name kind s ≡ true → s.serial < best.uniform.serial
    older s is m = by_serial (nat_le best.uniform.serial s.serial) refl (
        sym (ap (λ o. takes_over name kind o (Some s)) here) ∙ sym (ap (takes_over name kind (found_at slots (Some i))) is) ∙ stays
        )
      where
        by_serial : (b : Bool) → nat_le best.uniform.serial s.serial ≡ b → (is_named name kind s && nat_le best.uniform.serial s.serial) ≡ false → s.serial < best.uniform.serial
        by_serial true e f = let bad : true ≡ false = sym (ap (λ x. x && true) m) ∙ sym (ap (λ x. is_named name kind s && x) e) ∙ f in cc bad
        by_serial false e f = grind (arith, e)

    by_most : (j : ℕ) (s : UniformSlot) → is_named name kind s ≡ true → ((j ≡ n) × (at slots n ≡ Some s)) ⊎ (at (take n slots) j ≡ Some s) → s.serial ≤ best.uniform.serial
    by_most j s m (inl x) = omega (arith, older s x.1 m)
    by_most j s m (inr x) = best.most j s x m

    by_last : (j : ℕ) (s : UniformSlot) → is_named name kind s ≡ true → s.serial ≡ best.uniform.serial → ((j ≡ n) × (at slots n ≡ Some s)) ⊎ (at (take n slots) j ≡ Some s) → j ≤ i
    by_last j s m same (inl x) = absurd (omega (arith, older s x.1 m, same))
    by_last j s m same (inr x) = best.last j s x m same

-- the last slot takes over
pub found_next : (name : List ℕ) (kind : UniformKind) (slots : List (Option UniformSlot)) (n : ℕ) (found : Option ℕ) → n < length slots → takes_over name kind (found_at slots found) (at slots n) ≡ true
    → IsFound name kind slots n found → IsFound name kind slots (n + 1) (Some n)
found_next name kind slots n found lt takes before = by_slot (at slots n) refl
  where
    by_slot : (o : Option UniformSlot) → at slots n ≡ o → IsFound name kind slots (n + 1) (Some n)
    by_slot None e = let bad : false ≡ true = sym (ap (takes_over name kind (found_at slots found)) e) ∙ takes in cc bad
    by_slot (Some u) e = record {
      uniform = u;
      there = at_taken slots (n + 1) n (omega arith) ∙ e;
      named = both.0;
      most = λ j s f m. by_most found before both.1 j s m (one_more slots n j s lt f);
      last = λ j s f m same. omega (arith, at_none slots (n + 1) j s (omega (arith, lt)) f);
    }
      where
        split : (a b : Bool) → (a && b) ≡ true → (a ≡ true) × (b ≡ true)
        split true b k = (refl, k)
        split false b k = cc

        both : (is_named name kind u ≡ true) × (is_as_new (found_at slots found) u ≡ true)
        both = split (is_named name kind u) (is_as_new (found_at slots found) u) (sym (ap (takes_over name kind (found_at slots found)) e) ∙ takes)

        by_most : (o : Option ℕ) → IsFound name kind slots n o → is_as_new (found_at slots o) u ≡ true → (j : ℕ) (s : UniformSlot) → is_named name kind s ≡ true → ((j ≡ n) × (at slots n ≡ Some s)) ⊎ (at (take n slots) j ≡ Some s) → s.serial ≤ u.serial
        by_most o f new j s m (inl x) = let same : s ≡ u = same_slot_of (at slots n) s u x.1 e in subst (λ (y : UniformSlot). s.serial ≤ y.serial) same (omega arith)
        by_most None f new j s m (inr x) = let bad : false ≡ true = sym (f j s x) ∙ m in cc bad
        by_most (Some i) f new j s m (inr x) =
            let below : i < n = at_none slots n i f.uniform (omega (arith, lt)) f.there in
            let here : at slots i ≡ Some f.uniform = sym (at_taken slots n i below) ∙ f.there in
            let newer : f.uniform.serial ≤ u.serial = leb-true f.uniform.serial u.serial (sym (ap (λ o. is_as_new o u) here) ∙ new) in
            let le : s.serial ≤ f.uniform.serial = f.most j s x m in
            omega (arith, newer, le)

-- ---- slots that are empty from an end on

still_there : (slots : List (Option UniformSlot)) (n : ℕ) → IsEmptyFrom n slots → (j : ℕ) (s : UniformSlot) → at slots j ≡ Some s → at (take n slots) j ≡ Some s
still_there slots n empty j s e = by_place (cases_lt j n)
  where
    by_place : (j < n) ⊎ (n ≤ j) → at (take n slots) j ≡ Some s
    by_place (inl lt) = at_taken slots n j lt ∙ e
    by_place (inr past) = absurd (none-some s (sym (empty j past) ∙ e))

-- what is found among the first slots is found among all, where the others are empty
pub found_all : (name : List ℕ) (kind : UniformKind) (slots : List (Option UniformSlot)) (n : ℕ) (found : Option ℕ) → n ≤ length slots → IsEmptyFrom n slots → IsFound name kind slots n found
    → MatchOption found (HasNoneNamed name kind slots) (λ i. IsNewest name kind slots i)
found_all name kind slots n None le empty none = λ j s e. none j s (still_there slots n empty j s e)
found_all name kind slots n (Some i) le empty best = record {
  uniform = best.uniform;
  there = sym (at_taken slots n i (at_none slots n i best.uniform le best.there)) ∙ best.there;
  named = best.named;
  most = λ j s e m. best.most j s (still_there slots n empty j s e) m;
  last = λ j s e m same. best.last j s (still_there slots n empty j s e) m same;
}

none_at : (n i : ℕ) → at {X = UniformSlot} (replicate n None) i ≡ None
none_at zero i = refl
none_at (suc n) zero = refl
none_at (suc n) (suc i) = none_at n i

pub new_empty : (slots : List (Option UniformSlot)) (n : ℕ) → slots ≡ no_slots n → IsEmptyFrom 0 slots
unfolding no_slots
new_empty slots n is j past = ap (λ xs. at xs j) is ∙ none_at n j

pub filled_end : (end after i : ℕ) (u : UniformSlot) (slots : List (Option UniformSlot)) → i < after → end ≤ after → after ≤ greatest uniform_kind → HasEnd end slots → HasEnd after (filled_at i u slots)
filled_end end after i u slots here more most h = record {
  many = length-set slots i (Some u) ∙ h.many;
  within = most;
  empty = λ j past. by_place j past (at_set slots i j (Some u));
}
  where
    by_place : (j : ℕ) → after ≤ j → ((j ≡ i) × (at (set slots i (Some u)) j ≡ Some u)) ⊎ (at (set slots i (Some u)) j ≡ at slots j) → at (set slots i (Some u)) j ≡ None
    by_place j past (inl same) = absurd (omega (arith, same.0, here, past))
    by_place j past (inr kept) = kept ∙ h.empty j (omega (arith, more, past))

pub emptied_end : (end i : ℕ) (slots : List (Option UniformSlot)) → HasEnd end slots → HasEnd end (emptied_at i slots)
emptied_end end i slots h = record {
  many = length-set slots i None ∙ h.many;
  within = h.within;
  empty = λ j past. by_place j past (at_set slots i j None);
}
  where
    by_place : (j : ℕ) → end ≤ j → ((j ≡ i) × (at (set slots i None) j ≡ None)) ⊎ (at (set slots i None) j ≡ at slots j) → at (set slots i None) j ≡ None
    by_place j past (inl same) = same.1
    by_place j past (inr kept) = kept ∙ h.empty j past

pub changed_end : (change : UniformSlot → UniformSlot) (end i : ℕ) (slots : List (Option UniformSlot)) → HasEnd end slots → HasEnd end (changed_at change i slots)
changed_end change end i slots h = record {
  many = length-set slots i (option_map change (at slots i)) ∙ h.many;
  within = h.within;
  empty = λ j past. by_place j past (at_set slots i j (option_map change (at slots i)));
}
  where
    by_place : (j : ℕ) → end ≤ j → ((j ≡ i) × (at (changed_at change i slots) j ≡ option_map change (at slots i))) ⊎ (at (changed_at change i slots) j ≡ at slots j) → at (changed_at change i slots) j ≡ None
    by_place j past (inl same) = same.1 ∙ ap (option_map change) (ap (at slots) (sym same.0) ∙ h.empty j past)
    by_place j past (inr kept) = kept ∙ h.empty j past

-- The uniform of a name and a kind with the greatest serial, as a search over the slots finds it.
use Rattle.std.proofs.Common.{◌≡◌, ℕ, zero, suc, ◌<◌, ◌≤◌, Bool, true, false, cond, List, [], ◌∷◌, Option, Some, None, refl, sym, ap, subst, ◌∙◌, arith}
use Rattle.std.specs.Prelude.{fold, nat_le, IfSome}
use Rattle.std.proofs.lemmas.Bool.{le-leb, leb-true}
use Rattle.std.proofs.lemmas.Option.{none-some, same_Some}
use Rattle.gfx_model.specs.Words.{UniformKind}
use Rattle.store_model.specs.Slots.{at}
use Rattle.store_model.specs.Buffers.{UniformSlot, is_named, newer, better, newest_slot, IsNewest, HasNoneNamed}

-- slots without that name and kind change nothing
unnamed_kept : (name : List ℕ) (kind : UniformKind) (best : Option UniformSlot) (slots : List (Option UniformSlot)) → HasNoneNamed name kind slots → fold (better name kind) best slots ≡ best
unnamed_kept name kind best [] none = refl
unnamed_kept name kind best (None ∷ slots) none = unnamed_kept name kind best slots (λ j s e. none (suc j) s e)
unnamed_kept name kind best (Some s ∷ slots) none =
    ap (λ b. fold (better name kind) (cond b (newer best s) best) slots) (none 0 s refl) ∙ unnamed_kept name kind best slots (λ j t e. none (suc j) t e)

-- the newer of two is the later one where its serial is not less
later_wins : (best : Option UniformSlot) (s : UniformSlot) → IfSome best (λ b. b.serial ≤ s.serial) → newer best s ≡ Some s
later_wins None s le = refl
later_wins (Some b) s le = ap (λ t. cond t (Some s) (Some b)) (le-leb b.serial s.serial le)

-- uniforms with lesser serials change nothing
older_kept : (name : List ℕ) (kind : UniformKind) (u : UniformSlot) (slots : List (Option UniformSlot)) → ((j : ℕ) (s : UniformSlot) → at slots j ≡ Some s → is_named name kind s ≡ true → s.serial < u.serial)
    → fold (better name kind) (Some u) slots ≡ Some u
older_kept name kind u [] less = refl
older_kept name kind u (None ∷ slots) less = older_kept name kind u slots (λ j s e n. less (suc j) s e n)
older_kept name kind u (Some s ∷ slots) less = ap (λ best. fold (better name kind) best slots) (by_name (is_named name kind s) refl) ∙ older_kept name kind u slots (λ j t e n. less (suc j) t e n)
  where
    by_name : (b : Bool) → is_named name kind s ≡ b → cond b (newer (Some u) s) (Some u) ≡ Some u
    by_name true n = by_serial (nat_le u.serial s.serial) refl (less 0 s refl n)
      where
        by_serial : (b : Bool) → nat_le u.serial s.serial ≡ b → s.serial < u.serial → cond b (Some s) (Some u) ≡ Some u
        by_serial true e lt = let le : u.serial ≤ s.serial = leb-true u.serial s.serial e in absurd (omega (arith, le, lt))
        by_serial false e lt = refl
    by_name false n = refl

-- a search over slots of which one has the greatest serial, begun with nothing newer, finds that one
newest_from : (name : List ℕ) (kind : UniformKind) (best : Option UniformSlot) (u : UniformSlot) (slots : List (Option UniformSlot)) (i : ℕ)
    → IfSome best (λ b. b.serial ≤ u.serial) → at slots i ≡ Some u → is_named name kind u ≡ true
    → ((j : ℕ) (s : UniformSlot) → at slots j ≡ Some s → is_named name kind s ≡ true → s.serial ≤ u.serial)
    → ((j : ℕ) (s : UniformSlot) → at slots j ≡ Some s → is_named name kind s ≡ true → s.serial ≡ u.serial → j ≤ i)
    → fold (better name kind) best slots ≡ Some u
newest_from name kind best u [] i old there named most last = absurd (none-some u there)
newest_from name kind best u (None ∷ slots) zero old there named most last = absurd (none-some u there)
newest_from name kind best u (Some s ∷ slots) zero old there named most last =
    let same : s ≡ u = same_Some s u there in
    let is : is_named name kind s ≡ true = ap (is_named name kind) same ∙ named in
    let wins : newer best s ≡ Some u = later_wins best s (subst (λ (v : UniformSlot). IfSome best (λ b. b.serial ≤ v.serial)) (sym same) old) ∙ ap Some same in
    ap (λ b. fold (better name kind) (cond b (newer best s) best) slots) is
    ∙ ap (λ b. fold (better name kind) b slots) wins
    ∙ older_kept name kind u slots (λ j t e n. by_last j t e n)
  where
    by_last : (j : ℕ) (t : UniformSlot) → at slots j ≡ Some t → is_named name kind t ≡ true → t.serial < u.serial
    by_last j t e n =
        let le : t.serial ≤ u.serial = most (suc j) t e n in
        let apart : t.serial ≡ u.serial → ⊥ = (λ same. let no : suc j ≤ 0 = last (suc j) t e n same in omega (arith, no)) in
        omega (arith, le, apart)
newest_from name kind best u (None ∷ slots) (suc i) old there named most last =
    newest_from name kind best u slots i old there named (λ j s e n. most (suc j) s e n) (λ j s e n same. less_one j i (last (suc j) s e n same))
  where
    less_one : (j k : ℕ) → suc j ≤ suc k → j ≤ k
    less_one j k le = omega (arith, le)
newest_from name kind best u (Some s ∷ slots) (suc i) old there named most last =
    newest_from name kind (better name kind best (Some s)) u slots i (by_name (is_named name kind s) refl best old) there named (λ j t e n. most (suc j) t e n) (λ j t e n same. less_one j i (last (suc j) t e n same))
  where
    less_one : (j k : ℕ) → suc j ≤ suc k → j ≤ k
    less_one j k le = omega (arith, le)

    by_name : (b : Bool) → is_named name kind s ≡ b → (o : Option UniformSlot) → IfSome o (λ x. x.serial ≤ u.serial) → IfSome (cond b (newer o s) o) (λ x. x.serial ≤ u.serial)
    by_name false n o le = le
    by_name true n None le = most 0 s refl n
    by_name true n (Some x) le = by_serial (nat_le x.serial s.serial) (most 0 s refl n) le
      where
        by_serial : (b : Bool) → s.serial ≤ u.serial → x.serial ≤ u.serial → IfSome (cond b (Some s) (Some x)) (λ y. y.serial ≤ u.serial)
        by_serial true a c = a
        by_serial false a c = c

-- where a slot has the newest of a name and a kind, a search finds it
pub newest_found : (name : List ℕ) (kind : UniformKind) (slots : List (Option UniformSlot)) (i : ℕ) → IsNewest name kind slots i → newest_slot name kind slots ≡ at slots i
newest_found name kind slots i n = newest_from name kind None n.uniform slots i tt n.there n.named n.most n.last ∙ sym n.there

-- where no slot has the name and the kind, it finds none
pub newest_none : (name : List ℕ) (kind : UniformKind) (slots : List (Option UniformSlot)) → HasNoneNamed name kind slots → newest_slot name kind slots ≡ None
newest_none name kind slots none = unnamed_kept name kind None slots none

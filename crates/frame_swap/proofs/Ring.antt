-- What a change of one word makes of the ring.
use Rattle.std.proofs.Common.{◌≡◌, ◌≢◌, ℕ, zero, suc, ◌+◌, ◌%◌, ◌<◌, ◌≤◌, Bool, true, List, [], ◌∷◌, ◌++◌, map, length, set, sym, refl, ap, ◌∙◌, subst, arith, mod-lt, mod-eq_of_lt, lt_of_not-le, length-append, length-set}
use Rattle.std.proofs.Math.Nat.{add-mod_right}
use Rattle.std.proofs.lemmas.List.{append_assoc, length-map, map-append}
use mathlib.Core.Option.{none, some, some-injective, some-ne-none}
use mathlib.Core.Option as maybe
use mathlib.Core.Logic.{dite}
use native.Mathlib.Decide.{dec_le, ℕ_discrete}
use lib.ListN.{get_elem?}
use Rattle.atomic_table.proofs.Lists.{set_here, set_else, one_turn}
use Rattle.frame_record.specs.declared.frame.Frame.{Frame}
use Rattle.frame_record.specs.declared.frame.RenderedFrame.{RenderedFrame}
use Rattle.frame_swap.specs.Rule.{Phase, unclaimed, idle, given_at, taken_at, returned_at, stopped_at, history, IsFree, Fits, Ring}

-- ---- lists

module _ {A : Type 0} where
  pub at_past : (l : List A) (i : ℕ) → length l ≤ i → get_elem? l i ≡ none
  at_past [] i h = refl
  at_past (x ∷ xs) zero h = absurd (omega arith)
  at_past (x ∷ xs) (suc i) h = at_past xs i (omega arith)

  pub at_next : (xs : List A) (y : A) (ys : List A) → get_elem? (xs ++ y ∷ ys) (length xs) ≡ some y
  at_next [] y ys = refl
  at_next (x ∷ xs) y ys = at_next xs y ys

  pub at_other : (xs : List A) (y z : A) (ys : List A) (p : ℕ) → p ≢ length xs → get_elem? (xs ++ y ∷ ys) p ≡ get_elem? (xs ++ z ∷ ys) p
  at_other [] y z ys zero ne = absurd (ne refl)
  at_other [] y z ys (suc p) ne = refl
  at_other (x ∷ xs) y z ys zero ne = refl
  at_other (x ∷ xs) y z ys (suc p) ne = at_other xs y z ys p (λ e. ne (ap suc e))

  pub at_more : (xs : List A) (y : A) (p : ℕ) → p ≢ length xs → get_elem? (xs ++ y ∷ []) p ≡ get_elem? xs p
  at_more [] y zero ne = absurd (ne refl)
  at_more [] y (suc p) ne = refl
  at_more (x ∷ xs) y zero ne = refl
  at_more (x ∷ xs) y (suc p) ne = at_more xs y p (λ e. ne (ap suc e))

  pub nil_of : (l : List A) → length l ≡ 0 → l ≡ []
  nil_of [] e = refl
  nil_of (x ∷ xs) e = absurd (omega arith)

-- ---- positions

-- two positions of one window have different words
pub apart : (b n p q : ℕ) → b ≤ p → p < b + n → b ≤ q → q < b + n → p ≢ q → p % n ≢ q % n
apart b n p q p_lo p_hi q_lo q_hi ne e = by_order (dec_le p q)
  where
    by_order : Dec (p ≤ q) → ⊥
    by_order (yes le) = ne (one_turn p q n le (omega arith) e)
    by_order (no gt) = let lt = lt_of_not-le gt in ne (sym (one_turn q p n (omega arith) (omega arith) (sym e)))

-- ---- the ring

-- the word of the position `at` changes
pub ring_set : {n b c : ℕ} {s : Bool} {past phases : List Phase} → Ring n b c s past phases → (b' c' : ℕ) (s' : Bool) (past' : List Phase) (at : ℕ) (next : Phase)
    → b' ≤ at → at < b' + n → length past' ≤ b' + n → c' ≤ n
    → ((p : ℕ) → p ≢ at → p % n ≢ at % n → b' ≤ p → p < b' + n → (b ≤ p) × (p < b + n) × ((q : Phase) → Fits c s (p % n) (get_elem? past p) q → Fits c' s' (p % n) (get_elem? past' p) q))
    → Fits c' s' (at % n) (get_elem? past' at) next
    → Ring n b' c' s' past' (set phases (at % n) next)
ring_set {n} {b} {c} {s} {past} {phases} r b' c' s' past' at next lo hi few most others new = record {
  some_word = r.some_word;
  long = length-set phases (at % n) next ∙ r.long;
  few = few;
  claimed_most = most;
  fits = λ p p_lo p_hi. dite (ℕ_discrete p at)
      (λ e. (next, subst (λ (x : ℕ). get_elem? (set phases (at % n) next) (x % n) ≡ some next) (sym e) (set_here phases (at % n) next (subst (λ (x : ℕ). at % n < x) (sym r.long) (mod-lt at r.some_word))), subst (λ (x : ℕ). Fits c' s' (x % n) (get_elem? past' x) next) (sym e) new))
      (λ ne. let far = apart b' n p at p_lo p_hi lo hi ne in let o = others p ne far p_lo p_hi in let f = r.fits p o.0 o.1 in (f.0, set_else phases (at % n) (p % n) next far ∙ f.1, o.2 f.0 f.2));
}

-- one frame of the history has another phase
pub ring_swap : {n b c : ℕ} {s : Bool} (xs : List Phase) (old next : Phase) (ys : List Phase) {phases : List Phase} → Ring n b c s (xs ++ old ∷ ys) phases → b ≤ length xs → Ring n b c s (xs ++ next ∷ ys) (set phases (length xs % n) next)
ring_swap {n} {b} {c} {s} xs old next ys r lo =
    let few = r.few in
    let l = length-append xs (old ∷ ys) in
    let m = length-append xs (next ∷ ys) in
    ring_set r b c s (xs ++ next ∷ ys) (length xs) next lo (omega arith) (omega arith) r.claimed_most
    (λ p ne _ p_lo p_hi. (p_lo, p_hi, λ q f. subst (λ (o : maybe.Option Phase). Fits c s (p % n) o q) (at_other xs old next ys p ne) f))
    (subst (λ (o : maybe.Option Phase). Fits c s (length xs % n) o next) (sym (at_next xs next ys)) refl)

-- one frame more
pub ring_grow : {n b c : ℕ} {s : Bool} {past phases : List Phase} (next : Phase) → Ring n b c s past phases → b ≤ length past → length past < b + n → Ring n b c s (past ++ next ∷ []) (set phases (length past % n) next)
ring_grow {n} {b} {c} {s} {past} next r lo hi =
    let m = length-append past (next ∷ []) in
    ring_set r b c s (past ++ next ∷ []) (length past) next lo hi (omega arith) r.claimed_most
    (λ p ne _ p_lo p_hi. (p_lo, p_hi, λ q f. subst (λ (o : maybe.Option Phase). Fits c s (p % n) o q) (sym (at_more past next p ne)) f))
    (subst (λ (o : maybe.Option Phase). Fits c s (length past % n) o next) (sym (at_next past next [])) refl)

-- the oldest frame that is out is back
pub ring_back : {n b c : ℕ} {s : Bool} {past phases : List Phase} → Ring n b c s past phases → c ≡ n → Ring n (suc b) c s past (set phases (b % n) idle)
ring_back {n} {b} {c} {s} {past} {phases} r all =
    let few = r.few in
    let some_word = r.some_word in
    subst (λ (x : ℕ). Ring n (suc b) c s past (set phases x idle)) (add-mod_right b n)
    (ring_set r (suc b) c s past (b + n) idle (omega arith) (omega arith) (omega arith) r.claimed_most
    (λ p ne _ p_lo p_hi. (omega arith, omega arith, λ q f. f))
    (subst (λ (o : maybe.Option Phase). Fits c s ((b + n) % n) o idle) (sym (at_past past (b + n) few)) (subst (λ (x : ℕ). (b + n) % n < x) (sym all) (mod-lt (b + n) some_word))))

free_stops : (c : ℕ) (s : Bool) (i : ℕ) (q : Phase) → IsFree c s i q → IsFree c true i q
free_stops c s i unclaimed f = f
free_stops c s i idle f = f
free_stops c s i (given_at g) f = f
free_stops c s i (taken_at g) f = f
free_stops c s i (returned_at r) f = f
free_stops c s i stopped_at f = (f.0, refl)

fits_stops : (c : ℕ) (s : Bool) (i : ℕ) (o : maybe.Option Phase) (q : Phase) → Fits c s i o q → Fits c true i o q
fits_stops c s i (some p) q f = f
fits_stops c s i none q f = free_stops c s i q f

-- the stop
pub ring_stop : {n b c : ℕ} {s : Bool} {past phases : List Phase} → Ring n b c s past phases → c ≡ n → b ≤ length past → length past < b + n → Ring n b c true past (set phases (length past % n) stopped_at)
ring_stop {n} {b} {c} {s} {past} r all lo hi =
    ring_set r b c true past (length past) stopped_at lo hi r.few r.claimed_most
    (λ p ne _ p_lo p_hi. (p_lo, p_hi, λ q f. fits_stops c s (p % n) (get_elem? past p) q f))
    (subst (λ (o : maybe.Option Phase). Fits c true (length past % n) o stopped_at) (sym (at_past past (length past) (omega arith))) (subst (λ (x : ℕ). length past % n < x) (sym all) (mod-lt (length past) r.some_word), refl))

free_claims : (c : ℕ) (s : Bool) (i : ℕ) (q : Phase) → i ≢ c → IsFree c s i q → IsFree (suc c) s i q
free_claims c s i unclaimed ne f = omega arith
free_claims c s i idle ne f = omega arith
free_claims c s i (given_at g) ne f = f
free_claims c s i (taken_at g) ne f = f
free_claims c s i (returned_at r) ne f = f
free_claims c s i stopped_at ne f = let g = f.0 in (omega arith, f.1)

-- the next slot is claimed
pub ring_claim : {n c : ℕ} {s : Bool} {phases : List Phase} → Ring n 0 c s [] phases → c < n → Ring n 0 (suc c) s [] (set phases c idle)
ring_claim {n} {c} {s} {phases} r lt =
    let here : c % n ≡ c = mod-eq_of_lt lt in
    subst (λ (x : ℕ). Ring n 0 (suc c) s [] (set phases x idle)) here
    (ring_set r 0 (suc c) s [] c idle (omega arith) (omega arith) (omega arith) (omega arith)
    (λ p ne far p_lo p_hi. (p_lo, p_hi, λ q f. free_claims c s (p % n) q (λ e. far (e ∙ sym here)) f))
    (omega arith))

-- ---- the history

pub history_length : (returned : List RenderedFrame) (in_hand waiting : List Frame) → length (history returned in_hand waiting) ≡ length returned + (length in_hand + length waiting)
history_length returned in_hand waiting =
    let a = length-append (map returned_at returned) (map taken_at in_hand ++ map given_at waiting) in
    let b = length-append (map taken_at in_hand) (map given_at waiting) in
    let x = length-map returned returned_at in
    let y = length-map in_hand taken_at in
    let z = length-map waiting given_at in
    omega arith

pub history_grows : (returned : List RenderedFrame) (in_hand waiting : List Frame) (f : Frame) → history returned in_hand (waiting ++ f ∷ []) ≡ history returned in_hand waiting ++ given_at f ∷ []
history_grows returned in_hand waiting f =
    ap (λ (l : List Phase). map returned_at returned ++ (map taken_at in_hand ++ l)) (map-append given_at waiting (f ∷ []))
    ∙ ap (λ (l : List Phase). map returned_at returned ++ l) (sym (append_assoc (map taken_at in_hand) (map given_at waiting) (given_at f ∷ [])))
    ∙ sym (append_assoc (map returned_at returned) (map taken_at in_hand ++ map given_at waiting) (given_at f ∷ []))

pub history_returns : (returned : List RenderedFrame) (r : RenderedFrame) (waiting : List Frame) → history (returned ++ r ∷ []) [] waiting ≡ map returned_at returned ++ returned_at r ∷ map given_at waiting
history_returns [] r waiting = refl
history_returns (x ∷ xs) r waiting = ap (λ (l : List Phase). returned_at x ∷ l) (history_returns xs r waiting)

-- the phase of the oldest frame that is out, where it was returned, and where it was not
pub oldest_back : (back : List RenderedFrame) (r : RenderedFrame) (coming : List RenderedFrame) (others : List Phase) → get_elem? (map returned_at (back ++ r ∷ coming) ++ others) (length back) ≡ some (returned_at r)
oldest_back [] r coming others = refl
oldest_back (x ∷ xs) r coming others = oldest_back xs r coming others

pub oldest_other : (back : List RenderedFrame) (others : List Phase) → get_elem? (map returned_at (back ++ []) ++ others) (length back) ≡ get_elem? others 0
oldest_other [] others = refl
oldest_other (x ∷ xs) others = oldest_other xs others

pub some_returned : (returned : List RenderedFrame) (others : List Phase) (p : ℕ) → p < length returned → (r : RenderedFrame) × (get_elem? (map returned_at returned ++ others) p ≡ some (returned_at r))
some_returned [] others p h = absurd (omega arith)
some_returned (x ∷ xs) others zero h = (x, refl)
some_returned (x ∷ xs) others (suc p) h = some_returned xs others p (omega arith)

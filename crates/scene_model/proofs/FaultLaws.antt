-- The place of a journal's first fault: there is none exactly where the journal is lawful.
use Rattle.std.proofs.Common.{◌≡◌, ℕ, zero, suc, ◌+◌, ◌<◌, ◌≤◌, Bool, true, false, ◌&&◌, ◌==◌, nat_lt, cond, List, [], ◌∷◌, ◌++◌, map, length, filter, Option, Some, None, slice_get, refl, ap, subst, sym, ◌∙◌, arith, append_assoc}
use Rattle.std.specs.Bool.{⊤}
use Rattle.std.specs.List.{range_with_len}
use Rattle.std.proofs.lemmas.List.{append-nil}
use Rattle.std.proofs.lemmas.List.FromFn.{length-range_with_len}
use Rattle.std.proofs.lemmas.Option.{slice_get_within}
use Rattle.std.proofs.lemmas.Bool.Decides.{nat_tests}
use Rattle.scene_model.specs.Scene.{Scene, SceneFrame}
use Rattle.scene_model.specs.Fold.{Accepted, FramePlan, Progress, plans, plans_from}
use Rattle.scene_model.specs.Journal.{Entry, Journal, ordinals_of, HasInOrder, AreBelow, IsLawfulFrame, AreLawful, has_item, can_stand, item_count, fault_in_frame, fault_of_frames, fault_place, FaultLaw}

-- ---- tests

both_of : (a b : Bool) → (a && b) ≡ true → (a ≡ true) × (b ≡ true)
both_of true b e = (refl, e)
both_of false b e = cc e

equal_from : (m n : ℕ) → (m == n) ≡ true → m ≡ n
equal_from m n e = grind (arith, e)

equal_test : (m n : ℕ) → m ≡ n → (m == n) ≡ true
equal_test m n e = grind (arith, e)

less_from : (m n : ℕ) → nat_lt m n ≡ true → m < n
less_from m n e = grind (arith, nat_tests, e)

less_test : (m n : ℕ) → m < n → nat_lt m n ≡ true
less_test m n h = grind (arith, nat_tests, h)

apart_test : (m n : ℕ) → (m ≡ n → ⊥) → (m == n) ≡ false
apart_test m n h = by (m == n) refl
  where
    by : (b : Bool) → (m == n) ≡ b → b ≡ false
    by true e = absurd (h (equal_from m n e))
    by false e = refl

-- ---- the ordinals of an encoder

-- the ordinals with one entry more at the end
ordinals_more : (e : ℕ) (xs : List Entry) (n : Entry) → ordinals_of e (xs ++ n ∷ []) ≡ cond (n.encoder == e) (ordinals_of e xs ++ n.ordinal ∷ []) (ordinals_of e xs)
ordinals_more e [] n = by (n.encoder == e)
  where
    by : (b : Bool) → map (λ m. m.ordinal) (cond b (n ∷ []) []) ≡ cond b (n.ordinal ∷ []) []
    by true = refl
    by false = refl
ordinals_more e (x ∷ xs) n = by (x.encoder == e) (n.encoder == e) (ordinals_more e xs n)
  where
    by : (a b : Bool) → ordinals_of e (xs ++ n ∷ []) ≡ cond b (ordinals_of e xs ++ n.ordinal ∷ []) (ordinals_of e xs)
        → map (λ m. m.ordinal) (cond a (x ∷ filter (λ m. m.encoder == e) (xs ++ n ∷ [])) (filter (λ m. m.encoder == e) (xs ++ n ∷ [])))
        ≡ cond b (map (λ m. m.ordinal) (cond a (x ∷ filter (λ m. m.encoder == e) xs) (filter (λ m. m.encoder == e) xs)) ++ n.ordinal ∷ []) (map (λ m. m.ordinal) (cond a (x ∷ filter (λ m. m.encoder == e) xs) (filter (λ m. m.encoder == e) xs)))
    by true true h = ap (λ os. x.ordinal ∷ os) h
    by true false h = ap (λ os. x.ordinal ∷ os) h
    by false true h = h
    by false false h = h

ordinals_append : (e : ℕ) (xs ys : List Entry) → ordinals_of e (xs ++ ys) ≡ ordinals_of e xs ++ ordinals_of e ys
ordinals_append e [] ys = refl
ordinals_append e (x ∷ xs) ys = by (x.encoder == e) (ordinals_append e xs ys)
  where
    by : (a : Bool) → ordinals_of e (xs ++ ys) ≡ ordinals_of e xs ++ ordinals_of e ys
        → map (λ m. m.ordinal) (cond a (x ∷ filter (λ m. m.encoder == e) (xs ++ ys)) (filter (λ m. m.encoder == e) (xs ++ ys)))
        ≡ map (λ m. m.ordinal) (cond a (x ∷ filter (λ m. m.encoder == e) xs) (filter (λ m. m.encoder == e) xs)) ++ ordinals_of e ys
    by true h = ap (λ os. x.ordinal ∷ os) h
    by false h = h

length_more : (xs : List ℕ) (x : ℕ) → length (xs ++ x ∷ []) ≡ length xs + 1
length_more [] x = refl
length_more (y ∷ xs) x = let h = length_more xs x in omega arith

range_more : (a n : ℕ) → range_with_len a (n + 1) ≡ range_with_len a n ++ (a + n) ∷ []
range_more a zero = let z : a ≡ a + 0 = omega arith in ap (λ k. k ∷ []) z
range_more a (suc n) =
    let s : a + 1 + n ≡ a + suc n = omega arith in
    let t : suc n + 1 ≡ suc (n + 1) = omega arith in
    ap (range_with_len a) t ∙ ap (λ ks. a ∷ ks) (range_more (a + 1) n ∙ ap (λ k. range_with_len (a + 1) n ++ k ∷ []) s)

-- where a range begins with a front and goes on with x, x is as many above the start as the front is long
range_at : (a n : ℕ) (front : List ℕ) (x : ℕ) (rest : List ℕ) → front ++ x ∷ rest ≡ range_with_len a n → (x ≡ a + length front) × (length front < n)
range_at a zero [] x rest e = cc e
range_at a zero (y ∷ front) x rest e = cc e
range_at a (suc n) [] x rest e = let h : x ≡ a = cc e in (omega (arith, h), omega arith)
range_at a (suc n) (y ∷ front) x rest e =
    let h : front ++ x ∷ rest ≡ range_with_len (a + 1) n = cc e in
    let r = range_at (a + 1) n front x rest h in
    (omega (arith, r.0), omega (arith, r.1))

-- ---- how many entries the encoders have in all

-- the numbers of the entries of the encoders from one on, added up
abbrev held : ℕ → List Accepted → List Entry → ℕ
held first [] xs = 0
held first (a ∷ rest) xs = length (ordinals_of first xs) + held (first + 1) rest xs

held_none : (first : ℕ) (encoders : List Accepted) → held first encoders [] ≡ 0
held_none first [] = refl
held_none first (a ∷ rest) = let h = held_none (first + 1) rest in omega arith

ordinals_here : (e : ℕ) (n : Entry) (xs : List Entry) → n.encoder ≡ e → length (ordinals_of e (n ∷ xs)) ≡ suc (length (ordinals_of e xs))
ordinals_here e n xs h = ap (λ b. length (map (λ m. m.ordinal) (cond b (n ∷ filter (λ m. m.encoder == e) xs) (filter (λ m. m.encoder == e) xs)))) (equal_test n.encoder e h)

ordinals_there : (e : ℕ) (n : Entry) (xs : List Entry) → (n.encoder ≡ e → ⊥) → length (ordinals_of e (n ∷ xs)) ≡ length (ordinals_of e xs)
ordinals_there e n xs h = ap (λ b. length (map (λ m. m.ordinal) (cond b (n ∷ filter (λ m. m.encoder == e) xs) (filter (λ m. m.encoder == e) xs)))) (apart_test n.encoder e h)

held_before : (first : ℕ) (encoders : List Accepted) (n : Entry) (xs : List Entry) → n.encoder < first → held first encoders (n ∷ xs) ≡ held first encoders xs
held_before first [] n xs h = refl
held_before first (a ∷ rest) n xs h =
    let o = ordinals_there first n xs (λ e. omega (arith, e, h)) in
    let r = held_before (first + 1) rest n xs (omega (arith, h)) in
    omega (arith, o, r)

above : (m k : ℕ) → k ≤ m → (m ≡ k → ⊥) → k + 1 ≤ m
above m k le ne = grind (arith, le, ne)

held_cons : (first : ℕ) (encoders : List Accepted) (n : Entry) (xs : List Entry) → first ≤ n.encoder → n.encoder < first + length encoders → held first encoders (n ∷ xs) ≡ 1 + held first encoders xs
held_cons first [] n xs low high = absurd (omega (arith, low, high))
held_cons first (a ∷ rest) n xs low high = by (λ low high. held_cons (first + 1) rest n xs low high) (n.encoder == first) refl
  where
    by : (first + 1 ≤ n.encoder → n.encoder < first + 1 + length rest → held (first + 1) rest (n ∷ xs) ≡ 1 + held (first + 1) rest xs) → (b : Bool) → (n.encoder == first) ≡ b → length (ordinals_of first (n ∷ xs)) + held (first + 1) rest (n ∷ xs) ≡ 1 + (length (ordinals_of first xs) + held (first + 1) rest xs)
    by later true e =
        let same = equal_from n.encoder first e in
        let o = ordinals_here first n xs same in
        let r = held_before (first + 1) rest n xs (omega (arith, same)) in
        omega (arith, o, r)
    by later false e =
        let other : n.encoder ≡ first → ⊥ = λ s. cc (sym e ∙ equal_test n.encoder first s) in
        let o = ordinals_there first n xs other in
        let r = later (above n.encoder first low other) (omega (arith, high)) in
        omega (arith, o, r)

held_all : (encoders : List Accepted) (xs : List Entry) → AreBelow (length encoders) xs → held 0 encoders xs ≡ length xs
held_all encoders [] h = held_none 0 encoders
held_all encoders (n ∷ xs) h =
    let c = held_cons 0 encoders n xs (omega arith) (omega (arith, h.0)) in
    let r = held_all encoders xs h.1 in
    omega (arith, c, r)

held_in_order : (first : ℕ) (encoders : List Accepted) (xs : List Entry) → HasInOrder first encoders xs → held first encoders xs ≡ item_count encoders
held_in_order first [] xs h = refl
held_in_order first (a ∷ rest) xs h =
    let o : length (ordinals_of first xs) ≡ length a.items = ap length h.0 ∙ length-range_with_len 0 (length a.items) in
    let r = held_in_order (first + 1) rest xs h.1 in
    omega (arith, o, r)

-- ---- from lawful to no fault

in_order_at : (first : ℕ) (encoders : List Accepted) (xs : List Entry) (i : ℕ) (a : Accepted) → HasInOrder first encoders xs → slice_get encoders i ≡ Some a → ordinals_of (first + i) xs ≡ range_with_len 0 (length a.items)
in_order_at first [] xs i a h e = cc e
in_order_at first (b ∷ rest) xs zero a h e =
    let same : b ≡ a = cc e in
    let at : first + 0 ≡ first = omega arith in
    ap (λ k. ordinals_of k xs) at ∙ h.0 ∙ ap (λ c. range_with_len 0 (length c.items)) same
in_order_at first (b ∷ rest) xs (suc i) a h e =
    let at : first + suc i ≡ first + 1 + i = omega arith in
    ap (λ k. ordinals_of k xs) at ∙ in_order_at (first + 1) rest xs i a h.1 e

below_there : (count : ℕ) (front : List Entry) (n : Entry) (rest : List Entry) → AreBelow count (front ++ n ∷ rest) → n.encoder < count
below_there count [] n rest h = h.0
below_there count (x ∷ front) n rest h = below_there count front n rest h.1

found_below : {A : Type 0} (xs : List A) (i : ℕ) → i < length xs → (x : A) × (slice_get xs i ≡ Some x)
found_below [] i h = absurd (omega (arith, h))
found_below (x ∷ xs) zero h = (x, refl)
found_below (x ∷ xs) (suc i) h = found_below xs i (omega (arith, h))

ordinals_head : (e : ℕ) (n : Entry) (rest : List Entry) → n.encoder ≡ e → ordinals_of e (n ∷ rest) ≡ n.ordinal ∷ ordinals_of e rest
ordinals_head e n rest h = ap (λ b. map (λ m. m.ordinal) (cond b (n ∷ filter (λ m. m.encoder == e) rest) (filter (λ m. m.encoder == e) rest))) (equal_test n.encoder e h)

-- each entry of a lawful frame can stand after those before it
stands : (encoders : List Accepted) (front : List Entry) (n : Entry) (rest : List Entry) → HasInOrder 0 encoders (front ++ n ∷ rest) → AreBelow (length encoders) (front ++ n ∷ rest) → can_stand encoders front n ≡ true
stands encoders front n rest order below =
    let found = found_below encoders n.encoder (below_there (length encoders) front n rest below) in
    let zero_more : 0 + n.encoder ≡ n.encoder = omega arith in
    let whole : ordinals_of n.encoder (front ++ n ∷ rest) ≡ range_with_len 0 (length found.0.items) = ap (λ k. ordinals_of k (front ++ n ∷ rest)) (sym zero_more) ∙ in_order_at 0 encoders (front ++ n ∷ rest) n.encoder found.0 order found.1 in
    let parts : ordinals_of n.encoder front ++ n.ordinal ∷ ordinals_of n.encoder rest ≡ range_with_len 0 (length found.0.items) =
    ap (λ os. ordinals_of n.encoder front ++ os) (sym (ordinals_head n.encoder n rest refl)) ∙ sym (ordinals_append n.encoder front (n ∷ rest)) ∙ whole in
    let at = range_at 0 (length found.0.items) (ordinals_of n.encoder front) n.ordinal (ordinals_of n.encoder rest) parts in
    let ordinal : n.ordinal ≡ length (ordinals_of n.encoder front) = omega (arith, at.0) in
    let item : has_item n.ordinal (slice_get encoders n.encoder) ≡ true = ap (has_item n.ordinal) found.1 ∙ less_test n.ordinal (length found.0.items) (omega (arith, ordinal, at.1)) in
    ap (λ b. b && has_item n.ordinal (slice_get encoders n.encoder)) (equal_test n.ordinal (length (ordinals_of n.encoder front)) ordinal) ∙ item

no_fault_from : (encoders : List Accepted) (front rest : List Entry) → HasInOrder 0 encoders (front ++ rest) → AreBelow (length encoders) (front ++ rest) → fault_in_frame encoders front rest ≡ None
no_fault_from encoders front [] order below =
    let whole = append-nil front in
    let order2 : HasInOrder 0 encoders front = subst (HasInOrder 0 encoders) whole order in
    let below2 : AreBelow (length encoders) front = subst (AreBelow (length encoders)) whole below in
    let count : length front ≡ item_count encoders = sym (held_all encoders front below2) ∙ held_in_order 0 encoders front order2 in
    ap (λ b. cond b None (Some (length front))) (equal_test (length front) (item_count encoders) count)
no_fault_from encoders front (n ∷ rest) order below =
    let same : (front ++ n ∷ []) ++ rest ≡ front ++ n ∷ rest = append_assoc front (n ∷ []) rest in
    ap (λ b. cond b (fault_in_frame encoders (front ++ n ∷ []) rest) (Some (length front))) (stands encoders front n rest order below)
    ∙ no_fault_from encoders (front ++ n ∷ []) rest (subst (HasInOrder 0 encoders) (sym same) order) (subst (AreBelow (length encoders)) (sym same) below)

-- ---- from no fault to lawful

-- each encoder from number first on has the ordinals 0, 1, 2 and so on, at most as many as its items
abbrev AreFront : ℕ → List Accepted → List Entry → Type 0
AreFront first [] xs = ⊤
AreFront first (a ∷ rest) xs =
    (ordinals_of first xs ≡ range_with_len 0 (length (ordinals_of first xs))) × (length (ordinals_of first xs) ≤ length a.items) × AreFront (first + 1) rest xs

front_none : (first : ℕ) (encoders : List Accepted) → AreFront first encoders []
front_none first [] = tt
front_none first (a ∷ rest) = (refl, omega arith, front_none (first + 1) rest)

-- the next entry of an encoder is its next ordinal, below the number of its items
abbrev IsNext : ℕ → List Accepted → List Entry → Entry → Type 0
IsNext first encoders xs n = (i : ℕ) (a : Accepted) → slice_get encoders i ≡ Some a → n.encoder ≡ first + i → n.ordinal < length a.items

front_more : (first : ℕ) (encoders : List Accepted) (xs : List Entry) (n : Entry) → n.ordinal ≡ length (ordinals_of n.encoder xs) → IsNext first encoders xs n → AreFront first encoders xs → AreFront first encoders (xs ++ n ∷ [])
front_more first [] xs n is next h = tt
front_more first (a ∷ rest) xs n is next h =
    let here = by (n.encoder == first) refl in
    let later : IsNext (first + 1) rest xs n = λ i b found same. next (suc i) b found (omega (arith, same)) in
    (here.0, here.1, front_more (first + 1) rest xs n is later h.2)
  where
    by : (b : Bool) → (n.encoder == first) ≡ b → (ordinals_of first (xs ++ n ∷ []) ≡ range_with_len 0 (length (ordinals_of first (xs ++ n ∷ [])))) × (length (ordinals_of first (xs ++ n ∷ [])) ≤ length a.items)
    by true e =
        let same = equal_from n.encoder first e in
        let o : n.ordinal ≡ length (ordinals_of first xs) = is ∙ ap (λ k. length (ordinals_of k xs)) same in
        let less = next 0 a refl (omega (arith, same)) in
        let more : ordinals_of first (xs ++ n ∷ []) ≡ ordinals_of first xs ++ n.ordinal ∷ [] = ordinals_more first xs n ∙ ap (λ b. cond b (ordinals_of first xs ++ n.ordinal ∷ []) (ordinals_of first xs)) e in
        let count : length (ordinals_of first (xs ++ n ∷ [])) ≡ length (ordinals_of first xs) + 1 = ap length more ∙ length_more (ordinals_of first xs) n.ordinal in
        let plus : 0 + length (ordinals_of first xs) ≡ n.ordinal = omega (arith, o) in (
          more
              ∙ ap (λ os. os ++ n.ordinal ∷ []) h.0
              ∙ ap (λ k. range_with_len 0 (length (ordinals_of first xs)) ++ k ∷ []) (sym plus)
              ∙ sym (range_more 0 (length (ordinals_of first xs)))
              ∙ ap (range_with_len 0) (sym count),
          omega (arith, count, o, less),
        )
    by false e =
        let more : ordinals_of first (xs ++ n ∷ []) ≡ ordinals_of first xs = ordinals_more first xs n ∙ ap (λ b. cond b (ordinals_of first xs ++ n.ordinal ∷ []) (ordinals_of first xs)) e in
        (more ∙ h.0 ∙ ap (λ os. range_with_len 0 (length os)) (sym more), subst (λ os. length os ≤ length a.items) (sym more) h.1)

below_more : (count : ℕ) (xs : List Entry) (n : Entry) → AreBelow count xs → n.encoder < count → AreBelow count (xs ++ n ∷ [])
below_more count [] n h lt = (lt, tt)
below_more count (x ∷ xs) n h lt = (h.0, below_more count xs n h.1 lt)

item_there : (ordinal : ℕ) (o : Option Accepted) → has_item ordinal o ≡ true → (a : Accepted) × (o ≡ Some a) × (ordinal < length a.items)
item_there ordinal None e = cc e
item_there ordinal (Some a) e = (a, refl, less_from ordinal (length a.items) e)

held_most : (first : ℕ) (encoders : List Accepted) (xs : List Entry) → AreFront first encoders xs → held first encoders xs ≤ item_count encoders
held_most first [] xs h = omega arith
held_most first (a ∷ rest) xs h = let r = held_most (first + 1) rest xs h.2 in omega (arith, h.1, r)

-- where the numbers add up to all items, no encoder lacks one
all_there : (first : ℕ) (encoders : List Accepted) (xs : List Entry) → AreFront first encoders xs → held first encoders xs ≡ item_count encoders → HasInOrder first encoders xs
all_there first [] xs h e = tt
all_there first (a ∷ rest) xs h e =
    let r = held_most (first + 1) rest xs h.2 in
    let same : length (ordinals_of first xs) ≡ length a.items = omega (arith, h.1, r, e) in
    (h.0 ∙ ap (range_with_len 0) same, all_there (first + 1) rest xs h.2 (omega (arith, same, e)))

-- the item that was found is the one at its encoder's place
same_item : (encoders : List Accepted) (xs : List Entry) (n : Entry) (b : Accepted) → slice_get encoders n.encoder ≡ Some b → n.ordinal < length b.items → IsNext 0 encoders xs n
same_item encoders xs n b is less i a found same =
    let k : n.encoder ≡ i = omega (arith, same) in
    let both : Some b ≡ Some a = sym is ∙ ap (slice_get encoders) k ∙ found in
    let eq : b ≡ a = cc both in
    subst (λ c. n.ordinal < length c.items) eq less

whole_from : (encoders : List Accepted) (front rest : List Entry) → AreFront 0 encoders front → AreBelow (length encoders) front → fault_in_frame encoders front rest ≡ None → HasInOrder 0 encoders (front ++ rest) × AreBelow (length encoders) (front ++ rest)
whole_from encoders front [] h below e = by (length front == item_count encoders) refl e
  where
    by : (b : Bool) → (length front == item_count encoders) ≡ b → cond b None (Some (length front)) ≡ None → HasInOrder 0 encoders (front ++ []) × AreBelow (length encoders) (front ++ [])
    by true t n =
        let count : held 0 encoders front ≡ item_count encoders = held_all encoders front below ∙ equal_from (length front) (item_count encoders) t in
        (subst (HasInOrder 0 encoders) (sym (append-nil front)) (all_there 0 encoders front h count), subst (AreBelow (length encoders)) (sym (append-nil front)) below)
    by false t n = cc n
whole_from encoders front (n ∷ rest) h below e = by (whole_from encoders (front ++ n ∷ []) rest) (can_stand encoders front n) refl e
  where
    by : (AreFront 0 encoders (front ++ n ∷ []) → AreBelow (length encoders) (front ++ n ∷ []) → fault_in_frame encoders (front ++ n ∷ []) rest ≡ None → HasInOrder 0 encoders ((front ++ n ∷ []) ++ rest) × AreBelow (length encoders) ((front ++ n ∷ []) ++ rest))
        → (b : Bool) → can_stand encoders front n ≡ b → cond b (fault_in_frame encoders (front ++ n ∷ []) rest) (Some (length front)) ≡ None → HasInOrder 0 encoders (front ++ n ∷ rest) × AreBelow (length encoders) (front ++ n ∷ rest)
    by later true t none =
        let tests = both_of (n.ordinal == length (ordinals_of n.encoder front)) (has_item n.ordinal (slice_get encoders n.encoder)) t in
        let item = item_there n.ordinal (slice_get encoders n.encoder) tests.1 in
        let next : IsNext 0 encoders front n = same_item encoders front n item.0 item.1 item.2 in
        let r = later (front_more 0 encoders front n (equal_from n.ordinal (length (ordinals_of n.encoder front)) tests.0) next h) (below_more (length encoders) front n below (slice_get_within encoders n.encoder item.0 item.1)) none in
        let same : (front ++ n ∷ []) ++ rest ≡ front ++ n ∷ rest = append_assoc front (n ∷ []) rest in
        (subst (HasInOrder 0 encoders) same r.0, subst (AreBelow (length encoders)) same r.1)
    by later false t none = cc none

-- ---- frames

frame_lawful : (p : FramePlan) (entries : List Entry) → fault_in_frame p.encoders [] entries ≡ None → IsLawfulFrame p entries
frame_lawful p entries e =
    let w = whole_from p.encoders [] entries (front_none 0 p.encoders) tt e in
    record { in_order = w.0; no_other = w.1 }

frames_lawful : (ps : List FramePlan) (j : Journal) → fault_place ps j ≡ None → AreLawful ps j × (length j ≡ length ps)
frames_lawful [] [] e = (tt, refl)
frames_lawful [] (entries ∷ rest) e = cc e
frames_lawful (p ∷ ps) [] e = cc e
frames_lawful (p ∷ ps) (entries ∷ rest) e = by (frames_lawful ps rest) (fault_in_frame p.encoders [] entries) refl (fault_place ps rest) refl e
  where
    by : (fault_place ps rest ≡ None → AreLawful ps rest × (length rest ≡ length ps))
        → (own : Option ℕ) → fault_in_frame p.encoders [] entries ≡ own → (later : Option ℕ) → fault_place ps rest ≡ later → fault_of_frames (length entries) own later ≡ None
        → AreLawful (p ∷ ps) (entries ∷ rest) × (length (entries ∷ rest) ≡ length (p ∷ ps))
    by rec None own None later n = let r = rec later in ((frame_lawful p entries own, r.0), let l = r.1 in omega arith)
    by rec None own (Some place) later n = cc n
    by rec (Some place) own later found n = cc n

frames_without_fault : (ps : List FramePlan) (j : Journal) → AreLawful ps j → length j ≡ length ps → fault_place ps j ≡ None
frames_without_fault [] [] h l = refl
frames_without_fault [] (entries ∷ rest) h l = absurd h
frames_without_fault (p ∷ ps) [] h l = absurd (omega (arith, l))
frames_without_fault (p ∷ ps) (entries ∷ rest) h l =
    ap (λ o. fault_of_frames (length entries) o (fault_place ps rest)) (no_fault_from p.encoders [] entries h.0.in_order h.0.no_other)
    ∙ ap (fault_of_frames (length entries) None) (frames_without_fault ps rest h.1 (omega (arith, l)))

plans_count : (s : Scene) (k : ℕ) (gone : List ℕ) (p : Progress) (fs : List SceneFrame) → length (plans_from s k gone p fs) ≡ length fs
plans_count s k gone p [] = refl
plans_count s k gone p (f ∷ fs) = ap suc (plans_count s (k + 1) _ _ fs)

pub plan_count : (s : Scene) → length (plans s) ≡ length s.frames
plan_count s = plans_count s 0 [] _ s.frames

pub fault-law : FaultLaw
fault-law s j = (
  λ e. let l = frames_lawful (plans s) j e in (l.0, l.1 ∙ plan_count s),
  λ h. frames_without_fault (plans s) j h.0 (h.1 ∙ sym (plan_count s)),
)

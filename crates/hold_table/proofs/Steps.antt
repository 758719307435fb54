-- Each kind of step keeps the rule, and tells what it says.
use Rattle.std.proofs.Common.{◌≡◌, ◌≢◌, ℕ, zero, suc, ◌+◌, ◌%◌, ◌^◌, ◌<◌, ◌≤◌, List, [], ◌∷◌, ◌++◌, length, map, get_or, set, sym, refl, ap, ◌∙◌, subst, arith, replicate, length-set, eq-eqb, ne_eqb}
use Rattle.std.proofs.lemmas.List.{length-replicate}
use mathlib.Core.Option.{none, some, some-injective, some-ne-none}
use mathlib.Core.Logic.{dite}
use native.Mathlib.Decide.{ℕ_discrete}
use lib.ListN.{get_elem?}
use lib.Seq.{set-get_or}
use Rattle.atomic_table.specs.Table.{State, Act, step, keeps, Valid, homes_after, carried_after, Allows, Splits, Joins}
use Rattle.atomic_table.proofs.Lists.{set_else}
use Rattle.schedule_model.specs.Machine.{Place, free, live, dying, place_at}
use Rattle.schedule_model.specs.Held.{count_of}
use Rattle.hold_table.specs.Words.{word_of, IsUpTo}
use Rattle.hold_table.specs.Views.{api, recorder, SeatView, first_view, spent_view, lent, fresh, gathered, AllShown, drawn, learnt, advanced, once_between, asks, IsWordSince, placed, created, Mine, Draws, Learns, Advances, Asks, Creates, Destroys, Reclaims}
use Rattle.hold_table.specs.Rule.{total, holds_number, carries, FitsAs, Kept, IsHeld}
use Rattle.hold_table.proofs.PlaceLaws.{Moves, creates, destroys, reclaims, word_at, words_set, up_to-le}
use Rattle.hold_table.proofs.Keeps.{api_at, none_above, draw_kept, split_kept, join_kept, learn_kept, counter_most, gathered_all, advance_kept, with_place, place_kept, ask_kept}
use Rattle.hold_table.proofs.Totals.{total_at, below_from_counts, between_below, between_above, once_most}

abbrev Homes : Type 0
Homes = List (mathlib.Core.Option.Option (Unit {0}))

-- what a step does, on a state whose words are the counter and the places'
abbrev Done : ℕ → List ℕ → Homes → List SeatView → ℕ → Mine → ℕ → (ℕ → ℕ) → (ℕ → Mine → Type 0) → Type 0
Done first ws hs vs id m i f then = (w : SeatView) × (a : Act (Unit {0})) × Valid hs m.1 a × IsHeld first record { words = set ws i (f (get_or ws i 0)); homes = homes_after hs m.1 a; views = set vs id w } × then (get_or ws i 0) (w, carried_after m.1 a)

allows_from : (first slots id : ℕ) (m : Mine) (i : ℕ) (f : ℕ → ℕ) (then : ℕ → Mine → Type 0)
    → ((counter : ℕ) (me : SeatView) (hs : Homes) (views : List SeatView) → length me.places ≡ 3776 → Kept first me counter views → get_elem? views id ≡ some m.0 → Done first (counter ∷ map word_of me.places) hs views id m i f then)
    → Allows (IsHeld first) slots id m i f then
allows_from first slots id m i f then h s r _ at _ =
    subst (λ (ws : List ℕ). Done first ws s.homes s.views id m i f then) (sym r.words) (h r.counter r.me s.homes s.views r.many r.kept at)

suc_same : (p q : ℕ) → suc p ≡ suc q → p ≡ q
suc_same p q e = omega arith

-- ---- a number is drawn

pub draws_keep : (first slots id : ℕ) (m : Mine) → m.0.role ≡ recorder → length m.0.numbers < 8191 → Allows (IsHeld first) slots id m 0 (λ n. (n + 1) % 2 ^ 64) (Draws (step slots 0 1 0 none) m)
draws_keep first slots id m is few = allows_from first slots id m 0 (λ n. (n + 1) % 2 ^ 64) (Draws (step slots 0 1 0 none) m) go
  where
    go : (counter : ℕ) (me : SeatView) (hs : Homes) (views : List SeatView) → length me.places ≡ 3776 → Kept first me counter views → get_elem? views id ≡ some m.0 → Done first (counter ∷ map word_of me.places) hs views id m 0 (λ n. (n + 1) % 2 ^ 64) (Draws (step slots 0 1 0 none) m)
    go counter me hs views many k at =
        let most = counter_most first me counter views k in
        let frames = k.frame_most in
        let next : (counter + 1) % 18446744073709551616 ≡ suc counter = omega arith in (
          drawn counter m.0,
          keeps,
          tt,
          record { counter = suc counter; me = me; words = ap (λ (n : ℕ). n ∷ map word_of me.places) next; many = many; kept = draw_kept first me counter views k id m.0 at is few },
          (refl, below_from_counts counter m.0.numbers (none_above first me counter views k id m.0 at)),
        )

-- ---- a place is asked

pub asks_keep : (first slots id : ℕ) (m : Mine) (i p : ℕ) → i ≡ suc p → m.0.role ≡ recorder → Allows (IsHeld first) slots id m i (λ n. n) (Asks (step slots i 0 0 none) m)
asks_keep first slots id m i p e is = subst (λ (x : ℕ). Allows (IsHeld first) slots id m x (λ n. n) (Asks (step slots x 0 0 none) m)) (sym e) (allows_from first slots id m (suc p) (λ n. n) (Asks (step slots (suc p) 0 0 none) m) go)
  where
    go : (counter : ℕ) (me : SeatView) (hs : Homes) (views : List SeatView) → length me.places ≡ 3776 → Kept first me counter views → get_elem? views id ≡ some m.0 → Done first (counter ∷ map word_of me.places) hs views id m (suc p) (λ n. n) (Asks (step slots (suc p) 0 0 none) m)
    go counter me hs views many k at =
        let r = ask_kept first me counter views k id m.0 at is p in
        let x : Place = place_at me.places p in
        let w : ℕ = get_or (map word_of me.places) p 0 in
        let word : w ≡ word_of x = word_at me.places p in
        let up_to : IsUpTo 4294967295 x = up_to-le me.greatest 4294967295 x k.greatest_most (k.placed p) in (
          asks p w m.0,
          keeps,
          tt,
          record { counter = counter; me = me; words = ap (λ (l : List ℕ). counter ∷ l) (set-get_or (map word_of me.places) p 0); many = many; kept = subst (λ (n : ℕ). Kept first me counter (set views id (asks p n m.0))) (sym word) r.0 },
          (λ q h. let same : p ≡ q = suc_same p q h in ((λ j. (asks (same j) w m.0, m.1)), subst (λ (q : ℕ). IsWordSince m.0 q w) same (x, word, up_to, r.1))),
        )

-- ---- the API writes a place's word

module _ (first slots id : ℕ) (m : Mine) (p : ℕ) (y : Place) (g : ℕ) (is : m.0.role ≡ api) (move : Moves m.0.frame m.0.greatest (place_at m.0.places p) y) (le : m.0.greatest ≤ g) (small : m.0.greatest ≤ 4294967295 → g ≤ 4294967295) (fits : ((q : ℕ) → IsUpTo m.0.greatest (place_at m.0.places q)) → IsUpTo g y) where
  writes : (then : ℕ → Mine → Type 0) → ((n : ℕ) → then n (with_place p y g m.0, m.1)) → Allows (IsHeld first) slots id m (suc p) (λ _. word_of y) then
  writes then told = allows_from first slots id m (suc p) (λ _. word_of y) then go
    where
      go : (counter : ℕ) (me : SeatView) (hs : Homes) (views : List SeatView) → length me.places ≡ 3776 → Kept first me counter views → get_elem? views id ≡ some m.0 → Done first (counter ∷ map word_of me.places) hs views id m (suc p) (λ _. word_of y) then
      go counter me hs views many k at =
          let here = api_at first me counter views k id m.0 at is in
          let Fits : SeatView → Type 0 = λ v. Moves v.frame v.greatest (place_at v.places p) y → v.greatest ≤ g → (v.greatest ≤ 4294967295 → g ≤ 4294967295) → (((q : ℕ) → IsUpTo v.greatest (place_at v.places q)) → IsUpTo g y)
          → Kept first (with_place p y g me) counter (set views 0 (with_place p y g me)) in
          let kept : Kept first (with_place p y g me) counter (set views 0 (with_place p y g me)) = subst Fits (sym here.1) (λ a b c d. place_kept first me counter views k p y g a b (c k.greatest_most) (d k.placed)) move le small fits in (
            with_place p y g m.0,
            keeps,
            tt,
            record {
              counter = counter;
              me = with_place p y g me;
              words = ap (λ (l : List ℕ). counter ∷ l) (words_set me.places p y);
              many = length-set me.places p y ∙ many;
              kept = subst (λ (x : ℕ × SeatView). Kept first (with_place p y g me) counter (set views x.0 (with_place p y g x.1))) (λ j. (sym here.0 j, sym here.1 j)) kept;
            },
            told (get_or (counter ∷ map word_of me.places) (suc p) 0),
          )

pub creates_keep : (first slots id : ℕ) (m : Mine) (i word p serial : ℕ) → i ≡ suc p → word ≡ word_of (live serial) → m.0.role ≡ api → place_at m.0.places p ≡ free → m.0.greatest < serial → serial ≤ 4294967295
    → Allows (IsHeld first) slots id m i (λ _. word) (λ _. Creates (step slots i word 0 none) m word)
creates_keep first slots id m i word p serial e word_is is is_free new small = subst (λ (x : ℕ × ℕ). Allows (IsHeld first) slots id m x.0 (λ _. x.1) (λ _. Creates (step slots x.0 x.1 0 none) m x.1)) (λ j. (sym e j, sym word_is j))
    (writes first slots id m p (live serial) serial is (subst (λ (c : Place). Moves m.0.frame m.0.greatest c (live serial)) (sym is_free) (creates m.0.frame m.0.greatest serial new)) (omega arith) (λ _. small) (λ _. omega arith)
    (λ _. Creates (step slots (suc p) (word_of (live serial)) 0 none) m (word_of (live serial))) (λ n q s h t. let a : p ≡ q = suc_same p q h in let b : serial ≡ s = omega arith in λ j. (created (a j) (b j) m.0, m.1)))

pub destroys_keep : (first slots id : ℕ) (m : Mine) (i word p serial : ℕ) → i ≡ suc p → word ≡ word_of (dying serial m.0.frame) → m.0.role ≡ api → place_at m.0.places p ≡ live serial
    → Allows (IsHeld first) slots id m i (λ _. word) (λ _. Destroys (step slots i word 0 none) m word)
destroys_keep first slots id m i word p serial e word_is is is_live = subst (λ (x : ℕ × ℕ). Allows (IsHeld first) slots id m x.0 (λ _. x.1) (λ _. Destroys (step slots x.0 x.1 0 none) m x.1)) (λ j. (sym e j, sym word_is j))
    (writes first slots id m p (dying serial m.0.frame) m.0.greatest is (subst (λ (c : Place). Moves m.0.frame m.0.greatest c (dying serial m.0.frame)) (sym is_live) (destroys m.0.frame m.0.greatest serial)) (omega arith) (λ h. h) (λ all. subst (IsUpTo m.0.greatest) is_live (all p))
    (λ _. Destroys (step slots (suc p) (word_of (dying serial m.0.frame)) 0 none) m (word_of (dying serial m.0.frame))) (λ n q s h t. let a : p ≡ q = suc_same p q h in let b : serial ≡ s = omega arith in λ j. (placed (a j) (dying (b j) m.0.frame) m.0, m.1)))

pub reclaims_keep : (first slots id : ℕ) (m : Mine) (i p serial death : ℕ) → i ≡ suc p → m.0.role ≡ api → place_at m.0.places p ≡ dying serial death → death < m.0.frame
    → Allows (IsHeld first) slots id m i (λ _. 0) (λ _. Reclaims (step slots i 0 0 none) m 0)
reclaims_keep first slots id m i p serial death e is is_dying over = subst (λ (x : ℕ). Allows (IsHeld first) slots id m x (λ _. 0) (λ _. Reclaims (step slots x 0 0 none) m 0)) (sym e)
    (writes first slots id m p free m.0.greatest is (subst (λ (c : Place). Moves m.0.frame m.0.greatest c free) (sym is_dying) (reclaims m.0.frame m.0.greatest serial death over)) (omega arith) (λ h. h) (λ _. omega arith)
    (λ _. Reclaims (step slots (suc p) 0 0 none) m 0) (λ n q h. let a : p ≡ q = suc_same p q h in λ j. (placed (a j) free m.0, m.1)))

-- ---- a recorder begins, and is joined

pub splits_keep : (first id : ℕ) (v : SeatView) (e : ℕ) → v.role ≡ api → e < 8 → count_of e v.off ≡ 0 → length v.off + v.joined < 8 → Splits (IsHeld first) id v (lent e v) (fresh e v)
splits_keep first id v e is small new room s r at =
    let here = api_at first r.me r.counter s.views r.kept id v at is in
    let P : ℕ × SeatView → Type 0 = λ p. (count_of e p.1.off ≡ 0) → (length p.1.off + p.1.joined < 8) → IsHeld first record { words = s.words; homes = s.homes; views = set s.views p.0 (lent e p.1) ++ fresh e p.1 ∷ [] } in
    subst P (λ i. (sym here.0 i, sym here.1 i))
    (λ n m. record { counter = r.counter; me = lent e r.me; words = r.words; many = r.many; kept = split_kept first r.me r.counter s.views r.kept e small n m }) new room

pub joins_keep : (first id : ℕ) (v : SeatView) (other : ℕ) (w : SeatView) → v.role ≡ api → w.role ≡ recorder → Joins (IsHeld first) id v other w (gathered v w) spent_view
joins_keep first id v other w is was s r at apart there =
    let here = api_at first r.me r.counter s.views r.kept id v at is in
    let P : ℕ × SeatView → Type 0 = λ p. (¬ (other ≡ p.0)) → get_elem? (set s.views p.0 (gathered p.1 w)) other ≡ some w → IsHeld first record { words = s.words; homes = s.homes; views = set (set s.views p.0 (gathered p.1 w)) other spent_view } in
    subst P (λ i. (sym here.0 i, sym here.1 i))
    (λ ne t. record { counter = r.counter; me = gathered r.me w; words = r.words; many = r.many; kept = join_kept first r.me r.counter s.views r.kept other w ne (sym (set_else s.views 0 other (gathered r.me w) ne) ∙ t) was }) apart there

-- ---- what was joined is learnt

-- the numbers gathered differ, none is below the base, and they are at most 65,528
gathered_numbers : (first : ℕ) (me : SeatView) (counter : ℕ) (views : List SeatView) → Kept first me counter views
    → ((n : ℕ) → count_of n me.numbers ≤ 1) × ((n : ℕ) → n < me.base → count_of n me.numbers ≡ 0) × (length me.numbers ≤ 65528)
gathered_numbers first me counter views k = (
  (λ n. let t = total_at (holds_number n) views 0 me k.at_api in let o = k.once n in let most = once_most me.base counter n in omega arith),
  (λ n lt. let t = total_at (holds_number n) views 0 me k.at_api in let o = k.once n ∙ between_below me.base counter n lt in omega arith),
  (let g = k.gathered_most in let o = k.off_most in omega arith),
)

pub learns_keep : (first slots id : ℕ) (m : Mine) → m.0.role ≡ api → Allows (IsHeld first) slots id m 0 (λ n. n) (Learns (step slots 0 0 0 none) m)
learns_keep first slots id m is = allows_from first slots id m 0 (λ n. n) (Learns (step slots 0 0 0 none) m) go
  where
    go : (counter : ℕ) (me : SeatView) (hs : Homes) (views : List SeatView) → length me.places ≡ 3776 → Kept first me counter views → get_elem? views id ≡ some m.0 → Done first (counter ∷ map word_of me.places) hs views id m 0 (λ n. n) (Learns (step slots 0 0 0 none) m)
    go counter me hs views many k at =
        let here = api_at first me counter views k id m.0 at is in
        let P : SeatView → Type 0 = λ v. AllShown v.frame v.places v.shows × (((n : ℕ) → count_of n v.numbers ≤ 1) × ((n : ℕ) → n < v.base → count_of n v.numbers ≡ 0) × (length v.numbers ≤ 65528)) in
        let all = subst P (sym here.1) (k.shown, gathered_numbers first me counter views k) in (
          learnt m.0,
          keeps,
          tt,
          record { counter = counter; me = learnt me; words = refl; many = many; kept = subst (λ (p : ℕ × SeatView). Kept first (learnt me) counter (set views p.0 (learnt p.1))) (λ i. (sym here.0 i, sym here.1 i)) (learn_kept first me counter views k) },
          (refl, all.0, all.1.0, all.1.1, all.1.2),
        )

-- ---- the next frame starts

pub advances_keep : (first slots id : ℕ) (m : Mine) → m.0.role ≡ api → m.0.off ≡ [] → m.0.frame < 1073741823 → Allows (IsHeld first) slots id m 0 (λ n. n) (Advances (step slots 0 0 0 none) m)
advances_keep first slots id m is none_off small = allows_from first slots id m 0 (λ n. n) (Advances (step slots 0 0 0 none) m) go
  where
    go : (counter : ℕ) (me : SeatView) (hs : Homes) (views : List SeatView) → length me.places ≡ 3776 → Kept first me counter views → get_elem? views id ≡ some m.0 → Done first (counter ∷ map word_of me.places) hs views id m 0 (λ n. n) (Advances (step slots 0 0 0 none) m)
    go counter me hs views many k at =
        let here = api_at first me counter views k id m.0 at is in
        let none_off' : me.off ≡ [] = ap (λ (v : SeatView). v.off) (sym here.1) ∙ none_off in
        let small' : me.frame < 1073741823 = subst (λ (v : SeatView). v.frame < 1073741823) here.1 small in
        let P : SeatView → Type 0 = λ v. ((n : ℕ) → count_of n v.numbers ≡ once_between v.base counter n) × (v.base + length v.numbers ≡ counter) in
        let all = subst P (sym here.1) (gathered_all first me counter views k none_off') in (
          advanced counter m.0,
          keeps,
          tt,
          record { counter = counter; me = advanced counter me; words = refl; many = many; kept = subst (λ (p : ℕ × SeatView). Kept first (advanced counter me) counter (set views p.0 (advanced counter p.1))) (λ i. (sym here.0 i, sym here.1 i)) (advance_kept first me counter views k none_off' small') },
          (refl, all.0, all.1),
        )

-- ---- the table ends

pub closes : (first : ℕ) (s : State (Unit {0}) SeatView) → IsHeld first s → (id : ℕ) (v : SeatView) → get_elem? s.views id ≡ some v → v.role ≡ api → v.off ≡ [] → (n : ℕ) → count_of n v.numbers ≡ once_between v.base (v.base + length v.numbers) n
closes first s h id v at is none_off n =
    let here = api_at first h.me h.counter s.views h.kept id v at is in
    let all = gathered_all first h.me h.counter s.views h.kept (ap (λ (u : SeatView). u.off) (sym here.1) ∙ none_off) in
    let P : SeatView → Type 0 = λ u. count_of n u.numbers ≡ once_between u.base (u.base + length u.numbers) n in
    subst P (sym here.1) (all.0 n ∙ ap (λ (m : ℕ). once_between h.me.base m n) (sym all.1))

-- ---- a new table

words_free : (n : ℕ) → map word_of (replicate n free) ≡ replicate n 0
words_free zero = refl
words_free (suc n) = ap (λ (l : List ℕ). 0 ∷ l) (words_free n)

pub all_free : (n p : ℕ) → place_at (replicate n free) p ≡ free
all_free zero p = refl
all_free (suc n) zero = refl
all_free (suc n) (suc p) = all_free n p

pub none_placed : (n p : ℕ) → IsUpTo 0 (place_at (replicate n free) p)
none_placed n p = subst (IsUpTo 0) (sym (all_free n p)) (omega arith)

pub opens : (first : ℕ) (words : List ℕ) → first ≤ 1073741823 → words ≡ 0 ∷ replicate 3776 0 → IsHeld first record { words = words; homes = []; views = first_view first ∷ [] }
opens first words small is = record {
  counter = 0;
  me = first_view first;
  words = is ∙ ap (λ (l : List ℕ). 0 ∷ l) (sym (words_free 3776));
  many = length-replicate {A = Place} 3776 free;
  kept = record {
    at_api = refl;
    is_api = refl;
    each = one_view;
    once = λ n. sym (nothing_between n);
    counted = refl;
    off = carries_none;
    off_once = λ e. omega arith;
    off_below = λ e le. refl;
    off_count = refl;
    off_most = omega arith;
    gathered_most = omega arith;
    from_first = omega arith;
    frame_most = small;
    base_most = omega arith;
    placed = none_placed 3776;
    greatest_most = omega arith;
    shown = tt;
  };
}
  where
    one_view : (i : ℕ) (v : SeatView) → get_elem? (first_view first ∷ []) i ≡ some v → FitsAs first (replicate 3776 free) 0 i v v.role
    one_view zero v e = subst (λ (u : SeatView). FitsAs first (replicate 3776 free) 0 0 u u.role) (some-injective (first_view first) v e) refl
    one_view (suc i) v e = absurd (some-ne-none v (sym e))

    carries_none : (e : ℕ) → total (carries e) (first_view first ∷ []) ≡ 0
    carries_none e = dite (ℕ_discrete 0 e) (λ (z : 0 ≡ e). rw (eq-eqb 0 e z) refl) (λ (ne : 0 ≢ e). rw (ne_eqb 0 e ne) refl)

    nothing_between : (n : ℕ) → once_between 0 0 n ≡ 0
    nothing_between n = between_above 0 0 n (omega arith)

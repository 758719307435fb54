-- Each change of views keeps the rule.
use Rattle.std.proofs.Common.{Bool, if◌then◌else◌, ◌≡◌, ◌≢◌, ℕ, zero, suc, ◌+◌, ◌-◌, ◌*◌, ◌<◌, ◌≤◌, List, [], ◌∷◌, ◌++◌, length, set, sym, refl, ap, ◌∙◌, subst, arith, ⊎_elim, length-append, eq-eqb, ne_eqb}
use Rattle.std.proofs.lemmas.List.{append-nil}
use mathlib.Core.Option.{some, some-injective, some-ne-none}
use mathlib.Core.Logic.{dite}
use native.Mathlib.Decide.{ℕ_discrete}
use lib.ListN.{get_elem?}
use Rattle.atomic_table.proofs.Lists.{at_set, set_here, set_else, at_longer, at_snoc}
use Rattle.schedule_model.specs.Machine.{Place, place_at}
use Rattle.schedule_model.specs.Held.{Follows, is_same, count_of}
use Rattle.schedule_model.proofs.Lists.{count_of-append, ascends-snoc}
use Rattle.hold_table.specs.Words.{word_of, IsUpTo}
use Rattle.hold_table.specs.Views.{Role, api, recorder, spent, SeatView, spent_view, lent, fresh, without, more, gathered, drawn, learnt, advanced, asks, once_between}
use Rattle.hold_table.specs.Rule.{total, holds_number, number_count, recording_as, recording, carries, IsRecorderOf, FitsAs, Kept}
use Rattle.hold_table.proofs.PlaceLaws.{Moves, follows_set, there_set, there_snoc, shown_set, up_to-le, up_to-set}
use Rattle.hold_table.proofs.Totals.{total_set, total_snoc, total_at, total_most, count_here, count_other, below_from_counts, between_below, between_above, between_in, once_by, in_range}

-- ---- roles

no_api : recorder ≡ api → ⊥
no_api e = cc

-- the API's view is the one at 0
pub api_at : (first : ℕ) (me : SeatView) (counter : ℕ) (views : List SeatView) → Kept first me counter views → (id : ℕ) (v : SeatView) → get_elem? views id ≡ some v → v.role ≡ api → (id ≡ 0) × (v ≡ me)
api_at first me counter views k id v at is =
    let zeroth : id ≡ 0 = subst (FitsAs me.frame me.places me.greatest id v) is (k.each id v at) in
    (zeroth, some-injective v me (sym at ∙ subst (λ (i : ℕ). get_elem? views i ≡ some me) (sym zeroth) k.at_api))

-- a recorder is elsewhere, and the rule says what it knows
pub recorder_fits : (first : ℕ) (me : SeatView) (counter : ℕ) (views : List SeatView) → Kept first me counter views → (id : ℕ) (v : SeatView) → get_elem? views id ≡ some v → v.role ≡ recorder
    → (id ≢ 0) × IsRecorderOf me.frame me.places me.greatest v
recorder_fits first me counter views k id v at is =
    let fits : FitsAs me.frame me.places me.greatest id v recorder = subst (FitsAs me.frame me.places me.greatest id v) is (k.each id v at) in (
      (λ (z : id ≡ 0). let same : v ≡ me = some-injective v me (sym at ∙ subst (λ (i : ℕ). get_elem? views i ≡ some me) (sym z) k.at_api) in
          no_api (sym is ∙ ap (λ (u : SeatView). u.role) same ∙ k.is_api)),
      fits,
    )

-- what the rule says of each view stays where one changes
each_set : (frame : ℕ) (places : List Place) (greatest : ℕ) (views : List SeatView) (id : ℕ) (w : SeatView) → ((i : ℕ) (v : SeatView) → get_elem? views i ≡ some v → FitsAs frame places greatest i v v.role) → FitsAs frame places greatest id w w.role
    → (i : ℕ) (v : SeatView) → get_elem? (set views id w) i ≡ some v → FitsAs frame places greatest i v v.role
each_set frame places greatest views id w old new i v e = ⊎_elim
    (λ (t : (i ≡ id) × (w ≡ v)). subst (λ (y : ℕ × SeatView). FitsAs frame places greatest y.0 y.1 y.1.role) (λ j. (sym t.0 j, t.1 j)) new)
    (λ (t : (i ≢ id) × (get_elem? views i ≡ some v)). old i v t.1)
    (at_set views id i w v e)

-- ---- a number is drawn

-- no seat has a number from the counter on
pub none_above : (first : ℕ) (me : SeatView) (counter : ℕ) (views : List SeatView) → Kept first me counter views → (id : ℕ) (v : SeatView) → get_elem? views id ≡ some v → (n : ℕ) → counter ≤ n → count_of n v.numbers ≡ 0
none_above first me counter views k id v at n le =
    let a : total (holds_number n) views ≡ 0 = k.once n ∙ between_above me.base counter n le in
    let t = total_at (holds_number n) views id v at in omega arith

-- a count of drawn numbers, and one more at the counter
drawn_once : (base counter n before : ℕ) → base ≤ counter → before ≡ once_between base counter n → before + count_of n (counter ∷ []) ≡ once_between base (suc counter) n
drawn_once base counter n before from old = once_by base (suc counter) n (before + count_of n (counter ∷ []))
    (λ lt. let b = old ∙ between_below base counter n lt in let no = count_other n counter [] (λ (z : counter ≡ n). omega arith) in omega arith)
    (λ le lt. dite (ℕ_discrete counter n)
    (λ (z : counter ≡ n). let b = old ∙ between_above base counter n (omega arith) in let here : count_of n (counter ∷ []) ≡ 1 = ap (λ (m : ℕ). count_of n (m ∷ [])) z ∙ count_here n [] in omega arith)
    (λ (ne : counter ≢ n). let b = old ∙ between_in base counter n le (omega arith) in let no = count_other n counter [] ne in omega arith))
    (λ le. let b = old ∙ between_above base counter n (omega arith) in let no = count_other n counter [] (λ (z : counter ≡ n). omega arith) in omega arith)

pub draw_kept : (first : ℕ) (me : SeatView) (counter : ℕ) (views : List SeatView) → Kept first me counter views → (id : ℕ) (v : SeatView) → get_elem? views id ≡ some v → v.role ≡ recorder → length v.numbers < 8191
    → Kept first me (suc counter) (set views id (drawn counter v))
draw_kept first me counter views k id v at is few =
    let w : SeatView = drawn counter v in
    let fits = recorder_fits first me counter views k id v at is in
    let f = fits.1 in
    let long : length w.numbers ≡ suc (length v.numbers) = omega (arith, length-append v.numbers (counter ∷ [])) in
    let numbers : (n : ℕ) → total (holds_number n) (set views id w) ≡ total (holds_number n) views + count_of n (counter ∷ []) =
    λ n. let t = total_set (holds_number n) views id v w at in let a = count_of-append n v.numbers (counter ∷ []) in omega arith in
    record {
      at_api = set_else views id 0 w (λ (z : 0 ≡ id). fits.0 (sym z)) ∙ k.at_api;
      is_api = k.is_api;
      each = each_set me.frame me.places me.greatest views id w k.each (subst (FitsAs me.frame me.places me.greatest id w) (sym is) (record { frame_is = f.frame_is; few = omega arith; ascends = ascends-snoc v.numbers counter f.ascends (below_from_counts counter v.numbers (none_above first me counter views k id v at)); older = f.older; follows = f.follows; there = f.there }));
      once = λ n. numbers n ∙ drawn_once me.base counter n (total (holds_number n) views) (let c = k.counted in omega arith) (k.once n);
      counted = let t = total_set number_count views id v w at in let c = k.counted in omega arith;
      off = λ e. let t = total_set (carries e) views id v w at in let o = k.off e in omega arith;
      off_once = k.off_once;
      off_below = k.off_below;
      off_count = let t = total_set recording views id v w at in let o = k.off_count in omega arith;
      off_most = k.off_most;
      gathered_most = k.gathered_most;
      from_first = k.from_first;
      frame_most = k.frame_most;
      base_most = k.base_most;
      placed = k.placed;
      greatest_most = k.greatest_most;
      shown = k.shown;
    }

-- ---- a recorder begins

pub split_kept : (first : ℕ) (me : SeatView) (counter : ℕ) (views : List SeatView) → Kept first me counter views → (e : ℕ) → e < 8 → count_of e me.off ≡ 0 → length me.off + me.joined < 8
    → Kept first (lent e me) counter (set views 0 (lent e me) ++ fresh e me ∷ [])
split_kept first me counter views k e small new room =
    let w : SeatView = lent e me in
    let u : SeatView = fresh e me in
    let same : (f : SeatView → ℕ) → total f (set views 0 w ++ u ∷ []) + f me ≡ total f views + f w + f u =
    λ f. let t = total_set f views 0 me w k.at_api in let a = total_snoc f (set views 0 w) u in omega arith in
    let moved : (f : SeatView → ℕ) → f w ≡ f me → f u ≡ 0 → total f (set views 0 w ++ u ∷ []) ≡ total f views = λ f a b. let t = same f in omega arith in
    let zeroth : recording me ≡ 0 = ap recording_as k.is_api in
    record {
      at_api = at_longer (set views 0 w) (u ∷ []) 0 w (set_here views 0 w (in_range views 0 me k.at_api));
      is_api = k.is_api;
      each = λ i v at. ⊎_elim
          (λ (t : get_elem? (set views 0 w) i ≡ some v). each_set me.frame me.places me.greatest views 0 w k.each (subst (FitsAs me.frame me.places me.greatest 0 w) (sym k.is_api) refl) i v t)
          (λ (t : u ≡ v). subst (λ (y : SeatView). FitsAs me.frame me.places me.greatest i y y.role) t (record { frame_is = refl; few = omega arith; ascends = tt; older = omega arith; follows = λ p. is_same refl; there = tt }))
          (at_snoc (set views 0 w) u v i at);
      once = λ n. moved (holds_number n) refl refl ∙ k.once n;
      counted = let t = moved number_count refl refl in let c = k.counted in omega arith;
      off = λ x. let t = same (carries x) in let o = k.off x in omega arith;
      off_once = λ x. dite (ℕ_discrete e x)
          (λ (z : e ≡ x). let here : count_of x (e ∷ me.off) ≡ suc (count_of x me.off) = ap (λ (m : ℕ). count_of x (m ∷ me.off)) z ∙ count_here x me.off in let none : count_of x me.off ≡ 0 = ap (λ (m : ℕ). count_of m me.off) (sym z) ∙ new in omega arith)
          (λ (ne : e ≢ x). let t = count_other x e me.off ne in let o = k.off_once x in omega arith);
      off_below = λ x le. let t = count_other x e me.off (λ (z : e ≡ x). omega arith) in let o = k.off_below x le in omega arith;
      off_count = let t = same recording in let o = k.off_count in omega arith;
      off_most = omega arith;
      gathered_most = k.gathered_most;
      from_first = k.from_first;
      frame_most = k.frame_most;
      base_most = k.base_most;
      placed = k.placed;
      greatest_most = k.greatest_most;
      shown = k.shown;
    }

-- ---- a recorder is joined

-- the encoder numbers that are off, without one of them
pub count_without : (x y : ℕ) (xs : List ℕ) → 1 ≤ count_of y xs → count_of x (without y xs) + count_of x (y ∷ []) ≡ count_of x xs
count_without x y [] some_y = absurd (omega arith)
count_without x y (z ∷ zs) some_y = dite (ℕ_discrete z y)
    (λ (is : z ≡ y). rw (eq-eqb z y is) (let here : count_of x (z ∷ []) ≡ count_of x (y ∷ []) = ap (λ (m : ℕ). count_of x (m ∷ [])) is in omega arith))
    (λ (ne : z ≢ y). let rest : 1 ≤ count_of y zs = omega (arith, count_other y z zs ne) in let r = count_without x y zs rest in rw (ne_eqb z y ne) (omega arith))

pub length_without : (y : ℕ) (xs : List ℕ) → 1 ≤ count_of y xs → suc (length (without y xs)) ≡ length xs
length_without y [] some_y = absurd (omega arith)
length_without y (z ∷ zs) some_y = dite (ℕ_discrete z y)
    (λ (is : z ≡ y). rw (eq-eqb z y is) (omega arith))
    (λ (ne : z ≢ y). let rest : 1 ≤ count_of y zs = omega (arith, count_other y z zs ne) in let r = length_without y zs rest in rw (ne_eqb z y ne) (omega arith))

more_most : (xs : List ℕ) (n m : ℕ) → length xs ≤ 8191 → m ≤ 8191 * n → (m + length xs ≤ 8191 * more xs n) × (more xs n ≤ suc n)
more_most [] n m a b = (omega arith, omega arith)
more_most (x ∷ xs) n m a b = (omega arith, omega arith)

pub carries_here : (w : SeatView) → w.role ≡ recorder → carries w.encoder w ≡ 1
carries_here w is = rw (eq-eqb w.encoder w.encoder refl) (ap recording_as is)

carries_as : (x : ℕ) (w : SeatView) → w.role ≡ recorder → carries x w ≡ count_of x (w.encoder ∷ [])
carries_as x w is = dite (ℕ_discrete w.encoder x)
    (λ (e : w.encoder ≡ x). let here : count_of x (w.encoder ∷ []) ≡ 1 = ap (λ (m : ℕ). count_of x (m ∷ [])) e ∙ count_here x [] in rw (eq-eqb w.encoder x e) (ap recording_as is))
    (λ (ne : w.encoder ≢ x). rw (ne_eqb w.encoder x ne) (omega arith))

carries_spent : (x : ℕ) → carries x spent_view ≡ 0
carries_spent x = dite (ℕ_discrete 0 x) (λ (e : 0 ≡ x). rw (eq-eqb 0 x e) refl) (λ (ne : 0 ≢ x). rw (ne_eqb 0 x ne) refl)

pub join_kept : (first : ℕ) (me : SeatView) (counter : ℕ) (views : List SeatView) → Kept first me counter views → (other : ℕ) (w : SeatView) → other ≢ 0 → get_elem? views other ≡ some w → w.role ≡ recorder
    → Kept first (gathered me w) counter (set (set views 0 (gathered me w)) other spent_view)
join_kept first me counter views k other w apart at is =
    let both : SeatView = gathered me w in
    let at' : get_elem? (set views 0 both) other ≡ some w = set_else views 0 other both apart ∙ at in
    let fits = recorder_fits first me counter views k other w at is in
    let same : (f : SeatView → ℕ) → total f (set (set views 0 both) other spent_view) + f w + f me ≡ total f views + f both + f spent_view =
    λ f. let t = total_set f views 0 me both k.at_api in let a = total_set f (set views 0 both) other w spent_view at' in omega arith in
    let no : (n : ℕ) → total (holds_number n) (set (set views 0 both) other spent_view) ≡ total (holds_number n) views = λ n. let t = same (holds_number n) in let a = count_of-append n me.numbers w.numbers in omega arith in
    let stands : 1 ≤ count_of w.encoder me.off = let t = total_at (carries w.encoder) views other w at in let c = carries_here w is in let o = k.off w.encoder in omega arith in
    let shorter = length_without w.encoder me.off stands in
    let recorded : recording w ≡ 1 = ap recording_as is in
    let much = more_most w.numbers me.joined (length me.numbers) fits.1.few k.gathered_most in
    record {
      at_api = set_else (set views 0 both) other 0 spent_view (λ (z : 0 ≡ other). apart (sym z)) ∙ set_here views 0 both (in_range views 0 me k.at_api);
      is_api = k.is_api;
      each = each_set me.frame me.places me.greatest (set views 0 both) other spent_view (each_set me.frame me.places me.greatest views 0 both k.each (subst (FitsAs me.frame me.places me.greatest 0 both) (sym k.is_api) refl)) refl;
      once = λ n. no n ∙ k.once n;
      counted = let t = same number_count in let c = k.counted in let l = length-append me.numbers w.numbers in omega arith;
      off = λ x. let t = same (carries x) in let o = k.off x in let c = carries_as x w is in let z = carries_spent x in let l = count_without x w.encoder me.off stands in omega arith;
      off_once = λ x. let t = count_without x w.encoder me.off stands in let o = k.off_once x in omega arith;
      off_below = λ x le. let t = count_without x w.encoder me.off stands in let o = k.off_below x le in omega arith;
      off_count = let t = same recording in let o = k.off_count in omega arith;
      off_most = let a = much.1 in let o = k.off_most in omega arith;
      gathered_most = let a = much.0 in omega (arith, length-append me.numbers w.numbers);
      from_first = k.from_first;
      frame_most = k.frame_most;
      base_most = k.base_most;
      placed = k.placed;
      greatest_most = k.greatest_most;
      shown = ((fits.1.frame_is, (let o = k.off_once w.encoder in omega arith), fits.1.there, fits.1.ascends), tt);
    }

-- ---- the API's view alone changes, and keeps its numbers and those that are off

pub learn_kept : (first : ℕ) (me : SeatView) (counter : ℕ) (views : List SeatView) → Kept first me counter views → Kept first (learnt me) counter (set views 0 (learnt me))
learn_kept first me counter views k =
    let w : SeatView = learnt me in
    let same : (f : SeatView → ℕ) → f w ≡ f me → total f (set views 0 w) ≡ total f views = λ f e. let t = total_set f views 0 me w k.at_api in omega arith in
    record {
      at_api = set_here views 0 w (in_range views 0 me k.at_api);
      is_api = k.is_api;
      each = each_set me.frame me.places me.greatest views 0 w k.each (subst (FitsAs me.frame me.places me.greatest 0 w) (sym k.is_api) refl);
      once = λ n. same (holds_number n) refl ∙ k.once n;
      counted = let t = same number_count refl in let c = k.counted in omega arith;
      off = λ x. same (carries x) refl ∙ k.off x;
      off_once = k.off_once;
      off_below = k.off_below;
      off_count = same recording refl ∙ k.off_count;
      off_most = k.off_most;
      gathered_most = k.gathered_most;
      from_first = k.from_first;
      frame_most = k.frame_most;
      base_most = k.base_most;
      placed = k.placed;
      greatest_most = k.greatest_most;
      shown = tt;
    }

-- how far the counter came
pub counter_most : (first : ℕ) (me : SeatView) (counter : ℕ) (views : List SeatView) → Kept first me counter views → counter ≤ 65528 * suc (me.frame - first)
counter_most first me counter [] k = absurd (some-ne-none me (sym k.at_api))
counter_most first me counter (x ∷ xs) k =
    let same : x ≡ me = some-injective x me k.at_api in
    let own : length x.numbers ≡ length me.numbers = ap number_count same in
    let most = total_most number_count recording 8191 xs (λ i v e. below i v v.role refl (k.each (suc i) v e)) in
    let zeroth : recording x ≡ 0 = ap recording same ∙ ap recording_as k.is_api in
    let c = k.counted in let o = k.off_count in let m = k.off_most in let g = k.gathered_most in let b = k.base_most in omega arith
  where
    below : (i : ℕ) (v : SeatView) (r : Role) → v.role ≡ r → FitsAs me.frame me.places me.greatest (suc i) v r → number_count v ≤ 8191 * recording v
    below i v api is fit = absurd (omega arith)
    below i v recorder is fit = let one : recording v ≡ 1 = ap recording_as is in let f = fit.few in omega arith
    below i v spent is fit = let none_there : length v.numbers ≡ 0 = ap length fit in omega arith

-- ---- the next frame starts

-- with no recorder, the views beside the API's have nothing
others_empty : (first : ℕ) (me : SeatView) (counter : ℕ) (x : SeatView) (xs : List SeatView) → Kept first me counter (x ∷ xs) → me.off ≡ [] → (f : SeatView → ℕ) → ((v : SeatView) → v.numbers ≡ [] → v.role ≡ spent → f v ≡ 0) → total f xs ≡ 0
others_empty first me counter x xs k none_off f zero_at = let t = total_most f (λ _. 0) 0 xs (λ i v e. empty i v v.role refl e (k.each (suc i) v e)) in omega arith
  where
    nobody : total recording xs ≡ 0
    nobody = let o = k.off_count in let l : length me.off ≡ 0 = ap length none_off in omega arith

    empty : (i : ℕ) (v : SeatView) (r : Role) → v.role ≡ r → get_elem? xs i ≡ some v → FitsAs me.frame me.places me.greatest (suc i) v r → f v ≤ 0 * 0
    empty i v api is e fit = absurd (omega arith)
    empty i v recorder is e fit = let one : recording v ≡ 1 = ap recording_as is in let t = total_at recording xs i v e in let n = nobody in absurd (omega arith)
    empty i v spent is e fit = let z = zero_at v fit is in omega arith

-- and the API has gathered each number from the base on, once
pub gathered_all : (first : ℕ) (me : SeatView) (counter : ℕ) (views : List SeatView) → Kept first me counter views → me.off ≡ []
    → ((n : ℕ) → count_of n me.numbers ≡ once_between me.base counter n) × (me.base + length me.numbers ≡ counter)
gathered_all first me counter [] k none_off = absurd (some-ne-none me (sym k.at_api))
gathered_all first me counter (x ∷ xs) k none_off = (
  (λ n. let z = others_empty first me counter x xs k none_off (holds_number n) (λ v e s. ap (count_of n) e) in
      let own : count_of n x.numbers ≡ count_of n me.numbers = ap (holds_number n) (some-injective x me k.at_api) in
      let all : count_of n me.numbers ≡ total (holds_number n) (x ∷ xs) = omega arith in all ∙ k.once n),
  (let z = others_empty first me counter x xs k none_off number_count (λ v e s. ap length e) in
      let own : length x.numbers ≡ length me.numbers = ap number_count (some-injective x me k.at_api) in
      let c = k.counted in omega arith),
)

pub advance_kept : (first : ℕ) (me : SeatView) (counter : ℕ) (views : List SeatView) → Kept first me counter views → me.off ≡ [] → me.frame < 1073741823 → Kept first (advanced counter me) counter (set views 0 (advanced counter me))
advance_kept first me counter [] k none_off small = absurd (some-ne-none me (sym k.at_api))
advance_kept first me counter (x ∷ xs) k none_off small =
    let w : SeatView = advanced counter me in
    let empty = others_empty first me counter x xs k none_off in
    let most = counter_most first me counter (x ∷ xs) k in
    let numbers : (n : ℕ) → total (holds_number n) (w ∷ xs) ≡ 0 = λ n. let z = empty (holds_number n) (λ v e s. ap (count_of n) e) in omega arith in
    let start = k.from_first in
    let off_is : (e : ℕ) → total (carries e) (w ∷ xs) ≡ count_of e w.off = λ e. let o = k.off e in let s : carries e x ≡ carries e me = ap (carries e) (some-injective x me k.at_api) in omega arith in
    record {
      at_api = refl;
      is_api = k.is_api;
      each = each_next;
      once = λ n. once_by counter counter n (total (holds_number n) (w ∷ xs)) (λ lt. numbers n) (λ le lt. absurd (omega arith)) (λ le. numbers n);
      counted = let z = empty number_count (λ v e s. ap length e) in omega arith;
      off = off_is;
      off_once = k.off_once;
      off_below = k.off_below;
      off_count = let o = k.off_count in let s : recording x ≡ recording me = ap recording (some-injective x me k.at_api) in omega arith;
      off_most = let l : length me.off ≡ 0 = ap length none_off in omega arith;
      gathered_most = omega arith;
      from_first = omega arith;
      frame_most = omega arith;
      base_most = let f : suc me.frame - first ≡ suc (me.frame - first) = omega arith in rw f most;
      placed = k.placed;
      greatest_most = k.greatest_most;
      shown = tt;
    }
  where
    nobody : total recording xs ≡ 0
    nobody = let o = k.off_count in let l : length me.off ≡ 0 = ap length none_off in omega arith

    next_fit : (j : ℕ) (v : SeatView) → get_elem? xs j ≡ some v → (r : Role) → v.role ≡ r → FitsAs me.frame me.places me.greatest (suc j) v r → FitsAs (suc me.frame) me.places me.greatest (suc j) v r
    next_fit j v e api is fit = fit
    next_fit j v e recorder is fit = let one : recording v ≡ 1 = ap recording_as is in let t = total_at recording xs j v e in let n = nobody in absurd (omega arith)
    next_fit j v e spent is fit = fit

    each_next : (i : ℕ) (v : SeatView) → get_elem? (advanced counter me ∷ xs) i ≡ some v → FitsAs (suc me.frame) me.places me.greatest i v v.role
    each_next zero v e = subst (λ (u : SeatView). FitsAs (suc me.frame) me.places me.greatest 0 u u.role) (some-injective (advanced counter me) v e) (subst (FitsAs (suc me.frame) me.places me.greatest 0 (advanced counter me)) (sym k.is_api) refl)
    each_next (suc j) v e = next_fit j v e v.role refl (k.each (suc j) v e)

-- ---- a place changes

-- one view, after a place changed
refit_place : (me : SeatView) (p : ℕ) (y : Place) (g : ℕ) → Moves me.frame me.greatest (place_at me.places p) y → me.greatest ≤ g
    → (i : ℕ) (v : SeatView) (r : Role) → FitsAs me.frame me.places me.greatest i v r → FitsAs me.frame (set me.places p y) g i v r
refit_place me p y g m le i v api f = f
refit_place me p y g m le i v recorder f =
    let frame : v.frame ≡ me.frame = f.frame_is in
    let m' : Moves v.frame me.greatest (place_at me.places p) y = subst (λ (x : ℕ). Moves x me.greatest (place_at me.places p) y) (sym frame) m in
    let older : v.greatest ≤ me.greatest = f.older in
    record {
      frame_is = frame;
      few = f.few;
      ascends = f.ascends;
      older = omega arith;
      follows = follows_set v.frame me.greatest v.greatest p y v.places me.places m' older f.follows;
      there = there_set me.frame me.greatest p y me.places m v.asked f.there;
    }
refit_place me p y g m le i v spent f = f

-- the API's view with another place and another greatest serial
abbrev pub with_place : ℕ → Place → ℕ → SeatView → SeatView
with_place p y g v = record v { places = set v.places p y; greatest = g }

pub place_kept : (first : ℕ) (me : SeatView) (counter : ℕ) (views : List SeatView) → Kept first me counter views → (p : ℕ) (y : Place) (g : ℕ) → Moves me.frame me.greatest (place_at me.places p) y → me.greatest ≤ g → g ≤ 4294967295 → IsUpTo g y
    → Kept first (with_place p y g me) counter (set views 0 (with_place p y g me))
place_kept first me counter views k p y g m le small fits =
    let w : SeatView = with_place p y g me in
    let same : (f : SeatView → ℕ) → f w ≡ f me → total f (set views 0 w) ≡ total f views = λ f e. let t = total_set f views 0 me w k.at_api in omega arith in
    record {
      at_api = set_here views 0 w (in_range views 0 me k.at_api);
      is_api = k.is_api;
      each = each_set me.frame (set me.places p y) g views 0 w (λ i v e. refit_place me p y g m le i v v.role (k.each i v e)) (subst (FitsAs me.frame (set me.places p y) g 0 w) (sym k.is_api) refl);
      once = λ x. same (holds_number x) refl ∙ k.once x;
      counted = let t = same number_count refl in let c = k.counted in omega arith;
      off = λ x. same (carries x) refl ∙ k.off x;
      off_once = k.off_once;
      off_below = k.off_below;
      off_count = same recording refl ∙ k.off_count;
      off_most = k.off_most;
      gathered_most = k.gathered_most;
      from_first = k.from_first;
      frame_most = k.frame_most;
      base_most = k.base_most;
      placed = up_to-set me.greatest g p y me.places le fits k.placed;
      greatest_most = small;
      shown = shown_set me.frame me.greatest p y me.places m me.shows k.shown;
    }

-- ---- a recorder asks a place

pub ask_kept : (first : ℕ) (me : SeatView) (counter : ℕ) (views : List SeatView) → Kept first me counter views → (id : ℕ) (v : SeatView) → get_elem? views id ≡ some v → v.role ≡ recorder → (p : ℕ)
    → Kept first me counter (set views id (asks p (word_of (place_at me.places p)) v)) × Follows v.frame v.greatest (place_at v.places p) (place_at me.places p)
ask_kept first me counter views k id v at is p =
    let w : SeatView = asks p (word_of (place_at me.places p)) v in
    let fits = recorder_fits first me counter views k id v at is in
    let f = fits.1 in
    let up_to : IsUpTo 4294967295 (place_at me.places p) = up_to-le me.greatest 4294967295 (place_at me.places p) k.greatest_most (k.placed p) in
    let same : (h : SeatView → ℕ) → h w ≡ h v → total h (set views id w) ≡ total h views = λ h e. let t = total_set h views id v w at in omega arith in (
      record {
        at_api = set_else views id 0 w (λ (z : 0 ≡ id). fits.0 (sym z)) ∙ k.at_api;
        is_api = k.is_api;
        each = each_set me.frame me.places me.greatest views id w k.each (subst (FitsAs me.frame me.places me.greatest id w) (sym is) (record { frame_is = f.frame_is; few = f.few; ascends = f.ascends; older = f.older; follows = f.follows; there = there_snoc me.frame p me.places v.asked up_to f.there }));
        once = λ x. same (holds_number x) refl ∙ k.once x;
        counted = let t = same number_count refl in let c = k.counted in omega arith;
        off = λ x. same (carries x) refl ∙ k.off x;
        off_once = k.off_once;
        off_below = k.off_below;
        off_count = same recording refl ∙ k.off_count;
        off_most = k.off_most;
        gathered_most = k.gathered_most;
        from_first = k.from_first;
        frame_most = k.frame_most;
        base_most = k.base_most;
        placed = k.placed;
        greatest_most = k.greatest_most;
        shown = k.shown;
      },
      f.follows p,
    )

-- a recorder that is joined unused leaves what the API knew before it began
pub unused : (e : ℕ) (v : SeatView) → v.shows ≡ [] → learnt (gathered (lent e v) (fresh e v)) ≡ v
unused e v none =
    (λ j. record v {
      numbers = append-nil v.numbers j;
      off = (ap (λ (b : Bool). if b then v.off else (e ∷ without e v.off)) (eq-eqb e e refl)) j;
      shows = sym none j;
    })

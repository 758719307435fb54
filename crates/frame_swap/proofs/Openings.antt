-- The table at the start, its slots claimed, and the render end made and joined.
use Rattle.std.proofs.Common.{◌≡◌, ◌≢◌, ℕ, zero, suc, ◌%◌, ◌<◌, ◌≤◌, Bool, true, false, true≢false, List, [], ◌∷◌, ◌++◌, map, length, set, sym, refl, ap, ◌∙◌, subst, ⊎_elim, ◌⊎◌, inl, inr, arith, None, mod-lt, mod-eq_of_lt, replicate}
use Rattle.std.proofs.lemmas.List.{append-nil, map-set, length-replicate}
use lib.ListN.{get_elem?}
use mathlib.Core.Option.{none, some, some-injective, some-ne-none}
use mathlib.Core.Option as maybe
use Rattle.atomic_table.specs.Table.{step, takes, Allows, Splits, Joins}
use Rattle.atomic_table.proofs.Lists.{set_else, at_longer, at_map}
use Rattle.frame_record.specs.declared.frame.Frame.{Frame}
use Rattle.frame_record.specs.declared.frame.RenderedFrame.{RenderedFrame}
use Rattle.frame_record.specs.Links.{frames_of}
use Rattle.frame_swap.specs.Views.{Side, api, render, spent, SwapView, first_view, spent_view, Slot, Mine, claimed_one, Claims, parted, render_view, united, Learns}
use Rattle.frame_swap.specs.Rule.{Phase, unclaimed, idle, given_at, taken_at, returned_at, stopped_at, code, home, IsFree, FitsAs, SeenIfStopped, Kept, IsRing, IsHeld}
use Rattle.frame_swap.proofs.Ring.{at_next, nil_of, ring_claim}
use Rattle.frame_swap.proofs.Steps.{Done, allows_from, Each, each_set, refit, seen_set, render_at, counts, api_each, api_here, api_seen, api_kept, stays}

-- ---- a slot is claimed

pub claims_keep : (n slots id : ℕ) (me : Mine) (i : ℕ) → me.0 ≡ (record first_view { claimed = i }) → i < n → Allows (IsHeld n) slots id me i (λ _. 0) (λ _. Claims (step slots i 0 0 none) me 0)
claims_keep n slots id me i early lt = allows_from n slots id me i (λ _. 0) (λ _. Claims (step slots i 0 0 none) me 0) go
  where
    old : SwapView
    old = record first_view { claimed = i }

    unclaimed_is : (s : Bool) (q : Phase) → IsFree i s i q → q ≡ unclaimed
    unclaimed_is s unclaimed f = refl
    unclaimed_is s idle f = absurd (omega arith)
    unclaimed_is s (given_at g) f = absurd f
    unclaimed_is s (taken_at g) f = absurd f
    unclaimed_is s (returned_at g) f = absurd f
    unclaimed_is s stopped_at f = let g = f.0 in absurd (omega arith)

    after : (phases : List Phase) (views : List SwapView) → id ≡ 0 → (returned : List RenderedFrame) (in_hand waiting : List Frame) (coming : List RenderedFrame) (seat : ℕ) → Kept n old returned in_hand waiting coming seat phases views
        → Done n phases views id me i (λ _. 0) (λ _. Claims (step slots i 0 0 none) me 0)
    after phases views first (x ∷ xs) in_hand waiting coming seat k = let e = ap (λ (l : List Frame). length l) k.given_is in absurd (omega arith)
    after phases views first [] (x ∷ xs) waiting coming seat k = let e = ap (λ (l : List Frame). length l) k.given_is in absurd (omega arith)
    after phases views first [] [] (x ∷ xs) coming seat k = let e = ap (λ (l : List Frame). length l) k.given_is in absurd (omega arith)
    after phases views first [] [] [] coming seat k =
        let here = k.ring.fits i (omega arith) (omega arith) in
        let index : i % n ≡ i = mod-eq_of_lt lt in
        let is_new : here.0 ≡ unclaimed = unclaimed_is false here.0 (subst (λ (x : ℕ). IsFree i false x here.0) index here.2) in
        let there : get_elem? phases i ≡ some unclaimed = ap (λ (x : ℕ). get_elem? phases x) (sym index) ∙ here.1 ∙ ap some is_new in
        let w : SwapView = claimed_one old in
        let same : claimed_one me.0 ≡ w = ap claimed_one early in
        let fits : Kept n w [] [] [] coming seat (set phases i idle) (set views 0 w) = record {
          at_api = api_here k w;
          is_api = refl;
          each = api_each k w refl;
          alone = k.alone;
          back_is = k.back_is;
          given_is = k.given_is;
          one_hand = k.one_hand;
          early = λ _. refl;
          ring = ring_claim k.ring lt;
          beside = λ h. absurd (true≢false h);
          stop = record { early = omega arith; stands = λ h _. absurd (true≢false (sym h)) };
          seen = api_seen k w refl;
        } in
        record {
          found = unclaimed;
          next = idle;
          at = there;
          turns = refl;
          view = claimed_one me.0;
          act = takes i None;
          valid = at_map home phases i unclaimed there;
          homes = sym (map-set home phases i idle);
          ring = record { me = w; returned = []; in_hand = []; waiting = []; coming = coming; seat = seat; kept = subst (λ (x : ℕ × SwapView). Kept n w [] [] [] coming seat (set phases i idle) (set views x.0 x.1)) (λ j. (sym first j, sym same j)) fits };
          told = refl;
        }

    go : (phases : List Phase) (views : List SwapView) → IsRing n phases views → get_elem? views id ≡ some me.0 → Done n phases views id me i (λ _. 0) (λ _. Claims (step slots i 0 0 none) me 0)
    go phases views r at =
        let here = api_kept r id me.0 at (ap (λ (v : SwapView). v.side) early) in
        after phases views here.0 r.returned r.in_hand r.waiting r.coming r.seat (subst (λ (v : SwapView). Kept n v r.returned r.in_hand r.waiting r.coming r.seat phases views) early here.1)

-- ---- the table at the start

pub opens : (n : ℕ) → 0 < n → IsHeld n record { words = replicate n 0; homes = map some (replicate n None); views = first_view ∷ [] }
opens n some_word = record {
  phases = replicate n unclaimed;
  words = all_codes n;
  homes = all_homes n;
  ring = record {
    me = first_view;
    returned = [];
    in_hand = [];
    waiting = [];
    coming = [];
    seat = 1;
    kept = record {
      at_api = refl;
      is_api = refl;
      each = one_view;
      alone = λ _. (refl, refl);
      back_is = refl;
      given_is = refl;
      one_hand = omega arith;
      early = λ _. refl;
      ring = record {
        some_word = some_word;
        long = length-replicate n unclaimed;
        few = omega arith;
        claimed_most = omega arith;
        fits = λ p _ _. (unclaimed, all_unclaimed n (p % n) (mod-lt p some_word), omega arith);
      };
      beside = λ h. absurd (true≢false h);
      stop = record { early = omega arith; stands = λ h _. absurd (true≢false (sym h)) };
      seen = none_seen;
    };
  };
}
  where
    all_codes : (m : ℕ) → replicate m 0 ≡ map code (replicate m unclaimed)
    all_codes zero = refl
    all_codes (suc m) = ap (λ (l : List ℕ). 0 ∷ l) (all_codes m)

    all_homes : (m : ℕ) → map some (replicate m None) ≡ map home (replicate m unclaimed)
    all_homes zero = refl
    all_homes (suc m) = ap (λ (l : List (maybe.Option Slot)). some None ∷ l) (all_homes m)

    all_unclaimed : (m i : ℕ) → i < m → get_elem? (replicate m unclaimed) i ≡ some unclaimed
    all_unclaimed zero i h = absurd (omega arith)
    all_unclaimed (suc m) zero h = refl
    all_unclaimed (suc m) (suc i) h = all_unclaimed m i (omega arith)

    one_view : (i : ℕ) (v : SwapView) → get_elem? (first_view ∷ []) i ≡ some v → FitsAs 1 true [] [] i v v.side
    one_view zero v e = subst (λ (u : SwapView). FitsAs 1 true [] [] 0 u u.side) (some-injective first_view v e) refl
    one_view (suc i) v e = absurd (some-ne-none v (sym e))

    none_seen : SeenIfStopped false (first_view ∷ [])
    none_seen zero v e one = let none : 0 ≡ v.stops = ap (λ (u : SwapView). u.stops) (some-injective first_view v e) in absurd (omega (arith, none, one))
    none_seen (suc i) v e one = absurd (some-ne-none v (sym e))

-- ---- the render end is made, and joined

at_end : (l : List SwapView) (a b : SwapView) (j : ℕ) → get_elem? (l ++ a ∷ []) j ≡ some b → (get_elem? l j ≡ some b) ⊎ ((j ≡ length l) × (a ≡ b))
at_end [] a b zero e = inr (refl, some-injective a b e)
at_end [] a b (suc j) e = absurd (some-ne-none b (sym e))
at_end (x ∷ xs) a b zero e = inl e
at_end (x ∷ xs) a b (suc j) e = ⊎_elim (λ t. inl t) (λ t. inr (ap suc t.0, t.1)) (at_end xs a b j e)

whole_again : (j : ℕ) (is_whole : Bool) (taken : List Frame) (returned : List RenderedFrame) (i : ℕ) (v : SwapView) → i ≢ j → (s : Side) → FitsAs j is_whole taken returned i v s → FitsAs j true taken returned i v s
whole_again j is_whole taken returned i v away api f = f
whole_again j is_whole taken returned i v away render f = absurd (away f.0)
whole_again j is_whole taken returned i v away spent f = f

pub parts_keep : (n id : ℕ) (v : SwapView) → v.side ≡ api → v.is_whole ≡ true → Splits (IsHeld n) id v (parted v) (render_view v)
parts_keep n id v is whole s h at =
    let r : IsRing n h.phases s.views = h.ring in
    let here = api_kept r id v at is in
    let k = here.1 in
    let taken = frames_of r.returned ++ r.in_hand in
    let alone = k.alone whole in
    let w : SwapView = parted v in
    let u : SwapView = render_view v in
    let j : ℕ = length (set s.views 0 w) in
    let old : Each r.seat true taken r.returned s.views = λ i x e. subst (λ (b : Bool). FitsAs r.seat b taken r.returned i x x.side) whole (k.each i x e) in
    let fits : Kept n w r.returned r.in_hand r.waiting r.coming j h.phases (set s.views 0 w ++ u ∷ []) = record {
      at_api = at_longer (set s.views 0 w) (u ∷ []) 0 w (api_here k w);
      is_api = k.is_api;
      each = λ i x e. ⊎_elim
          (λ (t : get_elem? (set s.views 0 w) i ≡ some x). each_set j false taken r.returned s.views 0 w (λ i' x' _ e'. refit r.seat j false taken taken r.returned r.returned i' x' x'.side (old i' x' e')) (subst (FitsAs j false taken r.returned 0 w) (sym is) refl) i x t)
          (λ (t : (i ≡ j) × (u ≡ x)). subst (λ (y : SwapView). FitsAs j false taken r.returned i y y.side) t.1 (t.0, refl, alone.0, alone.1))
          (at_end (set s.views 0 w) u x i e);
      alone = λ e. absurd (true≢false (sym e));
      back_is = k.back_is;
      given_is = k.given_is;
      one_hand = k.one_hand;
      early = k.early;
      ring = k.ring;
      beside = λ _. (u, at_next (set s.views 0 w) u [], refl);
      stop = k.stop;
      seen = λ i x e one. ⊎_elim
          (λ (t : get_elem? (set s.views 0 w) i ≡ some x). api_seen k w refl i x t one)
          (λ (t : (i ≡ j) × (u ≡ x)). k.seen 0 v k.at_api (subst (λ (y : SwapView). 1 ≤ y.stops) (sym t.1) one))
          (at_end (set s.views 0 w) u x i e);
    } in
    record {
      phases = h.phases;
      words = h.words;
      homes = h.homes;
      ring = record { me = w; returned = r.returned; in_hand = r.in_hand; waiting = r.waiting; coming = r.coming; seat = j; kept = subst (λ (x : ℕ). Kept n w r.returned r.in_hand r.waiting r.coming j h.phases (set s.views x w ++ u ∷ [])) (sym here.0) fits };
    }

pub joins_keep : (n id : ℕ) (v : SwapView) (other : ℕ) (w : SwapView) → v.side ≡ api → w.side ≡ render → Joins (IsHeld n) id v other w (united v w) spent_view
joins_keep n id v other w is was s h at apart there =
    let r : IsRing n h.phases s.views = h.ring in
    let here = api_kept r id v at is in
    let k = here.1 in
    let taken = frames_of r.returned ++ r.in_hand in
    let both : SwapView = united v w in
    let ne : other ≢ 0 = λ (z : other ≡ 0). apart (z ∙ sym here.0) in
    let there' : get_elem? (set s.views 0 both) other ≡ some w = subst (λ (x : ℕ). get_elem? (set s.views x both) other ≡ some w) here.0 there in
    let at' : get_elem? s.views other ≡ some w = sym (set_else s.views 0 other both ne) ∙ there' in
    let mine = render_at k other w at' was in
    let fits : Kept n both r.returned r.in_hand r.waiting r.coming r.seat h.phases (set (set s.views 0 both) other spent_view) = record {
      at_api = set_else (set s.views 0 both) other 0 spent_view (λ (z : 0 ≡ other). ne (sym z)) ∙ api_here k both;
      is_api = k.is_api;
      each = each_set r.seat true taken r.returned (set s.views 0 both) other spent_view (λ i x away e. whole_again r.seat v.is_whole taken r.returned i x (λ (z : i ≡ r.seat). away (z ∙ sym mine.0)) x.side (api_each k both is i x e)) tt;
      alone = λ _. (mine.2, mine.3);
      back_is = k.back_is;
      given_is = k.given_is;
      one_hand = k.one_hand;
      early = k.early;
      ring = k.ring;
      beside = λ e. absurd (true≢false e);
      stop = k.stop;
      seen = seen_set v.is_stopped v.is_stopped (set s.views 0 both) other spent_view (seen_set v.is_stopped v.is_stopped s.views 0 both k.seen (λ h. h) (λ one. k.seen other w at' one)) (λ h. h) (λ one. absurd (omega (arith, one)));
    } in
    record {
      phases = h.phases;
      words = h.words;
      homes = h.homes;
      ring = record {
        me = both;
        returned = r.returned;
        in_hand = r.in_hand;
        waiting = r.waiting;
        coming = r.coming;
        seat = r.seat;
        kept = subst (λ (x : ℕ). Kept n both r.returned r.in_hand r.waiting r.coming r.seat h.phases (set (set s.views x both) other spent_view)) (sym here.0) fits;
      };
    }

-- with both views and nothing out, all is known
pub learns_keep : (n slots id : ℕ) (me : Mine) → me.0.side ≡ api → length me.0.given ≡ length me.0.back → me.0.is_whole ≡ true → Allows (IsHeld n) slots id me 0 (λ x. x) (Learns (step slots 0 0 0 none) me)
learns_keep n slots id me is none_out whole = allows_from n slots id me 0 (λ x. x) (Learns (step slots 0 0 0 none) me) go
  where
    all_known : (v : SwapView) (returned : List RenderedFrame) (in_hand waiting : List Frame) (coming : List RenderedFrame) (n seat : ℕ) (phases : List Phase) (views : List SwapView) → length v.given ≡ length v.back → v.is_whole ≡ true → Kept n v returned in_hand waiting coming seat phases views
        → (v.taken ≡ v.given) × (v.returned ≡ v.back) × (frames_of v.back ≡ v.given)
    all_known v returned in_hand waiting coming n seat phases views same whole' k =
        let c = counts k in
        let no_hand : in_hand ≡ [] = nil_of in_hand (omega arith) in
        let no_wait : waiting ≡ [] = nil_of waiting (omega arith) in
        let none_comes : coming ≡ [] = nil_of coming (omega arith) in
        let all_back : returned ≡ v.back = k.back_is ∙ ap (λ (l : List RenderedFrame). v.back ++ l) none_comes ∙ append-nil v.back in
        let alone = k.alone whole' in
        let taken_is : v.taken ≡ frames_of v.back = alone.0 ∙ ap (λ (l : List Frame). frames_of returned ++ l) no_hand ∙ append-nil (frames_of returned) ∙ ap (λ (l : List RenderedFrame). frames_of l) all_back in
        let given_is : v.given ≡ frames_of v.back = k.given_is ∙ (λ j. frames_of returned ++ (no_hand j ++ no_wait j)) ∙ append-nil (frames_of returned) ∙ ap (λ (l : List RenderedFrame). frames_of l) all_back in
        (taken_is ∙ sym given_is, alone.1 ∙ all_back, sym given_is)

    go : (phases : List Phase) (views : List SwapView) → IsRing n phases views → get_elem? views id ≡ some me.0 → Done n phases views id me 0 (λ x. x) (Learns (step slots 0 0 0 none) me)
    go phases views r at =
        let here = api_kept r id me.0 at is in
        let k = here.1 in
        let some_word = k.ring.some_word in
        let first = there_at phases 0 (subst (λ (x : ℕ). 0 < x) (sym k.ring.long) some_word) in
        let t = all_known me.0 r.returned r.in_hand r.waiting r.coming n r.seat phases views none_out whole k in
        stays r id me 0 (λ x. x) (Learns (step slots 0 0 0 none) me) first.0 at first.1 refl (refl, t.0, t.1, t.2, λ one. k.seen 0 me.0 k.at_api one)
      where
        there_at : (l : List Phase) (i : ℕ) → i < length l → (q : Phase) × (get_elem? l i ≡ some q)
        there_at [] i h = absurd (omega arith)
        there_at (x ∷ xs) zero h = (x, refl)
        there_at (x ∷ xs) (suc i) h = there_at xs i (omega arith)

-- Each kind of step is its event.
use Rattle.std.proofs.Common.{◌≡◌, ◌≢◌, ℕ, zero, suc, ◌+◌, ◌<◌, ◌≤◌, Bool, true, false, true≢false, not, ◌&&◌, nat_lt, List, [], ◌∷◌, ◌++◌, map, length, take, drop, set, slice_get, Some, option_map, sym, refl, ap, ◌∙◌, subst, arith, length-append}
use Rattle.std.specs.List.{list_all}
use Rattle.std.proofs.lemmas.Bool.{lt-ltb}
use Rattle.std.proofs.lemmas.List.{length-map, map-append, take-append-le}
use mathlib.Core.Option.{some, some-injective}
use lib.ListN.{get_elem?}
use Rattle.atomic_table.proofs.Lists.{set_here, set_else, at_longer}
use Rattle.schedule_model.specs.Machine as machine
use Rattle.schedule_model.specs.Machine.{State, Thing, give, take_frame, return_frame, take_back, step, when, out, has_no_work, is_usable, given_after, with_taken, with_returned, with_back}
use Rattle.frame_record.specs.declared.frame.Frame.{Frame}
use Rattle.frame_record.specs.declared.frame.RenderedFrame.{RenderedFrame}
use Rattle.frame_record.specs.Links.{frames_of}
use Rattle.frame_swap.specs.Views.{api, render, SwapView, spent_view, gave, took, gave_back, came, parted, render_view, united}
use Rattle.frame_swap.specs.Rule.{Phase, IsRing}
use Rattle.frame_swap.specs.Events.{outcome_seen, IsOther, is_same, is_render, Ends, Stands}
use Rattle.frame_swap.proofs.Ring.{at_next}
use Rattle.frame_swap.proofs.Steps.{in_range, api_at, render_at, counts}

-- ---- lists

pub length_take : {A : Type 0} (n : ℕ) (xs : List A) → n ≤ length xs → length (take n xs) ≡ n
length_take zero xs le = refl
length_take (suc n) [] le = absurd (omega (arith, le))
length_take (suc n) (x ∷ xs) le = ap suc (length_take n xs (omega (arith, le)))

-- one more of the first elements
record More {A : Type 0} (n : ℕ) (xs : List A) : Type 0 where
  next : A
  there : slice_get xs n ≡ Some next
  grown : take n xs ++ next ∷ [] ≡ take (suc n) xs

one_more : {A : Type 0} (n : ℕ) (xs : List A) → n < length xs → More n xs
one_more n [] lt = absurd (omega (arith, lt))
one_more zero (x ∷ xs) lt = record { next = x; there = refl; grown = refl }
one_more (suc n) (x ∷ xs) lt = let h = one_more n xs (omega (arith, lt)) in record { next = h.next; there = h.there; grown = ap (λ ys. x ∷ ys) h.grown }

got_taken : {A : Type 0} (i n : ℕ) (xs : List A) → i < n → slice_get (take n xs) i ≡ slice_get xs i
got_taken i zero xs lt = absurd (omega (arith, lt))
got_taken i (suc n) [] lt = refl
got_taken zero (suc n) (x ∷ xs) lt = refl
got_taken (suc i) (suc n) (x ∷ xs) lt = got_taken i n xs (omega (arith, lt))

pub length_drop : {A : Type 0} (n : ℕ) (xs : List A) → n ≤ length xs → length (drop n xs) + n ≡ length xs
length_drop zero xs le = omega arith
length_drop (suc n) [] le = absurd (omega (arith, le))
length_drop (suc n) (x ∷ xs) le = let h = length_drop n xs (omega (arith, le)) in omega (arith, h)

-- ---- how many

pub record Lengths (n : ℕ) (me other : SwapView) : Type 0 where
  pub backs : length me.back ≤ length other.returned
  pub returns : length other.returned ≤ length other.taken
  pub takes : length other.taken ≤ length me.given
  pub gives : length me.given ≤ length me.back + n

lengths_by : {n : ℕ} {phases : List Phase} {views : List SwapView} (r : IsRing n phases views) (me other : SwapView) → me ≡ r.me → other.taken ≡ frames_of r.returned ++ r.in_hand → other.returned ≡ r.returned → Lengths n me other
lengths_by {n} r me other same taken returned =
    let c = counts r.kept in
    let few = r.kept.ring.few in
    let t = ap (λ (l : List Frame). length l) taken ∙ length-append (frames_of r.returned) r.in_hand in
    let f = length-map r.returned (λ (x : RenderedFrame). x.frame) in
    let q = ap (λ (l : List RenderedFrame). length l) returned in
    let g = ap (λ (v : SwapView). length v.given) same in
    let b = ap (λ (v : SwapView). length v.back) same in
    record { backs = omega (arith, c.0, c.1, c.2, q, b); returns = omega (arith, t, f, q); takes = omega (arith, c.0, c.2, t, f, g); gives = omega (arith, c.0, few, g, b) }

pub lengths : {n : ℕ} {phases : List Phase} {views : List SwapView} (r : IsRing n phases views) (me other : SwapView) → Ends views me other → Lengths n me other
lengths {n} {phases} {views} r me other e = by e.second
  where
    mine : me ≡ r.me
    mine = (api_at r.kept 0 me e.first e.is_api).1

    by : IsOther views me other → Lengths n me other
    by (is_same whole same) =
        let alone = r.kept.alone (ap (λ (v : SwapView). v.is_whole) (sym mine) ∙ whole) in
        lengths_by r me other mine (ap (λ (v : SwapView). v.taken) (same ∙ mine) ∙ alone.0) (ap (λ (v : SwapView). v.returned) (same ∙ mine) ∙ alone.1)
    by (is_render j at side) = let k = render_at r.kept j other at side in lengths_by r me other mine k.2 k.3

-- ---- the ends after a step

-- the API end's view changes, and not what the render end knows
pub record Next (views : List SwapView) (me' other : SwapView) : Type 0 where
  pub next : SwapView
  pub ends : Ends views me' next
  pub taken : next.taken ≡ other.taken
  pub returned : next.returned ≡ other.returned

pub api_next : (views : List SwapView) (me me' other : SwapView) → Ends views me other → me'.side ≡ api → me'.is_whole ≡ me.is_whole → me'.taken ≡ me.taken → me'.returned ≡ me.returned → Next (set views 0 me') me' other
api_next views me me' other e side whole taken returned = by e.second
  where
    here : get_elem? (set views 0 me') 0 ≡ some me'
    here = set_here views 0 me' (in_range views 0 me e.first)

    by : IsOther views me other → Next (set views 0 me') me' other
    by (is_same w same) = record {
      next = me';
      ends = record { first = here; is_api = side; second = is_same (whole ∙ w) refl };
      taken = taken ∙ ap (λ (v : SwapView). v.taken) (sym same);
      returned = returned ∙ ap (λ (v : SwapView). v.returned) (sym same);
    }
    by (is_render j at is) =
        let apart : j ≢ 0 = λ z. (let same : other ≡ me = some-injective other me (sym at ∙ subst (λ (i : ℕ). get_elem? views i ≡ some me) (sym z) e.first) in
        let clash : render ≡ api = sym is ∙ ap (λ (v : SwapView). v.side) same ∙ e.is_api in cc clash) in
        record {
          next = other;
          ends = record { first = here; is_api = side; second = is_render j (set_else views 0 j me' apart ∙ at) is };
          taken = refl;
          returned = refl;
        }

-- the render end's view is the other, and it changes
pub render_next : {n : ℕ} {phases : List Phase} {views : List SwapView} (r : IsRing n phases views) (me other v w : SwapView) (id : ℕ) → Ends views me other → get_elem? views id ≡ some v → v.side ≡ render → w.side ≡ render
    → (v ≡ other) × Ends (set views id w) me w
render_next {n} {phases} {views} r me other v w id e at is side = by e.second
  where
    fits : (id ≡ r.seat) × (r.me.is_whole ≡ false) × (v.taken ≡ frames_of r.returned ++ r.in_hand) × (v.returned ≡ r.returned)
    fits = render_at r.kept id v at is

    apart : 0 ≢ id
    apart z =
        let same : v ≡ me = some-injective v me (sym at ∙ subst (λ (i : ℕ). get_elem? views i ≡ some me) z e.first) in
        let clash : render ≡ api = sym is ∙ ap (λ (u : SwapView). u.side) same ∙ e.is_api in cc clash

    after : Ends (set views id w) me w
    after = record { first = set_else views id 0 w apart ∙ e.first; is_api = e.is_api; second = is_render id (set_here views id w (in_range views id v at)) side }

    by : IsOther views me other → (v ≡ other) × Ends (set views id w) me w
    by (is_same whole same) = absurd (true≢false (sym whole ∙ ap (λ (u : SwapView). u.is_whole) (api_at r.kept 0 me e.first e.is_api).1 ∙ fits.1))
    by (is_render j there side') =
        let k = render_at r.kept j other there side' in
        (some-injective v other (sym at ∙ subst (λ (i : ℕ). get_elem? views i ≡ some other) (k.0 ∙ sym fits.0) there), after)

-- where the API's view is the whole, it says itself what the render end knows
pub whole_other : {n : ℕ} {phases : List Phase} {views : List SwapView} (r : IsRing n phases views) (me other : SwapView) → Ends views me other → me.is_whole ≡ true → other ≡ me
whole_other {n} {phases} {views} r me other e whole = by e.second
  where
    by : IsOther views me other → other ≡ me
    by (is_same w same) = same
    by (is_render j at side) = absurd (true≢false (sym whole ∙ ap (λ (u : SwapView). u.is_whole) (api_at r.kept 0 me e.first e.is_api).1 ∙ (render_at r.kept j other at side).1))

pub whole_next : (views : List SwapView) (me w : SwapView) → get_elem? views 0 ≡ some me → w.side ≡ api → w.is_whole ≡ true → Ends (set views 0 w) w w
whole_next views me w at side whole = record { first = set_here views 0 w (in_range views 0 me at); is_api = side; second = is_same whole refl }

-- the numbers of frames, of views with the same lists
pub same_lengths : {n : ℕ} (me me' other : SwapView) → me'.given ≡ me.given → me'.back ≡ me.back → Lengths n me' other → Lengths n me other
same_lengths me me' other given back l =
    let g = ap (λ (fs : List Frame). length fs) given in
    let b = ap (λ (rs : List RenderedFrame). length rs) back in
    let backs = l.backs in
    let takes = l.takes in
    let gives = l.gives in
    record { backs = omega (arith, b, backs); returns = l.returns; takes = omega (arith, g, takes); gives = omega (arith, g, b, gives) }

-- ---- the render end is made, and joined

pub split_ends : (views : List SwapView) (me : SwapView) → get_elem? views 0 ≡ some me → me.side ≡ api → Ends (set views 0 (parted me) ++ render_view me ∷ []) (parted me) (render_view me)
split_ends views me at side = record {
  first = at_longer (set views 0 (parted me)) (render_view me ∷ []) 0 (parted me) (set_here views 0 (parted me) (in_range views 0 me at));
  is_api = side;
  second = is_render (length (set views 0 (parted me))) (at_next (set views 0 (parted me)) (render_view me) []) refl;
}

pub join_ends : (views : List SwapView) (me w : SwapView) (id : ℕ) → get_elem? views 0 ≡ some me → me.side ≡ api → id ≢ 0 → Ends (set (set views 0 (united me w)) id spent_view) (united me w) (united me w)
join_ends views me w id at side apart = record {
  first = set_else (set views 0 (united me w)) id 0 spent_view (λ (z : 0 ≡ id). apart (sym z)) ∙ set_here views 0 (united me w) (in_range views 0 me at);
  is_api = side;
  second = is_same refl refl;
}

-- ---- the lists of the schedule

pub given_count : (me other : SwapView) (m : State) → Stands me other m → length m.given ≡ length me.given
given_count me other m x = sym (length-map m.given (λ (f : machine.Frame). f.number)) ∙ ap length x.given ∙ length-map me.given (λ (f : Frame). f.number)

pub returned_count : (me other : SwapView) (m : State) → Stands me other m → length m.returned ≡ length other.returned
returned_count me other m x = sym (length-map m.returned (λ (y : machine.Frame × machine.Outcome). y.1)) ∙ ap length x.outcomes ∙ length-map other.returned (λ (r : RenderedFrame). outcome_seen r.outcome)

when_true : (b : Bool) (s : State) → b ≡ true → when b s ≡ Some s
when_true b s e = ap (λ c. when c s) e

pub nothing_happens : (me me' other next : SwapView) (m : State) → me'.given ≡ me.given → me'.back ≡ me.back → next.taken ≡ other.taken → next.returned ≡ other.returned → Stands me other m → Stands me' next m
nothing_happens me me' other next m g b t r x = record {
  given = x.given ∙ ap (map (λ (f : Frame). f.number)) (sym g);
  taken = x.taken ∙ ap (λ (l : List Frame). take (length l) m.given) (sym t);
  returned = x.returned ∙ ap (λ (l : List RenderedFrame). take (length l) m.given) (sym r);
  outcomes = x.outcomes ∙ ap (map (λ (y : RenderedFrame). outcome_seen y.outcome)) (sym r);
  back = x.back ∙ ap (λ (l : List RenderedFrame). take (length l) m.returned) (sym b);
}

pub give_event : (n : ℕ) (me other next : SwapView) (m : State) (f : Frame) (targets : List Thing) → Lengths n me other → Lengths n (gave f me) next → next.taken ≡ other.taken → next.returned ≡ other.returned
    → f.number ≡ m.frame → has_no_work m ≡ true → m.is_given ≡ false → list_all (is_usable m m.frame) targets ≡ true → Stands me other m
    → (step n m (give targets) ≡ Some (given_after targets m)) × Stands (gave f me) next (given_after targets m)
give_event n me other next m f targets old new t r number work free usable x =
    let count = given_count me other m x in
    let frame : machine.Frame = record { number = m.frame; names = m.gathered_names ++ targets } in
    let few = old.takes in
    let fewer = old.returns in
    let least = old.backs in
    let room = new.gives in
    let more = length-append me.given (f ∷ []) in
    let back : length m.back ≡ length me.back = ap length x.back ∙ length_take (length me.back) m.returned (let c = returned_count me other m x in omega (arith, c, least)) in
    let left = length_drop (length m.back) m.given (omega (arith, back, count, least, fewer, few)) in
    let open_room : nat_lt (length (out m)) n ≡ true = lt-ltb (length (out m)) n (omega (arith, left, back, count, room, more)) in (
      when_true (has_no_work m && not m.is_given && nat_lt (length (out m)) n && list_all (is_usable m m.frame) targets) (given_after targets m) (λ j. work j && not (free j) && open_room j && usable j),
      record {
        given = map-append (λ (y : machine.Frame). y.number) m.given (frame ∷ []) ∙ (λ j. x.given j ++ sym number j ∷ []) ∙ sym (map-append (λ (y : Frame). y.number) me.given (f ∷ []));
        taken = x.taken ∙ ap (λ (l : List Frame). take (length l) m.given) (sym t) ∙ sym (take-append-le (length next.taken) m.given (frame ∷ []) (let e = ap (λ (l : List Frame). length l) t in omega (arith, e, few, count)));
        returned = x.returned ∙ ap (λ (l : List RenderedFrame). take (length l) m.given) (sym r) ∙ sym (take-append-le (length next.returned) m.given (frame ∷ []) (let e = ap (λ (l : List RenderedFrame). length l) r in omega (arith, e, fewer, few, count)));
        outcomes = x.outcomes ∙ ap (map (λ (y : RenderedFrame). outcome_seen y.outcome)) (sym r);
        back = x.back;
      },
    )

pub take_event : (n : ℕ) (me other : SwapView) (m : State) (f : Frame) → Lengths n me (took f other) → Stands me other m → (k : State) × (step n m take_frame ≡ Some k) × Stands me (took f other) k
take_event n me other m f new x =
    let count = given_count me other m x in
    let more : length (other.taken ++ f ∷ []) ≡ suc (length other.taken) = (let l = length-append other.taken (f ∷ []) in omega (arith, l)) in
    let takes = new.takes in
    let g = one_more (length other.taken) m.given (omega (arith, takes, more, count)) in
    let long : length m.taken ≡ length other.taken = ap length x.taken ∙ length_take (length other.taken) m.given (omega (arith, takes, more, count)) in (
      with_taken m g.next,
      ap (option_map (with_taken m)) (ap (slice_get m.given) long ∙ g.there),
      record {
        given = x.given;
        taken = ap (λ (l : List machine.Frame). l ++ g.next ∷ []) x.taken ∙ g.grown ∙ ap (λ i. take i m.given) (sym more);
        returned = x.returned;
        outcomes = x.outcomes;
        back = x.back;
      },
    )

pub return_event : (n : ℕ) (me other : SwapView) (m : State) (b : RenderedFrame) → Lengths n me other → Lengths n me (gave_back b other) → Stands me other m → (k : State) × (step n m (return_frame (outcome_seen b.outcome)) ≡ Some k) × Stands me (gave_back b other) k
return_event n me other m b old new x =
    let count = given_count me other m x in
    let long = returned_count me other m x in
    let o = outcome_seen b.outcome in
    let more : length (other.returned ++ b ∷ []) ≡ suc (length other.returned) = (let l = length-append other.returned (b ∷ []) in omega (arith, l)) in
    let returns = new.returns in
    let takes = new.takes in
    let least = old.backs in
    let g = one_more (length other.returned) m.given (omega (arith, returns, takes, more, count)) in
    let there : slice_get m.taken (length m.returned) ≡ Some g.next = (λ j. slice_get (x.taken j) (long j)) ∙ got_taken (length other.returned) (length other.taken) m.given (omega (arith, returns, more)) ∙ g.there in (
      with_returned o m g.next,
      ap (option_map (with_returned o m)) there,
      record {
        given = x.given;
        taken = x.taken;
        returned = map-append (λ (y : machine.Frame × machine.Outcome). y.0) m.returned ((g.next, o) ∷ []) ∙ ap (λ (l : List machine.Frame). l ++ g.next ∷ []) x.returned ∙ g.grown ∙ ap (λ i. take i m.given) (sym more);
        outcomes = map-append (λ (y : machine.Frame × machine.Outcome). y.1) m.returned ((g.next, o) ∷ []) ∙ ap (λ (l : List machine.Outcome). l ++ o ∷ []) x.outcomes ∙ sym (map-append (λ (r : RenderedFrame). outcome_seen r.outcome) other.returned (b ∷ []));
        back = x.back ∙ sym (take-append-le (length me.back) m.returned ((g.next, o) ∷ []) (omega (arith, least, long)));
      },
    )

pub back_event : (n : ℕ) (me other next : SwapView) (m : State) (b : RenderedFrame) → Lengths n (came b me) next → next.taken ≡ other.taken → next.returned ≡ other.returned → Stands me other m → (k : State) × (step n m take_back ≡ Some k) × Stands (came b me) next k
back_event n me other next m b new t r x =
    let long = returned_count me other m x in
    let more : length (me.back ++ b ∷ []) ≡ suc (length me.back) = (let l = length-append me.back (b ∷ []) in omega (arith, l)) in
    let backs = new.backs in
    let same = ap (λ (l : List RenderedFrame). length l) r in
    let g = one_more (length me.back) m.returned (omega (arith, backs, more, long, same)) in
    let count : length m.back ≡ length me.back = ap length x.back ∙ length_take (length me.back) m.returned (omega (arith, backs, more, long, same)) in (
      with_back m g.next,
      ap (option_map (with_back m)) (ap (slice_get m.returned) count ∙ g.there),
      record {
        given = x.given;
        taken = x.taken ∙ ap (λ (l : List Frame). take (length l) m.given) (sym t);
        returned = x.returned ∙ ap (λ (l : List RenderedFrame). take (length l) m.given) (sym r);
        outcomes = x.outcomes ∙ ap (map (λ (y : RenderedFrame). outcome_seen y.outcome)) (sym r);
        back = ap (λ (l : List (machine.Frame × machine.Outcome)). l ++ g.next ∷ []) x.back ∙ g.grown ∙ ap (λ i. take i m.returned) (sym more);
      },
    )

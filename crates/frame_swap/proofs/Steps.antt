-- Each step keeps the rule.
use Rattle.std.proofs.Common.{◌≡◌, ◌≢◌, ℕ, zero, suc, ◌+◌, ◌%◌, ◌<◌, ◌≤◌, Bool, true, false, true≢false, List, [], ◌∷◌, ◌++◌, map, length, get_or, set, sym, refl, ap, ◌∙◌, subst, ⊎_elim, arith, eqb, Some, None, length-append, lt_of_not-le, mod-lt}
use Rattle.std.proofs.Math.Nat.{add-mod_right}
use Rattle.std.proofs.lemmas.List.{append-nil, append_assoc, length-map, map-set, append_cancel_left}
use lib.ListN.{drop, get_elem?}
use mathlib.Core.Option.{none, some, some-injective, some-ne-none}
use mathlib.Core.Option as maybe
use native.Mathlib.Decide.{dec_le}
use prog.Atomic.{either}
use Rattle.atomic_table.specs.Table.{Act, step, rest, keeps, takes, gives, Valid, homes_after, carried_after, Allows}
use Rattle.atomic_table.proofs.Lists.{at_set, set_here, set_else, set_again, at_map}
use Rattle.frame_record.specs.declared.frame.Frame.{Frame}
use Rattle.frame_record.specs.declared.frame.RenderedFrame.{RenderedFrame}
use Rattle.frame_swap.specs.declared.content.Content.TheVariants.{Given, Back}
use Rattle.frame_record.specs.Links.{frames_of}
use Rattle.frame_swap.specs.Views.{Side, api, render, spent, SwapView, Slot, Slots, Mine, gave, Gives, took, saw, Takes, gave_back, Returns, came, TakesBack, stopped, Stops, missed}
use Rattle.frame_swap.specs.Rule.{Phase, unclaimed, idle, given_at, taken_at, returned_at, stopped_at, code, home, history, IsFree, Fits, Ring, FitsAs, IsRenderAt, StopStands, SeenIfStopped, Kept, IsRing, IsHeld}
use Rattle.frame_swap.proofs.Ring.{at_past, at_next, nil_of, ring_swap, ring_grow, ring_back, ring_stop, history_length, history_grows, history_returns, oldest_back, oldest_other, some_returned}

-- ---- a step by the phase that it finds

-- what a step finds at its word, and what it makes of the table
pub record Done (latency : ℕ) (phases : List Phase) (views : List SwapView) (id : ℕ) (me : Mine) (i : ℕ) (f : ℕ → ℕ) (then : ℕ → Mine → Type 0) : Type 0 where
  pub found : Phase
  pub next : Phase
  pub at : get_elem? phases i ≡ some found
  pub turns : f (code found) ≡ code next
  pub view : SwapView
  pub act : Act Slot
  pub valid : Valid (map home phases) me.1 act
  pub homes : homes_after (map home phases) me.1 act ≡ map home (set phases i next)
  pub ring : IsRing latency (set phases i next) (set views id view)
  pub told : then (code found) (view, carried_after me.1 act)

code_at : (phases : List Phase) (i : ℕ) (q : Phase) → get_elem? phases i ≡ some q → get_or (map code phases) i 0 ≡ code q
code_at [] i q e = absurd (some-ne-none q (sym e))
code_at (x ∷ xs) zero q e = ap code (some-injective x q e)
code_at (x ∷ xs) (suc i) q e = code_at xs i q e

pub allows_from : (n slots id : ℕ) (me : Mine) (i : ℕ) (f : ℕ → ℕ) (then : ℕ → Mine → Type 0)
    → ((phases : List Phase) (views : List SwapView) → IsRing n phases views → get_elem? views id ≡ some me.0 → Done n phases views id me i f then)
    → Allows (IsHeld n) slots id me i f then
allows_from n slots id me i f then h s r _ at _ =
    let d = h r.phases s.views r.ring at in
    let word : get_or s.words i 0 ≡ code d.found = ap (λ (ws : List ℕ). get_or ws i 0) r.words ∙ code_at r.phases i d.found d.at in (
      d.view,
      d.act,
      subst (λ (hs : List (maybe.Option Slot)). Valid hs me.1 d.act) (sym r.homes) d.valid,
      record {
        phases = set r.phases i d.next;
        words = ap (λ (ws : List ℕ). set ws i (f (get_or s.words i 0))) r.words ∙ ap (λ (x : ℕ). set (map code r.phases) i x) (ap f word ∙ d.turns) ∙ sym (map-set code r.phases i d.next);
        homes = ap (λ (hs : List (maybe.Option Slot)). homes_after hs me.1 d.act) r.homes ∙ d.homes;
        ring = d.ring;
      },
      subst (λ (x : ℕ). then x (d.view, carried_after me.1 d.act)) (sym word) d.told,
    )

-- ---- views

pub in_range : (l : List SwapView) (i : ℕ) (a : SwapView) → get_elem? l i ≡ some a → i < length l
in_range [] i a e = absurd (some-ne-none a (sym e))
in_range (x ∷ xs) zero a e = omega arith
in_range (x ∷ xs) (suc i) a e = let r = in_range xs i a e in omega arith

abbrev pub Each : ℕ → Bool → List Frame → List RenderedFrame → List SwapView → Type 0
Each j is_whole taken returned views = (i : ℕ) (v : SwapView) → get_elem? views i ≡ some v → FitsAs j is_whole taken returned i v v.side

-- each view fits after one changed, where the others fit
pub each_set : (j : ℕ) (is_whole : Bool) (taken : List Frame) (returned : List RenderedFrame) (views : List SwapView) (id : ℕ) (w : SwapView)
    → ((i : ℕ) (v : SwapView) → i ≢ id → get_elem? views i ≡ some v → FitsAs j is_whole taken returned i v v.side) → FitsAs j is_whole taken returned id w w.side → Each j is_whole taken returned (set views id w)
each_set j is_whole taken returned views id w old new i v e = ⊎_elim
    (λ (t : (i ≡ id) × (w ≡ v)). subst (λ (y : ℕ × SwapView). FitsAs j is_whole taken returned y.0 y.1 y.1.side) (λ x. (sym t.0 x, t.1 x)) new)
    (λ (t : (i ≢ id) × (get_elem? views i ≡ some v)). old i v t.0 t.1)
    (at_set views id i w v e)

-- another view than the render end's does not say what was taken
other_fits : (j : ℕ) (is_whole : Bool) (taken taken' : List Frame) (returned returned' : List RenderedFrame) (i : ℕ) (v : SwapView) → i ≢ j → (s : Side) → FitsAs j is_whole taken returned i v s → FitsAs j is_whole taken' returned' i v s
other_fits j is_whole taken taken' returned returned' i v ne api f = f
other_fits j is_whole taken taken' returned returned' i v ne render f = absurd (ne f.0)
other_fits j is_whole taken taken' returned returned' i v ne spent f = f

-- where one view has the whole, no other is of the render end
pub refit : (j j' : ℕ) (is_whole' : Bool) (taken taken' : List Frame) (returned returned' : List RenderedFrame) (i : ℕ) (v : SwapView) (s : Side) → FitsAs j true taken returned i v s → FitsAs j' is_whole' taken' returned' i v s
refit j j' is_whole' taken taken' returned returned' i v api f = f
refit j j' is_whole' taken taken' returned returned' i v render f = absurd (true≢false f.1)
refit j j' is_whole' taken taken' returned returned' i v spent f = f

-- ---- the stop

-- a word that a step changes is not that of the stop
pub stop_else : {n : ℕ} {b : Bool} {a g : ℕ} {phases : List Phase} → StopStands n b a g phases → (i : ℕ) (found next : Phase) → get_elem? phases i ≡ some found → found ≢ stopped_at → StopStands n b a g (set phases i next)
stop_else {n} {b} {a} {g} {phases} s i found next at ne = record {
  early = s.early;
  stands = λ is same.
      let there : get_elem? phases (g % n) ≡ some stopped_at = s.stands is same in
      set_else phases i (g % n) next (λ (e : g % n ≡ i). ne (some-injective found stopped_at (sym at ∙ ap (λ (x : ℕ). get_elem? phases x) (sym e) ∙ there))) ∙ there;
}

-- one more was given after it
stop_more : {n : ℕ} {b : Bool} {a g : ℕ} {phases : List Phase} → StopStands n b a g phases → (g' : ℕ) (phases' : List Phase) → g < g' → StopStands n b a g' phases'
stop_more s g' phases' more = let few = s.early in record {
  early = omega (arith, few, more);
  stands = λ is same. absurd (omega (arith, few, more, same));
}

-- one view changes
pub seen_set : (b b' : Bool) (views : List SwapView) (id : ℕ) (w : SwapView) → SeenIfStopped b views → (b ≡ true → b' ≡ true) → (1 ≤ w.stops → b' ≡ true) → SeenIfStopped b' (set views id w)
seen_set b b' views id w old up new i v e one = ⊎_elim
    (λ (t : (i ≡ id) × (w ≡ v)). new (subst (λ (u : SwapView). 1 ≤ u.stops) (sym t.1) one))
    (λ (t : (i ≢ id) × (get_elem? views i ≡ some v)). up (old i v t.1 one))
    (at_set views id i w v e)

module _ {n : ℕ} {me : SwapView} {returned : List RenderedFrame} {in_hand waiting : List Frame} {coming : List RenderedFrame} {seat : ℕ} {phases : List Phase} {views : List SwapView} (k : Kept n me returned in_hand waiting coming seat phases views) where
  pub api_at : (id : ℕ) (v : SwapView) → get_elem? views id ≡ some v → v.side ≡ api → (id ≡ 0) × (v ≡ me)
  api_at id v at is =
      let zeroth : id ≡ 0 = subst (FitsAs seat me.is_whole (frames_of returned ++ in_hand) returned id v) is (k.each id v at) in
      (zeroth, some-injective v me (sym at ∙ subst (λ (i : ℕ). get_elem? views i ≡ some me) (sym zeroth) k.at_api))

  pub render_at : (id : ℕ) (v : SwapView) → get_elem? views id ≡ some v → v.side ≡ render → (id ≡ seat) × (me.is_whole ≡ false) × (v.taken ≡ frames_of returned ++ in_hand) × (v.returned ≡ returned)
  render_at id v at is = subst (FitsAs seat me.is_whole (frames_of returned ++ in_hand) returned id v) is (k.each id v at)

  not_zero : (id : ℕ) (v : SwapView) → get_elem? views id ≡ some v → v.side ≡ render → id ≢ 0
  not_zero id v at is z =
      let same : v ≡ me = some-injective v me (sym at ∙ subst (λ (i : ℕ). get_elem? views i ≡ some me) (sym z) k.at_api) in
      let clash : render ≡ api = sym is ∙ ap (λ (u : SwapView). u.side) same ∙ k.is_api in cc

  -- the numbers of frames
  pub counts : (length me.given ≡ length (history returned in_hand waiting)) × (length returned ≡ length me.back + length coming) × (length (history returned in_hand waiting) ≡ length returned + (length in_hand + length waiting))
  counts =
      let h = history_length returned in_hand waiting in
      let g = ap (λ (l : List Frame). length l) k.given_is in
      let a = length-append (frames_of returned) (in_hand ++ waiting) in
      let b = length-append in_hand waiting in
      let m = length-map returned (λ (r : RenderedFrame). r.frame) in
      let r = ap (λ (l : List RenderedFrame). length l) k.back_is in
      let c = length-append me.back coming in
      (omega arith, omega arith, h)

  -- the API end's view changes
  pub api_each : (w : SwapView) → w.side ≡ api → Each seat me.is_whole (frames_of returned ++ in_hand) returned (set views 0 w)
  api_each w is = each_set seat me.is_whole (frames_of returned ++ in_hand) returned views 0 w (λ i v _ e. k.each i v e) (subst (FitsAs seat me.is_whole (frames_of returned ++ in_hand) returned 0 w) (sym is) refl)

  pub api_here : (w : SwapView) → get_elem? (set views 0 w) 0 ≡ some w
  api_here w = set_here views 0 w (in_range views 0 me k.at_api)

  pub api_beside : (w : SwapView) → me.is_whole ≡ false → IsRenderAt seat (set views 0 w)
  api_beside w apart = let t = k.beside apart in (t.0, set_else views 0 seat w (not_zero seat t.0 t.1 t.2) ∙ t.1, t.2)

  pub api_seen : (w : SwapView) → w.stops ≡ me.stops → SeenIfStopped me.is_stopped (set views 0 w)
  api_seen w same = seen_set me.is_stopped me.is_stopped views 0 w k.seen (λ h. h) (λ one. k.seen 0 me k.at_api (subst (λ (x : ℕ). 1 ≤ x) same one))

  -- the API end's view changes, which has the whole
  pub whole_each : (w : SwapView) (taken' : List Frame) (returned' : List RenderedFrame) → w.side ≡ api → me.is_whole ≡ true → Each seat me.is_whole taken' returned' (set views 0 w)
  whole_each w taken' returned' is whole = each_set seat me.is_whole taken' returned' views 0 w
      (λ i v _ e. refit seat seat me.is_whole (frames_of returned ++ in_hand) taken' returned returned' i v v.side (subst (λ (b : Bool). FitsAs seat b (frames_of returned ++ in_hand) returned i v v.side) whole (k.each i v e)))
      (subst (FitsAs seat me.is_whole taken' returned' 0 w) (sym is) refl)

  -- the render end's view changes
  render_each : (id : ℕ) (v w : SwapView) (taken' : List Frame) (returned' : List RenderedFrame) → get_elem? views id ≡ some v → v.side ≡ render → w.side ≡ v.side → w.taken ≡ taken' → w.returned ≡ returned' → Each seat me.is_whole taken' returned' (set views id w)
  render_each id v w taken' returned' at is same t r =
      let fits = render_at id v at is in
      each_set seat me.is_whole taken' returned' views id w
      (λ i u ne e. other_fits seat me.is_whole (frames_of returned ++ in_hand) taken' returned returned' i u (λ (z : i ≡ seat). ne (z ∙ sym fits.0)) u.side (k.each i u e))
      (subst (FitsAs seat me.is_whole taken' returned' id w) (sym (same ∙ is)) (fits.0, fits.1, t, r))

  render_else : (id : ℕ) (v w : SwapView) → get_elem? views id ≡ some v → v.side ≡ render → get_elem? (set views id w) 0 ≡ some me
  render_else id v w at is = set_else views id 0 w (λ (z : 0 ≡ id). not_zero id v at is (sym z)) ∙ k.at_api

  render_beside : (id : ℕ) (v w : SwapView) → get_elem? views id ≡ some v → v.side ≡ render → w.side ≡ v.side → IsRenderAt seat (set views id w)
  render_beside id v w at is same = (w, subst (λ (x : ℕ). get_elem? (set views id w) x ≡ some w) (render_at id v at is).0 (set_here views id w (in_range views id v at)), same ∙ is)

-- the API end's own view stands in the rule
pub api_kept : {n : ℕ} {phases : List Phase} {views : List SwapView} (r : IsRing n phases views) (id : ℕ) (v : SwapView) → get_elem? views id ≡ some v → v.side ≡ api → (id ≡ 0) × Kept n v r.returned r.in_hand r.waiting r.coming r.seat phases views
api_kept {n} {phases} {views} r id v at is = let here = api_at r.kept id v at is in (here.0, subst (λ (u : SwapView). Kept n u r.returned r.in_hand r.waiting r.coming r.seat phases views) (sym here.1) r.kept)

-- ---- nothing happens

pub stays : {n : ℕ} {phases : List Phase} {views : List SwapView} (r : IsRing n phases views) (id : ℕ) (me : Mine) (i : ℕ) (f : ℕ → ℕ) (then : ℕ → Mine → Type 0) (q : Phase)
    → get_elem? views id ≡ some me.0 → get_elem? phases i ≡ some q → f (code q) ≡ code q → then (code q) me → Done n phases views id me i f then
stays {n} {phases} {views} r id me i f then q at there same told = record {
  found = q;
  next = q;
  at = there;
  turns = same;
  view = me.0;
  act = keeps;
  valid = tt;
  homes = ap (map home) (sym (set_again phases i q there));
  ring = subst (λ (x : List Phase × List SwapView). IsRing n x.0 x.1) (λ j. (sym (set_again phases i q there) j, sym (set_again views id me.0 at) j)) r;
  told = told;
}

-- ---- a frame is given

abbrev pub slot_value : Slots → Slot
slot_value [] = None
slot_value (x ∷ xs) = x.1

pub given_same : (i : ℕ) (f f' : Frame) (k k' : Slots) → (i, Some (Given f)) ∷ k ≡ (i, Some (Given f')) ∷ k' → f ≡ f'
given_same i f f' k k' e = let x : Some (Given f) ≡ Some (Given f') = ap slot_value e in cc x

pub gives_keep : (n slots id : ℕ) (me : Mine) (i : ℕ) (f : Frame) (others : Slots) → me.0.side ≡ api → me.0.claimed ≡ n → length me.0.given < length me.0.back + n → i ≡ length me.0.given % n → me.1 ≡ (i, Some (Given f)) ∷ others
    → Allows (IsHeld n) slots id me i (λ _. 1) (λ _. Gives (step slots i 1 0 none) me 1)
gives_keep n slots id me i f others is all room place full = allows_from n slots id me i (λ _. 1) (λ _. Gives (step slots i 1 0 none) me 1) go
  where
    go : (phases : List Phase) (views : List SwapView) → IsRing n phases views → get_elem? views id ≡ some me.0 → Done n phases views id me i (λ _. 1) (λ _. Gives (step slots i 1 0 none) me 1)
    go phases views r at =
        let here = api_kept r id me.0 at is in
        let k = here.1 in
        let past = history r.returned r.in_hand r.waiting in
        let c = counts k in
        let index : length past % n ≡ i = ap (λ (x : ℕ). x % n) (sym c.0) ∙ sym place in
        let lo : length me.0.back ≤ length past = omega arith in
        let hi : length past < length me.0.back + n = omega arith in
        let there = k.ring.fits (length past) lo hi in
        let w : SwapView = gave f me.0 in
        let more = r.waiting ++ f ∷ [] in
        let fits : Kept n w r.returned r.in_hand more r.coming r.seat (set phases i (given_at f)) (set views 0 w) = record {
          at_api = api_here k w;
          is_api = k.is_api;
          each = api_each k w is;
          alone = k.alone;
          back_is = k.back_is;
          given_is = ap (λ (l : List Frame). l ++ f ∷ []) k.given_is ∙ append_assoc (frames_of r.returned) (r.in_hand ++ r.waiting) (f ∷ []) ∙ ap (λ (l : List Frame). frames_of r.returned ++ l) (append_assoc r.in_hand r.waiting (f ∷ []));
          one_hand = k.one_hand;
          early = λ (h : me.0.claimed < n). absurd (omega arith);
          ring = subst (λ (x : ℕ × List Phase). Ring n (length me.0.back) me.0.claimed me.0.is_stopped x.1 (set phases x.0 (given_at f))) (λ j. (index j, sym (history_grows r.returned r.in_hand r.waiting f) j)) (ring_grow (given_at f) k.ring lo hi);
          beside = api_beside k w;
          stop = stop_more k.stop (length (me.0.given ++ f ∷ [])) (set phases i (given_at f)) (let l = length-append me.0.given (f ∷ []) in omega (arith, l));
          seen = api_seen k w refl;
        } in
        record {
          found = there.0;
          next = given_at f;
          at = ap (λ (x : ℕ). get_elem? phases x) (sym index) ∙ there.1;
          turns = refl;
          view = w;
          act = gives;
          valid = tt;
          homes = ap (λ (h : Slots). homes_after (map home phases) h gives) full ∙ sym (map-set home phases i (given_at f));
          ring = record { me = w; returned = r.returned; in_hand = r.in_hand; waiting = more; coming = r.coming; seat = r.seat; kept = subst (λ (x : ℕ). Kept n w r.returned r.in_hand more r.coming r.seat (set phases i (given_at f)) (set views x w)) (sym here.0) fits };
          told = λ f' k' e. let same : f ≡ f' = given_same i f f' others k' (sym full ∙ e) in λ j. (gave (same j) me.0, rest (e j));
        }

-- ---- a frame is taken, or the stop is seen

abbrev Tries : ℕ → ℕ → List Phase → List SwapView → ℕ → Mine → ℕ → Type 0
Tries n slots phases views id me i = Done n phases views id me i (λ x. either (eqb x 1) 2 x) (Takes (step slots i 1 2 none) me)

module _ {n : ℕ} {phases : List Phase} {views : List SwapView} (slots id : ℕ) (me : Mine) (i : ℕ) (is : me.0.side ≡ render) (at : get_elem? views id ≡ some me.0) where
  -- the words stay, and the frames that the render end knows
  notes : (r : IsRing n phases views) (q : Phase) → get_elem? phases i ≡ some q → either (eqb (code q) 1) 2 (code q) ≡ code q
      → (w : SwapView) → w.side ≡ me.0.side → w.taken ≡ me.0.taken → w.returned ≡ me.0.returned → (1 ≤ w.stops → r.me.is_stopped ≡ true)
      → Takes (step slots i 1 2 none) me (code q) (w, me.1) → Tries n slots phases views id me i
  notes r q there same w side taken returned seen told =
      let k = r.kept in
      let fits = render_at k id me.0 at is in
      let stays : phases ≡ set phases i q = sym (set_again phases i q there) in
      record {
        found = q;
        next = q;
        at = there;
        turns = same;
        view = w;
        act = keeps;
        valid = tt;
        homes = ap (map home) stays;
        ring = record {
          me = r.me;
          returned = r.returned;
          in_hand = r.in_hand;
          waiting = r.waiting;
          coming = r.coming;
          seat = r.seat;
          kept = record {
            at_api = render_else k id me.0 w at is;
            is_api = k.is_api;
            each = render_each k id me.0 w (frames_of r.returned ++ r.in_hand) r.returned at is side (taken ∙ fits.2) (returned ∙ fits.3);
            alone = k.alone;
            back_is = k.back_is;
            given_is = k.given_is;
            one_hand = k.one_hand;
            early = k.early;
            ring = subst (λ (ps : List Phase). Ring n (length r.me.back) r.me.claimed r.me.is_stopped (history r.returned r.in_hand r.waiting) ps) stays k.ring;
            beside = λ _. render_beside k id me.0 w at is side;
            stop = subst (λ (ps : List Phase). StopStands n r.me.is_stopped r.me.stopped_after (length r.me.given) ps) stays k.stop;
            seen = seen_set r.me.is_stopped r.me.is_stopped views id w k.seen (λ h. h) seen;
          };
        };
        told = told;
      }

  finds_none : (r : IsRing n phases views) (q : Phase) → get_elem? phases i ≡ some q → either (eqb (code q) 1) 2 (code q) ≡ code q → code q ≢ 1 → code q ≢ 4 → Tries n slots phases views id me i
  finds_none r q there same one four = notes r q there same (missed me.0) refl refl refl (λ h. r.kept.seen id me.0 at h) ((λ h. absurd (one h)), (λ h. absurd (four h)), (λ _ _. (is, refl)))

  finds_stop : (r : IsRing n phases views) → r.me.is_stopped ≡ true → get_elem? phases i ≡ some stopped_at → Tries n slots phases views id me i
  finds_stop r stop there = notes r stopped_at there refl (saw me.0) refl refl refl (λ _. stop) ((λ h. absurd (omega arith)), (λ _. refl), (λ _ h. absurd (h refl)))

  -- at a word where no frame is out
  finds_free : (r : IsRing n phases views) (c : ℕ) (s : Bool) (q : Phase) → (s ≡ true → r.me.is_stopped ≡ true) → get_elem? phases i ≡ some q → IsFree c s i q → Tries n slots phases views id me i
  finds_free r c s unclaimed up there f = finds_none r unclaimed there refl (λ h. omega arith) (λ h. omega arith)
  finds_free r c s idle up there f = finds_none r idle there refl (λ h. omega arith) (λ h. omega arith)
  finds_free r c s (given_at g) up there f = absurd f
  finds_free r c s (taken_at g) up there f = absurd f
  finds_free r c s (returned_at x) up there f = absurd f
  finds_free r c s stopped_at up there f = finds_stop r (up f.1) there

  -- with nothing in hand
  takes_at : (v : SwapView) (returned : List RenderedFrame) (waiting : List Frame) (coming : List RenderedFrame) (seat : ℕ) → Kept n v returned [] waiting coming seat phases views → i ≡ length returned % n → Tries n slots phases views id me i
  takes_at v returned (f ∷ ws) coming seat k place =
      let c = counts k in
      let few = k.ring.few in
      let xs = map returned_at returned in
      let l : length xs ≡ length returned = length-map returned returned_at in
      let index : length xs % n ≡ i = ap (λ (x : ℕ). x % n) l ∙ sym place in
      let lo : length v.back ≤ length xs = omega arith in
      let hi : length xs < length v.back + n = omega arith in
      let here = k.ring.fits (length xs) lo hi in
      let is_given : given_at f ≡ here.0 = subst (λ (o : maybe.Option Phase). Fits v.claimed v.is_stopped (length xs % n) o here.0) (at_next xs (given_at f) (map given_at ws)) here.2 in
      let there : get_elem? phases i ≡ some (given_at f) = ap (λ (x : ℕ). get_elem? phases x) (sym index) ∙ here.1 ∙ ap some (sym is_given) in
      let fits = render_at k id me.0 at is in
      let w : SwapView = took f me.0 in
      record {
        found = given_at f;
        next = taken_at f;
        at = there;
        turns = refl;
        view = w;
        act = takes i (Some (Given f));
        valid = at_map home phases i (given_at f) there;
        homes = sym (map-set home phases i (taken_at f));
        ring = record {
          me = v;
          returned = returned;
          in_hand = f ∷ [];
          waiting = ws;
          coming = coming;
          seat = seat;
          kept = record {
            at_api = render_else k id me.0 w at is;
            is_api = k.is_api;
            each = render_each k id me.0 w (frames_of returned ++ f ∷ []) returned at is refl (ap (λ (l : List Frame). l ++ f ∷ []) (fits.2 ∙ append-nil (frames_of returned))) fits.3;
            alone = λ h. absurd (true≢false (sym h ∙ fits.1));
            back_is = k.back_is;
            given_is = k.given_is;
            one_hand = omega arith;
            early = k.early;
            ring = subst (λ (x : ℕ). Ring n (length v.back) v.claimed v.is_stopped (xs ++ taken_at f ∷ map given_at ws) (set phases x (taken_at f))) index (ring_swap xs (given_at f) (taken_at f) (map given_at ws) k.ring lo);
            beside = λ _. render_beside k id me.0 w at is refl;
            stop = stop_else k.stop i (given_at f) (taken_at f) there (λ (h : given_at f ≡ stopped_at). cc h);
            seen = seen_set v.is_stopped v.is_stopped views id w k.seen (λ h. h) (λ one. k.seen id me.0 at one);
          };
        };
        told = ((λ _. (f, refl)), (λ h. absurd (omega arith)), (λ h _. absurd (h refl)));
      }
  takes_at v returned [] coming seat k place =
      let c = counts k in
      let few = k.ring.few in
      let some_word = k.ring.some_word in
      let r : IsRing n phases views = record { me = v; returned = returned; in_hand = []; waiting = []; coming = coming; seat = seat; kept = k } in
      by_room r (λ h. h) c few some_word (dec_le (length v.back + n) (length returned))
    where
      by_room : (r : IsRing n phases views) → (v.is_stopped ≡ true → r.me.is_stopped ≡ true) → (length v.given ≡ length (history returned [] [])) × (length returned ≡ length v.back + length coming) × (length (history returned [] []) ≡ length returned + (length {A = Frame} [] + length {A = Frame} [])) → length (history returned [] []) ≤ length v.back + n → 0 < n
          → Dec (length v.back + n ≤ length returned) → Tries n slots phases views id me i
      by_room r up c few some_word (no room) =
          let hi : length returned < length v.back + n = lt_of_not-le room in
          let here = k.ring.fits (length returned) (omega arith) hi in
          let free = subst (λ (o : maybe.Option Phase). Fits v.claimed v.is_stopped (length returned % n) o here.0) (at_past (history returned [] []) (length returned) (omega arith)) here.2 in
          finds_free r v.claimed v.is_stopped here.0 up (ap (λ (x : ℕ). get_elem? phases x) place ∙ here.1) (subst (λ (x : ℕ). IsFree v.claimed v.is_stopped x here.0) (sym place) free)
      by_room r up c few some_word (yes full) =
          let all : length returned ≡ length v.back + n = omega arith in
          let index : length v.back % n ≡ i = sym (add-mod_right (length v.back) n) ∙ ap (λ (x : ℕ). x % n) (sym all) ∙ sym place in
          let here = k.ring.fits (length v.back) (omega arith) (omega arith) in
          let old = some_returned returned [] (length v.back) (omega arith) in
          let is_back : returned_at old.0 ≡ here.0 = subst (λ (o : maybe.Option Phase). Fits v.claimed v.is_stopped (length v.back % n) o here.0) old.1 here.2 in
          finds_none r (returned_at old.0) (ap (λ (x : ℕ). get_elem? phases x) (sym index) ∙ here.1 ∙ ap some (sym is_back)) refl (λ h. omega arith) (λ h. omega arith)

pub takes_keep : (n slots id : ℕ) (me : Mine) (i : ℕ) → me.0.side ≡ render → length me.0.taken ≡ length me.0.returned → i ≡ length me.0.returned % n → Allows (IsHeld n) slots id me i (λ x. either (eqb x 1) 2 x) (Takes (step slots i 1 2 none) me)
takes_keep n slots id me i is none_held place = allows_from n slots id me i (λ x. either (eqb x 1) 2 x) (Takes (step slots i 1 2 none) me) go
  where
    go : (phases : List Phase) (views : List SwapView) → IsRing n phases views → get_elem? views id ≡ some me.0 → Tries n slots phases views id me i
    go phases views r at =
        let fits = render_at r.kept id me.0 at is in
        let a = ap (λ (l : List Frame). length l) fits.2 in
        let b = ap (λ (l : List RenderedFrame). length l) fits.3 in
        let c = length-append (frames_of r.returned) r.in_hand in
        let d = length-map r.returned (λ (x : RenderedFrame). x.frame) in
        let nothing : r.in_hand ≡ [] = nil_of r.in_hand (omega arith) in
        takes_at slots id me i is at r.me r.returned r.waiting r.coming r.seat (subst (λ (l : List Frame). Kept n r.me r.returned l r.waiting r.coming r.seat phases views) nothing r.kept) (place ∙ ap (λ (l : List RenderedFrame). length l % n) fits.3)

-- ---- a frame is given back

pub rendered_same : (i : ℕ) (f f' : RenderedFrame) (k k' : Slots) → (i, Some (Back f)) ∷ k ≡ (i, Some (Back f')) ∷ k' → f ≡ f'
rendered_same i f f' k k' e = let x : Some (Back f) ≡ Some (Back f') = ap slot_value e in cc x

pub frames_snoc : (rs : List RenderedFrame) (r : RenderedFrame) (others : List Frame) → frames_of (rs ++ r ∷ []) ++ others ≡ frames_of rs ++ (r.frame ∷ others)
frames_snoc [] r others = refl
frames_snoc (x ∷ xs) r others = ap (λ (l : List Frame). x.frame ∷ l) (frames_snoc xs r others)

pub returns_keep : (n slots id : ℕ) (me : Mine) (i : ℕ) (r : RenderedFrame) (others : Slots) → me.0.side ≡ render → me.0.taken ≡ frames_of me.0.returned ++ r.frame ∷ [] → i ≡ length me.0.returned % n → me.1 ≡ (i, Some (Back r)) ∷ others
    → Allows (IsHeld n) slots id me i (λ _. 3) (λ _. Returns (step slots i 3 0 none) me 3)
returns_keep n slots id me i b others is last place full = allows_from n slots id me i (λ _. 3) (λ _. Returns (step slots i 3 0 none) me 3) go
  where
    after : (phases : List Phase) (views : List SwapView) → get_elem? views id ≡ some me.0 → (v : SwapView) (returned : List RenderedFrame) (waiting : List Frame) (coming : List RenderedFrame) (seat : ℕ) → Kept n v returned (b.frame ∷ []) waiting coming seat phases views → i ≡ length returned % n
        → Done n phases views id me i (λ _. 3) (λ _. Returns (step slots i 3 0 none) me 3)
    after phases views at v returned waiting coming seat k here_is =
        let c = counts k in
        let few = k.ring.few in
        let xs = map returned_at returned in
        let l : length xs ≡ length returned = length-map returned returned_at in
        let index : length xs % n ≡ i = ap (λ (x : ℕ). x % n) l ∙ sym here_is in
        let lo : length v.back ≤ length xs = omega arith in
        let hi : length xs < length v.back + n = omega arith in
        let here = k.ring.fits (length xs) lo hi in
        let fits = render_at k id me.0 at is in
        let w : SwapView = gave_back b me.0 in
        let now = returned ++ b ∷ [] in
        let taken_is : frames_of returned ++ b.frame ∷ [] ≡ frames_of now ++ [] = sym (frames_snoc returned b []) in
        let is_taken : taken_at b.frame ≡ here.0 = subst (λ (o : maybe.Option Phase). Fits v.claimed v.is_stopped (length xs % n) o here.0) (at_next xs (taken_at b.frame) (map given_at waiting)) here.2 in
        let there : get_elem? phases i ≡ some (taken_at b.frame) = ap (λ (x : ℕ). get_elem? phases x) (sym index) ∙ here.1 ∙ ap some (sym is_taken) in
        record {
          found = here.0;
          next = returned_at b;
          at = ap (λ (x : ℕ). get_elem? phases x) (sym index) ∙ here.1;
          turns = refl;
          view = w;
          act = gives;
          valid = tt;
          homes = ap (λ (h : Slots). homes_after (map home phases) h gives) full ∙ sym (map-set home phases i (returned_at b));
          ring = record {
            me = v;
            returned = now;
            in_hand = [];
            waiting = waiting;
            coming = coming ++ b ∷ [];
            seat = seat;
            kept = record {
              at_api = render_else k id me.0 w at is;
              is_api = k.is_api;
              each = render_each k id me.0 w (frames_of now ++ []) now at is refl (fits.2 ∙ taken_is) (ap (λ (l : List RenderedFrame). l ++ b ∷ []) fits.3);
              alone = λ h. absurd (true≢false (sym h ∙ fits.1));
              back_is = ap (λ (l : List RenderedFrame). l ++ b ∷ []) k.back_is ∙ append_assoc v.back coming (b ∷ []);
              given_is = k.given_is ∙ sym (frames_snoc returned b waiting);
              one_hand = omega arith;
              early = k.early;
              ring = subst (λ (x : ℕ × List Phase). Ring n (length v.back) v.claimed v.is_stopped x.1 (set phases x.0 (returned_at b))) (λ j. (index j, sym (history_returns returned b waiting) j)) (ring_swap xs (taken_at b.frame) (returned_at b) (map given_at waiting) k.ring lo);
              beside = λ _. render_beside k id me.0 w at is refl;
              stop = stop_else k.stop i (taken_at b.frame) (returned_at b) there (λ (h : taken_at b.frame ≡ stopped_at). cc h);
              seen = seen_set v.is_stopped v.is_stopped views id w k.seen (λ h. h) (λ one. k.seen id me.0 at one);
            };
          };
          told = λ r' k' e. let same : b ≡ r' = rendered_same i b r' others k' (sym full ∙ e) in λ j. (gave_back (same j) me.0, rest (e j));
        }

    go : (phases : List Phase) (views : List SwapView) → IsRing n phases views → get_elem? views id ≡ some me.0 → Done n phases views id me i (λ _. 3) (λ _. Returns (step slots i 3 0 none) me 3)
    go phases views r at =
        let fits = render_at r.kept id me.0 at is in
        let hand : r.in_hand ≡ b.frame ∷ [] = append_cancel_left (frames_of r.returned) r.in_hand (b.frame ∷ []) (sym fits.2 ∙ last ∙ ap (λ (l : List RenderedFrame). frames_of l ++ b.frame ∷ []) fits.3) in
        after phases views at r.me r.returned r.waiting r.coming r.seat (subst (λ (l : List Frame). Kept n r.me r.returned l r.waiting r.coming r.seat phases views) hand r.kept) (place ∙ ap (λ (l : List RenderedFrame). length l % n) fits.3)

-- ---- a frame comes back

abbrev TriesBack : ℕ → ℕ → List Phase → List SwapView → ℕ → Mine → ℕ → Type 0
TriesBack n slots phases views id me i = Done n phases views id me i (λ x. either (eqb x 3) 0 x) (TakesBack (step slots i 3 0 none) me)

-- the oldest frame that is out is not returned, or none is out
not_back : (c : ℕ) (s : Bool) (i : ℕ) (in_hand waiting : List Frame) (q : Phase) → Fits c s i (get_elem? (map taken_at in_hand ++ map given_at waiting) 0) q → (either (eqb (code q) 3) 0 (code q) ≡ code q) × (code q ≢ 3)
not_back c s i (f ∷ fs) waiting q e = subst (λ (p : Phase). (either (eqb (code p) 3) 0 (code p) ≡ code p) × (code p ≢ 3)) e (refl, λ h. omega arith)
not_back c s i [] (f ∷ fs) q e = subst (λ (p : Phase). (either (eqb (code p) 3) 0 (code p) ≡ code p) × (code p ≢ 3)) e (refl, λ h. omega arith)
not_back c s i [] [] unclaimed e = (refl, λ h. omega arith)
not_back c s i [] [] idle e = (refl, λ h. omega arith)
not_back c s i [] [] (given_at f) e = absurd e
not_back c s i [] [] (taken_at f) e = absurd e
not_back c s i [] [] (returned_at r) e = absurd e
not_back c s i [] [] stopped_at e = (refl, λ h. omega arith)

-- the oldest frame that is out
pub oldest_frame : (back : List RenderedFrame) (r : RenderedFrame) (coming : List RenderedFrame) (others : List Frame) → frames_of (back ++ r ∷ coming) ++ others ≡ frames_of back ++ r.frame ∷ drop (suc (length back)) (frames_of (back ++ r ∷ coming) ++ others)
oldest_frame [] r coming others = refl
oldest_frame (x ∷ xs) r coming others = ap (λ (l : List Frame). x.frame ∷ l) (oldest_frame xs r coming others)

pub comes_keep : (n slots id : ℕ) (me : Mine) (i : ℕ) → me.0.side ≡ api → me.0.claimed ≡ n → i ≡ length me.0.back % n → Allows (IsHeld n) slots id me i (λ x. either (eqb x 3) 0 x) (TakesBack (step slots i 3 0 none) me)
comes_keep n slots id me i is all place = allows_from n slots id me i (λ x. either (eqb x 3) 0 x) (TakesBack (step slots i 3 0 none) me) go
  where
    by_coming : (phases : List Phase) (views : List SwapView) → IsRing n phases views → get_elem? views id ≡ some me.0 → id ≡ 0 → (returned : List RenderedFrame) (in_hand waiting : List Frame) (coming : List RenderedFrame) (seat : ℕ) → returned ≡ me.0.back ++ coming
        → Kept n me.0 returned in_hand waiting coming seat phases views → TriesBack n slots phases views id me i
    by_coming phases views r at first returned in_hand waiting [] seat back_is k =
        let some_word = k.ring.some_word in
        let here = k.ring.fits (length me.0.back) (omega arith) (omega arith) in
        let oldest : get_elem? (history returned in_hand waiting) (length me.0.back) ≡ get_elem? (map taken_at in_hand ++ map given_at waiting) 0 =
        subst (λ (l : List RenderedFrame). get_elem? (map returned_at l ++ (map taken_at in_hand ++ map given_at waiting)) (length me.0.back) ≡ get_elem? (map taken_at in_hand ++ map given_at waiting) 0) (sym back_is) (oldest_other me.0.back (map taken_at in_hand ++ map given_at waiting)) in
        let other = not_back me.0.claimed me.0.is_stopped (length me.0.back % n) in_hand waiting here.0 (subst (λ (o : maybe.Option Phase). Fits me.0.claimed me.0.is_stopped (length me.0.back % n) o here.0) oldest here.2) in
        let there : get_elem? phases i ≡ some here.0 = ap (λ (x : ℕ). get_elem? phases x) place ∙ here.1 in
        let same : phases ≡ set phases i here.0 = sym (set_again phases i here.0 there) in
        let w : SwapView = missed me.0 in
        let fits : Kept n w returned in_hand waiting [] seat phases (set views 0 w) = record {
          at_api = api_here k w;
          is_api = k.is_api;
          each = api_each k w is;
          alone = k.alone;
          back_is = k.back_is;
          given_is = k.given_is;
          one_hand = k.one_hand;
          early = k.early;
          ring = k.ring;
          beside = api_beside k w;
          stop = k.stop;
          seen = api_seen k w refl;
        } in
        record {
          found = here.0;
          next = here.0;
          at = there;
          turns = other.0;
          view = w;
          act = keeps;
          valid = tt;
          homes = ap (map home) same;
          ring = record { me = w; returned = returned; in_hand = in_hand; waiting = waiting; coming = []; seat = seat; kept = subst (λ (x : ℕ × List Phase). Kept n w returned in_hand waiting [] seat x.1 (set views x.0 w)) (λ j. (sym first j, same j)) fits };
          told = ((λ h. absurd (other.1 h)), (λ _. (place ∙ ap (λ (c : ℕ). length me.0.back % c) (sym all), refl)));
        }
    by_coming phases views r at first returned in_hand waiting (b ∷ bs) seat back_is k =
        let some_word = k.ring.some_word in
        let here = k.ring.fits (length me.0.back) (omega arith) (omega arith) in
        let others = map taken_at in_hand ++ map given_at waiting in
        let oldest : get_elem? (history returned in_hand waiting) (length me.0.back) ≡ some (returned_at b) =
        subst (λ (l : List RenderedFrame). get_elem? (map returned_at l ++ others) (length me.0.back) ≡ some (returned_at b)) (sym back_is) (oldest_back me.0.back b bs others) in
        let is_back : returned_at b ≡ here.0 = subst (λ (o : maybe.Option Phase). Fits me.0.claimed me.0.is_stopped (length me.0.back % n) o here.0) oldest here.2 in
        let there : get_elem? phases i ≡ some (returned_at b) = ap (λ (x : ℕ). get_elem? phases x) place ∙ here.1 ∙ ap some (sym is_back) in
        let w : SwapView = came b me.0 in
        let one_more : suc (length me.0.back) ≡ length w.back = let l = length-append me.0.back (b ∷ []) in omega arith in
        let fits : Kept n w returned in_hand waiting bs seat (set phases i idle) (set views 0 w) = record {
          at_api = api_here k w;
          is_api = k.is_api;
          each = api_each k w is;
          alone = k.alone;
          back_is = back_is ∙ sym (append_assoc me.0.back (b ∷ []) bs);
          given_is = k.given_is;
          one_hand = k.one_hand;
          early = k.early;
          ring = subst (λ (x : ℕ × ℕ). Ring n x.0 me.0.claimed me.0.is_stopped (history returned in_hand waiting) (set phases x.1 idle)) (λ j. (one_more j, sym place j)) (ring_back k.ring all);
          beside = api_beside k w;
          stop = stop_else k.stop i (returned_at b) idle there (λ (h : returned_at b ≡ stopped_at). cc h);
          seen = api_seen k w refl;
        } in
        let given_is : me.0.given ≡ frames_of (me.0.back ++ b ∷ bs) ++ (in_hand ++ waiting) = k.given_is ∙ ap (λ (l : List RenderedFrame). frames_of l ++ (in_hand ++ waiting)) back_is in
        record {
          found = returned_at b;
          next = idle;
          at = there;
          turns = refl;
          view = w;
          act = takes i (Some (Back b));
          valid = at_map home phases i (returned_at b) there;
          homes = sym (map-set home phases i idle);
          ring = record { me = w; returned = returned; in_hand = in_hand; waiting = waiting; coming = bs; seat = seat; kept = subst (λ (x : ℕ). Kept n w returned in_hand waiting bs seat (set phases i idle) (set views x w)) (sym first) fits };
          told = (
            (λ _. (b, refl, subst (λ (l : List Frame). l ≡ frames_of me.0.back ++ b.frame ∷ drop (suc (length me.0.back)) l) (sym given_is) (oldest_frame me.0.back b bs (in_hand ++ waiting)))),
            (λ h. absurd (h refl)),
          );
        }

    go : (phases : List Phase) (views : List SwapView) → IsRing n phases views → get_elem? views id ≡ some me.0 → TriesBack n slots phases views id me i
    go phases views r at = let here = api_kept r id me.0 at is in by_coming phases views r at here.0 r.returned r.in_hand r.waiting r.coming r.seat here.1.back_is here.1

-- ---- the stop

pub stops_keep : (n slots id : ℕ) (me : Mine) (i : ℕ) → me.0.side ≡ api → me.0.claimed ≡ n → length me.0.given ≡ length me.0.back → i ≡ length me.0.given % n → Allows (IsHeld n) slots id me i (λ _. 4) (λ _. Stops (step slots i 4 0 none) me 4)
stops_keep n slots id me i is all none_out place = allows_from n slots id me i (λ _. 4) (λ _. Stops (step slots i 4 0 none) me 4) go
  where
    out_home : (c : ℕ) (s : Bool) (x : ℕ) (q : Phase) → x < c → IsFree c s x q → home q ≡ none
    out_home c s x unclaimed lt f = absurd (omega arith)
    out_home c s x idle lt f = refl
    out_home c s x (given_at g) lt f = absurd f
    out_home c s x (taken_at g) lt f = absurd f
    out_home c s x (returned_at g) lt f = absurd f
    out_home c s x stopped_at lt f = refl

    go : (phases : List Phase) (views : List SwapView) → IsRing n phases views → get_elem? views id ≡ some me.0 → Done n phases views id me i (λ _. 4) (λ _. Stops (step slots i 4 0 none) me 4)
    go phases views r at =
        let here = api_kept r id me.0 at is in
        let k = here.1 in
        let past = history r.returned r.in_hand r.waiting in
        let c = counts k in
        let some_word = k.ring.some_word in
        let index : length past % n ≡ i = ap (λ (x : ℕ). x % n) (sym c.0) ∙ sym place in
        let lo : length me.0.back ≤ length past = omega arith in
        let hi : length past < length me.0.back + n = omega arith in
        let there = k.ring.fits (length past) lo hi in
        let free = subst (λ (o : maybe.Option Phase). Fits me.0.claimed me.0.is_stopped (length past % n) o there.0) (at_past past (length past) (omega arith)) there.2 in
        let out = out_home me.0.claimed me.0.is_stopped (length past % n) there.0 (subst (λ (x : ℕ). length past % n < x) (sym all) (mod-lt (length past) some_word)) free in
        let at_i : get_elem? phases i ≡ some there.0 = ap (λ (x : ℕ). get_elem? phases x) (sym index) ∙ there.1 in
        let within : i < length phases = subst (λ (x : ℕ). x < length phases) (sym place) (subst (λ (m : ℕ). length me.0.given % n < m) (sym k.ring.long) (mod-lt (length me.0.given) some_word)) in
        let w : SwapView = stopped me.0 in
        let fits : Kept n w r.returned r.in_hand r.waiting r.coming r.seat (set phases i stopped_at) (set views 0 w) = record {
          at_api = api_here k w;
          is_api = k.is_api;
          each = api_each k w is;
          alone = k.alone;
          back_is = k.back_is;
          given_is = k.given_is;
          one_hand = k.one_hand;
          early = k.early;
          ring = subst (λ (x : ℕ). Ring n (length me.0.back) me.0.claimed true past (set phases x stopped_at)) index (ring_stop k.ring all lo hi);
          beside = api_beside k w;
          stop = record { early = omega arith; stands = λ _ _. subst (λ (x : ℕ). get_elem? (set phases i stopped_at) x ≡ some stopped_at) place (set_here phases i stopped_at within) };
          seen = seen_set me.0.is_stopped true views 0 w k.seen (λ _. refl) (λ _. refl);
        } in
        record {
          found = there.0;
          next = stopped_at;
          at = at_i;
          turns = refl;
          view = w;
          act = keeps;
          valid = tt;
          homes = sym (set_again (map home phases) i none (at_map home phases i there.0 at_i ∙ ap some out)) ∙ sym (map-set home phases i stopped_at);
          ring = record { me = w; returned = r.returned; in_hand = r.in_hand; waiting = r.waiting; coming = r.coming; seat = r.seat; kept = subst (λ (x : ℕ). Kept n w r.returned r.in_hand r.waiting r.coming r.seat (set phases i stopped_at) (set views x w)) (sym here.0) fits };
          told = refl;
        }

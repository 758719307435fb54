-- The steps of one seat that has the whole keep the rule.
use Rattle.std.proofs.Common.{◌≡◌, ℕ, suc, ◌+◌, ◌%◌, ◌<◌, ◌≤◌, true, true≢false, List, [], ◌∷◌, ◌++◌, map, length, set, sym, refl, ap, ◌∙◌, subst, arith, Some, length-append}
use Rattle.std.proofs.lemmas.List.{append-nil, append_assoc, length-map, map-set, append_cancel_left, drop-append-le}
use lib.ListN.{drop, get_elem?, drop_of_length-le}
use mathlib.Core.Option.{none, some}
use mathlib.Core.Option as maybe
use Rattle.atomic_table.specs.Table.{step, rest, takes, gives, homes_after, Allows}
use Rattle.atomic_table.proofs.Lists.{at_map}
use Rattle.frame_record.specs.declared.frame.Frame.{Frame}
use Rattle.frame_record.specs.declared.frame.RenderedFrame.{RenderedFrame}
use Rattle.frame_swap.specs.declared.content.Content.TheVariants.{Given, Back}
use Rattle.frame_record.specs.Links.{frames_of}
use Rattle.frame_swap.specs.Views.{api, SwapView, Slots, Mine, gave, took, TakesHere, gave_back, Returns, came, ComesHere, later_of}
use Rattle.frame_swap.specs.Rule.{Phase, idle, given_at, taken_at, returned_at, stopped_at, home, history, Fits, Ring, Kept, IsRing, IsHeld}
use Rattle.frame_swap.proofs.Ring.{at_next, ring_swap, ring_back, history_returns, oldest_back}
use Rattle.frame_swap.proofs.Steps.{Done, allows_from, counts, stop_else, api_kept, api_here, api_each, api_beside, api_seen, whole_each, rendered_same, frames_snoc, oldest_frame}

-- a frame is taken
pub takes_here : (n slots id : ℕ) (me : Mine) (i : ℕ) (f : Frame) → me.0.side ≡ api → me.0.is_whole ≡ true → me.0.given ≡ me.0.taken ++ f ∷ [] → me.0.taken ≡ frames_of me.0.returned → i ≡ length me.0.returned % n
    → Allows (IsHeld n) slots id me i (λ _. 2) (λ _. TakesHere (step slots i 2 0 none) me 2)
takes_here n slots id me i f is whole last none_held place = allows_from n slots id me i (λ _. 2) (λ _. TakesHere (step slots i 2 0 none) me 2) go
  where
    after : (phases : List Phase) (views : List SwapView) → id ≡ 0 → (returned : List RenderedFrame) (coming : List RenderedFrame) (seat : ℕ) → Kept n me.0 returned [] (f ∷ []) coming seat phases views → i ≡ length returned % n
        → Done n phases views id me i (λ _. 2) (λ _. TakesHere (step slots i 2 0 none) me 2)
    after phases views first returned coming seat k here_is =
        let c = counts k in
        let few = k.ring.few in
        let xs = map returned_at returned in
        let l : length xs ≡ length returned = length-map returned returned_at in
        let index : length xs % n ≡ i = ap (λ (x : ℕ). x % n) l ∙ sym here_is in
        let lo : length me.0.back ≤ length xs = omega arith in
        let hi : length xs < length me.0.back + n = omega arith in
        let here = k.ring.fits (length xs) lo hi in
        let is_given : given_at f ≡ here.0 = subst (λ (o : maybe.Option Phase). Fits me.0.claimed me.0.is_stopped (length xs % n) o here.0) (at_next xs (given_at f) []) here.2 in
        let there : get_elem? phases i ≡ some (given_at f) = ap (λ (x : ℕ). get_elem? phases x) (sym index) ∙ here.1 ∙ ap some (sym is_given) in
        let w : SwapView = took f me.0 in
        let alone = k.alone whole in
        let taken_is : w.taken ≡ frames_of returned ++ f ∷ [] = ap (λ (l : List Frame). l ++ f ∷ []) (alone.0 ∙ append-nil (frames_of returned)) in
        let fits : Kept n w returned (f ∷ []) [] coming seat (set phases i (taken_at f)) (set views 0 w) = record {
          at_api = api_here k w;
          is_api = k.is_api;
          each = whole_each k w (frames_of returned ++ f ∷ []) returned is whole;
          alone = λ _. (taken_is, alone.1);
          back_is = k.back_is;
          given_is = k.given_is;
          one_hand = omega arith;
          early = k.early;
          ring = subst (λ (x : ℕ). Ring n (length me.0.back) me.0.claimed me.0.is_stopped (xs ++ taken_at f ∷ []) (set phases x (taken_at f))) index (ring_swap xs (given_at f) (taken_at f) [] k.ring lo);
          beside = λ h. absurd (true≢false (sym whole ∙ h));
          stop = stop_else k.stop i (given_at f) (taken_at f) there (λ (h : given_at f ≡ stopped_at). cc h);
          seen = api_seen k w refl;
        } in
        record {
          found = given_at f;
          next = taken_at f;
          at = there;
          turns = refl;
          view = w;
          act = takes i (Some (Given f));
          valid = at_map home phases i (given_at f) there;
          homes = sym (map-set home phases i (taken_at f));
          ring = record { me = w; returned = returned; in_hand = f ∷ []; waiting = []; coming = coming; seat = seat; kept = subst (λ (x : ℕ). Kept n w returned (f ∷ []) [] coming seat (set phases i (taken_at f)) (set views x w)) (sym first) fits };
          told = λ f' e. let same : f ∷ [] ≡ f' ∷ [] = append_cancel_left me.0.taken (f ∷ []) (f' ∷ []) (sym last ∙ e) in let one : f ≡ f' = cc same in λ j. (took (one j) me.0, (i, Some (Given (one j))) ∷ me.1);
        }

    go : (phases : List Phase) (views : List SwapView) → IsRing n phases views → get_elem? views id ≡ some me.0 → Done n phases views id me i (λ _. 2) (λ _. TakesHere (step slots i 2 0 none) me 2)
    go phases views r at =
        let here = api_kept r id me.0 at is in
        let k = here.1 in
        let alone = k.alone whole in
        let hand : r.in_hand ≡ [] = append_cancel_left (frames_of r.returned) r.in_hand [] (sym alone.0 ∙ none_held ∙ ap (λ (l : List RenderedFrame). frames_of l) alone.1 ∙ sym (append-nil (frames_of r.returned))) in
        let wait : r.waiting ≡ f ∷ [] = append_cancel_left (frames_of r.returned) r.waiting (f ∷ [])
        (sym (k.given_is ∙ ap (λ (l : List Frame). frames_of r.returned ++ (l ++ r.waiting)) hand) ∙ last ∙ ap (λ (l : List Frame). l ++ f ∷ []) (none_held ∙ ap (λ (l : List RenderedFrame). frames_of l) alone.1)) in
        after phases views here.0 r.returned r.coming r.seat (subst (λ (l : List Frame × List Frame). Kept n me.0 r.returned l.0 l.1 r.coming r.seat phases views) (λ j. (hand j, wait j)) k) (place ∙ ap (λ (l : List RenderedFrame). length l % n) alone.1)

-- a frame is given back
pub returns_here : (n slots id : ℕ) (me : Mine) (i : ℕ) (r : RenderedFrame) (others : Slots) → me.0.side ≡ api → me.0.is_whole ≡ true → me.0.taken ≡ frames_of me.0.returned ++ r.frame ∷ [] → i ≡ length me.0.returned % n → me.1 ≡ (i, Some (Back r)) ∷ others
    → Allows (IsHeld n) slots id me i (λ _. 3) (λ _. Returns (step slots i 3 0 none) me 3)
returns_here n slots id me i b others is whole last place full = allows_from n slots id me i (λ _. 3) (λ _. Returns (step slots i 3 0 none) me 3) go
  where
    after : (phases : List Phase) (views : List SwapView) → id ≡ 0 → (returned : List RenderedFrame) (waiting : List Frame) (coming : List RenderedFrame) (seat : ℕ) → Kept n me.0 returned (b.frame ∷ []) waiting coming seat phases views → i ≡ length returned % n
        → Done n phases views id me i (λ _. 3) (λ _. Returns (step slots i 3 0 none) me 3)
    after phases views first returned waiting coming seat k here_is =
        let c = counts k in
        let few = k.ring.few in
        let xs = map returned_at returned in
        let l : length xs ≡ length returned = length-map returned returned_at in
        let index : length xs % n ≡ i = ap (λ (x : ℕ). x % n) l ∙ sym here_is in
        let lo : length me.0.back ≤ length xs = omega arith in
        let hi : length xs < length me.0.back + n = omega arith in
        let here = k.ring.fits (length xs) lo hi in
        let w : SwapView = gave_back b me.0 in
        let now = returned ++ b ∷ [] in
        let is_taken : taken_at b.frame ≡ here.0 = subst (λ (o : maybe.Option Phase). Fits me.0.claimed me.0.is_stopped (length xs % n) o here.0) (at_next xs (taken_at b.frame) (map given_at waiting)) here.2 in
        let there : get_elem? phases i ≡ some (taken_at b.frame) = ap (λ (x : ℕ). get_elem? phases x) (sym index) ∙ here.1 ∙ ap some (sym is_taken) in
        let alone = k.alone whole in
        let fits : Kept n w now [] waiting (coming ++ b ∷ []) seat (set phases i (returned_at b)) (set views 0 w) = record {
          at_api = api_here k w;
          is_api = k.is_api;
          each = whole_each k w (frames_of now ++ []) now is whole;
          alone = λ _. (alone.0 ∙ sym (frames_snoc returned b []), ap (λ (l : List RenderedFrame). l ++ b ∷ []) alone.1);
          back_is = ap (λ (l : List RenderedFrame). l ++ b ∷ []) k.back_is ∙ append_assoc me.0.back coming (b ∷ []);
          given_is = k.given_is ∙ sym (frames_snoc returned b waiting);
          one_hand = omega arith;
          early = k.early;
          ring = subst (λ (x : ℕ × List Phase). Ring n (length me.0.back) me.0.claimed me.0.is_stopped x.1 (set phases x.0 (returned_at b))) (λ j. (index j, sym (history_returns returned b waiting) j)) (ring_swap xs (taken_at b.frame) (returned_at b) (map given_at waiting) k.ring lo);
          beside = λ h. absurd (true≢false (sym whole ∙ h));
          stop = stop_else k.stop i (taken_at b.frame) (returned_at b) there (λ (h : taken_at b.frame ≡ stopped_at). cc h);
          seen = api_seen k w refl;
        } in
        record {
          found = here.0;
          next = returned_at b;
          at = ap (λ (x : ℕ). get_elem? phases x) (sym index) ∙ here.1;
          turns = refl;
          view = w;
          act = gives;
          valid = tt;
          homes = ap (λ (h : Slots). homes_after (map home phases) h gives) full ∙ sym (map-set home phases i (returned_at b));
          ring = record { me = w; returned = now; in_hand = []; waiting = waiting; coming = coming ++ b ∷ []; seat = seat; kept = subst (λ (x : ℕ). Kept n w now [] waiting (coming ++ b ∷ []) seat (set phases i (returned_at b)) (set views x w)) (sym first) fits };
          told = λ r' k' e. let same : b ≡ r' = rendered_same i b r' others k' (sym full ∙ e) in λ j. (gave_back (same j) me.0, rest (e j));
        }

    go : (phases : List Phase) (views : List SwapView) → IsRing n phases views → get_elem? views id ≡ some me.0 → Done n phases views id me i (λ _. 3) (λ _. Returns (step slots i 3 0 none) me 3)
    go phases views r at =
        let here = api_kept r id me.0 at is in
        let k = here.1 in
        let alone = k.alone whole in
        let hand : r.in_hand ≡ b.frame ∷ [] = append_cancel_left (frames_of r.returned) r.in_hand (b.frame ∷ []) (sym alone.0 ∙ last ∙ ap (λ (l : List RenderedFrame). frames_of l ++ b.frame ∷ []) alone.1) in
        after phases views here.0 r.returned r.waiting r.coming r.seat (subst (λ (l : List Frame). Kept n me.0 r.returned l r.waiting r.coming r.seat phases views) hand k) (place ∙ ap (λ (l : List RenderedFrame). length l % n) alone.1)

oldest_returned : (back : List RenderedFrame) (r : RenderedFrame) (coming : List RenderedFrame) → back ++ r ∷ coming ≡ back ++ r ∷ drop (suc (length back)) (back ++ r ∷ coming)
oldest_returned [] r coming = refl
oldest_returned (x ∷ xs) r coming = ap (λ (l : List RenderedFrame). x ∷ l) (oldest_returned xs r coming)

-- a frame comes back
pub comes_here : (n slots id : ℕ) (me : Mine) (i : ℕ) → me.0.side ≡ api → me.0.is_whole ≡ true → me.0.claimed ≡ n → length me.0.back < length me.0.returned → i ≡ length me.0.back % n
    → Allows (IsHeld n) slots id me i (λ _. 0) (λ _. ComesHere (step slots i 0 0 none) me 0)
comes_here n slots id me i is whole all some_out place = allows_from n slots id me i (λ _. 0) (λ _. ComesHere (step slots i 0 0 none) me 0) go
  where
    by_coming : (phases : List Phase) (views : List SwapView) → id ≡ 0 → (returned : List RenderedFrame) (in_hand waiting : List Frame) (coming : List RenderedFrame) (seat : ℕ) → returned ≡ me.0.back ++ coming → length me.0.back < length returned
        → Kept n me.0 returned in_hand waiting coming seat phases views → Done n phases views id me i (λ _. 0) (λ _. ComesHere (step slots i 0 0 none) me 0)
    by_coming phases views first returned in_hand waiting [] seat back_is more k = let e = ap (λ (l : List RenderedFrame). length l) (back_is ∙ append-nil me.0.back) in absurd (omega arith)
    by_coming phases views first returned in_hand waiting (b ∷ bs) seat back_is more k =
        let some_word = k.ring.some_word in
        let here = k.ring.fits (length me.0.back) (omega arith) (omega arith) in
        let others = map taken_at in_hand ++ map given_at waiting in
        let oldest : get_elem? (history returned in_hand waiting) (length me.0.back) ≡ some (returned_at b) =
        subst (λ (l : List RenderedFrame). get_elem? (map returned_at l ++ others) (length me.0.back) ≡ some (returned_at b)) (sym back_is) (oldest_back me.0.back b bs others) in
        let is_back : returned_at b ≡ here.0 = subst (λ (o : maybe.Option Phase). Fits me.0.claimed me.0.is_stopped (length me.0.back % n) o here.0) oldest here.2 in
        let there : get_elem? phases i ≡ some (returned_at b) = ap (λ (x : ℕ). get_elem? phases x) place ∙ here.1 ∙ ap some (sym is_back) in
        let w : SwapView = came b me.0 in
        let one_more : suc (length me.0.back) ≡ length w.back = let l = length-append me.0.back (b ∷ []) in omega arith in
        let fits : Kept n w returned in_hand waiting bs seat (set phases i idle) (set views 0 w) = record {
          at_api = api_here k w;
          is_api = k.is_api;
          each = api_each k w is;
          alone = k.alone;
          back_is = back_is ∙ sym (append_assoc me.0.back (b ∷ []) bs);
          given_is = k.given_is;
          one_hand = k.one_hand;
          early = k.early;
          ring = subst (λ (x : ℕ × ℕ). Ring n x.0 me.0.claimed me.0.is_stopped (history returned in_hand waiting) (set phases x.1 idle)) (λ j. (one_more j, sym place j)) (ring_back k.ring all);
          beside = api_beside k w;
          stop = stop_else k.stop i (returned_at b) idle there (λ (h : returned_at b ≡ stopped_at). cc h);
          seen = api_seen k w refl;
        } in
        let given_is : me.0.given ≡ frames_of (me.0.back ++ b ∷ bs) ++ (in_hand ++ waiting) = k.given_is ∙ ap (λ (l : List RenderedFrame). frames_of l ++ (in_hand ++ waiting)) back_is in
        let returned_is : me.0.returned ≡ me.0.back ++ b ∷ bs = (k.alone whole).1 ∙ back_is in
        record {
          found = returned_at b;
          next = idle;
          at = there;
          turns = refl;
          view = w;
          act = takes i (Some (Back b));
          valid = at_map home phases i (returned_at b) there;
          homes = sym (map-set home phases i idle);
          ring = record { me = w; returned = returned; in_hand = in_hand; waiting = waiting; coming = bs; seat = seat; kept = subst (λ (x : ℕ). Kept n w returned in_hand waiting bs seat (set phases i idle) (set views x w)) (sym first) fits };
          told = (
            b,
            refl,
            subst (λ (l : List RenderedFrame). l ≡ me.0.back ++ b ∷ drop (suc (length me.0.back)) l) (sym returned_is) (oldest_returned me.0.back b bs),
            subst (λ (l : List Frame). l ≡ frames_of me.0.back ++ b.frame ∷ drop (suc (length me.0.back)) l) (sym given_is) (oldest_frame me.0.back b bs (in_hand ++ waiting)),
          );
        }

    go : (phases : List Phase) (views : List SwapView) → IsRing n phases views → get_elem? views id ≡ some me.0 → Done n phases views id me i (λ _. 0) (λ _. ComesHere (step slots i 0 0 none) me 0)
    go phases views r at =
        let here = api_kept r id me.0 at is in
        let k = here.1 in
        by_coming phases views here.0 r.returned r.in_hand r.waiting r.coming r.seat k.back_is (subst (λ (l : List RenderedFrame). length me.0.back < length l) (k.alone whole).1 some_out) k

-- what was rendered in place counts as what was given
pub same_count : (given : List Frame) (returned : List RenderedFrame) → given ≡ frames_of returned → length given ≡ length returned
same_count given returned e = ap (λ (l : List Frame). length l) e ∙ length-map returned (λ (r : RenderedFrame). r.frame)

-- where all that was given is taken, what is given now is the one to take
pub last_given : (f : Frame) (v w : SwapView) → v.taken ≡ v.given → w ≡ gave f v → w.given ≡ w.taken ++ f ∷ []
last_given f v w e view = ap (λ (u : SwapView). u.given) view ∙ ap (λ (l : List Frame). l ++ f ∷ []) (sym e) ∙ ap (λ (u : SwapView). u.taken ++ f ∷ []) (sym view)

-- ---- the link

-- one frame more is given and rendered
pub one_rendered : (given : List Frame) (returned : List RenderedFrame) (f : Frame) (r : RenderedFrame) → given ≡ frames_of returned → r.frame ≡ f → given ++ f ∷ [] ≡ frames_of (returned ++ r ∷ [])
one_rendered given returned f r e same =
    ap (λ (l : List Frame). l ++ f ∷ []) e ∙ ap (λ (x : Frame). frames_of returned ++ x ∷ []) (sym same) ∙ sym (frames_snoc returned r []) ∙ append-nil (frames_of (returned ++ r ∷ []))

-- what came back is a prefix of what was rendered
pub one_later : (returned back : List RenderedFrame) (r : RenderedFrame) → length back ≤ length returned → returned ≡ back ++ later_of returned back → returned ++ r ∷ [] ≡ back ++ later_of (returned ++ r ∷ []) back
one_later returned back r h e =
    ap (λ (l : List RenderedFrame). l ++ r ∷ []) e
    ∙ append_assoc back (later_of returned back) (r ∷ [])
    ∙ ap (λ (l : List RenderedFrame). back ++ l) (sym (drop-append-le (length back) returned (r ∷ []) h))

pub one_came : (returned back : List RenderedFrame) (r : RenderedFrame) → returned ≡ back ++ r ∷ later_of returned (back ++ r ∷ []) → returned ≡ (back ++ r ∷ []) ++ later_of returned (back ++ r ∷ [])
one_came returned back r e = e ∙ sym (append_assoc back (r ∷ []) (later_of returned (back ++ r ∷ [])))

-- with nothing out, what came back is what was rendered
pub all_came : (given : List Frame) (returned back : List RenderedFrame) → given ≡ frames_of returned → length given ≡ length back → returned ≡ back ++ later_of returned back → (returned ≡ back) × (given ≡ frames_of back)
all_came given returned back e same prefix =
    let count = same_count given returned e in
    let all : returned ≡ back = prefix ∙ ap (λ (l : List RenderedFrame). back ++ l) (drop_of_length-le returned (omega arith)) ∙ append-nil back in
    (all, e ∙ ap (λ (l : List RenderedFrame). frames_of l) all)

-- The slots that an end holds.
use Rattle.std.proofs.Common.{◌≡◌, ℕ, zero, suc, ◌+◌, ◌-◌, ◌%◌, ◌<◌, ◌≤◌, List, [], ◌∷◌, ◌++◌, length, length-append, refl, drop, sym, ap, add-zero, mod-eq_of_lt, ◌∙◌, arith, None}
use Rattle.std.proofs.Math.Nat.{add-mod_right, mod-add-mod}
use Rattle.atomic_table.specs.Table.{rest}
use Rattle.std.proofs.lemmas.List.{length-map}
use Rattle.frame_record.specs.declared.frame.Frame.{Frame}
use Rattle.frame_record.specs.declared.frame.RenderedFrame.{RenderedFrame}
use Rattle.frame_record.specs.Links.{frames_of, CameBack}
use Rattle.frame_swap.specs.Views.{SwapView, Slot, Slots, Mine, first_view, claimed_one, empty_slots, missed, with_misses}

-- one slot more at the end
pub slots_snoc : (n p k : ℕ) → empty_slots n p k ++ ((p + k) % n, None) ∷ [] ≡ empty_slots n p (suc k)
slots_snoc n p zero = ap (λ (x : ℕ). (x % n, None) ∷ []) (add-zero p)
slots_snoc n p (suc k) = ap (λ (l : Slots). (p % n, None) ∷ l) (ap (λ (x : ℕ). empty_slots n (suc p) k ++ (x % n, None) ∷ []) (omega arith) ∙ slots_snoc n (suc p) k)

-- the first of the slots
pub slots_first : (n p k m : ℕ) → k ≡ suc m → empty_slots n p k ≡ (p % n, None) ∷ empty_slots n (suc p) m
slots_first n p k m e = ap (λ (x : ℕ). empty_slots n p x) e

-- a slot that comes back stands last
pub slots_back : (n given back : ℕ) → given ≤ back + n → empty_slots n given (back + n - given) ++ (back % n, None) ∷ [] ≡ empty_slots n given (suc back + n - given)
slots_back n given back h =
    let position : back + n ≡ given + (back + n - given) = omega arith in
    let count : suc (back + n - given) ≡ suc back + n - given = omega arith in
    ap (λ (x : ℕ). empty_slots n given (back + n - given) ++ (x, None) ∷ []) (sym (add-mod_right back n) ∙ ap (λ (x : ℕ). x % n) position)
    ∙ slots_snoc n given (back + n - given)
    ∙ ap (λ (k : ℕ). empty_slots n given k) count

-- one slot more is claimed
pub claimed_next : (n i : ℕ) → i < n → ◌≡◌ {A = Mine} (claimed_one (record first_view { claimed = i }), empty_slots n 0 i ++ (i, None) ∷ []) (record first_view { claimed = i + 1 }, empty_slots n 0 (i + 1))
claimed_next n i lt =
    let more : suc i ≡ i + 1 = omega arith in
    let position : 0 + i ≡ i = omega arith in
    let index : (0 + i) % n ≡ i = ap (λ (x : ℕ). x % n) position ∙ mod-eq_of_lt lt in
    let slots : empty_slots n 0 i ++ (i, None) ∷ [] ≡ empty_slots n 0 (i + 1) = ap (λ (x : ℕ). empty_slots n 0 i ++ (x, None) ∷ []) (sym index) ∙ slots_snoc n 0 i ∙ ap (λ (k : ℕ). empty_slots n 0 k) more in
    λ j. (record first_view { claimed = more j }, slots j)

-- with as many returned as taken, no slot is left
pub none_left : (n taken returned : ℕ) → taken ≡ returned → empty_slots n returned (taken - returned) ≡ []
none_left n taken returned e = let none : taken - returned ≡ 0 = omega arith in ap (λ (k : ℕ). empty_slots n returned k) none

-- the slot of the frame that is given next
pub next_slot : (n given back next : ℕ) → given < back + n → next ≡ given % n → empty_slots n given (back + n - given) ≡ (next, None) ∷ empty_slots n (suc given) (back + n - suc given)
next_slot n given back next h e =
    let count : back + n - given ≡ suc (back + n - suc given) = omega arith in
    slots_first n given (back + n - given) (back + n - suc given) count ∙ ap (λ (x : ℕ). (x, None) ∷ empty_slots n (suc given) (back + n - suc given)) (sym e)

-- the slot of the frame in hand
pub hand_slot : (n taken returned place : ℕ) → taken ≡ suc returned → place ≡ returned % n → empty_slots n returned (taken - returned) ≡ (place, None) ∷ []
hand_slot n taken returned place h e =
    let count : taken - returned ≡ 1 = omega arith in
    ap (λ (k : ℕ). empty_slots n returned k) count ∙ ap (λ (x : ℕ). (x, None) ∷ []) (sym e)

-- the place after
pub next_place : (n place count count' : ℕ) → place ≡ count % n → count' ≡ suc count → (place + 1) % n ≡ count' % n
next_place n place count count' e more =
    let one : count + 1 ≡ count' = omega arith in
    ap (λ (x : ℕ). (x + 1) % n) e ∙ mod-add-mod count n 1 ∙ ap (λ (x : ℕ). x % n) one

abbrev pub first_value : Slots → Slot
first_value [] = None
first_value (x ∷ xs) = x.1

-- the first slot, and the others
pub headed : (l : Slots) (i : ℕ) (x : Slot) (others : Slots) → l ≡ (i, x) ∷ others → l ≡ (i, x) ∷ rest l
headed l i x others e = e ∙ ap (λ (k : Slots). (i, x) ∷ k) (sym (ap rest e))

-- one frame is in hand
pub held_one : (taken : List Frame) (returned : List RenderedFrame) (f : Frame) → taken ≡ frames_of returned ++ f ∷ [] → length taken ≡ suc (length returned)
held_one taken returned f e = let l = ap (λ (k : List Frame). length k) e in let a = length-append (frames_of returned) (f ∷ []) in let m = length-map returned (λ (r : RenderedFrame). r.frame) in omega arith

-- a frame is out
pub some_out : (given : List Frame) (back : List RenderedFrame) (f : Frame) (others : List Frame) → given ≡ frames_of back ++ f ∷ others → length back < length given
some_out given back f others e = let l = ap (λ (k : List Frame). length k) e in let a = length-append (frames_of back) (f ∷ others) in let m = length-map back (λ (r : RenderedFrame). r.frame) in omega arith

-- each frame that was taken was given back
pub none_held : (taken : List Frame) (returned : List RenderedFrame) → taken ≡ frames_of returned → length taken ≡ length returned
none_held taken returned e = ap (λ (k : List Frame). length k) e ∙ length-map returned (λ (r : RenderedFrame). r.frame)

-- the value of the first slot
pub value_is : (l : Slots) (i : ℕ) (x y : Slot) (k k' : Slots) → l ≡ (i, x) ∷ k → l ≡ (i, y) ∷ k' → x ≡ y
value_is l i x y k k' e e' = ap first_value (sym e ∙ e')

pub one_more : (back : List RenderedFrame) (r : RenderedFrame) → suc (length back) ≡ length (back ++ r ∷ [])
one_more back r = let l = length-append back (r ∷ []) in omega arith

-- ---- what came back

drop_append : (xs ys : List Frame) → drop (length xs) (xs ++ ys) ≡ ys
drop_append [] ys = refl
drop_append (x ∷ xs) ys = drop_append xs ys

drop_next : (xs : List Frame) (y : Frame) (ys : List Frame) → drop (suc (length xs)) (xs ++ y ∷ ys) ≡ ys
drop_next [] y ys = refl
drop_next (x ∷ xs) y ys = drop_next xs y ys

frames_more : (rs : List RenderedFrame) (r : RenderedFrame) (fs : List Frame) → frames_of (rs ++ r ∷ []) ++ fs ≡ frames_of rs ++ r.frame ∷ fs
frames_more [] r fs = refl
frames_more (x ∷ rs) r fs = ap (λ (l : List Frame). x.frame ∷ l) (frames_more rs r fs)

-- the oldest frame that was out came back
pub came_back : (given : List Frame) (old new : List RenderedFrame) (r : RenderedFrame) → given ≡ frames_of old ++ r.frame ∷ drop (suc (length old)) given → new ≡ old ++ r ∷ [] → CameBack given old new r
came_back given old new r e back =
    let rest : List Frame = drop (suc (length old)) given in
    let long : length (frames_of old) ≡ length old = length-map old (λ (x : RenderedFrame). x.frame) in
    let count : length new ≡ suc (length old) = (let l = length-append old (r ∷ []) in let n = ap length back in omega (arith, l, n)) in
    let left : drop (length new) given ≡ rest = ap (λ (n : ℕ). drop n given) count in
    let out : drop (length old) given ≡ r.frame ∷ rest = ap (drop (length old)) e ∙ ap (λ (n : ℕ). drop n (frames_of old ++ r.frame ∷ rest)) (sym long) ∙ drop_append (frames_of old) (r.frame ∷ rest) in
    record {
      back = back;
      oldest = out ∙ ap (λ (l : List Frame). r.frame ∷ l) (sym left);
      prefix = e ∙ sym (frames_more old r rest) ∙ (λ j. frames_of (sym back j) ++ sym left j);
    }

-- ---- tries

-- one try more that found nothing
pub missed_again : (old now first : SwapView) → old ≡ with_misses old.misses first → now ≡ missed old → now ≡ with_misses now.misses first
missed_again old now first e more = more ∙ ap missed e ∙ ap (λ (n : ℕ). with_misses n first) (sym (ap (λ (v : SwapView). v.misses) more))

-- what a try did that found something, after some that found nothing
pub did_then : (f : SwapView → SwapView) → ((n : ℕ) (v : SwapView) → f (with_misses n v) ≡ with_misses n (f v)) → ((v : SwapView) → (f v).misses ≡ v.misses)
    → (old now first : SwapView) → old ≡ with_misses old.misses first → now ≡ f old → now ≡ with_misses now.misses (f first)
did_then f past same old now first e did =
    did ∙ ap f e ∙ past old.misses first ∙ ap (λ (n : ℕ). with_misses n (f first)) (sym (ap (λ (v : SwapView). v.misses) did ∙ same old))

-- Each table stands for some state, and what the rule says of a state that it stands for.
use Rattle.std.proofs.Common.{◌≡◌, ℕ, zero, suc, ◌≤◌, Bool, true, false, List, [], ◌∷◌, ◌++◌, map, length, take, drop, sym, refl, ap, ◌∙◌, arith}
use Rattle.std.proofs.lemmas.List.{append_assoc, length-map}
use Rattle.schedule_model.specs.Machine as machine
use Rattle.schedule_model.specs.Machine.{State}
use Rattle.schedule_model.specs.Held.{IsPrefix}
use Rattle.frame_record.specs.declared.frame.Frame.{Frame}
use Rattle.frame_record.specs.declared.frame.RenderedFrame.{RenderedFrame}
use Rattle.frame_record.specs.Links.{frames_of}
use Rattle.frame_swap.specs.Views.{SwapView}
use Rattle.frame_swap.specs.Rule.{Phase, IsRing}
use Rattle.frame_swap.specs.Events.{outcome_seen, is_same, is_render, Ends, Stands, PartsHold}
use Rattle.frame_swap.proofs.Steps.{render_at}
use Rattle.frame_swap.proofs.Events.{Lengths, length_take, length_drop, given_count, returned_count}

-- ---- some state

abbrev frame_seen : Frame → machine.Frame
frame_seen f = record { number = f.number; names = [] }

abbrev rendered_seen : RenderedFrame → machine.Frame × machine.Outcome
rendered_seen r = (frame_seen r.frame, outcome_seen r.outcome)

-- a state with the lists of the ends
abbrev state_of : SwapView → SwapView → State
state_of me other = record {
  frame = 0;
  is_given = false;
  base = 0;
  next = 0;
  begun = 0;
  places = [];
  greatest = 0;
  recorders = [];
  waiting = [];
  collected = [];
  gathered_numbers = [];
  gathered_names = [];
  given = map frame_seen me.given;
  taken = map frame_seen other.taken;
  returned = map rendered_seen other.returned;
  back = map rendered_seen me.back;
}

numbers_same : (fs : List Frame) → map (λ f. f.number) (map frame_seen fs) ≡ map (λ f. f.number) fs
numbers_same [] = refl
numbers_same (f ∷ fs) = ap (λ l. f.number ∷ l) (numbers_same fs)

frames_same : (rs : List RenderedFrame) → map (λ x. x.0) (map rendered_seen rs) ≡ map frame_seen (frames_of rs)
frames_same [] = refl
frames_same (r ∷ rs) = ap (λ l. frame_seen r.frame ∷ l) (frames_same rs)

outcomes_same : (rs : List RenderedFrame) → map (λ x. x.1) (map rendered_seen rs) ≡ map (λ r. outcome_seen r.outcome) rs
outcomes_same [] = refl
outcomes_same (r ∷ rs) = ap (λ l. outcome_seen r.outcome ∷ l) (outcomes_same rs)

front : {A B : Type 0} (f : A → B) (xs ys : List A) → take (length xs) (map f (xs ++ ys)) ≡ map f xs
front f [] ys = refl
front f (x ∷ xs) ys = ap (λ l. f x ∷ l) (front f xs ys)

seen_front : {A B : Type 0} (f : A → B) (xs ys all : List A) → all ≡ xs ++ ys → map f xs ≡ take (length xs) (map f all)
seen_front {A} f xs ys all e = sym (front f xs ys) ∙ ap (λ (l : List A). take (length xs) (map f l)) (sym e)

stands_as : {n : ℕ} {phases : List Phase} {views : List SwapView} (r : IsRing n phases views) (me other : SwapView) → me ≡ r.me → other.taken ≡ frames_of r.returned ++ r.in_hand → other.returned ≡ r.returned → Stands me other (state_of me other)
stands_as r me other same taken returned =
    let given : me.given ≡ frames_of r.returned ++ (r.in_hand ++ r.waiting) = ap (λ (v : SwapView). v.given) same ∙ r.kept.given_is in
    let back : other.returned ≡ me.back ++ r.coming = returned ∙ r.kept.back_is ∙ ap (λ (v : SwapView). v.back ++ r.coming) (sym same) in
    record {
      given = numbers_same me.given;
      taken = seen_front frame_seen other.taken r.waiting me.given (given ∙ sym (append_assoc (frames_of r.returned) r.in_hand r.waiting) ∙ ap (λ (l : List Frame). l ++ r.waiting) (sym taken));
      returned =
          frames_same other.returned
          ∙ seen_front frame_seen (frames_of other.returned) (r.in_hand ++ r.waiting) me.given (given ∙ ap (λ (l : List RenderedFrame). frames_of l ++ (r.in_hand ++ r.waiting)) (sym returned))
          ∙ ap (λ (k : ℕ). take k (map frame_seen me.given)) (length-map other.returned (λ (x : RenderedFrame). x.frame));
      outcomes = outcomes_same other.returned;
      back = seen_front rendered_seen me.back r.coming other.returned back;
    }

pub each_stands : {n : ℕ} {phases : List Phase} {views : List SwapView} (r : IsRing n phases views) → (m : State) × (me : SwapView) × (other : SwapView) × Ends views me other × Stands me other m
each_stands {n} {phases} {views} r = by r.me.is_whole refl
  where
    by : (b : Bool) → r.me.is_whole ≡ b → (m : State) × (me : SwapView) × (other : SwapView) × Ends views me other × Stands me other m
    by true whole = let alone = r.kept.alone whole in (
      state_of r.me r.me,
      r.me,
      r.me,
      record { first = r.kept.at_api; is_api = r.kept.is_api; second = is_same whole refl },
      stands_as r r.me r.me refl alone.0 alone.1,
    )
    by false apart = let t = r.kept.beside apart in let fits = render_at r.kept r.seat t.0 t.1 t.2 in (
      state_of r.me t.0,
      r.me,
      t.0,
      record { first = r.kept.at_api; is_api = r.kept.is_api; second = is_render r.seat t.1 t.2 },
      stands_as r r.me t.0 refl fits.2 fits.3,
    )

-- ---- parts of the hand-over

cut_at : {A : Type 0} (n : ℕ) (xs : List A) → xs ≡ take n xs ++ drop n xs
cut_at zero xs = refl
cut_at (suc n) [] = refl
cut_at (suc n) (x ∷ xs) = ap (λ l. x ∷ l) (cut_at n xs)

take_fewer : {A : Type 0} (a b : ℕ) (xs : List A) → a ≤ b → take a (take b xs) ≡ take a xs
take_fewer zero b xs le = refl
take_fewer (suc a) zero xs le = absurd (omega (arith, le))
take_fewer (suc a) (suc b) [] le = refl
take_fewer (suc a) (suc b) (x ∷ xs) le = ap (λ l. x ∷ l) (take_fewer a b xs (omega (arith, le)))

prefix_of : {A : Type 0} (n : ℕ) (xs ys : List A) → xs ≡ take n ys → IsPrefix xs ys
prefix_of {A} n xs ys e = (drop n ys, cut_at n ys ∙ ap (λ (l : List A). l ++ drop n ys) (sym e))

pub parts_hold : (n : ℕ) (me other : SwapView) (m : State) → Lengths n me other → Stands me other m → PartsHold n m
parts_hold n me other m l x =
    let count = given_count me other m x in
    let long = returned_count me other m x in
    let backs = l.backs in
    let returns = l.returns in
    let takes = l.takes in
    let gives = l.gives in
    let back : length m.back ≡ length me.back = ap length x.back ∙ length_take (length me.back) m.returned (omega (arith, long, backs)) in
    let left = length_drop (length m.back) m.given (omega (arith, back, count, backs, returns, takes)) in
    record {
      back = prefix_of (length me.back) m.back m.returned x.back;
      returned = prefix_of (length other.returned) (map (λ x. x.0) m.returned) m.taken
          (x.returned ∙ sym (take_fewer (length other.returned) (length other.taken) m.given returns) ∙ ap (take (length other.returned)) (sym x.taken));
      taken = prefix_of (length other.taken) m.taken m.given x.taken;
      few = omega (arith, left, back, count, gives);
    }

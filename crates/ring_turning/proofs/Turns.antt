-- Frames of a turn that end one after another.
use Rattle.std.proofs.Common.{◌≡◌, ℕ, zero, suc, ◌+◌, ◌≤◌, ◌==◌, ◌&&◌, Bool, true, false, List, [], ◌∷◌, ◌++◌, length, Option, Some, None, Result, Ok, Err, MatchOption, MatchResult, IsErrAnd, IfOk, OnOk, refl, sym, ap, ◌∙◌, subst, arith}
use Rattle.std.specs.List.{AllByRecursion, range_with_len}
use Rattle.std.proofs.lemmas.List.{length-append, map-append, append-nil}
use Rattle.std.proofs.lemmas.List.Sums.{sum_by-cons}
use Rattle.std.proofs.lemmas.Bool.{eqb-true}
use Rattle.std.proofs.lemmas.Option.{same_Some}
use Rattle.gfx.specs.Definitions.{Item, view_count, Room, begun, Begun, count_of, Place}
use Rattle.gfx.specs.Calls.{Refusal, EncoderView, FrameReport, Begins, IsBegin, Collects, Ends, GivesWhere, IsEnd, ContextView, state_of, untouched}
use Rattle.gfx.specs.Frames.{Recording, items_of, Frame, Outcome, RenderedFrame, frames_of, IsCollected, AreOfFrame, encoders_in, dropped_in, once_below}
use Rattle.gfx.specs.Frames.outcomes as outcomes
use Rattle.gfx.specs.Pictures.{first_outcome}
use Rattle.ring_turning.specs.Ring.{IsHalf, IsPart, IsNewEncoder}
use Rattle.ring_turning.specs.Frames.{IsOfRing, HasParts, AreNumbered, IsTurn, AreFirst}
use Rattle.ring_turning.specs.Turning.{HasBegun, IsAt, HasTurned, AreOfTurn, HaveTurned, first_after}
use Rattle.ring_turning.proofs.Outcomes.{outcome_after}

-- ---- frames by their numbers

-- no frames
pub no_turn : IsTurn 0 []
no_turn = record { count = refl; numbered = refl; drawn = tt }

all_more : (P : Frame → Type 0) (fs : List Frame) (f : Frame) → AllByRecursion P fs → P f → AllByRecursion P (fs ++ f ∷ [])
all_more P [] f all here = (here, tt)
all_more P (x ∷ xs) f all here = (all.0, all_more P xs f all.1 here)

range_more : (a n : ℕ) → range_with_len a (suc n) ≡ range_with_len a n ++ (a + n) ∷ []
range_more a zero = let same : a ≡ a + 0 = omega arith in ap (λ (k : ℕ). k ∷ []) same
range_more a (suc n) =
    let same : a + 1 + n ≡ a + suc n = omega arith in
    ap (λ (l : List ℕ). a ∷ l) (range_more (a + 1) n ∙ ap (λ (k : ℕ). range_with_len (a + 1) n ++ k ∷ []) same)

-- one frame more, of the next number
numbered_more : (n : ℕ) (fs : List Frame) (f : Frame) → length fs ≡ n → AreNumbered fs → f.number ≡ n → AreNumbered (fs ++ f ∷ [])
numbered_more n fs f count numbered is =
    let last : f.number ≡ 0 + length fs = omega (arith, is, count) in
    let more : suc (length fs) ≡ length (fs ++ f ∷ []) = let l = length-append fs (f ∷ []) in omega (arith, l) in
    map-append (λ (x : Frame). x.number) fs (f ∷ []) ∙ (λ j. numbered j ++ last j ∷ [])
    ∙ sym (range_more 0 (length fs)) ∙ ap (range_with_len 0) more

turn_more : (n : ℕ) (fs : List Frame) (f : Frame) → IsTurn n fs → f.number ≡ n → IsOfRing f → IsTurn (n + 1) (fs ++ f ∷ [])
turn_more n fs f t is ring = record {
  count = length-append fs (f ∷ []) ∙ ap (λ k. k + 1) t.count;
  numbered = numbered_more n fs f t.count t.numbered is;
  drawn = all_more IsOfRing fs f t.drawn ring;
}

-- the first frames, where all were given whole
first_whole : (n : ℕ) (fs : List Frame) → IsTurn n fs → AreFirst n fs
first_whole n fs t = record {
  drawn = fs;
  last = [];
  parts = sym (append-nil fs);
  one = omega arith;
  within = let c = t.count in omega (arith, c);
  numbered = t.numbered;
  of_ring = t.drawn;
  in_parts = tt;
}

-- the first frames, with one more that may lack draws
first_more : (n : ℕ) (fs : List Frame) (f : Frame) → IsTurn n fs → f.number ≡ n → HasParts f → AreFirst (n + 1) (fs ++ f ∷ [])
first_more n fs f t is parts = record {
  drawn = fs;
  last = f ∷ [];
  parts = refl;
  one = omega arith;
  within = let c = t.count in let l = length-append fs (f ∷ []) in omega (arith, c, l);
  numbered = numbered_more n fs f t.count t.numbered is;
  of_ring = t.drawn;
  in_parts = (parts, tt);
}

-- no frames
pub no_frames : (many : ℕ) → AreFirst many []
no_frames many = record { drawn = []; last = []; parts = refl; one = omega arith; within = omega arith; numbered = refl; of_ring = tt; in_parts = tt }

pub first_within : (n many : ℕ) (fs : List Frame) → n ≤ many → AreFirst n fs → AreFirst many fs
first_within n many fs le a = record {
  drawn = a.drawn;
  last = a.last;
  parts = a.parts;
  one = a.one;
  within = let w = a.within in omega (arith, w, le);
  numbered = a.numbered;
  of_ring = a.of_ring;
  in_parts = a.in_parts;
}

-- ---- encoders begin

abbrev begun_as : EncoderView → Begun
begun_as e = record { encoder = e.seat.encoder; recorder = e.recorder }

abbrev begun_in : {L : Type 0} → Room → ContextView L → Begun
begun_in room v = record { encoder = v.begun; recorder = begun v.book.resources.frame (view_count v.book.resources.views) room }

new_encoder : {L : Type 0} (room : Room) (k : ℕ) (e : EncoderView) (old new : ContextView L) → old.begun ≡ k → Begins room e old new → IsNewEncoder k e
new_encoder room k e old new is b =
    let first : begun_in room old ≡ begun_as e = same_Some (begun_in room old) (begun_as e) b.made in
    record {
      plain = (ap (λ (x : Begun). x.recorder.current) (sym first), ap (λ (x : Begun). x.recorder.pending) (sym first));
      none = ap (λ (x : Begun). x.recorder.items) (sym first);
      number = ap (λ v. v.encoder) b.seat ∙ is;
    }

-- another seat, and another number of encoders
abbrev with_seat : {L : Type 0} → (new old : ContextView L) → ContextView L
with_seat new old = record old { seat = new.seat; begun = new.begun }

begun_once : {L : Type 0} (room : Room) (e : EncoderView) (old new : ContextView L) → Begins room e old new → HasBegun old new
begun_once room e old new b = record {
  frame = ap (λ v. v.seat.frame) b.after;
  same = b.after ∙ (λ i. record old { seat = (ap (λ v. v.seat) (sym b.after)) i; begun = (ap (λ v. v.begun) (sym b.after)) i });
}

begun_none : {L : Type 0} (old new : ContextView L) → new ≡ old → HasBegun old new
begun_none old new e = record {
  frame = ap (λ v. v.seat.frame) e;
  same = e ∙ (λ i. record old { seat = (ap (λ v. v.seat) (sym e)) i; begun = (ap (λ v. v.begun) (sym e)) i });
}

pub begun_both : {L : Type 0} (old mid new : ContextView L) → HasBegun old mid → HasBegun mid new → HasBegun old new
begun_both old mid new a b = record { frame = b.frame ∙ a.frame; same = b.same ∙ ap (with_seat new) a.same }

-- a begin
pub begins_new : {L : Type 0} (room : Room) (k : ℕ) (result : Result EncoderView Refusal) (old new : ContextView L) → old.begun ≡ k → IsBegin result room old new
    → IfOk result (λ e. IsNewEncoder k e) × IfOk result (λ e. e.seat.frame ≡ old.seat.frame) × OnOk result (new.begun ≡ k + 1) × HasBegun old new
begins_new room k (Ok e) old new is b = (new_encoder room k e old new is b, ap (λ v. v.frame) b.seat, ap (λ v. v.begun) b.after ∙ ap (λ n. n + 1) is, begun_once room e old new b)
begins_new room k (Err r) old new is b = (tt, tt, tt, begun_none old new b.1)

-- ---- what was recorded

none_refused : (r : Recording) (rs : List Recording) → dropped_in (r ∷ rs) ≡ 0 → (r.dropped ≡ 0) × (dropped_in rs ≡ 0)
none_refused r rs none =
    let first = sum_by-cons (λ (x : Recording). x.dropped) r rs in
    (omega (arith, first, none), omega (arith, first, none))

module _ (admits : ℕ → ℕ → List Item → ℕ → Type 0) (admitted : (e n : ℕ) (items : List Item) (refused : ℕ) → admits e n items refused → IsPart e n items refused) (views n : ℕ) (places : List Place) where
  parts_in : (rs : List Recording) → AllByRecursion (IsCollected admits views n places) rs → AllByRecursion (λ r. IsPart r.encoder n (items_of r) r.dropped) rs
  parts_in [] all = tt
  parts_in (r ∷ rs) all = (admitted r.encoder n (items_of r) r.dropped all.0.admitted, parts_in rs all.1)

  halves_in : (rs : List Recording) → AllByRecursion (IsCollected admits views n places) rs → dropped_in rs ≡ 0 → AllByRecursion (λ r. IsHalf r.encoder n (items_of r)) rs
  halves_in [] all none = tt
  halves_in (r ∷ rs) all none =
      let each = none_refused r rs none in
      (admitted r.encoder n (items_of r) r.dropped all.0.admitted each.0, halves_in rs all.1 each.1)

-- ---- a frame ends

both_true : (a b : Bool) → (a && b) ≡ true → (a ≡ true) × (b ≡ true)
both_true true true e = (refl, refl)
both_true true false e = absurd cc
both_true false b e = absurd cc

module _ {L : Type 0} (admits : ℕ → ℕ → List Item → ℕ → Type 0) (admitted : (e n : ℕ) (items : List Item) (refused : ℕ) → admits e n items refused → IsPart e n items refused) (views : ℕ)
    (old mid done new : ContextView L) (at : IsAt old.seat.frame old) (number : old.book.resources.frame ≡ old.seat.frame) (began : HasBegun old mid) (collects : Collects admits views mid done) where
  same_given : done.given ≡ old.given
  same_given = ap (λ v. v.given) collects.same ∙ ap (λ v. v.given) began.same

  same_back : done.back ≡ old.back
  same_back = ap (λ v. v.back) collects.same ∙ ap (λ v. v.back) began.same

  frame_is : (f : Frame) → f.number ≡ done.book.resources.frame → f.number ≡ old.seat.frame
  frame_is f is = is ∙ ap (λ v. v.book.resources.frame) collects.same ∙ ap (λ v. v.book.resources.frame) began.same ∙ number

  seat_frame : done.seat.frame ≡ old.seat.frame
  seat_frame = ap (λ v. v.frame) collects.seat ∙ began.frame

  running : done.is_ended ≡ false
  running = ap (λ v. v.is_ended) collects.same ∙ ap (λ v. v.is_ended) began.same ∙ at.running

  ring_of : mid.begun ≡ 2 → (f : Frame) → f.number ≡ old.seat.frame → f.recordings.items ≡ done.gathered → dropped_in done.gathered ≡ 0 → IsOfRing f
  ring_of both f is same none =
      let frame : AreOfFrame admits views mid.seat.frame mid.seat.places mid.begun done.gathered = collects.recordings in
      let halves : AllByRecursion (λ r. IsHalf r.encoder mid.seat.frame (items_of r)) done.gathered = halves_in admits admitted views mid.seat.frame mid.seat.places done.gathered frame.collected none in
      record {
        encoders = λ e. ap (λ (rs : List Recording). count_of e (encoders_in rs)) same ∙ frame.once e ∙ ap (λ k. once_below k e) both;
        halves = subst (λ (rs : List Recording). AllByRecursion (λ r. IsHalf r.encoder f.number (items_of r)) rs) (sym same)
            (subst (λ (k : ℕ). AllByRecursion (λ r. IsHalf r.encoder k (items_of r)) done.gathered) (began.frame ∙ sym is) halves);
      }

  parts_of : mid.begun ≡ 2 → (f : Frame) → f.number ≡ old.seat.frame → f.recordings.items ≡ done.gathered → HasParts f
  parts_of both f is same =
      let frame : AreOfFrame admits views mid.seat.frame mid.seat.places mid.begun done.gathered = collects.recordings in
      let parts : AllByRecursion (λ r. IsPart r.encoder mid.seat.frame (items_of r) r.dropped) done.gathered = parts_in admits admitted views mid.seat.frame mid.seat.places done.gathered frame.collected in
      record {
        encoders = λ e. ap (λ (rs : List Recording). count_of e (encoders_in rs)) same ∙ frame.once e ∙ ap (λ k. once_below k e) both;
        parts = subst (λ (rs : List Recording). AllByRecursion (λ r. IsPart r.encoder f.number (items_of r) r.dropped) rs) (sym same)
            (subst (λ (k : ℕ). AllByRecursion (λ r. IsPart r.encoder k (items_of r) r.dropped) done.gathered) (began.frame ∙ sym is) parts);
      }

  first_when : mid.begun ≡ 2 → (b : Bool) → GivesWhere b done new → AreFirst (old.seat.frame + 1) new.given
  first_when both true g =
      let is = frame_is g.frame g.is_of.number in
      subst (AreFirst (old.seat.frame + 1)) (sym (g.given ∙ ap (λ (fs : List Frame). fs ++ g.frame ∷ []) same_given))
      (first_more old.seat.frame old.given g.frame at.given is (parts_of both g.frame is g.is_of.recordings))
  first_when both false e = first_within old.seat.frame (old.seat.frame + 1) new.given (omega arith)
      (subst (AreFirst old.seat.frame) (sym (ap (λ v. v.given) e ∙ same_given)) (first_whole old.seat.frame old.given at.given))

  next_when : mid.begun ≡ 2 → dropped_in done.gathered ≡ 0 → (b : Bool) → b ≡ true → GivesWhere b done new → IsAt (old.seat.frame + 1) new
  next_when both none true e g =
      let is = frame_is g.frame g.is_of.number in
      let next : suc done.seat.frame ≡ old.seat.frame + 1 = let s = seat_frame in omega (arith, s) in
      record {
        frame = ap (λ v. v.frame) g.seat ∙ next;
        running = ap (λ v. v.is_ended) g.same ∙ running;
        none_begun = ap (λ v. v.begun) g.same;
        given = subst (IsTurn (old.seat.frame + 1)) (sym (g.given ∙ ap (λ (fs : List Frame). fs ++ g.frame ∷ []) same_given))
            (turn_more old.seat.frame old.given g.frame at.given is (ring_of both g.frame is g.is_of.recordings none));
      }
  next_when both none false e g = absurd cc

  -- the frame ended
  pub frame_turned : mid.begun ≡ 2 → (report : FrameReport) → Ends report done new → (goes_on : Bool) → goes_on ≡ (report.given && (report.dropped == 0)) → HasTurned report.back goes_on old.seat.frame old new
  frame_turned both report ends goes_on is = record {
    given = first_when both report.given ends.gives;
    next = λ on. let each = both_true report.given (report.dropped == 0) (sym is ∙ on) in next_when both (sym ends.dropped ∙ eqb-true report.dropped 0 each.1) report.given each.0 ends.gives;
    outcome = outcome_after report.back done new.back ends.back ∙ ap (λ (rs : List RenderedFrame). first_after (first_outcome rs) report.back) same_back;
  }

  given_still : new.given ≡ done.given → AreFirst old.seat.frame new.given
  given_still same = subst (AreFirst old.seat.frame) (sym (same ∙ same_given)) (first_whole old.seat.frame old.given at.given)

  -- its end was refused
  pub frame_refused : (r : Refusal) → IsEnd (Err r) done new → AreFirst old.seat.frame new.given × (new.back ≡ old.back)
  frame_refused r e = (given_still (ap (λ v. v.given) e.1), ap (λ v. v.back) e.1 ∙ same_back)

-- a refusal is handed on
pub refused_told : {X : Type 0} (r : Result X Refusal) (e : Refusal) (P : X → Type 0) (Q : Type 0) → IsErrAnd r (λ x. x ≡ e) → Q → MatchResult r P (λ _. Q)
refused_told (Ok x) e P Q h q = absurd h
refused_told (Err x) e P Q h q = q

-- an encoder was refused
pub begin_refused : {L : Type 0} (n : ℕ) (old new : ContextView L) → IsAt n old → HasBegun old new → AreFirst n new.given × (new.back ≡ old.back)
begin_refused n old new at began = (subst (AreFirst n) (sym (ap (λ v. v.given) began.same)) (first_whole n old.given at.given), ap (λ v. v.back) began.same)

-- ---- as the loop over frames has it

pub at_now : {L : Type 0} (n k : ℕ) (c : ContextView L) → n ≡ k → IsAt n c → IsAt k c
at_now n k c e a = subst (λ (m : ℕ). IsAt m c) e a

pub stopped : (n many : ℕ) (given : List Frame) → n ≤ many → AreFirst n given → AreOfTurn many given false
stopped n many given le first = record { first = first_within n many given le first; whole = λ e. absurd cc }

pub whole : {L : Type 0} (n : ℕ) (c : ContextView L) → IsAt n c → AreOfTurn n c.given true
whole n c at = record { first = first_whole n c.given at.given; whole = λ e. at.given }

-- ---- the first and the last

-- nothing was given yet
pub none_given : {L : Type 0} (many : ℕ) (c : ContextView L) → IsAt 0 c → AreOfTurn many c.given false
none_given many c at = stopped 0 many c.given (omega arith) (first_whole 0 c.given at.given)

pub at_first : {L : Type 0} (c : ContextView L) → c.seat.frame ≡ 0 → c.is_ended ≡ false → c.begun ≡ 0 → c.given ≡ [] → IsAt 0 c
at_first c frame running none given = record { frame = frame; running = running; none_begun = none; given = subst (IsTurn 0) (sym given) no_turn }

-- what makes things leaves the context where it is
pub at_still : {L : Type 0} (n : ℕ) (old new : ContextView L) → untouched new ≡ untouched old → IsAt n old → IsAt n new
at_still n old new e a = record {
  frame = ap (λ v. v.seat.frame) e ∙ a.frame;
  running = ap (λ v. v.is_ended) e ∙ a.running;
  none_begun = ap (λ v. v.begun) e ∙ a.none_begun;
  given = subst (IsTurn n) (sym (ap (λ v. v.given) e)) a.given;
}

pub none_turned : (many : ℕ) (given : List Frame) (back : List RenderedFrame) → given ≡ [] → back ≡ [] → HaveTurned many given back outcomes.Shown false
none_turned many given back g b = record {
  of_turn = stopped 0 many given (omega arith) (subst (AreFirst 0) (sym g) (first_whole 0 [] no_turn));
  all_back = g ∙ ap frames_of (sym b);
  outcome_is = ap first_outcome (sym b);
}

pub turned_when_back : (many : ℕ) (given given_now : List Frame) (back : List RenderedFrame) (is_whole : Bool) (outcome : Outcome) → AreOfTurn many given is_whole → given_now ≡ given → given_now ≡ frames_of back → outcome ≡ first_outcome back
    → HaveTurned many given_now back outcome is_whole
turned_when_back many given given_now back is_whole outcome of_turn same all is = record {
  of_turn = subst (λ (fs : List Frame). AreOfTurn many fs is_whole) (sym same) of_turn;
  all_back = all;
  outcome_is = is;
}

-- A line whose call was answered by words that were loaded is done as the definition says.
use Rattle.std.specs.Prelude.{MatchOption}
use Rattle.std.specs.List.{AllByRecursion}
use Rattle.std.proofs.Common.{◌≡◌, ℕ, ◌+◌, List, [], ◌∷◌, map, Option, Some, None, Result, Ok, Err, refl, ap, sym, ◌∙◌, arith}
use Rattle.gfx_model.specs.Words.{Handle, place_of_handle}
use Rattle.gfx_model.specs.Resources.{Refusal as ModelRefusal, Resources, word_of, first_refusal, or_refusal}
use Rattle.gfx_model.specs.Recorder as calls
use Rattle.gfx_words.specs.declared.refusals.Refusal.{Refusal}
use Rattle.gfx_words.specs.Seen.{refusal_seen}
use Rattle.hold_table.specs.Views.{SeatView, asks, drawn}
use Rattle.draw_encoder.specs.Begins.{words_begun, IsSameAnswer, IsGivenBefore}
use Rattle.draw_encoder.specs.Calls.{EncoderView, Answers, IsSeatAfter, asks_all}
use Rattle.draw_encoder.proofs.Begins.{as_begun}
use Rattle.scene_model.specs.Scene.{Name, EncoderLine}
use Rattle.scene_model.specs.Fold.{Progress, Recording, thing_named, encoder_call, recording_after, after_encoder_call}
use Rattle.block_recording.specs.Lines.{handle_of, WasPlaced, StandFor, counted, dropped_by, IsSeatOf, IsLineDone}

-- ---- the seat and the frame stay

same_seat : (v : SeatView) → IsSeatOf v v
same_seat v = record { encoder = refl; frame = refl; places = refl; greatest = refl }

pub seat_trans : (u v w : SeatView) → IsSeatOf u v → IsSeatOf v w → IsSeatOf u w
seat_trans u v w a b = record { encoder = b.encoder ∙ a.encoder; frame = b.frame ∙ a.frame; places = b.places ∙ a.places; greatest = b.greatest ∙ a.greatest }

seat_is : (v w : SeatView) → w ≡ v → IsSeatOf v w
seat_is v w e = record { encoder = ap (λ x. x.encoder) e; frame = ap (λ x. x.frame) e; places = ap (λ x. x.places) e; greatest = ap (λ x. x.greatest) e }

seat_asks : (hs : List Handle) (words : List ℕ) (v : SeatView) → IsSeatOf v (asks_all hs words v)
seat_asks [] words v = same_seat v
seat_asks (h ∷ hs) [] v = same_seat v
seat_asks (h ∷ hs) (w ∷ ws) v =
    let r = seat_asks hs ws (asks (place_of_handle h) w v) in
    record { encoder = r.encoder; frame = r.frame; places = r.places; greatest = r.greatest }

seat_drawn : (v w : SeatView) → (n : ℕ) × (w ≡ drawn n v) → IsSeatOf v w
seat_drawn v w (n, e) = record { encoder = ap (λ x. x.encoder) e; frame = ap (λ x. x.frame) e; places = ap (λ x. x.places) e; greatest = ap (λ x. x.greatest) e }

seat_after : (c : calls.EncoderCall) (v w : SeatView) → IsSeatAfter c v w → IsSeatOf v w
seat_after (calls.set_state word) v w k = seat_is v w k
seat_after (calls.set_stencil front back) v w k = seat_is v w k
seat_after (calls.set_scissor rect) v w k = seat_is v w k
seat_after (calls.set_transform model) v w k = seat_is v w k
seat_after (calls.set_vertices h first count) v w k = seat_is v w k
seat_after (calls.set_indices h first count) v w k = seat_is v w k
seat_after (calls.set_transient_vertices h bytes) v w k = seat_is v w k
seat_after (calls.set_transient_indices bytes) v w k = seat_is v w k
seat_after (calls.set_texture stage t) v w k = seat_is v w k
seat_after (calls.set_uniform h x) v w k = seat_is v w k
seat_after (calls.submit view h depth flags) v w k = seat_drawn v w k
seat_after (calls.touch view) v w k = seat_drawn v w k
seat_after (calls.blit b) v w k = seat_drawn v w k

frame_after : (e : calls.Recorder) (c : calls.EncoderCall) → (calls.after e c).frame ≡ e.frame
frame_after e (calls.set_state word) = refl
frame_after e (calls.set_stencil front back) = refl
frame_after e (calls.set_scissor rect) = refl
frame_after e (calls.set_transform model) = refl
frame_after e (calls.set_vertices h first count) = refl
frame_after e (calls.set_indices h first count) = refl
frame_after e (calls.set_transient_vertices h bytes) = refl
frame_after e (calls.set_transient_indices bytes) = refl
frame_after e (calls.set_texture stage t) = refl
frame_after e (calls.set_uniform h v) = refl
frame_after e (calls.submit v h depth flags) = refl
frame_after e (calls.touch v) = refl
frame_after e (calls.blit b) = refl

frame_by : (e d : calls.Recorder) (c : calls.EncoderCall) (o : Option ModelRefusal) → or_refusal (calls.after e c) o ≡ Ok d → d.frame ≡ e.frame
frame_by e d c None is = let same : calls.after e c ≡ d = cc is in ap (λ r. r.frame) (sym same) ∙ frame_after e c
frame_by e d c (Some r) is = cc is

-- ---- two answers that are the same do the same

accepted_by : (a b : Result calls.Recorder ModelRefusal) (e : calls.Recorder) (r : Recording) → IsSameAnswer a b → a ≡ Ok e → recording_after r b ≡ record r { recorder = e }
accepted_by (Ok x) (Ok y) e r same is = let here : y ≡ e = sym same ∙ (cc is) in ap (λ (z : calls.Recorder). recording_after r (Ok z)) here
accepted_by (Ok x) (Err y) e r same is = absurd same
accepted_by (Err x) b e r same is = cc is

refused_by : (a b : Result calls.Recorder ModelRefusal) (o : Option ModelRefusal) (r : Recording) → IsSameAnswer a b → MatchOption o ⊥ (λ x. a ≡ Err x) → recording_after r b ≡ record r { dropped = r.dropped + 1 }
refused_by a b None r same is = absurd is
refused_by (Ok x) b (Some q) r same is = cc is
refused_by (Err x) (Ok y) (Some q) r same is = absurd same
refused_by (Err x) (Err y) (Some q) r same is = refl

words_same : (v : SeatView) (r : Resources) (hs : List Handle) → AllByRecursion (WasPlaced v r) hs → words_begun v hs ≡ map (word_of r) hs
words_same v r [] all = refl
words_same v r (h ∷ hs) all = λ j. sym all.0.word j ∷ words_same v r hs all.1 j

given_all : (v : SeatView) (r : Resources) (hs : List Handle) → AllByRecursion (WasPlaced v r) hs → AllByRecursion (IsGivenBefore v) hs
given_all v r [] all = tt
given_all v r (h ∷ hs) all = (all.0.given, given_all v r hs all.1)

-- ---- lines

-- what a line's call is, and that each of its handles was placed, in each state that the names and the seat stand for
abbrev pub Means : List (Option Handle) → SeatView → EncoderLine → calls.EncoderCall → Type 0
Means names v line call = (p : Progress) → StandFor names v p → (encoder_call p.bindings line ≡ Some call) × AllByRecursion (WasPlaced v p.resources) (calls.asked call)

-- a line has no call
abbrev pub MeansNothing : List (Option Handle) → SeatView → EncoderLine → Type 0
MeansNothing names v line = (p : Progress) → StandFor names v p → encoder_call p.bindings line ≡ None

module _ (names : List (Option Handle)) (line : EncoderLine) (old : EncoderView) where
  pub unbound : MeansNothing names old.seat line → IsLineDone names line old old 1
  unbound nothing = record {
    after = λ p d s. ap (after_encoder_call p.resources (counted old.recorder d)) (nothing p s);
    seat = same_seat old.seat;
    frame = refl;
    one = omega arith;
  }

  module _ (new : EncoderView) (call : calls.EncoderCall) (frame : old.recorder.frame ≡ old.seat.frame) (means : Means names old.seat line call) where
    same : (p : Progress) → StandFor names old.seat p → (a : Result (Unit {0}) Refusal) → (k : Answers old new call a)
        → IsSameAnswer (calls.answer old.recorder k.words call) (calls.answer old.recorder (map (word_of p.resources) (calls.asked call)) call)
    same p s a k =
        let all = (means p s).1 in
        rw (sym (words_same old.seat p.resources (calls.asked call) all)) (as_begun old.seat old.recorder call k.words frame k.loaded k.since (given_all old.seat p.resources (calls.asked call) all))

    pub answered : (a : Result (Unit {0}) Refusal) → Answers old new call a → IsLineDone names line old new (dropped_by a)
    answered (Ok u) k = record {
      after = λ p d s.
          let none : d ≡ d + 0 = omega arith in
          ap (after_encoder_call p.resources (counted old.recorder d)) (means p s).0
          ∙ accepted_by (calls.answer old.recorder k.words call) (calls.answer old.recorder (map (word_of p.resources) (calls.asked call)) call) new.recorder (counted old.recorder d) (same p s (Ok u) k) k.outcome.0
          ∙ ap (counted new.recorder) none;
      seat = seat_trans old.seat (asks_all (calls.asked call) k.words old.seat) new.seat (seat_asks (calls.asked call) k.words old.seat) (seat_after call _ new.seat k.outcome.1);
      frame = frame_by old.recorder new.recorder call (first_refusal (calls.refusals old.recorder k.words call)) k.outcome.0;
      one = omega arith;
    }
    answered (Err x) k = record {
      after = λ p d s.
          ap (after_encoder_call p.resources (counted old.recorder d)) (means p s).0
          ∙ refused_by (calls.answer old.recorder k.words call) (calls.answer old.recorder (map (word_of p.resources) (calls.asked call)) call) (refusal_seen x) (counted old.recorder d) (same p s (Err x) k) k.outcome.0
          ∙ ap (λ (e : calls.Recorder). counted e (d + 1)) (sym k.outcome.1);
      seat = seat_trans old.seat (asks_all (calls.asked call) k.words old.seat) new.seat (seat_asks (calls.asked call) k.words old.seat) (seat_is _ new.seat k.outcome.2);
      frame = ap (λ (e : calls.Recorder). e.frame) k.outcome.1;
      one = omega arith;
    }

-- ---- names

module _ (names : List (Option Handle)) (v : SeatView) where
  -- a name of the list stands for its handle, which was placed
  pub thing_of : (n : Name) (h : Handle) → handle_of names n ≡ Some h → (p : Progress) → StandFor names v p → (thing_named p.bindings n ≡ Some h) × WasPlaced v p.resources h
  thing_of n h is p s = let there : thing_named p.bindings n ≡ Some h = sym (s.named n) ∙ is in (there, s.placed n h there)

  pub nothing_of : (n : Name) → handle_of names n ≡ None → (p : Progress) → StandFor names v p → thing_named p.bindings n ≡ None
  nothing_of n is p s = sym (s.named n) ∙ is

-- what names and seat stand for depends on the seat's beginning alone
pub stand_on : (names : List (Option Handle)) (v w : SeatView) (p : Progress) → IsSeatOf v w → StandFor names v p → StandFor names w p
stand_on names v w p same s = record {
  named = s.named;
  placed = λ n h is.
      let k = s.placed n h is in
      record { given = rw (same.greatest, same.places) k.given; word = rw same.places k.word };
}

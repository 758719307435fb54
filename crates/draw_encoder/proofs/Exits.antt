-- How an encoder's call comes to its answer.
use Rattle.std.proofs.Common.{◌≡◌, ℕ, suc, ◌<◌, ◌≤◌, ◌+◌, Bool, true, false, not, nat_le, if◌then◌else◌, List, [], ◌∷◌, length, Option, Some, None, Result, Ok, Err, MatchOption, IsErrAnd, refl, ap, sym, ◌∙◌, arith, zero-add, lt_of_not-le}
use Rattle.gfx_model.specs.Resources.{Refusal as ModelRefusal, stale, first_refusal, or_refusal}
use Rattle.gfx_model.specs.Recorder.{Recorder, EncoderCall, refusals, asked, after, answer}
use Rattle.gfx_words.specs.declared.refusals.Refusal.{Refusal}
use Rattle.gfx_words.specs.Seen.{refusal_seen}
use Rattle.draw_encoder.specs.Calls.{EncoderView, asks_all, AreWordsSince, is_stale, word_tests, IsSeatAfter, Answers}

-- the first refusal of a list of tests, and how many tests of words were reached
pub record Judged (tests : List (Bool × ModelRefusal)) (first : Option ModelRefusal) (words : ℕ) : Type 0 where
  pub first_is : first_refusal tests ≡ first
  pub words_are : word_tests tests ≡ words

pub none_left : Judged [] None 0
none_left = record { first_is = refl; words_are = refl }

-- a test passes, of another thing than a word and of a word
pub over : (t : Bool) (r : ModelRefusal) (rest : List (Bool × ModelRefusal)) (first : Option ModelRefusal) (n : ℕ) → is_stale r ≡ false → t ≡ false → Judged rest first n → Judged ((t, r) ∷ rest) first n
over t r rest first n other e j = record {
  first_is = ap (λ b. if b then Some r else first_refusal rest) e ∙ j.first_is;
  words_are = (λ i. (if other i then 1 else 0) + (if e i then 0 else word_tests rest)) ∙ zero-add (word_tests rest) ∙ j.words_are;
}

pub over_word : (t : Bool) (w : ℕ) (rest : List (Bool × ModelRefusal)) (first : Option ModelRefusal) (n : ℕ) → t ≡ false → Judged rest first n → Judged ((t, stale w) ∷ rest) first (suc n)
over_word t w rest first n e j = record {
  first_is = ap (λ b. if b then Some (stale w) else first_refusal rest) e ∙ j.first_is;
  words_are = (λ i. 1 + (if e i then 0 else word_tests rest)) ∙ ap (λ (m : ℕ). 1 + m) j.words_are ∙ omega arith;
}

-- a test refuses
pub stop : (t : Bool) (r : ModelRefusal) (rest : List (Bool × ModelRefusal)) → is_stale r ≡ false → t ≡ true → Judged ((t, r) ∷ rest) (Some r) 0
stop t r rest other e = record {
  first_is = ap (λ b. if b then Some r else first_refusal rest) e;
  words_are = λ i. (if other i then 1 else 0) + (if e i then 0 else word_tests rest);
}

pub stop_word : (t : Bool) (w : ℕ) (rest : List (Bool × ModelRefusal)) → t ≡ true → Judged ((t, stale w) ∷ rest) (Some (stale w)) 1
stop_word t w rest e = record {
  first_is = ap (λ b. if b then Some (stale w) else first_refusal rest) e;
  words_are = λ i. 1 + (if e i then 0 else word_tests rest);
}

-- what a test that passed tells
pub not_false : (b : Bool) → not b ≡ false → b ≡ true
not_false true e = refl
not_false false e = cc e

pub below_count : (e d : Recorder) (v : ℕ) → d ≡ e → nat_le e.view_count v ≡ false → v < d.view_count
below_count e d v same test = let is : nat_le d.view_count v ≡ false = ap (λ r. nat_le r.view_count v) same ∙ test in lt_of_not-le (λ (le : d.view_count ≤ v). let yes_le : nat_le d.view_count v ≡ true = grind (arith, le) in let bad : true ≡ false = sym yes_le ∙ is in cc bad)

-- an error that was handed on
pub handed_on : (r : Result (Unit {0}) Refusal) (e : Refusal) → IsErrAnd r (λ x. x ≡ e) → r ≡ Err e
handed_on (Ok u) e h = absurd h
handed_on (Err x) e h = ap Err h

by_seen : {A : Type 0} → (o : Option ModelRefusal) (q : ModelRefusal) (x : Result A ModelRefusal) → o ≡ Some q → x ≡ Err q → MatchOption o ⊥ (λ y. x ≡ Err y)
by_seen None q x e is = cc e
by_seen (Some y) q x e is = let same : q ≡ y = sym (cc e) in is ∙ ap Err same

module _ (old new : EncoderView) (c : EncoderCall) (words : List ℕ) where
  -- the call is refused
  pub refused : (r : Refusal) (q : ModelRefusal) → refusal_seen r ≡ Some q → Judged (refusals old.recorder words c) (Some q) (length words) → AreWordsSince old.seat (asked c) words
      → new.recorder ≡ old.recorder → new.seat ≡ asks_all (asked c) words old.seat → Answers old new c (Err r)
  refused r q is j since same seat = record {
    words = words;
    loaded = sym j.words_are;
    since = since;
    outcome = (by_seen (refusal_seen r) q (answer old.recorder words c) is (ap (or_refusal (after old.recorder c)) j.first_is), same, seat);
  }

  -- the call is accepted
  pub accepted : Judged (refusals old.recorder words c) None (length words) → AreWordsSince old.seat (asked c) words → new.recorder ≡ after old.recorder c → IsSeatAfter c (asks_all (asked c) words old.seat) new.seat → Answers old new c (Ok tt)
  accepted j since now seat = record {
    words = words;
    loaded = sym j.words_are;
    since = since;
    outcome = (ap (or_refusal (after old.recorder c)) j.first_is ∙ ap Ok (sym now), seat);
  }

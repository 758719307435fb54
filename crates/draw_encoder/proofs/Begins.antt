-- The answer by the words loaded and the answer by the words at the beginning.
use Rattle.std.proofs.Common.{◌≡◌, ℕ, zero, suc, ◌+◌, ◌≤◌, Bool, true, false, not, ◌&&◌, nat_le, nat_lt, if◌then◌else◌, List, [], ◌∷◌, ◌++◌, length, Option, Some, None, Result, Ok, Err, refl, ap, sym, ◌∙◌, arith}
use Rattle.std.specs.List.{AllByRecursion}
use Rattle.gfx_model.specs.Words.{Handle, layout_kind, vertex_buffer_kind, index_buffer_kind, program_kind, uniform_kind, is_kind, place_of_handle, is_usable_in}
use Rattle.gfx_model.specs.Resources.{Refusal, stale, bad_range, not_blit_destination, wrong_kind, room_full, first_refusal, or_refusal}
use Rattle.gfx_model.specs.Recorder as calls
use Rattle.schedule_model.specs.Machine.{place_at}
use Rattle.hold_table.specs.Words.{word_of}
use Rattle.hold_table.specs.Views.{SeatView, IsWordSince}
use Rattle.hold_table.proofs.PlaceLaws.{word-judged}
use Rattle.draw_encoder.specs.Calls.{is_stale, word_tests, AreWordsSince}
use Rattle.draw_encoder.specs.Begins.{words_begun, without_word, IsSameAnswer, IsGivenBefore}

abbrev Tests : Type 0
Tests = List (Bool × Refusal)

-- ---- tests that agree up to the first that refuses

abbrev Agree : Tests → Tests → Type 0
Agree [] [] = Unit {0}
Agree (t ∷ ts) (u ∷ us) = (t.0 ≡ u.0) × (without_word t.1 ≡ without_word u.1) × (t.0 ≡ false → Agree ts us)
Agree _ _ = ⊥

agree : (ts : Tests) → Agree ts ts
agree [] = tt
agree (t ∷ ts) = (refl, refl, λ _. agree ts)

same_answer : (a : calls.Recorder) (ts us : Tests) → Agree ts us → IsSameAnswer (or_refusal a (first_refusal ts)) (or_refusal a (first_refusal us))
same_answer a [] [] k = refl
same_answer a (t ∷ ts) [] k = absurd k
same_answer a [] (u ∷ us) k = absurd k
same_answer a ((false, q) ∷ ts) ((b, r) ∷ us) k = rw (sym k.0) (same_answer a ts us (k.2 refl))
same_answer a ((true, q) ∷ ts) ((b, r) ∷ us) k = rw (sym k.0) k.1

-- ---- tests of words

-- tests of other things than words
abbrev AreOthers : Tests → Type 0
AreOthers ts = AllByRecursion (λ t. is_stale t.1 ≡ false) ts

module _ (v : SeatView) (frame : ℕ) (same : frame ≡ v.frame) where
  abbrev test : Handle → ℕ → Bool × Refusal
  test h w = (not (is_usable_in frame w h.serial), stale w)

  abbrev begun : Handle → ℕ
  begun h = word_of (place_at v.places (place_of_handle h))

  judged : (h : Handle) (w : ℕ) → IsWordSince v (place_of_handle h) w → IsGivenBefore v h → (test h w).0 ≡ (test h (begun h)).0
  judged h w since given = (λ j. not (is_usable_in (same j) w h.serial)) ∙ ap not (word-judged v (place_of_handle h) w h.serial since given.0 given.1) ∙ (λ j. not (is_usable_in (sym same j) (begun h) h.serial))

  -- one word, behind other tests
  one_word : (pre post : Tests) (h : Handle) (words : List ℕ) → AreOthers pre → length words ≡ word_tests (pre ++ test h (calls.loaded words 0) ∷ post) → AreWordsSince v (h ∷ []) words → IsGivenBefore v h
      → Agree (pre ++ test h (calls.loaded words 0) ∷ post) (pre ++ test h (begun h) ∷ post)
  one_word [] post h [] others count since given = absurd (omega arith)
  one_word [] post h (w ∷ ws) others count since given = (judged h w since.0 given, refl, λ _. agree post)
  one_word ((false, r) ∷ pre) post h words others count since given =
      let here : length words ≡ word_tests (pre ++ test h (calls.loaded words 0) ∷ post) = count ∙ ap (λ (b : Bool). (if b then 1 else 0) + word_tests (pre ++ test h (calls.loaded words 0) ∷ post)) others.0 ∙ omega arith in
      (refl, refl, λ _. one_word pre post h words others.1 here since given)
  one_word ((true, r) ∷ pre) post h words others count since given = (refl, refl, λ e. cc e)

  -- two words, behind other tests
  two_words : (pre post : Tests) (h g : Handle) (words : List ℕ) → AreOthers pre → length words ≡ word_tests (pre ++ test h (calls.loaded words 0) ∷ test g (calls.loaded words 1) ∷ post) → AreWordsSince v (h ∷ g ∷ []) words → IsGivenBefore v h → IsGivenBefore v g
      → Agree (pre ++ test h (calls.loaded words 0) ∷ test g (calls.loaded words 1) ∷ post) (pre ++ test h (begun h) ∷ test g (begun g) ∷ post)
  two_words [] post h g [] others count since given given' = absurd (omega arith)
  two_words [] post h g (w ∷ ws) others count since given given' = (
    judged h w since.0 given,
    refl,
    λ passes.
        let here : length ws ≡ word_tests (test g (calls.loaded ws 0) ∷ post) = let c = count ∙ ap (λ (b : Bool). 1 + (if b then 0 else word_tests (test g (calls.loaded ws 0) ∷ post))) passes in omega arith in
        one_word [] post g ws tt here since.1 given',
  )
  two_words ((false, r) ∷ pre) post h g words others count since given given' =
      let rest : Tests = pre ++ test h (calls.loaded words 0) ∷ test g (calls.loaded words 1) ∷ post in
      let here : length words ≡ word_tests rest = count ∙ ap (λ (b : Bool). (if b then 1 else 0) + word_tests rest) others.0 ∙ omega arith in
      (refl, refl, λ _. two_words pre post h g words others.1 here since given given')
  two_words ((true, r) ∷ pre) post h g words others count since given given' = (refl, refl, λ e. cc e)

-- ---- calls

-- the tests of a call by the words loaded and by those at the beginning
tests_agree : (v : SeatView) (e : calls.Recorder) (c : calls.EncoderCall) (words : List ℕ) → e.frame ≡ v.frame → length words ≡ word_tests (calls.refusals e words c) → AreWordsSince v (calls.asked c) words → AllByRecursion (IsGivenBefore v) (calls.asked c)
    → Agree (calls.refusals e words c) (calls.refusals e (words_begun v (calls.asked c)) c)
tests_agree v e (calls.set_state word) words same count since given = agree (calls.refusals e words (calls.set_state word))
tests_agree v e (calls.set_stencil front back) words same count since given = agree (calls.refusals e words (calls.set_stencil front back))
tests_agree v e (calls.set_scissor rect) words same count since given = tt
tests_agree v e (calls.set_transform model) words same count since given = tt
tests_agree v e (calls.set_vertices h first n) words same count since given = one_word v e.frame same (calls.is_not_kind vertex_buffer_kind h ∷ []) [] h words (refl, tt) count since given.0
tests_agree v e (calls.set_indices h first n) words same count since given = one_word v e.frame same (calls.is_not_kind index_buffer_kind h ∷ []) [] h words (refl, tt) count since given.0
tests_agree v e (calls.set_transient_vertices h bytes) words same count since given = one_word v e.frame same (calls.is_not_kind layout_kind h ∷ []) (calls.lacks_bytes e bytes ∷ []) h words (refl, tt) count since given.0
tests_agree v e (calls.set_transient_indices bytes) words same count since given = agree (calls.refusals e words (calls.set_transient_indices bytes))
tests_agree v e (calls.set_texture stage None) words same count since given = agree (calls.refusals e words (calls.set_texture stage None))
tests_agree v e (calls.set_texture stage (Some h)) words same count since given = one_word v e.frame same ((not (calls.is_rgba8_option (calls.format_of h)), wrong_kind) ∷ []) ((nat_lt 1 stage, bad_range) ∷ []) h words (refl, tt) count since given.0
tests_agree v e (calls.set_uniform h x) words same count since given = one_word v e.frame same ((not (is_kind h.kind uniform_kind && calls.takes_value h.info x), wrong_kind) ∷ []) ((nat_le e.room.uniforms e.used_uniforms, room_full) ∷ []) h words (refl, tt) count since given.0
tests_agree v e (calls.submit view h depth flags) words same count since given = one_word v e.frame same (calls.is_no_view e view ∷ calls.is_not_kind program_kind h ∷ []) (calls.lacks_room e ∷ []) h words (refl, (refl, tt)) count since given.0
tests_agree v e (calls.touch view) words same count since given = agree (calls.refusals e words (calls.touch view))
tests_agree v e (calls.blit b) words same count since given = two_words v e.frame same (calls.is_no_view e b.view ∷ (not (calls.same_formats (calls.format_of b.destination) (calls.format_of b.source)), wrong_kind) ∷ []) ((not (calls.is_blit_destination_in b.destination.info), not_blit_destination) ∷ calls.lacks_room e ∷ []) b.destination b.source words (refl, (refl, tt)) count since given.0 given.1.0

pub as_begun : (v : SeatView) (e : calls.Recorder) (c : calls.EncoderCall) (words : List ℕ) → e.frame ≡ v.frame → length words ≡ word_tests (calls.refusals e words c) → AreWordsSince v (calls.asked c) words → AllByRecursion (IsGivenBefore v) (calls.asked c)
    → IsSameAnswer (calls.answer e words c) (calls.answer e (words_begun v (calls.asked c)) c)
as_begun v e c words same count since given = same_answer (calls.after e c) (calls.refusals e words c) (calls.refusals e (words_begun v (calls.asked c)) c) (tests_agree v e c words same count since given)

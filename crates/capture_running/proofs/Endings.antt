-- The status of told bytes follows from what stands after it.
use Rattle.std.proofs.Common.{◌≡◌, ◌≢◌, ◌∙◌, ℕ, ◌<◌, ◌≤◌, ltb, List, [], ◌++◌, length, Option, Some, None, Result, Ok, Err, refl, sym, ap, subst, inl, inr, ◌⊎◌, arith}
use Rattle.std.proofs.lemmas.Bool.{lt-ltb, le-ltb}
use Rattle.std.proofs.lemmas.List.{length-append}
use Rattle.io_edge.specs.Edge.{with_front}
use Rattle.scene_model.specs.Scene.{Scene}
use Rattle.scene_model.specs.Grammar.{scene_of, whole_language}
use Rattle.scene_model.specs.Journal.{Journal}
use Rattle.scene_model.specs.Run.{longest_input}
use Rattle.io_whole.specs.Whole.{HasMoreThan}
use Rattle.io_whole.specs.Runs.{Reading, HasFailedToGive, AreLeft, Putting, HasFailedToTake}
use Rattle.frame_capture.specs.Film.{Film}
use Rattle.frame_capture.specs.Capture.{IsCapture}
use Rattle.frame_capture.specs.Fault.{shown}
use Rattle.frame_capture.proofs.Frames.{shown-again}
use Rattle.frame_capture.proofs.Lengths.{capture-short}
use Rattle.capture_running.specs.declared.words.Mode.{Mode}
use Rattle.capture_running.specs.declared.words.Mode.TheVariants as modes
use Rattle.capture_running.specs.declared.status.CaptureStatus.{CaptureStatus}
use Rattle.capture_running.specs.declared.status.CaptureStatus.TheVariants as status
use Rattle.capture_running.specs.Filmed.{all_texts_length, longest_texts}
use Rattle.capture_running.specs.Ended.{AreTaken, Ends, EndsAs, EndsRecord, EndsShow, HasGiven, IsGiven, IsPlayed, IsRead, by_reading, longest_capture, record_status, show_status, status_of, status_of_scene}

-- ---- the bytes

told-is : (before : Option (List ℕ)) (bytes other : List ℕ) → before ≡ Some bytes → AreLeft before other → bytes ≡ other
told-is before bytes other e left = subst (λ (o : Option (List ℕ)). AreLeft o other) e left

many-told : (most : ℕ) (bytes : List ℕ) (before : Option (List ℕ)) → before ≡ Some bytes → HasMoreThan most before → most < length bytes
many-told most bytes before e h = go h.rest (sym e ∙ h.given)
  where
    go : (rest : Option (List ℕ)) → Some bytes ≡ with_front h.bytes rest → most < length bytes
    go None e = absurd cc
    go (Some rest) e = let same : bytes ≡ h.bytes ++ rest = cc in omega (arith, ap length same, length-append h.bytes rest, h.many)

few-shown : (bytes : List ℕ) → length bytes ≤ longest_capture → show_status bytes ≡ by_reading (shown bytes)
few-shown bytes few = rw (le-ltb longest_capture (length bytes) few) refl

-- a capture is not too long, and is shown
pub is-shown : (bytes : List ℕ) (f : Film) → IsCapture bytes f → show_status bytes ≡ status.Done
is-shown bytes f is = few-shown bytes (capture-short bytes f is) ∙ ap by_reading (shown-again bytes f is)

many-shown : (bytes : List ℕ) → longest_capture < length bytes → show_status bytes ≡ status.TooLong
many-shown bytes many = rw (lt-ltb longest_capture (length bytes) many) refl

few-recorded : (bytes : List ℕ) → length bytes ≤ longest_input → record_status bytes ≡ status_of_scene (scene_of whole_language bytes)
few-recorded bytes few = rw (le-ltb longest_input (length bytes) few) refl

many-recorded : (bytes : List ℕ) → longest_input < length bytes → record_status bytes ≡ status.TooLong
many-recorded bytes many = rw (lt-ltb longest_input (length bytes) many) refl

small-scene : (s : Scene) → all_texts_length s ≤ longest_texts → status_of_scene (Ok s) ≡ status.Done
small-scene s small = rw (le-ltb longest_texts (all_texts_length s) small) refl

large-scene : (s : Scene) → longest_texts < all_texts_length s → status_of_scene (Ok s) ≡ status.TooLarge
large-scene s large = rw (lt-ltb longest_texts (all_texts_length s) large) refl

module _ (source : Reading) (j : Journal) (sink noted : Putting) (bytes : List ℕ) (told : source.before ≡ Some bytes) (given : HasFailedToGive source → ⊥) where
  -- ---- `show`

  read-shown : (other : List ℕ) → IsRead longest_capture other source → show_status bytes ≡ by_reading (shown other)
  read-shown other read = ap show_status (told-is source.before bytes other told read.were_left) ∙ few-shown other read.few

  shown-done : (other : List ℕ) (f : Film) → IsRead longest_capture other source → IsCapture other f → show_status bytes ≡ status.Done
  shown-done other f read is = read-shown other read ∙ ap by_reading (shown-again other f is)

  show-as : (st : CaptureStatus) → EndsShow st source sink → (HasFailedToTake sink → show_status bytes ≡ status.Done → ⊥) → EndsAs (show_status bytes) st
  show-as status.Done h fair = inl (sym (shown-done h.0 h.2 h.1 h.3))
  show-as status.PictureFault h fair = absurd (fair h.5 (shown-done h.0 h.2 h.1 h.3))
  show-as (status.Capture frame cause) h fair = inl (sym (read-shown h.0 h.1 ∙ ap by_reading h.2))
  show-as status.ReadFault h fair = absurd (given h.0)
  show-as status.TooLong h fair = inl (sym (many-shown bytes (many-told longest_capture bytes source.before told h.0)))
  show-as status.OutOfMemory h fair = inr refl
  show-as status.Usage h fair = absurd h
  show-as (status.Scene line cause) h fair = absurd h
  show-as status.NoteFault h fair = absurd h
  show-as status.TooLarge h fair = absurd h

  -- ---- `record`

  read-recorded : (other : List ℕ) → IsRead longest_input other source → record_status bytes ≡ status_of_scene (scene_of whole_language other)
  read-recorded other read = ap record_status (told-is source.before bytes other told read.were_left) ∙ few-recorded other read.few

  given-scene : (s : Scene) → HasGiven s source → record_status bytes ≡ status_of_scene (Ok s)
  given-scene s h = read-recorded h.bytes h.read ∙ ap status_of_scene h.is

  played-done : (s : Scene) → IsPlayed s source j → record_status bytes ≡ status.Done
  played-done s h = given-scene s h.given ∙ small-scene s h.small

  record-as : (st : CaptureStatus) → EndsRecord st source j sink noted → (HasFailedToTake sink → record_status bytes ≡ status.Done → ⊥) → (HasFailedToTake noted → record_status bytes ≡ status.Done → ⊥)
      → EndsAs (record_status bytes) st
  record-as status.Done h fair fair-notes = inl (sym (played-done h.0 h.1))
  record-as status.PictureFault h fair fair-notes = absurd (fair h.5 (played-done h.0 h.1))
  record-as status.NoteFault h fair fair-notes = absurd (fair-notes h.4 (played-done h.0 h.1))
  record-as (status.Scene line cause) h fair fair-notes = inl (sym (read-recorded h.0 h.1 ∙ ap status_of_scene h.2))
  record-as status.TooLarge h fair fair-notes = inl (sym (given-scene h.0 h.1 ∙ large-scene h.0 h.2))
  record-as status.TooLong h fair fair-notes = inl (sym (many-recorded bytes (many-told longest_input bytes source.before told h.0)))
  record-as status.ReadFault h fair fair-notes = absurd (given h.0)
  record-as status.OutOfMemory h fair fair-notes = inr refl
  record-as status.Usage h fair fair-notes = absurd h
  record-as (status.Capture frame cause) h fair fair-notes = absurd h

module _ (source : Reading) (j : Journal) (sink noted : Putting) (bytes : List ℕ) where
  -- ---- the whole run

  pub as-defined : (mode : Option Mode) (st : CaptureStatus) → Ends st mode source j sink noted → IsGiven mode source bytes → AreTaken mode sink noted → EndsAs (status_of mode bytes) st
  as-defined None st h given taken = inl h.0
  as-defined (Some modes.Record) st h given taken = record-as source j sink noted bytes given.0 given.1 st h (λ failed done. taken.0 failed) (λ failed done. taken.1 failed)
  as-defined (Some modes.Show) st h given taken = show-as source j sink noted bytes given.0 given.1 st h.0 (λ failed done. taken failed)

  pub as-refused : (mode : Option Mode) (st : CaptureStatus) → Ends st mode source j sink noted → IsGiven mode source bytes → status_of mode bytes ≢ status.Done → EndsAs (status_of mode bytes) st
  as-refused None st h given other = inl h.0
  as-refused (Some modes.Record) st h given other = record-as source j sink noted bytes given.0 given.1 st h (λ failed done. other done) (λ failed done. other done)
  as-refused (Some modes.Show) st h given other = show-as source j sink noted bytes given.0 given.1 st h.0 (λ failed done. other done)

-- How a scene is played from memory into memory.
use Rattle.std.proofs.Common.{◌≡◌, ◌≢◌, ◌∙◌, ℕ, zero, suc, ◌+◌, ◌<◌, ◌≤◌, false, List, [], ◌∷◌, ◌++◌, length, take, ◌==◌, Option, Some, None, Result, Ok, Err, refl, sym, ap, subst, inl, inr, ◌⊎◌, arith}
use Rattle.std.specs.Prelude.{codes}
use Rattle.std.proofs.lemmas.Bool.{le-ltb}
use Rattle.clap.specs.Walk.{walked}
use Rattle.clap.specs.Takes.{walk_passes}
use Rattle.io_edge.specs.Edge.{with_back}
use Rattle.scene_model.specs.Scene.{Scene}
use Rattle.scene_model.specs.Grammar.{Fault, scene_of, whole_language}
use Rattle.scene_model.specs.Journal.{Journal, IsLawful, IsLawfulFront}
use Rattle.scene_model.specs.Output.{pictures_text, notes}
use Rattle.scene_model.specs.Run.{Ending, Run, all_done, words_refused, scene_refused, input_too_long, journal_refused, longest_input, played_scene, shown}
use Rattle.spelling_model.specs.Readable.{IsReadable}
use Rattle.command_line_model.specs.Taken.{Command, play, taken}
use Rattle.scene_player.specs.declared.status.Status.{Status}
use Rattle.scene_player.specs.declared.status.Status.TheVariants as status
use Rattle.io_whole.specs.Runs.{Reading, HasFailedToGive, AreLeft, Putting, HasFailedToTake, IsUntouched, HasPut, HasPutFront}
use Rattle.scene_player.specs.Numbers.{ending_of}
use Rattle.scene_player.specs.Ended.{Ends, IsAnswered, IsReadAndAnswered, IsRefused, answer_of}
use Rattle.capture_running.specs.Filmed.{all_texts_length}
use Rattle.capture_running.specs.PlayedInto.{IsPlayedInto}
use Rattle.capture_running.proofs.Filmed.{text-fits}
use Rattle.capture_running.proofs.Sinks.{length-take-all}

-- ---- the command

-- the command of the one word `play`
abbrev pub play_command : Command
play_command = record { mode = play; journal = false; count = 8 }

taken-play : taken (codes "play" ∷ []) ≡ Some play_command
unfolding walked walk_passes
taken-play = refl

-- ---- the play

told-is : (before : Option (List ℕ)) (bytes other : List ℕ) → before ≡ Some bytes → AreLeft before other → other ≡ bytes
told-is before bytes other e left = let same : AreLeft (Some bytes) other = subst (λ (o : Option (List ℕ)). AreLeft o other) e left in sym same

same-held : (a b : List ℕ) → Some a ≡ Some b → a ≡ b
same-held a b e = cc

-- what the play says of the bytes that were told, from a source that never fails
told : (st : Status) (source : Reading) (j : Journal) (pictures noted : Putting) (text : List ℕ) → IsReadAndAnswered st play_command source j pictures noted
    → source.before ≡ Some text → (HasFailedToGive source → ⊥) → IsAnswered st play_command text j pictures noted
told status.ReadFault source j pictures noted text h is none = absurd (none h.0)
told status.Done source j pictures noted text h is none = subst (λ (b : List ℕ). IsAnswered status.Done play_command b j pictures noted) (told-is source.before text h.0 is h.1) h.3
told status.Usage source j pictures noted text h is none = subst (λ (b : List ℕ). IsAnswered status.Usage play_command b j pictures noted) (told-is source.before text h.0 is h.1) h.3
told (status.Scene line cause) source j pictures noted text h is none = subst (λ (b : List ℕ). IsAnswered (status.Scene line cause) play_command b j pictures noted) (told-is source.before text h.0 is h.1) h.3
told status.PictureFault source j pictures noted text h is none = subst (λ (b : List ℕ). IsAnswered status.PictureFault play_command b j pictures noted) (told-is source.before text h.0 is h.1) h.3
told status.NoteFault source j pictures noted text h is none = subst (λ (b : List ℕ). IsAnswered status.NoteFault play_command b j pictures noted) (told-is source.before text h.0 is h.1) h.3
told status.TooLong source j pictures noted text h is none = subst (λ (b : List ℕ). IsAnswered status.TooLong play_command b j pictures noted) (told-is source.before text h.0 is h.1) h.3
told (status.Journal place) source j pictures noted text h is none = subst (λ (b : List ℕ). IsAnswered (status.Journal place) play_command b j pictures noted) (told-is source.before text h.0 is h.1) h.3
told status.OutOfMemory source j pictures noted text h is none = subst (λ (b : List ℕ). IsAnswered status.OutOfMemory play_command b j pictures noted) (told-is source.before text h.0 is h.1) h.3

module _ (s : Scene) (j : Journal) (text : List ℕ) (short : length text ≤ longest_input) (is : scene_of whole_language text ≡ Ok s) (readable : IsReadable s) where
  -- the definition's answer
  answered : answer_of play_command text j ≡ shown false s j
  answered = rw (le-ltb longest_input (length text) short) (ap (played_scene false (λ x. j)) is)

  same-scene : (other : Scene) → scene_of whole_language text ≡ Ok other → other ≡ s
  same-scene other own = let both : ◌≡◌ {A = Result Scene Fault} (Ok other) (Ok s) = sym own ∙ is in cc

  not-refused : (ending : Option Ending) (e : Ending) (pictures noted : Putting) → ending ≡ Some e → e ≢ all_done → IsRefused ending (answer_of play_command text j) j pictures noted → ⊥
  not-refused ending e pictures noted own other h =
      let same : ◌≡◌ {A = Option Ending} (Some e) (Some all_done) = sym own ∙ h.refused ∙ ap (λ (r : Run). Some r.ending) answered in
      other cc

  module _ (held : List ℕ) (pictures noted : Putting) (empty : pictures.before ≡ Some []) (holds : pictures.after ≡ Some held)
      (sound : length held ≤ all_texts_length s → HasFailedToTake pictures → ⊥) where
    put-whole : HasPut (answer_of play_command text j).pictures pictures → held ≡ pictures_text s j
    put-whole put =
        let all : ◌≡◌ {A = Option (List ℕ)} (Some held) (with_back (Some []) (pictures_text s j)) = sym holds ∙ put ∙ ap (λ (o : Option (List ℕ)). with_back o (answer_of play_command text j).pictures) empty ∙ ap (λ (r : Run). with_back (Some []) r.pictures) answered in
        same-held held (pictures_text s j) all

    front-fits : (journal-scene : Scene) → journal-scene ≡ s → HasPutFront (pictures_text journal-scene j) pictures → length held ≤ all_texts_length s
    front-fits other e put =
        let all : ◌≡◌ {A = Option (List ℕ)} (Some held) (with_back (Some []) (take put.0 (pictures_text other j))) = sym holds ∙ put.1 ∙ ap (λ (o : Option (List ℕ)). with_back o (take put.0 (pictures_text other j))) empty in
        let front : held ≡ take put.0 (pictures_text s j) = same-held held (take put.0 (pictures_text other j)) all ∙ ap (λ (x : Scene). take put.0 (pictures_text x j)) e in
        rw front (length-take-all put.0 (pictures_text s j) (text-fits s j readable))

    whole-notes : HasPut (answer_of play_command text j).noted noted → HasPut (notes s j false) noted
    whole-notes put = subst (λ (r : Run). HasPut r.noted noted) answered put

    front-notes : HasPutFront (answer_of play_command text j).noted noted → HasPutFront (notes s j false) noted
    front-notes put = subst (λ (r : Run). HasPutFront r.noted noted) answered put

    lawful-front : (other : Scene) → other ≡ s → IsLawfulFront other j → IsLawfulFront s j
    lawful-front other e h = subst (λ (x : Scene). IsLawfulFront x j) e h

    into : (st : Status) → IsAnswered st play_command text j pictures noted → IsPlayedInto st s j held noted
    into status.Done h = (subst (λ (x : Scene). IsLawful x j) (same-scene h.0.scene h.0.is.1) h.0.lawful, put-whole h.0.put, whole-notes h.1)
    into status.NoteFault h = (subst (λ (x : Scene). IsLawful x j) (same-scene h.0.scene h.0.is.1) h.0.lawful, front-notes h.1, h.2)
    into status.PictureFault h = absurd (sound (front-fits h.scene (same-scene h.scene h.is.1) h.put) h.failed)
    into status.OutOfMemory (inl h) = (inl h.no_frame, h.no_note)
    into status.OutOfMemory (inr h) = (inr (lawful-front h.scene (same-scene h.scene h.is.1) h.lawful), h.no_note)
    into status.ReadFault h = absurd h
    into status.Usage h = not-refused _ words_refused pictures noted refl (λ e. absurd cc) h
    into (status.Scene line cause) h = not-refused _ (scene_refused line cause) pictures noted refl (λ e. absurd cc) h
    into status.TooLong h = not-refused _ input_too_long pictures noted refl (λ e. absurd cc) h
    into (status.Journal place) h = not-refused _ (journal_refused place) pictures noted refl (λ e. absurd cc) h

-- a scene that was played from memory into memory
pub played-into : (s : Scene) (text : List ℕ) (words : List (List ℕ)) (st : Status) (source : Reading) (j : Journal) (pictures noted : Putting) (held : List ℕ)
    → length text ≤ longest_input → scene_of whole_language text ≡ Ok s → IsReadable s
    → words ≡ codes "play" ∷ [] → Ends st (taken words) source j pictures noted
    → source.before ≡ Some text → (HasFailedToGive source → ⊥)
    → pictures.before ≡ Some [] → pictures.after ≡ Some held → (length held ≤ all_texts_length s → HasFailedToTake pictures → ⊥)
    → IsPlayedInto st s j held noted
played-into s text words st source j pictures noted held short is readable said ends gives none empty holds sound =
    let command : taken words ≡ Some play_command = ap taken said ∙ taken-play in
    let h : Ends st (Some play_command) source j pictures noted = subst (λ (o : Option Command). Ends st o source j pictures noted) command ends in
    into s j text short is readable held pictures noted empty holds sound st (told st source j pictures noted text h gives none)

-- What a play of a text answered is a run of the definition.
use Rattle.std.proofs.Common.{◌≡◌, ◌∙◌, ◌≤◌, ℕ, length, ap, Bool, true, false, List, [], Some, Result, Ok, Err, refl, sym, subst, if◌then◌else◌}
use Rattle.std.proofs.lemmas.Option.{same_Some}
use Rattle.scene_model.specs.Scene.{Scene}
use Rattle.scene_model.specs.Grammar.{Fault, scene_of, whole_language}
use Rattle.scene_model.specs.Journal.{Journal, IsLawful}
use Rattle.scene_model.specs.Output.{length_line, pictures_text}
use Rattle.scene_model.specs.Run.{shown as shown_run, longest_input, Run, all_done, scene_refused, input_too_long, refused, played_scene, played, IsLawfulFor, IsPlayed}
use Rattle.spelling_model.proofs.FrameRanges.{reads-readable}
use Rattle.picture_laws.proofs.Lengths.{length-law}
use Rattle.scene_player.proofs.Refused.{plays}
use Rattle.scene_player.specs.declared.status.Status.{Status}
use Rattle.scene_player.specs.declared.status.Status.TheVariants as status
use Rattle.scene_player.specs.Ended.{IsAnswered, IsRefused, answer_of}
use Rattle.io_whole.specs.Runs.{Putting, putting}
use Rattle.scene_player.specs.Numbers.{ending_of}
use Rattle.scene_player.specs.Parts.{showing_command}
use Rattle.c_playing.specs.declared.playing.PlayEnd.{PlayEnd}
use Rattle.c_playing.specs.declared.playing.PlayEnd.TheVariants.{Done, NoScene, TooLong, TooSmall, OutOfMemory}
use Rattle.c_playing.specs.Plays.{AreHandedOut, AreLengthsOfRuns, Plays}

-- a run that refuses a scene has none, so any journal is lawful for it
none_read : (long : Bool) (read : Result Scene Fault) (j : Journal) (line cause : ℕ) → scene_refused line cause ≡ (if long then refused input_too_long length_line else played_scene false (λ s. j) read).ending → IsLawfulFor j read
none_read true read j line cause e = absurd (cc e)
none_read false (Ok s) j line cause e = absurd (cc e)
none_read false (Err f) j line cause e = tt

-- a play for C ended so, by a sink of pictures and one of notes that held these texts before it and after it, with these counts of faults
abbrev pub IsEnded : Status → (text : List ℕ) → Journal → (before shown nothing told : List ℕ) → (first second third fourth : ℕ) → Type 0
IsEnded st text j before shown nothing told first second third fourth =
    IsAnswered st (showing_command false false 0) text j (putting (Some before) (Some shown) first second) (putting (Some nothing) (Some told) third fourth)

-- every run on a text that a scene is has pictures and a report of the lengths of one of them
module _ (text : List ℕ) (scene : Scene) (j : Journal) (few : length text ≤ longest_input) (is : scene_of whole_language text ≡ Ok scene) (lawful : IsLawful scene j) where
  shows : (k : Journal) → played false (λ s. k) text ≡ shown_run false scene k
  shows k = plays false 0 text k scene few is

  one_length : AreLengthsOfRuns text (length (played false (λ s. j) text).pictures) (length (played false (λ s. j) text).noted)
  one_length run (k, own, same) =
      let theirs : run ≡ shown_run false scene k = same ∙ shows k in
      let other : IsLawful scene k = subst (λ (o : Result Scene Fault). IsLawfulFor k o) is own in
      let lengths : length (pictures_text scene k) ≡ length (pictures_text scene j) = length-law scene k j (reads-readable text scene is) other lawful in (
        ap (λ (r : Run). length r.pictures) theirs ∙ lengths ∙ sym (ap (λ (r : Run). length r.pictures) (shows j)),
        ap (λ (r : Run). length r.noted) theirs ∙ sym (ap (λ (r : Run). length r.noted) (shows j)),
      )

module _ (text : List ℕ) (j : Journal) (shown told : List ℕ) (first second third fourth : ℕ) where
  out_of_run : (e : PlayEnd) (p q r s : List ℕ) → IsEnded status.Done text j [] shown [] told first second third fourth → AreHandedOut e shown told p q r s → Plays e text p q r s
  out_of_run e p q r s a out = by e out where
    run : Run
    run = played false (λ s. j) text

    is : IsPlayed false text run
    is = (j, subst (λ (o : Result Scene Fault). IsLawfulFor j o) (sym a.0.is.1) a.0.lawful, refl)

    lengths : (m n : ℕ) → m ≡ length run.pictures → n ≡ length run.noted → AreLengthsOfRuns text m n
    lengths m n shown_is told_is other own =
        let both = one_length text a.0.scene j a.0.is.0 a.0.is.1 a.0.lawful other own in
        (both.0 ∙ sym shown_is, both.1 ∙ sym told_is)

    of_run : (e : PlayEnd) → AreHandedOut e shown told p q r s → AreHandedOut e run.pictures run.noted p q r s
    of_run e o = subst (λ (x : List ℕ). AreHandedOut e x run.noted p q r s) (same_Some shown run.pictures a.0.put) (subst (λ (x : List ℕ). AreHandedOut e shown x p q r s) (same_Some told run.noted a.1) o)

    by : (e : PlayEnd) → AreHandedOut e shown told p q r s → Plays e text p q r s
    by (Done m n) o = let handed = of_run (Done m n) o in ((run, is, a.0.done, handed), lengths m n handed.0 handed.1)
    by (TooSmall m n) o = let handed = of_run (TooSmall m n) o in ((run, is, a.0.done, handed), lengths m n handed.0 handed.1)
    by (NoScene line cause) o = absurd o
    by TooLong o = absurd o
    by OutOfMemory o = absurd o

-- what a play that ended whole put into two sinks that had nothing is handed out
module _ (text : List ℕ) (j : Journal) (st : Status) (before shown nothing told front report : List ℕ) (first second third fourth : ℕ) where
  pub shown_out : (e : PlayEnd) (p q r s : List ℕ) → st ≡ status.Done → before ≡ [] → nothing ≡ [] → IsEnded st text j before shown nothing told first second third fourth
      → front ≡ shown → report ≡ told → AreHandedOut e front report p q r s → Plays e text p q r s
  shown_out e p q r s done none none_noted a pictures_are report_is out =
      let whole : IsEnded status.Done text j before shown nothing told first second third fourth = subst (λ (x : Status). IsEnded x text j before shown nothing told first second third fourth) done a in
      let from_none : IsEnded status.Done text j [] shown nothing told first second third fourth
      = subst (λ (x : List ℕ). IsEnded status.Done text j x shown nothing told first second third fourth) none whole in
      let from_nothing : IsEnded status.Done text j [] shown [] told first second third fourth = subst (λ (x : List ℕ). IsEnded status.Done text j [] shown x told first second third fourth) none_noted from_none in
      let handed : AreHandedOut e shown told p q r s = subst (λ (x : List ℕ). AreHandedOut e x told p q r s) pictures_are (subst (λ (x : List ℕ). AreHandedOut e front x p q r s) report_is out) in
      out_of_run text j shown told first second third fourth e p q r s from_nothing handed

-- a text that is no scene
module _ (text : List ℕ) (j : Journal) (line cause : ℕ) where
  refused_out : Some (scene_refused line cause) ≡ Some (played false (λ s. j) text).ending → (p r : List ℕ) → Plays (NoScene line cause) text p p r r
  refused_out e p r =
      let is = same_Some (scene_refused line cause) (played false (λ s. j) text).ending e in
      (played false (λ s. j) text, (j, none_read _ (scene_of whole_language text) j line cause is, refl), sym is, refl, refl)

  pub no_scene : (st : Status) (pictures noted : Putting) → st ≡ status.Scene line cause → IsAnswered st (showing_command false false 0) text j pictures noted → (p r : List ℕ) → Plays (NoScene line cause) text p p r r
  no_scene st pictures noted is a =
      let refused : IsRefused (ending_of (status.Scene line cause)) (answer_of (showing_command false false 0) text j) j pictures noted = subst (λ (x : Status). IsAnswered x (showing_command false false 0) text j pictures noted) is a in
      refused_out refused.refused

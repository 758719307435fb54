-- Runs that the definition refuses, and runs that had no memory.
use Rattle.std.proofs.Common.{◌≡◌, ◌∙◌, ◌≤◌, ◌<◌, ℕ, Bool, true, false, List, length, drop, Some, None, Result, Ok, Err, refl, sym, ap, subst, inl, inr, arith, nat_lt}
use Rattle.std.proofs.lemmas.Bool.Decides.{nat_tests}
use Rattle.scene_model.specs.Scene.{Scene}
use Rattle.scene_model.specs.Grammar.{Fault, scene_of, front_of, whole_language}
use Rattle.scene_model.specs.Fold.{plans}
use Rattle.scene_model.specs.Journal.{Journal, fault_place}
use Rattle.scene_model.specs.JournalText.{journal_of}
use Rattle.scene_model.specs.Run.{Run, longest_input, input_too_long, refused, misread, unlawful, shown, shown_unless, replayed_by}
use Rattle.scene_model.specs.Output.{length_line}
use Rattle.command_line_model.specs.Taken.{Command}
use Rattle.scene_player.specs.declared.status.Status.{Status}
use Rattle.scene_player.specs.declared.status.Status.TheVariants as status
use Rattle.io_whole.specs.Runs.{Putting, HasTried}
use Rattle.scene_player.specs.Numbers.{ending_of}
use Rattle.scene_player.specs.Ended.{answer_of, IsAnswered, IsBlank, IsRefused}
use Rattle.scene_player.specs.Parts.{showing_command, IsRefusedWith, MayRefuse, place_of}

-- ---- what the definition answers

within : (n : ℕ) → n ≤ 16777216 → nat_lt longest_input n ≡ false
within n few = grind (arith, nat_tests)

beyond : (n : ℕ) → 16777216 < n → nat_lt longest_input n ≡ true
beyond n many = grind (arith, nat_tests)

module _ (with_journal : Bool) (count : ℕ) (bytes : List ℕ) (journal : Journal) where
  pub plays : (s : Scene) → length bytes ≤ 16777216 → scene_of whole_language bytes ≡ Ok s → answer_of (showing_command false with_journal count) bytes journal ≡ shown with_journal s journal
  plays s few e = rw (within (length bytes) few, e) refl

  pub misreads : (f : Fault) → length bytes ≤ 16777216 → scene_of whole_language bytes ≡ Err f → answer_of (showing_command false with_journal count) bytes journal ≡ misread f
  misreads f few e = rw (within (length bytes) few, e) refl

  pub misreads-front : (f : Fault) → length bytes ≤ 16777216 → front_of whole_language bytes ≡ Err f → answer_of (showing_command true with_journal count) bytes journal ≡ misread f
  misreads-front f few e = rw (within (length bytes) few, e) refl

  behind : (s : Scene) (n : ℕ) → length bytes ≤ 16777216 → front_of whole_language bytes ≡ Ok (s, n)
      → answer_of (showing_command true with_journal count) bytes journal ≡ replayed_by with_journal s (journal_of (drop n bytes) (length s.frames))
  behind s n few e = rw (within (length bytes) few, e) refl

  pub replays : (s : Scene) (n : ℕ) (j : Journal) → length bytes ≤ 16777216 → front_of whole_language bytes ≡ Ok (s, n) → journal_of (drop n bytes) (length s.frames) ≡ Ok j
      → fault_place (plans s) j ≡ None → answer_of (showing_command true with_journal count) bytes journal ≡ shown with_journal s j
  replays s n j few e read lawful = behind s n few e ∙ ap (replayed_by with_journal s) read ∙ ap (shown_unless with_journal s j) lawful

  at-place : (s : Scene) (r : Result Journal ℕ) (place : ℕ) → place_of s r ≡ Some place → replayed_by with_journal s r ≡ unlawful place
  at-place s (Ok j) place e = ap (shown_unless with_journal s j) e
  at-place s (Err p) place e = let same : p ≡ place = cc in ap unlawful same

  pub judges : (s : Scene) (n place : ℕ) → length bytes ≤ 16777216 → front_of whole_language bytes ≡ Ok (s, n) → place_of s (journal_of (drop n bytes) (length s.frames)) ≡ Some place
      → answer_of (showing_command true with_journal count) bytes journal ≡ unlawful place
  judges s n place few e found = behind s n few e ∙ at-place s (journal_of (drop n bytes) (length s.frames)) place found

pub too-long : (is_replay with_journal : Bool) (count : ℕ) (bytes : List ℕ) (journal : Journal) → 16777216 < length bytes
    → answer_of (showing_command is_replay with_journal count) bytes journal ≡ refused input_too_long length_line
too-long true with_journal count bytes journal many = rw (beyond (length bytes) many) refl
too-long false with_journal count bytes journal many = rw (beyond (length bytes) many) refl

-- ---- what stands after it

-- the statuses with which a run over an input is refused
abbrev pub IsRefusal : Status → Type 0
IsRefusal (status.Scene line cause) = Unit {0}
IsRefusal status.TooLong = Unit {0}
IsRefusal (status.Journal place) = Unit {0}
IsRefusal _ = ⊥

module _ (c : Command) (bytes : List ℕ) (journal : Journal) (pictures notes : Putting) where
  refused-is : (st : Status) → IsRefusal st → IsRefused (ending_of st) (answer_of c bytes journal) journal pictures notes → IsAnswered st c bytes journal pictures notes
  refused-is (status.Scene line cause) is h = h
  refused-is status.TooLong is h = h
  refused-is (status.Journal place) is h = h
  refused-is status.Done is h = absurd is
  refused-is status.Usage is h = absurd is
  refused-is status.ReadFault is h = absurd is
  refused-is status.PictureFault is h = absurd is
  refused-is status.NoteFault is h = absurd is
  refused-is status.OutOfMemory is h = absurd is

  pub refuses : (wanted st : Status) (run : Run) → IsRefusal wanted → answer_of c bytes journal ≡ run → ending_of wanted ≡ Some run.ending
      → IsRefusedWith wanted st run.noted journal pictures notes → IsAnswered st c bytes journal pictures notes
  refuses wanted st run is answer ending h = subst (λ (s : Status). IsAnswered s c bytes journal pictures notes) (sym h.is) (refused-is wanted is (record {
    refused = ending ∙ ap (λ (r : Run). Some r.ending) (sym answer);
    no_frame = h.no_frame;
    no_picture = h.no_picture;
    noted = subst (λ (r : Run). HasTried r.noted notes) (sym answer) h.noted;
  }))

  pub starves : (st : Status) → st ≡ status.OutOfMemory → IsBlank journal pictures notes → IsAnswered st c bytes journal pictures notes
  starves st is h = subst (λ (s : Status). IsAnswered s c bytes journal pictures notes) (sym is) (inl h)

  pub may-refuse : (wanted st : Status) (run : Run) → IsRefusal wanted → answer_of c bytes journal ≡ run → ending_of wanted ≡ Some run.ending
      → MayRefuse wanted st run.noted journal pictures notes → IsAnswered st c bytes journal pictures notes
  may-refuse wanted st run is answer ending (inl h) = refuses wanted st run is answer ending h
  may-refuse wanted st run is answer ending (inr h) = starves st h.0 h.1

-- the line as another text
pub refused-by : (wanted st : Status) (line text : List ℕ) (journal : Journal) (pictures notes : Putting) → line ≡ text → IsRefusedWith wanted st line journal pictures notes → IsRefusedWith wanted st text journal pictures notes
refused-by wanted st line text journal pictures notes e h = subst (λ (t : List ℕ). IsRefusedWith wanted st t journal pictures notes) e h

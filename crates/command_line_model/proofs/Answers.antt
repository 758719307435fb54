-- Runs by computation, from the words and the input.
use Rattle.std.specs.Prelude.{◌≡◌, ℕ, false, List, [], ◌∷◌, ◌++◌, Some, refl, codes}
use Rattle.std.proofs.Common.{ap}
use Rattle.std.specs.Fmt.{digits}
use Rattle.clap.specs.Walk.{walked}
use Rattle.clap.specs.Takes.{walk_passes}
use Rattle.scene_model.specs.Scene.{Scene}
use Rattle.scene_model.specs.Field.{word_in, hex_value, hex_byte}
use Rattle.scene_model.specs.Grammar.{after_word, after_resource, after_encoder_line}
use Rattle.scene_model.specs.Journal.{Entry, Journal, serial}
use Rattle.scene_model.specs.Run.{Run, Ending, all_done, words_refused, scene_refused, journal_refused, made}
use Rattle.command_line_model.specs.Taken.{make, taken}
use Rattle.command_line_model.specs.Answer.{of_command, answer}

abbrev pub run : Ending → List ℕ → Journal → List ℕ → Run
run ending pictures journal noted = record { ending = ending; pictures = pictures; journal = journal; noted = noted }

-- one view of one pixel, cleared by a touch
abbrev pub one_clear : List ℕ
one_clear = codes "scene 1\nsize 1 1\nencoders 1\nframe\nview 0 clear 1 ff0000ff 0 0\nencoder 0\ntouch 0\ndone\n"

abbrev one_entry : List Entry
one_entry = record { encoder = 0; ordinal = 0 } ∷ []

abbrev red : List ℕ
red = codes "P6\n1 1\n255\n" ++ 255 ∷ 0 ∷ 0 ∷ []

plays : answer (codes "play" ∷ []) serial one_clear ≡ run all_done red (one_entry ∷ []) (codes "frame 0 items 1 dropped 0\n")
unfolding digits walked walk_passes after_word after_resource after_encoder_line word_in hex_value hex_byte
plays = refl

plays_with_journal : answer (codes "play" ∷ codes "--journal" ∷ []) serial one_clear ≡ run all_done red (one_entry ∷ []) (codes "frame 0 items 1 dropped 0\nj 0:0\n")
unfolding digits walked walk_passes after_word after_resource after_encoder_line word_in hex_value hex_byte
plays_with_journal = refl

replays : answer (codes "replay" ∷ []) serial (one_clear ++ codes "# first\nj 0:0\n") ≡ run all_done red (one_entry ∷ []) (codes "frame 0 items 1 dropped 0\n")
unfolding digits walked walk_passes after_word after_resource after_encoder_line word_in hex_value hex_byte
replays = refl

replays_no_other_journal : answer (codes "replay" ∷ []) serial (one_clear ++ codes "j 0:0 0:1\n") ≡ run (journal_refused 1) [] [] (codes "journal refused at entry 1\n")
unfolding digits walked walk_passes after_word after_resource after_encoder_line word_in hex_value hex_byte
replays_no_other_journal = refl

plays_no_journal_behind : answer (codes "play" ∷ []) serial (one_clear ++ codes "j 0:0\n") ≡ run (scene_refused 9 4) [] [] (codes "scene refused at line 9 for cause 4\n")
unfolding digits walked walk_passes after_word after_resource after_encoder_line word_in hex_value hex_byte
plays_no_journal_behind = refl

knows_no_other_mode : answer (codes "show" ∷ []) serial one_clear ≡ run words_refused [] [] (codes "usage: gfx_play MODE [--journal] [--count N]\n")
unfolding walked walk_passes
knows_no_other_mode = refl

makes_one : taken (codes "make" ∷ codes "--count" ∷ codes "1" ∷ []) ≡ Some (record { mode = make; journal = false; count = 1 })
unfolding walked walk_passes
makes_one = refl

reads_no_input_to_make : (drawn : Scene → Journal) (bytes : List ℕ) → answer (codes "make" ∷ codes "--count" ∷ codes "1" ∷ []) drawn bytes ≡ made 1 drawn
reads_no_input_to_make drawn bytes = ap (λ c. of_command c drawn bytes) makes_one

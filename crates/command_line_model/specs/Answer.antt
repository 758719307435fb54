-- What the program answers to its words and its input.
use Rattle.std.specs.Prelude.{ℕ, List, Option, Some, None}
use Rattle.clap.specs.Words.{Text}
use Rattle.scene_model.specs.Scene.{Scene}
use Rattle.scene_model.specs.Journal.{Journal}
use Rattle.scene_model.specs.Run.{Run, unused, played, replayed, made}
use Rattle.command_line_model.specs.Taken.{Mode, play, replay, make, Command, taken}

-- the run of a mode, with the journal whose numbers were drawn
abbrev pub in_mode : Mode → Command → (drawn : Scene → Journal) → List ℕ → Run
in_mode play c drawn bytes = played c.journal drawn bytes
in_mode replay c drawn bytes = replayed c.journal bytes
in_mode make c drawn bytes = made c.count drawn

-- the run of a command; words that are refused have none
abbrev pub of_command : Option Command → (drawn : Scene → Journal) → List ℕ → Run
of_command None drawn bytes = unused
of_command (Some c) drawn bytes = in_mode c.mode c drawn bytes

-- the run that the words and the input have, with the journal whose numbers were drawn
abbrev pub answer : List Text → (drawn : Scene → Journal) → List ℕ → Run
answer words drawn bytes = of_command (taken words) drawn bytes

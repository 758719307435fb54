use Rattle.std.proofs.Common.{◌≡◌, ◌+◌, ◌≤◌, length, Ok}
use Rattle.scene_model.specs.Field.{split_at}
use Rattle.scene_model.specs.Grammar.{scene_of, read_pieces}
use Rattle.scene_text.specs.SeenReading.{reading_seen}
use Rattle.scene_model.specs.Grammar.{whole_language}
use Rattle.scene_text.proofs.text.read.Given as goal

-- what is left is read to what the whole is read to
abbrev pub invariant-loop-fields : goal.invariant-loop-fields
invariant-loop-fields l = record {
  left : read_pieces whole_language l.line (Ok (reading_seen l.reading)) (split_at 10 l.rest) ≡ scene_of whole_language l.bytes;
  line : l.line + length l.rest ≤ length l.bytes + 1;
}

abbrev pub decreases-loop-fields : goal.decreases-loop-fields
decreases-loop-fields l = length l.rest

use Rattle.std.proofs.Common.{◌≡◌, ◌+◌, ◌≤◌, length, Some}
use Rattle.scene_model.specs.Field.{split_at}
use Rattle.load_text.specs.Text.{load_of, read_pieces}
use Rattle.load_text.specs.SeenReading.{reading_seen}
use Rattle.load_text.proofs.text.read_load.Given as goal

-- what is left is read to what the whole is read to
abbrev pub invariant-loop-n : goal.invariant-loop-n
invariant-loop-n l = record {
  left : read_pieces l.line (Some (reading_seen l.reading)) (split_at 10 l.rest) ≡ load_of l.bytes;
  line : l.line + length l.rest ≤ length l.bytes + 1;
}

abbrev pub decreases-loop-n : goal.decreases-loop-n
decreases-loop-n l = length l.rest

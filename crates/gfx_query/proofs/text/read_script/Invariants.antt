use Rattle.std.proofs.Common.{◌≡◌, ◌+◌, ◌≤◌, length, Some}
use Rattle.scene_model.specs.Field.{split_at}
use Rattle.gfx_query.specs.Text.{script_of, read_pieces}
use Rattle.gfx_query.specs.SeenReading.{reading_seen}
use Rattle.gfx_query.proofs.text.read_script.Given as goal

-- what is left is read to what the whole is read to
abbrev pub invariant-loop-n : goal.invariant-loop-n
invariant-loop-n l = record {
  left : read_pieces l.line (Some (reading_seen l.reading)) (split_at 10 l.rest) ≡ script_of l.bytes;
  line : l.line + length l.rest ≤ length l.bytes + 1;
}

abbrev pub decreases-loop-n : goal.decreases-loop-n
decreases-loop-n l = length l.rest

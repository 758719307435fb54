use Rattle.std.proofs.Common.{◌-◌, ◌≤◌, length}
use Rattle.text_fields.specs.Fields.{texts}
use Rattle.scene_text.specs.Cuts.{IsOpen}
use Rattle.scene_text.proofs.splitting.text_line.Given as goal

-- the fields so far, of which the last is open
abbrev pub invariant-loop-from : goal.invariant-loop-from
invariant-loop-from l = record {
  begun : IsOpen l.bytes l.start l.from (texts l.fields.items);
  within : l.from ≤ length l.bytes;
}

abbrev pub decreases-loop-from : goal.decreases-loop-from
decreases-loop-from l = length l.bytes - l.from

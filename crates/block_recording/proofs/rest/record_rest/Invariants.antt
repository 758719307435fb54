use Rattle.std.proofs.Common.{◌≡◌, map, length, filter, take, drop}
use Rattle.scene_text.specs.Seen.{encoder_line_seen}
use Rattle.block_recording.specs.Lines.{is_item_line}
use Rattle.block_recording.specs.Jobs.{IsOnTheWay}
use Rattle.block_recording.proofs.rest.record_rest.Given as goal

abbrev pub invariant-loop-line : goal.invariant-loop-line
invariant-loop-line g l = record {
  item : l.item ≡ length (filter is_item_line (map encoder_line_seen (take l.line-index l.lines)));
  way : IsOnTheWay g.C.Naming.admits (record { encoder = l.encoder; dropped = l.dropped; lines = map encoder_line_seen (drop l.line-index l.lines); names = l.names });
}

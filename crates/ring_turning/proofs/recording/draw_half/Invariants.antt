use Rattle.std.proofs.Common.{◌≡◌}
use Rattle.ring_turning.specs.Ring.{triangles, Records}
use Rattle.ring_turning.proofs.recording.draw_half.Given as goal

abbrev pub invariant-loop-i : goal.invariant-loop-i
invariant-loop-i g l = record {
  drawn : Records (triangles l.things l.steps l.first l.i) l.fn.encoder.recorder l.encoder.recorder;
  same : (l.encoder.seat.encoder ≡ l.fn.encoder.seat.encoder) × (l.encoder.seat.frame ≡ l.fn.encoder.seat.frame);
}

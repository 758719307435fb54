use Rattle.std.proofs.Common.{◌≡◌}
use Rattle.gfx.specs.Pictures.{first_outcome}
use Rattle.ring_turning.specs.Turning.{IsAt}
use Rattle.ring_turning.proofs.turning.turn_frames.Given as goal

abbrev pub invariant-loop-number : goal.invariant-loop-number
invariant-loop-number g l = record {
  at : IsAt l.number l.context;
  outcome : l.outcome ≡ first_outcome l.context.back;
  origin : g.L.FrameLink.origin l.context.link ≡ g.L.FrameLink.origin l.fn.context.link;
}

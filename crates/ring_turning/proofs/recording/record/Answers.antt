use Rattle.std.proofs.Common.{◌*◌, ap, sym}
use Rattle.ring_turning.proofs.Calls.{part}
use Rattle.ring_turning.proofs.recording.record.Goals as goal

pub end-requires : goal.end-requires
end-requires g c = record {
  admitted = c.requires.admits _ _ _ 0
      (part c.args.things.now c.args.steps (8 * c.args.half) c.args.encoder c.draw_half.new.encoder c.in-Ok.ensures.all c.requires.ready.new.none c.requires.ready.turned
      (ap (λ n. 8 * n) (sym c.requires.ready.new.number)) c.in-Ok.ensures.same);
}

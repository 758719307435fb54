use Rattle.std.proofs.Common.{ap, length, arith}
use Rattle.std.proofs.lemmas.List.{length-map}
use Rattle.vertex_layout.specs.Placed.{placed_seen}
use Rattle.cmd_buffer.proofs.Again.{length_layout}
use Rattle.cmd_buffer.proofs.write.put_layout.Goals as goal

pub returns-in_err-try_reserve-clause-succeeds : goal.returns-in_err-try_reserve-clause-succeeds
returns-in_err-try_reserve-clause-succeeds c enough =
    absurd (omega (arith, enough, c.in_err-try_reserve.ensures.full, length_layout c.args.layout.now.attributes c.args.layout.now.stride, ap length c.attributes-attributes.ensures.items, length-map c.attributes-attributes.result.now placed_seen))

use Rattle.std.proofs.Common.{refl}
use Rattle.hold_table.specs.Seats.{enc_view}
use Rattle.c_calls.specs.Calls.{gathers_none}
use Rattle.c_calls.proofs.On.{gathers_one}
use Rattle.c_calls.proofs.context.Context.collect_one.Goals as goal

pub returns-in-None : goal.returns-in-None
returns-in-None c = record { gathers = gathers_none; same = refl }

pub returns-in-Some-clause-gathers : goal.returns-in-Some-clause-gathers
returns-in-Some-clause-gathers c = let g = c.gather.ensures.gathers in gathers_one g.0 (enc_view c.in-Some.letter.1) _ _ g.2

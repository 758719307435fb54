use Rattle.std.proofs.Common.{◌+◌, take, drop}
use Rattle.fault_fields.proofs.Walks.{four_pieces}
use Rattle.fault_fields.proofs.spelled.is_third.Goals as goal

pub returns-in-Some : goal.returns-in-Some
returns-in-Some c = four_pieces c.args.first.now c.args.second.now c.args.rest.now (take c.in-Some.field-0 c.args.rest.now) (drop (c.in-Some.field-0 + 1) c.args.rest.now) c.in-Some.ensures.cases.1

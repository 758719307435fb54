use Rattle.view_table.proofs.Kept.{position_read}
use Rattle.view_table.proofs.table.ViewTable.position.Goals as goal

pub returns-clause-position : goal.returns-clause-position
returns-clause-position c =
    (position_read c.self.inside.settings.items c.self.inside.listed c.self.inside.sequence.items c.self.inside.positions.items c.args.self.now c.args.view c.index.result.now
    c.self.invariant.1 c.self.view_is c.requires c.index.ensures).position

pub returns-clause-inverse : goal.returns-clause-inverse
returns-clause-inverse c =
    (position_read c.self.inside.settings.items c.self.inside.listed c.self.inside.sequence.items c.self.inside.positions.items c.args.self.now c.args.view c.index.result.now
    c.self.invariant.1 c.self.view_is c.requires c.index.ensures).inverse

pub returns-clause-below : goal.returns-clause-below
returns-clause-below c =
    (position_read c.self.inside.settings.items c.self.inside.listed c.self.inside.sequence.items c.self.inside.positions.items c.args.self.now c.args.view c.index.result.now
    c.self.invariant.1 c.self.view_is c.requires c.index.ensures).below

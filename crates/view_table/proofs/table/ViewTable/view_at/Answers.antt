use Rattle.view_table.proofs.Kept.{view_read}
use Rattle.view_table.proofs.table.ViewTable.view_at.Goals as goal

pub returns-clause-view : goal.returns-clause-view
returns-clause-view c =
    (view_read c.self.inside.settings.items c.self.inside.listed c.self.inside.sequence.items c.self.inside.positions.items c.args.self.now c.args.position c.index.result.now
    c.self.invariant.1 c.self.view_is c.requires c.index.ensures).view

pub returns-clause-inverse : goal.returns-clause-inverse
returns-clause-inverse c =
    (view_read c.self.inside.settings.items c.self.inside.listed c.self.inside.sequence.items c.self.inside.positions.items c.args.self.now c.args.position c.index.result.now
    c.self.invariant.1 c.self.view_is c.requires c.index.ensures).inverse

pub returns-clause-below : goal.returns-clause-below
returns-clause-below c =
    (view_read c.self.inside.settings.items c.self.inside.listed c.self.inside.sequence.items c.self.inside.positions.items c.args.self.now c.args.position c.index.result.now
    c.self.invariant.1 c.self.view_is c.requires c.index.ensures).below

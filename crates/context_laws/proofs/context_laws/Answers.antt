use Rattle.context_laws.proofs.Runs as laws
use Rattle.context_laws.proofs.context_laws.Goals as goal

pub returns-clause-new : goal.returns-clause-new
returns-clause-new c = laws.opens c.steps_are_events.ensures.new_table c.steps_are_events-2.ensures.new_table

pub returns-clause-lend : goal.returns-clause-lend
returns-clause-lend c = laws.lend c.steps_are_events.ensures.split

pub returns-clause-give_up : goal.returns-clause-give_up
returns-clause-give_up c = laws.give_up c.steps_are_events.ensures.unbegun c.steps_are_events.ensures.learn

pub returns-clause-gather : goal.returns-clause-gather
returns-clause-gather c = laws.gathers c.steps_are_events.ensures.join c.steps_are_events.ensures.learn

pub returns-clause-make : goal.returns-clause-make
returns-clause-make c = laws.makes c.steps_are_events.ensures.create

pub returns-clause-die : goal.returns-clause-die
returns-clause-die c = laws.dies c.steps_are_events.ensures.destroy

pub returns-clause-give : goal.returns-clause-give
returns-clause-give c = laws.gives c.steps_are_events.ensures.handover c.steps_are_events-2.ensures.give

pub returns-clause-advance : goal.returns-clause-advance
returns-clause-advance c = laws.advances c.steps_are_events.ensures.advance

pub returns-clause-reclaim : goal.returns-clause-reclaim
returns-clause-reclaim c = laws.reclaims c.steps_are_events.ensures.reclaim

pub returns-clause-take_back : goal.returns-clause-take_back
returns-clause-take_back c = laws.backs c.steps_are_events.ensures.handover

pub returns-clause-hand : goal.returns-clause-hand
returns-clause-hand c = laws.hands c.steps_are_events.ensures.handover

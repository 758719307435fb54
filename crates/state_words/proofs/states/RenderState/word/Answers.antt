use Rattle.state_words.proofs.Named.{state_has, state_admitted, depth_written, blended}
use Rattle.state_words.proofs.states.RenderState.word.Goals as goal

pub returns-clause-admitted : goal.returns-clause-admitted
returns-clause-admitted c = rw c.packed.ensures (state_admitted c.args.self.now)

pub returns-clause-writes_depth : goal.returns-clause-writes_depth
returns-clause-writes_depth c = rw c.packed.ensures (depth_written c.args.self.now)

pub returns-clause-blended : goal.returns-clause-blended
returns-clause-blended c = rw c.packed.ensures (blended c.args.self.now)

pub returns-clause-color_source : goal.returns-clause-color_source
returns-clause-color_source c = rw c.packed.ensures ((state_has c.args.self.now).color_from)

pub returns-clause-color_destination : goal.returns-clause-color_destination
returns-clause-color_destination c = rw c.packed.ensures ((state_has c.args.self.now).color_onto)

pub returns-clause-color_equation : goal.returns-clause-color_equation
returns-clause-color_equation c = rw c.packed.ensures ((state_has c.args.self.now).color_joined)

pub returns-clause-alpha_source : goal.returns-clause-alpha_source
returns-clause-alpha_source c = rw c.packed.ensures ((state_has c.args.self.now).alpha_from)

pub returns-clause-alpha_destination : goal.returns-clause-alpha_destination
returns-clause-alpha_destination c = rw c.packed.ensures ((state_has c.args.self.now).alpha_onto)

pub returns-clause-alpha_equation : goal.returns-clause-alpha_equation
returns-clause-alpha_equation c = rw c.packed.ensures ((state_has c.args.self.now).alpha_joined)

pub returns-clause-culled : goal.returns-clause-culled
returns-clause-culled c = rw c.packed.ensures ((state_has c.args.self.now).culled)

pub returns-clause-primitive : goal.returns-clause-primitive
returns-clause-primitive c = rw c.packed.ensures ((state_has c.args.self.now).primitive)

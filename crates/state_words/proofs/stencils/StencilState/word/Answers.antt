use Rattle.state_words.proofs.StencilLaws.{stencil_has, stencil_admitted}
use Rattle.state_words.proofs.stencils.StencilState.word.Goals as goal

pub returns-clause-admitted : goal.returns-clause-admitted
returns-clause-admitted c = rw c.packed.ensures.value (stencil_admitted c.args.self.now c.packed.ensures.reference c.packed.ensures.mask)

pub returns-clause-reference : goal.returns-clause-reference
returns-clause-reference c = rw c.packed.ensures.value ((stencil_has c.args.self.now c.packed.ensures.reference c.packed.ensures.mask).reference)

pub returns-clause-mask : goal.returns-clause-mask
returns-clause-mask c = rw c.packed.ensures.value ((stencil_has c.args.self.now c.packed.ensures.reference c.packed.ensures.mask).mask)

pub returns-clause-test : goal.returns-clause-test
returns-clause-test c = rw c.packed.ensures.value ((stencil_has c.args.self.now c.packed.ensures.reference c.packed.ensures.mask).test)

pub returns-clause-on_stencil_fail : goal.returns-clause-on_stencil_fail
returns-clause-on_stencil_fail c = rw c.packed.ensures.value ((stencil_has c.args.self.now c.packed.ensures.reference c.packed.ensures.mask).on_stencil_fail)

pub returns-clause-on_depth_fail : goal.returns-clause-on_depth_fail
returns-clause-on_depth_fail c = rw c.packed.ensures.value ((stencil_has c.args.self.now c.packed.ensures.reference c.packed.ensures.mask).on_depth_fail)

pub returns-clause-on_pass : goal.returns-clause-on_pass
returns-clause-on_pass c = rw c.packed.ensures.value ((stencil_has c.args.self.now c.packed.ensures.reference c.packed.ensures.mask).on_pass)

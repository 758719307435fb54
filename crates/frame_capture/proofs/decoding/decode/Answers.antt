use Rattle.std.proofs.Common.{subst, arith}
use Rattle.frame_capture.specs.Gives.{Shows}
use Rattle.frame_capture.proofs.Frames.{shown-again}
use Rattle.frame_capture.proofs.Shown.{is-found}
use Rattle.frame_capture.proofs.decoding.decode.Goals as goal

pub returns-clause-found : goal.returns-clause-found
returns-clause-found c = is-found c.args.bytes.now c.show.result (λ i. omega (arith, c.type_inv.bytes i)) c.show.ensures.exact

pub returns-clause-only : goal.returns-clause-only
returns-clause-only c = λ f is. subst (λ r. Shows (λ v. v.items) c.show.result r) (shown-again c.args.bytes.now f is) c.show.ensures.exact

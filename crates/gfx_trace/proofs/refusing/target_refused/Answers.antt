use Rattle.gfx_trace.proofs.Texts.{line_built}
use Rattle.gfx_trace.proofs.refusing.target_refused.Goals as goal

pub returns : goal.returns
returns c =
    line_built c.args.frame c.args.name.now c.in_ok-text.text.items c.extend_from_slice.new.self.items c.extend_from_slice-2.new.self.items
    c.in_ok-text.ensures c.in_ok-extend_from_slice.ensures.items c.in_ok-extend_from_slice-2.ensures.items

use Rattle.std.proofs.Common.{◌∙◌, Some, sym, ap}
use Rattle.frame_blame.proofs.Starts.{word-none, word-some}
use Rattle.frame_blame.proofs.blaming.word_of.Goals as goal

pub returns-in-None : goal.returns-in-None
returns-in-None c = sym (word-none c.args.surface.now c.args.place c.in-None.is)

pub returns-in-Some : goal.returns-in-Some
returns-in-Some c = ap Some c.depth_word.ensures ∙ word-some c.args.surface.now c.in-Some.depth c.args.place c.as_slice.result.now _ c.as_slice.ensures c.requires c.in-Some.is

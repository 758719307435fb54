use Rattle.std.proofs.Common.{sym, ◌∙◌}
use Rattle.c_calls.proofs.Told.{wrong_texture}
use Rattle.c_calls.proofs.context.Context.make_texture_of.Goals as goal

pub returns-then-not-fits : goal.returns-then-not-fits
returns-then-not-fits c = wrong_texture _ _ _ _ _ _ (sym c.fits.ensures ∙ c.if-not-fits.true)

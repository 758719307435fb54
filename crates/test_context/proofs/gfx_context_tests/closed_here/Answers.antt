use Rattle.std.proofs.Common.{◌∙◌, sym}
use Rattle.std.proofs.lemmas.List.{nil_from_length}
use Rattle.test_context.proofs.gfx_context_tests.closed_here.Goals as goal

-- none is off
pub close-requires : goal.close-requires
close-requires g c = record { none_off = nil_from_length _ (sym c.off.ensures ∙ c.if-off-ne0.false) }

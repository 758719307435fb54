use Rattle.std.proofs.Common.{◌∙◌, sym}
use Rattle.std.proofs.lemmas.List.{nil_from_length}
use Rattle.test_context.proofs.gfx_context_tests.ended_here.Goals as goal

-- none is off
pub end-requires-clause-none_off : goal.end-requires-clause-none_off
end-requires-clause-none_off g c = nil_from_length _ (sym c.off.ensures ∙ c.if-off-ne0.false)

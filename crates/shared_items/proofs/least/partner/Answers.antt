use Rattle.std.proofs.Common.{sym, ◌∙◌}
use Rattle.std.specs.Prelude.{slice_index_or, None, length}
use Rattle.shared_items.specs.Marked.{marks_clash}
use Rattle.shared_items.proofs.Finds.{find_next}
use Rattle.shared_items.proofs.least.partner.Goals as goal

pub loop-place-preserved : goal.loop-place-preserved
loop-place-preserved c =
    find_next (λ j. marks_clash c.args.view c.args.left.now (slice_index_or c.args.rights.now j None)) c.loop-place.place (length c.args.rights.now) _ c.loop-place-test.true (sym c.clash.ensures ∙ c.if-clash.false) c.loop-place.invariant

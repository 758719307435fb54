use Rattle.std.proofs.Common.{refl, ap, ◌∙◌}
use Rattle.io_edge.specs.Edge.{with_back}
use Rattle.check_running.specs.Putting.{whole}
use Rattle.check_running.proofs.checking.tell_scene.Goals as goal

pub returns-in-Ok-put_all-clause-told : goal.returns-in-Ok-put_all-clause-told
returns-in-Ok-put_all-clause-told g c =
    whole refl (c.in-Ok-put_all.ensures.whole ∙ ap (with_back (g.E.Sink.held c.args.notes.now)) (c.as_slice.ensures.value ∙ c.in-Ok.ensures))

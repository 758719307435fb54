use Rattle.std.proofs.Common.{List, ℕ, subst, ◌∙◌}
use Rattle.io_edge.specs.Edge.{Rose}
use Rattle.diff_running.specs.Putting.{IsTold}
use Rattle.diff_running.specs.declared.status.DiffStatus.TheVariants as status
use Rattle.diff_running.proofs.diffing.tell_count.Goals as goal

pub returns-in-Ok-clause-told : goal.returns-in-Ok-clause-told
returns-in-Ok-clause-told g c =
    subst (λ (n : List ℕ). IsTold c.put_note.result (status.Count c.args.pictures) n (g.E.Sink.held c.args.notes.now) (g.E.Sink.held c.put_note.new.notes) (Rose (g.E.Sink.faults c.args.notes.now) (g.E.Sink.faults c.put_note.new.notes)))
    (c.as_slice.ensures.value ∙ c.in-Ok.ensures) c.put_note.ensures.told

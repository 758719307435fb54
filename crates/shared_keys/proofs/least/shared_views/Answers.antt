use Rattle.std.proofs.Common.{◌≡◌, ◌∙◌, sym, ap, map}
use Rattle.shared_keys.specs.Marks.{shared_seen}
use Rattle.shared_keys.specs.Steps.{steps_of, leasts_of}
use Rattle.shared_keys.proofs.Leasts.{leasts-are}
use Rattle.shared_keys.proofs.least.shared_views.Goals as goal

pub returns : goal.returns
returns c = λ views encoders own.
    let steps : map shared_seen c.in_ok-steps.steps.items ≡ steps_of c.sort.new.marks.items = c.in_ok-steps.ensures ∙ ap steps_of c.deref.ensures.value in
    let kept : map shared_seen c.in_ok-kept.kept.items ≡ leasts_of (map shared_seen c.in_ok-steps.steps.items) = c.in_ok-kept.ensures ∙ ap (λ xs. leasts_of (map shared_seen xs)) c.deref-2.ensures.value in
    kept ∙ ap leasts_of steps ∙ sym (leasts-are c.args.marks.items c.sort.new.marks.items c.in_ok-sort.ensures.same c.in_ok-sort.ensures.order views encoders own)

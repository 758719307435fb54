use Rattle.std.proofs.Common.{not, ap, sym, ◌∙◌}
use Rattle.std.specs.List.{list_all}
use Rattle.std.proofs.lemmas.List.Folds.{list_all-map}
use Rattle.gfx_model.specs.Resources.{is_over}
use Rattle.resource_book.specs.Stacks.{StackView, waiting_seen}
use Rattle.resource_book.proofs.Overs.{is_later}
use Rattle.resource_book.proofs.stacks.Stack.keeps_all.Goals as goal

pub returns : goal.returns
returns c =
    c.all_later.ensures ∙ ap (list_all (λ w. not (is_over c.args.latency c.args.frame w.death))) c.deref.ensures.value
    ∙ sym (list_all-map (is_later c.args.latency c.args.frame) waiting_seen c.self.inside.waiting.items)
    ∙ ap (λ (s : StackView). list_all (is_later c.args.latency c.args.frame) s.waiting) c.self.view_is

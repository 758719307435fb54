use Rattle.std.proofs.Common.{◌≡◌, ◌-◌, ◌<◌, false, List, take, drop, length, slice_index_or, sym, subst, arith}
use Rattle.std.proofs.lemmas.List.{get_or_read}
use Rattle.frame_record.specs.declared.ordering.OrderedItem.{OrderedItem}
use Rattle.frame_record.specs.declared.placing.PlacedBlit.{PlacedBlit}
use Rattle.frame_record.specs.Ordered.{position_of}
use Rattle.render_core.specs.Lists.{IsPart}
use Rattle.render_core.specs.Runs.{RunsFrom}
use Rattle.render_core.proofs.Parts.{part_is}
use Rattle.render_core.proofs.Runs.{NextRun, next_run}
use Rattle.render_core.proofs.views.next_part.Goals as goal

pub returns : goal.returns
returns c =
    let l = c.args.lists.now in
    let f = c.args.frame.now in
    let a = c.args in
    let drawn = c.end_of_run-drawn_end in
    let copied = c.end_of_blits-copied_end in
    let items : List OrderedItem → Type 0 = λ xs. NextRun position_of a.drawn drawn.result a.position xs in
    let draws : items l.ordered.items =
    subst items c.deref.ensures.value
    (next_run position_of a.drawn drawn.result a.position c.deref.result.now (subst (λ xs. RunsFrom position_of a.drawn a.position xs) (sym c.deref.ensures.value) c.requires.draws)
    drawn.ensures.range.0 drawn.ensures.range.1 drawn.ensures.run drawn.ensures.end) in
    let copies : List PlacedBlit → Type 0 = λ xs. NextRun (λ p. p.position) a.copied copied.result a.position xs in
    let blits : copies l.blits.items =
    subst copies c.deref-2.ensures.value
    (next_run (λ p. p.position) a.copied copied.result a.position c.deref-2.result.now
    (subst (λ xs. RunsFrom (λ p. p.position) a.copied a.position xs) (sym c.deref-2.ensures.value) c.requires.blits)
    copied.ensures.range.0 copied.ensures.range.1 copied.ensures.run copied.ensures.end) in
    let within : a.view < length l.entered.items = omega (arith, c.requires.view.0, c.requires.listed.entered.many) in
    let entered : c.index.result.now ≡ slice_index_or l.entered.items a.view false = get_or_read l.entered.items a.view c.index.result.now within c.index.ensures false in
    let part = part_is f l a.view a.position c.index.result.now a.drawn drawn.result a.copied copied.result c.requires.listed c.requires.view.0 c.requires.view.1 entered draws blits in
    record {
      part = subst (λ (xs : List PlacedBlit). IsPart f a.view c.index.result.now (take (copied.result - a.copied) (drop a.copied xs)) (take (drawn.result - a.drawn) (drop a.drawn c.deref-4.result.now)))
          (sym c.deref-3.ensures.value)
          (subst (λ (xs : List OrderedItem). IsPart f a.view c.index.result.now (take (copied.result - a.copied) (drop a.copied l.blits.items)) (take (drawn.result - a.drawn) (drop a.drawn xs)))
          (sym c.deref-4.ensures.value) part);
      draws = draws.next;
      blits = blits.next;
    }

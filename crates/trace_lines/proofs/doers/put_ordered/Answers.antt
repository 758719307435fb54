use Rattle.std.proofs.Common.{◌≡◌, ◌++◌, ◌∷◌, [], map, sym, ap, ◌∙◌}
use Rattle.frame_record.specs.Seen.{entry_seen}
use Rattle.frame_record.specs.declared.ordering.OrderedItem.{OrderedItem}
use Rattle.trace_laws.proofs.Lists.{grows, map-more}
use Rattle.trace_lines.proofs.doers.put_ordered.Goals as goal

pub loop-item-preserved : goal.loop-item-preserved
loop-item-preserved c =
    grows (map (λ (o : OrderedItem). entry_seen o.entry)) (map entry_seen c.args.entries.now.items) (map entry_seen c.loop-item.entries.items) (map entry_seen c.push.new.self.items)
    c.args.ordered.now c.loop-item.item-index c.item-item.result (map-more (λ (o : OrderedItem). entry_seen o.entry))
    c.loop-item-test.true (sym c.item-item.is) c.loop-item.invariant
    (ap (map entry_seen) c.in_ok-push.ensures.items ∙ map-more entry_seen c.loop-item.entries.items (c.item-item.result.entry ∷ []))

use Rattle.std.proofs.Common.{◌≡◌, ◌++◌, List, map, filter, ap, ◌∙◌}
use Rattle.std.proofs.lemmas.List.Elements.{filter-append}
use Rattle.gfx_model.specs.World.{is_of_view}
use Rattle.gfx_words.specs.declared.journal.JournalEntry.{JournalEntry}
use Rattle.frame_record.specs.Seen.{entry_seen, recordings_seen}
use Rattle.trace_laws.specs.Doers.{has_in, item_doer}
use Rattle.trace_laws.proofs.Lists.{grows-at, map-more}
use Rattle.trace_lines.specs.Seen.{doer_seen}
use Rattle.trace_lines.proofs.doers.put_items.Goals as goal

pub loop-entry-preserved : goal.loop-entry-preserved
loop-entry-preserved c =
    let p = has_in (is_of_view c.args.view) (recordings_seen c.args.frame.now.recordings.items) in
    let d : JournalEntry = record { encoder = 0; ordinal = 0 } in
    grows-at (λ es. map (item_doer c.args.view) (filter p (map entry_seen es))) (map doer_seen c.args.doers.now.items) (map doer_seen c.loop-entry.doers.items) (map doer_seen c.put_item.new.doers.items)
    c.args.entries.now c.loop-entry.entry-index d
    (λ ys zs. ap (λ es. map (item_doer c.args.view) (filter p es)) (map-more entry_seen ys zs) ∙ ap (map (item_doer c.args.view)) (filter-append p (map entry_seen ys) (map entry_seen zs)) ∙ map-more (item_doer c.args.view) (filter p (map entry_seen ys)) (filter p (map entry_seen zs)))
    c.loop-entry-test.true c.loop-entry.invariant c.in_ok-put_item.ensures

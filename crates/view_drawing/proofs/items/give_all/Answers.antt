use Rattle.std.proofs.Common.{ap, take, ◌∙◌}
use Rattle.std.specs.Prelude.{option_map}
use Rattle.gfx_model.specs.Frames.{item_of_entry}
use Rattle.store_laws.specs.Listed.{values_after}
use Rattle.frame_record.specs.Seen.{entry_seen, recordings_seen}
use Rattle.view_drawing.specs.Entries.{found_seen, items_of}
use Rattle.view_drawing.proofs.Entries.{items_more}
use Rattle.view_drawing.proofs.Folds.{fold_more}
use Rattle.view_drawing.proofs.items.give_all.Goals as goal

pub loop-one-preserved : goal.loop-one-preserved
loop-one-preserved c =
    let a = c.args in
    let l = c.loop-one in
    let rs = recordings_seen a.frame.now.recordings.items in
    let found = option_map found_seen c.item.result in
    fold_more values_after a.buffers.now l.buffers c.give_found.new.buffers (items_of a.frame.now (take l.one-index a.items.now)) _ found
    (items_more rs (λ o. entry_seen o.entry) a.items.now l.one-index c.one-item.result c.loop-one-test.true found (c.item.ensures.content ∙ ap (λ o. item_of_entry rs (entry_seen o.entry)) c.one-item.is))
    l.invariant c.give_found.ensures

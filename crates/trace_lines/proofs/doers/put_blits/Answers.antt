use Rattle.std.proofs.Common.{◌≡◌, ◌++◌, List, map, filter, ap, ◌∙◌, take, length, subst, arith}
use Rattle.std.proofs.lemmas.List.{take_all}
use Rattle.std.proofs.lemmas.List.Elements.{filter-append}
use Rattle.gfx_model.specs.World.{is_blit}
use Rattle.gfx_words.specs.declared.journal.JournalEntry.{JournalEntry}
use Rattle.frame_record.specs.Seen.{entry_seen, recordings_seen}
use Rattle.trace_laws.specs.Doers.{has_in}
use Rattle.trace_laws.proofs.Lists.{grows-at, map-more}
use Rattle.trace_lines.proofs.doers.put_blits.Goals as goal

pub loop-entry-preserved : goal.loop-entry-preserved
loop-entry-preserved c =
    let p = has_in is_blit (recordings_seen c.args.frame.now.recordings.items) in
    let d : JournalEntry = record { encoder = 0; ordinal = 0 } in
    grows-at (λ es. filter p (map entry_seen es)) (map entry_seen c.args.entries.now.items) (map entry_seen c.loop-entry.entries.items) (map entry_seen c.put_blit.new.entries.items)
    c.args.journal.now c.loop-entry.entry-index d (λ ys zs. ap (filter p) (map-more entry_seen ys zs) ∙ filter-append p (map entry_seen ys) (map entry_seen zs))
    c.loop-entry-test.true c.loop-entry.invariant c.in_ok-put_blit.ensures

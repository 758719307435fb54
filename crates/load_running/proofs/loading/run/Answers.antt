use Rattle.std.proofs.Common.{map, ap, sym, ◌∙◌}
use Rattle.load_text.specs.Text.{load_of}
use Rattle.load_text.specs.Seen.{block_seen}
use Rattle.load_running.proofs.Ends.{ok_blocks, noted_ended}
use Rattle.load_running.proofs.loading.run.Goals as goal

pub returns-in-Ok-read_load-clause-ended : goal.returns-in-Ok-read_load-clause-ended
returns-in-Ok-read_load-clause-ended g c =
    let is = ap load_of (sym c.deref.ensures.value) ∙ c.in-Ok-read_load.ensures ∙ ap ok_blocks (sym c.deref-in-Ok-read_load.ensures.value) in
    let law = c.load_law.ensures c.in-Ok.bytes.items (map block_seen c.deref-in-Ok-read_load.result.now) is in
    noted_ended c.note_blocks.result c.in-Ok.bytes.items (map block_seen c.deref-in-Ok-read_load.result.now) _ _ _ _ _ _
    (record {
      read = record { given = c.in-Ok.ensures.bytes; ended = c.in-Ok.ensures.ended; few = c.in-Ok.ensures.few };
      is = is;
      count = law.0;
      callers = law.1;
      are = law.2;
    })
    c.note_blocks.ensures.noted

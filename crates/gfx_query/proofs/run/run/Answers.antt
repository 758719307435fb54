use Rattle.std.proofs.Common.{ap, sym, ◌∙◌}
use Rattle.gfx_query.specs.Text.{script_of}
use Rattle.gfx_query.specs.Seen.{script_seen}
use Rattle.gfx_query.proofs.Ends.{noted_ended}
use Rattle.gfx_query.proofs.run.run.Goals as goal

pub returns-in-Ok-read_script-clause-ended : goal.returns-in-Ok-read_script-clause-ended
returns-in-Ok-read_script-clause-ended g c =
    noted_ended c.note_script.result c.in-Ok.bytes.items (script_seen c.in-Ok-read_script.script) _ _ _ _ _ _
    (record {
      read = record { given = c.in-Ok.ensures.bytes; ended = c.in-Ok.ensures.ended; few = c.in-Ok.ensures.few };
      is = ap script_of (sym c.deref.ensures.value) ∙ c.in-Ok-read_script.ensures;
    })
    c.note_script.ensures.noted

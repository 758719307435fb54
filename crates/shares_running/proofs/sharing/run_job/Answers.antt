use Rattle.std.proofs.Common.{ap, sym, ◌∙◌}
use Rattle.scene_model.specs.Grammar.{whole_language, scene_of}
use Rattle.scene_text.specs.Seen.{scene_seen}
use Rattle.shares_running.proofs.Ends.{noted_ended}
use Rattle.shares_running.proofs.sharing.run_job.Goals as goal

pub returns-in-Ok-read-clause-ended : goal.returns-in-Ok-read-clause-ended
returns-in-Ok-read-clause-ended g c =
    noted_ended c.args.job c.note_scene.result c.in-Ok.bytes.items (scene_seen c.in-Ok-read.scene) _ _ _ _ _ _
    (record {
      read = record { given = c.in-Ok.ensures.bytes; ended = c.in-Ok.ensures.ended; few = c.in-Ok.ensures.few };
      is = ap (scene_of whole_language) (sym c.deref.ensures.value) ∙ c.in-Ok-read.ensures.exact;
    })
    (rw c.deref-in-Ok-read.ensures.value at c.note_scene.ensures.noted)

use Rattle.std.proofs.Common.{refl, ap, ◌∙◌, map}
use Rattle.scene_model.specs.Fold.{lines_of}
use Rattle.scene_text.specs.Seen.{encoder_line_seen, block_seen, frame_seen, scene_seen, room_seen}
use Rattle.scene_playing.proofs.Jobs.{ready_when_begun}
use Rattle.scene_playing.proofs.beginning.begin.Goals as goal

pub new-requires : goal.new-requires
new-requires g c =
    let s = scene_seen c.args.scene.now in
    let k = c.args.context.now.book.resources.frame in
    let f = frame_seen c.args.frame.now in
    record {
      ready = ready_when_begun g.C.Naming.admits g.C.Naming.views s k f c.args.names.now.value.items (room_seen c.args.scene.now.room) c.args.context.now c.begin.new.self
          (record { encoder = c.in-Ok-begin.encoder; lines = map encoder_line_seen c.block_lines-lines.result.now; names = c.in-Ok.theirs.value.items })
          c.requires.admits c.tell_facts.ensures.keeps c.requires.views refl c.requires.more c.requires.bounded refl
          c.requires.recording (c.given_law.ensures.lawful s k f c.requires.recording.there) (c.given_law.ensures.given s k f c.requires.recording.there) (c.plan_law.ensures.plan s k f c.requires.recording.there)
          c.in-Ok-begin.ensures (c.block_lines-lines.ensures ∙ (λ i. lines_of (c.begun-number.ensures i) (map block_seen (c.as_slice.ensures i)))) (ap (λ v. v.items) c.in-Ok.ensures);
    }

use Rattle.std.proofs.Common.{map, ap, ◌∙◌}
use Rattle.gfx_words.specs.Seen.{entry_seen}
use Rattle.scene_text.specs.Seen.{scene_seen}
use Rattle.scene_playing.specs.Frames.{note_seen}
use Rattle.scene_playing.proofs.FrameLaws.{none_played}
use Rattle.scene_playing.proofs.frames.nothing.Goals as goal

pub returns-clause-played : goal.returns-clause-played
returns-clause-played g c =
    none_played (scene_seen c.args.scene.now) c.lawful_law.ensures.none c.frames_law.ensures.none c.requires.bounded.some_frame _ _ _ _ c.requires.none.0 c.requires.none.1 (ap (map (map entry_seen)) c.new.ensures) (ap (map note_seen) c.new-2.ensures.items)

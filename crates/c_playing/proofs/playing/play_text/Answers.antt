use Rattle.c_playing.proofs.Plays.{shown_out, no_scene}
use Rattle.c_playing.proofs.playing.play_text.Goals as goal

pub returns-in-Done : goal.returns-in-Done
returns-in-Done c =
    let played = c.play_bytes_here-played in
    shown_out c.args.text.now _ played.result.status c.new-shown.result.bytes.items played.result.pictures.bytes.items c.new-notes.result.bytes.items played.new.notes.bytes.items
    c.bytes.result.now c.bytes-in-Done.result.now _ _ _ _ c.hand_out.result _ _ _ _ c.in-Done.is c.new-shown.ensures.0 c.new-notes.ensures.0 (played.ensures.answered 0) c.bytes.ensures c.bytes-in-Done.ensures c.hand_out.ensures

pub returns-in-Scene : goal.returns-in-Scene
returns-in-Scene c =
    let played = c.play_bytes_here-played in
    no_scene c.args.text.now _ c.in-Scene.line c.in-Scene.cause played.result.status _ _ c.in-Scene.is (played.ensures.answered 0) _ _

use Rattle.std.proofs.Common.{map, sym, ◌∙◌}
use Rattle.scene_text.specs.Seen.{journal_seen, scene_seen}
use Rattle.scene_playing.specs.Frames.{note_seen}
use Rattle.scene_showing.proofs.Pictures.{Laws}
use Rattle.scene_showing.specs.Showing.{end_of}
use Rattle.scene_showing.proofs.Shown.{shows}
use Rattle.scene_showing.proofs.Orders.{none_front, lawful_done, whole_serial}
use Rattle.scene_showing.proofs.here.show_by.Goals as goal

pub returns-in-Ok : goal.returns-in-Ok
returns-in-Ok g c =
    let r = c.in-Ok.rendered in
    let laws : Laws = record {
      texts = c.texts_law.ensures;
      kept = c.kept_law.ensures;
      scene_pictures = c.scene_pictures_law.ensures;
      colors = c.colors_law.ensures;
      pictures_front = c.front_law.ensures.pictures;
      picture_count = c.front_law.ensures.count;
      lawful_count = c.lawful_law.ensures.count;
      plan_count = c.plan_law.ensures.count;
    } in
    let left = shows laws (scene_seen c.args.scene.now) c.requires.readable c.requires.bounded (journal_seen r.journal) (map note_seen r.notes.items) r.outcome r.is_whole _ _ c.requires.new c.in-Ok.ensures.shown in
    let same = c.of_rendered.ensures in
    record {
      shown = rw (same.end, same.same.0, same.sink) left.0.0;
      counted = rw (same.end, same.same.0, same.same.1, same.sink) left.0.1;
      sure = rw same.sink left.1;
      no_fewer = rw same.sink left.2;
      whole = λ e. rw same.same.0 (whole_serial (scene_seen c.args.scene.now) (journal_seen r.journal) (c.plan_law.ensures.count (scene_seen c.args.scene.now)) c.in-Ok.ensures.front
          (lawful_done (end_of r.outcome r.is_whole) (scene_seen c.args.scene.now) (journal_seen r.journal) (g.P.Sink.held c.args.renderer.sink) (g.P.Sink.held r.renderer.sink) (g.P.Sink.faults c.args.renderer.sink) (g.P.Sink.faults r.renderer.sink) (sym same.end ∙ e) left.0.0));
      front = rw same.same.0 c.in-Ok.ensures.front;
    }

pub returns-in-Err-clause-front : goal.returns-in-Err-clause-front
returns-in-Err-clause-front g c = none_front (scene_seen c.args.scene.now) _ c.nothing.ensures.journal

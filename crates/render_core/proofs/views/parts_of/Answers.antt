use Rattle.std.proofs.Common.{◌<◌, length, map, arith}
use Rattle.std.specs.List.{list_any}
use Rattle.gfx_model.specs.World.{is_of_view}
use Rattle.view_drawing.specs.Passes.{part_seen}
use Rattle.trace_laws.specs.ByIndex.{deeds_in_view}
use Rattle.frame_tracing.specs.Tracing.{deeds_of_parts}
use Rattle.render_core.specs.Seen.{frame_seen}
use Rattle.render_core.specs.ViewParts.{part_of}
use Rattle.trace_laws.proofs.Lists.{lists-turn}
use Rattle.render_core.proofs.Turns.{map_turn}
use Rattle.render_core.proofs.views.parts_of.Goals as goal

pub loop-position-preserved : goal.loop-position-preserved
loop-position-preserved c =
    let f = frame_seen c.args.frame.now in
    let i = c.loop-position in
    let v = c.view_at-view in
    let within : i.position < length f.sequence = omega (arith, c.loop-position-test.true, c.count-position-end.ensures.same, c.tell_facts.ensures.ordered) in
    record {
      draws = c.next_part-part.ensures.draws;
      blits = c.next_part-part.ensures.blits;
      deeds = lists-turn (deeds_in_view f.views f.items f.ordered) (λ n. list_any (is_of_view n) f.items) f.sequence i.position v.result (deeds_of_parts (map part_seen i.parts.items)) (deeds_of_parts (map part_seen c.put_where.new.parts.items))
          within v.ensures.view i.invariant.deeds c.in_ok-put_where.ensures.deeds;
      parts = map_turn (part_of f) (λ n. list_any (is_of_view n) f.items) f.sequence i.position v.result (map part_seen i.parts.items) (map part_seen c.put_where.new.parts.items)
          within v.ensures.view i.invariant.parts c.in_ok-put_where.ensures.parts;
      plain = c.in_ok-put_where.ensures.plain i.invariant.plain;
    }

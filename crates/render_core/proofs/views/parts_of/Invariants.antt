use Rattle.std.specs.Prelude.{flat_map}
use Rattle.trace_laws.specs.ByIndex.{deeds_in_view}
use Rattle.frame_tracing.specs.Tracing.{deeds_of_parts}
use Rattle.std.proofs.Common.{◌≡◌, map, take, filter}
use Rattle.std.specs.List.{list_any, AllByRecursion}
use Rattle.gfx_model.specs.World.{is_of_view}
use Rattle.frame_record.specs.Ordered.{position_of}
use Rattle.view_drawing.specs.Passes.{part_seen, IsPlain}
use Rattle.render_core.specs.Runs.{RunsFrom}
use Rattle.render_core.specs.Seen.{frame_seen}
use Rattle.render_core.specs.ViewParts.{part_of}
use Rattle.render_core.proofs.views.parts_of.Given as goal

abbrev pub invariant-loop-position : goal.invariant-loop-position
invariant-loop-position l =
    let f = frame_seen l.frame in record {
      draws : RunsFrom position_of l.drawn l.position l.lists.ordered.items;
      blits : RunsFrom (λ p. p.position) l.copied l.position l.lists.blits.items;
      deeds : deeds_of_parts (map part_seen l.parts.items) ≡ flat_map (deeds_in_view f.views f.items f.ordered) (filter (λ v. list_any (is_of_view v) f.items) (take l.position f.sequence));
      parts : map part_seen l.parts.items ≡ map (part_of f) (filter (λ v. list_any (is_of_view v) f.items) (take l.position f.sequence));
      plain : AllByRecursion IsPlain (map part_seen l.parts.items);
    }

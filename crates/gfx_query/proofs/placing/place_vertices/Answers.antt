use Rattle.std.proofs.Common.{◌≡◌, ℕ, ◌+◌, ◌∷◌, [], length, ap, ◌∙◌, arith}
use Rattle.std.proofs.lemmas.List.{length-append}
use Rattle.std.specs.Prelude.{option_map}
use Rattle.gfx_model.specs.Vertex.{fetch}
use Rattle.fix_math.specs.Seen.{affine_seen}
use Rattle.tri_cover.specs.Seen.{screen_seen}
use Rattle.gfx_query.specs.Draws.{position_layout, instance_vertex}
use Rattle.gfx_query.proofs.Triangles.{more}
use Rattle.gfx_query.proofs.placing.place_vertices.Goals as goal

pub loop-number-preserved : goal.loop-number-preserved
loop-number-preserved c =
    let p = instance_vertex c.args.sides.now.width c.args.sides.now.height (affine_seen c.args.model.now) in
    let start : c.loop-number.number ≡ 0 + c.loop-number.number = omega arith in
    record {
      placed = more (option_map screen_seen) p (λ (k : ℕ). fetch position_layout c.args.bytes.now k) 0 c.loop-number.number
          c.loop-number.placed.items c.push_reserved.new.self.items c.instance_vertex.result c.push_reserved.ensures.items
          (c.instance_vertex.ensures ∙ ap p (c.fetch-vertex.ensures ∙ (λ i. fetch (c.position_layout-layout.ensures i) c.args.bytes.now (start i)))) c.loop-number.invariant.placed;
      few = omega (arith, ap length c.push_reserved.ensures.items, length-append c.loop-number.placed.items (c.instance_vertex.result ∷ []), c.loop-number.invariant.few);
      len = c.push_reserved.ensures.len ∙ ap (λ n. n + 1) c.loop-number.invariant.len;
      room = c.push_reserved.ensures.capacity ∙ c.loop-number.invariant.room;
    }

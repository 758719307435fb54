use Rattle.std.proofs.Common.{map, ap, sym, refl, ◌∙◌}
use Rattle.std.specs.Prelude.{◌&&◌, option_and_then}
use Rattle.gfx_model.specs.Words.{cull_of, primitive_of}
use Rattle.gfx_model.specs.Vertex.{triangles_of}
use Rattle.gfx_model.specs.Raster.{contains, passes_scissor, view_rect, place}
use Rattle.gfx_model.specs.World.{draw_vertices}
use Rattle.tri_cover.specs.Shown.{setup_seen}
use Rattle.int_raster.specs.Drawing.{facing_shown}
use Rattle.view_table.specs.Seen.{view_seen}
use Rattle.draw_encoder.specs.Seen.{draw_seen}
use Rattle.store_laws.specs.ByIndex.{vertices_at, indices_at}
use Rattle.view_drawing.specs.Shapes.{kept_of}
use Rattle.view_drawing.proofs.Facings.{facings_kept}
use Rattle.view_drawing.proofs.PreparedLaws.{facings_seen}
use Rattle.view_drawing.proofs.preparing.prepare.Goals as goal

pub returns : goal.returns
returns c sets =
    let view = view_seen c.args.stage.now.view.now in
    let width = c.args.stage.now.width in
    let height = c.args.stage.now.height in
    let d = draw_seen c.args.recorded.now sets c.args.draw.now in
    let vs = draw_vertices (vertices_at c.args.buffers.now d.vertices) (indices_at c.args.buffers.now d.indices) in
    let rect = view_rect view.rect width height in
    record {
      paint_is = refl;
      state_is = refl;
      cut_is = λ x y. c.draw_cut-cut.ensures.pixels x y ∙ (λ i. contains (c.view_rect-rect.ensures i) x y && passes_scissor view.scissor x y && passes_scissor d.scissor x y);
      facings_are = sym (facings_seen d.front d.back c.shape_draw.new.room.triangles.items)
          ∙ ap (map (facing_shown d.front d.back)) c.in_ok-shape_draw.ensures
          ∙ (λ i. map (facing_shown d.front d.back) (kept_of (cull_of d.state) (triangles_of (primitive_of d.state) (map (option_and_then (place d.model view.transform (c.view_rect-rect.ensures i))) vs))))
          ∙ facings_kept view rect d vs;
    }

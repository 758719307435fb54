use Rattle.std.proofs.Common.{◌&&◌, ℕ, true, cond, ap, ◌∙◌}
use Rattle.gfx_model.specs.Raster.{contains, view_rect}
use Rattle.trace_laws.specs.History.{Stroke, clear_stroke}
use Rattle.view_table.specs.Seen.{view_seen}
use Rattle.frame_blame.specs.Marks.{mark_at, mark_after}
use Rattle.frame_blame.proofs.Draws.{clear-same}
use Rattle.frame_blame.proofs.deeds.Table.paint_clear.Goals as goal

pub returns-clause-painted : goal.returns-clause-painted
returns-clause-painted c =
    let a = c.args in
    let w : ℕ = a.self.now.width in
    let view = view_seen a.view.now in
    let s : Stroke = clear_stroke view.clear in
    record {
      many = c.paint.ensures.painted.many;
      each = λ x y hx hy.
          c.paint.ensures.painted.each x y hx hy
          ∙ ap (λ r. cond (contains r x y && true) (mark_after a.number (mark_at w a.self.now.marks.items x y) s) (mark_at w a.self.now.marks.items x y)) c.view_rect.ensures
          ∙ clear-same a.number (mark_at w a.self.now.marks.items x y) s (contains (view_rect view.rect a.stores.now.back.color.width a.stores.now.back.color.height) x y);
    }

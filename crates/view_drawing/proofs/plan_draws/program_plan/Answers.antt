use Rattle.std.proofs.Common.{Some, ap, sym, ◌∙◌}
use Rattle.gfx_model.specs.World.{paint_sample, paint_product}
use Rattle.gfx_words.specs.Seen.{program_seen}
use Rattle.store_laws.specs.ByIndex.{paint_at}
use Rattle.draw_encoder.specs.Seen.{draw_seen}
use Rattle.view_drawing.proofs.plan_draws.program_plan.Goals as goal

pub returns-in-Texture : goal.returns-in-Texture
returns-in-Texture c t bytes sets =
    ap (λ o. Some (paint_sample o)) (c.sampled_index.ensures t bytes sets)
    ∙ ap (λ k. paint_at c.args.buffers.now t (draw_seen bytes sets c.args.draw.now) (Some (program_seen k))) (sym c.in-Texture.is)

pub returns-in-TexColor : goal.returns-in-TexColor
returns-in-TexColor c t bytes sets =
    ap (λ o. Some (paint_product o)) (c.sampled_index-in-TexColor.ensures t bytes sets)
    ∙ ap (λ k. paint_at c.args.buffers.now t (draw_seen bytes sets c.args.draw.now) (Some (program_seen k))) (sym c.in-TexColor.is)

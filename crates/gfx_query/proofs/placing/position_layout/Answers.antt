use Rattle.std.proofs.Common.{◌≡◌, Ok, [], refl, sym, subst, ◌∙◌}
use Rattle.std.specs.Result.{IsOk}
use Rattle.gfx_query.specs.Draws.{position_layout}
use Rattle.gfx_query.proofs.Triangles.{position_is, position_parts, ok_same}
use Rattle.gfx_query.proofs.placing.position_layout.Goals as goal

pub unwrap-requires : goal.unwrap-requires
unwrap-requires c =
    let ended : c.end.result ≡ Ok position_layout = position_is _ _ (c.end.ensures position_parts (c.add.ensures [] c.new-builder.ensures)) in
    subst IsOk (sym ended) refl

pub returns : goal.returns
returns c =
    let ended : c.end.result ≡ Ok position_layout = position_is _ _ (c.end.ensures position_parts (c.add.ensures [] c.new-builder.ensures)) in
    ok_same _ _ (sym c.unwrap.ensures ∙ ended)

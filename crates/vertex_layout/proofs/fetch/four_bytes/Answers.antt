use Rattle.std.proofs.Common.{[], ◌∷◌, ◌∙◌, ◌≡◌, arith}
use Rattle.gfx_model.specs.Vertex.{byte_or, components_at}
use Rattle.vertex_layout.specs.Placed.{placed_seen}
use Rattle.vertex_layout.proofs.FetchLaws.{byte_is}
use Rattle.vertex_layout.proofs.fetch.four_bytes.Goals as goal

pub returns : goal.returns
returns c =
    let a = placed_seen c.args.placed.now in
    let zs = components_at a c.args.bytes.now c.args.at in
    let r : c.byte_at.result ≡ byte_or 0 zs 0 = c.byte_at.ensures ∙ byte_is 0 a c.args.bytes.now c.args.at 0 _ c.requires.kind (omega (arith, c.requires.four)) (omega arith) in
    let g : c.byte_at-2.result ≡ byte_or 0 zs 1 = c.byte_at-2.ensures ∙ byte_is 0 a c.args.bytes.now c.args.at 1 _ c.requires.kind (omega (arith, c.requires.four)) (omega arith) in
    let b : c.byte_at-3.result ≡ byte_or 0 zs 2 = c.byte_at-3.ensures ∙ byte_is 0 a c.args.bytes.now c.args.at 2 _ c.requires.kind (omega (arith, c.requires.four)) (omega arith) in
    let l : c.byte_at-4.result ≡ byte_or 255 zs 3 = c.byte_at-4.ensures ∙ byte_is 255 a c.args.bytes.now c.args.at 3 _ c.requires.kind (omega (arith, c.requires.four)) (omega arith) in
    (λ i. r i ∷ g i ∷ b i ∷ l i ∷ [])

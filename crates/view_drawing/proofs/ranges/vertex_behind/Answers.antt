use Rattle.std.proofs.Common.{◌≡◌, ◌*◌, ◌-◌, ◌≤◌, take, drop, length, arith, ap, ◌∙◌, sym}
use Rattle.std.proofs.lemmas.List.{take_all, length-drop}
use Rattle.gfx_model.specs.Vertex.{fetch}
use Rattle.view_drawing.proofs.Fetches.{fetch_behind}
use Rattle.view_drawing.proofs.ranges.vertex_behind.Goals as goal

pub returns : goal.returns
returns c =
    let layout = c.args.layout.now in
    let bytes = c.args.bytes.now in
    let from = c.args.first * c.stride.result in
    let le : c.args.first * c.stride.result ≤ length c.args.bytes.now = omega (arith, c.if-from-bytes.false) in
    let fits : c.args.first * layout.stride ≤ length c.args.bytes.now = rw (sym c.stride.ensures) le in
    let rest : take (length bytes - from) (drop from bytes) ≡ drop from bytes = take_all (length bytes - from) (drop from bytes) (omega (arith, length-drop from bytes)) in
    c.fetch.ensures
    ∙ ap (λ bs. fetch layout bs c.args.number) rest
    ∙ (λ i. fetch layout (drop (c.args.first * c.stride.ensures i) bytes) c.args.number)
    ∙ fetch_behind layout bytes c.args.first c.args.number fits

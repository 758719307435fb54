use Rattle.std.proofs.Common.{rules, ◌≡◌, sym, ◌∙◌, FitsSigned, w32}
use Rattle.std.proofs.lemmas.Int.{to_z-of_z}
use Rattle.gfx_model.specs.Raster.{identity, apply}
use Rattle.fix_math.specs.Seen.{point_seen, rect_seen}
use Rattle.vertex_layout.specs.Seen.{vertex_seen}
use Rattle.tri_cover.proofs.Stills.{still_place}
use Rattle.tri_cover.proofs.placing.place_still.Goals as goal

pub returns : goal.returns
returns c =
    let p = c.args.vertex.now.position in
    let x : FitsSigned w32 p.x = search rules in
    let y : FitsSigned w32 p.y = search rules in
    let z : FitsSigned w32 p.z = search rules in
    let same : apply identity (point_seen p) ≡ point_seen p = simp to_z-of_z at c.tell_still.ensures in
    c.placed.ensures ∙ sym (still_place (vertex_seen c.args.vertex.now) (rect_seen c.args.rect) same)

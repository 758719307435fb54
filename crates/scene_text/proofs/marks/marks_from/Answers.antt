use Rattle.std.proofs.Common.{ℕ, leb, cond, refl}
use Rattle.std.proofs.lemmas.Simd.{zip2_splat, splat_is_map, zip2_of_maps, length-chunk}
use lib.Lanes.{chunk}
use Rattle.scene_text.proofs.CutLines.{marked}
use Rattle.scene_text.proofs.marks.marks_from.Goals as goal

pub returns : goal.returns
returns c =
    let v = chunk c.args.from 32 c.args.bytes.now in
    let long = length-chunk c.args.from 32 c.args.bytes.now c.requires in
    marked c.args.bytes.now c.args.from _ _ _ c.requires c.type_inv.bytes refl
    (zip2_of_maps (λ a b. cond (leb a b) 255 0) _ _ v (splat_is_map v 32 94 long) (zip2_splat {Y = ℕ} _ v 32 33 long)) refl

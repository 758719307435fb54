use Rattle.std.proofs.Common.{rules, ◌≡◌, pos, ◌-ℤ◌, ◌*ℤ◌, FitsSigned, w32, w64, refl}
use Rattle.std.proofs.lemmas.Int.{to_z-of_z}
use Rattle.tri_cover.specs.Seen.{screen_seen}
use Rattle.tri_cover.specs.Columns.{base_of}
use Rattle.tri_cover.proofs.edges.edge_between.Goals as goal

pub returns-clause-edge : goal.returns-clause-edge
returns-clause-edge c =
    let px : FitsSigned w32 c.args.p.now.x = search rules in
    let py : FitsSigned w32 c.args.p.now.y = search rules in
    let qx : FitsSigned w32 c.args.q.now.x = search rules in
    let qy : FitsSigned w32 c.args.q.now.y = search rules in
    let f1 : FitsSigned w64 c.less-base.result = search rules in
    let f2 : FitsSigned w64 c.difference-rise.result = search rules in
    let f3 : FitsSigned w64 c.difference-fall.result = search rules in
    let f4 : FitsSigned w64 c.product.result = search rules in
    let f5 : FitsSigned w64 c.product-2.result = search rules in
    let f6 : FitsSigned w64 c.difference.result = search rules in
    let f7 : FitsSigned w64 c.difference-2.result = search rules in
    let f8 : FitsSigned w64 c.lost_by.result = search rules in
    let rise : c.difference-rise.result ≡ c.args.q.now.x -ℤ c.args.p.now.x = simp to_z-of_z at c.difference-rise.ensures.value in
    let fall : c.difference-fall.result ≡ c.args.q.now.y -ℤ c.args.p.now.y = simp to_z-of_z at c.difference-fall.ensures.value in
    let down : c.difference.result ≡ pos 128 -ℤ c.args.p.now.y = simp to_z-of_z at c.difference.ensures.value in
    let right : c.difference-2.result ≡ pos 128 -ℤ c.args.p.now.x = simp to_z-of_z at c.difference-2.ensures.value in
    let first : c.product.result ≡ c.difference-rise.result *ℤ c.difference.result = simp to_z-of_z at c.product.ensures.value in
    let second : c.product-2.result ≡ c.difference-fall.result *ℤ c.difference-2.result = simp to_z-of_z at c.product-2.ensures.value in
    let lost = c.lost_by.ensures.value in
    let base : c.less-base.result ≡ c.product.result -ℤ c.product-2.result -ℤ c.lost_by.result = simp to_z-of_z at c.less-base.ensures.value in
    let whole : c.less-base.result ≡ base_of (screen_seen c.args.p.now) (screen_seen c.args.q.now) = rw (base, first, second, rise, fall, down, right, lost) refl in
    record {
      rise = simp to_z-of_z rise;
      fall = simp to_z-of_z fall;
      base = simp to_z-of_z whole;
    }

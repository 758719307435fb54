use Rattle.std.proofs.Common.{rules, ◌≡◌, pos, FitsSigned, w64, to_z, ap, sym, ◌∙◌, arith, ◌&&◌}
use Rattle.std.proofs.lemmas.Int.{to_z-of_z, to_z_pos}
use Rattle.tri_cover.specs.Seen.{is_on_side}
use Rattle.tri_cover.proofs.Cover.{covered_columns, cut_thrice}
use Rattle.tri_cover.proofs.triangles.Setup.columns_of.Goals as goal

pub ends-requires-clause-after : goal.ends-requires-clause-after
ends-requires-clause-after c =
    let f1 : FitsSigned w64 c.cut-first.result.0 = search rules in
    let f2 : FitsSigned w64 c.cut-first-2.result.0 = search rules in
    let f3 : FitsSigned w64 c.cut-first-3.result.0 = search rules in
    let a1 : FitsSigned w64 c.cut-first.result.1 = search rules in
    let a2 : FitsSigned w64 c.cut-first-2.result.1 = search rules in
    let a3 : FitsSigned w64 c.cut-first-3.result.1 = search rules in
    let wide : to_z w64 c.args.width ≡ pos c.args.width = to_z_pos w64 c.args.width (omega arith) in
    simp to_z-of_z
    (cut_thrice (pos c.args.width) c.cut-first.result.0 c.cut-first-2.result.0 c.cut-first-3.result.0 c.cut-first.result.1 c.cut-first-2.result.1 c.cut-first-3.result.1
    (simp to_z-of_z at c.cut-first-2.ensures.first) (simp to_z-of_z at c.cut-first-3.ensures.first) (rw wide at c.cut-first.ensures.after) (simp to_z-of_z at c.cut-first-2.ensures.after) (simp to_z-of_z at c.cut-first-3.ensures.after))

pub returns-clause-columns : goal.returns-clause-columns
returns-clause-columns c x h =
    let f1 : FitsSigned w64 c.cut-first.result.0 = search rules in
    let f2 : FitsSigned w64 c.cut-first-2.result.0 = search rules in
    let f3 : FitsSigned w64 c.cut-first-3.result.0 = search rules in
    let a1 : FitsSigned w64 c.cut-first.result.1 = search rules in
    let a2 : FitsSigned w64 c.cut-first-2.result.1 = search rules in
    let a3 : FitsSigned w64 c.cut-first-3.result.1 = search rules in
    let wide : to_z w64 c.args.width ≡ pos c.args.width = to_z_pos w64 c.args.width (omega arith) in
    let s = c.args.self.now in
    let y = c.args.row in
    let e1 = rw wide at (c.cut-first.ensures.columns x) in
    let e2 = simp to_z-of_z at (c.cut-first-2.ensures.columns x) in
    let e3 = simp to_z-of_z at (c.cut-first-3.ensures.columns x) in
    let e4 = simp to_z-of_z at (c.ends.ensures.columns x) in
    sym (e4 ∙ e3 ∙ ap (λ b. b && is_on_side s.ca y x) (e2 ∙ ap (λ b. b && is_on_side s.bc y x) e1)
    ∙ covered_columns s.ab s.bc s.ca s.a s.b s.c x y c.args.width s.first s.second s.third h)

use Rattle.std.proofs.Common.{◌+◌, ◌&&◌, ap, ◌∙◌}
use Rattle.tri_cover.specs.Seen.{is_on_side}
use Rattle.tri_cover.proofs.Cover.{covered_sides}
use Rattle.tri_cover.proofs.triangles.Setup.bounds.Goals as goal

pub returns-clause-columns : goal.returns-clause-columns
returns-clause-columns c k x h b =
    let s = c.args.self.now in
    let y = c.args.row + k in
    c.put_edge-3.ensures.columns c.if-not-put_edge-3.false k x h b
    ∙ ap (λ v. v && is_on_side s.ca y x) (c.put_edge-2.ensures.columns c.if-not-put_edge-2.false k x h b ∙ ap (λ v. v && is_on_side s.bc y x) (c.put_edge.ensures.columns c.if-not-put_edge.false k x h b ∙ ap (λ v. v && is_on_side s.ab y x) (c.no_bounds-bounds.ensures.columns k x b)))
    ∙ covered_sides s.ab s.bc s.ca s.a s.b s.c x y s.first s.second s.third

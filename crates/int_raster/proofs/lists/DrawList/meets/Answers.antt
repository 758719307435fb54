use Rattle.std.proofs.Common.{◌≡◌, ◌≤◌, ◌<◌, ◌+◌, false, nat_lt, length, slice_index_or, sym, ap, subst, ◌∙◌, arith}
use Rattle.std.proofs.lemmas.Bool.{ltb-false}
use Rattle.std.proofs.lemmas.List.{length-map, get_or-map}
use Rattle.int_raster.specs.Covered.{CoverRows}
use Rattle.int_raster.specs.Drawing.{prepared_step}
use Rattle.int_raster.specs.Listing.{own_triangles, listed_seen}
use Rattle.int_raster.specs.Repainted.{painted_as}
use Rattle.int_raster.proofs.Covered.{listed_none}
use Rattle.int_raster.proofs.lists.DrawList.meets.Goals as goal

pub returns-then-here-bottom : goal.returns-then-here-bottom
returns-then-here-bottom c d paint x y p out low =
    let l = c.index-here.result.now in
    let ds = c.self.inside.draws.items in
    let ts = c.self.inside.triangles.items in
    let rows = c.args.rows.now in
    let inside : c.args.index < length ds = rw (sym (length-map ds (listed_seen ts))) (rw (← c.self.view_is) at c.requires) in
    let seen =
    ap (listed_seen ts) c.index-here.ensures
    ∙ sym (get_or-map (listed_seen ts) ds c.args.index l d inside)
    ∙ ap (λ xs. slice_index_or xs c.args.index d) c.self.view_is in
    let held : CoverRows l.top l.bottom (length (own_triangles ts l)) (own_triangles ts l) =
    subst (λ m. CoverRows m.top m.bottom (length (own_triangles ts m)) (own_triangles ts m)) (sym c.index-here.ensures) (c.self.inside.rows c.args.index l inside) in
    let apart : nat_lt rows.top l.bottom ≡ false = out in
    let far : l.bottom ≤ rows.top = ltb-false rows.top l.bottom apart in
    ap (λ e. prepared_step (painted_as e paint) x (rows.top + y) p) (sym seen) ∙ listed_none l ts paint x (rows.top + y) p held (omega (arith, low, rows.within)) (λ a b. omega (arith, far, b))

pub returns-else-here-bottom : goal.returns-else-here-bottom
returns-else-here-bottom c d paint x y p out low =
    let l = c.index-here.result.now in
    let ds = c.self.inside.draws.items in
    let ts = c.self.inside.triangles.items in
    let rows = c.args.rows.now in
    let inside : c.args.index < length ds = rw (sym (length-map ds (listed_seen ts))) (rw (← c.self.view_is) at c.requires) in
    let seen =
    ap (listed_seen ts) c.index-here.ensures
    ∙ sym (get_or-map (listed_seen ts) ds c.args.index l d inside)
    ∙ ap (λ xs. slice_index_or xs c.args.index d) c.self.view_is in
    let held : CoverRows l.top l.bottom (length (own_triangles ts l)) (own_triangles ts l) =
    subst (λ m. CoverRows m.top m.bottom (length (own_triangles ts m)) (own_triangles ts m)) (sym c.index-here.ensures) (c.self.inside.rows c.args.index l inside) in
    ap (λ e. prepared_step (painted_as e paint) x (rows.top + y) p) (sym seen) ∙ listed_none l ts paint x (rows.top + y) p held (omega (arith, low, rows.within)) (λ a b. omega (arith, a, b, low))

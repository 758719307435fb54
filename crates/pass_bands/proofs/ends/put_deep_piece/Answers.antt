use Rattle.std.proofs.Common.{◌≡◌, Some, option_map, ap, ◌∙◌}
use Rattle.int_raster.specs.Bands.{deep}
use Rattle.pass_bands.specs.Ended.{IsOf}
use Rattle.pass_bands.specs.Rowed.{depths_of}
use Rattle.pass_bands.proofs.ends.put_deep_piece.Goals as goal

pub returns-then-are_same : goal.returns-then-are_same
returns-then-are_same c =
    let p = c.args.piece.now in
    let same = c.are_same.ensures c.if-are_same.true in
    let of : IsOf p c.args.rows.now = record { width = same.0; top = same.1; count = same.2 } in
    let colors : c.copy_from_slice.new.self ≡ p.colors.items = c.copy_from_slice.ensures.after ∙ c.as_slice.ensures.value in
    let depths : c.copy_from_slice-then-are_same.new.self ≡ c.in-Some.drawn.items = c.copy_from_slice-then-are_same.ensures.after ∙ c.as_slice-then-are_same.ensures.value in
    let some : depths_of p ≡ Some c.in-Some.drawn.items = ap (option_map (λ d. d.items)) c.in-Some.is in
    (λ i. deep (colors i) (depths i)) ∙ c.requires.drawn c.in-Some.drawn.items of some

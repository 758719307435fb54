use Rattle.std.proofs.Common.{◌*◌, ◌/◌, ◌%◌, ◌^◌, ◌+◌, ◌≡◌, true, false, if◌then◌else◌, rules, sym, ap, ◌∙◌}
use Rattle.int_raster.proofs.Vectors.{other_depth, same_depth}
use Rattle.int_raster.proofs.tiles.kept_bits.Goals as goal

pub returns-then-writes : goal.returns-then-writes
returns-then-writes c word h =
    let yes : c.args.writes ≡ true = search rules in
    other_depth word c.args.depth h c.requires ∙ ap (λ b. (if b then c.args.depth else word % 2 ^ 24) + 2 ^ 24 * (word / 2 ^ 24)) (sym yes)

pub returns-else-writes : goal.returns-else-writes
returns-else-writes c word h =
    let no : c.args.writes ≡ false = search rules in
    same_depth word h ∙ ap (λ b. (if b then c.args.depth else word % 2 ^ 24) + 2 ^ 24 * (word / 2 ^ 24)) (sym no)

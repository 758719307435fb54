use Rattle.std.proofs.Common.{◌*◌, ◌/◌, ◌%◌, ◌^◌, ◌+◌, ◌≡◌, false, if◌then◌else◌, bit_and, rules, sym, ap, ◌∙◌, arith}
use Rattle.std.proofs.lemmas.Nat.{and_mask}
use Rattle.int_raster.proofs.Vectors.{same_depth}
use Rattle.int_raster.proofs.reaches.stored_bits.Goals as goal

pub returns-else-writes : goal.returns-else-writes
returns-else-writes c new word few h =
    let no : c.args.writes ≡ false = search rules in
    ap (λ n. (bit_and word 4294967295 + n) % 2 ^ 32) (and_mask new 0 ∙ omega arith)
    ∙ same_depth word h ∙ ap (λ b. (if b then new else word % 2 ^ 24) + 2 ^ 24 * (word / 2 ^ 24)) (sym no)

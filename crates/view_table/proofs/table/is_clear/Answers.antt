use Rattle.std.proofs.Common.{◌≡◌, ◌≤◌, ◌<◌, refl, sym, ◌∙◌, arith}
use Rattle.std.specs.Int.RustNames.{bit_and}
use Rattle.std.proofs.lemmas.Bool.{le-leb, lt-leb, cases_lt, both_ways}
use Rattle.std.proofs.lemmas.Nat.{and_mask, and_le_r}
use Rattle.bitflags.proofs.OnLiterals.{bitflags_on_literals}
use mathlib.Core.Logic.{⊎_elim}
use Rattle.view_table.proofs.table.is_clear.Goals as goal

pub returns-then-is_some : goal.returns-then-is_some
unfolding bitflags_on_literals
returns-then-is_some c =
    let known : bit_and c.args.flags 7 ≡ c.args.flags = (c.from_bits.ensures.known tt).0 (sym c.is_some.ensures ∙ c.if-is_some.true) in
    let below : c.args.flags ≤ 7 = omega (arith, known, and_le_r c.args.flags 7) in
    rw (le-leb c.args.flags 7 below) refl

pub returns-else-is_some : goal.returns-else-is_some
unfolding bitflags_on_literals
returns-else-is_some c =
    let above : 7 < c.args.flags
    = ⊎_elim (λ h. h)
    (λ h. absurd (both_ways c.is_some.result c.if-is_some.false
    (c.is_some.ensures ∙ (c.from_bits.ensures.known tt).1 (and_mask c.args.flags 3 ∙ omega (arith, h)))))
    (cases_lt 7 c.args.flags) in
    c.if-is_some.false ∙ rw (lt-leb c.args.flags 7 above) refl

use Rattle.std.proofs.Common.{rules, sym, ◌∙◌, w32}
use Rattle.std.proofs.lemmas.Int.{to_z-of_z}
use Rattle.vertex_layout.specs.Placed.{placed_seen}
use Rattle.vertex_layout.proofs.FetchLaws.{fixed_there, fixed_end, component_gone}
use Rattle.vertex_layout.proofs.fetch.fixed_or_zero.Goals as goal

pub i32_at-requires : goal.i32_at-requires
i32_at-requires c = fixed_end (placed_seen c.args.placed.now) c.args.at c.args.number _ c.requires.kind c.if-number-placed.true c.requires.within

pub returns-then-number-placed : goal.returns-then-number-placed
returns-then-number-placed c =
    to_z-of_z w32 c.i32_at.result (search rules)
    ∙ c.i32_at.ensures
    ∙ sym (fixed_there (placed_seen c.args.placed.now) c.args.bytes.now c.args.at c.args.number c.requires.kind c.if-number-placed.true)

pub returns-else-number-placed : goal.returns-else-number-placed
returns-else-number-placed c = sym (component_gone (placed_seen c.args.placed.now) c.args.bytes.now c.args.at c.args.number c.if-number-placed.false)

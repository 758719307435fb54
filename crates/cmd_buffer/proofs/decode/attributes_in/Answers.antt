use Rattle.std.proofs.Common.{◌≡◌, ◌++◌, ◌∷◌, [], true, cond, sym, ap, ◌∙◌, arith, length-drop}
use Rattle.vertex_layout.specs.Placed.{placed_seen, is_addable}
use Rattle.cmd_buffer.specs.Bytes.{attributes_from}
use Rattle.cmd_buffer.proofs.Again.{attribute_read}
use Rattle.cmd_buffer.proofs.decode.attributes_in.Goals as goal

pub loop-preserved : goal.loop-preserved
loop-preserved c =
    let fits : is_addable (placed_seen c.in-Some.placed) c.loop.attributes ≡ true = sym c.add.ensures.answer ∙ c.if-not-add.false in (
      attribute_read c.args.n c.loop.counter c.loop.attributes c.add.new.self c.loop.rest.now c.behind_four-rest.result.now (placed_seen c.in-Some.placed) (attributes_from [] c.args.n c.args.b.now)
          c.loop-test.true c.loop.invariant.0 c.in-Some.ensures fits
          (c.add.ensures.added ∙ ap (λ t. cond t (c.loop.attributes ++ placed_seen c.in-Some.placed ∷ []) c.loop.attributes) fits)
          c.behind_four-rest.ensures,
      rw c.behind_four-rest.ensures (omega (arith, c.loop.invariant.1, c.loop-test.true, length-drop 4 c.loop.rest.now)),
    )

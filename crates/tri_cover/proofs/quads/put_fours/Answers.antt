use Rattle.std.proofs.Common.{◌≡◌, ◌+◌, ◌∙◌, slice_index, arith}
use Rattle.tri_cover.specs.Shortened.{short_at, left_end, right_end}
use Rattle.tri_cover.proofs.quads.put_fours.Goals as goal

pub put_four-requires-clause-from : goal.put_four-requires-clause-from
put_four-requires-clause-from c j h = let e = c.left_ends-from.ensures j h in omega (arith, e)

pub put_four-requires-clause-to : goal.put_four-requires-clause-to
put_four-requires-clause-to c j h = let e = c.right_ends-to.ensures j h in let d = c.left_ends-from.ensures j h in omega (arith, e, d)

pub returns-clause-here : goal.returns-clause-here
returns-clause-here c j h =
    let s = c.args.shorts.now in
    let k = c.args.k in
    let a = c.requires.here in
    let first = c.args.first in
    let after = c.args.after in
    let from : slice_index c.left_ends-from.result j ≡ left_end (short_at s.left (k + j)) (short_at s.other_left (k + j)) first after =
    c.left_ends-from.ensures j h ∙ (λ i. left_end (a.left j h i) (a.other_left j h i) first after) in
    c.put_four.ensures.here j h
    ∙ (λ i. (slice_index c.left_ends-from.result j, c.right_ends-to.ensures j h i))
    ∙ (λ i. (from i, right_end (a.right j h i) (a.other_right j h i) (from i) after))

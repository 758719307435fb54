use Rattle.std.proofs.Common.{◌-◌, ◌/◌, ◌^◌, ◌∙◌, min, max, slice_index, ap, arith}
use Rattle.tri_cover.proofs.quads.right_ends.Goals as goal

pub over-end-requires-clause-low : goal.over-end-requires-clause-low
over-end-requires-clause-low c j h = let e = c.at_least-floor.ensures j h in omega (arith, e)

pub over-end-requires-clause-high : goal.over-end-requires-clause-high
over-end-requires-clause-high c j h = let e = c.at_least-floor.ensures j h in let f = c.whole_columns-columns.ensures.few j h in omega (arith, e, f)

pub returns : goal.returns
returns c j h =
    let columns = c.whole_columns-columns.ensures.whole j h ∙ ap (λ n. n / 2 ^ 20) (c.lesser-nearer.ensures j h) in
    let floor = c.at_least-floor.ensures j h ∙ ap (λ n. max n 2047) columns in
    let end = c.over-end.ensures j h ∙ ap (λ n. n - 2047) floor in
    let to = c.at_most-to.ensures j h ∙ ap (λ n. min n c.args.after) end in
    c.larger.ensures j h ∙ ap (λ n. max n (slice_index c.args.from j)) to

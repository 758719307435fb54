use Rattle.std.proofs.Common.{◌-◌, ◌/◌, ◌^◌, ◌∙◌, min, max, ap, arith}
use Rattle.tri_cover.proofs.quads.left_ends.Goals as goal

pub under-start-requires : goal.under-start-requires
under-start-requires c j h = let e = c.at_most-floor.ensures j h in omega (arith, e)

pub returns : goal.returns
returns c j h =
    let columns = c.whole_columns-columns.ensures.whole j h ∙ ap (λ n. n / 2 ^ 20) (c.lesser-nearer.ensures j h) in
    let floor = c.at_most-floor.ensures j h ∙ ap (λ n. min n 2048) columns in
    let start = c.under-start.ensures j h ∙ ap (λ n. 2048 - n) floor in
    let from = c.at_least-from.ensures j h ∙ ap (λ n. max n c.args.first) start in
    c.at_most.ensures j h ∙ ap (λ n. min n c.args.after) from

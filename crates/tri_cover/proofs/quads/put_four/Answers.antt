use Rattle.std.proofs.Common.{ℕ, ◌≡◌, ◌+◌, ◌∙◌, slice_index, slice_index_or, ap, arith}
use Rattle.tri_cover.proofs.Shortened.{below_four, differs, unpaired}
use Rattle.tri_cover.proofs.quads.put_four.Goals as goal

pub returns-clause-here : goal.returns-clause-here
returns-clause-here c =
    let at = c.args.at in
    let none : at + 0 ≡ at = omega arith in
    let f : ℕ → ℕ = λ j. slice_index c.args.from j in
    let t : ℕ → ℕ = λ j. slice_index c.args.to j in
    let w : ℕ → ℕ = λ j. slice_index c.pairs.result j in
    let e0 = unpaired (f 0) (t 0) (w 0) (c.pairs.ensures 0 (omega arith)) (c.requires.from 0 (omega arith)) in
    let e1 = unpaired (f 1) (t 1) (w 1) (c.pairs.ensures 1 (omega arith)) (c.requires.from 1 (omega arith)) in
    let e2 = unpaired (f 2) (t 2) (w 2) (c.pairs.ensures 2 (omega arith)) (c.requires.from 2 (omega arith)) in
    let e3 = unpaired (f 3) (t 3) (w 3) (c.pairs.ensures 3 (omega arith)) (c.requires.from 3 (omega arith)) in
    below_four _
    (c.put_pair-4.ensures.others (at + 0) (differs (at + 0) (at + 3) (omega arith)) ∙ c.put_pair-3.ensures.others (at + 0) (differs (at + 0) (at + 2) (omega arith)) ∙ c.put_pair-2.ensures.others (at + 0) (differs (at + 0) (at + 1) (omega arith)) ∙ ap (λ n. slice_index_or c.put_pair.new.spans n (0, 0)) none ∙ c.put_pair.ensures.here ∙ e0)
    (c.put_pair-4.ensures.others (at + 1) (differs (at + 1) (at + 3) (omega arith)) ∙ c.put_pair-3.ensures.others (at + 1) (differs (at + 1) (at + 2) (omega arith)) ∙ c.put_pair-2.ensures.here ∙ e1)
    (c.put_pair-4.ensures.others (at + 2) (differs (at + 2) (at + 3) (omega arith)) ∙ c.put_pair-3.ensures.here ∙ e2)
    (c.put_pair-4.ensures.here ∙ e3)

pub returns-clause-before : goal.returns-clause-before
returns-clause-before c i h =
    let at = c.args.at in
    c.put_pair-4.ensures.others i (differs i (at + 3) (omega (arith, h)))
    ∙ c.put_pair-3.ensures.others i (differs i (at + 2) (omega (arith, h)))
    ∙ c.put_pair-2.ensures.others i (differs i (at + 1) (omega (arith, h)))
    ∙ c.put_pair.ensures.others i (differs i at (omega (arith, h)))

use Rattle.std.proofs.Common.{◌≡◌, ◌≤◌, ◌+◌, List, length, fold, take, ap, sym, subst, ◌∙◌, arith}
use Rattle.std.proofs.lemmas.List.{take_all}
use Rattle.std.proofs.lemmas.List.Sums.{fold_more}
use Rattle.gfx_model.specs.Number.{map_from}
use Rattle.tri_cover.specs.declared.triangles.Setup.{Setup}
use Rattle.gfx_query.specs.Counting.{Counted}
use Rattle.gfx_query.specs.Standing.{Stand, facing_with, facing_seen, place_change}
use Rattle.gfx_query.proofs.Counts.{setups_in_turn}
use Rattle.gfx_query.proofs.counting.count_triangles.Goals as goal

pub loop-setup-preserved : goal.loop-setup-preserved
loop-setup-preserved c =
    let w = c.args.sides.now.width in
    let state = c.args.draw.now.state in
    let front = c.args.draw.now.front in
    let back = c.args.draw.now.back in
    let items = c.args.triangles.now in
    let k = c.loop-setup.setup-index in
    let step : List Counted → Setup → List Counted = λ qs s. map_from (place_change w state (facing_seen front back s)) 0 qs in
    record {
      few = omega (arith, c.loop-setup.invariant.few, c.count_triangle.ensures.few, c.from-passed.ensures);
      counted = λ n ps s.
          let sum : n + c.loop-setup.passed + c.count_triangle.result ≡ n + (c.loop-setup.passed + c.from-passed.result) = omega (arith, c.from-passed.ensures) in
          let qs : List Counted = fold step ps (take k items) in
          let next : map_from (place_change w c.tests_of-tests.result.state (facing_with c.tests_of-tests.result.stencil c.setup-item.result)) 0 qs ≡ fold step ps (take (k + 1) items) =
          (λ i. map_from (place_change w (c.tests_of-tests.ensures.state i) (c.tests_of-tests.ensures.stencil i)) 0 qs)
          ∙ (λ i. map_from (place_change w state (facing_seen front back (c.setup-item.is i))) 0 qs)
          ∙ sym (fold_more step ps items k c.setup-item.result c.loop-setup-test.true) in
          subst (λ m. Stand c.count_triangle.new.words m (fold step ps (take (k + 1) items))) sum
          (subst (λ rs. Stand c.count_triangle.new.words (n + c.loop-setup.passed + c.count_triangle.result) rs) next (c.count_triangle.ensures.counted (n + c.loop-setup.passed) qs (c.loop-setup.invariant.counted n ps s)));
    }

pub returns-clause-counted : goal.returns-clause-counted
returns-clause-counted c =
    let w = c.args.sides.now.width in
    let state = c.args.draw.now.state in
    let front = c.args.draw.now.front in
    let back = c.args.draw.now.back in
    let items = c.args.triangles.now in
    let step : List Counted → Setup → List Counted = λ qs s. map_from (place_change w state (facing_seen front back s)) 0 qs in
    let all : length items ≤ c.loop-setup.setup-index = omega arith in
    λ n ps s. subst (Stand c.loop-setup.words (n + c.loop-setup.passed)) (ap (fold step ps) (take_all c.loop-setup.setup-index items all) ∙ setups_in_turn w state front back items ps) (c.loop-setup.invariant.counted n ps s)

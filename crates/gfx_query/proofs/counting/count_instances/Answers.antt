use Rattle.std.proofs.Common.{◌≡◌, ◌+◌, ◌*◌, ◌/◌, ◌==◌, true, false, ℕ, List, length, fold, map, ap, sym, subst, ◌∙◌, arith}
use Rattle.std.specs.List.{range_with_len}
use Rattle.gfx_model.specs.Raster.{Affine}
use Rattle.gfx_model.specs.World.{Facing}
use Rattle.gfx_query.specs.Counting.{Counted, counted_by}
use Rattle.gfx_query.specs.Draws.{vertices_in, instance_facings, transform_at, transforms_in}
use Rattle.gfx_query.specs.Standing.{Stand}
use Rattle.gfx_query.proofs.Counts.{instance_more, one_instance, some_instances, lists_in_turn}
use Rattle.gfx_query.proofs.counting.count_instances.Goals as goal

pub returns-then-is_empty-clause-counted : goal.returns-then-is_empty-clause-counted
returns-then-is_empty-clause-counted c =
    let w = c.args.sides.now.width in
    let state = c.args.draw.now.state in
    let h : Affine → List Facing = instance_facings w c.args.sides.now.height state c.args.draw.now.front c.args.draw.now.back (vertices_in c.args.vertices.now) in
    let none : (length c.args.instances.now == 0) ≡ true = sym c.is_empty.ensures ∙ c.if-is_empty.true in
    λ n ps s. subst (λ fs. Stand c.count_instance.new.words (n + c.count_instance.result) (counted_by w state fs ps)) (ap h c.identity-identity.ensures ∙ one_instance h c.args.instances.now none) (c.count_instance.ensures.counted n ps s)

pub loop-number-preserved : goal.loop-number-preserved
loop-number-preserved c =
    let w = c.args.sides.now.width in
    let state = c.args.draw.now.state in
    let h : Affine → List Facing = instance_facings w c.args.sides.now.height state c.args.draw.now.front c.args.draw.now.back (vertices_in c.args.vertices.now) in
    let t : ℕ → Affine = λ k. transform_at c.args.instances.now (48 * k) in
    let k = c.loop-number.number in
    let step : List Counted → Affine → List Counted = λ qs m. counted_by w state (h m) qs in
    record {
      few = omega (arith, c.loop-number.invariant.few, c.count_instance-passed.ensures.few);
      counted = λ n ps s.
          let sum : n + c.loop-number.passed + c.count_instance-passed.result ≡ n + (c.loop-number.passed + c.count_instance-passed.result) = omega arith in
          let qs : List Counted = fold step ps (map t (range_with_len 0 k)) in
          subst (λ m. Stand c.count_instance-passed.new.words m (fold step ps (map t (range_with_len 0 (k + 1))))) sum
          (subst (Stand c.count_instance-passed.new.words (n + c.loop-number.passed + c.count_instance-passed.result)) (instance_more w state h t k _ ps c.transform_at-model.ensures) (c.count_instance-passed.ensures.counted (n + c.loop-number.passed) qs (c.loop-number.invariant.counted n ps s)));
      vertices = c.count_instance-passed.ensures.vertices ∙ c.loop-number.invariant.vertices;
      triangles = c.count_instance-passed.ensures.triangles ∙ c.loop-number.invariant.triangles;
    }

pub returns-clause-counted : goal.returns-clause-counted
returns-clause-counted c =
    let w = c.args.sides.now.width in
    let state = c.args.draw.now.state in
    let h : Affine → List Facing = instance_facings w c.args.sides.now.height state c.args.draw.now.front c.args.draw.now.back (vertices_in c.args.vertices.now) in
    let t : ℕ → Affine = λ k. transform_at c.args.instances.now (48 * k) in
    let some : (length c.args.instances.now == 0) ≡ false = sym c.is_empty.ensures ∙ c.if-is_empty.false in
    let last : c.loop-number.number ≡ length c.args.instances.now / 48 = omega arith in
    λ n ps s.
    subst (Stand c.loop-number.words (n + c.loop-number.passed))
    (ap (λ k. fold (λ qs m. counted_by w state (h m) qs) ps (map t (range_with_len 0 k))) last
    ∙ lists_in_turn w state h (transforms_in c.args.instances.now) ps
    ∙ ap (λ fs. counted_by w state fs ps) (some_instances h c.args.instances.now some))
    (c.loop-number.invariant.counted n ps s)

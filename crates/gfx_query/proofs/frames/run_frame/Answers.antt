use Rattle.std.proofs.Common.{◌≡◌, ◌*◌, ◌^◌, length, refl, ap, sym, ◌∙◌, arith}
use Rattle.std.specs.Prelude.{unwrap_or}
use Rattle.std.proofs.lemmas.List.Sums.{fold_more}
use Rattle.gfx_query.specs.Queries.{Progress, after_step, no_results, result_of}
use Rattle.gfx_query.specs.Seen.{step_seen}
use Rattle.gfx_query.specs.SeenFrames.{target_seen, progress_seen}
use Rattle.gfx_query.specs.declared.script.Step.{Step}
use Rattle.gfx_query.proofs.Sums.{none_most, none_long}
use Rattle.gfx_query.proofs.frames.run_frame.Goals as goal

pub loop-step-init : goal.loop-step-init
loop-step-init c = record {
  run = ap (λ s. progress_seen c.args.target.now s) c.requires.sums;
  whole = refl;
  long = ap length c.requires.sums ∙ none_long;
  most = λ q.
      let e : unwrap_or (result_of c.args.sums.now q) 0 ≡ 0 = ap (λ s. unwrap_or (result_of s q) 0) c.requires.sums ∙ none_most 64 q in
      omega (arith, e);
}

pub loop-step-preserved : goal.loop-step-preserved
loop-step-preserved c =
    let w = c.args.sides.now.width in
    let h = c.args.sides.now.height in
    let results = c.args.results.now in
    let k = c.loop-step.step-index in
    let step : Progress → Step → Progress = λ p s. after_step w h results p (step_seen s) in
    let start : Progress = record { target = target_seen c.args.target.now; sums = no_results } in
    record {
      run = c.in_ok-follow.ensures.followed
          ∙ (λ j. after_step w h results (c.loop-step.invariant.run j) (step_seen (c.step-item.is j)))
          ∙ sym (fold_more step start c.args.steps.now k c.step-item.result c.loop-step-test.true);
      whole = c.in_ok-follow.ensures.whole ∙ c.loop-step.invariant.whole;
      long = omega (arith, c.follow.auto.sums, c.loop-step.invariant.long);
      most = λ q. let b = c.in_ok-follow.ensures.most (k * 2 ^ 62) c.loop-step.invariant.most q in omega (arith, b);
    }

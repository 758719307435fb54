use Rattle.std.proofs.Common.{◌≡◌, ◌*◌, ◌^◌, fold, length, take}
use Rattle.gfx_query.specs.Queries.{after_step, no_results}
use Rattle.gfx_query.specs.Seen.{step_seen}
use Rattle.gfx_query.specs.SeenFrames.{target_seen, progress_seen, AreAtMost}
use Rattle.gfx_query.proofs.frames.run_frame.Given as goal

-- the lines before the index are followed
abbrev pub invariant-loop-step : goal.invariant-loop-step
invariant-loop-step l = record {
  run : progress_seen l.target l.sums ≡ fold (λ p s. after_step l.fn.sides.width l.fn.sides.height l.fn.results p (step_seen s)) (record { target = target_seen l.fn.target; sums = no_results }) (take l.step-index l.fn.steps);
  whole : length l.target.words.items ≡ length l.fn.target.words.items;
  long : length l.sums ≡ 64;
  most : AreAtMost (l.step-index * 2 ^ 62) l.sums;
}

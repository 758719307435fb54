-- A target and a frame so far as the definitions see them.
use Rattle.std.specs.Prelude.{ℕ, ◌≤◌, unwrap_or}
use Rattle.gfx_query.specs.Queries as model
use Rattle.gfx_query.specs.declared.frames.Target.{Target}

-- a target: its depth words, and the words that are set
abbrev pub target_seen : Target → model.Target
target_seen t = record { words = t.words.items; state = t.draw.state; front = t.draw.front; back = t.draw.back }

-- a target with the sums of a frame so far
abbrev pub progress_seen : Target → model.Results → model.Progress
progress_seen t sums = record { target = target_seen t; sums = sums }

-- each sum is at most a number
abbrev pub AreAtMost : ℕ → model.Results → Type 0
AreAtMost m sums = (q : ℕ) → unwrap_or (model.result_of sums q) 0 ≤ m

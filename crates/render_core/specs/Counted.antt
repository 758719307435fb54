-- Outcomes that are kept as numbers.
use Rattle.std.specs.Prelude.{ℕ, List, [], ◌∷◌, ◌++◌, replicate, ◌+◌, min, Option, Some, None, option_map}
use Rattle.frame_record.specs.declared.frame.Outcome.{Outcome}
use Rattle.frame_record.specs.declared.frame.Outcome.TheVariants as outcomes
use Rattle.render_core.specs.declared.outcomes.Fault.{Fault}
use Rattle.render_core.specs.declared.outcomes.Fault.TheVariants as faults
use Rattle.render_core.specs.declared.outcomes.End.{End}

-- the outcome of the first frame that was not shown
abbrev pub fault_seen : Fault → Outcome
fault_seen faults.Picture = outcomes.PictureFault
fault_seen faults.Memory = outcomes.OutOfMemory

-- that of the first frame that was not shown, and of those that were skipped after it
abbrev pub end_in : Option End → List Outcome
end_in None = []
end_in (Some e) = fault_seen e.fault ∷ replicate e.skipped outcomes.Skipped

-- some were shown, and then the others
abbrev pub outcomes_in : ℕ → Option End → List Outcome
outcomes_in shown end = replicate shown outcomes.Shown ++ end_in end

-- one more was skipped, where the number can be counted
abbrev pub one_skipped : End → End
one_skipped e = record e { skipped = min (e.skipped + 1) 18446744073709551615 }

-- no frame was skipped yet
abbrev pub new_end : Fault → End
new_end f = record { fault = f; skipped = 0 }

-- how many are shown after one outcome more
abbrev pub shown_after : ℕ → Outcome → ℕ
shown_after shown outcomes.Shown = min (shown + 1) 18446744073709551615
shown_after shown outcomes.PictureFault = shown
shown_after shown outcomes.OutOfMemory = shown
shown_after shown outcomes.Skipped = shown

-- the end after one outcome more
abbrev pub end_after : Option End → Outcome → Option End
end_after end outcomes.Shown = end
end_after end outcomes.PictureFault = Some (new_end faults.Picture)
end_after end outcomes.OutOfMemory = Some (new_end faults.Memory)
end_after end outcomes.Skipped = option_map one_skipped end

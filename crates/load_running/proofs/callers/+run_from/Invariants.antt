use Rattle.std.proofs.Common.{◌-◌}
use Rattle.load_running.proofs.callers.+run_from.Given as goal

-- fewer callers are left
abbrev pub decreases-run_from : goal.decreases-run_from
decreases-run_from g l = l.count - l.caller

-- What passes know where callers were run and joined.
use Rattle.std.specs.Prelude.{◌≡◌, ◌⊎◌, ◌≤◌, ◌<◌, ◌+◌, Bool, true, ℕ, List, [], ◌∷◌, length}
use Rattle.load_text.specs.Loads.{BlockLine, Block, lines_of}
use Rattle.load_text.specs.Seen.{line_seen}
use Rattle.schedule_model.specs.Held.{count_of}
use Rattle.res_lock.specs.Histories.{part_of}
use Rattle.res_lock.specs.Views.{PassView, first_view}
use Rattle.res_lock.specs.Seats.{pass_view, caller_of, made_by}
use Rattle.res_lock.specs.declared.table.ResPass.{ResPass}
use Rattle.load_running.specs.BlockCalls.{AreCallsOf}

-- the first pass where the callers below a number have passes, and nothing was called or joined
pub record IsFirstOf (count : ℕ) (p : ResPass) : Type 0 where
  pub view : pass_view p ≡ record first_view { next = count }
  pub caller : caller_of p ≡ 0
  pub made : made_by p ≡ 0

-- the pass of a caller, whose block was run: where it is whole, the pass has seen its calls
pub record HasRunAs (caller : ℕ) (blocks : List Block) (is_whole : Bool) (v : PassView) : Type 0 where
  pub callers : v.callers ≡ caller ∷ []
  pub calls : is_whole ≡ true → AreCallsOf (lines_of caller blocks) (part_of caller v.seen)

-- caller 0, and those from one on
abbrev pub IsAmong : (from count caller : ℕ) → Type 0
IsAmong from count caller = (caller ≡ 0) ⊎ ((from ≤ caller) × (caller < count))

-- the first pass has caller 0 and those from one on; where all are whole, it has seen the calls of their blocks
pub record HasJoined (from count : ℕ) (blocks : List Block) (is_whole : Bool) (v : PassView) : Type 0 where
  pub next : v.next ≡ count
  pub length_is : length v.callers + from ≡ count + 1
  pub has : (c : ℕ) → IsAmong from count c → 0 < count_of c v.callers
  pub calls : is_whole ≡ true → (c : ℕ) → IsAmong from count c → AreCallsOf (lines_of c blocks) (part_of c v.seen)

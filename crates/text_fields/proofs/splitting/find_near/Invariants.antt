use Rattle.std.proofs.Common.{◌≡◌, take, true}
use Rattle.scene_model.proofs.SplitLaws.{is_free_of}
use Rattle.text_fields.proofs.splitting.find_near.Given as goal

-- no separator so far
abbrev pub invariant-loop-place : goal.invariant-loop-place
invariant-loop-place l = is_free_of l.separator (take l.place l.bytes) ≡ true

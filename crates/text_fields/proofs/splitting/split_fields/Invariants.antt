use Rattle.std.proofs.Common.{◌≡◌, ◌++◌, map, length}
use Rattle.scene_model.specs.Field.{split_at}
use Rattle.text_fields.proofs.splitting.split_fields.Given as goal

-- the fields so far, and those of the rest
abbrev pub invariant-loop-n : goal.invariant-loop-n
invariant-loop-n l = split_at l.separator l.line ≡ map (λ f. f.now) l.fields.items ++ split_at l.separator l.rest

abbrev pub decreases-loop-n : goal.decreases-loop-n
decreases-loop-n l = length l.rest

-- Payloads as the definitions see them: what commands name by number.
use Rattle.std.specs.Prelude.{ℕ, List, map}
use Rattle.std.specs.declared.vec.Vec.{Vec}

-- the bytes of each payload
abbrev pub payloads_seen : {A : Type 0} → List (Vec ℕ A) → List (List ℕ)
payloads_seen payloads = map (λ v. v.items) payloads

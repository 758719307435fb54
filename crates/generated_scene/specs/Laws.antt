-- The law of the generated scene.
use Rattle.std.specs.Prelude.{ℕ, ◌≤◌}
use Rattle.scene_model.specs.Generated.{generated}
use Rattle.spelling_model.specs.Readable.{IsReadable}
use Rattle.scene_text.specs.Bounds.{IsBounded}

-- the generated scene of 1 to 512 frames is readable, and keeps the bounds of a scene that was read
abbrev pub GeneratedLaw : Type 0
GeneratedLaw = (n : ℕ) → 1 ≤ n → n ≤ 512 → IsReadable (generated n) × IsBounded (generated n)

-- Bound names as the definitions see them.
use Rattle.std.specs.Prelude.{ℕ, false, Vec}
use Rattle.std.specs.Global.{Global}
use Rattle.scene_model.specs.Field.{BoundName}

-- a name, which no line can bind again
abbrev pub name_seen : Vec ℕ Global → BoundName
name_seen text = record { text = text.items; by_uniform = false }

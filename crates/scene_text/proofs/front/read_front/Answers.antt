use Rattle.std.proofs.Common.{ℕ, ◌≤◌, length, List, Result, Ok, Err}
use Rattle.std.specs.Prelude.{IfOk}
use Rattle.scene_model.specs.Grammar.{whole_language, front_of}
use Rattle.scene_text.specs.declared.scene.Scene.{Scene}
use Rattle.scene_text.specs.declared.fault.SceneFault.{SceneFault}
use Rattle.spelling_model.specs.Readable.{IsReadable}
use Rattle.scene_text.specs.Bounds.{IsBounded}
use Rattle.scene_text.specs.Reads.{ReadsFront}
use Rattle.scene_text.specs.Seen.{scene_seen}
use Rattle.scene_text.proofs.Bounded.{front_bounded}
use Rattle.scene_text.proofs.front.read_front.Goals as goal

-- what is read as the definition says is readable and keeps its bounds
front_bounds : (result : Result (Scene × ℕ) SceneFault) (bytes : List ℕ) → length bytes ≤ 4294967294 → ReadsFront result (front_of whole_language bytes) → IfOk result (λ found. IsBounded (scene_seen found.0))
front_bounds (Ok found) bytes le e = (front_bounded bytes (scene_seen found.0, found.1) le e).1
front_bounds (Err fault) bytes le e = tt

front_readable : (result : Result (Scene × ℕ) SceneFault) (bytes : List ℕ) → length bytes ≤ 4294967294 → ReadsFront result (front_of whole_language bytes) → IfOk result (λ found. IsReadable (scene_seen found.0))
front_readable (Ok found) bytes le e = (front_bounded bytes (scene_seen found.0, found.1) le e).0
front_readable (Err fault) bytes le e = tt

pub returns-clause-bounds : goal.returns-clause-bounds
returns-clause-bounds c = front_bounds c.read_to_done.result c.args.bytes.now c.requires c.read_to_done.ensures.exact

pub returns-clause-readable : goal.returns-clause-readable
returns-clause-readable c = front_readable c.read_to_done.result c.args.bytes.now c.requires c.read_to_done.ensures.exact

use Rattle.std.proofs.Common.{◌≡◌, ◌++◌, drop}
use Rattle.scene_text.specs.Seen.{scene_seen}
use Rattle.item_lines.specs.Items as model
use Rattle.item_lines.proofs.places.item_places.Given as goal

abbrev pub invariant-loop-frame : goal.invariant-loop-frame
invariant-loop-frame l = record {
  number : l.number ≡ l.frame-index;
  left : l.places.items ++ model.places_from l.frame-index (drop l.frame-index (scene_seen l.scene).frames) ≡ model.item_places (scene_seen l.scene);
}

use Rattle.std.proofs.Common.{◌≡◌, ◌++◌, drop, map}
use Rattle.std.specs.List.{AllByRecursion}
use Rattle.gfx_model.specs.Views.{view_count}
use Rattle.shared_keys.specs.Marks.{IsThere}
use Rattle.draw_encoder.specs.Bundles.{items_of}
use Rattle.draw_encoder.specs.Seen.{items_seen}
use Rattle.recorded_keys.specs.Pairs.{clash_mark}
use Rattle.recorded_keys.proofs.pairs.item_marks.Given as goal

-- the marks so far, and those of the items that are left
abbrev pub invariant-loop-item : goal.invariant-loop-item
invariant-loop-item l =
    AllByRecursion (IsThere (view_count l.views)) (items_of l.recording)
    → l.marks.items ++ map (clash_mark l.views l.recording.encoder) (items_seen l.recording.bytes l.recording.uniforms (drop l.item-index l.item-items)) ≡ map (clash_mark l.views l.recording.encoder) (items_of l.recording)

use Rattle.std.proofs.Common.{map, ap, ◌∙◌}
use Rattle.scene_model.specs.Journal as model
use Rattle.scene_text.specs.Seen.{entry_seen}
use Rattle.scene_text.proofs.FaultPlaces.{as_defined}
use Rattle.scene_text.proofs.lawful.fault_place.Goals as goal

pub returns : goal.returns
returns c = record {
  place = λ plans e. c.first_fault.ensures ∙ as_defined plans c.args.accepted.now (map (map entry_seen) c.as_slice.result.now) e ∙ ap (λ fs. model.fault_place plans (map (map entry_seen) fs)) c.as_slice.ensures;
}

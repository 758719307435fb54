use Rattle.std.proofs.Common.{◌∙◌}
use Rattle.gfx_model.specs.Vertex.{find_attribute}
use Rattle.vertex_layout.specs.Kinds.{attribute_seen}
use Rattle.vertex_layout.proofs.ListLaws.{found_none, none_from}
use Rattle.vertex_layout.proofs.attributes.AttrList.is_absent.Goals as goal

pub returns : goal.returns
returns c =
    none_from c.find.result c.is_none.result (find_attribute (attribute_seen c.args.attr) c.args.self.now) c.is_none.ensures c.find.ensures
    ∙ found_none (attribute_seen c.args.attr) c.args.self.now

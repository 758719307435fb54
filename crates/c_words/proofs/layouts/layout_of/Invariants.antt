use Rattle.std.proofs.Common.{◌≡◌, List, Some, take}
use Rattle.gfx_model.specs.Vertex.{LayoutPart}
use Rattle.vertex_layout.specs.Building.{built}
use Rattle.c_words.specs.Layouts.{parts_of}
use Rattle.c_words.proofs.layouts.layout_of.Given as goal

abbrev pub invariant-loop-part : goal.invariant-loop-part
invariant-loop-part l = (ps : List LayoutPart) × (parts_of (take l.part-index l.parts) ≡ Some ps) × (l.builder ≡ built ps)

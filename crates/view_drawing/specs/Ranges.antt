-- Ranges of vertices and indices as the definitions see them.
use Rattle.gfx_model.specs.Vertex as model
use Rattle.view_drawing.specs.declared.ranges.VertexRange.{VertexRange}
use Rattle.view_drawing.specs.declared.ranges.IndexRange.{IndexRange}

-- a range of vertices with its layout and bytes
abbrev pub vertex_range_seen : VertexRange → model.VertexRange
vertex_range_seen r = record { layout = r.layout.now; bytes = r.bytes.now; first = r.first; count = r.count }

-- a range of indices with its bytes
abbrev pub index_range_seen : IndexRange → model.IndexRange
index_range_seen r = record { bytes = r.bytes.now; first = r.first; count = r.count }

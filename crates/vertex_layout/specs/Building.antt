-- What the parts of a layout make before it is ended.
use Rattle.std.specs.Prelude.{◌+◌, ◌*◌, ◌&&◌, nat_le, if◌then◌else◌, List, [], ◌∷◌, ◌++◌, Option, Some, None, sum_by}
use Rattle.gfx_model.specs.Vertex.{Layout, LayoutPart, attribute_part, skip_part, part_size, component_size, placed_from, has_good_attributes}
use Rattle.vertex_layout.specs.Placed.{is_addable}

-- the layout so far, whose stride may still be 0; none once it is over 255, or an attribute has a wrong count or stands twice
abbrev pub built : List LayoutPart → Option Layout
built parts =
    if nat_le (sum_by part_size parts) 255 && has_good_attributes (placed_from 0 parts)
    then Some (record { attributes = placed_from 0 parts; stride = sum_by part_size parts })
    else None

-- the same with one part more
abbrev pub with_part : LayoutPart → Option Layout → Option Layout
with_part part None = None
with_part (attribute_part a t count) (Some l) =
    if nat_le (l.stride + component_size t * count) 255 && is_addable (record { attribute = a; component = t; count = count; offset = l.stride }) l.attributes
    then Some (record { attributes = l.attributes ++ record { attribute = a; component = t; count = count; offset = l.stride } ∷ []; stride = l.stride + component_size t * count })
    else None
with_part (skip_part bytes) (Some l) = if nat_le (l.stride + bytes) 255 then Some (record l { stride = l.stride + bytes }) else None

-- a layout has at least one byte
abbrev pub ended : Option Layout → Option Layout
ended None = None
ended (Some l) = if nat_le 1 l.stride then Some l else None

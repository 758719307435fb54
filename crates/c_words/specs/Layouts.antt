-- Layouts as C has them.
use Rattle.std.specs.Prelude.{◌≡◌, ℕ, List, [], ◌∷◌, ◌++◌, ◌==◌, if◌then◌else◌, Option, Some, None, Result, Err, MatchResult}
use Rattle.gfx_model.specs.Vertex.{Attribute, position_attribute, normal_attribute, tangent_attribute, color0_attribute, color1_attribute, texcoord0_attribute, texcoord1_attribute, ComponentType, u8_type, i16_type, fixed_type, Layout, LayoutPart, attribute_part, skip_part, layout_of_parts}
use Rattle.gfx_words.specs.declared.refusals.Refusal.TheVariants as refusals
use Rattle.vertex_layout.specs.Building.{built}
use Rattle.c_words.specs.declared.layouts.Part.{Part}
use Rattle.c_words.specs.declared.faults.Fault.{Fault}
use Rattle.c_words.specs.declared.faults.Fault.TheVariants as faults

-- the attribute of a number
abbrev pub attribute_of_number : ℕ → Option Attribute
attribute_of_number n =
    if n == 0 then Some position_attribute
    else (if n == 1 then Some normal_attribute
    else (if n == 2 then Some tangent_attribute
    else (if n == 3 then Some color0_attribute
    else (if n == 4 then Some color1_attribute
    else (if n == 5 then Some texcoord0_attribute
    else (if n == 6 then Some texcoord1_attribute else None))))))

-- the component type of a number
abbrev pub component_of_number : ℕ → Option ComponentType
component_of_number n =
    if n == 0 then Some u8_type
    else (if n == 1 then Some i16_type
    else (if n == 2 then Some fixed_type else None))

-- an attribute of a component type, where there are both
abbrev pub attribute_with : Option Attribute → Option ComponentType → ℕ → Option LayoutPart
attribute_with (Some a) (Some t) count = Some (attribute_part a t count)
attribute_with _ _ count = None

-- a part as the definitions have it, where its numbers stand for something
abbrev pub part_of : Part → Option LayoutPart
part_of p = if p.attribute == 255 then Some (skip_part p.count) else attribute_with (attribute_of_number p.attribute) (component_of_number p.component) p.count

-- a part before others
abbrev pub with_part : Option LayoutPart → Option (List LayoutPart) → Option (List LayoutPart)
with_part (Some p) (Some ps) = Some (p ∷ ps)
with_part _ _ = None

-- parts as the definitions have them, where all their numbers stand for something
abbrev pub parts_of : List Part → Option (List LayoutPart)
parts_of [] = Some []
parts_of (p ∷ ps) = with_part (part_of p) (parts_of ps)

-- a part is added behind others, or its numbers stand for nothing
abbrev pub AddsPart : Option (Unit {0}) → Part → (old new : Option Layout) → Type 0
AddsPart (Some u) p old new = (part : LayoutPart) × (part_of p ≡ Some part) × ((parts : List LayoutPart) → old ≡ built parts → new ≡ built (parts ++ part ∷ []))
AddsPart None p old new = part_of p ≡ None

-- the layout of parts, or why there is none
abbrev pub IsLayoutOf : Option (List LayoutPart) → Result Layout Fault → Type 0
IsLayoutOf None result = result ≡ Err faults.BadValue
IsLayoutOf (Some parts) result =
    MatchResult result
    (λ layout. layout_of_parts parts ≡ Some layout)
    (λ f. (f ≡ faults.Refused refusals.BadSize) × (layout_of_parts parts ≡ None))

-- A list of attributes in seven slots: the first are the list, the others are blank.
use Rattle.std.specs.Prelude.{◌≡◌, ◌-◌, ◌≤◌, true, List, [], ◌∷◌, ◌++◌, length, map, take, drop, replicate, refl}
use Rattle.std.proofs.Common.{ap, sym, ◌∙◌, arith, take-append-drop, length-take-le}
use Rattle.std.proofs.lemmas.List.{length-map}
use Rattle.gfx_model.specs.Vertex.{PlacedAttribute, position_attribute, u8_type, has_good_attributes}
use Rattle.vertex_layout.specs.declared.attributes.PlacedAttr.{PlacedAttr}
use Rattle.vertex_layout.specs.declared.attributes.AttrList.TheInside.{Inside}
use Rattle.vertex_layout.specs.Placed.{placed_seen, placed_back, placed_same}

-- what stands in a slot that no attribute has
abbrev pub blank : PlacedAttr
blank = placed_back (record { attribute = position_attribute; component = u8_type; count = 0; offset = 0 })

-- the attributes in the first slots
abbrev pub view_of : Inside → List PlacedAttribute
view_of s = map placed_seen (take s.count s.slots)

-- seven slots: good attributes in the first, blanks in the others
pub record IsInside (s : Inside) : Type 0 where
  pub room : length s.slots ≡ 7
  pub few : s.count ≤ 7
  pub good : has_good_attributes (view_of s) ≡ true
  pub rest : drop s.count s.slots ≡ replicate (7 - s.count) blank

-- the slots that hold a list of attributes
abbrev pub inside_of : List PlacedAttribute → Inside
inside_of placed = record { slots = map placed_back placed ++ replicate (7 - length placed) blank; count = length placed }

back_again : (ps : List PlacedAttr) → map placed_back (map placed_seen ps) ≡ ps
back_again [] = refl
back_again (p ∷ ps) = ap (λ q. q ∷ map placed_back (map placed_seen ps)) (placed_same p) ∙ ap (λ qs. p ∷ qs) (back_again ps)

count_again : (s : Inside) → IsInside s → length (view_of s) ≡ s.count
count_again s h = length-map (take s.count s.slots) placed_seen ∙ length-take-le s.count s.slots (omega (arith, h.room, h.few))

slots_again : (s : Inside) → IsInside s → map placed_back (view_of s) ++ replicate (7 - length (view_of s)) blank ≡ s.slots
slots_again s h =
    ap (λ ps. ps ++ replicate (7 - length (view_of s)) blank) (back_again (take s.count s.slots))
    ∙ ap (λ n. take s.count s.slots ++ replicate (7 - n) blank) (count_again s h)
    ∙ ap (λ ps. take s.count s.slots ++ ps) (sym h.rest)
    ∙ take-append-drop s.count s.slots

pub inside_of-view : (s : Inside) → IsInside s → inside_of (view_of s) ≡ s
inside_of-view s h i = record { slots = slots_again s h i; count = count_again s h i }

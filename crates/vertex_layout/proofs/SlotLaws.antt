-- Seven slots with one attribute more.
use Rattle.std.proofs.Common.{◌≡◌, suc, ◌+◌, ◌-◌, ◌<◌, true, [], ◌∷◌, ◌++◌, length, map, take, drop, set, replicate, sym, ap, ◌∙◌, arith, length-append, length-take-le}
use Rattle.std.proofs.lemmas.List.{drop-set-lt, drop-drop, drop-replicate, length-set, length-map, map-append}
use Rattle.std.proofs.Math.Seq.{take-suc-set}
use Rattle.gfx_model.specs.Vertex.{PlacedAttribute, has_good_attributes}
use Rattle.vertex_layout.specs.declared.attributes.PlacedAttr.{PlacedAttr}
use Rattle.vertex_layout.specs.declared.attributes.AttrList.TheInside.{Inside}
use Rattle.vertex_layout.specs.Placed.{placed_seen, is_addable}
use Rattle.vertex_layout.specs.Slots.{blank, view_of, IsInside}
use Rattle.vertex_layout.proofs.ListLaws.{good_with, at_most_seven}

length_view : (s : Inside) → IsInside s → length (view_of s) ≡ s.count
length_view s h = length-map (take s.count s.slots) placed_seen ∙ length-take-le s.count s.slots (omega (arith, h.room, h.few))

pub has_slot : (s : Inside) (a : PlacedAttribute) → IsInside s → is_addable a (view_of s) ≡ true → s.count < 7
has_slot s a h e = omega (arith, length_view s h, length-append (view_of s) (a ∷ []), at_most_seven (view_of s ++ a ∷ []) (good_with (view_of s) a h.good e))

abbrev pub pushed : Inside → PlacedAttr → Inside
pushed s p = record { slots = set s.slots s.count p; count = s.count + 1 }

pub view_pushed : (s : Inside) (p : PlacedAttr) → IsInside s → s.count < 7 → view_of (pushed s p) ≡ view_of s ++ placed_seen p ∷ []
view_pushed s p h lt =
    let next : s.count + 1 ≡ suc s.count = omega arith in
    ap (λ n. map placed_seen (take n (set s.slots s.count p))) next
    ∙ ap (map placed_seen) (take-suc-set s.slots s.count p (omega (arith, lt, h.room)))
    ∙ map-append placed_seen (take s.count s.slots) (p ∷ [])

rest_pushed : (s : Inside) (p : PlacedAttr) → IsInside s → drop (s.count + 1) (set s.slots s.count p) ≡ replicate (7 - (s.count + 1)) blank
rest_pushed s p h =
    let left : 7 - s.count - 1 ≡ 7 - (s.count + 1) = omega arith in
    drop-set-lt (s.count + 1) s.slots s.count p (omega arith)
    ∙ sym (drop-drop 1 s.count s.slots)
    ∙ ap (drop 1) h.rest
    ∙ drop-replicate 1 (7 - s.count) blank
    ∙ ap (λ n. replicate n blank) left

pub inside_pushed : (s : Inside) (p : PlacedAttr) → IsInside s → is_addable (placed_seen p) (view_of s) ≡ true → IsInside (pushed s p)
inside_pushed s p h e =
    let lt : s.count < 7 = has_slot s (placed_seen p) h e in record {
      room = length-set s.slots s.count p ∙ h.room;
      few = omega (arith, lt);
      good = ap has_good_attributes (view_pushed s p h lt) ∙ good_with (view_of s) (placed_seen p) h.good e;
      rest = rest_pushed s p h;
    }

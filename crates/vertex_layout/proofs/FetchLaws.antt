-- An attribute's components, and that they lie within a vertex.
use Rattle.std.proofs.Common.{◌≡◌, ℕ, ◌+◌, ◌*◌, ◌<◌, ◌≤◌, ℤ, pos, Bool, true, false, cond, List, [], ◌∷◌, length, Option, Some, None, refl, sym, ap, subst, ◌∙◌, arith}
use Rattle.std.specs.Prelude.{◌&&◌, nat_le, ◌==◌, option_map, IfSome}
use Rattle.std.specs.List.{list_all}
use Rattle.std.proofs.lemmas.Bool.{leb-true, lt-ltb, le-ltb}
use Rattle.std.proofs.lemmas.List.{get_or_past}
use Rattle.std.proofs.lemmas.List.FromFn.{get_or-map-range_with_len, length-map-range_with_len}
use Rattle.gfx_model.specs.Number.{int_at, i32_at}
use Rattle.gfx_model.specs.Vertex.{Attribute, attribute_number, PlacedAttribute, Layout, u8_type, fixed_type, component_size, fixed_at, components_at, byte_of_fixed, byte_or, find_attribute, has_good_attributes}
use Rattle.vertex_layout.specs.declared.attributes.PlacedAttr.{PlacedAttr}
use Rattle.vertex_layout.specs.Placed.{placed_seen, end_of, ends_within}
use Rattle.vertex_layout.specs.Layouts.{is_layout}

component_at : PlacedAttribute → List ℕ → ℕ → ℕ → ℤ
component_at a bytes at k = fixed_at a.component bytes (at + a.offset + component_size a.component * k)

pub component_there : (a : PlacedAttribute) (bytes : List ℕ) (at k : ℕ) → k < a.count → int_at (components_at a bytes at) k ≡ fixed_at a.component bytes (at + a.offset + component_size a.component * k)
component_there a bytes at k lt = get_or-map-range_with_len (λ j. fixed_at a.component bytes (at + a.offset + component_size a.component * j)) 0 a.count k k (pos 0) lt (omega arith)

length_components : (a : PlacedAttribute) (bytes : List ℕ) (at : ℕ) → length (components_at a bytes at) ≡ a.count
length_components a bytes at = length-map-range_with_len (λ j. fixed_at a.component bytes (at + a.offset + component_size a.component * j)) 0 a.count

pub component_gone : (a : PlacedAttribute) (bytes : List ℕ) (at k : ℕ) → a.count ≤ k → int_at (components_at a bytes at) k ≡ pos 0
component_gone a bytes at k le = get_or_past (components_at a bytes at) k (pos 0) (rw (length_components a bytes at) le)

pub byte_there : (missing : ℕ) (a : PlacedAttribute) (bytes : List ℕ) (at k : ℕ) → k < a.count → byte_or missing (components_at a bytes at) k ≡ byte_of_fixed (int_at (components_at a bytes at) k)
byte_there missing a bytes at k lt =
    ap (λ b. cond b (byte_of_fixed (int_at (components_at a bytes at) k)) missing) (lt-ltb k (length (components_at a bytes at)) (omega (arith, lt, length_components a bytes at)))

pub byte_gone : (missing : ℕ) (a : PlacedAttribute) (bytes : List ℕ) (at k : ℕ) → a.count ≤ k → byte_or missing (components_at a bytes at) k ≡ missing
byte_gone missing a bytes at k le =
    ap (λ b. cond b (byte_of_fixed (int_at (components_at a bytes at) k)) missing) (le-ltb k (length (components_at a bytes at)) (omega (arith, le, length_components a bytes at)))

-- ---- components of one type

-- a component that is a fixed number
pub fixed_there : (a : PlacedAttribute) (bytes : List ℕ) (at k : ℕ) → a.component ≡ fixed_type → k < a.count → int_at (components_at a bytes at) k ≡ i32_at bytes (at + a.offset + 4 * k)
fixed_there a bytes at k kind lt = component_there a bytes at k lt ∙ ap (λ t. fixed_at t bytes (at + a.offset + component_size t * k)) kind

-- a component that is a byte, as a byte
pub byte_is : (missing : ℕ) (a : PlacedAttribute) (bytes : List ℕ) (at k place : ℕ) → a.component ≡ u8_type → k < a.count → at + a.offset + k ≡ place → byte_of_fixed (fixed_at u8_type bytes place) ≡ byte_or missing (components_at a bytes at) k
byte_is missing a bytes at k place kind lt here =
    let one : at + a.offset + component_size u8_type * k ≡ place = omega (arith, here) in
    sym (byte_there missing a bytes at k lt
    ∙ ap byte_of_fixed (component_there a bytes at k lt ∙ ap (λ t. fixed_at t bytes (at + a.offset + component_size t * k)) kind ∙ ap (λ p. fixed_at u8_type bytes p) one))

pub fixed_end : (a : PlacedAttribute) (at k len : ℕ) → a.component ≡ fixed_type → k < a.count → at + (a.offset + component_size a.component * a.count) ≤ len → at + a.offset + 4 * k + 3 < len
fixed_end a at k len kind lt le =
    let size : component_size a.component * a.count ≡ 4 * a.count = ap (λ t. component_size t * a.count) kind in
    omega (arith, size, lt, le)

pub bytes_end : (a : PlacedAttribute) (at len : ℕ) → a.component ≡ u8_type → a.count ≡ 4 → at + (a.offset + component_size a.component * a.count) ≤ len → at + a.offset + 4 ≤ len
bytes_end a at len kind four le =
    let size : component_size a.component * a.count ≡ 1 * a.count = ap (λ t. component_size t * a.count) kind in
    omega (arith, size, four, le)

-- ---- within a vertex

abbrev Ends : ℕ → PlacedAttribute → Type 0
Ends stride p = p.offset + component_size p.component * p.count ≤ stride

found_step : (stride : ℕ) (same b r : Bool) (p : PlacedAttribute) (o : Option PlacedAttribute) → ends_within stride p ≡ b → (b && r) ≡ true → (r ≡ true → IfSome o (Ends stride)) → IfSome (cond same (Some p) o) (Ends stride)
found_step stride true true r p o is e h = leb-true (p.offset + component_size p.component * p.count) stride is
found_step stride false true r p o is e h = h e
found_step stride same false r p o is e h = let f : false ≡ true = e in absurd (grind (arith, f))

found_within : (stride : ℕ) (a : Attribute) (ps : List PlacedAttribute) → list_all (ends_within stride) ps ≡ true → IfSome (find_attribute a ps) (Ends stride)
found_within stride a [] e = tt
found_within stride a (p ∷ ps) e = found_step stride (attribute_number a == attribute_number p.attribute) (ends_within stride p) (list_all (ends_within stride) ps) p (find_attribute a ps) refl e (found_within stride a ps)

moved : (o : Option PlacedAttr) (stride at len : ℕ) → IfSome (option_map placed_seen o) (Ends stride) → at + stride ≤ len → IfSome o (λ p. at + end_of p ≤ len)
moved None stride at len h le = tt
moved (Some p) stride at len h le = omega (arith, h, le)

and_last : (a b : Bool) → (a && b) ≡ true → b ≡ true
and_last true b e = e
and_last false b e = cc

pub fits_at : (o : Option PlacedAttr) (l : Layout) (a : Attribute) (at len : ℕ) → option_map placed_seen o ≡ find_attribute a l.attributes → is_layout l ≡ true → at + l.stride ≤ len → IfSome o (λ p. at + end_of p ≤ len)
fits_at o l a at len e whole le =
    let P : Option PlacedAttribute → Type 0 = λ f. IfSome f (Ends l.stride) in
    moved o l.stride at len
    (subst P (sym e) (found_within l.stride a l.attributes (and_last (nat_le 1 l.stride && nat_le l.stride 255 && has_good_attributes l.attributes) (list_all (ends_within l.stride) l.attributes) whole)))
    le

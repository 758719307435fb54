-- Keys compare as their fields do.
use Rattle.std.proofs.Common.{◌≡◌, ◌<◌, ◌≤◌, ℕ, Bool, false, ◌&&◌, ◌||◌, ◌==◌, nat_lt, [], ◌∷◌, refl, sym, ap, ◌∙◌, arith}
use mathlib.Core.Logic.{⊎_elim}
use Rattle.std.proofs.lemmas.Bool.{cases_eq, cases_order, lt-ltb, le-ltb, eq-eqb, ne_eqb}
use Rattle.gfx_model.specs.Views.{KeyFields, key_bits, low_bits}
use Rattle.sort_key.specs.Fields.{IsKeyFields, fields_of}
use Rattle.sort_key.specs.Order.{OrderOfKeys, OneKeyOneFields, comes_before, fields_below_type}
use Rattle.sort_key.proofs.Again.{fields-again, bits_by_program, bits_by_depth, bits_by_number}

pub one_key : OneKeyOneFields
one_key j k p q e = sym (fields-again j p) ∙ ap fields_of e ∙ fields-again k q

-- a comparison that two numbers decide, and a further test where they are equal
decided : (a b x y : ℕ) (t : Bool) → (x < y → a < b) → (y < x → b ≤ a) → (x ≡ y → nat_lt a b ≡ t) → nat_lt a b ≡ (nat_lt x y || ((x == y) && t))
decided a b x y t less more same =
    ⊎_elim
    (λ e. same e ∙ rw (le-ltb x y (omega (arith, e)), eq-eqb x y e) refl)
    (λ o. ⊎_elim
    (λ h. lt-ltb a b (less h) ∙ rw (lt-ltb x y h) refl)
    (λ h. le-ltb a b (more h) ∙ rw (le-ltb x y (omega (arith, h)), ne_eqb x y (λ e. omega (arith, e, h))) refl)
    o)
    (cases_order x y)

-- the last number of two lists decides alone
decided_last : (a b x y : ℕ) → (x < y → a < b) → (y ≤ x → b ≤ a) → nat_lt a b ≡ (nat_lt x y || ((x == y) && false))
decided_last a b x y less more = decided a b x y false less (λ h. more (omega (arith, h))) (λ e. le-ltb a b (more (omega (arith, e))))

by_program : (j k : KeyFields) → IsKeyFields j → IsKeyFields k → j.mode_type ≡ 0 → k.mode_type ≡ 0 → j.position ≡ k.position
    → nat_lt (key_bits j) (key_bits k) ≡ comes_before (j.blended ∷ j.program ∷ j.depth_field ∷ []) (k.blended ∷ k.program ∷ k.depth_field ∷ [])
by_program j k p q jt kt same =
    let a = bits_by_program j jt in
    let b = bits_by_program k kt in
    decided (key_bits j) (key_bits k) j.blended k.blended _
    (λ h. omega (arith, a, b, same, p.program, p.depth, q.program, q.depth, h))
    (λ h. omega (arith, a, b, same, p.program, p.depth, q.program, q.depth, h))
    (λ e. decided (key_bits j) (key_bits k) j.program k.program _
    (λ h. omega (arith, a, b, same, e, p.depth, q.depth, h))
    (λ h. omega (arith, a, b, same, e, p.depth, q.depth, h))
    (λ f. decided_last (key_bits j) (key_bits k) j.depth_field k.depth_field
    (λ h. omega (arith, a, b, same, e, f, h))
    (λ h. omega (arith, a, b, same, e, f, h))))

by_depth : (j k : KeyFields) → IsKeyFields j → IsKeyFields k → j.mode_type ≡ 1 → k.mode_type ≡ 1 → j.position ≡ k.position
    → nat_lt (key_bits j) (key_bits k) ≡ comes_before (j.depth_field ∷ j.blended ∷ j.program ∷ []) (k.depth_field ∷ k.blended ∷ k.program ∷ [])
by_depth j k p q jt kt same =
    let a = bits_by_depth j jt in
    let b = bits_by_depth k kt in
    decided (key_bits j) (key_bits k) j.depth_field k.depth_field _
    (λ h. omega (arith, a, b, same, p.program, p.blended, q.program, q.blended, h))
    (λ h. omega (arith, a, b, same, p.program, p.blended, q.program, q.blended, h))
    (λ e. decided (key_bits j) (key_bits k) j.blended k.blended _
    (λ h. omega (arith, a, b, same, e, p.program, q.program, h))
    (λ h. omega (arith, a, b, same, e, p.program, q.program, h))
    (λ f. decided_last (key_bits j) (key_bits k) j.program k.program
    (λ h. omega (arith, a, b, same, e, f, h))
    (λ h. omega (arith, a, b, same, e, f, h))))

by_number : (j k : KeyFields) → IsKeyFields j → IsKeyFields k → j.mode_type ≡ 2 → k.mode_type ≡ 2 → j.position ≡ k.position
    → nat_lt (key_bits j) (key_bits k) ≡ comes_before (j.number ∷ j.blended ∷ j.program ∷ []) (k.number ∷ k.blended ∷ k.program ∷ [])
by_number j k p q jt kt same =
    let a = bits_by_number j jt in
    let b = bits_by_number k kt in
    decided (key_bits j) (key_bits k) j.number k.number _
    (λ h. omega (arith, a, b, same, p.program, p.blended, q.program, q.blended, h))
    (λ h. omega (arith, a, b, same, p.program, p.blended, q.program, q.blended, h))
    (λ e. decided (key_bits j) (key_bits k) j.blended k.blended _
    (λ h. omega (arith, a, b, same, e, p.program, q.program, h))
    (λ h. omega (arith, a, b, same, e, p.program, q.program, h))
    (λ f. decided_last (key_bits j) (key_bits k) j.program k.program
    (λ h. omega (arith, a, b, same, e, f, h))
    (λ h. omega (arith, a, b, same, e, f, h))))

-- the fields below the type by its value
below_program : (k : KeyFields) → k.mode_type ≡ 0 → fields_below_type k ≡ k.blended ∷ k.program ∷ k.depth_field ∷ []
below_program k e = rw e refl

below_depth : (k : KeyFields) → k.mode_type ≡ 1 → fields_below_type k ≡ k.depth_field ∷ k.blended ∷ k.program ∷ []
below_depth k e = rw e refl

below_number : (k : KeyFields) → k.mode_type ≡ 2 → fields_below_type k ≡ k.number ∷ k.blended ∷ k.program ∷ []
below_number k e = rw e refl

-- the bits below the type stay below it
low_by_type : (k : KeyFields) → IsKeyFields k → low_bits k < 4503599627370496
low_by_type k p =
    ⊎_elim (λ e. omega (arith, bits_by_program k e, p.blended, p.program, p.depth))
    (λ n. ⊎_elim (λ e. omega (arith, bits_by_depth k e, p.blended, p.program, p.depth))
    (λ m. omega (arith, bits_by_number k (omega (arith, n, m, p.mode_type)), n, m, p.mode_type, p.blended, p.program, p.number))
    (cases_eq k.mode_type 1))
    (cases_eq k.mode_type 0)

by_type : (j k : KeyFields) → IsKeyFields j → IsKeyFields k → j.position ≡ k.position → j.mode_type ≡ k.mode_type
    → nat_lt (key_bits j) (key_bits k) ≡ comes_before (fields_below_type j) (fields_below_type k)
by_type j k p q same t =
    ⊎_elim
    (λ e. let f : k.mode_type ≡ 0 = sym t ∙ e in rw (below_program j e, below_program k f) (by_program j k p q e f same))
    (λ n. ⊎_elim
    (λ e. let f : k.mode_type ≡ 1 = sym t ∙ e in rw (below_depth j e, below_depth k f) (by_depth j k p q e f same))
    (λ m. let e : j.mode_type ≡ 2 = omega (arith, n, m, p.mode_type) in
    let f : k.mode_type ≡ 2 = sym t ∙ e in rw (below_number j e, below_number k f) (by_number j k p q e f same))
    (cases_eq j.mode_type 1))
    (cases_eq j.mode_type 0)

pub order_of : OrderOfKeys
order_of j k p q =
    decided (key_bits j) (key_bits k) j.position k.position _
    (λ h. omega (arith, low_by_type j p, low_by_type k q, p.mode_type, q.mode_type, h))
    (λ h. omega (arith, low_by_type j p, low_by_type k q, p.mode_type, q.mode_type, h))
    (λ e. decided (key_bits j) (key_bits k) j.mode_type k.mode_type _
    (λ h. omega (arith, low_by_type j p, low_by_type k q, e, h))
    (λ h. omega (arith, low_by_type j p, low_by_type k q, e, h))
    (λ t. by_type j k p q e t))

-- The fields of a key's number are the key's.
use Rattle.std.proofs.Common.{◌≡◌, ◌<◌, ◌≤◌, ◌^◌, ◌+◌, ◌*◌, ◌/◌, ℕ, Bool, true, false, if◌then◌else◌, refl, sym, ap, ◌∙◌, arith, subst, ◌-◌}
use mathlib.Core.Logic.{⊎_elim}
use Rattle.std.proofs.lemmas.Bool.{cases_eq}
use Rattle.gfx_model.specs.Number.{bits_at}
use Rattle.gfx_model.specs.Views.{ViewMode, default_mode, sequential_mode, ascending_mode, descending_mode, KeyFields, key_fields, key_bits, position_bits}
use Rattle.sort_key.specs.Fields.{IsKeyFields, IsKey, number_bits, fields_of, fields_at}

pub bits_by_program : (k : KeyFields) → k.mode_type ≡ 0
    → key_bits k ≡ 36028797018963968 * k.position + 18014398509481984 + 0 + (1125899906842624 * k.blended + 2199023255552 * k.program + 512 * k.depth_field)
bits_by_program k e = rw e (omega arith)

pub bits_by_depth : (k : KeyFields) → k.mode_type ≡ 1
    → key_bits k ≡ 36028797018963968 * k.position + 18014398509481984 + 4503599627370496 + (1048576 * k.depth_field + 262144 * k.blended + 512 * k.program)
bits_by_depth k e = rw e (omega arith)

pub bits_by_number : (k : KeyFields) → k.mode_type ≡ 2
    → key_bits k ≡ 36028797018963968 * k.position + 18014398509481984 + 9007199254740992 + (8589934592 * k.number + 2147483648 * k.blended + 4194304 * k.program)
bits_by_number k e = rw e (omega arith)

same_fields : (j k : KeyFields) → j.position ≡ k.position → j.mode_type ≡ k.mode_type → j.blended ≡ k.blended → j.program ≡ k.program
    → j.depth_field ≡ k.depth_field → j.number ≡ k.number → j ≡ k
same_fields j k p t b g d n = λ i. record { position = p i; mode_type = t i; blended = b i; program = g i; depth_field = d i; number = n i }

again_by_program : (k : KeyFields) → IsKeyFields k → k.mode_type ≡ 0 → fields_of (key_bits k) ≡ k
again_by_program k h e =
    let b = bits_by_program k e in
    let t : bits_at (key_bits k) (61 - position_bits) 2 ≡ 0 = omega (arith, b, h.position, h.blended, h.program, h.depth) in
    ap (λ m. fields_at m (key_bits k)) t
    ∙ same_fields (fields_at 0 (key_bits k)) k
    (omega (arith, b, h.position, h.blended, h.program, h.depth))
    (sym e)
    (omega (arith, b, h.position, h.blended, h.program, h.depth))
    (omega (arith, b, h.position, h.blended, h.program, h.depth))
    (omega (arith, b, h.position, h.blended, h.program, h.depth))
    (sym (h.no_number (omega (arith, e))))

again_by_depth : (k : KeyFields) → IsKeyFields k → k.mode_type ≡ 1 → fields_of (key_bits k) ≡ k
again_by_depth k h e =
    let b = bits_by_depth k e in
    let t : bits_at (key_bits k) (61 - position_bits) 2 ≡ 1 = omega (arith, b, h.position, h.blended, h.program, h.depth) in
    ap (λ m. fields_at m (key_bits k)) t
    ∙ same_fields (fields_at 1 (key_bits k)) k
    (omega (arith, b, h.position, h.blended, h.program, h.depth))
    (sym e)
    (omega (arith, b, h.position, h.blended, h.program, h.depth))
    (omega (arith, b, h.position, h.blended, h.program, h.depth))
    (omega (arith, b, h.position, h.blended, h.program, h.depth))
    (sym (h.no_number (omega (arith, e))))

again_by_number : (k : KeyFields) → IsKeyFields k → k.mode_type ≡ 2 → fields_of (key_bits k) ≡ k
again_by_number k h e =
    let b = bits_by_number k e in
    let t : bits_at (key_bits k) (61 - position_bits) 2 ≡ 2 = omega (arith, b, h.position, h.blended, h.program, h.number) in
    ap (λ m. fields_at m (key_bits k)) t
    ∙ same_fields (fields_at 2 (key_bits k)) k
    (omega (arith, b, h.position, h.blended, h.program, h.number))
    (sym e)
    (omega (arith, b, h.position, h.blended, h.program, h.number))
    (omega (arith, b, h.position, h.blended, h.program, h.number))
    (sym (h.no_depth e))
    (omega (arith, b, h.position, h.blended, h.program, h.number))

pub fields-again : (k : KeyFields) → IsKeyFields k → fields_of (key_bits k) ≡ k
fields-again k h =
    ⊎_elim (again_by_program k h)
    (λ n. ⊎_elim (again_by_depth k h) (λ m. again_by_number k h (omega (arith, n, m, h.mode_type))) (cases_eq k.mode_type 1))
    (cases_eq k.mode_type 0)

-- the highest bits of a key's number are the position
top_is : (k : KeyFields) → IsKeyFields k → key_bits k / 2 ^ (64 - position_bits) ≡ k.position
top_is k h =
    ⊎_elim (λ e. let b = bits_by_program k e in omega (arith, b, h.position, h.blended, h.program, h.depth))
    (λ n. ⊎_elim (λ e. let b = bits_by_depth k e in omega (arith, b, h.position, h.blended, h.program, h.depth))
    (λ m. let b = bits_by_number k (omega (arith, n, m, h.mode_type)) in omega (arith, b, h.position, h.blended, h.program, h.number)) (cases_eq k.mode_type 1))
    (cases_eq k.mode_type 0)

pub top_told : (bits : ℕ) (k : KeyFields) → IsKey bits → fields_of bits ≡ k → key_bits k / 2 ^ (64 - position_bits) ≡ k.position
top_told bits k h e = top_is k (subst IsKeyFields e h.fields)

pub IsKey-from : (k : KeyFields) → IsKeyFields k → IsKey (key_bits k)
IsKey-from k h = record { fields = subst IsKeyFields (sym (fields-again k h)) h; whole = ap key_bits (fields-again k h) }

-- the fields of an item are fields of a key
pub IsKeyFields-key_fields : (m : ViewMode) (position blended program depth number : ℕ)
    → position < 2 ^ position_bits → blended ≤ 1 → program ≤ 511 → depth < 2 ^ 32 → number < 2 ^ number_bits → IsKeyFields (key_fields m position blended program depth number)
IsKeyFields-key_fields default_mode position blended program depth number p b g d n = record {
  position = p;
  mode_type = omega arith;
  blended = b;
  program = omega (arith, g);
  depth = d;
  number = omega arith;
  no_depth = λ e. omega (arith, e);
  no_number = λ e. refl;
}
IsKeyFields-key_fields sequential_mode position blended program depth number p b g d n = record {
  position = p;
  mode_type = omega arith;
  blended = b;
  program = omega (arith, g);
  depth = omega arith;
  number = n;
  no_depth = λ e. refl;
  no_number = λ e. omega (arith, e);
}
IsKeyFields-key_fields ascending_mode position blended program depth number p b g d n = record {
  position = p;
  mode_type = omega arith;
  blended = b;
  program = omega (arith, g);
  depth = d;
  number = omega arith;
  no_depth = λ e. omega (arith, e);
  no_number = λ e. refl;
}
IsKeyFields-key_fields descending_mode position blended program depth number p b g d n = record {
  position = p;
  mode_type = omega arith;
  blended = b;
  program = omega (arith, g);
  depth = omega (arith, d);
  number = omega arith;
  no_depth = λ e. omega (arith, e);
  no_number = λ e. refl;
}

pub one_bit : (b : Bool) → (if b then 1 else 0) ≤ 1
one_bit true = omega arith
one_bit false = omega arith

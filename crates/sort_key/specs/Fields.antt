-- The fields of a key's number.
use Rattle.std.specs.Prelude.{ℕ, ◌≡◌, ◌≤◌, ◌<◌, ◌-◌, ◌/◌, ◌^◌, ◌==◌, if◌then◌else◌}
use Rattle.gfx_model.specs.Number.{bits_at}
use Rattle.gfx_model.specs.Views.{KeyFields, key_bits, position_bits}

-- how many bits an item's number within its frame has in a key
abbrev pub number_bits : ℕ
number_bits = 19

-- what the fields of a key can be; one that the type does not hold is 0
pub record IsKeyFields (k : KeyFields) : Type 0 where
  pub position : k.position < 2 ^ position_bits
  pub mode_type : k.mode_type ≤ 2
  pub blended : k.blended ≤ 1
  pub program : k.program < 2 ^ 9
  pub depth : k.depth_field < 2 ^ 32
  pub number : k.number < 2 ^ number_bits
  pub no_depth : k.mode_type ≡ 2 → k.depth_field ≡ 0
  pub no_number : k.mode_type ≤ 1 → k.number ≡ 0

-- the fields that stand in a number, each at the place that its type gives it
abbrev pub fields_at : ℕ → ℕ → KeyFields
fields_at mode_type bits =
    if mode_type == 0 then record {
      position = bits / 2 ^ (64 - position_bits);
      mode_type = mode_type;
      blended = bits_at bits (59 - position_bits) 2;
      program = bits_at bits (50 - position_bits) 9;
      depth_field = bits_at bits (18 - position_bits) 32;
      number = 0;
    }
    else (if mode_type == 1 then record {
      position = bits / 2 ^ (64 - position_bits);
      mode_type = mode_type;
      blended = bits_at bits (27 - position_bits) 2;
      program = bits_at bits (18 - position_bits) 9;
      depth_field = bits_at bits (29 - position_bits) 32;
      number = 0;
    }
    else record {
      position = bits / 2 ^ (64 - position_bits);
      mode_type = mode_type;
      blended = bits_at bits 31 2;
      program = bits_at bits 22 9;
      depth_field = 0;
      number = bits_at bits 33 number_bits;
    })

-- the fields of a key, by its type
abbrev pub fields_of : ℕ → KeyFields
fields_of bits = fields_at (bits_at bits (61 - position_bits) 2) bits

-- a number that is the key of its fields
pub record IsKey (bits : ℕ) : Type 0 where
  pub fields : IsKeyFields (fields_of bits)
  pub whole : key_bits (fields_of bits) ≡ bits

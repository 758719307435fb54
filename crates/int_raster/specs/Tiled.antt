-- Words of texels, and stored depths that lie side by side.
use Rattle.std.specs.Prelude.{◌+◌, ◌-◌, ◌%◌, ◌^◌, ℕ, Bool, ◌&&◌, nat_le, bit_and}
use Rattle.std.specs.Int.{w32, to_le_bytes}
use Rattle.gfx_model.specs.Vertex.{Color}

-- the four bytes of a word, the lowest first
abbrev pub word_bytes : ℕ → Color
word_bytes n = to_le_bytes w32 n

-- some bits of a word, and a number that comes to them
abbrev pub deep_word : (bits depth word : ℕ) → ℕ
deep_word bits depth word = (bit_and word bits + depth) % 2 ^ 32

-- whether a stored depth is the least of some that lie side by side, or one of so many more
abbrev pub is_among : (least more stored : ℕ) → Bool
is_among least more stored = nat_le least stored && nat_le stored (least + more)

-- whether a stored depth lies behind a new one by a least distance or one of so many more, all around 2^32
abbrev pub is_within : (least more new stored : ℕ) → Bool
is_within least more new stored = nat_le (((stored + (2 ^ 32 - new)) % 2 ^ 32 + (2 ^ 32 - least)) % 2 ^ 32) more

-- some bits of a word, and some of a new depth
abbrev pub deep_of : (bits taken new word : ℕ) → ℕ
deep_of bits taken new word = (bit_and word bits + bit_and new taken) % 2 ^ 32

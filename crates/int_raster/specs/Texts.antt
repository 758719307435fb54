-- The text of texels' colours.
use Rattle.std.specs.Prelude.{◌≡◌, ◌+◌, ◌%◌, ◌^◌, ℕ, Bool, List, Option, Some, None, is_some, take, flat_map, sum, IfSome}
use Rattle.gfx_model.specs.Vertex.{Color}

-- a text is red, green and blue of each colour, and its sum modulo 2^32 is told where it is wanted
abbrev pub IsWritten : (wants_sum : Bool) → Option ℕ → List Color → List ℕ → Type 0
IsWritten wants_sum told colors text = (text ≡ flat_map (take 3) colors) × (is_some told ≡ wants_sum) × IfSome told (λ total. total ≡ sum text % 2 ^ 32)

-- the sum of two texts modulo 2^32, where those of both are told
abbrev pub both_told : Option ℕ → Option ℕ → Option ℕ
both_told None second = None
both_told (Some first) None = None
both_told (Some first) (Some second) = Some ((first + second) % 2 ^ 32)

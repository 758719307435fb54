-- What a source and a sink in memory tell.
use Rattle.std.specs.Prelude.{◌==◌, if◌then◌else◌, ◌||◌, ◌%◌, ◌^◌, nat_le, ℕ, Bool, List, length, sum, drop, Option, Some, None}
use Rattle.io_edge.specs.Calls.{is_listed}

-- the bytes from a place on
abbrev pub bytes_from : ℕ → List ℕ → Option (List ℕ)
bytes_from at bytes = Some (drop at bytes)

-- the number of the bytes modulo 2^64 and their sum modulo 2^32
abbrev pub tally_of : List ℕ → Option (ℕ × ℕ)
tally_of bytes = Some (length bytes % 2 ^ 64, sum bytes % 2 ^ 32)

-- the capacity, where no calls fail
abbrev pub sure_of : List ℕ → ℕ → Option ℕ
sure_of fails capacity = if length fails == 0 then Some capacity else None

-- whether a put fails: its call is listed, or the capacity is used up
abbrev pub put_fails : List ℕ → ℕ → ℕ → List ℕ → Bool
put_fails fails call capacity bytes = is_listed fails call || nat_le capacity (length bytes)

-- Reading from left to right: the picture at the front of bytes, and the bytes behind it.
use Rattle.std.specs.Prelude.{ℕ, ◌*◌, ◌==◌, nat_le, nat_lt, if◌then◌else◌, List, [], ◌∷◌, length, take, drop, codes, bytes_eq, Option, Some, None}
use Rattle.std.specs.List.{prefix_len}
use Rattle.picture_diff.specs.Picture.{Picture}
use Rattle.picture_diff.specs.Numbers.{is_digit, number}

infixl 10 ◌>>=◌
-- what is read, handed on
abbrev pub ◌>>=◌ : {A B : Type 0} → Option A → (A → Option B) → Option B
(Some x) >>= f = f x
None >>= f = None

-- the bytes behind these, which stand at the front
unfoldable pub behind : (word bytes : List ℕ) → Option (List ℕ)
behind word bytes = if nat_lt (length bytes) (length word) then None else (if bytes_eq (take (length word) bytes) word then Some (drop (length word) bytes) else None)

-- a side, and the bytes behind it and behind the byte that ends it
unfoldable pub side_at : (end bytes : List ℕ) → Option (ℕ × List ℕ)
side_at end bytes = do
  rest ← behind end (drop (prefix_len is_digit bytes) bytes)
  side ← number 65535 (take (prefix_len is_digit bytes) bytes)
  if nat_le 1 side then Some (side, rest) else None

-- the sides, and the bytes behind the head
pub record Head : Type 0 where
  pub width : ℕ
  pub height : ℕ
  pub rest : List ℕ

unfoldable pub head_at : List ℕ → Option Head
head_at bytes = do
  sides ← behind (codes "P6\n") bytes
  width ← side_at (codes " ") sides
  height ← side_at (codes "\n") width.1
  rest ← behind (codes "255\n") height.1
  Some (record { width = width.0; height = height.0; rest = rest })

-- the picture with this head, and the bytes behind it
abbrev pub cut : Head → Option (Picture × List ℕ)
cut h =
    if nat_lt (length h.rest) (3 * (h.width * h.height)) then None
    else Some (record { width = h.width; height = h.height; bytes = take (3 * (h.width * h.height)) h.rest }, drop (3 * (h.width * h.height)) h.rest)

-- the picture at the front, and the bytes behind it
unfoldable pub picture_at : List ℕ → Option (Picture × List ℕ)
picture_at bytes = head_at bytes >>= cut

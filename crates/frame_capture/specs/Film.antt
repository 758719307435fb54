-- Pictures of one size, and the texts that stand for them.
use Rattle.std.specs.Prelude.{◌≡◌, ◌≤◌, ◌+◌, ◌*◌, ℕ, List, [], ◌∷◌, ◌++◌, length, flat_map, decimal, codes}
use Rattle.std.specs.List.{AllByRecursion}
use Rattle.frame_capture.specs.declared.run.Color.{Color}

-- pictures of one size, each as the colours of its pixels from the top, row by row
pub record Film : Type 0 where
  pub width : ℕ
  pub height : ℕ
  pub pictures : List (List Color)

-- red, green and blue
abbrev pub color_bytes : Color → List ℕ
color_bytes c = c.red ∷ c.green ∷ c.blue ∷ []

-- the head of a picture text, in the P6 format of Netpbm
abbrev pub text_head : (width height : ℕ) → List ℕ
text_head width height = codes "P6\n" ++ (decimal width ++ (codes " " ++ (decimal height ++ codes "\n255\n")))

-- a picture text: the head, and the colours of the pixels
abbrev pub picture_text : (width height : ℕ) → List Color → List ℕ
picture_text width height picture = text_head width height ++ flat_map color_bytes picture

-- the joined picture texts
abbrev pub texts : Film → List ℕ
texts f = flat_map (picture_text f.width f.height) f.pictures

-- the bytes of a picture text of these sides
abbrev pub text_length : (width height : ℕ) → ℕ
text_length width height = length (text_head width height) + 3 * (width * height)

-- a side of a picture
abbrev pub IsSide : ℕ → Type 0
IsSide n = (1 ≤ n) × (n ≤ 2048)

-- the pictures are whole, 1 to 1,024, and have at most 134,217,728 bytes of texts
pub record CanBeCaptured (f : Film) : Type 0 where
  pub sides : IsSide f.width × IsSide f.height
  pub count : (1 ≤ length f.pictures) × (length f.pictures ≤ 1024)
  pub whole : AllByRecursion (λ p. length p ≡ f.width * f.height) f.pictures
  pub short : length (texts f) ≤ 134217728

-- Where two pictures differ, and by how much.
use Rattle.std.specs.Prelude.{◌≡◌, ◌≤◌, ◌+◌, ◌*◌, ℕ, Bool, nat_lt, List, [], ◌∷◌, fold, filter, flat_map, length, map, max, min, slice_index, Option, Some, None}
use Rattle.std.specs.Int.{abs_diff}
use Rattle.std.specs.List.{range_with_len}
use Rattle.picture_diff.specs.Picture.{Picture}
use Rattle.picture_diff.specs.declared.difference.Place.{Place}
use Rattle.picture_diff.specs.declared.difference.Spread.{Spread}
use Rattle.picture_diff.specs.declared.difference.Difference.{Difference}

-- how far the pixels of three bytes from a place on are apart: the greatest difference of a channel
abbrev pub pixels_apart : (one other : List ℕ) → (at : ℕ) → ℕ
pixels_apart one other at =
    max (abs_diff (slice_index one at) (slice_index other at))
    (max (abs_diff (slice_index one (at + 1)) (slice_index other (at + 1))) (abs_diff (slice_index one (at + 2)) (slice_index other (at + 2))))

-- the first byte of the pixel in this column and row
abbrev pub pixel_at : (width : ℕ) → Place → ℕ
pixel_at width place = 3 * (place.y * width + place.x)

abbrev pub place_at : (x y : ℕ) → Place
place_at x y = record { x = x; y = y }

-- the places of a row, from the left
abbrev pub row : (width y : ℕ) → List Place
row width y = map (λ x. place_at x y) (range_with_len 0 width)

-- the places of a picture in reading order
abbrev pub places : (width height : ℕ) → List Place
places width height = flat_map (row width) (range_with_len 0 height)

-- the pixels at a place of pictures so wide are more than `near` apart
abbrev pub differs_at : (near width : ℕ) → (one other : List ℕ) → Place → Bool
differs_at near width one other place = nat_lt near (pixels_apart one other (pixel_at width place))

-- the places at which two pictures differ, in reading order
abbrev pub differing : (near : ℕ) → (p q : Picture) → List Place
differing near p q = filter (differs_at near p.width p.bytes q.bytes) (places p.width p.height)

-- the least and the greatest of a number and of others
abbrev pub least : ℕ → List ℕ → ℕ
least n ns = fold min n ns

abbrev pub greatest : ℕ → List ℕ → ℕ
greatest n ns = fold max n ns

-- the first place, and the least box that has all of them
abbrev pub spread_of : List Place → Option Spread
spread_of [] = None
spread_of (first ∷ others) = Some (record {
  first = first;
  left = least first.x (map (λ place. place.x) others);
  top = least first.y (map (λ place. place.y) others);
  right = greatest first.x (map (λ place. place.x) others);
  bottom = greatest first.y (map (λ place. place.y) others);
})

-- the greatest difference of two channels at one place
abbrev pub most_apart : (one other : List ℕ) → ℕ
most_apart (a ∷ one) (b ∷ other) = max (abs_diff a b) (most_apart one other)
most_apart one other = 0

-- how many pixels there are, how many differ, the greatest difference of a channel, and where the differing pixels are
abbrev pub difference : (near : ℕ) → (p q : Picture) → Difference
difference near p q = record {
  pixels = p.width * p.height;
  differ = length (differing near p q);
  most = most_apart p.bytes q.bytes;
  spread = spread_of (differing near p q);
}

-- each channel of one picture is within `near` of the other's
abbrev pub AreNear : (near : ℕ) → (p q : Picture) → Type 0
AreNear near p q = (i : ℕ) → abs_diff (slice_index p.bytes i) (slice_index q.bytes i) ≤ near

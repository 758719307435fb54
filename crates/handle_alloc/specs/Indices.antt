-- The indices below a limit, each given or free.
use Rattle.std.specs.Prelude.{ℕ, ◌≡◌, ◌<◌, ◌≤◌, ◌^◌, List, ◌∷◌, length, slice_index}
use Rattle.std.specs.List.{Contains}

-- the free indices as a stack, the one that is given next first
pub record Indices : Type 0 where
  pub limit : ℕ
  pub free : List ℕ

-- with an index put on top of the stack
abbrev pub with_free : ℕ → Indices → Indices
with_free index a = record a { free = index ∷ a.free }

-- an index below the limit that is not free
abbrev pub IsGiven : Indices → ℕ → Type 0
IsGiven a index = (index < a.limit) × ¬ Contains a.free index

-- what every stack keeps: the free indices are below the limit, and none stands in it twice
pub record IsStack (a : Indices) : Type 0 where
  pub fits : a.limit < 2 ^ 16
  pub few : length a.free ≤ a.limit
  pub below : (i : ℕ) → i < length a.free → slice_index a.free i < a.limit
  pub once : (i j : ℕ) → i < length a.free → j < length a.free → slice_index a.free i ≡ slice_index a.free j → i ≡ j

-- two lists are each other's inverse: the index that stands at a place has that place, and the other way round
pub record IsPaired (order places : List ℕ) : Type 0 where
  pub lengths : length places ≡ length order
  pub index_within : (place : ℕ) → place < length order → slice_index order place < length order
  pub place_within : (index : ℕ) → index < length order → slice_index places index < length order
  pub place_of_index : (place : ℕ) → place < length order → slice_index places (slice_index order place) ≡ place
  pub index_at_place : (index : ℕ) → index < length order → slice_index order (slice_index places index) ≡ index

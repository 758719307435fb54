-- The order of the views, and the two lists that keep it.
use Rattle.std.specs.Prelude.{ℕ, ◌≡◌, ◌<◌, ◌≤◌, Bool, true, false, not, List, ◌++◌, length, take, filter, slice_index, slice_index_or}
use Rattle.std.specs.List.{range_with_len}
use Rattle.gfx_model.specs.Number.{is_among, is_without_repeat, place_of}
use Rattle.gfx_model.specs.Views.{Views, IsViewCount, view_count, view_order}

-- the listed views, then the others below a count ascending
abbrev pub in_order : ℕ → List ℕ → List ℕ
in_order count listed = listed ++ filter (λ v. not (is_among v listed)) (range_with_len 0 count)

-- the numbers below a count that a list of tests does not name
abbrev pub is_unnamed : List Bool → ℕ → Bool
is_unnamed named v = not (slice_index_or named v false)

-- the views that no list names, ascending
abbrev pub unnamed : List Bool → ℕ → List ℕ
unnamed named count = filter (is_unnamed named) (range_with_len 0 count)

-- each is the number of a view
abbrev pub AreBelow : ℕ → List ℕ → Type 0
AreBelow count xs = (i : ℕ) → i < length xs → slice_index xs i < count

-- the views in their order, the first of them listed, and the position of each
pub record IsOrder (count listed : ℕ) (sequence positions : List ℕ) : Type 0 where
  pub sequence_length : length sequence ≡ count
  pub positions_length : length positions ≡ count
  pub room : listed ≤ count
  pub below : AreBelow count (take listed sequence)
  pub distinct : is_without_repeat (take listed sequence) ≡ true
  pub ordered : sequence ≡ in_order count (take listed sequence)
  pub placed : (view : ℕ) → view < count → slice_index positions view ≡ place_of view sequence

-- what every table keeps: one of the two numbers of views, and an order in which each view stands once
pub record IsViewTable (vs : Views) : Type 0 where
  pub count : IsViewCount (view_count vs)
  pub listed : length vs.order ≤ view_count vs
  pub listed_below : AreBelow (view_count vs) vs.order
  pub listed_once : is_without_repeat vs.order ≡ true
  pub ordered : length (view_order vs) ≡ view_count vs
  pub below : AreBelow (view_count vs) (view_order vs)
  pub once : is_without_repeat (view_order vs) ≡ true

-- Runs of lists that ascend by positions.
use Rattle.std.specs.Prelude.{◌≡◌, ℕ, ◌≤◌, ◌==◌, List, map, filter, drop, length}
use Rattle.frame_record.specs.Ordered.{AscendFrom}

-- from a place on a list has what stands at a position and later ones, ascending
pub record RunsFrom {X : Type 0} (pos : X → ℕ) (from p : ℕ) (xs : List X) : Type 0 where
  pub within : from ≤ length xs
  pub up : AscendFrom p (map pos (drop from xs))
  pub later : (q : ℕ) → p ≤ q → filter (λ x. pos x == q) xs ≡ filter (λ x. pos x == q) (drop from xs)

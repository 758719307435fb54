-- How rows are shared out.
use Rattle.std.specs.Prelude.{◌≡◌, ◌*◌, ◌/◌, ℕ}

-- of so many rows the share is that of a part of a whole, rounded down
unfoldable pub IsShare : (part whole rows share : ℕ) → Type 0
IsShare part whole rows share = share ≡ rows * part / whole

-- Modes of views by numbers.
use Rattle.std.specs.Prelude.{ℕ, ◌==◌, if◌then◌else◌, Option, Some, None}
use Rattle.gfx_model.specs.Views.{ViewMode, default_mode, sequential_mode, ascending_mode, descending_mode}

-- the mode of a number
abbrev pub mode_of_number : ℕ → Option ViewMode
mode_of_number n =
    if n == 0 then Some default_mode
    else (if n == 1 then Some sequential_mode
    else (if n == 2 then Some ascending_mode
    else (if n == 3 then Some descending_mode else None)))

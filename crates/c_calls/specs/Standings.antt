-- How a context stands.
use Rattle.std.specs.Prelude.{◌≡◌, Bool, true, false, None}
use Rattle.atomic_table.specs.Seated.{TableId}
use Rattle.letter_boxes.specs.Letters.{Letter, IsOf}
use Rattle.c_calls.specs.declared.standing.Standing.{Standing}
use Rattle.c_calls.specs.declared.standing.Standing.TheVariants.{Open, Unshown, GivenUp}

-- whether encoders begin and frames end
abbrev pub is_open : Standing → Bool
is_open Open = true
is_open Unshown = false
is_open (GivenUp l) = false

-- how a context stands after a frame that was shown, or not
abbrev pub stands : Bool → Standing
stands true = Open
stands false = Unshown

-- a letter of a table, which says that its encoder was given up
abbrev pub SaysGivenUp : TableId → Letter → Type 0
SaysGivenUp table l = IsOf table l × (l.0 ≡ None)

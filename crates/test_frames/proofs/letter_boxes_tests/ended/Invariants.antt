use Rattle.std.specs.Prelude.{◌≡◌}
use Rattle.test_frames.proofs.letter_boxes_tests.ended.Given as goal

abbrev pub ghosts-posted : goal.ghosts-posted
ghosts-posted a = record { posted = λ e f items d. d ≡ 9; given_up = λ e f. Unit {0} }

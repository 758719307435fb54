-- An input of more than 16 MiB is refused, and every other one is not refused for its length.
use Rattle.std.proofs.Common.{◌≡◌, ◌<◌, ◌≤◌, nat_lt, ℕ, true, false, cond, List, length, arith, ap}
use Rattle.std.proofs.lemmas.Bool.Decides.{nat_tests}
use Rattle.scene_model.specs.Output.{length_line}
use Rattle.scene_model.specs.Run.{Run, input_too_long, longest_input, refused, within_length}

pub too-long : (bytes : List ℕ) (run : Run) → 16777216 < length bytes → within_length bytes run ≡ refused input_too_long length_line
too-long bytes run h =
    let test : nat_lt longest_input (length bytes) ≡ true = grind (arith, nat_tests, h) in
    ap (λ b. cond b (refused input_too_long length_line) run) test

pub not-too-long : (bytes : List ℕ) (run : Run) → length bytes ≤ 16777216 → within_length bytes run ≡ run
not-too-long bytes run h =
    let test : nat_lt longest_input (length bytes) ≡ false = grind (arith, nat_tests, h) in
    ap (λ b. cond b (refused input_too_long length_line) run) test

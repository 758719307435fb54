-- How many digits a number has.
use Rattle.std.proofs.Common.{◌≡◌, ℕ, ◌+◌, ◌^◌, ◌<◌, ◌≤◌, length, arith, inl, inr}
use Rattle.std.specs.Prelude.{decimal}
use Rattle.std.specs.Str.{all_ascii_digits}
use Rattle.std.specs.Str.Parse.{digits_value}
use Rattle.std.proofs.Common.{true}
use Rattle.std.proofs.lemmas.Bool.{cases_lt}
use Rattle.std.proofs.lemmas.Str.Parse.{IsNumeralModel, numerals_by_value, tells_all_ascii_digits, digits_value_short}
use Rattle.std.proofs.lemmas.Fmt.{decimal_nonempty, digits_decimal, digits_value-decimal, length-decimal-le}

own : IsNumeralModel (λ ds. all_ascii_digits ds ≡ true) (digits_value 10)
own = numerals_by_value _ tells_all_ascii_digits

pub one-digit : (n : ℕ) → n < 10 → 1 ≡ length (decimal n)
one-digit n few = omega (arith, few, length-decimal-le 1 n (omega arith) (omega arith) (omega arith), decimal_nonempty n (omega arith))

more-than : (k n : ℕ) → 10 ^ k ≤ n → n < 2 ^ 64 → k < length (decimal n)
more-than k n many small =
    elim (cases_lt k (length (decimal n))) [
      | inl lt ↦ lt
      | inr le ↦ absurd (omega (arith, many, digits_value_short own (decimal n) k (digits_decimal own n small) le, digits_value-decimal own n small))
    ]

pub more-digits : (k n : ℕ) → 10 ^ k ≤ n → n < 10 ^ (k + 1) → n < 2 ^ 64 → k + 1 ≡ length (decimal n)
more-digits k n many few small = omega (arith, more-than k n many small, length-decimal-le (k + 1) n (omega arith) few small)

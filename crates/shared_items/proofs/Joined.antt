-- Pieces of lines, put one after another.
use Rattle.std.proofs.Common.{◌≡◌, ℕ, List, [], ◌++◌, ap, ◌∙◌}
use Rattle.std.proofs.lemmas.List.{append_assoc, append-nil}

-- two pieces more
pub two_more : (old a b one two : List ℕ) → one ≡ old ++ a → two ≡ one ++ b → two ≡ old ++ (a ++ b)
two_more old a b one two e f = f ∙ ap (λ (x : List ℕ). x ++ b) e ∙ append_assoc old a b

-- four pieces more
pub four_more : (old a b c d one two three four : List ℕ) → one ≡ old ++ a → two ≡ one ++ b → three ≡ two ++ c → four ≡ three ++ d → four ≡ old ++ (a ++ (b ++ (c ++ d)))
four_more old a b c d one two three four e f g h =
    two_more old a (b ++ (c ++ d)) one four e (two_more one b (c ++ d) two four f (two_more two c d three four g h))

-- the lines of one view are its line
pub one_line : (old line new : List ℕ) → new ≡ old ++ (line ++ []) → new ≡ old ++ line
one_line old line new e = e ∙ ap (λ (x : List ℕ). old ++ x) (append-nil line)

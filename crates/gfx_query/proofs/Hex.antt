-- Bytes of pairs of digits, read one after the other.
use Rattle.std.proofs.Common.{◌≡◌, ℕ, ◌≤◌, length, drop, get_or, arith, List, [], ◌∷◌, ◌++◌, append_assoc, Option, Some, None, Ok, Err, refl, ap, sym, ◌∙◌}
use Rattle.std.proofs.lemmas.Option.{none-some}
use Rattle.scene_model.specs.Field.{Read, ◌>>=◌, hex_byte, hex_pairs}
use Rattle.gfx_query.specs.Text.{some_read}

-- bytes in front of those that are read
abbrev pub behind : List ℕ → Option (List ℕ) → Option (List ℕ)
behind front None = None
behind front (Some bytes) = Some (front ++ bytes)

abbrev consed : Option ℕ → List ℕ → Option (List ℕ)
consed None ws = None
consed (Some w) ws = Some (w ∷ ws)

-- one pair more
pub pair_more : (front rest : List ℕ) (a b v : ℕ) → some_read (hex_byte a b) ≡ Some v → behind front (some_read (hex_pairs (a ∷ b ∷ rest))) ≡ behind (front ++ v ∷ []) (some_read (hex_pairs rest))
pair_more front rest a b v e = by (hex_byte a b) (hex_pairs rest) e
  where
    by : (x : Read ℕ) (y : Read (List ℕ)) → some_read x ≡ Some v → behind front (some_read (x >>= λ w. y >>= λ ws. Ok (w ∷ ws))) ≡ behind (front ++ v ∷ []) (some_read y)
    by (Ok w) (Ok ws) e = ap (λ (o : Option ℕ). behind front (consed o ws)) e ∙ ap Some (sym (append_assoc front (v ∷ []) ws))
    by (Ok w) (Err c) e = refl
    by (Err c) y e = absurd (none-some v e)

-- a pair that is none
pub pair_none : (front rest : List ℕ) (a b : ℕ) → some_read (hex_byte a b) ≡ None → None ≡ behind front (some_read (hex_pairs (a ∷ b ∷ rest)))
pair_none front rest a b e = by (hex_byte a b) e
  where
    by : (x : Read ℕ) → some_read x ≡ None → None ≡ behind front (some_read (x >>= λ w. hex_pairs rest >>= λ ws. Ok (w ∷ ws)))
    by (Ok w) e = absurd (none-some w (sym e))
    by (Err c) e = refl

-- one pair more of what is left
pub pair_step : (front xs : List ℕ) (whole : Option (List ℕ)) (v : ℕ) → 2 ≤ length xs → some_read (hex_byte (get_or xs 0 0) (get_or xs 1 0)) ≡ Some v
    → whole ≡ behind front (some_read (hex_pairs xs)) → whole ≡ behind (front ++ v ∷ []) (some_read (hex_pairs (drop 2 xs)))
pair_step front [] whole v le e is = absurd (omega (arith, le))
pair_step front (a ∷ []) whole v le e is = absurd (omega (arith, le))
pair_step front (a ∷ b ∷ rest) whole v le e is = is ∙ pair_more front rest a b v e

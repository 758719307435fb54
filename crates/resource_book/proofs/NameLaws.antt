-- What a map of names finds, and what it finds after a change of one name.
use Rattle.std.proofs.Common.{◌≡◌, ℕ, Bool, true, false, cond, if◌then◌else◌, List, [], ◌∷◌, map, Option, Some, Vec, Global, bytes_eq, refl, ap, sym, ◌∙◌}
use Rattle.std.specs.Map.{lookup, KeepsOthers}
use Rattle.std.proofs.lemmas.Slice.Eq.{bytes_eq-Decides}
use Rattle.resource_book.specs.Names.{entry_seen, index_in}

abbrev pub Entries : Type 0
Entries = List (Vec ℕ Global × ℕ)

-- whether a key is a name
abbrev pub is_key : List ℕ → Vec ℕ Global → Bool
is_key name k = bytes_eq name k.items

-- whether two keys are the same name
abbrev pub same_key : Vec ℕ Global → Vec ℕ Global → Bool
same_key k j = bytes_eq k.items j.items

pub seen_index : (name : List ℕ) (es : Entries) → lookup (is_key name) es ≡ index_in (map entry_seen es) name
seen_index name [] = refl
seen_index name (e ∷ es) = ap (cond (bytes_eq name e.0.items) (Some e.1)) (seen_index name es)

other_name : (name other : List ℕ) → bytes_eq name other ≡ false → bytes_eq other name ≡ false
other_name name other e = by (bytes_eq other name) refl where
  by : (b : Bool) → bytes_eq other name ≡ b → b ≡ false
  by true h = absurd (cc (sym ((bytes_eq-Decides name other).1 (sym ((bytes_eq-Decides other name).0 h))) ∙ e))
  by false h = refl

pub updated : (name : List ℕ) (w : Option ℕ) (old new : Entries) → lookup (is_key name) new ≡ w → KeepsOthers same_key (is_key name) old new
    → (other : List ℕ) → index_in (map entry_seen new) other ≡ (if bytes_eq name other then w else index_in (map entry_seen old) other)
unfolding KeepsOthers
updated name w old new own keeps other = sym (seen_index other new) ∙ by (bytes_eq name other) refl where
  by : (b : Bool) → bytes_eq name other ≡ b → lookup (is_key other) new ≡ (if b then w else index_in (map entry_seen old) other)
  by true e = ap (λ n. lookup (is_key n) new) (sym ((bytes_eq-Decides name other).0 e)) ∙ own
  by false e =
      keeps (is_key other) (λ x y h. ap (λ n. bytes_eq n y.items) ((bytes_eq-Decides other x.items).0 h))
      (λ k h. ap (bytes_eq other) (sym ((bytes_eq-Decides name k.items).0 h)) ∙ other_name name other e)
      ∙ seen_index other old

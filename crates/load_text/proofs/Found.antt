-- What a set of names finds is what the list of bound names says.
use Rattle.std.proofs.Common.{◌≡◌, ℕ, suc, ◌+◌, Bool, true, false, not, nat_lt, cond, List, [], ◌∷◌, ◌++◌, length, map, Option, Some, None, Ok, Err, option_map, Vec, Global, position, bytes_eq, refl, ap, sym, ◌∙◌, arith}
use Rattle.std.specs.List.{position_or_len}
use Rattle.std.proofs.lemmas.Bool.Decides.{nat_tests}
use Rattle.std.proofs.lemmas.List.{map_push}
use Rattle.scene_model.specs.Field.{BoundName, find_name, is_name, used_name, create_name, name_is_not_bound, name_is_bound}
use Rattle.load_text.specs.SeenNames.{name_seen}
use Rattle.load_text.specs.Text.{some_read, names_read, with_name, place_of}

next_lt : (a b : ℕ) → nat_lt (1 + a) (suc b) ≡ nat_lt a b
next_lt a b = grind (arith, nat_tests)

above_zero : (b : ℕ) → nat_lt 0 (suc b) ≡ true
above_zero b = grind (arith, nat_tests)

position_next : {X : Type 0} (p : X → Bool) (x : X) (xs : List X) → position p (x ∷ xs) ≡ cond (p x) (Some 0) (option_map (λ i. 1 + i) (position p xs))
position_next p x xs = by (p x) (position_or_len p xs)
  where
    choice : (b : Bool) (k : ℕ) → cond b (Some (1 + k)) None ≡ option_map (λ i. 1 + i) (cond b (Some k) None)
    choice true k = refl
    choice false k = refl

    by : (b : Bool) (k : ℕ) → cond (nat_lt (cond (not b) (1 + k) 0) (suc (length xs))) (Some (cond (not b) (1 + k) 0)) None ≡ cond b (Some 0) (option_map (λ i. 1 + i) (cond (nat_lt k (length xs)) (Some k) None))
    by true k = ap (λ b. cond b (Some 0) None) (above_zero (length xs))
    by false k = ap (λ b. cond b (Some (1 + k)) None) (next_lt k (length xs)) ∙ choice (nat_lt k (length xs)) k

-- the names of a set, in their order
abbrev pub Keys : Type 0
Keys = List (Vec ℕ Global)

abbrev pub place_in : List ℕ → Keys → Option ℕ
place_in f ks = position (λ k. bytes_eq f k.items) ks

abbrev found_at : ℕ → Option ℕ → Option (ℕ × Bool)
found_at n None = None
found_at n (Some i) = Some (n + i, false)

found : (f : List ℕ) (n : ℕ) (ks : Keys) → find_name n (map name_seen ks) f ≡ found_at n (place_in f ks)
found f n [] = refl
found f n (k ∷ ks) = sym (ap (found_at n) (position_next (λ k. bytes_eq f k.items) k ks) ∙ by (bytes_eq f k.items) (found f (n + 1) ks))
  where
    shifted : (o : Option ℕ) → found_at n (option_map (λ i. 1 + i) o) ≡ found_at (n + 1) o
    shifted None = refl
    shifted (Some i) = let e : n + (1 + i) ≡ n + 1 + i = omega arith in rw e refl

    by : (b : Bool) → find_name (n + 1) (map name_seen ks) f ≡ found_at (n + 1) (place_in f ks) → found_at n (cond b (Some 0) (option_map (λ i. 1 + i) (place_in f ks))) ≡ cond b (Some (n, false)) (find_name (n + 1) (map name_seen ks) f)
    by true h = let e : n + 0 ≡ n = omega arith in ap (λ m. Some (m, false)) e
    by false h = shifted (place_in f ks) ∙ sym h

abbrev found_here : Option ℕ → Option (ℕ × Bool)
found_here None = None
found_here (Some i) = Some (i, false)

from_start : (f : List ℕ) (ks : Keys) → find_name 0 (map name_seen ks) f ≡ found_here (place_in f ks)
from_start f ks = found f 0 ks ∙ same (place_in f ks)
  where
    same : (o : Option ℕ) → found_at 0 o ≡ found_here o
    same None = refl
    same (Some i) = let e : 0 + i ≡ i = omega arith in ap (λ m. Some (m, false)) e

-- a name that is used
pub used_found : (f : List ℕ) (ks : Keys) (i : ℕ) → is_name f ≡ true → place_in f ks ≡ Some i → used_name (map name_seen ks) f ≡ Ok i
used_found f ks i n p = rw (n, from_start f ks, p) refl

pub used_none : (f : List ℕ) (ks : Keys) → is_name f ≡ true → place_in f ks ≡ None → used_name (map name_seen ks) f ≡ Err name_is_not_bound
used_none f ks n p = rw (n, from_start f ks, p) refl

-- a name that is bound
pub create_bound : (f : List ℕ) (ks : Keys) (i : ℕ) → is_name f ≡ true → place_in f ks ≡ Some i → create_name (map name_seen ks) false f ≡ Err name_is_bound
create_bound f ks i n p = rw (n, from_start f ks, p) refl

-- a name that is new
pub create_new : (f : List ℕ) (ks : Keys) → is_name f ≡ true → place_in f ks ≡ None → create_name (map name_seen ks) false f ≡ Ok (length (map name_seen ks), map name_seen ks ++ record { text = f; by_uniform = false } ∷ [])
create_new f ks n p = rw (n, from_start f ks, p) refl

abbrev the_name : List ℕ → BoundName
the_name w = record { text = w; by_uniform = false }

-- the names with a new one at the end
pub names_more : (f : List ℕ) (t : Vec ℕ Global) (ks new : Keys) → t.items ≡ f → new ≡ ks ++ t ∷ [] → map name_seen new ≡ map name_seen ks ++ record { text = f; by_uniform = false } ∷ []
names_more f t ks new e k = ap (map name_seen) k ∙ map_push name_seen ks t ∙ ap (λ w. map name_seen ks ++ the_name w ∷ []) e

-- ---- the same in the words of the text

pub place_found : (f : List ℕ) (ks : Keys) → is_name f ≡ true → place_of (map name_seen ks) f ≡ place_in f ks
unfolding place_of
place_found f ks n = by (place_in f ks) refl
  where
    by : (o : Option ℕ) → place_in f ks ≡ o → some_read (used_name (map name_seen ks) f) ≡ place_in f ks
    by None p = ap some_read (used_none f ks n p) ∙ sym p
    by (Some i) p = ap some_read (used_found f ks i n p) ∙ sym p

pub place_none : (f : List ℕ) (ns : List BoundName) → is_name f ≡ false → place_of ns f ≡ None
unfolding place_of
place_none f ns n = rw n refl

pub bind_bound : (f : List ℕ) (ks : Keys) (i : ℕ) → is_name f ≡ true → place_in f ks ≡ Some i → with_name (map name_seen ks) f ≡ None
unfolding with_name
bind_bound f ks i n p = ap names_read (create_bound f ks i n p)

-- no key is the name, so it goes to the end
pub bind_new : (f : List ℕ) (t : Vec ℕ Global) (ks new : Keys) → is_name f ≡ true → place_in f ks ≡ None → t.items ≡ f → new ≡ ks ++ t ∷ [] → with_name (map name_seen ks) f ≡ Some (map name_seen new)
unfolding with_name
bind_new f t ks new n p e k = ap names_read (create_new f ks n p) ∙ ap (λ ns. Some ns) (sym (names_more f t ks new e k))

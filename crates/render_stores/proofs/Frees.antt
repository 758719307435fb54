-- Indices that take a new thing.
use Rattle.std.proofs.Common.{◌≡◌, ℕ, ◌<◌, Bool, true, false, List, length, Option, Some, None, refl, sym, ap, ◌∙◌, arith}
use Rattle.std.specs.Prelude.{◌&&◌, nat_lt, not, option_map, is_none, is_some}
use Rattle.std.proofs.lemmas.Bool.{ltb-true}
use Rattle.store_model.specs.Slots.{at}
use Rattle.render_stores.specs.Free.{is_free}

first_of : (a b : Bool) → (a && b) ≡ true → a ≡ true
first_of true b e = refl
first_of false b e = e

second_of : (a b : Bool) → (a && b) ≡ true → b ≡ true
second_of true b e = e
second_of false b e = cc e

none_is : {X : Type 0} (o : Option X) → is_none o ≡ true → o ≡ None
none_is None e = refl
none_is (Some x) e = cc e

-- an answer whether there is none
none_found : {X Y : Type 0} (f : Y → X) (o : Option Y) (p : Option X) (b : Bool) → is_some o ≡ not b → option_map f o ≡ p → b ≡ is_none p
none_found f None None true e h = refl
none_found f None None false e h = cc e
none_found f (Some y) (Some x) false e h = refl
none_found f (Some y) (Some x) true e h = cc e
none_found f None (Some x) b e h = cc h
none_found f (Some y) None b e h = cc h

none_mapped : {X Y Z : Type 0} (f : Y → Z) (g : X → Z) (o : Option Y) (p : Option X) (b : Bool) → is_some o ≡ not b → option_map f o ≡ option_map g p → b ≡ is_none p
none_mapped f g None None true e h = refl
none_mapped f g None None false e h = cc e
none_mapped f g (Some y) (Some x) false e h = refl
none_mapped f g (Some y) (Some x) true e h = cc e
none_mapped f g None (Some x) b e h = cc h
none_mapped f g (Some y) None b e h = cc h

none_else : {X : Type 0} (o : Option X) (b : Bool) → b ≡ is_some o → not b ≡ is_none o
none_else None b e = ap not e
none_else (Some x) b e = ap not e

-- the test of an index and of its slot
pub free_found : {X Y : Type 0} (f : Y → X) (o : Option Y) (i n : ℕ) (slots : List (Option X)) (b : Bool) → length slots ≡ n → is_some o ≡ not b → option_map f o ≡ at slots i → (nat_lt i n && b) ≡ is_free i slots
free_found f o i n slots b many e h = ap (λ m. nat_lt i m && b) (sym many) ∙ ap (λ c. nat_lt i (length slots) && c) (none_found f o (at slots i) b e h)

pub free_mapped : {X Y Z : Type 0} (f : Y → Z) (g : X → Z) (o : Option Y) (i n : ℕ) (slots : List (Option X)) (b : Bool) → length slots ≡ n → is_some o ≡ not b → option_map f o ≡ option_map g (at slots i) → (nat_lt i n && b) ≡ is_free i slots
free_mapped f g o i n slots b many e h = ap (λ m. nat_lt i m && b) (sym many) ∙ ap (λ c. nat_lt i (length slots) && c) (none_mapped f g o (at slots i) b e h)

pub free_else : {X : Type 0} (i n : ℕ) (slots : List (Option X)) (b : Bool) → length slots ≡ n → b ≡ is_some (at slots i) → (nat_lt i n && not b) ≡ is_free i slots
free_else i n slots b many e = ap (λ m. nat_lt i m && not b) (sym many) ∙ ap (λ c. nat_lt i (length slots) && c) (none_else (at slots i) b e)

-- a free index is one of the row's, and has nothing
pub free_below : {X : Type 0} (i n : ℕ) (slots : List (Option X)) → length slots ≡ n → is_free i slots ≡ true → i < n
free_below i n slots e free =
    let lt : i < length slots = ltb-true i (length slots) (first_of (nat_lt i (length slots)) (is_none (at slots i)) free) in
    omega (arith, lt, e)

pub free_none : {X : Type 0} (i : ℕ) (slots : List (Option X)) → is_free i slots ≡ true → at slots i ≡ None
free_none i slots free = none_is (at slots i) (second_of (nat_lt i (length slots)) (is_none (at slots i)) free)

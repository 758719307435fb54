-- Waiting indices go back on the stack.
use Rattle.std.proofs.Common.{◌≡◌, ℕ, zero, suc, ◌+◌, ◌<◌, ◌≤◌, ◌==◌, Bool, true, false, ◌&&◌, if◌then◌else◌, List, [], ◌∷◌, map, filter, drop, length, refl, sym, ap, ◌∙◌, subst, arith, slice_index_or, eq-eqb}
use Rattle.std.proofs.lemmas.List.{drop_more, drop_all}
use Rattle.gfx_model.specs.Resources.{pushed_on}
use Rattle.schedule_model.specs.Held.{count_of}
use Rattle.handle_alloc.specs.Indices.{Indices, with_free}
use Rattle.resource_book.specs.declared.stacks.Waiting.{Waiting}
use Rattle.resource_laws.specs.Lawful.{count_where, waits_at}
use Rattle.gfx_model.specs.Number.{map_from}
use Rattle.resource_book.specs.Stacks.{StackView, waiting_seen}

pub rest_waits : (ws : List Waiting) (i : ℕ) (w : Waiting) → i < length ws → w ≡ slice_index_or ws i w → map waiting_seen (drop i ws) ≡ waiting_seen w ∷ map waiting_seen (drop (i + 1) ws)
rest_waits ws i w lt e = ap (map waiting_seen) (drop_more ws i w lt) ∙ (λ j. waiting_seen (sym e j) ∷ map waiting_seen (drop (i + 1) ws))

abbrev pub any : ℕ → Bool
any d = true

and_true : (b : Bool) → (if b && true then 1 else 0) ≡ (if b then 1 else zero)
and_true true = refl
and_true false = refl

pub not_free : (free : List ℕ) (w : ℕ × ℕ) (rest : List (ℕ × ℕ)) → count_of w.0 free + count_where (waits_at w.0 any) (w ∷ rest) ≤ 1 → count_of w.0 free ≡ 0
not_free free w rest le =
    let here : (if waits_at w.0 any w then 1 else 0) ≡ suc 0 = ap (λ (b : Bool). if b && true then 1 else 0) (eq-eqb w.0 w.0 refl) in
    omega (arith, le, here)

pub record Turned (over : ℕ → Bool) (free new : Indices) (w : ℕ × ℕ) (rest : List (ℕ × ℕ)) : Type 0 where
  pub limit : new.limit ≡ free.limit
  pub pushed : pushed_on (map (λ v. v.0) (filter (λ v. over v.1) rest)) new.free ≡ pushed_on (map (λ v. v.0) (filter (λ v. over v.1) (w ∷ rest))) free.free
  pub once : (index : ℕ) → index < new.limit → count_of index new.free + count_where (waits_at index any) rest ≤ 1

turned_by : (over : ℕ → Bool) (free : Indices) (w : ℕ × ℕ) (rest : List (ℕ × ℕ)) (b : Bool) → over w.1 ≡ b
    → ((index : ℕ) → index < free.limit → count_of index free.free + count_where (waits_at index any) (w ∷ rest) ≤ 1)
    → Turned over free (if b then with_free w.0 free else free) w rest
turned_by over free w rest true e h = record {
  limit = refl;
  pushed = ap (λ c. pushed_on (map (λ v. v.0) (if c then w ∷ filter (λ v. over v.1) rest else filter (λ v. over v.1) rest)) free.free) (sym e);
  once = λ index lt. let here = and_true (w.0 == index) in omega (arith, here, h index lt);
}
turned_by over free w rest false e h = record {
  limit = refl;
  pushed = ap (λ c. pushed_on (map (λ v. v.0) (if c then w ∷ filter (λ v. over v.1) rest else filter (λ v. over v.1) rest)) free.free) (sym e);
  once = λ index lt. omega (arith, h index lt);
}

pub turned : (over : ℕ → Bool) (free new : Indices) (w : ℕ × ℕ) (rest : List (ℕ × ℕ)) → new ≡ (if over w.1 then with_free w.0 free else free)
    → ((index : ℕ) → index < free.limit → count_of index free.free + count_where (waits_at index any) (w ∷ rest) ≤ 1) → Turned over free new w rest
turned over free new w rest e h = subst (λ (n : Indices). Turned over free n w rest) (sym e) (turned_by over free w rest (over w.1) refl h)

pub count_some : (xs : List ℕ) (i x : ℕ) → i < length xs → slice_index_or xs i x ≡ x → 1 ≤ count_of x xs
count_some [] i x lt e = absurd (omega (arith, lt))
count_some (y ∷ ys) zero x lt e = let h : (if y == x then 1 else 0) ≡ suc 0 = ap (λ (b : Bool). if b then 1 else 0) (eq-eqb y x e) in omega (arith, h)
count_some (y ∷ ys) (suc i) x lt e = let h = count_some ys i x (omega (arith, lt)) e in omega (arith, h)

keep_step : (p : ℕ × ℕ → Bool) (w : Waiting) (ws : List Waiting) (b : Bool) → map waiting_seen (filter (λ v. p (waiting_seen v)) ws) ≡ filter p (map waiting_seen ws)
    → map waiting_seen (if b then w ∷ filter (λ v. p (waiting_seen v)) ws else filter (λ v. p (waiting_seen v)) ws) ≡ (if b then waiting_seen w ∷ filter p (map waiting_seen ws) else filter p (map waiting_seen ws))
keep_step p w ws true e = ap (λ l. waiting_seen w ∷ l) e
keep_step p w ws false e = e

pub kept_seen : (p : ℕ × ℕ → Bool) (ws : List Waiting) → map waiting_seen (filter (λ v. p (waiting_seen v)) ws) ≡ filter p (map waiting_seen ws)
kept_seen p [] = refl
kept_seen p (w ∷ ws) = keep_step p w ws (p (waiting_seen w)) (kept_seen p ws)

pub none_left : (ws : List Waiting) (i : ℕ) → length ws ≤ i → map waiting_seen (drop i ws) ≡ []
none_left ws i le = ap (map waiting_seen) (drop_all i ws le)

pub map_from_map : (f : StackView → StackView) (n : ℕ) (ss : List StackView) → map_from (λ k s. f s) n ss ≡ map f ss
map_from_map f n [] = refl
map_from_map f n (s ∷ ss) = ap (λ rest. f s ∷ rest) (map_from_map f (n + 1) ss)

-- The views that a list does not name, ascending.
use Rattle.std.proofs.Common.{◌≡◌, ◌<◌, ◌≤◌, ◌+◌, ℕ, Bool, true, false, if◌then◌else◌, List, [], ◌∷◌, ◌++◌, length, take, filter, slice_index_or, slice_set, zero, suc, refl, sym, ap, ◌∙◌, arith}
use Rattle.std.specs.List.{range_with_len}
use Rattle.std.proofs.lemmas.List.{append-nil, append_assoc, length-append, take_more_set, take_all}
use Rattle.std.proofs.lemmas.List.Elements.{filter-append}
use Rattle.view_table.specs.Order.{is_unnamed, unnamed}

-- ---- ranges and filters

pub range_more : (a n : ℕ) → range_with_len a (suc n) ≡ range_with_len a n ++ (a + n) ∷ []
range_more a zero = ap (λ b. b ∷ []) (omega arith)
range_more a (suc n) =
    let e : a + 1 + n ≡ a + suc n = omega arith in
    ap (λ rest. a ∷ rest) (range_more (a + 1) n ∙ rw e refl)

-- a filter over a shorter range is no longer
le_by_head : (b : Bool) (a : ℕ) (xs ys : List ℕ) → length xs ≤ length ys
    → length (if b then a ∷ xs else xs) ≤ length (if b then a ∷ ys else ys)
le_by_head true a xs ys h = omega (arith, h)
le_by_head false a xs ys h = h

filter_range_le : (p : ℕ → Bool) (a m n : ℕ) → m ≤ n → length (filter p (range_with_len a m)) ≤ length (filter p (range_with_len a n))
filter_range_le p a zero n h = omega arith
filter_range_le p a (suc m) zero h = absurd (omega (arith, h))
filter_range_le p a (suc m) (suc n) h =
    le_by_head (p a) a (filter p (range_with_len (a + 1) m)) (filter p (range_with_len (a + 1) n)) (filter_range_le p (a + 1) m n (omega (arith, h)))

-- ---- the views that are not named, one after the other

unnamed_more : (named : List Bool) (view : ℕ) → unnamed named (view + 1) ≡ unnamed named view ++ (if is_unnamed named view then view ∷ [] else [])
unnamed_more named view =
    let e : view + 1 ≡ suc view = omega arith in
    let z : 0 + view ≡ view = omega arith in
    ap (filter (is_unnamed named)) (ap (range_with_len 0) e ∙ range_more 0 view ∙ ap (λ v. range_with_len 0 view ++ v ∷ []) z)
    ∙ filter-append (is_unnamed named) (range_with_len 0 view) (view ∷ [])

unnamed_one : (named : List Bool) (view : ℕ) → slice_index_or named view false ≡ false → unnamed named (view + 1) ≡ unnamed named view ++ view ∷ []
unnamed_one named view e = unnamed_more named view ∙ rw e refl

unnamed_same : (named : List Bool) (view : ℕ) → slice_index_or named view false ≡ true → unnamed named (view + 1) ≡ unnamed named view
unnamed_same named view e = unnamed_more named view ∙ rw e (append-nil (unnamed named view))

-- the listed views stand in front, and behind them the views below an index that are not named
pub record IsPut (named : List Bool) (listed : ℕ) (old new : List ℕ) (view at : ℕ) : Type 0 where
  pub count : at ≡ listed + length (unnamed named view)
  pub front : take at new ≡ take listed old ++ unnamed named view

pub put_none : (named : List Bool) (listed : ℕ) (old : List ℕ) → IsPut named listed old old 0 listed
put_none named listed old = record { count = omega arith; front = sym (append-nil (take listed old)) }

pub put_within : (named : List Bool) (listed : ℕ) (old new : List ℕ) (view at count : ℕ) → IsPut named listed old new view at
    → listed + length (unnamed named count) ≡ length old → length new ≡ length old → view < count → slice_index_or named view false ≡ false → at < length new
put_within named listed old new view at count k room long h e =
    let more : length (unnamed named (view + 1)) ≡ length (unnamed named view) + 1
    = ap length (unnamed_one named view e) ∙ length-append (unnamed named view) (view ∷ []) in
    omega (arith, k.count, room, long, more, filter_range_le (is_unnamed named) 0 (view + 1) count (omega (arith, h)))

pub put_one : (named : List Bool) (listed : ℕ) (old new : List ℕ) (view at : ℕ) → IsPut named listed old new view at
    → at < length new → slice_index_or named view false ≡ false → IsPut named listed old (slice_set new at view) (view + 1) (at + 1)
put_one named listed old new view at k h e = record {
  count = omega (arith, k.count, ap length (unnamed_one named view e) ∙ length-append (unnamed named view) (view ∷ []));
  front = take_more_set new at view h ∙ ap (λ xs. xs ++ view ∷ []) k.front
      ∙ append_assoc (take listed old) (unnamed named view) (view ∷ []) ∙ ap (λ xs. take listed old ++ xs) (sym (unnamed_one named view e));
}

pub put_same : (named : List Bool) (listed : ℕ) (old new : List ℕ) (view at : ℕ) → IsPut named listed old new view at
    → slice_index_or named view false ≡ true → IsPut named listed old new (view + 1) at
put_same named listed old new view at k e = record {
  count = k.count ∙ ap (λ xs. listed + length xs) (sym (unnamed_same named view e));
  front = k.front ∙ ap (λ xs. take listed old ++ xs) (sym (unnamed_same named view e));
}

pub put_all : (named : List Bool) (listed : ℕ) (old new : List ℕ) (view at : ℕ) → IsPut named listed old new view at
    → listed + length (unnamed named view) ≡ length old → length new ≡ length old → new ≡ take listed old ++ unnamed named view
put_all named listed old new view at k room long = sym (take_all at new (omega (arith, k.count, room, long))) ∙ k.front

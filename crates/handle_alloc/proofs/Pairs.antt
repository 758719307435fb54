-- Two lists that are each other's inverse: as they are made, and after a swap.
use Rattle.std.proofs.Common.{◌≡◌, ◌≢◌, ◌<◌, ◌≤◌, ℕ, ◌+◌, ◌-◌, List, ◌∷◌, length, slice_index, slice_set, drop, nat_lt, IsTrue, ◌↔◌, refl, sym, ◌∙◌, ap, arith}
use Rattle.std.specs.List.{range_with_len, Contains}
use mathlib.Core.Logic.{⊎_elim}
use Rattle.std.proofs.lemmas.List.{get_or-set_same, get_or-set_other, get_or-drop, get_or_default, length-drop, length-set, drop-set-lt, drop-set}
use Rattle.std.proofs.lemmas.List.FromFn.{length-range_with_len, get_or-range_with_len}
use Rattle.std.proofs.lemmas.Bool.{cases_eq, cases_lt, ltb-true, lt-ltb}
use Rattle.handle_alloc.specs.Indices.{Indices, IsGiven, IsPaired}

-- the numbers from 0 on stand each at their own place
pub paired-counting : (n : ℕ) → IsPaired (range_with_len 0 n) (range_with_len 0 n)
paired-counting n =
    let long : length (range_with_len 0 n) ≡ n = length-range_with_len 0 n in
    let at : (i : ℕ) → i < length (range_with_len 0 n) → slice_index (range_with_len 0 n) i ≡ i
    = λ i h. get_or-range_with_len 0 n i 0 (omega (arith, h, long)) ∙ omega arith in
    record {
      lengths = refl;
      index_within = λ i h. omega (arith, h, at i h);
      place_within = λ i h. omega (arith, h, at i h);
      place_of_index = λ i h. ap (slice_index (range_with_len 0 n)) (at i h) ∙ at i h;
      index_at_place = λ i h. ap (slice_index (range_with_len 0 n)) (at i h) ∙ at i h;
    }

-- an index that stands at a place among the free ones is free
pub free_at_place : (order places : List ℕ) (given index : ℕ) → IsPaired order places → index < length order
    → given ≤ slice_index places index → Contains (drop given order) index
free_at_place order places given index k below late =
    let place : ℕ = slice_index places index in
    let within : place < length order = k.place_within index below in
    let sum : given + (place - given) ≡ place = omega (arith, late) in (
      place - given,
      omega (arith, within, late, length-drop given order),
      get_or-drop given order (place - given) index ∙ rw sum (get_or_default order place index 0 within ∙ k.index_at_place index below),
    )

-- an index that is not among the free ones has its place before them
pub place_of_given : (order places : List ℕ) (given index : ℕ) → IsPaired order places → index < length order
    → ¬ Contains (drop given order) index → slice_index places index < given
place_of_given order places given index k below gone =
    ⊎_elim (λ h. h) (λ h. absurd (gone (free_at_place order places given index k below h)))
    (cases_lt (slice_index places index) given)

-- the same of the indices as they are seen
pub place_of_seen : (order places : List ℕ) (given index : ℕ) (seen : Indices) → IsPaired order places
    → record { limit = length order; free = drop given order } ≡ seen → IsGiven seen index
    → (slice_index places index < given) × (index < length order)
place_of_seen order places given index seen k e r =
    let long : length order ≡ seen.limit = ap (λ v. v.limit) e in
    let below : index < length order = omega (arith, long, r.0) in
    let free : drop given order ≡ seen.free = ap (λ v. v.free) e in
    (place_of_given order places given index k below (λ h. r.1 (rw free at h)), below)

-- and one that has its place before them is not among them
pub given_at_place : (order places : List ℕ) (given index : ℕ) → IsPaired order places
    → slice_index places index < given → ¬ Contains (drop given order) index
given_at_place order places given index k early c =
    let within : given + c.0 < length order = omega (arith, c.1, length-drop given order) in
    let stands : slice_index order (given + c.0) ≡ index
    = get_or_default order (given + c.0) 0 index within ∙ sym (get_or-drop given order c.0 index) ∙ c.2 in
    let place : slice_index places index ≡ given + c.0 = ap (slice_index places) (sym stands) ∙ k.place_of_index (given + c.0) within in
    omega (arith, early, place)

-- an index is given exactly where its place lies before the free ones
pub given_by_place : (order places : List ℕ) (given index place : ℕ) (seen : Indices) → IsPaired order places
    → record { limit = length order; free = drop given order } ≡ seen → index < length order
    → place ≡ slice_index places index → IsTrue (nat_lt place given) ↔ IsGiven seen index
given_by_place order places given index place seen k e below p =
    let long : length order ≡ seen.limit = ap (λ v. v.limit) e in
    let free : seen.free ≡ drop given order = ap (λ v. v.free) (sym e) in (
      λ t. let early : place < given = ltb-true place given t in
          (omega (arith, long, below), λ h. given_at_place order places given index k (omega (arith, early, p)) (rw free at h)),
      λ r. lt-ltb place given (omega (arith, p, (place_of_seen order places given index seen k e r).0)),
    )

-- ---- two writes

last : (l : List ℕ) (a x b y : ℕ) → b < length l → slice_index (slice_set (slice_set l a x) b y) b ≡ y
last l a x b y h = get_or-set_same (slice_set l a x) b y 0 (omega (arith, h, length-set l a x))

first : (l : List ℕ) (a x b y : ℕ) → a < length l → a ≢ b → slice_index (slice_set (slice_set l a x) b y) a ≡ x
first l a x b y h n = get_or-set_other (slice_set l a x) b a y 0 n ∙ get_or-set_same l a x 0 h

other : (l : List ℕ) (a x b y i : ℕ) → i ≢ a → i ≢ b → slice_index (slice_set (slice_set l a x) b y) i ≡ slice_index l i
other l a x b y i m n = get_or-set_other (slice_set l a x) b i y 0 n ∙ get_or-set_other l a i x 0 m

pub length-two : (l : List ℕ) (a x b y : ℕ) → length (slice_set (slice_set l a x) b y) ≡ length l
length-two l a x b y = length-set (slice_set l a x) b y ∙ length-set l a x

-- ---- a swap: what stands at g and the index h change their places

-- one list is read back by the other
record ReadsBack (f b : List ℕ) (n : ℕ) : Type 0 where
  within : (i : ℕ) → i < n → slice_index f i < n
  back : (i : ℕ) → i < n → slice_index b (slice_index f i) ≡ i

-- f has m at g, b has p at h
record Swap (f b : List ℕ) (n g h p m : ℕ) : Type 0 where
  reads : ReadsBack f b n
  f_long : length f ≡ n
  b_long : length b ≡ n
  g_within : g < n
  h_within : h < n
  p_within : p < n
  m_at_g : slice_index f g ≡ m
  p_at_h : slice_index b h ≡ p

reads_at : (f b : List ℕ) (n i v : ℕ) → slice_index f i ≡ v → v < n → slice_index b v ≡ i → (slice_index f i < n) × (slice_index b (slice_index f i) ≡ i)
reads_at f b n i v e h w = (omega (arith, e, h), ap (slice_index b) e ∙ w)

swapped_at : (f b : List ℕ) (n g h p m : ℕ) → Swap f b n g h p m → (i : ℕ) → i < n
    → (slice_index (slice_set (slice_set f p m) g h) i < n)
    × (slice_index (slice_set (slice_set b m p) h g) (slice_index (slice_set (slice_set f p m) g h) i) ≡ i)
swapped_at f b n g h p m s i below =
    let new_f : List ℕ = slice_set (slice_set f p m) g h in
    let new_b : List ℕ = slice_set (slice_set b m p) h g in
    let m_within : m < n = omega (arith, s.m_at_g, s.reads.within g s.g_within) in
    let g_of_m : slice_index b m ≡ g = ap (slice_index b) (sym s.m_at_g) ∙ s.reads.back g s.g_within in
    ⊎_elim
    (λ e. reads_at new_f new_b n i h
    (ap (slice_index new_f) e ∙ last f p m g h (omega (arith, s.g_within, s.f_long))) s.h_within
    (last b m p h g (omega (arith, s.h_within, s.b_long)) ∙ sym e))
    (λ not_g. ⊎_elim
    (λ e. reads_at new_f new_b n i m
    (ap (slice_index new_f) e ∙ first f p m g h (omega (arith, s.p_within, s.f_long)) (λ q. not_g (e ∙ q))) m_within
    (first b m p h g (omega (arith, m_within, s.b_long)) (λ q. not_g (e ∙ sym s.p_at_h ∙ ap (slice_index b) (sym q) ∙ g_of_m)) ∙ sym e))
    (λ not_p. reads_at new_f new_b n i (slice_index f i)
    (other f p m g h i not_p not_g) (s.reads.within i below)
    (other b m p h g (slice_index f i)
    (λ q. not_g (sym (s.reads.back i below) ∙ ap (slice_index b) q ∙ g_of_m))
    (λ q. not_p (sym (s.reads.back i below) ∙ ap (slice_index b) q ∙ s.p_at_h))
    ∙ s.reads.back i below))
    (cases_eq i p))
    (cases_eq i g)

pub paired-swap : (order places : List ℕ) (g h p m : ℕ) → IsPaired order places → g < length order → h < length order
    → slice_index order g ≡ m → slice_index places h ≡ p
    → IsPaired (slice_set (slice_set order p m) g h) (slice_set (slice_set places m p) h g)
paired-swap order places g h p m k g_in h_in m_is p_is =
    let n : ℕ = length order in
    let new : length (slice_set (slice_set order p m) g h) ≡ n = length-two order p m g h in
    let there : Swap order places n g h p m = record {
      reads = record { within = k.index_within; back = k.place_of_index };
      f_long = refl;
      b_long = k.lengths;
      g_within = g_in;
      h_within = h_in;
      p_within = omega (arith, p_is, k.place_within h h_in);
      m_at_g = m_is;
      p_at_h = p_is;
    } in
    let back : Swap places order n h g m p = record {
      reads = record { within = k.place_within; back = k.index_at_place };
      f_long = k.lengths;
      b_long = refl;
      g_within = h_in;
      h_within = g_in;
      p_within = omega (arith, m_is, k.index_within g g_in);
      m_at_g = p_is;
      p_at_h = m_is;
    } in
    record {
      lengths = length-two places m p h g ∙ k.lengths ∙ sym new;
      index_within = λ i b. omega (arith, new, (swapped_at order places n g h p m there i (omega (arith, b, new))).0);
      place_within = λ i b. omega (arith, new, (swapped_at places order n h g m p back i (omega (arith, b, new))).0);
      place_of_index = λ i b. (swapped_at order places n g h p m there i (omega (arith, b, new))).1;
      index_at_place = λ i b. (swapped_at places order n h g m p back i (omega (arith, b, new))).1;
    }

-- the free ones after a swap at the place below them
pub drop-swap : (order : List ℕ) (given g h p m : ℕ) → g + 1 ≡ given → given ≤ length order → p < given
    → drop g (slice_set (slice_set order p m) g h) ≡ h ∷ drop given order
drop-swap order given g h p m e within early =
    drop-set (slice_set order p m) g h (omega (arith, e, within, length-set order p m))
    ∙ ap (λ rest. h ∷ rest) (rw e (drop-set-lt given order p m early))

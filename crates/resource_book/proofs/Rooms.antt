-- How many things there can be: the indices of a kind are each free or one thing's, so no more wait than there are.
use Rattle.std.proofs.Common.{◌≡◌, ◌≢◌, ℕ, zero, suc, ◌+◌, ◌<◌, ◌≤◌, ◌==◌, nat_lt, Bool, true, false, ◌&&◌, if◌then◌else◌, List, [], ◌∷◌, length, map, Option, Some, None, refl, sym, ap, ◌∙◌, arith, slice_index_or, eq-eqb, ne_eqb}
use Rattle.std.specs.List.{AllByRecursion, find}
use Rattle.std.proofs.lemmas.Bool.{eqb-true, ltb-true, ltb-false}
use Rattle.std.proofs.lemmas.Option.{same_Some, none-some}
use mathlib.Core.Logic.{dite}
use native.Mathlib.Decide.{ℕ_discrete}
use Rattle.gfx_model.specs.Words.{Kind, Handle, layout_kind, vertex_buffer_kind, index_buffer_kind, texture_kind, frame_buffer_kind, program_kind, uniform_kind, kind_number, is_kind, greatest, all_kinds}
use Rattle.gfx_model.specs.Resources.{Thing, Resources, is_at, is_live, book_of}
use Rattle.resource_book.specs.Answered.{HasLiveThing}
use Rattle.resource_laws.specs.Lawful.{count_where, dies, dies_at, waits_at, IsLawful}
use Rattle.resource_book.proofs.StackLaws.{kind_greatest}
use Rattle.resource_book.proofs.ReclaimLaws.{any}

-- ---- sums

abbrev sum_to : ℕ → (ℕ → ℕ) → ℕ
sum_to zero f = 0
sum_to (suc n) f = sum_to n f + f n

sum_same : (n : ℕ) (f g : ℕ → ℕ) → ((i : ℕ) → i < n → f i ≡ g i) → sum_to n f ≡ sum_to n g
sum_same zero f g h = refl
sum_same (suc n) f g h = λ j. sum_same n f g (λ i lt. h i (omega (arith, lt))) j + h n (omega arith) j

sum_least : (n : ℕ) (f : ℕ → ℕ) → ((i : ℕ) → i < n → f i ≤ 1) → sum_to n f ≤ n
sum_least zero f h = omega arith
sum_least (suc n) f h = let a = sum_least n f (λ i lt. h i (omega (arith, lt))) in let b = h n (omega arith) in omega (arith, a, b)

sum_plus : (n : ℕ) (f g : ℕ → ℕ) → sum_to n (λ i. f i + g i) ≡ sum_to n f + sum_to n g
sum_plus zero f g = refl
sum_plus (suc n) f g = let a = sum_plus n f g in omega (arith, a)

sum_zero : (n : ℕ) → sum_to n (λ i. 0) ≡ 0
sum_zero zero = refl
sum_zero (suc n) = let a = sum_zero n in omega (arith, a)

one_at : (m i : ℕ) → ℕ
one_at m i = if m == i then 1 else 0

sum_none : (n m : ℕ) → n ≤ m → sum_to n (λ i. if m == i then 1 else 0) ≡ 0
sum_none zero m le = refl
sum_none (suc n) m le =
    let a = sum_none n m (omega (arith, le)) in
    let b : (if m == n then 1 else 0) ≡ zero = ap (λ c. if c then 1 else 0) (ne_eqb m n (λ e. omega (arith, le, e))) in
    omega (arith, a, b)

sum_one : (n m : ℕ) → m < n → sum_to n (λ i. if m == i then 1 else 0) ≡ suc 0
sum_one zero m lt = absurd (omega (arith, lt))
sum_one (suc n) m lt = dite (ℕ_discrete m n)
    (λ (e : m ≡ n).
    let a = sum_none n m (omega (arith, e)) in
    let b : (if m == n then 1 else 0) ≡ suc 0 = ap (λ c. if c then 1 else 0) (eq-eqb m n e) in
    omega (arith, a, b))
    (λ (ne : m ≢ n).
    let a = sum_one n m (omega (arith, lt, below m n lt ne)) in
    let b : (if m == n then 1 else 0) ≡ zero = ap (λ c. if c then 1 else 0) (ne_eqb m n ne) in
    omega (arith, a, b)) where
      below : (m n : ℕ) → m < suc n → m ≢ n → m < n
      below m n l ne = omega (arith, l, ne)

-- ---- what is counted by number is counted

module _ {A : Type 0} (p : ℕ → A → Bool) (q : A → Bool) (f : A → ℕ) (same : (i : ℕ) (x : A) → p i x ≡ (q x && (f x == i))) where
  one_counted : (n : ℕ) (x : A) (b : Bool) → q x ≡ b → (b ≡ true → f x < n) → sum_to n (λ i. if b && (f x == i) then 1 else 0) ≡ (if b then 1 else 0)
  one_counted n x true e lt = sum_one n (f x) (lt refl)
  one_counted n x false e lt = sum_zero n

  pub counted : (n : ℕ) (xs : List A) → AllByRecursion (λ x. q x ≡ true → f x < n) xs → sum_to n (λ i. count_where (p i) xs) ≡ count_where q xs
  counted n [] a = sum_zero n
  counted n (x ∷ xs) a =
      let h : sum_to n (λ i. if p i x then 1 else 0) ≡ (if q x then 1 else 0) = sum_same n (λ i. if p i x then 1 else 0) (λ i. if q x && (f x == i) then 1 else 0) (λ i lt. ap (λ b. if b then 1 else 0) (same i x)) ∙ one_counted n x (q x) refl a.0 in
      let s = sum_plus n (λ i. if p i x then 1 else 0) (λ i. count_where (p i) xs) in
      let r = counted n xs a.1 in
      omega (arith, h, s, r)

count_all : {A : Type 0} (xs : List A) → count_where (λ (x : A). true) xs ≡ length xs
count_all [] = refl
count_all (x ∷ xs) = let h = count_all xs in omega (arith, h)

and_more : (b : Bool) → b && true ≡ b
and_more true = refl
and_more false = refl

and_turn : (a b c : Bool) → (a && b) && c ≡ (a && c) && b
and_turn true true true = refl
and_turn true true false = refl
and_turn true false true = refl
and_turn true false false = refl
and_turn false b c = refl

all_of : {A : Type 0} (P Q : A → Type 0) → ((x : A) → P x → Q x) → (xs : List A) → AllByRecursion P xs → AllByRecursion Q xs
all_of P Q g [] a = tt
all_of P Q g (x ∷ xs) a = (g x a.0, all_of P Q g xs a.1)

-- ---- things of a kind

abbrev is_of : Kind → Thing → Bool
is_of k t = is_kind t.handle.kind k

abbrev is_dead_of : Kind → Thing → Bool
is_dead_of k t = is_of k t && dies any t.death

abbrev is_live_of : Kind → Thing → Bool
is_live_of k t = is_of k t && is_live t

pub same_greatest : (k m : Kind) → kind_number k ≡ kind_number m → greatest k ≡ greatest m
same_greatest k m e = sym (kind_greatest k) ∙ ap (λ n. slice_index_or (map greatest all_kinds) n 0) e ∙ kind_greatest m

and_left_true : (b c : Bool) → b && c ≡ true → b ≡ true
and_left_true true c e = refl
and_left_true false c e = absurd (false_true e) where
  false_true : false ≡ true → ⊥
  false_true e = cc

fits_of : (k : Kind) (t : Thing) → t.handle.index < greatest t.handle.kind → is_of k t ≡ true → t.handle.index < greatest k
fits_of k t lt e = let g = same_greatest t.handle.kind k (eqb-true (kind_number t.handle.kind) (kind_number k) e) in omega (arith, lt, g)

parts_by : (b : Bool) (o : Option ℕ) → (if b then 1 else 0) ≡ (if b && dies any o then 1 else 0) + (if b && Rattle.std.specs.Prelude.is_none o then 1 else 0)
parts_by true None = refl
parts_by true (Some d) = refl
parts_by false o = refl

parts : (k : Kind) (ts : List Thing) → count_where (is_of k) ts ≡ count_where (is_dead_of k) ts + count_where (is_live_of k) ts
parts k [] = refl
parts k (t ∷ ts) = let a = parts_by (is_of k t) t.death in let b = parts k ts in omega (arith, a, b)

some_case : (q : Thing → Bool) (p : Thing → Bool) (x : Thing) (xs : List Thing) (t : Thing) (b : Bool) → (find p xs ≡ Some t → 1 ≤ count_where q xs) → q t ≡ true → (if b then Some x else find p xs) ≡ Some t → 1 ≤ count_where q (x ∷ xs)
some_case q p x xs t true f h e = let one : (if q x then 1 else 0) ≡ suc 0 = ap (λ (u : Thing). if q u then 1 else 0) (same_Some x t e) ∙ ap (λ c. if c then 1 else 0) h in omega (arith, one)
some_case q p x xs t false f h e = let r = f e in omega (arith, r)

pub some_counted : (q p : Thing → Bool) (ts : List Thing) (t : Thing) → find p ts ≡ Some t → q t ≡ true → 1 ≤ count_where q ts
some_counted q p [] t e h = absurd (none-some t e)
some_counted q p (x ∷ xs) t e h = some_case q p x xs t (p x) (λ r. some_counted q p xs t r h) h e

none_case : (p : Thing → Bool) (t : Thing) (ts : List Thing) (b : Bool) → (count_where p ts ≡ 0 → find p ts ≡ None) → (if b then 1 else 0) + count_where p ts ≡ 0 → (if b then Some t else find p ts) ≡ None
none_case p t ts true f e = absurd (omega (arith, e))
none_case p t ts false f e = f (omega (arith, e))

-- what is not counted is not found
pub none_counted : (p : Thing → Bool) (ts : List Thing) → count_where p ts ≡ 0 → find p ts ≡ None
none_counted p [] e = refl
none_counted p (t ∷ ts) e = none_case p t ts (p t) (none_counted p ts) e

true_case : (p : Thing → Bool) (x : Thing) (xs : List Thing) (t : Thing) (b : Bool) → p x ≡ b → (find p xs ≡ Some t → p t ≡ true) → (if b then Some x else find p xs) ≡ Some t → p t ≡ true
true_case p x xs t true e f h = ap p (sym (same_Some x t h)) ∙ e
true_case p x xs t false e f h = f h

pub found_true : (p : Thing → Bool) (ts : List Thing) (t : Thing) → find p ts ≡ Some t → p t ≡ true
found_true p [] t h = absurd (none-some t h)
found_true p (x ∷ xs) t h = true_case p x xs t (p x) refl (found_true p xs t) h

pub live_of : (h : Handle) (ts : List Thing) (t : Thing) → HasLiveThing h ts t → is_live_of h.kind t ≡ true
live_of h ts t l = λ j. and_left_true (is_of h.kind t) (t.handle.index == h.index) (found_true (is_at h.kind h.index) ts t l.found) j && Rattle.std.specs.Prelude.is_none (l.lives j)

-- ---- indices that wait lie below the kind's greatest number

below_by : (n : ℕ) (w : ℕ × ℕ) (ws : List (ℕ × ℕ)) (b : Bool) → nat_lt w.0 n ≡ b → ((i : ℕ) → n ≤ i → count_where (waits_at i any) (w ∷ ws) ≡ 0) → w.0 < n
below_by n w ws true e h = ltb-true w.0 n e
below_by n w ws false e h =
    let one : (if waits_at w.0 any w then 1 else 0) ≡ suc 0 = ap (λ (b : Bool). if b && true then 1 else 0) (eq-eqb w.0 w.0 refl) in
    absurd (omega (arith, one, h w.0 (ltb-false w.0 n e)))

all_below : (n : ℕ) (ws : List (ℕ × ℕ)) → ((i : ℕ) → n ≤ i → count_where (waits_at i any) ws ≡ 0) → AllByRecursion (λ w. w.0 < n) ws
all_below n [] h = tt
all_below n (w ∷ ws) h = (below_by n w ws (nat_lt w.0 n) refl h, all_below n ws (λ i le. let z = h i le in omega (arith, z)))

no_dead : (k : Kind) (i : ℕ) (t : Thing) (b c : Bool) → is_of k t ≡ b → (t.handle.index == i) ≡ c → t.handle.index < greatest t.handle.kind → greatest k ≤ i → (if (b && c) && dies any t.death then 1 else 0) ≡ zero
no_dead k i t true true e f lt le = absurd (omega (arith, le, fits_of k t lt e, eqb-true t.handle.index i f))
no_dead k i t true false e f lt le = refl
no_dead k i t false c e f lt le = refl

none_dead : (k : Kind) (i : ℕ) (ts : List Thing) → AllByRecursion (λ t. t.handle.index < greatest t.handle.kind) ts → greatest k ≤ i → count_where (dies_at k i any) ts ≡ 0
none_dead k i [] a le = refl
none_dead k i (t ∷ ts) a le = let h = no_dead k i t (is_of k t) (t.handle.index == i) refl refl a.0 le in let r = none_dead k i ts a.1 le in omega (arith, h, r)

module _ (r : Resources) (l : IsLawful r) (k : Kind) where
  pub waiting_below : AllByRecursion (λ w. w.0 < greatest k) (book_of r k).waiting
  waiting_below = all_below (greatest k) (book_of r k).waiting (λ i le. l.waits k i any ∙ none_dead k i r.things l.fits le)

  all_waiting : sum_to (greatest k) (λ i. count_where (waits_at i any) (book_of r k).waiting) ≡ length (book_of r k).waiting
  all_waiting =
      counted {A = ℕ × ℕ} (λ i w. waits_at i any w) (λ w. true) (λ w. w.0) (λ i w. and_more (w.0 == i)) (greatest k) (book_of r k).waiting (all_of {A = ℕ × ℕ} (λ w. w.0 < greatest k) (λ w. true ≡ true → w.0 < greatest k) (λ w lt e. lt) (book_of r k).waiting waiting_below)
      ∙ count_all (book_of r k).waiting

  all_dead : sum_to (greatest k) (λ i. count_where (dies_at k i any) r.things) ≡ count_where (is_dead_of k) r.things
  all_dead = counted {A = Thing} (λ i t. dies_at k i any t) (is_dead_of k) (λ t. t.handle.index) (λ i t. and_turn (is_of k t) (t.handle.index == i) (dies any t.death)) (greatest k) r.things
      (all_of {A = Thing} (λ t. t.handle.index < greatest t.handle.kind) (λ t. is_dead_of k t ≡ true → t.handle.index < greatest k) (λ t lt e. fits_of k t lt (and_left_true (is_of k t) (dies any t.death) e)) r.things l.fits)

  all_of_kind : sum_to (greatest k) (λ i. count_where (is_at k i) r.things) ≡ count_where (is_of k) r.things
  all_of_kind = counted {A = Thing} (λ i t. is_at k i t) (is_of k) (λ t. t.handle.index) (λ i t. refl) (greatest k) r.things
      (all_of {A = Thing} (λ t. t.handle.index < greatest t.handle.kind) (λ t. is_of k t ≡ true → t.handle.index < greatest k) (λ t lt e. fits_of k t lt e) r.things l.fits)

  -- there are no more things of a kind than its greatest number
  pub kind_fits : count_where (is_of k) r.things ≤ greatest k
  kind_fits = let s = sum_least (greatest k) (λ i. count_where (is_at k i) r.things) (λ i lt. let o = l.once k i lt in omega (arith, o)) in omega (arith, s, all_of_kind)

  -- while a thing lives, not all indices of its kind wait
  pub waiting_room : (t : Thing) (i : ℕ) → find (is_at k i) r.things ≡ Some t → is_live_of k t ≡ true → length (book_of r k).waiting < greatest k
  waiting_room t i is live =
      let w = sum_same (greatest k) (λ i. count_where (waits_at i any) (book_of r k).waiting) (λ i. count_where (dies_at k i any) r.things) (λ i lt. l.waits k i any) in
      omega (arith, w, all_waiting, all_dead, parts k r.things, kind_fits, some_counted (is_live_of k) (is_at k i) r.things t is live)

-- ---- all things

one_kind : (k : Kind) → (if is_kind k layout_kind then 1 else 0) + (if is_kind k vertex_buffer_kind then 1 else 0) + (if is_kind k index_buffer_kind then 1 else 0) + (if is_kind k texture_kind then 1 else 0)
    + (if is_kind k frame_buffer_kind then 1 else 0) + (if is_kind k program_kind then 1 else 0) + (if is_kind k uniform_kind then 1 else 0) ≡ suc 0
one_kind layout_kind = refl
one_kind vertex_buffer_kind = refl
one_kind index_buffer_kind = refl
one_kind texture_kind = refl
one_kind frame_buffer_kind = refl
one_kind program_kind = refl
one_kind uniform_kind = refl

by_kinds : (ts : List Thing) → count_where (is_of layout_kind) ts + count_where (is_of vertex_buffer_kind) ts + count_where (is_of index_buffer_kind) ts + count_where (is_of texture_kind) ts
    + count_where (is_of frame_buffer_kind) ts + count_where (is_of program_kind) ts + count_where (is_of uniform_kind) ts ≡ length ts
by_kinds [] = refl
by_kinds (t ∷ ts) = let a = one_kind t.handle.kind in let b = by_kinds ts in omega (arith, a, b)

-- there are no more things than places
pub things_fit : (r : Resources) → IsLawful r → length r.things ≤ 3776
things_fit r l = omega (arith, by_kinds r.things, kind_fits r l layout_kind, kind_fits r l vertex_buffer_kind, kind_fits r l index_buffer_kind, kind_fits r l texture_kind, kind_fits r l frame_buffer_kind, kind_fits r l program_kind, kind_fits r l uniform_kind)

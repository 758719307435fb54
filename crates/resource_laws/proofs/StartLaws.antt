-- The start of a frame keeps the state lawful, and so do opening states.
use Rattle.std.proofs.Common.{◌≡◌, ℕ, zero, suc, ◌+◌, ◌<◌, ◌≤◌, ◌==◌, nat_le, Bool, true, false, not, ◌&&◌, if◌then◌else◌, List, [], ◌∷◌, map, filter, length, Option, Some, None, IfSome, refl, sym, ap, ◌∙◌, arith, ne_eqb}
use Rattle.std.specs.List.{AllByRecursion, range_with_len}
use Rattle.std.proofs.lemmas.List.{get_or-map, length-map}
use Rattle.std.proofs.lemmas.Bool.{eqb-true}
use Rattle.gfx_model.specs.Words.{Kind, layout_kind, vertex_buffer_kind, index_buffer_kind, texture_kind, frame_buffer_kind, program_kind, uniform_kind, kind_number, greatest}
use Rattle.gfx_model.specs.Resources.{Thing, Resources, Book, new_book, opening, is_at, book_of, pushed_on, is_over, book_at_start, is_kept_death, is_kept_thing, start_frame, greatest_serial, greatest_references}
use Rattle.schedule_model.specs.Held.{count_of}
use Rattle.resource_laws.specs.Lawful.{Rises, count_where, dies, dies_at, waits_at, outlives, is_texture_until, HasTextureUntil, Holds, IsLawful}
use Rattle.resource_laws.proofs.KindLaws.{kind_below, greatest_same}
use Rattle.resource_laws.proofs.AttachLaws.{all_more, holds_more}
use Rattle.resource_laws.proofs.LawfulLaws.{no_book, and_false}
use Rattle.resource_laws.proofs.DeathLaws.{and_parts}

-- ---- lists

count_pushed : (i : ℕ) (ns stack : List ℕ) → count_of i (pushed_on ns stack) ≡ count_of i ns + count_of i stack
count_pushed i [] stack = omega arith
count_pushed i (n ∷ ns) stack = let h = count_pushed i ns (n ∷ stack) in omega (arith, h)

-- the indices of the waiting that a test of deaths takes
count_over : (i : ℕ) (p : ℕ → Bool) (ws : List (ℕ × ℕ)) → count_of i (map (λ w. w.0) (filter (λ w. p w.1) ws)) ≡ count_where (waits_at i p) ws
count_over i p [] = refl
count_over i p (w ∷ ws) = step (p w.1) (count_over i p ws)
  where
    step : (b : Bool) → count_of i (map (λ w. w.0) (filter (λ w. p w.1) ws)) ≡ count_where (waits_at i p) ws
        → count_of i (map (λ w. w.0) (if b then w ∷ filter (λ w. p w.1) ws else filter (λ w. p w.1) ws)) ≡ (if (w.0 == i) && b then 1 else 0) + count_where (waits_at i p) ws
    step true h = both (w.0 == i) h
      where
        both : (c : Bool) → count_of i (map (λ w. w.0) (filter (λ w. p w.1) ws)) ≡ count_where (waits_at i p) ws → (if c then 1 else 0) + count_of i (map (λ w. w.0) (filter (λ w. p w.1) ws)) ≡ (if c && true then 1 else 0) + count_where (waits_at i p) ws
        both true h = ap (λ n. 1 + n) h
        both false h = omega (arith, h)
    step false h = none (w.0 == i) h
      where
        none : (c : Bool) → count_of i (map (λ w. w.0) (filter (λ w. p w.1) ws)) ≡ count_where (waits_at i p) ws → count_of i (map (λ w. w.0) (filter (λ w. p w.1) ws)) ≡ (if c && false then 1 else 0) + count_where (waits_at i p) ws
        none true h = omega (arith, h)
        none false h = omega (arith, h)

-- a count over a filtered list is one over the list
count_filter : {A : Type 0} (p q : A → Bool) (xs : List A) → count_where p (filter q xs) ≡ count_where (λ x. q x && p x) xs
count_filter p q [] = refl
count_filter p q (x ∷ xs) = step (q x) (count_filter p q xs)
  where
    step : (b : Bool) → count_where p (filter q xs) ≡ count_where (λ x. q x && p x) xs → count_where p (if b then x ∷ filter q xs else filter q xs) ≡ (if b && p x then 1 else 0) + count_where (λ x. q x && p x) xs
    step true h = ap (λ n. (if p x then 1 else 0) + n) h
    step false h = omega (arith, h)

count_same : {A : Type 0} (p q : A → Bool) → ((x : A) → p x ≡ q x) → (xs : List A) → count_where p xs ≡ count_where q xs
count_same p q e [] = refl
count_same p q e (x ∷ xs) = λ j. (if e x j then 1 else 0) + count_same p q e xs j

all_filter : {A : Type 0} (P : A → Type 0) (q : A → Bool) (xs : List A) → AllByRecursion P xs → AllByRecursion P (filter q xs)
all_filter P q [] a = tt
all_filter P q (x ∷ xs) a = step (q x) (all_filter P q xs a.1)
  where
    step : (b : Bool) → AllByRecursion P (filter q xs) → AllByRecursion P (if b then x ∷ filter q xs else filter q xs)
    step true h = (a.0, h)
    step false h = h

-- what follows from a fact of what the test takes holds of all that is filtered
filtered_more : {A : Type 0} (q : A → Bool) (P R : A → Type 0) → ((x : A) → q x ≡ true → P x → R x) → (xs : List A) → AllByRecursion P xs → AllByRecursion R (filter q xs)
filtered_more q P R g [] a = tt
filtered_more q P R g (x ∷ xs) a = step (q x) refl (filtered_more q P R g xs a.1)
  where
    step : (b : Bool) → q x ≡ b → AllByRecursion R (filter q xs) → AllByRecursion R (if b then x ∷ filter q xs else filter q xs)
    step true e h = (g x e a.0, h)
    step false e h = h

rises_weaken : (n m : ℕ) (ts : List Thing) → m ≤ n → Rises n ts → Rises m ts
rises_weaken n m [] le r = tt
rises_weaken n m (t ∷ ts) le r = (omega (arith, le, r.0), r.1)

rises_filter : (q : Thing → Bool) (n : ℕ) (ts : List Thing) → Rises n ts → Rises n (filter q ts)
rises_filter q n [] r = tt
rises_filter q n (t ∷ ts) r = step (q t) (rises_filter q (t.handle.serial + 1) ts r.1)
  where
    step : (b : Bool) → Rises (t.handle.serial + 1) (filter q ts) → Rises n (if b then t ∷ filter q ts else filter q ts)
    step true h = (r.0, h)
    step false h = rises_weaken (t.handle.serial + 1) n (filter q ts) (omega (arith, r.0)) h

-- no thing of a kind has an index past the kind's greatest
none_past : (k : Kind) (i : ℕ) (p : ℕ → Bool) (ts : List Thing) → greatest k ≤ i → AllByRecursion (λ t. t.handle.index < greatest t.handle.kind) ts → count_where (dies_at k i p) ts ≡ 0
none_past k i p [] le a = refl
none_past k i p (t ∷ ts) le a = step (is_at k i t) refl (none_past k i p ts le a.1)
  where
    step : (b : Bool) → is_at k i t ≡ b → count_where (dies_at k i p) ts ≡ 0 → (if b && dies p t.death then 1 else 0) + count_where (dies_at k i p) ts ≡ 0
    step false e h = omega (arith, h)
    step true e h =
        let both = and_parts (kind_number t.handle.kind == kind_number k) (t.handle.index == i) e in
        let same = greatest_same t.handle.kind k (eqb-true (kind_number t.handle.kind) (kind_number k) both.0) in
        let index = eqb-true t.handle.index i both.1 in
        let lt : t.handle.index < greatest t.handle.kind = a.0 in
        absurd (omega (arith, le, same, index, lt))

-- ---- the start of a frame

module _ (r : Resources) (frame : ℕ) (l : IsLawful r) (later : r.frame ≤ frame) where
  over : ℕ → Bool
  over d = is_over r.latency frame d

  started : Resources
  started = start_frame frame r

  book_is : (k : Kind) → book_of (start_frame frame r) k ≡ book_at_start r.latency frame (book_of r k)
  book_is k = let lt : kind_number k < length r.books = (let e = l.books in let n = kind_below k in omega (arith, e, n)) in get_or-map (book_at_start r.latency frame) r.books (kind_number k) no_book no_book lt

  free_is : (k : Kind) (i : ℕ) → count_of i (book_of (start_frame frame r) k).free ≡ count_where (dies_at k i (λ d. is_over r.latency frame d)) r.things + count_of i (book_of r k).free
  free_is k i =
      ap (λ (b : Book). count_of i b.free) (book_is k)
      ∙ count_pushed i (map (λ w. w.0) (filter (λ w. is_over r.latency frame w.1) (book_of r k).waiting)) (book_of r k).free
      ∙ ap (λ n. n + count_of i (book_of r k).free) (count_over i (λ d. is_over r.latency frame d) (book_of r k).waiting ∙ l.waits k i (λ d. is_over r.latency frame d))

  -- a thing at a place is kept, or its death is over
  split : (k : Kind) (i : ℕ) (ts : List Thing) → count_where (dies_at k i (λ d. is_over r.latency frame d)) ts + count_where (is_at k i) (filter (is_kept_thing r.latency frame) ts) ≡ count_where (is_at k i) ts
  split k i ts = ap (λ n. count_where (dies_at k i (λ d. is_over r.latency frame d)) ts + n) (count_filter (is_at k i) (is_kept_thing r.latency frame) ts) ∙ both ts
    where
      one : (b : Bool) (o : Option ℕ) → (if b && dies (λ d. is_over r.latency frame d) o then 1 else 0) + (if is_kept_death r.latency frame o && b then 1 else 0) ≡ (if b then 1 else 0)
      one true None = refl
      one false None = refl
      one b (Some d) = case b (is_over r.latency frame d)
        where
          case : (b c : Bool) → (if b && c then 1 else 0) + (if not c && b then 1 else 0) ≡ (if b then 1 else 0)
          case true true = refl
          case true false = refl
          case false true = refl
          case false false = refl

      both : (us : List Thing) → count_where (dies_at k i (λ d. is_over r.latency frame d)) us + count_where (λ t. is_kept_thing r.latency frame t && is_at k i t) us ≡ count_where (is_at k i) us
      both [] = refl
      both (u ∷ us) = let h = both us in let e = one (is_at k i u) u.death in omega (arith, h, e)

  waits_kept : (k : Kind) (i : ℕ) (p : ℕ → Bool) → count_where (waits_at i p) (book_of (start_frame frame r) k).waiting ≡ count_where (dies_at k i p) (filter (is_kept_thing r.latency frame) r.things)
  waits_kept k i p =
      ap (λ (b : Book). count_where (waits_at i p) b.waiting) (book_is k)
      ∙ count_filter (waits_at i p) (λ w. not (is_over r.latency frame w.1)) (book_of r k).waiting
      ∙ count_same (λ w. not (is_over r.latency frame w.1) && waits_at i p w) (waits_at i (λ d. not (is_over r.latency frame d) && p d)) (λ w. turn (not (is_over r.latency frame w.1)) (w.0 == i) (p w.1)) (book_of r k).waiting
      ∙ l.waits k i (λ d. not (is_over r.latency frame d) && p d)
      ∙ count_same (dies_at k i (λ d. not (is_over r.latency frame d) && p d)) (λ t. is_kept_thing r.latency frame t && dies_at k i p t) (λ t. kept (is_at k i t) t.death) r.things
      ∙ sym (count_filter (dies_at k i p) (is_kept_thing r.latency frame) r.things)
    where
      turn : (a b c : Bool) → a && (b && c) ≡ b && (a && c)
      turn true true c = refl
      turn true false c = refl
      turn false true c = refl
      turn false false c = refl

      kept : (b : Bool) (o : Option ℕ) → b && dies (λ d. not (is_over r.latency frame d) && p d) o ≡ is_kept_death r.latency frame o && (b && dies p o)
      kept b None = refl
      kept b (Some d) = turn b (not (is_over r.latency frame d)) (p d)

  -- what holds is kept no longer than what it holds
  outlived : (holder : Option ℕ) → is_kept_death r.latency frame holder ≡ true → (o : Option ℕ) (b c : Bool) → is_kept_death r.latency frame o && (outlives holder o && b && c) ≡ outlives holder o && b && c
  outlived holder kept None b c = refl
  outlived None kept (Some d) b c = and_false (not (is_over r.latency frame d))
  outlived (Some f) kept (Some d) b c = by_order (nat_le f d) refl
    where
      kept_too : nat_le f d ≡ true → not (is_over r.latency frame d) ≡ true
      kept_too e = grind (arith, kept, e)

      by_order : (x : Bool) → nat_le f d ≡ x → not (is_over r.latency frame d) && (x && b && c) ≡ x && b && c
      by_order true e = ap (λ y. y && (b && c)) (kept_too e)
      by_order false e = and_false (not (is_over r.latency frame d))

  until_kept : (holder : Option ℕ) → is_kept_death r.latency frame holder ≡ true → (n : ℕ) → HasTextureUntil r.things holder n → HasTextureUntil (filter (is_kept_thing r.latency frame) r.things) holder n
  until_kept holder kept n h =
      let e = count_filter (is_texture_until holder n) (is_kept_thing r.latency frame) r.things in
      let same = count_same (λ t. is_kept_thing r.latency frame t && is_texture_until holder n t) (is_texture_until holder n) (λ t. outlived holder kept t.death (kind_number t.handle.kind == 3) (t.handle.serial == n)) r.things in
      omega (arith, e, same, h)

  pub lawful_started : IsLawful (start_frame frame r)
  lawful_started = record {
    rises = rises_filter (is_kept_thing r.latency frame) 0 r.things l.rises;
    below = all_filter (λ t. t.handle.serial < r.next_serial) (is_kept_thing r.latency frame) r.things l.below;
    serials = l.serials;
    few = all_filter (λ t. t.references ≤ greatest_references) (is_kept_thing r.latency frame) r.things l.few;
    fits = all_filter (λ t. t.handle.index < greatest t.handle.kind) (is_kept_thing r.latency frame) r.things l.fits;
    books = length-map r.books (book_at_start r.latency frame) ∙ l.books;
    below_free = λ k i le. free_is k i ∙ (let a = none_past k i (λ d. is_over r.latency frame d) r.things le l.fits in let b = l.below_free k i le in omega (arith, a, b));
    once = λ k i lt. let f = free_is k i in let s = split k i r.things in let o = l.once k i lt in omega (arith, f, s, o);
    waits = waits_kept;
    past = all_filter (λ t. IfSome t.death (λ d. d ≤ frame)) (is_kept_thing r.latency frame) r.things (all_more (λ t. IfSome t.death (λ d. d ≤ r.frame)) (λ t. IfSome t.death (λ d. d ≤ frame)) (λ t h. later_death t.death h) r.things l.past);
    attached = filtered_more (is_kept_thing r.latency frame) (λ t. Holds r.things t.death t.content) (λ t. Holds (filter (is_kept_thing r.latency frame) r.things) t.death t.content)
        (λ t kept h. holds_more r.things (filter (is_kept_thing r.latency frame) r.things) t.death t.death (until_kept t.death kept) t.content h) r.things l.attached;
  }
    where
      later_death : (o : Option ℕ) → IfSome o (λ d. d ≤ r.frame) → IfSome o (λ d. d ≤ frame)
      later_death None h = tt
      later_death (Some d) h = omega (arith, h, later)

-- ---- opening states

count_below : (first many i : ℕ) → i < first → count_of i (range_with_len first many) ≡ 0
count_below first zero i lt = refl
count_below first (suc many) i lt = let e : (if first == i then 1 else 0) ≡ zero = ap (λ b. if b then 1 else zero) (ne_eqb first i (λ s. omega (arith, s, lt))) in let h = count_below (first + 1) many i (omega (arith, lt)) in omega (arith, e, h)

less : (m n : ℕ) → m ≤ n → (m == n) ≡ false → m < n
less m n le e = grind (arith, le, e)

range_step : (first many i : ℕ) (b : Bool) → (first == i) ≡ b → first ≤ i → (first < i → count_of i (range_with_len (first + 1) many) ≡ 1) → (if b then 1 else 0) + count_of i (range_with_len (first + 1) many) ≡ 1
range_step first many i true e le g = let s = eqb-true first i e in let h = count_below (first + 1) many i (omega (arith, s)) in omega (arith, h)
range_step first many i false e le g = let h = g (less first i le e) in omega (arith, h)

count_range : (first many i : ℕ) → first ≤ i → i < first + many → count_of i (range_with_len first many) ≡ 1
count_range first zero i le lt = absurd (omega (arith, le, lt))
count_range first (suc many) i le lt = range_step first many i (first == i) refl le (λ ne. count_range (first + 1) many i (omega (arith, ne)) (omega (arith, lt)))

count_past : (first many i : ℕ) → first + many ≤ i → count_of i (range_with_len first many) ≡ 0
count_past first zero i le = refl
count_past first (suc many) i le = let e : (if first == i then 1 else 0) ≡ zero = ap (λ b. if b then 1 else zero) (ne_eqb first i (λ s. omega (arith, s, le))) in let h = count_past (first + 1) many i (omega (arith, le)) in omega (arith, e, h)

opened_book : (views latency frame serial : ℕ) (k : Kind) → book_of (opening views latency frame serial) k ≡ new_book (greatest k)
opened_book views latency frame serial layout_kind = refl
opened_book views latency frame serial vertex_buffer_kind = refl
opened_book views latency frame serial index_buffer_kind = refl
opened_book views latency frame serial texture_kind = refl
opened_book views latency frame serial frame_buffer_kind = refl
opened_book views latency frame serial program_kind = refl
opened_book views latency frame serial uniform_kind = refl

pub lawful_opening : (views latency frame serial : ℕ) → serial ≤ greatest_serial + 1 → IsLawful (opening views latency frame serial)
lawful_opening views latency frame serial le = record {
  rises = tt;
  below = tt;
  serials = le;
  few = tt;
  fits = tt;
  books = refl;
  below_free = λ k i past. ap (λ (b : Book). count_of i b.free) (opened_book views latency frame serial k) ∙ count_past 0 (greatest k) i (omega (arith, past));
  once = λ k i lt. let e = ap (λ (b : Book). count_of i b.free) (opened_book views latency frame serial k) ∙ count_range 0 (greatest k) i (omega arith) (omega (arith, lt)) in omega (arith, e);
  waits = λ k i p. ap (λ (b : Book). count_where (waits_at i p) b.waiting) (opened_book views latency frame serial k);
  past = tt;
  attached = tt;
}

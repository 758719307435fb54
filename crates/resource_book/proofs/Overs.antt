-- The start of a frame keeps all things exactly where no index waits whose death is over.
use Rattle.std.proofs.Common.{◌≡◌, ℕ, zero, suc, ◌<◌, ◌==◌, Bool, true, false, not, ◌&&◌, if◌then◌else◌, List, [], ◌∷◌, filter, length, Option, Some, None, refl, sym, ap, ◌∙◌, arith, slice_index_or, eq-eqb}
use Rattle.std.specs.List.{list_all}
use Rattle.gfx_model.specs.Words.{Kind, kind_number}
use Rattle.gfx_model.specs.Resources.{Thing, Book, is_at, is_over, is_kept_thing, book_of}
use Rattle.resource_laws.specs.Lawful.{count_where, dies, dies_at, waits_at, IsLawful}
use Rattle.resource_book.specs.declared.shelf.Shelf.{Shelf}
use Rattle.resource_book.specs.Shelves.{resources_of, HasLimits}
use Rattle.resource_book.specs.Stacks.{StackView}
use Rattle.resource_book.proofs.StackLaws.{seven, book_here, kind_below}
use Rattle.resource_book.proofs.Starts.{by_kind}

both : (b c : Bool) → b && c ≡ true → (b ≡ true) × (c ≡ true)
both true true e = (refl, refl)
both true false e = absurd cc
both false c e = absurd cc

join : (b c : Bool) → b ≡ true → c ≡ true → b && c ≡ true
join b c e f = λ j. (e j) && (f j)

-- ---- indices that wait

abbrev pub is_later : (latency frame : ℕ) → ℕ × ℕ → Bool
is_later latency frame w = not (is_over latency frame w.1)

none_waits : (latency frame i : ℕ) (ws : List (ℕ × ℕ)) → list_all (is_later latency frame) ws ≡ true → count_where (waits_at i (is_over latency frame)) ws ≡ 0
none_waits latency frame i [] e = refl
none_waits latency frame i (w ∷ ws) e =
    let h = both (is_later latency frame w) (list_all (is_later latency frame) ws) e in
    let one : (if waits_at i (is_over latency frame) w then 1 else 0) ≡ zero = by (w.0 == i) (is_over latency frame w.1) h.0 in
    let rest = none_waits latency frame i ws h.1 in
    omega (arith, one, rest) where
      by : (b c : Bool) → not c ≡ true → (if b && c then 1 else 0) ≡ zero
      by true true e = absurd cc
      by true false e = refl
      by false c e = refl

waits_none : (latency frame : ℕ) (ws : List (ℕ × ℕ)) → ((i : ℕ) → count_where (waits_at i (is_over latency frame)) ws ≡ 0) → list_all (is_later latency frame) ws ≡ true
waits_none latency frame [] h = refl
waits_none latency frame (w ∷ ws) h =
    join (is_later latency frame w) (list_all (is_later latency frame) ws) (by (is_over latency frame w.1) refl)
    (waits_none latency frame ws (λ i. let z = h i in omega (arith, z))) where
      by : (c : Bool) → is_over latency frame w.1 ≡ c → not c ≡ true
      by true e =
          let one : (if waits_at w.0 (is_over latency frame) w then 1 else 0) ≡ suc 0 = λ j. if eq-eqb w.0 w.0 refl j && e j then 1 else 0 in
          absurd (omega (arith, one, h w.0))
      by false e = refl

-- ---- things that die

kept_is : (latency frame : ℕ) (t : Thing) → is_kept_thing latency frame t ≡ not (dies (is_over latency frame) t.death)
kept_is latency frame t = by t.death where
  by : (o : Option ℕ) → Rattle.gfx_model.specs.Resources.is_kept_death latency frame o ≡ not (dies (is_over latency frame) o)
  by None = refl
  by (Some d) = refl

none_dies : (latency frame : ℕ) (k : Kind) (i : ℕ) (ts : List Thing) → list_all (is_kept_thing latency frame) ts ≡ true → count_where (dies_at k i (is_over latency frame)) ts ≡ 0
none_dies latency frame k i [] e = refl
none_dies latency frame k i (t ∷ ts) e =
    let h = both (is_kept_thing latency frame t) (list_all (is_kept_thing latency frame) ts) e in
    let one : (if dies_at k i (is_over latency frame) t then 1 else 0) ≡ zero = by (is_at k i t) (dies (is_over latency frame) t.death) (sym (kept_is latency frame t) ∙ h.0) in
    let rest = none_dies latency frame k i ts h.1 in
    omega (arith, one, rest) where
      by : (b c : Bool) → not c ≡ true → (if b && c then 1 else 0) ≡ zero
      by true true e = absurd cc
      by true false e = refl
      by false c e = refl

dies_none : (latency frame : ℕ) (ts : List Thing) → ((k : Kind) (i : ℕ) → count_where (dies_at k i (is_over latency frame)) ts ≡ 0) → list_all (is_kept_thing latency frame) ts ≡ true
dies_none latency frame [] h = refl
dies_none latency frame (t ∷ ts) h =
    join (is_kept_thing latency frame t) (list_all (is_kept_thing latency frame) ts) (kept_is latency frame t ∙ by (dies (is_over latency frame) t.death) refl)
    (dies_none latency frame ts (λ k i. let z = h k i in omega (arith, z))) where
      by : (c : Bool) → dies (is_over latency frame) t.death ≡ c → not c ≡ true
      by true e =
          let one : (if dies_at t.handle.kind t.handle.index (is_over latency frame) t then 1 else 0) ≡ suc 0 =
          λ j. if (eq-eqb (kind_number t.handle.kind) (kind_number t.handle.kind) refl j && eq-eqb t.handle.index t.handle.index refl j) && e j then 1 else 0 in
          absurd (omega (arith, one, h t.handle.kind t.handle.index))
      by false e = refl

-- ---- stacks

all_at : {A : Type 0} (p : A → Bool) (xs : List A) (n : ℕ) (d : A) → n < length xs → list_all p xs ≡ true → p (slice_index_or xs n d) ≡ true
all_at p [] n d lt e = absurd (omega (arith, lt))
all_at p (x ∷ xs) zero d lt e = (both (p x) (list_all p xs) e).0
all_at p (x ∷ xs) (suc n) d lt e = all_at p xs n d (omega (arith, lt)) (both (p x) (list_all p xs) e).1

at_all : {A : Type 0} (p : A → Bool) (xs : List A) (d : A) → ((n : ℕ) → n < length xs → p (slice_index_or xs n d) ≡ true) → list_all p xs ≡ true
at_all p [] d h = refl
at_all p (x ∷ xs) d h = join (p x) (list_all p xs) (h 0 (omega arith)) (at_all p xs d (λ n lt. h (suc n) (omega (arith, lt))))

same_bool : (b c : Bool) → (b ≡ true → c ≡ true) → (c ≡ true → b ≡ true) → b ≡ c
same_bool true c f g = sym (f refl)
same_bool false true f g = g refl
same_bool false false f g = refl

abbrev no_stack : StackView
no_stack = record { limit = 0; free = []; waiting = [] }

-- whether none of a stack's indices is given back
abbrev pub keeps_stack : (latency frame : ℕ) → StackView → Bool
keeps_stack latency frame s = list_all (is_later latency frame) s.waiting

module _ (s : Shelf) (limits : HasLimits s) (law : IsLawful (resources_of s)) (frame : ℕ) where
  here : (k : Kind) → (book_of (resources_of s) k).waiting ≡ (slice_index_or s.stacks (kind_number k) no_stack).waiting
  here k = ap (λ (b : Book). b.waiting) (book_here s.stacks k (kind_number k) no_stack (record { free = []; waiting = [] }) refl limits)

  things_keep : list_all (keeps_stack s.latency frame) s.stacks ≡ true → list_all (is_kept_thing s.latency frame) s.table.things ≡ true
  things_keep e = dies_none s.latency frame s.table.things (λ k i.
      sym (law.waits k i (is_over s.latency frame)) ∙ ap (count_where (waits_at i (is_over s.latency frame))) (here k)
      ∙ none_waits s.latency frame i (slice_index_or s.stacks (kind_number k) no_stack).waiting (all_at (keeps_stack s.latency frame) s.stacks (kind_number k) no_stack (let n = seven s.stacks limits in omega (arith, n, kind_below k)) e))

  stacks_keep : list_all (is_kept_thing s.latency frame) s.table.things ≡ true → list_all (keeps_stack s.latency frame) s.stacks ≡ true
  stacks_keep e = at_all (keeps_stack s.latency frame) s.stacks no_stack (λ n lt. by_kind (λ m. keeps_stack s.latency frame (slice_index_or s.stacks m no_stack) ≡ true)
      (λ k. waits_none s.latency frame (slice_index_or s.stacks (kind_number k) no_stack).waiting (λ i.
      ap (count_where (waits_at i (is_over s.latency frame))) (sym (here k)) ∙ law.waits k i (is_over s.latency frame) ∙ none_dies s.latency frame k i s.table.things e))
      n (let m = seven s.stacks limits in omega (arith, m, lt)))

  pub keeps : list_all (keeps_stack s.latency frame) s.stacks ≡ list_all (is_kept_thing s.latency frame) s.table.things
  keeps = same_bool (list_all (keeps_stack s.latency frame) s.stacks) (list_all (is_kept_thing s.latency frame) s.table.things) things_keep stacks_keep

-- where all pass, all are kept
pub all_stay : (p : Thing → Bool) (ts : List Thing) → list_all p ts ≡ true → filter p ts ≡ ts
all_stay p [] e = refl
all_stay p (t ∷ ts) e =
    let h = both (p t) (list_all p ts) e in
    ap (λ b. if b then t ∷ filter p ts else filter p ts) h.0 ∙ ap (λ us. t ∷ us) (all_stay p ts h.1)

-- Making a thing keeps the state lawful.
use Rattle.std.proofs.Common.{◌≡◌, ◌≢◌, ℕ, suc, ◌+◌, ◌<◌, ◌≤◌, ◌==◌, Bool, true, false, ◌&&◌, if◌then◌else◌, List, [], ◌∷◌, ◌++◌, map, length, None, refl, sym, ap, ◌∙◌, arith, IfSome, nat_lt, slice_index_or, slice_set, eq-eqb, ne_eqb}
use Rattle.std.proofs.lemmas.List.{get_or-set_same, get_or-set_other, length-set}
use Rattle.std.proofs.lemmas.Bool.{ltb-true, ltb-false}
use Rattle.std.specs.List.{AllByRecursion}
use native.Mathlib.Decide.{ℕ_discrete}
use mathlib.Core.Logic.{dite}
use Rattle.gfx_model.specs.Words.{Kind, Info, kind_number, greatest}
use Rattle.gfx_model.specs.World.{Content}
use Rattle.gfx_model.specs.Resources.{Thing, Resources, Book, is_at, book_of, make, lacks_index, lacks_serial, without_top, without_top_index, top_index, greatest_serial, greatest_references}
use Rattle.schedule_model.specs.Held.{count_of}
use Rattle.resource_laws.specs.Bare.{bare, bare_of}
use Rattle.resource_laws.specs.Lawful.{Rises, count_where, dies_at, waits_at, Holds, IsLawful}
use Rattle.resource_laws.proofs.KindLaws.{kind_below}
use Rattle.resource_laws.proofs.AttachLaws.{count_snoc, count_map, all_snoc, all_more, has_more, has_bare, holds_more, holds_bare}

-- ---- lists

all_bare : (P : Thing → Type 0) → ((t : Thing) → P t → P (bare t)) → (ts : List Thing) → AllByRecursion P ts → AllByRecursion P (map bare ts)
all_bare P f [] a = tt
all_bare P f (t ∷ ts) a = (f t a.0, all_bare P f ts a.1)

rises_bare : (n : ℕ) (ts : List Thing) → Rises n ts → Rises n (map bare ts)
rises_bare n [] r = tt
rises_bare n (t ∷ ts) r = (r.0, rises_bare (t.handle.serial + 1) ts r.1)

rises_snoc : (n m : ℕ) (ts : List Thing) (t : Thing) → Rises n ts → AllByRecursion (λ u. u.handle.serial < m) ts → n ≤ m → m ≡ t.handle.serial → Rises n (ts ++ t ∷ [])
rises_snoc n m [] t r a le e = (omega (arith, le, e), tt)
rises_snoc n m (x ∷ xs) t r a le e = (r.0, rises_snoc (x.handle.serial + 1) m xs t r.1 a.1 (omega (arith, a.0)) e)

pub lawful_bare : (r : Resources) → IsLawful r → IsLawful (bare_of r)
lawful_bare r l = record {
  rises = rises_bare 0 r.things l.rises;
  below = all_bare (λ t. t.handle.serial < r.next_serial) (λ t h. h) r.things l.below;
  serials = l.serials;
  few = all_bare (λ t. t.references ≤ greatest_references) (λ t h. h) r.things l.few;
  fits = all_bare (λ t. t.handle.index < greatest t.handle.kind) (λ t h. h) r.things l.fits;
  books = l.books;
  below_free = l.below_free;
  once = λ k i lt. ap (λ n. count_of i (book_of r k).free + n) (count_map bare (is_at k i) (λ t. refl) r.things) ∙ l.once k i lt;
  waits = λ k i p. l.waits k i p ∙ sym (count_map bare (dies_at k i p) (λ t. refl) r.things);
  past = all_bare (λ t. IfSome t.death (λ d. d ≤ r.frame)) (λ t h. h) r.things l.past;
  attached = all_bare (λ t. Holds (map bare r.things) t.death t.content) (λ t h. holds_bare (map bare r.things) t.death t.content h) r.things
      (all_more (λ t. Holds r.things t.death t.content) (λ t. Holds (map bare r.things) t.death t.content) (λ t h. holds_more r.things (map bare r.things) t.death t.death (has_bare r.things t.death) t.content h) r.things l.attached);
}

-- ---- a thing more

abbrev pub no_book : Book
no_book = record { free = []; waiting = [] }

pub book_same : (books : List Book) (k m : Kind) (b : Book) → length books ≡ 7 → kind_number m ≡ kind_number k → slice_index_or (slice_set books (kind_number k) b) (kind_number m) no_book ≡ b
book_same books k m b many e = ap (λ n. slice_index_or (slice_set books (kind_number k) b) n no_book) e ∙ get_or-set_same books (kind_number k) b no_book (omega (arith, kind_below k, many))

pub book_other : (books : List Book) (k m : Kind) (b : Book) → kind_number m ≢ kind_number k → slice_index_or (slice_set books (kind_number k) b) (kind_number m) no_book ≡ slice_index_or books (kind_number m) no_book
book_other books k m b ne = get_or-set_other books (kind_number k) (kind_number m) b no_book ne

pub at_same : (k m : Kind) (i : ℕ) (t : Thing) → t.handle.kind ≡ k → kind_number m ≡ kind_number k → is_at m i t ≡ (t.handle.index == i)
at_same k m i t is e = ap (λ b. b && (t.handle.index == i)) (eq-eqb (kind_number t.handle.kind) (kind_number m) (ap kind_number is ∙ sym e))

pub at_other : (k m : Kind) (i : ℕ) (t : Thing) → t.handle.kind ≡ k → kind_number m ≢ kind_number k → is_at m i t ≡ false
at_other k m i t is ne = ap (λ b. b && (t.handle.index == i)) (ne_eqb (kind_number t.handle.kind) (kind_number m) (λ e. ne (sym e ∙ ap kind_number is)))

-- a stack that is not empty, as its top and the rest
top_count : (free : List ℕ) (i : ℕ) → (length free == 0) ≡ false → (if top_index free == i then 1 else 0) + count_of i (without_top free) ≡ count_of i free
top_count [] i e = absurd cc
top_count (x ∷ xs) i e = refl

pub and_false : (b : Bool) → b && false ≡ false
and_false true = refl
and_false false = refl

module _ (k : Kind) (info : Info) (c : Content) (r : Resources) (l : IsLawful r) (some : (lacks_index r k).0 ≡ false) (serial : (lacks_serial r).0 ≡ false) (held : Holds r.things None c) where
  abbrev pub made : Thing
  made = record { handle = record { kind = k; index = top_index (book_of r k).free; serial = r.next_serial; info = info }; birth = r.frame; death = None; content = c; references = 1 }

  top_once : (if made.handle.index == made.handle.index then 1 else 0) ≡ suc 0
  top_once = ap (λ (b : Bool). if b then 1 else 0) (eq-eqb made.handle.index made.handle.index refl)

  below_by : (b : Bool) → nat_lt made.handle.index (greatest k) ≡ b → made.handle.index < greatest k
  below_by true e = ltb-true made.handle.index (greatest k) e
  below_by false e =
      let none : count_of made.handle.index (book_of r k).free ≡ 0 = l.below_free k made.handle.index (ltb-false made.handle.index (greatest k) e) in
      absurd (omega (arith, none, top_once, top_count (book_of r k).free made.handle.index some))

  pub top_below : made.handle.index < greatest k
  top_below = below_by (nat_lt made.handle.index (greatest k)) refl

  pub once_made : (m : Kind) (i : ℕ) → i < greatest m → count_of i (book_of (make k info c r).after m).free + count_where (is_at m i) (r.things ++ made ∷ []) ≡ 1
  once_made m i lt = dite (ℕ_discrete (kind_number m) (kind_number k))
      (λ (e : kind_number m ≡ kind_number k).
      let new : count_of i (book_of (make k info c r).after m).free ≡ count_of i (without_top (book_of r k).free) = ap (λ (b : Book). count_of i b.free) (book_same r.books k m (without_top_index (book_of r k)) l.books e) in
      let old : count_of i (book_of r m).free ≡ count_of i (book_of r k).free = ap (λ n. count_of i (slice_index_or r.books n no_book).free) e in
      let top = top_count (book_of r k).free i some in
      let more : count_where (is_at m i) (r.things ++ made ∷ []) ≡ count_where (is_at m i) r.things + (if made.handle.index == i then 1 else 0) = count_snoc (is_at m i) r.things made ∙ ap (λ b. count_where (is_at m i) r.things + (if b then 1 else 0)) (at_same k m i made refl e) in
      omega (arith, new, old, top, more, l.once m i lt))
      (λ (ne : kind_number m ≢ kind_number k).
      let new : count_of i (book_of (make k info c r).after m).free ≡ count_of i (book_of r m).free = ap (λ (b : Book). count_of i b.free) (book_other r.books k m (without_top_index (book_of r k)) ne) in
      let more : count_where (is_at m i) (r.things ++ made ∷ []) ≡ count_where (is_at m i) r.things + 0 = count_snoc (is_at m i) r.things made ∙ ap (λ b. count_where (is_at m i) r.things + (if b then 1 else 0)) (at_other k m i made refl ne) in
      omega (arith, new, more, l.once m i lt))

  waits_made : (m : Kind) (i : ℕ) (p : ℕ → Bool) → count_where (waits_at i p) (book_of (make k info c r).after m).waiting ≡ count_where (dies_at m i p) (r.things ++ made ∷ [])
  waits_made m i p =
      let more : count_where (dies_at m i p) (r.things ++ made ∷ []) ≡ count_where (dies_at m i p) r.things + 0 = count_snoc (dies_at m i p) r.things made ∙ ap (λ b. count_where (dies_at m i p) r.things + (if b then 1 else 0)) (and_false (is_at m i made)) in
      let same : count_where (waits_at i p) (book_of (make k info c r).after m).waiting ≡ count_where (waits_at i p) (book_of r m).waiting = dite (ℕ_discrete (kind_number m) (kind_number k))
      (λ (e : kind_number m ≡ kind_number k). ap (λ (b : Book). count_where (waits_at i p) b.waiting) (book_same r.books k m (without_top_index (book_of r k)) l.books e) ∙ ap (λ n. count_where (waits_at i p) (slice_index_or r.books n no_book).waiting) (sym e))
      (λ (ne : kind_number m ≢ kind_number k). ap (λ (b : Book). count_where (waits_at i p) b.waiting) (book_other r.books k m (without_top_index (book_of r k)) ne)) in
      omega (arith, same, more, l.waits m i p)

  below_made : (m : Kind) (i : ℕ) → greatest m ≤ i → count_of i (book_of (make k info c r).after m).free ≡ 0
  below_made m i le = dite (ℕ_discrete (kind_number m) (kind_number k))
      (λ (e : kind_number m ≡ kind_number k).
      let new : count_of i (book_of (make k info c r).after m).free ≡ count_of i (without_top (book_of r k).free) = ap (λ (b : Book). count_of i b.free) (book_same r.books k m (without_top_index (book_of r k)) l.books e) in
      let old : count_of i (book_of r m).free ≡ count_of i (book_of r k).free = ap (λ n. count_of i (slice_index_or r.books n no_book).free) e in
      omega (arith, new, old, top_count (book_of r k).free i some, l.below_free m i le))
      (λ (ne : kind_number m ≢ kind_number k).
      let new : count_of i (book_of (make k info c r).after m).free ≡ count_of i (book_of r m).free = ap (λ (b : Book). count_of i b.free) (book_other r.books k m (without_top_index (book_of r k)) ne) in
      omega (arith, new, l.below_free m i le))

  pub lawful_made : IsLawful (make k info c r).after
  lawful_made = record {
    rises = rises_snoc 0 r.next_serial r.things made l.rises l.below (omega arith) refl;
    below = all_snoc (λ t. t.handle.serial < r.next_serial + 1) r.things made (all_more (λ t. t.handle.serial < r.next_serial) (λ t. t.handle.serial < r.next_serial + 1) (λ t h. omega (arith, h)) r.things l.below) (omega arith);
    serials = (let le : r.next_serial ≤ greatest_serial = ltb-false greatest_serial r.next_serial serial in omega (arith, le));
    few = all_snoc (λ t. t.references ≤ greatest_references) r.things made l.few (omega arith);
    fits = all_snoc (λ t. t.handle.index < greatest t.handle.kind) r.things made l.fits top_below;
    books = length-set r.books (kind_number k) (without_top_index (book_of r k)) ∙ l.books;
    below_free = below_made;
    once = once_made;
    waits = waits_made;
    past = all_snoc (λ t. IfSome t.death (λ d. d ≤ r.frame)) r.things made l.past tt;
    attached = all_snoc (λ t. Holds (r.things ++ made ∷ []) t.death t.content) r.things made
        (all_more (λ t. Holds r.things t.death t.content) (λ t. Holds (r.things ++ made ∷ []) t.death t.content) (λ t h. holds_more r.things (r.things ++ made ∷ []) t.death t.death (has_more r.things made t.death) t.content h) r.things l.attached)
        (holds_more r.things (r.things ++ made ∷ []) None None (has_more r.things made None) c held);
  }

  -- its place had no thing
  pub none_before : count_where (is_at k made.handle.index) r.things ≡ 0
  none_before = omega (arith, l.once k made.handle.index top_below, top_once, top_count (book_of r k).free made.handle.index some)

-- Views that are entered one after the other, and those of a pass among them.
use Rattle.std.proofs.Common.{◌≡◌, ◌<◌, inl, inr, ℕ, zero, suc, ◌+◌, ◌-◌, false, List, [], ◌∷◌, ◌++◌, map, take, drop, length, get_or, Option, Some, None, refl, sym, ap, subst, ◌∙◌, arith}
use Rattle.std.specs.Prelude.{fold}
use Rattle.std.specs.List.{AllByRecursion, slice_get}
use Rattle.std.proofs.lemmas.Option.{none-some}
use Rattle.std.proofs.lemmas.List.{take_more, take_rest, take-map, drop-map, map-append, append_assoc}
use Rattle.std.proofs.lemmas.List.Sums.{fold-append}
use Rattle.gfx_model.specs.Words.{Handle, ProgramKind}
use Rattle.gfx_model.specs.World.{Surface, Item, is_blit}
use Rattle.store_model.specs.Buffers.{Buffers}
use Rattle.store_model.specs.Textures.{Textures}
use Rattle.store_laws.specs.ByIndex.{Stores}
use Rattle.store_laws.specs.Listed.{Drawing, drawn_in, values_after}
use Rattle.pass_laws.specs.Passed.{Turn, clear_turn, after_turn, all_drawn, all_values, ClearsBefore, AllClearBefore, IsPass}
use Rattle.int_raster.specs.Drawing.{PreparedDraw, drawn_prepared}
use Rattle.view_drawing.specs.Entered.{entered, StopsAtDraw, HaveGiven, IsBegun}
use Rattle.view_drawing.specs.Passes.{Part, after_part, turn_of, HasNoBlits, IsStoppedAt, AreBegun, all_items}
use Rattle.view_drawing.specs.Prepared.{DoAllTo, DoTurnsTo}
use Rattle.view_drawing.proofs.DrawnLaws.{turns_drawn}

-- ---- lists

-- one element more
pub map_more : {X Y : Type 0} (f : X → Y) (xs : List X) (i : ℕ) (x : X) → i < length xs → x ≡ get_or xs i x → map f (take (i + 1) xs) ≡ map f (take i xs) ++ f x ∷ []
map_more f xs i x within is = ap (map f) (take_more xs i x within) ∙ map-append f (take i xs) (get_or xs i x ∷ []) ∙ ap (λ y. map f (take i xs) ++ f y ∷ []) (sym is)

-- one element more in a fold
pub step_more : {X Y B : Type 0} (f : B → Y → B) (g : X → Y) (first mid last : B) (xs : List X) (i : ℕ) (x : X) → i < length xs → x ≡ get_or xs i x → mid ≡ fold f first (map g (take i xs)) → last ≡ f mid (g x)
    → last ≡ fold f first (map g (take (i + 1) xs))
step_more f g first mid last xs i x within is before one =
    one ∙ ap (λ b. f b (g x)) before ∙ sym (ap (fold f first) (map_more g xs i x within is) ∙ fold-append f first (map g (take i xs)) (g x ∷ []))

-- a list without elements
abbrev nothing : {X : Type 0} → List X
nothing = []

take_nil : {X : Type 0} (n : ℕ) → take n (nothing {X = X}) ≡ nothing {X = X}
take_nil zero = refl
take_nil (suc n) = refl

-- a part and the part behind it
take_then : {X : Type 0} (n m : ℕ) (xs : List X) → take (n + m) xs ≡ take n xs ++ take m (drop n xs)
take_then zero m xs = let none : 0 + m ≡ m = omega arith in ap (λ k. take k xs) none
take_then (suc n) m [] = take_nil (suc n + m) ∙ sym (take_nil m)
take_then (suc n) m (x ∷ xs) = let one : suc n + m ≡ suc (n + m) = omega arith in ap (λ k. take k (x ∷ xs)) one ∙ ap (λ ys. x ∷ ys) (take_then n m xs)

pub all_dropped : {X Y : Type 0} (P : Y → Type 0) (f : X → Y) (n : ℕ) (xs : List X) → AllByRecursion P (map f xs) → AllByRecursion P (map f (drop n xs))
all_dropped P f zero xs a = a
all_dropped P f (suc n) [] a = a
all_dropped P f (suc n) (x ∷ xs) a = all_dropped P f n xs a.1

pub all_taken : {X Y : Type 0} (P : Y → Type 0) (f : X → Y) (n : ℕ) (xs : List X) → AllByRecursion P (map f xs) → AllByRecursion P (map f (take n xs))
all_taken P f zero xs a = tt
all_taken P f (suc n) [] a = a
all_taken P f (suc n) (x ∷ xs) a = (a.0, all_taken P f n xs a.1)

pub all_put : {Y : Type 0} (P : Y → Type 0) (ys : List Y) (y : Y) → AllByRecursion P ys → P y → AllByRecursion P (ys ++ y ∷ [])
all_put P [] y a p = (p, tt)
all_put P (z ∷ ys) y a p = (a.0, all_put P ys y a.1 p)

pub all_at : {X Y : Type 0} (P : Y → Type 0) (f : X → Y) (i : ℕ) (xs : List X) (x : X) → i < length xs → x ≡ get_or xs i x → AllByRecursion P (map f xs) → P (f x)
all_at P f i [] x within is a = absurd (omega (arith, within))
all_at P f zero (y ∷ xs) x within is a = subst (λ z. P (f z)) (sym is) a.0
all_at P f (suc i) (y ∷ xs) x within is a = all_at P f i xs x (omega (arith, within)) is a.1

-- ---- draws and touches of views

-- those of one view more
pub turns_more : (width height : ℕ) (out : Textures) (programs : List (Option ProgramKind)) (ts all : List Turn) (t : Turn) (b c e : Buffers) (l m n : List PreparedDraw)
    → all ≡ ts ++ t ∷ [] → DoTurnsTo width height out programs ts b l c m → DoAllTo width height out programs t.view t.items c m e n → DoTurnsTo width height out programs all b l e n
turns_more width height out programs ts all t b c e l m n is before one s ew eh =
    ap (all_drawn out programs (record { buffers = b; surface = fold drawn_prepared s l })) is
    ∙ fold-append (λ (y : Drawing) (u : Turn). fold (drawn_in out programs u.view) y u.items) (record { buffers = b; surface = fold drawn_prepared s l }) ts (t ∷ [])
    ∙ ap (λ x. fold (drawn_in out programs t.view) x t.items) (before s ew eh)
    ∙ one s ew eh

-- the values of views, all of which are done
pub turns_done : (width height : ℕ) (out : Textures) (programs : List (Option ProgramKind)) (ts : List Turn) (b c : Buffers) (l m : List PreparedDraw)
    → DoTurnsTo width height out programs ts b l c m → c ≡ all_values b ts
turns_done width height out programs ts b c l m all =
    sym (ap (λ (x : Drawing). x.buffers) (all s refl refl)) ∙ turns_drawn out programs (record { buffers = b; surface = fold drawn_prepared s l }) ts
  where
    s : Surface
    s = record { color = record { width = width; height = height; texels = [] }; depth = None }

-- the values of views are those of their draws and touches
values_all : (b : Buffers) (ts : List Turn) → all_values b ts ≡ fold values_after b (all_items ts)
values_all b [] = refl
values_all b (t ∷ ts) = values_all (fold values_after b t.items) ts ∙ sym (fold-append values_after b t.items (all_items ts))

items_all : (ts us : List Turn) → all_items (ts ++ us) ≡ all_items ts ++ all_items us
items_all [] us = refl
items_all (t ∷ ts) us = ap (λ xs. t.items ++ xs) (items_all ts us) ∙ sym (append_assoc t.items (all_items ts) (all_items us))

get_behind : {A : Type 0} (xs ys : List A) (i : ℕ) → slice_get (xs ++ ys) (length xs + i) ≡ slice_get ys i
get_behind [] ys i = let none : 0 + i ≡ i = omega arith in ap (slice_get ys) none
get_behind (x ∷ xs) ys i = let one : suc (length xs) + i ≡ suc (length xs + i) = omega arith in ap (slice_get (x ∷ (xs ++ ys))) one ∙ get_behind xs ys i

get_before : {A : Type 0} (xs ys : List A) (i : ℕ) (x : A) → slice_get xs i ≡ Some x → slice_get (xs ++ ys) i ≡ Some x
get_before [] ys i x e = absurd (none-some x e)
get_before (y ∷ xs) ys zero x e = e
get_before (y ∷ xs) ys (suc i) x e = get_before xs ys i x e

take_behind : {A : Type 0} (xs ys : List A) (i : ℕ) → take (length xs + i) (xs ++ ys) ≡ xs ++ take i ys
take_behind [] ys i = let none : 0 + i ≡ i = omega arith in ap (λ k. take k ys) none
take_behind (x ∷ xs) ys i = let one : suc (length xs) + i ≡ suc (length xs + i) = omega arith in ap (λ k. take k (x ∷ (xs ++ ys))) one ∙ ap (λ zs. x ∷ zs) (take_behind xs ys i)

take_before : {A : Type 0} (xs ys : List A) (i : ℕ) (x : A) → slice_get xs i ≡ Some x → take (i + 1) (xs ++ ys) ≡ take (i + 1) xs
take_before [] ys i x e = absurd (none-some x e)
take_before (y ∷ xs) ys zero x e = refl
take_before (y ∷ xs) ys (suc i) x e =
    let one : suc i + 1 ≡ suc (i + 1) = omega arith in
    ap (λ k. take k (y ∷ (xs ++ ys))) one ∙ ap (λ zs. y ∷ zs) (take_before xs ys i x e) ∙ sym (ap (λ k. take k (y ∷ xs)) one)

-- a list of draws and touches that stopped, between others of which those before are done
stops_between : (programs : List (Option ProgramKind)) (xs ys zs : List Item) (old mid new : Buffers) → mid ≡ fold values_after old xs → StopsAtDraw programs ys mid new → StopsAtDraw programs (xs ++ (ys ++ zs)) old new
stops_between programs xs ys zs old mid new before stops = record {
  before = length xs + stops.before;
  item = stops.item;
  there = get_behind xs (ys ++ zs) stops.before ∙ get_before ys zs stops.before stops.item stops.there;
  draws = stops.draws;
  given =
      stops.given ∙ ap (λ b. fold values_after b (take (stops.before + 1) ys)) before
      ∙ sym (fold-append values_after old xs (take (stops.before + 1) ys))
      ∙ ap (fold values_after old) (ap (λ ws. xs ++ ws) (sym (take_before ys zs stops.before stops.item stops.there)) ∙ sym (take_behind xs (ys ++ zs) (stops.before + 1)) ∙ ap (λ n. take n (xs ++ (ys ++ zs))) on);
}
  where
    on : length xs + (stops.before + 1) ≡ length xs + stops.before + 1
    on = omega arith

-- the same of a view among views
pub stops_at_turn : {X : Type 0} (programs : List (Option ProgramKind)) (turn : X → Turn) (xs : List X) (i : ℕ) (x : X) (old mid new : Buffers) → i < length xs → x ≡ get_or xs i x
    → mid ≡ all_values old (map turn (take i xs)) → StopsAtDraw programs (turn x).items mid new → StopsAtDraw programs (all_items (map turn xs)) old new
stops_at_turn programs turn xs i x old mid new within is before stops =
    subst (λ ys. StopsAtDraw programs ys old new) (sym parts) (stops_between programs (all_items (map turn (take i xs))) (turn x).items (all_items (map turn (drop (i + 1) xs))) old mid new (before ∙ values_all old (map turn (take i xs))) stops)
  where
    split : {A : Type 0} (ys : List A) (j : ℕ) (y : A) → j < length ys → y ≡ get_or ys j y → ys ≡ take j ys ++ y ∷ drop (j + 1) ys
    split [] j y lt e = absurd (omega (arith, lt))
    split (z ∷ ys) zero y lt e = ap (λ w. w ∷ ys) (sym e)
    split (z ∷ ys) (suc j) y lt e =
        let one : suc j + 1 ≡ suc (j + 1) = omega arith in
        ap (λ ws. z ∷ ws) (split ys j y (omega (arith, lt)) e) ∙ ap (λ k. z ∷ (take j ys ++ y ∷ drop k (z ∷ ys))) (sym one)

    parts : all_items (map turn xs) ≡ all_items (map turn (take i xs)) ++ ((turn x).items ++ all_items (map turn (drop (i + 1) xs)))
    parts =
        ap (λ ys. all_items (map turn ys)) (split xs i x within is)
        ∙ ap all_items (map-append turn (take i xs) (x ∷ drop (i + 1) xs))
        ∙ items_all (map turn (take i xs)) (turn x ∷ map turn (drop (i + 1) xs))

-- ---- a pass

before_put : (ts : List Turn) (t : Turn) → AllClearBefore ts → AllByRecursion (λ u. ClearsBefore u.view t.view) ts → AllClearBefore (ts ++ t ∷ [])
before_put [] t a b = (tt, tt)
before_put (u ∷ ts) t a b = (all_put (λ w. ClearsBefore u.view w.view) ts t a.0 b.0, before_put ts t a.1 b.1)

-- with one view more
pub pass_more : (target : Option Handle) (ts all : List Turn) (t : Turn) → all ≡ ts ++ t ∷ [] → IsPass target ts → t.view.target ≡ target → AllByRecursion (λ u. ClearsBefore u.view t.view) ts → AllByRecursion (λ i. is_blit i ≡ false) t.items
    → IsPass target all
pass_more target ts all t is pass same before plain =
    subst (IsPass target) (sym is) (record {
      same = all_put (λ u. u.view.target ≡ target) ts t pass.same same;
      before = before_put ts t pass.before before;
      plain = all_put (λ u. AllByRecursion (λ i. is_blit i ≡ false) u.items) ts t pass.plain plain;
    })

-- views without blits are entered as the turns of a pass
pub as_turns : (h : Stores) (ps : List Part) → AllByRecursion HasNoBlits ps → fold after_part h ps ≡ fold after_turn h (map turn_of ps)
as_turns h [] a = refl
as_turns h (p ∷ ps) a = ap (λ bs. fold after_part (entered p.view bs p.items h) ps) a.0 ∙ as_turns (after_turn h (turn_of p)) ps a.1

pub turns_of : {X : Type 0} (part : X → Part) (xs : List X) → map turn_of (map part xs) ≡ map (λ x. turn_of (part x)) xs
turns_of part [] = refl
turns_of part (x ∷ xs) = ap (λ ts. turn_of (part x) ∷ ts) (turns_of part xs)

-- some views more are entered
pub parts_more : {X : Type 0} (part : X → Part) (xs : List X) (i n : ℕ) (first mid last : Stores) → mid ≡ fold after_part first (map part (take i xs)) → last ≡ fold after_part mid (map part (take n (drop i xs)))
    → last ≡ fold after_part first (map part (take (i + n) xs))
parts_more part xs i n first mid last before more =
    more ∙ ap (λ h. fold after_part h (map part (take n (drop i xs)))) before
    ∙ sym (ap (λ ys. fold after_part first (map part ys)) (take_then i n xs)
    ∙ ap (fold after_part first) (map-append part (take i xs) (take n (drop i xs)))
    ∙ fold-append after_part first (map part (take i xs)) (map part (take n (drop i xs))))

-- ---- where memory was wanting

first_part : {X : Type 0} (part : X → Part) (xs : List X) (x : X) → 0 < length xs → x ≡ get_or xs 0 x → slice_get (map part xs) 0 ≡ Some (part x)
first_part part [] x some is = absurd (omega (arith, some))
first_part part (y ∷ xs) x some is = ap (λ z. Some (part z)) (sym is)

-- in the first view
pub stopped_in_view : {X : Type 0} (part : X → Part) (xs : List X) (x : X) (old new : Stores) → 0 < length xs → x ≡ get_or xs 0 x → IsBegun (part x).view (part x).blits (part x).items old new
    → IsStoppedAt (map part xs) old new
stopped_in_view part xs x old new some is begun = inl (record { part = part x; there = first_part part xs x some is; begun = begun })

-- in views that are drawn at one go
pub stopped_in_pass : {X : Type 0} (part : X → Part) (xs : List X) (n : ℕ) (old new : Stores) → AllByRecursion HasNoBlits (map part (take n xs))
    → HaveGiven (all_items (map (λ x. turn_of (part x)) (take n xs))) (fold clear_turn old (map (λ x. turn_of (part x)) (take n xs))) new
    → IsStoppedAt (map part xs) old new
stopped_in_pass part xs n old new none given = inr (record {
  count = n;
  none = subst (AllByRecursion HasNoBlits) (sym (take-map part n xs)) none;
  given = subst (λ ts. HaveGiven (all_items ts) (fold clear_turn old ts) new) (sym (ap (map turn_of) (take-map part n xs) ∙ turns_of part (take n xs))) given;
})

-- behind views that are entered
pub begun_behind : {X : Type 0} (part : X → Part) (xs : List X) (i : ℕ) (old mid new : Stores) → mid ≡ fold after_part old (map part (take i xs))
    → IsStoppedAt (map part (take (length xs - i) (drop i xs))) mid new → AreBegun (map part xs) old new
begun_behind part xs i old mid new before stopped = record {
  before = i;
  stopped =
      subst (λ h. IsStoppedAt (drop i (map part xs)) h new) (before ∙ ap (fold after_part old) (sym (take-map part i xs)))
      (subst (λ ps. IsStoppedAt ps mid new) (ap (map part) (take_rest xs i) ∙ sym (drop-map part i xs)) stopped);
}

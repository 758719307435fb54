-- The live frame buffer of least index, by going over the places of frame buffers.
use Rattle.std.proofs.Common.{◌≡◌, ℕ, ◌+◌, ◌<◌, ◌≤◌, ◌==◌, nat_le, Bool, true, false, ◌&&◌, if◌then◌else◌, List, [], ◌∷◌, map, filter, Option, Some, None, is_some, MatchOption, refl, sym, ap, ◌∙◌, subst, arith, eq-eqb}
use Rattle.std.specs.List.{AllByRecursion, find}
use Rattle.std.proofs.lemmas.Bool.{eqb-true, leb-true, leb-false, le-leb, lt-leb}
use Rattle.std.proofs.lemmas.Option.{none-some, same_Some}
use Rattle.gfx_model.specs.Words.{Kind, Handle, kind_number, greatest, frame_buffer_kind}
use Rattle.gfx_model.specs.World.{Content, layout_content, vertex_content, index_content, texture_content, frame_buffer_content, program_content, uniform_content}
use Rattle.gfx_model.specs.Resources.{Thing, is_at, is_live, holds_texture, lesser_index, least_index}
use Rattle.resource_laws.specs.Lawful.{count_where}
use Rattle.store_laws.specs.Standing.{content_kind}
use Rattle.resource_book.specs.Tables.{StandApart, IsOfKind}
use Rattle.resource_book.specs.Finding.{held_by}
use Rattle.resource_book.proofs.Rooms.{some_counted, found_true}
use Rattle.resource_book.proofs.Apartness.{both_true}

-- ---- each thing is found at its place

all_two : (P Q R : Thing → Type 0) → ((t : Thing) → P t → Q t → R t) → (ts : List Thing) → AllByRecursion P ts → AllByRecursion Q ts → AllByRecursion R ts
all_two P Q R g [] a b = tt
all_two P Q R g (t ∷ ts) a b = (g t a.0 b.0, all_two P Q R g ts a.1 b.1)

at_itself : (t : Thing) → is_at t.handle.kind t.handle.index t ≡ true
at_itself t = λ j. eq-eqb (kind_number t.handle.kind) (kind_number t.handle.kind) refl j && eq-eqb t.handle.index t.handle.index refl j

behind : (u x : Thing) (xs : List Thing) (b : Bool) → is_at u.handle.kind u.handle.index x ≡ b → (if b then 1 else 0) + count_where (is_at u.handle.kind u.handle.index) xs ≤ 1 → find (is_at u.handle.kind u.handle.index) xs ≡ Some u
    → (if b then Some x else find (is_at u.handle.kind u.handle.index) xs) ≡ Some u
behind u x xs true e one f = let some = some_counted (is_at u.handle.kind u.handle.index) (is_at u.handle.kind u.handle.index) xs u f (at_itself u) in absurd (omega (arith, one, some))
behind u x xs false e one f = f

pub found_all : (ts : List Thing) → StandApart ts → AllByRecursion (λ u. find (is_at u.handle.kind u.handle.index) ts ≡ Some u) ts
found_all [] a = tt
found_all (x ∷ xs) a = (
  ap (λ b. if b then Some x else find (is_at x.handle.kind x.handle.index) xs) (at_itself x),
  all_two (λ u. find (is_at u.handle.kind u.handle.index) xs ≡ Some u) (λ u. u.handle.index < greatest u.handle.kind) (λ u. find (is_at u.handle.kind u.handle.index) (x ∷ xs) ≡ Some u)
      (λ u f below. behind u x xs (is_at u.handle.kind u.handle.index x) refl (a.once u.handle.kind u.handle.index below) f)
      xs (found_all xs (record { fits = a.fits.1; once = λ k i lt. let o = a.once k i lt in omega (arith, o) })) a.fits.1,
)

-- ---- the least of a kind

abbrev least_of : (Thing → Bool) → List Thing → Option Handle
least_of p ts = least_index (map (λ t. t.handle) (filter p ts))

-- where a test holds, a thing is of a kind, and its index is no less
abbrev Behind : Kind → (Thing → Bool) → ℕ → Thing → Type 0
Behind k p i t = p t ≡ true → (t.handle.kind ≡ k) × (i ≤ t.handle.index)

abbrev AtLeast : ℕ → Option Handle → Type 0
AtLeast i o = MatchOption o (Unit {0}) (λ h. i ≤ h.index)

lesser_least : (i : ℕ) (h : Handle) (o : Option Handle) → i ≤ h.index → AtLeast i o → AtLeast i (lesser_index h o)
lesser_least i h None le a = le
lesser_least i h (Some g) le a = by (nat_le h.index g.index) where
  by : (b : Bool) → AtLeast i (if b then Some h else Some g)
  by true = le
  by false = a

at_least : (k : Kind) (p : Thing → Bool) (i : ℕ) (ts : List Thing) → AllByRecursion (Behind k p i) ts → AtLeast i (least_of p ts)
at_least k p i [] a = tt
at_least k p i (t ∷ ts) a = by (p t) refl (at_least k p i ts a.1) where
  by : (b : Bool) → p t ≡ b → AtLeast i (least_of p ts) → AtLeast i (least_index (map (λ t. t.handle) (if b then t ∷ filter p ts else filter p ts)))
  by true e h = lesser_least i t.handle (least_of p ts) ((a.0 e).1) h
  by false e h = h

lesser_here : (h : Handle) (o : Option Handle) → AtLeast h.index o → lesser_index h o ≡ Some h
lesser_here h None a = refl
lesser_here h (Some g) a = ap (λ b. if b then Some h else Some g) (le-leb h.index g.index a)

lesser_there : (h g : Handle) → g.index < h.index → lesser_index h (Some g) ≡ Some g
lesser_there h g lt = ap (λ b. if b then Some h else Some g) (lt-leb h.index g.index lt)

step : (k : Kind) (p : Thing → Bool) (i : ℕ) (x : Thing) (xs : List Thing) (t : Thing) (b c : Bool) → p x ≡ b → is_at k i x ≡ c → Behind k p i x → AllByRecursion (Behind k p i) xs → p t ≡ true → is_at k i t ≡ true
    → (find (is_at k i) xs ≡ Some t → least_of p xs ≡ Some t.handle) → (if c then Some x else find (is_at k i) xs) ≡ Some t → least_index (map (λ t. t.handle) (if b then x ∷ filter p xs else filter p xs)) ≡ Some t.handle
step k p i x xs t true true e f h a holds at r found =
    let h' = both_true (kind_number x.handle.kind == kind_number k) (x.handle.index == i) f in
    let index = eqb-true x.handle.index i h'.1 in
    lesser_here x.handle (least_of p xs) (subst (λ n. AtLeast n (least_of p xs)) (sym index) (at_least k p i xs a)) ∙ ap (λ (u : Thing). Some u.handle) (same_Some x t found)
step k p i x xs t true false e f h a holds at r found =
    let h' = both_true (kind_number t.handle.kind == kind_number k) (t.handle.index == i) at in
    let index = eqb-true t.handle.index i h'.1 in
    let own = h e in
    ap (lesser_index x.handle) (r found) ∙ lesser_there x.handle t.handle (other index own) where
      other : t.handle.index ≡ i → (x.handle.kind ≡ k) × (i ≤ x.handle.index) → t.handle.index < x.handle.index
      other index own = by (nat_le x.handle.index i) refl where
        by : (b : Bool) → nat_le x.handle.index i ≡ b → t.handle.index < x.handle.index
        by true le =
            let same : x.handle.index ≡ i = omega (arith, own.1, leb-true x.handle.index i le) in
            absurd (false_true (sym f ∙ (λ j. eq-eqb (kind_number x.handle.kind) (kind_number k) (ap kind_number own.0) j && eq-eqb x.handle.index i same j))) where
              false_true : false ≡ true → ⊥
              false_true e = cc
        by false gt = omega (arith, index, leb-false x.handle.index i gt)
step k p i x xs t false true e f h a holds at r found = absurd (false_true (sym e ∙ ap p (same_Some x t found) ∙ holds)) where
  false_true : false ≡ true → ⊥
  false_true e = cc
step k p i x xs t false false e f h a holds at r found = r found

least_here : (k : Kind) (p : Thing → Bool) (i : ℕ) (ts : List Thing) (t : Thing) → AllByRecursion (Behind k p i) ts → p t ≡ true → is_at k i t ≡ true → find (is_at k i) ts ≡ Some t → least_of p ts ≡ Some t.handle
least_here k p i [] t a holds at found = absurd (none-some t found)
least_here k p i (x ∷ xs) t a holds at found = step k p i x xs t (p x) (is_at k i x) refl refl a.0 a.1 holds at (least_here k p i xs t a.1 holds at) found

least_none : (k : Kind) (p : Thing → Bool) (i : ℕ) (ts : List Thing) → greatest k ≤ i → AllByRecursion (Behind k p i) ts → AllByRecursion (λ t. t.handle.index < greatest t.handle.kind) ts → least_of p ts ≡ None
least_none k p i [] le a fits = refl
least_none k p i (t ∷ ts) le a fits = by (p t) refl (least_none k p i ts le a.1 fits.1) where
  by : (b : Bool) → p t ≡ b → least_of p ts ≡ None → least_index (map (λ t. t.handle) (if b then t ∷ filter p ts else filter p ts)) ≡ None
  by true e r = let own = a.0 e in let same = ap greatest own.0 in absurd (omega (arith, own.1, same, le, fits.0))
  by false e r = r

-- ---- while none was found

-- no thing at an index below has been found to hold
abbrev pub NoneBelow : Kind → (Thing → Bool) → ℕ → List Thing → Type 0
NoneBelow k p i ts = (n : ℕ) → n < i → held_by p (find (is_at k n) ts) ≡ None

held_one : (k : Kind) (p : Thing → Bool) (i : ℕ) (ts : List Thing) (t : Thing) → NoneBelow k p i ts → find (is_at t.handle.kind t.handle.index) ts ≡ Some t → (p t ≡ true → t.handle.kind ≡ k) → Behind k p i t
held_one k p i ts t none found kind e = (kind e, by (nat_le i t.handle.index) refl) where
  by : (b : Bool) → nat_le i t.handle.index ≡ b → i ≤ t.handle.index
  by true le = leb-true i t.handle.index le
  by false gt =
      let here : find (is_at k t.handle.index) ts ≡ Some t = (λ j. find (is_at (sym (kind e) j) t.handle.index) ts) ∙ found in
      let held : held_by p (find (is_at k t.handle.index) ts) ≡ Some t.handle = ap (held_by p) here ∙ ap (λ b. if b then Some t.handle else None) e in
      absurd (none-some t.handle (sym (none t.handle.index (leb-false i t.handle.index gt)) ∙ held))

all_behind : (k : Kind) (p : Thing → Bool) (i : ℕ) (ts : List Thing) → NoneBelow k p i ts → StandApart ts → AllByRecursion (λ t. p t ≡ true → t.handle.kind ≡ k) ts → AllByRecursion (Behind k p i) ts
all_behind k p i ts none apart kinds = all_two (λ t. find (is_at t.handle.kind t.handle.index) ts ≡ Some t) (λ t. p t ≡ true → t.handle.kind ≡ k) (Behind k p i) (λ t f h. held_one k p i ts t none f h) ts (found_all ts apart) kinds

-- ---- of frame buffers

holds_kind : (serial : ℕ) (c : Content) → holds_texture serial c ≡ true → content_kind c ≡ frame_buffer_kind
holds_kind serial (layout_content l) e = absurd cc
holds_kind serial (vertex_content l bytes) e = absurd cc
holds_kind serial (index_content bytes) e = absurd cc
holds_kind serial (texture_content f t) e = absurd cc
holds_kind serial (frame_buffer_content color depth) e = refl
holds_kind serial (program_content k) e = absurd cc
holds_kind serial (uniform_content name v) e = absurd cc

abbrev pub is_holder : ℕ → Thing → Bool
is_holder serial t = is_live t && holds_texture serial t.content

holder_kinds : (serial : ℕ) (ts : List Thing) → AllByRecursion IsOfKind ts → AllByRecursion (λ t. is_holder serial t ≡ true → t.handle.kind ≡ frame_buffer_kind) ts
holder_kinds serial [] a = tt
holder_kinds serial (t ∷ ts) a = ((λ e. sym a.0 ∙ holds_kind serial t.content (both_true (is_live t) (holds_texture serial t.content) e).1), holder_kinds serial ts a.1)

held_case : (p : Thing → Bool) (o : Option Thing) (h : Handle) → held_by p o ≡ Some h → (t : Thing) × (o ≡ Some t) × (p t ≡ true) × (t.handle ≡ h)
held_case p None h e = absurd (none-some h e)
held_case p (Some t) h e = by (p t) refl e where
  by : (b : Bool) → p t ≡ b → (if b then Some t.handle else None) ≡ Some h → (u : Thing) × (Some t ≡ Some u) × (p u ≡ true) × (u.handle ≡ h)
  by true f e = (t, refl, f, same_Some t.handle h e)
  by false f e = absurd (none-some h e)

pub holder_found : (serial i : ℕ) (ts : List Thing) (h : Handle) → NoneBelow frame_buffer_kind (is_holder serial) i ts → StandApart ts → AllByRecursion IsOfKind ts → held_by (is_holder serial) (find (is_at frame_buffer_kind i) ts) ≡ Some h
    → least_of (is_holder serial) ts ≡ Some h
holder_found serial i ts h none apart kinds e =
    let found = held_case (is_holder serial) (find (is_at frame_buffer_kind i) ts) h e in
    least_here frame_buffer_kind (is_holder serial) i ts found.0 (all_behind frame_buffer_kind (is_holder serial) i ts none apart (holder_kinds serial ts kinds)) found.2 (found_true (is_at frame_buffer_kind i) ts found.0 found.1) found.1 ∙ ap Some found.3

pub holder_some : (serial i : ℕ) (ts : List Thing) (o : Option Handle) → NoneBelow frame_buffer_kind (is_holder serial) i ts → StandApart ts → AllByRecursion IsOfKind ts → o ≡ held_by (is_holder serial) (find (is_at frame_buffer_kind i) ts) → is_some o ≡ true
    → o ≡ least_of (is_holder serial) ts
holder_some serial i ts None none apart kinds e some = absurd cc
holder_some serial i ts (Some h) none apart kinds e some = sym (holder_found serial i ts h none apart kinds (sym e))

pub holder_none : (serial i : ℕ) (ts : List Thing) → NoneBelow frame_buffer_kind (is_holder serial) i ts → StandApart ts → AllByRecursion IsOfKind ts → 128 ≤ i → least_of (is_holder serial) ts ≡ None
holder_none serial i ts none apart kinds le = least_none frame_buffer_kind (is_holder serial) i ts le (all_behind frame_buffer_kind (is_holder serial) i ts none apart (holder_kinds serial ts kinds)) apart.fits

pub none_below_more : (k : Kind) (p : Thing → Bool) (i : ℕ) (ts : List Thing) → NoneBelow k p i ts → held_by p (find (is_at k i) ts) ≡ None → NoneBelow k p (i + 1) ts
none_below_more k p i ts none e n lt = by (nat_le i n) refl where
  by : (b : Bool) → nat_le i n ≡ b → held_by p (find (is_at k n) ts) ≡ None
  by true le = let same : n ≡ i = omega (arith, lt, leb-true i n le) in ap (λ m. held_by p (find (is_at k m) ts)) same ∙ e
  by false gt = none n (leb-false i n gt)

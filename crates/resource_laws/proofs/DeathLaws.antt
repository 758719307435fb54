-- The death of a thing keeps the state lawful.
use Rattle.std.proofs.Common.{◌≡◌, ◌≢◌, ℕ, zero, suc, ◌+◌, ◌-◌, ◌<◌, ◌≤◌, ◌==◌, Bool, true, false, ◌&&◌, if◌then◌else◌, List, [], ◌∷◌, ◌++◌, map, length, Option, Some, None, refl, sym, ap, ◌∙◌, subst, arith, slice_set, option_map, eq-eqb, ne_eqb, ◌||◌, is_none, IfSome, ◌⊎◌, inl, inr}
use Rattle.std.proofs.lemmas.List.{length-set}
use Rattle.std.proofs.lemmas.Bool.{eqb-true, both_ways, le-leb}
use Rattle.std.proofs.lemmas.Option.{same_Some, none-some}
use Rattle.std.specs.List.{AllByRecursion, find}
use native.Mathlib.Decide.{ℕ_discrete}
use mathlib.Core.Logic.{dite}
use Rattle.gfx_model.specs.Words.{Kind, Handle, kind_number, greatest}
use Rattle.gfx_model.specs.World.{Content, layout_content, vertex_content, index_content, texture_content, frame_buffer_content, program_content, uniform_content}
use Rattle.gfx_model.specs.Resources.{Thing, Resources, Book, is_at, is_live, holds_texture, book_of, change_of_serial, with_death, with_references, on_thing, with_waiting, die, greatest_references}
use Rattle.schedule_model.specs.Held.{count_of}
use Rattle.resource_laws.specs.Lawful.{Rises, count_where, dies, dies_at, waits_at, outlives, is_texture_until, HasTextureUntil, Holds, IsLawful}
use Rattle.resource_laws.proofs.AttachLaws.{count_snoc, all_more, all_found, holds_more}
use Rattle.resource_laws.proofs.LawfulLaws.{book_same, book_other, no_book}

-- ---- what is found

found_case : (p : Thing → Bool) (x : Thing) (xs : List Thing) (t : Thing) (b : Bool) → p x ≡ b → find p (x ∷ xs) ≡ Some t → (if b then Some x else find p xs) ≡ Some t
found_case p x xs t b e h = sym (ap (λ c. if c then Some x else find p xs) e) ∙ h

ge_step : (n : ℕ) (p : Thing → Bool) (x : Thing) (xs : List Thing) (t : Thing) (b : Bool) → n ≤ x.handle.serial → (find p xs ≡ Some t → x.handle.serial + 1 ≤ t.handle.serial) → (if b then Some x else find p xs) ≡ Some t → n ≤ t.handle.serial
ge_step n p x xs t true le f h = subst (λ (u : Thing). n ≤ u.handle.serial) (same_Some x t h) le
ge_step n p x xs t false le f h = omega (arith, le, f h)

-- what is found has a serial from the first on
pub found_ge : (n : ℕ) (p : Thing → Bool) (ts : List Thing) (t : Thing) → Rises n ts → find p ts ≡ Some t → n ≤ t.handle.serial
found_ge n p [] t r h = absurd (none-some t h)
found_ge n p (x ∷ xs) t r h = ge_step n p x xs t (p x) r.0 (found_ge (x.handle.serial + 1) p xs t r.1) h

true_step : (p : Thing → Bool) (x : Thing) (xs : List Thing) (t : Thing) (b : Bool) → p x ≡ b → (find p xs ≡ Some t → p t ≡ true) → (if b then Some x else find p xs) ≡ Some t → p t ≡ true
true_step p x xs t true e f h = ap p (sym (same_Some x t h)) ∙ e
true_step p x xs t false e f h = f h

pub found_true : (p : Thing → Bool) (ts : List Thing) (t : Thing) → find p ts ≡ Some t → p t ≡ true
found_true p [] t h = absurd (none-some t h)
found_true p (x ∷ xs) t h = true_step p x xs t (p x) refl (found_true p xs t) h

abbrev pub has_serial : ℕ → Thing → Bool
has_serial s t = t.handle.serial == s

serial_step : (p : Thing → Bool) (x : Thing) (xs : List Thing) (t : Thing) (b : Bool) → Rises (x.handle.serial + 1) xs → (find p xs ≡ Some t → find (has_serial t.handle.serial) xs ≡ Some t) → (if b then Some x else find p xs) ≡ Some t
    → find (has_serial t.handle.serial) (x ∷ xs) ≡ Some t
serial_step p x xs t true r f h = let e = same_Some x t h in
    ap (λ c. if c then Some x else find (has_serial t.handle.serial) xs) (eq-eqb x.handle.serial t.handle.serial (ap (λ (u : Thing). u.handle.serial) e)) ∙ h
serial_step p x xs t false r f h = let le = found_ge (x.handle.serial + 1) p xs t r h in
    ap (λ c. if c then Some x else find (has_serial t.handle.serial) xs) (ne_eqb x.handle.serial t.handle.serial (λ e. omega (arith, le, e))) ∙ f h

-- serials differ, so what is found by a test is found by its serial
pub by_serial : (n : ℕ) (p : Thing → Bool) (ts : List Thing) (t : Thing) → Rises n ts → find p ts ≡ Some t → find (has_serial t.handle.serial) ts ≡ Some t
by_serial n p [] t r h = absurd (none-some t h)
by_serial n p (x ∷ xs) t r h = serial_step p x xs t (p x) r.1 (by_serial (x.handle.serial + 1) p xs t r.1) h

-- ---- one thing changed

module _ (f : Thing → Thing) (s : ℕ) where
  rises_step : (n : ℕ) (x : Thing) (xs : List Thing) (b : Bool) → ((t : Thing) → (f t).handle ≡ t.handle) → n ≤ x.handle.serial → Rises (x.handle.serial + 1) xs → Rises (x.handle.serial + 1) (change_of_serial f s xs) → Rises n (if b then f x ∷ xs else x ∷ change_of_serial f s xs)
  rises_step n x xs true same le r q = (subst (λ (h : Handle). n ≤ h.serial) (sym (same x)) le, subst (λ (h : Handle). Rises (h.serial + 1) xs) (sym (same x)) r)
  rises_step n x xs false same le r q = (le, q)

  pub rises_change : (n : ℕ) (ts : List Thing) → ((t : Thing) → (f t).handle ≡ t.handle) → Rises n ts → Rises n (change_of_serial f s ts)
  rises_change n [] same r = tt
  rises_change n (x ∷ xs) same r = rises_step n x xs (x.handle.serial == s) same r.0 r.1 (rises_change (x.handle.serial + 1) xs same r.1)

  all_step : (P : Thing → Type 0) (x : Thing) (xs : List Thing) (b : Bool) → P x → P (f x) → AllByRecursion P xs → AllByRecursion P (change_of_serial f s xs) → AllByRecursion P (if b then f x ∷ xs else x ∷ change_of_serial f s xs)
  all_step P x xs true h g a q = (g, a)
  all_step P x xs false h g a q = (h, q)

  pub all_change : (P : Thing → Type 0) → ((t : Thing) → P t → P (f t)) → (ts : List Thing) → AllByRecursion P ts → AllByRecursion P (change_of_serial f s ts)
  all_change P g [] a = tt
  all_change P g (x ∷ xs) a = all_step P x xs (x.handle.serial == s) a.0 (g x a.0) a.1 (all_change P g xs a.1)

  one_step : (q : Thing → Bool) (x : Thing) (xs : List Thing) (t : Thing) (b : Bool) → (find (has_serial s) xs ≡ Some t → count_where q (change_of_serial f s xs) + (if q t then 1 else 0) ≡ count_where q xs + (if q (f t) then 1 else 0))
      → (if b then Some x else find (has_serial s) xs) ≡ Some t → count_where q (if b then f x ∷ xs else x ∷ change_of_serial f s xs) + (if q t then 1 else 0) ≡ count_where q (x ∷ xs) + (if q (f t) then 1 else 0)
  one_step q x xs t true g h = subst (λ (u : Thing). count_where q (f x ∷ xs) + (if q u then 1 else 0) ≡ count_where q (x ∷ xs) + (if q (f u) then 1 else 0)) (same_Some x t h) (omega arith)
  one_step q x xs t false g h = let k = g h in omega (arith, k)

  pub one_changed : (q : Thing → Bool) (ts : List Thing) (t : Thing) → find (has_serial s) ts ≡ Some t → count_where q (change_of_serial f s ts) + (if q t then 1 else 0) ≡ count_where q ts + (if q (f t) then 1 else 0)
  one_changed q [] t h = absurd (none-some t h)
  one_changed q (x ∷ xs) t h = one_step q x xs t (x.handle.serial == s) (one_changed q xs t) h

all_at_step : (f : Thing → Thing) (s : ℕ) (P : Thing → Type 0) (x : Thing) (xs : List Thing) (t : Thing) (b : Bool) → P (f t) → P x → AllByRecursion P xs → (find (has_serial s) xs ≡ Some t → AllByRecursion P (change_of_serial f s xs))
    → (if b then Some x else find (has_serial s) xs) ≡ Some t → AllByRecursion P (if b then f x ∷ xs else x ∷ change_of_serial f s xs)
all_at_step f s P x xs t true g h a q e = (subst (λ (u : Thing). P (f u)) (sym (same_Some x t e)) g, a)
all_at_step f s P x xs t false g h a q e = (h, q e)

-- a fact of all things, and of the changed one
pub all_at : (f : Thing → Thing) (s : ℕ) (P : Thing → Type 0) (ts : List Thing) (t : Thing) → find (has_serial s) ts ≡ Some t → P (f t) → AllByRecursion P ts → AllByRecursion P (change_of_serial f s ts)
all_at f s P [] t h g a = tt
all_at f s P (x ∷ xs) t h g a = all_at_step f s P x xs t (x.handle.serial == s) g a.0 a.1 (λ e. all_at f s P xs t e g a.1) h

pub and_parts : (b c : Bool) → b && c ≡ true → (b ≡ true) × (c ≡ true)
and_parts true true e = (refl, refl)
and_parts true false e = absurd cc
and_parts false c e = absurd cc

and_no : (b : Bool) → b && false ≡ false
and_no true = refl
and_no false = refl

-- ---- a death

-- no live frame buffer holds a texture
abbrev pub IsUnheld : List Thing → ℕ → Type 0
IsUnheld ts n = AllByRecursion (λ u. (is_live u && holds_texture n u.content) ≡ false) ts

-- what is there as long as a live holder is there as long as one that dies
weaker : (death n : ℕ) (ts : List Thing) → count_where (is_texture_until None n) ts ≤ count_where (is_texture_until (Some death) n) ts
weaker death n [] = omega arith
weaker death n (t ∷ ts) = let h = weaker death n ts in let e = one t.death (kind_number t.handle.kind == 3) (t.handle.serial == n) in omega (arith, h, e)
  where
    one : (o : Option ℕ) (b c : Bool) → (if outlives None o && b && c then 1 else 0) ≤ (if outlives (Some death) o && b && c then 1 else 0)
    one None b c = omega arith
    one (Some d) b c = omega arith

or_parts : (b c : Bool) → b || c ≡ false → (b ≡ false) × (c ≡ false)
or_parts false false e = (refl, refl)
or_parts true c e = absurd cc
or_parts false true e = absurd cc

-- what a frame buffer holds is another texture
others : (n : ℕ) (o : Option ℕ) (c : Content) (Q : ℕ → Type 0) → holds_texture n c ≡ false → ((m : ℕ) → (m == n) ≡ false → Q m) → (ts us : List Thing) → ((m : ℕ) → Q m → HasTextureUntil ts o m → HasTextureUntil us o m) → Holds ts o c → Holds us o c
others n o (layout_content l) Q e q ts us g h = tt
others n o (vertex_content l x) Q e q ts us g h = tt
others n o (index_content x) Q e q ts us g h = tt
others n o (texture_content f t) Q e q ts us g h = tt
others n o (frame_buffer_content color None) Q e q ts us g h = (g color (q color e) h.0, tt)
others n o (frame_buffer_content color (Some depth)) Q e q ts us g h = (let p = or_parts (color == n) (depth == n) e in (g color (q color p.0) h.0, g depth (q depth p.1) h.1))
others n o (program_content k) Q e q ts us g h = tt
others n o (uniform_content name v) Q e q ts us g h = tt

module _ (h : Handle) (r : Resources) (l : IsLawful r) (t : Thing) (is : find (is_at h.kind h.index) r.things ≡ Some t) (serial : t.handle.serial ≡ h.serial) (live : t.death ≡ None) (unheld : IsUnheld r.things h.serial ⊎ ((kind_number t.handle.kind == 3) ≡ false)) where
  there : find (has_serial h.serial) r.things ≡ Some t
  there = subst (λ (s : ℕ). find (has_serial s) r.things ≡ Some t) serial (by_serial 0 (is_at h.kind h.index) r.things t l.rises is)

  both : (kind_number t.handle.kind == kind_number h.kind ≡ true) × (t.handle.index == h.index ≡ true)
  both = and_parts (kind_number t.handle.kind == kind_number h.kind) (t.handle.index == h.index) (found_true (is_at h.kind h.index) r.things t is)

  pub kinds : kind_number t.handle.kind ≡ kind_number h.kind
  kinds = eqb-true (kind_number t.handle.kind) (kind_number h.kind) both.0

  pub indices : t.handle.index ≡ h.index
  indices = eqb-true t.handle.index h.index both.1

  count_died : (q : Thing → Bool) → count_where q (die h r).things + (if q t then 1 else 0) ≡ count_where q r.things + (if q (with_death r.frame t) then 1 else 0)
  count_died q = one_changed (with_death r.frame) h.serial q r.things t there

  died_book : Book
  died_book = with_waiting h.index r.frame (book_of r h.kind)

  free_died : (m : Kind) (i : ℕ) → count_of i (book_of (die h r) m).free ≡ count_of i (book_of r m).free
  free_died m i = dite (ℕ_discrete (kind_number m) (kind_number h.kind))
      (λ (e : kind_number m ≡ kind_number h.kind). ap (λ (b : Book). count_of i b.free) (book_same r.books h.kind m (with_waiting h.index r.frame (book_of r h.kind)) l.books e) ∙ ap (λ n. count_of i (Rattle.std.proofs.Common.slice_index_or r.books n no_book).free) (sym e))
      (λ (ne : kind_number m ≢ kind_number h.kind). ap (λ (b : Book). count_of i b.free) (book_other r.books h.kind m (with_waiting h.index r.frame (book_of r h.kind)) ne))

  here_same : (m : Kind) (i : ℕ) → kind_number m ≡ kind_number h.kind → is_at m i t ≡ (h.index == i)
  here_same m i e = (λ j. eq-eqb (kind_number t.handle.kind) (kind_number m) (kinds ∙ sym e) j && (indices j == i))

  here_other : (m : Kind) (i : ℕ) → kind_number m ≢ kind_number h.kind → is_at m i t ≡ false
  here_other m i ne = ap (λ b. b && (t.handle.index == i)) (ne_eqb (kind_number t.handle.kind) (kind_number m) (λ e. ne (sym e ∙ kinds)))

  not_before : (m : Kind) (i : ℕ) (p : ℕ → Bool) → (if dies_at m i p t then 1 else 0) ≡ zero
  not_before m i p = ap (λ o. if is_at m i t && dies p o then 1 else zero) live ∙ ap (λ b. if b then 1 else zero) (and_no (is_at m i t))

  waits_died : (m : Kind) (i : ℕ) (p : ℕ → Bool) → count_where (waits_at i p) (book_of (die h r) m).waiting ≡ count_where (dies_at m i p) (die h r).things
  waits_died m i p = dite (ℕ_discrete (kind_number m) (kind_number h.kind))
      (λ (e : kind_number m ≡ kind_number h.kind).
      let new : count_where (waits_at i p) (book_of (die h r) m).waiting ≡ count_where (waits_at i p) (book_of r h.kind).waiting + (if (h.index == i) && p r.frame then 1 else 0) =
      ap (λ (b : Book). count_where (waits_at i p) b.waiting) (book_same r.books h.kind m (with_waiting h.index r.frame (book_of r h.kind)) l.books e) ∙ count_snoc (waits_at i p) (book_of r h.kind).waiting (h.index, r.frame) in
      let old : count_where (waits_at i p) (book_of r m).waiting ≡ count_where (waits_at i p) (book_of r h.kind).waiting = ap (λ n. count_where (waits_at i p) (Rattle.std.proofs.Common.slice_index_or r.books n no_book).waiting) e in
      let after : (if dies_at m i p (with_death r.frame t) then 1 else 0) ≡ (if (h.index == i) && p r.frame then 1 else zero) = ap (λ b. if b && p r.frame then 1 else zero) (here_same m i e) in
      omega (arith, new, old, after, not_before m i p, count_died (dies_at m i p), l.waits m i p))
      (λ (ne : kind_number m ≢ kind_number h.kind).
      let new : count_where (waits_at i p) (book_of (die h r) m).waiting ≡ count_where (waits_at i p) (book_of r m).waiting = ap (λ (b : Book). count_where (waits_at i p) b.waiting) (book_other r.books h.kind m (with_waiting h.index r.frame (book_of r h.kind)) ne) in
      let after : (if dies_at m i p (with_death r.frame t) then 1 else 0) ≡ zero = ap (λ b. if b && p r.frame then 1 else zero) (here_other m i ne) in
      omega (arith, new, after, not_before m i p, count_died (dies_at m i p), l.waits m i p))

  -- what is there as long as what died before, or dies now, stays so
  stays_dead : (o : Option ℕ) (d : ℕ) → o ≡ Some d → d ≤ r.frame → (n : ℕ) → HasTextureUntil r.things o n → HasTextureUntil (die h r).things o n
  stays_dead o d e le n has =
      let c = count_died (is_texture_until o n) in
      let same : is_texture_until o n (with_death r.frame t) ≡ is_texture_until o n t =
      (λ j. (ap (λ x. outlives x (Some r.frame)) e ∙ le-leb d r.frame le ∙ ap (outlives o) (sym live)) j && (kind_number t.handle.kind == 3) && (t.handle.serial == n)) in
      let z : (if is_texture_until o n (with_death r.frame t) then 1 else 0) ≡ (if is_texture_until o n t then 1 else zero) = ap (λ b. if b then 1 else zero) same in
      omega (arith, c, z, has)

  -- another texture stays
  stays : (o : Option ℕ) (n : ℕ) → is_texture_until o n t ≡ false → HasTextureUntil r.things o n → HasTextureUntil (die h r).things o n
  stays o n e has = let c = count_died (is_texture_until o n) in let z : (if is_texture_until o n t then 1 else zero) ≡ 0 = ap (λ b. if b then 1 else zero) e in omega (arith, c, z, has)

  no_texture : (kind_number t.handle.kind == 3) ≡ false → (o : Option ℕ) (n : ℕ) → is_texture_until o n t ≡ false
  no_texture e o n = ap (λ b. outlives o t.death && b && (t.handle.serial == n)) e ∙ ap (λ b. b && (t.handle.serial == n)) (and_no (outlives o t.death))

  other_serial : (o : Option ℕ) (n : ℕ) → (n == h.serial) ≡ false → is_texture_until o n t ≡ false
  other_serial o n e = ap (λ b. outlives o t.death && (kind_number t.handle.kind == 3) && b) (ne_eqb t.handle.serial n (λ s. both_ways (n == h.serial) e (eq-eqb n h.serial (sym s ∙ serial)))) ∙ and_no (outlives o t.death && (kind_number t.handle.kind == 3))

  triple_up : (P Q S R : Thing → Type 0) (ts : List Thing) → ((u : Thing) → P u → Q u → S u → R u) → AllByRecursion P ts → AllByRecursion Q ts → AllByRecursion S ts → AllByRecursion R ts
  triple_up P Q S R [] g a b c = tt
  triple_up P Q S R (u ∷ us) g a b c = (g u a.0 b.0 c.0, triple_up P Q S R us g a.1 b.1 c.1)

  -- what a frame buffer holds, by its death and whether it holds this thing
  held_by : (u : Thing) (o : Option ℕ) → u.death ≡ o → Holds r.things u.death u.content → (is_live u && holds_texture h.serial u.content) ≡ false → IfSome u.death (λ d. d ≤ r.frame) → Holds (die h r).things u.death u.content
  held_by u None e g not_held past =
      others h.serial u.death u.content (λ m. is_texture_until u.death m t ≡ false) (sym (ap (λ x. is_none x && holds_texture h.serial u.content) e) ∙ not_held) (other_serial u.death) r.things (die h r).things (stays u.death) g
  held_by u (Some d) e g not_held past =
      holds_more r.things (die h r).things u.death u.death (stays_dead u.death d e (subst (λ (x : Option ℕ). IfSome x (λ d. d ≤ r.frame)) e past)) u.content g

  held_after : (IsUnheld r.things h.serial ⊎ ((kind_number t.handle.kind == 3) ≡ false)) → AllByRecursion (λ u. Holds (die h r).things u.death u.content) r.things
  held_after (inl a) = triple_up (λ u. Holds r.things u.death u.content) (λ u. (is_live u && holds_texture h.serial u.content) ≡ false) (λ u. IfSome u.death (λ d. d ≤ r.frame)) (λ u. Holds (die h r).things u.death u.content) r.things
      (λ u g e past. held_by u u.death refl g e past) l.attached a l.past
  held_after (inr e) = all_more (λ u. Holds r.things u.death u.content) (λ u. Holds (die h r).things u.death u.content) (λ u g. holds_more r.things (die h r).things u.death u.death (λ n. stays u.death n (no_texture e u.death n)) u.content g) r.things l.attached

  -- what a live thing holds is there as long as it where it dies now
  until_now : (n : ℕ) → HasTextureUntil r.things None n → HasTextureUntil (die h r).things (Some r.frame) n
  until_now n has =
      let c = count_died (is_texture_until (Some r.frame) n) in
      let same : is_texture_until (Some r.frame) n (with_death r.frame t) ≡ is_texture_until (Some r.frame) n t =
      (λ j. (le-leb r.frame r.frame (omega arith) ∙ ap (outlives (Some r.frame)) (sym live)) j && (kind_number t.handle.kind == 3) && (t.handle.serial == n)) in
      let z : (if is_texture_until (Some r.frame) n (with_death r.frame t) then 1 else 0) ≡ (if is_texture_until (Some r.frame) n t then 1 else zero) = ap (λ b. if b then 1 else zero) same in
      let w = weaker r.frame n r.things in
      omega (arith, c, z, w, has)

  holds_now : Holds (die h r).things (Some r.frame) t.content
  holds_now = holds_more r.things (die h r).things None (Some r.frame) until_now t.content
      (subst (λ (o : Option ℕ). Holds r.things o t.content) live (all_found (λ u. Holds r.things u.death u.content) (is_at h.kind h.index) r.things t l.attached is))

  pub lawful_died : IsLawful (die h r)
  lawful_died = record {
    rises = rises_change (with_death r.frame) h.serial 0 r.things (λ u. refl) l.rises;
    below = all_change (with_death r.frame) h.serial (λ u. u.handle.serial < r.next_serial) (λ u g. g) r.things l.below;
    serials = l.serials;
    few = all_change (with_death r.frame) h.serial (λ u. u.references ≤ greatest_references) (λ u g. g) r.things l.few;
    fits = all_change (with_death r.frame) h.serial (λ u. u.handle.index < greatest u.handle.kind) (λ u g. g) r.things l.fits;
    books = length-set r.books (kind_number h.kind) (with_waiting h.index r.frame (book_of r h.kind)) ∙ l.books;
    below_free = λ m i le. free_died m i ∙ l.below_free m i le;
    once = λ m i lt. let c = count_died (is_at m i) in let f = free_died m i in omega (arith, c, f, l.once m i lt);
    waits = waits_died;
    past = all_change (with_death r.frame) h.serial (λ u. IfSome u.death (λ d. d ≤ r.frame)) (λ u g. omega arith) r.things l.past;
    attached = all_at (with_death r.frame) h.serial (λ u. Holds (die h r).things u.death u.content) r.things t there holds_now (held_after unheld);
  }

-- ---- references

module _ (g : ℕ → ℕ) (s : ℕ) (r : Resources) (l : IsLawful r) (t : Thing) (is : find (has_serial s) r.things ≡ Some t) (most : g t.references ≤ greatest_references) where
  referred : List Thing
  referred = (on_thing (with_references g) s r).things

  count_referred : (q : Thing → Bool) → q (with_references g t) ≡ q t → count_where q (on_thing (with_references g) s r).things ≡ count_where q r.things
  count_referred q same =
      let c = one_changed (with_references g) s q r.things t is in
      let e : (if q (with_references g t) then 1 else 0) ≡ (if q t then 1 else zero) = ap (λ b. if b then 1 else zero) same in
      omega (arith, c, e)

  pub lawful_referred : IsLawful (on_thing (with_references g) s r)
  lawful_referred = record {
    rises = rises_change (with_references g) s 0 r.things (λ u. refl) l.rises;
    below = all_change (with_references g) s (λ u. u.handle.serial < r.next_serial) (λ u g. g) r.things l.below;
    serials = l.serials;
    few = all_at (with_references g) s (λ u. u.references ≤ greatest_references) r.things t is most l.few;
    fits = all_change (with_references g) s (λ u. u.handle.index < greatest u.handle.kind) (λ u g. g) r.things l.fits;
    books = l.books;
    below_free = l.below_free;
    once = λ m i lt. ap (λ n. count_of i (book_of r m).free + n) (count_referred (is_at m i) refl) ∙ l.once m i lt;
    waits = λ m i p. l.waits m i p ∙ sym (count_referred (dies_at m i p) refl);
    past = all_change (with_references g) s (λ u. IfSome u.death (λ d. d ≤ r.frame)) (λ u g. g) r.things l.past;
    attached = all_change (with_references g) s (λ u. Holds (on_thing (with_references g) s r).things u.death u.content) (λ u g. g) r.things
        (all_more (λ u. Holds r.things u.death u.content) (λ u. Holds (on_thing (with_references g) s r).things u.death u.content)
        (λ u k. holds_more r.things (on_thing (with_references g) s r).things u.death u.death (λ n has. let e = count_referred (is_texture_until u.death n) refl in omega (arith, e, has)) u.content k) r.things l.attached);
  }

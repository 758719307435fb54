-- Counts of things, facts of all things, and textures that are held, where a thing more stands or contents are bared.
use Rattle.std.proofs.Common.{◌≡◌, ℕ, ◌+◌, Bool, true, false, if◌then◌else◌, List, [], ◌∷◌, ◌++◌, map, Option, Some, None, refl, subst, arith}
use Rattle.std.specs.List.{AllByRecursion, find}
use Rattle.std.proofs.lemmas.Option.{same_Some, none-some}
use Rattle.gfx_model.specs.World.{Content, layout_content, vertex_content, index_content, texture_content, frame_buffer_content, program_content, uniform_content}
use Rattle.gfx_model.specs.Resources.{Thing}
use Rattle.resource_laws.specs.Bare.{bare, bare_content}
use Rattle.resource_laws.specs.Lawful.{count_where, is_texture_until, HasTextureUntil, Holds}

pub count_snoc : {A : Type 0} (p : A → Bool) (xs : List A) (y : A) → count_where p (xs ++ y ∷ []) ≡ count_where p xs + (if p y then 1 else 0)
count_snoc p [] y = omega arith
count_snoc p (x ∷ xs) y = let h = count_snoc p xs y in omega arith

pub count_map : (f : Thing → Thing) (p : Thing → Bool) → ((t : Thing) → p (f t) ≡ p t) → (ts : List Thing) → count_where p (map f ts) ≡ count_where p ts
count_map f p same [] = refl
count_map f p same (t ∷ ts) = λ j. (if same t j then 1 else 0) + count_map f p same ts j

pub all_snoc : {A : Type 0} (P : A → Type 0) (xs : List A) (x : A) → AllByRecursion P xs → P x → AllByRecursion P (xs ++ x ∷ [])
all_snoc P [] x a h = (h, tt)
all_snoc P (y ∷ ys) x a h = (a.0, all_snoc P ys x a.1 h)

pub all_more : {A : Type 0} (P Q : A → Type 0) → ((x : A) → P x → Q x) → (xs : List A) → AllByRecursion P xs → AllByRecursion Q xs
all_more P Q g [] a = tt
all_more P Q g (x ∷ xs) a = (g x a.0, all_more P Q g xs a.1)

all_step : (P : Thing → Type 0) (p : Thing → Bool) (x : Thing) (xs : List Thing) (t : Thing) (b : Bool) → P x → (find p xs ≡ Some t → P t) → (if b then Some x else find p xs) ≡ Some t → P t
all_step P p x xs t true h g e = subst P (same_Some x t e) h
all_step P p x xs t false h g e = g e

-- a fact of all things is one of what is found
pub all_found : (P : Thing → Type 0) (p : Thing → Bool) (ts : List Thing) (t : Thing) → AllByRecursion P ts → find p ts ≡ Some t → P t
all_found P p [] t a e = absurd (none-some t e)
all_found P p (x ∷ xs) t a e = all_step P p x xs t (p x) a.0 (all_found P p xs t a.1) e

-- ---- textures that are held

pub has_more : (ts : List Thing) (t : Thing) (holder : Option ℕ) (n : ℕ) → HasTextureUntil ts holder n → HasTextureUntil (ts ++ t ∷ []) holder n
has_more ts t holder n h = let e = count_snoc (is_texture_until holder n) ts t in omega (arith, e, h)

pub has_bare : (ts : List Thing) (holder : Option ℕ) (n : ℕ) → HasTextureUntil ts holder n → HasTextureUntil (map bare ts) holder n
has_bare ts holder n h = let e = count_map bare (is_texture_until holder n) (λ t. refl) ts in omega (arith, e, h)

-- a content's textures are there where all textures that are there stay
pub holds_more : (ts us : List Thing) (o p : Option ℕ) → ((n : ℕ) → HasTextureUntil ts o n → HasTextureUntil us p n) → (c : Content) → Holds ts o c → Holds us p c
holds_more ts us o p g (layout_content l) h = tt
holds_more ts us o p g (vertex_content l b) h = tt
holds_more ts us o p g (index_content b) h = tt
holds_more ts us o p g (texture_content f t) h = tt
holds_more ts us o p g (frame_buffer_content color None) h = (g color h.0, tt)
holds_more ts us o p g (frame_buffer_content color (Some depth)) h = (g color h.0, g depth h.1)
holds_more ts us o p g (program_content k) h = tt
holds_more ts us o p g (uniform_content name v) h = tt

pub holds_bare : (ts : List Thing) (o : Option ℕ) (c : Content) → Holds ts o c → Holds ts o (bare_content c)
holds_bare ts o (layout_content l) h = tt
holds_bare ts o (vertex_content l b) h = tt
holds_bare ts o (index_content b) h = tt
holds_bare ts o (texture_content f t) h = tt
holds_bare ts o (frame_buffer_content color depth) h = h
holds_bare ts o (program_content k) h = tt
holds_bare ts o (uniform_content name v) h = tt

-- What the state of the calls keeps.
use Rattle.std.specs.Prelude.{◌≡◌, ℕ, ◌+◌, ◌<◌, ◌≤◌, ◌==◌, nat_le, Bool, true, false, ◌&&◌, if◌then◌else◌, List, [], ◌∷◌, length, Option, Some, None, IfSome, ⊤}
use Rattle.std.specs.List.{AllByRecursion}
use Rattle.gfx_model.specs.Words.{Kind, texture_kind, all_kinds, is_kind, greatest}
use Rattle.gfx_model.specs.World.{Content, frame_buffer_content}
use Rattle.gfx_model.specs.Resources.{Thing, Resources, is_at, book_of, greatest_references, greatest_serial}
use Rattle.schedule_model.specs.Held.{count_of}

-- serials ascend, from a number on
abbrev pub Rises : ℕ → List Thing → Type 0
Rises n [] = ⊤
Rises n (t ∷ ts) = (n ≤ t.handle.serial) × Rises (t.handle.serial + 1) ts

-- of how many elements a test holds
abbrev pub count_where : {A : Type 0} → (A → Bool) → List A → ℕ
count_where p [] = 0
count_where p (x ∷ xs) = (if p x then 1 else 0) + count_where p xs

-- whether there is a death, of which a test holds
abbrev pub dies : (ℕ → Bool) → Option ℕ → Bool
dies p None = false
dies p (Some death) = p death

-- whether an index waits with a death of which a test holds
abbrev pub waits_at : ℕ → (ℕ → Bool) → ℕ × ℕ → Bool
waits_at index p w = (w.0 == index) && p w.1

-- whether a thing stands at a kind's index and has a death of which a test holds
abbrev pub dies_at : Kind → ℕ → (ℕ → Bool) → Thing → Bool
dies_at k index p t = is_at k index t && dies p t.death

-- whether a texture's death, if it has one, comes no earlier than that of what holds it
abbrev pub outlives : (holder texture : Option ℕ) → Bool
outlives holder None = true
outlives None (Some death) = false
outlives (Some first) (Some death) = nat_le first death

-- whether a thing is the texture of a serial, and is there as long as what holds it
abbrev pub is_texture_until : Option ℕ → ℕ → Thing → Bool
is_texture_until holder serial t = outlives holder t.death && is_kind t.handle.kind texture_kind && (t.handle.serial == serial)

-- some texture has the serial, and is there as long as what holds it
abbrev pub HasTextureUntil : List Thing → Option ℕ → ℕ → Type 0
HasTextureUntil things holder serial = 1 ≤ count_where (is_texture_until holder serial) things

-- the textures that a content holds are there as long as its thing, which dies in a frame or lives
abbrev pub Holds : List Thing → Option ℕ → Content → Type 0
Holds things death (frame_buffer_content color depth) = HasTextureUntil things death color × IfSome depth (HasTextureUntil things death)
Holds things death _ = ⊤

-- what the calls keep of their state
pub record IsLawful (r : Resources) : Type 0 where
  -- serials ascend in the order of births, so the last thing of a name is the one with the greatest serial
  pub rises : Rises 0 r.things
  pub below : AllByRecursion (λ t. t.handle.serial < r.next_serial) r.things
  pub serials : r.next_serial ≤ greatest_serial + 1
  pub few : AllByRecursion (λ t. t.references ≤ greatest_references) r.things
  pub fits : AllByRecursion (λ t. t.handle.index < greatest t.handle.kind) r.things
  pub books : length r.books ≡ length all_kinds
  pub below_free : (k : Kind) (index : ℕ) → greatest k ≤ index → count_of index (book_of r k).free ≡ 0
  -- each index of a kind either stands once on its stack, or has one thing
  pub once : (k : Kind) (index : ℕ) → index < greatest k → count_of index (book_of r k).free + count_where (is_at k index) r.things ≡ 1
  -- the waiting indices are those of the dead things, with their deaths
  pub waits : (k : Kind) (index : ℕ) (p : ℕ → Bool) → count_where (waits_at index p) (book_of r k).waiting ≡ count_where (dies_at k index p) r.things
  pub past : AllByRecursion (λ t. IfSome t.death (λ d. d ≤ r.frame)) r.things
  -- the textures of a frame buffer are there as long as it is: those of a live one live
  pub attached : AllByRecursion (λ t. Holds r.things t.death t.content) r.things

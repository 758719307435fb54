-- A view that is entered.
use Rattle.std.specs.Prelude.{◌≡◌, ◌⊎◌, ℕ, ◌+◌, List, [], ◌++◌, fold, map, take, Option, Some}
use Rattle.std.specs.List.{slice_get}
use Rattle.gfx_model.specs.Words.{ProgramKind}
use Rattle.gfx_model.specs.Views.{View}
use Rattle.gfx_model.specs.World.{Blit, Item, blit_item, clear_surface}
use Rattle.store_model.specs.Buffers.{Buffers}
use Rattle.store_model.specs.Textures.{Textures}
pub use Rattle.store_laws.specs.ByIndex.{blit_in}
use Rattle.store_laws.specs.ByIndex.{Stores, with_buffers, on_target, do_by_index}
use Rattle.store_laws.specs.Listed.{values_after}
use Rattle.view_drawing.specs.Memory.{CanDraw, CopiesWithin}

-- the stores after a view is entered that has these blits, and these draws and touches: its clear, its blits, and then the others
abbrev pub entered : View → List Blit → List Item → Stores → Stores
entered view blits items h = fold (do_by_index view) (on_target h view.target (clear_surface view)) (map blit_item blits ++ items)

-- ---- where memory was wanting

-- at a blit within one texture: the blits before it are done, and no other
pub record StopsAtBlit (blits : List Blit) (old new : Textures) : Type 0 where
  pub before : ℕ
  pub blit : Blit
  pub there : slice_get blits before ≡ Some blit
  pub within : CopiesWithin new blit
  pub done : new ≡ fold blit_in old (take before blits)

-- at a draw whose program is there: its values and those of the items before it are given, and no other
pub record StopsAtDraw (programs : List (Option ProgramKind)) (items : List Item) (old new : Buffers) : Type 0 where
  pub before : ℕ
  pub item : Item
  pub there : slice_get items before ≡ Some item
  pub draws : CanDraw programs item
  pub given : new ≡ fold values_after old (take (before + 1) items)

-- the same of stores, of which nothing else has changed
abbrev pub HaveGiven : List Item → Stores → Stores → Type 0
HaveGiven items old new = (b : Buffers) × (StopsAtDraw old.programs items old.buffers b × (new ≡ with_buffers old b))

-- the stores after the clear, these blits, and the values of these items, none of which is drawn
abbrev pub begun : View → List Blit → List Item → Stores → Stores
begun view blits items h =
    let c = fold (do_by_index view) (on_target h view.target (clear_surface view)) (map blit_item blits) in
    with_buffers c (fold values_after c.buffers items)

-- at a blit within one texture: the clear is done, and the blits before it
pub record IsStoppedAtBlit (view : View) (blits : List Blit) (old new : Stores) : Type 0 where
  pub before : ℕ
  pub blit : Blit
  pub there : slice_get blits before ≡ Some blit
  pub within : CopiesWithin new.textures blit
  pub done : new ≡ begun view (take before blits) [] old

-- at a draw whose program is there: the clear and all blits are done, the values of the items up to the draw are given, and nothing is drawn
pub record IsStoppedAtDraw (view : View) (blits : List Blit) (items : List Item) (old new : Stores) : Type 0 where
  pub before : ℕ
  pub item : Item
  pub there : slice_get items before ≡ Some item
  pub draws : CanDraw old.programs item
  pub done : new ≡ begun view blits (take (before + 1) items) old

-- entering stopped at what takes memory
abbrev pub IsBegun : View → List Blit → List Item → Stores → Stores → Type 0
IsBegun view blits items old new = IsStoppedAtBlit view blits old new ⊎ IsStoppedAtDraw view blits items old new

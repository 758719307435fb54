-- Views of one target that are drawn at one go.
use Rattle.std.specs.Prelude.{◌≡◌, ◌⊎◌, ℕ, false, ◌&&◌, List, [], ◌∷◌, fold, Option}
use Rattle.std.specs.List.{AllByRecursion}
use Rattle.gfx_model.specs.Number.{is_bit_set}
use Rattle.gfx_model.specs.Words.{ProgramKind, Handle}
use Rattle.gfx_model.specs.Raster.{Rect, contains, view_rect}
use Rattle.gfx_model.specs.Views.{View, Clear}
use Rattle.gfx_model.specs.World.{Item, Surface, is_blit, clear_surface}
use Rattle.store_model.specs.Buffers.{Buffers}
use Rattle.store_model.specs.Textures.{Textures}
use Rattle.store_laws.specs.ByIndex.{Stores, with_buffers, on_target, textures_out, do_by_index}
use Rattle.store_laws.specs.Listed.{Drawing, drawn_in, values_after, IsApartTarget}

-- a view with its draws and touches
pub record Turn : Type 0 where
  pub view : View
  pub items : List Item

-- the stores after the clear of a view
abbrev pub clear_turn : Stores → Turn → Stores
clear_turn h t = on_target h t.view.target (clear_surface t.view)

-- the stores after a view without blits is entered
abbrev pub after_turn : Stores → Turn → Stores
after_turn h t = fold (do_by_index t.view) (clear_turn h t) t.items

-- the buffers and the surface after the draws and touches of views, one view after the other
abbrev pub all_drawn : Textures → List (Option ProgramKind) → Drawing → List Turn → Drawing
all_drawn out programs x ts = fold (λ y t. fold (drawn_in out programs t.view) y t.items) x ts

-- the buffers after the values of the draws and touches of views
abbrev pub all_values : Buffers → List Turn → Buffers
all_values b ts = fold (λ c t. fold values_after c t.items) b ts

-- the stores after the draws and touches of views of a target, whose surface is taken out once and drawn on in one list
abbrev pub all_listed : Option Handle → Stores → List Turn → Stores
all_listed target h ts =
    with_buffers (on_target h target (λ s. (all_drawn (textures_out target h.textures) h.programs (record { buffers = h.buffers; surface = s }) ts).surface)) (all_values h.buffers ts)

-- a surface after the clears of views
abbrev pub all_cleared : Surface → List Turn → Surface
all_cleared s ts = fold (λ x t. clear_surface t.view x) s ts

-- the stores after the clears of some views of a target and the draws and touches of others, whose surface is taken out once, cleared, and
-- drawn on in one list
abbrev pub all_passed : Option Handle → Stores → (cleared drawn : List Turn) → Stores
all_passed target h cleared drawn =
    with_buffers (on_target h target (λ s. (all_drawn (textures_out target h.textures) h.programs (record { buffers = h.buffers; surface = all_cleared s cleared }) drawn).surface))
    (all_values h.buffers drawn)

-- a clear takes neither colours nor depths nor stencils
pub record ClearsNothing (c : Clear) : Type 0 where
  pub color : is_bit_set c.flags 0 ≡ false
  pub depth : is_bit_set c.flags 1 ≡ false
  pub stencil : is_bit_set c.flags 2 ≡ false

-- no pixel of any surface is of both views with these rectangles
abbrev pub AreApart : Rect → Rect → Type 0
AreApart a b = (width height x y : ℕ) → (contains (view_rect a width height) x y && contains (view_rect b width height) x y) ≡ false

-- the clear of the later of two views may be made before the draws of the earlier one: no pixel is of both, or it clears nothing
abbrev pub ClearsBefore : View → View → Type 0
ClearsBefore earlier later = AreApart earlier.rect later.rect ⊎ ClearsNothing later.clear

-- all clears may be made before all draws
abbrev pub AllClearBefore : List Turn → Type 0
AllClearBefore [] = Unit {0}
AllClearBefore (t ∷ ts) = AllByRecursion (λ u. ClearsBefore t.view u.view) ts × AllClearBefore ts

-- views of one target whose clears may be made first, and whose items are draws and touches
pub record IsPass (target : Option Handle) (ts : List Turn) : Type 0 where
  pub same : AllByRecursion (λ t. t.view.target ≡ target) ts
  pub before : AllClearBefore ts
  pub plain : AllByRecursion (λ t. AllByRecursion (λ i. is_blit i ≡ false) t.items) ts

-- views of a pass, entered one after the other, are all cleared first, and then drawn in one list
abbrev pub PassLaw : Type 0
PassLaw = (target : Option Handle) (h : Stores) (ts : List Turn) → IsPass target ts → IsApartTarget h target → fold after_turn h ts ≡ all_listed target (fold clear_turn h ts) ts

-- the same with the surface taken out once, for the clears and the list
abbrev pub OnePassLaw : Type 0
OnePassLaw = (target : Option Handle) (h : Stores) (ts : List Turn) → IsPass target ts → IsApartTarget h target → fold after_turn h ts ≡ all_passed target h ts ts

-- the clears of views of a target are made on its surface, which is taken out once
abbrev pub ClearsLaw : Type 0
ClearsLaw = (target : Option Handle) (h : Stores) (ts : List Turn) → AllByRecursion (λ t. t.view.target ≡ target) ts → IsApartTarget h target
    → fold clear_turn h ts ≡ on_target h target (λ s. all_cleared s ts)

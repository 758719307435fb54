-- Lists of prepared draws that grow.
use Rattle.std.specs.Prelude.{◌≡◌, ℕ, List, Option, Some, None, fold, map, filter_map}
use Rattle.gfx_model.specs.Words.{ProgramKind, primitive_of}
use Rattle.gfx_model.specs.Vertex.{triangles_of}
use Rattle.gfx_model.specs.Raster.{contains, view_rect}
use Rattle.gfx_model.specs.Views.{View}
use Rattle.gfx_model.specs.World.{Surface, Item, draw_item, Draw, Paint, is_in_cut, placed_facing, draw_vertices}
use Rattle.store_model.specs.Buffers.{Buffers}
use Rattle.store_model.specs.Textures.{Textures}
use Rattle.store_laws.specs.Listed.{drawn_in}
use Rattle.pass_laws.specs.Passed.{Turn, all_drawn}
use Rattle.store_model.specs.Slots.{at}
use Rattle.store_laws.specs.ByIndex.{vertices_at, indices_at, paint_at}
use Rattle.fix_math.specs.Seen.{rect_seen}
use Rattle.tri_cover.specs.declared.triangles.Setup.{Setup}
use Rattle.int_raster.specs.declared.lists.Prepared.{Prepared}
use Rattle.int_raster.specs.Drawing.{PreparedDraw, drawn_prepared}
use Rattle.int_raster.specs.Seen.{paint_seen, facing_seen}

-- on each surface of these sides, the new list does what the old one does and then the change
abbrev pub AddsTo : (width height : ℕ) → (Surface → Surface) → List PreparedDraw → List PreparedDraw → Type 0
AddsTo width height change old new = (s : Surface) → s.color.width ≡ width → s.color.height ≡ height → change (fold drawn_prepared s old) ≡ fold drawn_prepared s new

-- an item takes the buffers and the list as they were to the new ones, on each surface of these sides
abbrev pub DoesTo : (width height : ℕ) → Textures → List (Option ProgramKind) → View → Item → Buffers → List PreparedDraw → Buffers → List PreparedDraw → Type 0
DoesTo width height out programs view item old drawn new more = (s : Surface) → s.color.width ≡ width → s.color.height ≡ height
    → drawn_in out programs view (record { buffers = old; surface = fold drawn_prepared s drawn }) item ≡ record { buffers = new; surface = fold drawn_prepared s more }

-- the same of items in order
abbrev pub DoAllTo : (width height : ℕ) → Textures → List (Option ProgramKind) → View → List Item → Buffers → List PreparedDraw → Buffers → List PreparedDraw → Type 0
DoAllTo width height out programs view items old drawn new more = (s : Surface) → s.color.width ≡ width → s.color.height ≡ height
    → fold (drawn_in out programs view) (record { buffers = old; surface = fold drawn_prepared s drawn }) items ≡ record { buffers = new; surface = fold drawn_prepared s more }

-- the same of the draws and touches of views in order
abbrev pub DoTurnsTo : (width height : ℕ) → Textures → List (Option ProgramKind) → List Turn → Buffers → List PreparedDraw → Buffers → List PreparedDraw → Type 0
DoTurnsTo width height out programs turns old drawn new more = (s : Surface) → s.color.width ≡ width → s.color.height ≡ height
    → all_drawn out programs (record { buffers = old; surface = fold drawn_prepared s drawn }) turns ≡ record { buffers = new; surface = fold drawn_prepared s more }

-- a draw with a paint is prepared so, with these triangles, for a target of these sides
pub record IsPreparedDraw (width height : ℕ) (view : View) (d : Draw) (b : Buffers) (paint : Paint) (p : Prepared) (triangles : List Setup) : Type 0 where
  pub paint_is : paint_seen p.paint ≡ paint
  pub state_is : p.state ≡ d.state
  pub cut_is : (x y : ℕ) → contains (rect_seen p.cut) x y ≡ is_in_cut view (view_rect view.rect width height) d x y
  pub facings_are : map (facing_seen p) triangles
      ≡ filter_map (placed_facing view (view_rect view.rect width height) d) (triangles_of (primitive_of d.state) (draw_vertices (vertices_at b d.vertices) (indices_at b d.indices)))

-- the same of a draw with a paint, if there is one
abbrev pub IsPreparedBy : (width height : ℕ) → View → Draw → Buffers → Option Paint → Option Prepared → List Setup → Type 0
IsPreparedBy width height view d b None None triangles = Unit {0}
IsPreparedBy width height view d b (Some paint) (Some p) triangles = IsPreparedDraw width height view d b paint p triangles
IsPreparedBy width height view d b _ _ triangles = ⊥

-- the same of a draw with what its program paints with, if that is there
abbrev pub IsPreparedFor : (width height : ℕ) → View → Draw → Buffers → Textures → List (Option ProgramKind) → Option Prepared → List Setup → Type 0
IsPreparedFor width height view d b textures programs o triangles = IsPreparedBy width height view d b (paint_at b textures d (at programs d.program.index)) o triangles

-- the same of an item, if there is one; touches and blits are not prepared
abbrev pub IsPreparedItem : (width height : ℕ) → View → Option Item → Buffers → Textures → List (Option ProgramKind) → Option Prepared → List Setup → Type 0
IsPreparedItem width height view (Some (draw_item d)) b textures programs o triangles = IsPreparedFor width height view d b textures programs o triangles
IsPreparedItem width height view _ b textures programs o triangles = o ≡ None

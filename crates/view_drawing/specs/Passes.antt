-- Views that are entered one after the other.
use Rattle.std.specs.Prelude.{◌≡◌, ◌⊎◌, ℕ, false, List, [], flat_map, fold, map, take, drop, Some}
use Rattle.std.specs.List.{AllByRecursion, slice_get}
use Rattle.gfx_model.specs.Views.{View}
use Rattle.gfx_model.specs.World.{Blit, Item, is_blit}
use Rattle.store_laws.specs.ByIndex.{Stores}
use Rattle.pass_laws.specs.Passed.{Turn, clear_turn}
use Rattle.view_table.specs.Seen.{view_seen}
use Rattle.view_drawing.specs.Entered.{entered, HaveGiven, IsBegun}
use Rattle.view_drawing.specs.Entries.{blits_of, items_of}
use Rattle.view_drawing.specs.declared.view_parts.ViewPart.{ViewPart}

-- a view with its blits, and with its draws and touches
pub record Part : Type 0 where
  pub view : View
  pub blits : List Blit
  pub items : List Item

-- what a view's part is of its frame
abbrev pub part_seen : ViewPart → Part
part_seen p = record { view = view_seen p.view.now; blits = blits_of p.frame.now p.blits.now; items = items_of p.frame.now p.items.now }

-- the stores after a view is entered
abbrev pub after_part : Stores → Part → Stores
after_part h p = entered p.view p.blits p.items h

-- the part without its blits
abbrev pub turn_of : Part → Turn
turn_of p = record { view = p.view; items = p.items }

-- the same of a view's part
abbrev pub turn_seen : ViewPart → Turn
turn_seen p = turn_of (part_seen p)

-- a part has no blit
abbrev pub HasNoBlits : Part → Type 0
HasNoBlits p = p.blits ≡ []

-- no blit is among the draws and touches of a part
abbrev pub IsPlain : Part → Type 0
IsPlain p = AllByRecursion (λ i. is_blit i ≡ false) p.items

-- the draws and touches of views, one view after the other
abbrev pub all_items : List Turn → List Item
all_items ts = flat_map (λ t. t.items) ts

-- ---- where memory was wanting

-- at the first of these views: it is begun, and no other
pub record IsStoppedInView (parts : List Part) (old new : Stores) : Type 0 where
  pub part : Part
  pub there : slice_get parts 0 ≡ Some part
  pub begun : IsBegun part.view part.blits part.items old new

-- at the first of these views with others behind it, which have no blits: all are cleared, the values of their items up to a draw are given,
-- and nothing is drawn
pub record IsStoppedInPass (parts : List Part) (old new : Stores) : Type 0 where
  pub count : ℕ
  pub none : AllByRecursion HasNoBlits (take count parts)
  pub given : HaveGiven (all_items (map turn_of (take count parts))) (fold clear_turn old (map turn_of (take count parts))) new

abbrev pub IsStoppedAt : List Part → Stores → Stores → Type 0
IsStoppedAt parts old new = IsStoppedInView parts old new ⊎ IsStoppedInPass parts old new

-- the views before this many are entered, and entering stopped at what takes memory in the next
pub record AreBegun (parts : List Part) (old new : Stores) : Type 0 where
  pub before : ℕ
  pub stopped : IsStoppedAt (drop before parts) (fold after_part old (take before parts)) new

-- Marks of items, and the sharing that they tell.
use Rattle.std.specs.Prelude.{◌≡◌, ℕ, ◌<◌, Bool, true, false, not, ◌||◌, ◌&&◌, ◌==◌, if◌then◌else◌, List, map, filter, filter_map, option_map, ⊤}
use Rattle.std.specs.List.{list_any}
use Rattle.gfx_model.specs.Words.{program_kind, is_kind}
use Rattle.gfx_model.specs.Views.{Views, view_at}
use Rattle.gfx_model.specs.World.{Item, draw_item, touch_item, blit_item, is_blit, view_of_item, key_of_item}
use Rattle.scene_model.specs.Fold.{Accepted, FramePlan}
use Rattle.scene_model.specs.Journal.{Entry, Tagged, tagged_from, item_of, is_marked, is_sequential}
use Rattle.shared_keys.specs.Members.{In}
use Rattle.shared_keys.specs.Pairs.{Sharing}
use Rattle.shared_keys.specs.declared.marks.Mark.{Mark}
use Rattle.shared_keys.specs.declared.marks.SharedView.{SharedView}

-- ---- marks

-- both are blits, or neither is
abbrev pub same_kind : Bool → Bool → Bool
same_kind true b = b
same_kind false b = not b

-- two items of one view of which the marks clash
abbrev pub is_one_key : Mark → Mark → Bool
is_one_key x y = (x.view == y.view) && same_kind x.is_blit y.is_blit && (x.key == y.key)

-- of some marks one of the first encoder is of the view and clashes with one of the second
abbrev pub marks_share : List Mark → Sharing
marks_share marks v a b = list_any (λ x. (x.encoder == a) && (x.view == v) && list_any (λ y. (y.encoder == b) && is_one_key x y) marks) marks

-- the mark is of one of so many views and of one of so many encoders
abbrev pub IsMarkOf : (views encoders : ℕ) → Mark → Type 0
IsMarkOf views encoders m = (m.view < views) × (m.encoder < encoders)

-- a view with its pair
abbrev pub shared_seen : SharedView → ℕ × (ℕ × ℕ)
shared_seen r = (r.view, (r.first, r.second))

-- ---- marks of a frame's items

-- an item that can clash: a blit, a draw, or a touch that carries a uniform value
abbrev pub can_clash : Item → Bool
can_clash i = is_blit i || is_marked i

-- the key by which an item clashes: none that tells blits apart, and none in a view whose mode is Sequential
abbrev pub clash_key : Views → Item → ℕ
clash_key vs i = if is_blit i then 0 else (if is_sequential (view_at vs (view_of_item i)).mode then 0 else key_of_item vs 0 i)

-- the mark of an item
abbrev pub mark_of : Views → Tagged → Mark
mark_of vs t = record { view = view_of_item t.item; is_blit = is_blit t.item; key = clash_key vs t.item; encoder = t.encoder }

-- the items of a frame in the order of a journal, each with its encoder
abbrev pub tagged_by : List Accepted → List Entry → List Tagged
tagged_by encoders entries = filter_map (λ n. option_map (λ i. record { encoder = n.encoder; item = i }) (item_of encoders n)) entries

-- the marks of the items that can clash, in the order of a journal
abbrev pub marks_by : FramePlan → List Entry → List Mark
marks_by p entries = map (mark_of p.views) (filter (λ t. can_clash t.item) (tagged_by p.encoders entries))

-- the marks are just those of the frame's items that can clash
pub record AreMarksOf (p : FramePlan) (marks : List Mark) : Type 0 where
  pub has : (t : Tagged) → In t (tagged_from 0 p.encoders) → can_clash t.item ≡ true → In (mark_of p.views t) marks
  pub of : (m : Mark) → In m marks → (t : Tagged) × In t (tagged_from 0 p.encoders) × (can_clash t.item ≡ true) × (m ≡ mark_of p.views t)

-- ---- items of a scene

-- what a draw draws with is a program
abbrev pub HasProgram : Item → Type 0
HasProgram (draw_item d) = is_kind d.program.kind program_kind ≡ true
HasProgram (touch_item t) = ⊤
HasProgram (blit_item b) = ⊤

-- the item is of one of so many views, and what a draw draws with is a program
abbrev pub IsThere : (views : ℕ) → Item → Type 0
IsThere views i = (view_of_item i < views) × HasProgram i

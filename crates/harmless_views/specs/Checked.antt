-- Items of a view that clash, and runs of what they cover.
use Rattle.std.specs.Prelude.{◌≡◌, ◌⊎◌, ℕ, ◌<◌, Bool, false, true, ◌&&◌, not, ◌==◌, List, [], ◌∷◌, Option, Some, None}
use Rattle.std.specs.List.{list_any, AllByRecursion}
use Rattle.gfx_model.specs.Frames.{Entry, Recorded, item_of_entry}
use Rattle.gfx_model.specs.Views.{View, Views, view_count}
use Rattle.gfx_model.specs.World.{Draw, Item, draw_item, view_of_item}
use Rattle.scene_model.specs.Journal.{is_nonempty}
use Rattle.store_model.specs.Slots.{at}
use Rattle.store_laws.specs.ByIndex.{Stores}
use Rattle.shared_keys.specs.declared.marks.Mark.{Mark}
use Rattle.shared_keys.specs.Marks.{is_one_key, can_clash, mark_of, IsThere}
use Rattle.covered_rows.specs.declared.runs.Run.{Run}
use Rattle.harmless_views.specs.Covers.{covers_in, HasCovers, IsRunOf}

-- two marks are of two encoders, of one view, and clash
abbrev pub are_clashing : Mark → Mark → Bool
are_clashing m n = not (m.encoder == n.encoder) && is_one_key m n

-- a mark clashes with one of some
abbrev pub is_clashing : List Mark → Mark → Bool
is_clashing marks m = list_any (are_clashing m) marks

-- what a view is looked at with: the stores, the frame's views, the view and its number, and the marks of the frame's items
pub record Looked : Type 0 where
  pub stores : Stores
  pub views : Views
  pub view : View
  pub number : ℕ
  pub marks : List Mark

-- the mark of an encoder's item
abbrev pub own_mark : Looked → (encoder : ℕ) → Item → Mark
own_mark k e i = mark_of k.views (record { encoder = e; item = i })

-- an encoder's item is of the view and clashes with one of another encoder
pub record Clashes (k : Looked) (encoder : ℕ) (i : Item) : Type 0 where
  pub can : can_clash i ≡ true
  pub view : view_of_item i ≡ k.number
  pub clash : is_clashing k.marks (own_mark k encoder i) ≡ true

-- the mark that was found of an encoder's item: its own where it clashes, and else none
abbrev pub IsFound : Looked → (encoder : ℕ) → Item → Option Mark → Type 0
IsFound k e i None = Clashes k e i → ⊥
IsFound k e i (Some m) = (m ≡ own_mark k e i) × Clashes k e i

-- an item is a draw without values
abbrev pub is_plain : Item → Bool
is_plain (draw_item d) = not (is_nonempty d.values)
is_plain _ = false

-- ---- what is covered

-- an item is a draw without values, and what it covers is in runs of the mark's key and encoder
abbrev pub IsCovered : List Run → Stores → View → Mark → Item → Type 0
IsCovered runs h view m (draw_item d) = (d.values ≡ []) × HasCovers runs m.key m.encoder h view d
IsCovered runs h view m _ = ⊥

-- an encoder's item is covered so, where it clashes
abbrev pub IsChecked : Looked → List Run → (encoder : ℕ) → Item → Type 0
IsChecked k runs e i = Clashes k e i → IsCovered runs k.stores k.view (own_mark k e i) i

-- an entry's item, if there is one, is there
abbrev pub EntryThere : Looked → List Recorded → Entry → Type 0
EntryThere k rs n = (i : Item) → item_of_entry rs n ≡ Some i → IsThere (view_count k.views) i

-- it is checked, if it is there
abbrev pub EntryChecked : Looked → List Run → List Recorded → Entry → Type 0
EntryChecked k runs rs n = (i : Item) → item_of_entry rs n ≡ Some i → IsThere (view_count k.views) i → IsChecked k runs n.encoder i

-- the same of entries
abbrev pub AllThere : Looked → List Recorded → List Entry → Type 0
AllThere k rs entries = AllByRecursion (EntryThere k rs) entries

abbrev pub AllChecked : Looked → List Run → List Recorded → List Entry → Type 0
AllChecked k runs rs entries = AllByRecursion (EntryChecked k runs rs) entries

-- ---- where runs are from

-- an entry's item clashes
pub record ClashesAt (k : Looked) (rs : List Recorded) (n : Entry) (i : Item) : Type 0 where
  pub at : item_of_entry rs n ≡ Some i
  pub own : Clashes k n.encoder i

-- a run is of an entry's draw that clashes
abbrev pub IsEntryRun : Looked → List Recorded → Entry → Run → Type 0
IsEntryRun k rs n r = (d : Draw) × (ClashesAt k rs n (draw_item d) × IsRunOf (own_mark k n.encoder (draw_item d)).key n.encoder k.stores k.view d r)

-- a run is of one of entries
abbrev pub IsSomeRun : Looked → List Recorded → List Entry → Run → Type 0
IsSomeRun k rs [] r = ⊥
IsSomeRun k rs (n ∷ ns) r = IsEntryRun k rs n r ⊎ IsSomeRun k rs ns r

-- ---- what keeps items from passing

-- an entry's item that clashes is no draw without values, or its program is not there
abbrev pub Stops : Looked → List Recorded → Entry → Type 0
Stops k rs n = ((i : Item) × (ClashesAt k rs n i × (is_plain i ≡ false))) ⊎ ((d : Draw) × (ClashesAt k rs n (draw_item d) × (at k.stores.programs d.program.index ≡ None)))

-- the same of one of entries
abbrev pub SomeStops : Looked → List Recorded → List Entry → Type 0
SomeStops k rs [] = ⊥
SomeStops k rs (n ∷ ns) = Stops k rs n ⊎ SomeStops k rs ns

-- two draws of entries that clash cover a pixel in common: of one key and of two encoders
pub record Overlap (k : Looked) (rs : List Recorded) (entries : List Entry) : Type 0 where
  pub first : Entry
  pub second : Entry
  pub a : Draw
  pub b : Draw
  pub left : ClashesAt k rs first (draw_item a)
  pub right : ClashesAt k rs second (draw_item b)
  pub key : (own_mark k first.encoder (draw_item a)).key ≡ (own_mark k second.encoder (draw_item b)).key
  pub apart : first.encoder ≡ second.encoder → ⊥
  pub x : ℕ
  pub y : ℕ
  pub wide : x < k.stores.back.color.width
  pub high : y < k.stores.back.color.height
  pub covers_left : covers_in k.stores k.view a x y ≡ true
  pub covers_right : covers_in k.stores k.view b x y ≡ true

-- why a view is not harmless: it draws into a frame buffer, an item stops it, or two draws overlap
abbrev pub Matters : Looked → List Recorded → List Entry → Type 0
Matters k rs entries = (k.view.target ≡ None → ⊥) ⊎ (SomeStops k rs entries ⊎ Overlap k rs entries)

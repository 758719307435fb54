-- Runs of what draws cover.
use Rattle.std.proofs.Common.{◌≡◌, ◌∙◌, ℕ, ◌+◌, ◌<◌, ◌≤◌, inl, inr, true, List, [], ◌∷◌, ◌++◌, map, take, length, get_or, Option, Some, None, refl, sym, ap, subst}
use Rattle.std.specs.List.{list_any}
use Rattle.std.proofs.lemmas.List.{take_more, take_all}
use Rattle.gfx_model.specs.Frames.{Recorded, item_of_entry}
use Rattle.gfx_model.specs.Raster.{Rect, covers}
use Rattle.gfx_words.specs.declared.journal.JournalEntry.{JournalEntry}
use Rattle.gfx_words.specs.Seen.{entry_seen}
use Rattle.gfx_model.specs.Views.{View}
use Rattle.gfx_model.specs.Words.{ProgramKind, solid, vertex_color, textured, textured_color}
use Rattle.gfx_model.specs.World.{Draw, Facing, Item, draw_item, touch_item, blit_item, is_in_cut, Paint}
use Rattle.store_model.specs.Slots.{at}
use Rattle.store_model.specs.Buffers.{Buffers}
use Rattle.store_model.specs.Textures.{Textures}
use Rattle.store_laws.specs.ByIndex.{Stores, paint_at}
use Rattle.fix_math.specs.Seen.{rect_seen}
use Rattle.tri_cover.specs.declared.triangles.Setup.{Setup}
use Rattle.int_raster.specs.declared.lists.Prepared.{Prepared}
use Rattle.int_raster.specs.Seen.{facing_seen}
use Rattle.view_drawing.specs.Prepared.{IsPreparedDraw, IsPreparedBy, IsPreparedItem}
use Rattle.shared_keys.specs.Members.{In}
use Rattle.shared_keys.proofs.Members.{any-of, of-any, member-left, member-right, member-of-both}
use Rattle.shared_keys.proofs.Clashes.{member-of-map, member-map}
use Rattle.shared_keys.proofs.Order.{parts, both}
use Rattle.covered_rows.specs.declared.runs.Run.{Run}
use Rattle.covered_rows.specs.Covering.{HasRun, HasAll, Keeps, IsOf, AddsOnly}
use Rattle.harmless_views.specs.Covers.{back_rect, facings_in, HasCovers, IsRunOf}
use Rattle.harmless_views.specs.Runs.{HasTriangles, ItemCovered, IsTriangleRun, IsItemRun, LacksProgram}

-- ---- one triangle more

run-kept : (old new : List Run) (key e x y : ℕ) → Keeps old new → HasRun old key e x y → HasRun new key e x y
run-kept old new key e x y keeps h = (h.0, keeps h.0 h.1, h.2, h.3, h.4, h.5)

pub triangles-more : (old new : List Run) (key e : ℕ) (all : List Setup) (k : ℕ) (s : Setup) (cut : Rect) (width height : ℕ) → k < length all → get_or all k s ≡ s → Keeps old new
    → HasTriangles old key e (take k all) cut width height → HasAll new key e (Rattle.tri_cover.specs.Seen.triangle_seen s.a s.b s.c) cut width height → HasTriangles new key e (take (k + 1) all) cut width height
triangles-more old new key e all k s cut width height lt is keeps before one t i x y wide high within covered =
    elim (member-of-both t (take k all) (s ∷ []) (subst (λ (ts : List Setup). In t ts) (take_more all k s lt ∙ ap (λ z. take k all ++ z ∷ []) is) i)) [
      | inl a ↦ run-kept old new key e x y keeps (before t a x y wide high within covered)
      | inr b ↦ elim b [
        | inl same ↦ one x y wide high within (ap (λ (u : Setup). covers (Rattle.tri_cover.specs.Seen.triangle_seen u.a u.b u.c) x y) (sym same) ∙ covered)
        | inr none ↦ absurd none
      ]
    ]

pub triangles-all : (runs : List Run) (key e : ℕ) (all : List Setup) (k : ℕ) (cut : Rect) (width height : ℕ) → length all ≤ k → HasTriangles runs key e (take k all) cut width height → HasTriangles runs key e all cut width height
triangles-all runs key e all k cut width height le h = subst (λ (ts : List Setup). HasTriangles runs key e ts cut width height) (take_all k all le) h

pub keeps-then : (a b c : List Run) → Keeps a b → Keeps b c → Keeps a c
keeps-then a b c x y r i = y r (x r i)

-- ---- a prepared draw

drawn : (runs : List Run) (key e : ℕ) (h : Stores) (view : View) (d : Draw) (paint : Paint) (p : Prepared) (triangles : List Setup)
    → IsPreparedDraw h.back.color.width h.back.color.height view d h.buffers paint p triangles → HasTriangles runs key e triangles (rect_seen p.cut) h.back.color.width h.back.color.height → HasCovers runs key e h view d
drawn runs key e h view d paint p triangles is has x y wide high covered =
    let two = parts (is_in_cut view (back_rect h view) d x y) (list_any (λ f. covers f.triangle x y) (facings_in h view d)) covered in
    let own = of-any (λ (f : Facing). covers f.triangle x y) (map (facing_seen p) triangles) (ap (λ fs. list_any (λ f. covers f.triangle x y) fs) is.facings_are ∙ two.1) in
    let setup = member-of-map (facing_seen p) triangles own.0 own.1 in
    has setup.0 setup.1 x y wide high (is.cut_is x y ∙ two.0) (ap (λ (f : Facing). covers f.triangle x y) (sym setup.2) ∙ own.2)

-- what is prepared of an entry, by other names
pub prepared-as : (h : Stores) (view : View) (rs : List Recorded) (own entry : JournalEntry) (o q : Option Prepared) (all triangles : List Setup) → own ≡ entry → o ≡ q → triangles ≡ all
    → IsPreparedItem h.back.color.width h.back.color.height view (item_of_entry rs (entry_seen own)) h.buffers h.textures h.programs o all → IsPreparedItem h.back.color.width h.back.color.height view (item_of_entry rs (entry_seen entry)) h.buffers h.textures h.programs q triangles
prepared-as h view rs own entry o q all triangles entries prepared same is =
    subst (λ (n : JournalEntry). IsPreparedItem h.back.color.width h.back.color.height view (item_of_entry rs (entry_seen n)) h.buffers h.textures h.programs q triangles) entries
    (subst (λ (x : Option Prepared). IsPreparedItem h.back.color.width h.back.color.height view (item_of_entry rs (entry_seen own)) h.buffers h.textures h.programs x triangles) prepared
    (subst (λ (us : List Setup). IsPreparedItem h.back.color.width h.back.color.height view (item_of_entry rs (entry_seen own)) h.buffers h.textures h.programs o us) (sym same) is))

-- an item that is prepared
pub item-drawn : (runs : List Run) (key e : ℕ) (h : Stores) (view : View) (o : Option Item) (p : Prepared) (triangles : List Setup)
    → IsPreparedItem h.back.color.width h.back.color.height view o h.buffers h.textures h.programs (Some p) triangles → HasTriangles runs key e triangles (rect_seen p.cut) h.back.color.width h.back.color.height → ItemCovered runs key e h view o
item-drawn runs key e h view None p triangles is has = absurd (cc is)
item-drawn runs key e h view (Some (touch_item t)) p triangles is has = absurd (cc is)
item-drawn runs key e h view (Some (blit_item b)) p triangles is has = absurd (cc is)
item-drawn runs key e h view (Some (draw_item d)) p triangles is has = go (paint_at h.buffers h.textures d (at h.programs d.program.index)) is
  where
    go : (o : Option Paint) → IsPreparedBy h.back.color.width h.back.color.height view d h.buffers o (Some p) triangles → HasCovers runs key e h view d
    go None i = absurd i
    go (Some paint) i = drawn runs key e h view d paint p triangles i has

-- ---- no run is of anything else

front-end : {A : Type 0} (all : List A) (k : ℕ) (s : A) → k < length all → get_or all k s ≡ s → take k all ++ s ∷ [] ≡ take (k + 1) all
front-end all k s lt is = sym (take_more all k s lt ∙ ap (λ z. take k all ++ z ∷ []) is)

triangle-in : (key e : ℕ) (some all : List Setup) (cut : Rect) (width height : ℕ) (r : Run) → ((s : Setup) → In s some → In s all) → IsTriangleRun key e some cut width height r → IsTriangleRun key e all cut width height r
triangle-in key e some all cut width height r more own = (own.0, (more own.0 own.1.0, own.1.1))

pub triangles-add : (first old new : List Run) (key e : ℕ) (all : List Setup) (k : ℕ) (s : Setup) (cut : Rect) (width height : ℕ) → k < length all → get_or all k s ≡ s
    → AddsOnly (IsTriangleRun key e (take k all) cut width height) first old → AddsOnly (IsOf key e (Rattle.tri_cover.specs.Seen.triangle_seen s.a s.b s.c) cut width height) old new
    → AddsOnly (IsTriangleRun key e (take (k + 1) all) cut width height) first new
triangles-add first old new key e all k s cut width height lt is before one r i =
    let front : take k all ++ s ∷ [] ≡ take (k + 1) all = front-end all k s lt is in
    let into : (t : Setup) → In t (take k all ++ s ∷ []) → In t (take (k + 1) all) = λ t j. subst (λ (ts : List Setup). In t ts) front j in
    elim (one r i) [
      | inl was ↦ elim (before r was) [
        | inl there ↦ inl there
        | inr own ↦ inr (triangle-in key e (take k all) (take (k + 1) all) cut width height r (λ t j. into t (member-left t (take k all) (s ∷ []) j)) own)
      ]
      | inr own ↦ inr (s, (into s (member-right s (take k all) (s ∷ []) (inl refl)), own))
    ]

pub triangles-added : (first runs : List Run) (key e : ℕ) (all : List Setup) (k : ℕ) (cut : Rect) (width height : ℕ) → length all ≤ k → AddsOnly (IsTriangleRun key e (take k all) cut width height) first runs → AddsOnly (IsTriangleRun key e all cut width height) first runs
triangles-added first runs key e all k cut width height le h = subst (λ (ts : List Setup). AddsOnly (IsTriangleRun key e ts cut width height) first runs) (take_all k all le) h

-- a run of a prepared draw
drawn-run : (key e : ℕ) (h : Stores) (view : View) (d : Draw) (paint : Paint) (p : Prepared) (triangles : List Setup) (r : Run)
    → IsPreparedDraw h.back.color.width h.back.color.height view d h.buffers paint p triangles → IsTriangleRun key e triangles (rect_seen p.cut) h.back.color.width h.back.color.height r → IsRunOf key e h view d r
drawn-run key e h view d paint p triangles r is own =
    let s = own.0 in
    let of = own.1.1 in
    record {
      key_is = of.key_is;
      encoder_is = of.encoder_is;
      low = of.low;
      some = of.some;
      covered = λ x col.
          let c = of.covered x col in
          let inside : is_in_cut view (back_rect h view) d x r.row ≡ true = sym (is.cut_is x r.row) ∙ c.1 in
          let one : list_any (λ (f : Facing). covers f.triangle x r.row) (map (facing_seen p) triangles) ≡ true = any-of (λ (f : Facing). covers f.triangle x r.row) (map (facing_seen p) triangles) (facing_seen p s) (member-map (facing_seen p) triangles s own.1.0) c.2 in
          let some : list_any (λ (f : Facing). covers f.triangle x r.row) (facings_in h view d) ≡ true = ap (λ fs. list_any (λ (f : Facing). covers f.triangle x r.row) fs) (sym is.facings_are) ∙ one in
          (c.0, both (is_in_cut view (back_rect h view) d x r.row) (list_any (λ f. covers f.triangle x r.row) (facings_in h view d)) inside some);
    }

pub item-run : (key e : ℕ) (h : Stores) (view : View) (o : Option Item) (p : Prepared) (triangles : List Setup) (r : Run)
    → IsPreparedItem h.back.color.width h.back.color.height view o h.buffers h.textures h.programs (Some p) triangles → IsTriangleRun key e triangles (rect_seen p.cut) h.back.color.width h.back.color.height r → IsItemRun key e h view o r
item-run key e h view None p triangles r is own = absurd (cc is)
item-run key e h view (Some (touch_item t)) p triangles r is own = absurd (cc is)
item-run key e h view (Some (blit_item b)) p triangles r is own = absurd (cc is)
item-run key e h view (Some (draw_item d)) p triangles r is own = go (paint_at h.buffers h.textures d (at h.programs d.program.index)) is
  where
    go : (o : Option Paint) → IsPreparedBy h.back.color.width h.back.color.height view d h.buffers o (Some p) triangles → IsRunOf key e h view d r
    go None i = absurd i
    go (Some paint) i = drawn-run key e h view d paint p triangles r i own

pub items-add : (key e : ℕ) (h : Stores) (view : View) (o : Option Item) (p : Prepared) (triangles : List Setup) (old new : List Run)
    → IsPreparedItem h.back.color.width h.back.color.height view o h.buffers h.textures h.programs (Some p) triangles → AddsOnly (IsTriangleRun key e triangles (rect_seen p.cut) h.back.color.width h.back.color.height) old new → AddsOnly (IsItemRun key e h view o) old new
items-add key e h view o p triangles old new is adds r i = elim (adds r i) [
  | inl was ↦ inl was
  | inr own ↦ inr (item-run key e h view o p triangles r is own)
]

-- a draw that is not prepared lacks its program
no-paint : (b : Buffers) (t : Textures) (d : Draw) (o : Option ProgramKind) (width height : ℕ) (view : View) (h : Buffers) (triangles : List Setup) → IsPreparedBy width height view d h (paint_at b t d o) None triangles → o ≡ None
no-paint b t d None width height view h triangles is = refl
no-paint b t d (Some solid) width height view h triangles is = absurd is
no-paint b t d (Some vertex_color) width height view h triangles is = absurd is
no-paint b t d (Some textured) width height view h triangles is = absurd is
no-paint b t d (Some textured_color) width height view h triangles is = absurd is

pub item-lacks : (h : Stores) (view : View) (o : Option Item) (triangles : List Setup) → IsPreparedItem h.back.color.width h.back.color.height view o h.buffers h.textures h.programs None triangles → LacksProgram h o
item-lacks h view None triangles is = tt
item-lacks h view (Some (touch_item t)) triangles is = tt
item-lacks h view (Some (blit_item b)) triangles is = tt
item-lacks h view (Some (draw_item d)) triangles is = no-paint h.buffers h.textures d (at h.programs d.program.index) h.back.color.width h.back.color.height view h.buffers triangles is

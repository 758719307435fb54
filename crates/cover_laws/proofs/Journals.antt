-- A scene is harmless by each journal, where it is by one.
use Rattle.std.proofs.Common.{◌≡◌, ℕ, ◌*◌, ◌<◌, ◌≤◌, Bool, true, false, not, ◌&&◌, ◌==◌, cond, List, [], ◌∷◌, ◌++◌, filter, fold, length, Option, refl, sym, ap, subst, ◌∙◌, arith}
use Rattle.std.specs.Prelude.{option_map}
use Rattle.std.specs.List.{list_any}
use Rattle.std.proofs.lemmas.List.{map-append, length-map, length-replicate}
use Rattle.scene_model.proofs.FaultLaws.{plan_count}
use Rattle.gfx_model.specs.Number.{is_among}
use Rattle.gfx_model.specs.Raster.{Rect, view_rect, covers, no_color}
use Rattle.gfx_model.specs.Views.{View, view_at}
use Rattle.gfx_model.specs.World.{World, Content, layout_content, vertex_content, index_content, texture_content, frame_buffer_content, program_content, uniform_content, change_thing, bytes_updated, texels_updated, Change, create_thing, update_bytes, update_texels, things_after, begin_frame, Draw, Item, draw_item, touch_item, blit_item, view_of_item, is_in_cut, facings_of, FrameContent, frame_step, entered_views, first_world}
use Rattle.scene_model.specs.Scene.{Scene}
use Rattle.scene_model.specs.Fold.{FramePlan, plans}
use Rattle.scene_model.specs.Journal.{Entry, Journal, IsLawful, frame_content}
use Rattle.cover_laws.specs.Covered.{back_rect, covers_pixel, AreApart, MayPass}
use Rattle.cover_laws.specs.Laws.{AreHarmless, AnyJournalLaw, no_items, BareLaw}
use Rattle.cover_laws.proofs.Worlds.{shape, shapes, same_facings, changed_shapes, IsSized, IsWithin, within_self}
use Rattle.cover_laws.proofs.Frames.{views_within, frame_sized, cover-law}

-- ---- what changes make of shapes

shapes-filter : (gone : List ℕ) (things : List (ℕ × Content)) → shapes (filter (λ t. not (is_among t.0 gone)) things) ≡ filter (λ t. not (is_among t.0 gone)) (shapes things)
shapes-filter gone [] = refl
shapes-filter gone (t ∷ things) = go (not (is_among t.0 gone)) (shapes-filter gone things)
  where
    rest : List (ℕ × Content)
    rest = filter (λ t. not (is_among t.0 gone)) things

    go : (b : Bool) → shapes rest ≡ filter (λ t. not (is_among t.0 gone)) (shapes things)
        → shapes (cond b (t ∷ rest) rest) ≡ cond b ((t.0, shape t.1) ∷ filter (λ t. not (is_among t.0 gone)) (shapes things)) (filter (λ t. not (is_among t.0 gone)) (shapes things))
    go true h = ap (λ zs. (t.0, shape t.1) ∷ zs) h
    go false h = h

-- shapes with one thing's changed
abbrev change_shape : (Content → Content) → ℕ → List (ℕ × Option Content) → List (ℕ × Option Content)
change_shape f serial [] = []
change_shape f serial (t ∷ rest) = cond (t.0 == serial) ((t.0, option_map f t.1) ∷ rest) (t ∷ change_shape f serial rest)

bytes-shape : (offset : ℕ) (new : List ℕ) (c : Content) → shape (bytes_updated offset new c) ≡ option_map (bytes_updated offset new) (shape c)
bytes-shape offset new (layout_content l) = refl
bytes-shape offset new (vertex_content l b) = refl
bytes-shape offset new (index_content b) = refl
bytes-shape offset new (texture_content f t) = refl
bytes-shape offset new (frame_buffer_content c d) = refl
bytes-shape offset new (program_content k) = refl
bytes-shape offset new (uniform_content n v) = refl

bytes-shapes : (offset : ℕ) (new : List ℕ) (serial : ℕ) (things : List (ℕ × Content)) → shapes (change_thing (bytes_updated offset new) serial things) ≡ change_shape (bytes_updated offset new) serial (shapes things)
bytes-shapes offset new serial [] = refl
bytes-shapes offset new serial (t ∷ rest) = go (t.0 == serial) (bytes-shapes offset new serial rest)
  where
    f : Content → Content
    f = bytes_updated offset new

    go : (b : Bool) → shapes (change_thing f serial rest) ≡ change_shape f serial (shapes rest)
        → shapes (cond b ((t.0, f t.1) ∷ rest) (t ∷ change_thing f serial rest)) ≡ cond b ((t.0, option_map f (shape t.1)) ∷ shapes rest) ((t.0, shape t.1) ∷ change_shape f serial (shapes rest))
    go true h = ap (λ s. (t.0, s) ∷ shapes rest) (bytes-shape offset new t.1)
    go false h = ap (λ zs. (t.0, shape t.1) ∷ zs) h

texels-shape : (r : Rect) (new : List ℕ) (c : Content) → shape (texels_updated r new c) ≡ shape c
texels-shape r new (layout_content l) = refl
texels-shape r new (vertex_content l b) = refl
texels-shape r new (index_content b) = refl
texels-shape r new (texture_content f t) = refl
texels-shape r new (frame_buffer_content c d) = refl
texels-shape r new (program_content k) = refl
texels-shape r new (uniform_content n v) = refl

abbrev shapes_changed : List (ℕ × Option Content) → Change → List (ℕ × Option Content)
shapes_changed ts (create_thing serial c) = ts ++ (serial, shape c) ∷ []
shapes_changed ts (update_bytes serial offset bytes) = change_shape (bytes_updated offset bytes) serial ts
shapes_changed ts (update_texels serial r bytes) = ts

changed-shapes : (things : List (ℕ × Content)) (d : Change) → shapes (things_after things d) ≡ shapes_changed (shapes things) d
changed-shapes things (create_thing serial c) = map-append (λ t. (t.0, shape t.1)) things ((serial, c) ∷ [])
changed-shapes things (update_bytes serial offset bytes) = bytes-shapes offset bytes serial things
changed-shapes things (update_texels serial r bytes) = changed_shapes (texels_updated r bytes) (texels-shape r bytes) serial things

all-changed : (things : List (ℕ × Content)) (changes : List Change) → shapes (fold things_after things changes) ≡ fold shapes_changed (shapes things) changes
all-changed things [] = refl
all-changed things (d ∷ changes) = all-changed (things_after things d) changes ∙ ap (λ ts. fold shapes_changed ts changes) (changed-shapes things d)

begun-shapes : (u w : World) (gone : List ℕ) (changes : List Change) → shapes u.things ≡ shapes w.things → shapes (begin_frame gone changes u).things ≡ shapes (begin_frame gone changes w).things
begun-shapes u w gone changes e = by u ∙ ap (λ ts. fold shapes_changed (filter (λ t. not (is_among t.0 gone)) ts) changes) e ∙ sym (by w)
  where
    by : (z : World) → shapes (begin_frame gone changes z).things ≡ fold shapes_changed (filter (λ t. not (is_among t.0 gone)) (shapes z.things)) changes
    by z = all-changed (filter (λ t. not (is_among t.0 gone)) z.things) changes ∙ ap (λ ts. fold shapes_changed ts changes) (shapes-filter gone z.things)

-- ---- worlds that draws take the same triangles from, on back buffers of the same sides

record AreAlike (u w : World) : Type 0 where
  things : shapes u.things ≡ shapes w.things
  width : u.back.color.width ≡ w.back.color.width
  height : u.back.color.height ≡ w.back.color.height

begun-alike : (u w : World) (gone : List ℕ) (changes : List Change) → AreAlike u w → AreAlike (begin_frame gone changes u) (begin_frame gone changes w)
begun-alike u w gone changes h = record { things = begun-shapes u w gone changes h.things; width = h.width; height = h.height }

-- a frame's items leave it as it began
step-alike : (w : World) (f : FrameContent) → IsSized w → AreAlike (frame_step w f) (begin_frame f.gone f.changes w)
step-alike w f sized =
    let begun : World = begin_frame f.gone f.changes w in
    let h : IsWithin begun (frame_step w f) = views_within begun f (entered_views f) begun (within_self begun sized) in
    record { things = h.things; width = h.width; height = h.height }

steps-alike : (u w : World) (p : FramePlan) (xs ys : List Entry) → IsSized u → IsSized w → AreAlike u w → AreAlike (frame_step u (frame_content p xs)) (frame_step w (frame_content p ys))
steps-alike u w p xs ys su sw h =
    let a = step-alike u (frame_content p xs) su in
    let b = step-alike w (frame_content p ys) sw in
    let c = begun-alike u w p.gone p.changes h in
    record { things = a.things ∙ c.things ∙ sym b.things; width = a.width ∙ c.width ∙ sym b.width; height = a.height ∙ c.height ∙ sym b.height }

-- ---- covers

covers-same : (u w : World) (view : View) (d : Draw) (x y : ℕ) → AreAlike u w → covers_pixel u view d x y ≡ covers_pixel w view d x y
covers-same u w view d x y h =
    ap (λ r. is_in_cut view r d x y && list_any (λ f. covers f.triangle x y) (facings_of u view r d)) rect
    ∙ ap (λ fs. is_in_cut view (back_rect w view) d x y && list_any (λ f. covers f.triangle x y) fs) (same_facings u w view (back_rect w view) d h.things)
  where
    rect : back_rect u view ≡ back_rect w view
    rect i = view_rect view.rect (h.width i) (h.height i)

apart-moves : (u w : World) (view : View) (a b : Draw) → AreAlike u w → AreApart w view a b → AreApart u view a b
apart-moves u w view a b h apart x y lx ly =
    (λ i. covers-same u w view a x y h i && covers-same u w view b x y h i)
    ∙ apart x y (subst (λ (n : ℕ). x < n) h.width lx) (subst (λ (n : ℕ). y < n) h.height ly)

pass-moves : (u w : World) (view : View) (i j : Item) → AreAlike u w → MayPass w view i j → MayPass u view i j
pass-moves u w view (draw_item a) (draw_item b) h (va, vb, target, apart) = (va, vb, target, apart-moves u w view a b h apart)
pass-moves u w view (draw_item a) (touch_item t) h pass = absurd pass
pass-moves u w view (draw_item a) (blit_item b) h pass = absurd pass
pass-moves u w view (touch_item t) j h pass = absurd pass
pass-moves u w view (blit_item b) j h pass = absurd pass

harmless-moves : (ps : List FramePlan) (j k : Journal) (u w : World) → IsSized u → IsSized w → AreAlike u w → length k ≤ length j → AreHarmless w ps j → AreHarmless u ps k
harmless-moves [] j k u w su sw h few harmless = tt
harmless-moves (p ∷ ps) j [] u w su sw h few harmless = tt
harmless-moves (p ∷ ps) [] (ys ∷ k) u w su sw h few harmless = absurd (omega (arith, few))
harmless-moves (p ∷ ps) (xs ∷ j) (ys ∷ k) u w su sw h few harmless = (
  λ m n a b at bt share. pass-moves (begin_frame p.gone p.changes u) (begin_frame p.gone p.changes w) (view_at p.views (view_of_item a)) a b (begun-alike u w p.gone p.changes h) (harmless.0 m n a b at bt share),
  harmless-moves ps j k (frame_step u (frame_content p ys)) (frame_step w (frame_content p xs)) (frame_sized u (frame_content p ys) su) (frame_sized w (frame_content p xs) sw) (steps-alike u w p ys xs su sw h) (omega (arith, few)) harmless.1,
)

first-sized : (s : Scene) → IsSized (first_world s.width s.height)
first-sized s = (let long = length-replicate (s.width * s.height) no_color in omega (arith, long))

pub any-journal-law : AnyJournalLaw
any-journal-law s j k few harmless =
    let w : World = first_world s.width s.height in
    harmless-moves (plans s) j k w w (first-sized s) (first-sized s) (record { things = refl; width = refl; height = refl }) few harmless

lawful-long : (s : Scene) (j : Journal) → length (plans s) ≡ length s.frames → IsLawful s j → length j ≤ length (no_items s)
lawful-long s j count h = (let n = length-map (plans s) nothing in let l = h.1 in let c = count in omega (arith, n, l, c))
  where
    nothing : FramePlan → List Entry
    nothing p = []

pub bare-law : BareLaw
bare-law s j k harmless hj hk = cover-law s j k (any-journal-law s (no_items s) j (lawful-long s j (plan_count s) hj) harmless) hj hk

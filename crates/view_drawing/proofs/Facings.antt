-- The triangles of a draw that count are those that are kept.
use Rattle.std.proofs.Common.{◌≡◌, ℕ, ◌<◌, Bool, true, false, List, [], ◌∷◌, ◌++◌, length, map, Option, Some, None, refl, ap, sym, ◌∙◌, arith}
use Rattle.std.specs.Prelude.{◌==◌, if◌then◌else◌, option_map, option_and_then, filter_map}
use Rattle.std.specs.List.{cons_option}
use Rattle.std.proofs.lemmas.List.{append-nil}
use Rattle.gfx_model.specs.Words.{cull_of, primitive_of}
use Rattle.gfx_model.specs.Vertex.{Vertex, Triangle, listed_triangles, strip_triangles, triangles_of}
use Rattle.gfx_model.specs.Raster.{Rect, ScreenVertex, is_kept}
use Rattle.gfx_model.specs.Views.{View}
use Rattle.gfx_model.specs.World.{Draw, kept_facing, all_three, placed_vertex, placed_facing}
use Rattle.tri_cover.specs.Shown.{shown_unless_culled}
use Rattle.int_raster.specs.Drawing.{facing_shown}
use Rattle.view_drawing.specs.Shapes.{kept, kept_of}

-- a triangle whose corners are changed
abbrev on_corners : {V W : Type 0} → (V → W) → Triangle V → Triangle W
on_corners g t = record { a = g t.a; b = g t.b; c = g t.c }

listed_map : {V W : Type 0} (g : V → W) (vs : List V) → listed_triangles (map g vs) ≡ map (on_corners g) (listed_triangles vs)
listed_map g [] = refl
listed_map g (a ∷ []) = refl
listed_map g (a ∷ b ∷ []) = refl
listed_map {V} {W} g (a ∷ b ∷ c ∷ rest) = ap (λ (ts : List (Triangle W)). record { a = g a; b = g b; c = g c } ∷ ts) (listed_map g rest)

strip_map : {V W : Type 0} (g : V → W) (odd : Bool) (vs : List V) → strip_triangles odd (map g vs) ≡ map (on_corners g) (strip_triangles odd vs)
strip_map g odd [] = refl
strip_map g odd (a ∷ []) = refl
strip_map g odd (a ∷ b ∷ []) = refl
strip_map {V} {W} g true (a ∷ b ∷ c ∷ rest) = ap (λ (ts : List (Triangle W)). record { a = g b; b = g a; c = g c } ∷ ts) (strip_map g false (b ∷ c ∷ rest))
strip_map {V} {W} g false (a ∷ b ∷ c ∷ rest) = ap (λ (ts : List (Triangle W)). record { a = g a; b = g b; c = g c } ∷ ts) (strip_map g true (b ∷ c ∷ rest))

triangles_map : {V W : Type 0} (g : V → W) (p : ℕ) (vs : List V) → triangles_of p (map g vs) ≡ map (on_corners g) (triangles_of p vs)
triangles_map {V} {W} g p vs = go (p == 0)
  where
    go : (b : Bool) → (if b then listed_triangles (map g vs) else strip_triangles false (map g vs)) ≡ map (on_corners g) (if b then listed_triangles vs else strip_triangles false vs)
    go true = listed_map g vs
    go false = strip_map g false vs

cons_map : {Y Z : Type 0} (p : Y → Z) (o : Option Y) (ys : List Y) → map p (cons_option o ys) ≡ cons_option (option_map p o) (map p ys)
cons_map p None ys = refl
cons_map p (Some y) ys = refl

-- a list of what is found, each found as the other finds it
kept_map : {X X' Y Z : Type 0} (p : Y → Z) (f : X' → Option Y) (h : X → X') (k : X → Option Z) (xs : List X) → ((x : X) → option_map p (f (h x)) ≡ k x) → map p (filter_map f (map h xs)) ≡ filter_map k xs
kept_map p f h k [] e = refl
kept_map {Z = Z} p f h k (x ∷ xs) e =
    cons_map p (f (h x)) (filter_map f (map h xs))
    ∙ ap (λ (zs : List Z). cons_option (option_map p (f (h x))) zs) (kept_map p f h k xs e)
    ∙ ap (λ o. cons_option o (filter_map k xs)) (e x)

kept_one : (d : Draw) (o : Option (Triangle ScreenVertex)) → option_map (facing_shown d.front d.back) (option_and_then (shown_unless_culled (cull_of d.state)) o) ≡ kept_facing d o
kept_one d None = refl
kept_one d (Some t) = go (is_kept (cull_of d.state) t) refl
  where
    go : (b : Bool) → is_kept (cull_of d.state) t ≡ b → option_map (facing_shown d.front d.back) (shown_unless_culled (cull_of d.state) t) ≡ kept_facing d (Some t)
    go true e = rw e refl
    go false e = rw e refl

-- the triangles that are kept, with the stencil words of the sides that they show
pub facings_kept : (view : View) (rect : Rect) (d : Draw) (vs : List (Option Vertex))
    → map (facing_shown d.front d.back) (kept_of (cull_of d.state) (triangles_of (primitive_of d.state) (map (placed_vertex view rect d) vs)))
    ≡ filter_map (placed_facing view rect d) (triangles_of (primitive_of d.state) vs)
facings_kept view rect d vs =
    ap (λ (ts : List (Triangle (Option ScreenVertex))). map (facing_shown d.front d.back) (kept_of (cull_of d.state) ts)) (triangles_map (placed_vertex view rect d) (primitive_of d.state) vs)
    ∙ kept_map (facing_shown d.front d.back) (kept (cull_of d.state)) (on_corners (placed_vertex view rect d)) (placed_facing view rect d) (triangles_of (primitive_of d.state) vs)
    (λ t. kept_one d (all_three (placed_vertex view rect d t.a) (placed_vertex view rect d t.b) (placed_vertex view rect d t.c)))

-- fewer than three vertices have no triangle
pub few_listed : {V : Type 0} (vs : List V) → length vs < 3 → listed_triangles vs ≡ []
few_listed [] lt = refl
few_listed (a ∷ []) lt = refl
few_listed (a ∷ b ∷ []) lt = refl
few_listed (a ∷ b ∷ c ∷ rest) lt = absurd (omega (arith, lt))

pub few_stripped : {V : Type 0} (odd : Bool) (vs : List V) → length vs < 3 → strip_triangles odd vs ≡ []
few_stripped odd [] lt = refl
few_stripped odd (a ∷ []) lt = refl
few_stripped odd (a ∷ b ∷ []) lt = refl
few_stripped odd (a ∷ b ∷ c ∷ rest) lt = absurd (omega (arith, lt))

-- nothing is left behind the triangles
pub all_done : {A : Type 0} (xs ys zs : List A) → ys ≡ [] → xs ++ ys ≡ zs → xs ≡ zs
all_done xs ys zs e is = sym (append-nil xs) ∙ ap (λ l. xs ++ l) (sym e) ∙ is

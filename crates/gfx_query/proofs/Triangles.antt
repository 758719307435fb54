-- Lists of triangles that are not culled.
use Rattle.std.proofs.Common.{◌≡◌, ℕ, ◌+◌, ◌<◌, Bool, true, false, List, [], ◌∷◌, ◌++◌, length, map, Option, Some, None, Result, Ok, Err, refl, ap, sym, ◌∙◌, arith}
use Rattle.std.specs.Prelude.{MatchResult, option_map, option_and_then, filter_map}
use Rattle.std.specs.List.{cons_option, range_with_len}
use Rattle.std.proofs.lemmas.List.{append-nil, map-append}
use Rattle.std.proofs.lemmas.List.FromFn.{map-range_with_len_more}
use Rattle.gfx_model.specs.Words.{cull_of}
use Rattle.gfx_model.specs.Vertex.{Triangle, listed_triangles, strip_triangles, Layout, LayoutPart, attribute_part, position_attribute, fixed_type, layout_of_parts}
use Rattle.std.proofs.lemmas.Option.{none-some, same_Some}
use Rattle.gfx_model.specs.Raster.{ScreenVertex, is_kept}
use Rattle.gfx_model.specs.World.{Facing, all_three}
use Rattle.tri_cover.specs.Shown.{setup_seen, shown_unless_culled}
use Rattle.tri_cover.specs.declared.triangles.Setup.{Setup}
use Rattle.gfx_query.specs.Draws.{position_layout, facing_unless_culled, facing_of_corners}
use Rattle.gfx_query.specs.Standing.{facing_shown, facing_seen, shown_of_corners, shown_of}

-- fewer than three vertices have no triangle
pub few_listed : {V : Type 0} (vs : List V) → length vs < 3 → listed_triangles vs ≡ []
few_listed [] lt = refl
few_listed (a ∷ []) lt = refl
few_listed (a ∷ b ∷ []) lt = refl
few_listed (a ∷ b ∷ c ∷ rest) lt = absurd (omega (arith, lt))

pub few_stripped : {V : Type 0} (odd : Bool) (vs : List V) → length vs < 3 → strip_triangles odd vs ≡ []
few_stripped odd [] lt = refl
few_stripped odd (a ∷ []) lt = refl
few_stripped odd (a ∷ b ∷ []) lt = refl
few_stripped odd (a ∷ b ∷ c ∷ rest) lt = absurd (omega (arith, lt))

-- nothing is left behind the triangles
pub all_done : {A : Type 0} (xs ys zs : List A) → ys ≡ [] → xs ++ ys ≡ zs → xs ≡ zs
all_done xs ys zs e is = sym (append-nil xs) ∙ ap (λ l. xs ++ l) (sym e) ∙ is

-- one number more of a range
pub more : {X A B : Type 0} (g : X → B) (p : A → B) (h : ℕ → A) (first n : ℕ) (old new : List X) (x : X) → new ≡ old ++ x ∷ [] → g x ≡ p (h (first + n))
    → map g old ≡ map p (map h (range_with_len first n)) → map g new ≡ map p (map h (range_with_len first (n + 1)))
more {X} {A} {B} g p h first n old new x push is same =
    ap (map g) push ∙ map-append g old (x ∷ [])
    ∙ (λ i. same i ++ is i ∷ [])
    ∙ sym (ap (map p) (map-range_with_len_more h first n (first + n) refl) ∙ map-append p (map h (range_with_len first n)) (h (first + n) ∷ []))

cons_map : {Y Z : Type 0} (p : Y → Z) (o : Option Y) (ys : List Y) → map p (cons_option o ys) ≡ cons_option (option_map p o) (map p ys)
cons_map p None ys = refl
cons_map p (Some y) ys = refl

kept_map : {X Y Z : Type 0} (p : Y → Z) (f : X → Option Y) (k : X → Option Z) (xs : List X) → ((x : X) → option_map p (f x) ≡ k x) → map p (filter_map f xs) ≡ filter_map k xs
kept_map p f k [] e = refl
kept_map {Z = Z} p f k (x ∷ xs) e =
    cons_map p (f x) (filter_map f xs)
    ∙ ap (λ (zs : List Z). cons_option (option_map p (f x)) zs) (kept_map p f k xs e)
    ∙ ap (λ o. cons_option o (filter_map k xs)) (e x)

facing_one : (state front back : ℕ) (o : Option (Triangle ScreenVertex)) → option_map (facing_shown front back) (option_and_then (shown_unless_culled (cull_of state)) o) ≡ option_and_then (facing_unless_culled state front back) o
facing_one state front back None = refl
facing_one state front back (Some t) = go (is_kept (cull_of state) t) refl
  where
    go : (b : Bool) → is_kept (cull_of state) t ≡ b → option_map (facing_shown front back) (shown_unless_culled (cull_of state) t) ≡ facing_unless_culled state front back t
    go true e = rw e refl
    go false e = rw e refl

seen_shown : (front back : ℕ) (ss : List Setup) → map (facing_seen front back) ss ≡ map (facing_shown front back) (map setup_seen ss)
seen_shown front back [] = refl
seen_shown front back (s ∷ ss) = ap (λ (fs : List Facing). facing_seen front back s ∷ fs) (seen_shown front back ss)

-- the triangles that are ready to be drawn are those of the definition
pub facings_ready : (state front back : ℕ) (ss : List Setup) (ts : List (Triangle (Option ScreenVertex))) → map setup_seen ss ≡ shown_of (cull_of state) ts
    → map (facing_seen front back) ss ≡ filter_map (facing_of_corners state front back) ts
facings_ready state front back ss ts e =
    seen_shown front back ss ∙ ap (map (facing_shown front back)) e
    ∙ kept_map (facing_shown front back) (shown_of_corners (cull_of state)) (facing_of_corners state front back) ts (λ t. facing_one state front back (all_three t.a t.b t.c))

-- the part of a layout of a position alone
abbrev pub position_parts : List LayoutPart
position_parts = attribute_part position_attribute fixed_type 3 ∷ []

-- the layout of a position alone is admitted
pub position_is : {R : Type 0} (X : R → Type 0) (r : Result Layout R) → MatchResult r (λ l. layout_of_parts position_parts ≡ Some l) (λ e. X e × (layout_of_parts position_parts ≡ None)) → r ≡ Ok position_layout
position_is X (Ok l) e = ap Ok (sym (same_Some position_layout l e))
position_is X (Err e) h = absurd (none-some position_layout (sym h.1))

abbrev value_or : {R : Type 0} → Layout → Result Layout R → Layout
value_or d (Ok l) = l
value_or d (Err e) = d

pub ok_same : {R : Type 0} (a b : Layout) → ◌≡◌ {A = Result Layout R} (Ok a) (Ok b) → a ≡ b
ok_same a b e = ap (value_or a) e

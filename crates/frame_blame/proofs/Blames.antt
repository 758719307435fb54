-- A mark after strokes, and the deed that it tells.
use Rattle.std.proofs.Common.{◌≡◌, ◌∙◌, ℕ, zero, suc, ◌+◌, Bool, true, false, cond, List, [], ◌∷◌, ◌++◌, map, length, get_or, Option, Some, None, refl, ap}
use Rattle.std.specs.Prelude.{◌*◌, ◌/◌, ◌%◌, ◌^◌, not, if◌then◌else◌, fold}
use Rattle.gfx_model.specs.Words.{depth_test_of, writes_depth, on_stencil_fail, on_depth_fail, on_pass}
use Rattle.gfx_model.specs.Vertex.{Color}
use Rattle.gfx_model.specs.Raster.{no_color}
use Rattle.gfx_model.specs.Pixel.{Pixel, passes_stencil, passes_depth, stencil_by, stored_color, step_by_depth}
use Rattle.trace_laws.specs.History.{Stroke, clear_stroke, fragment_stroke, after_stroke, Made}
use Rattle.frame_blame.specs.Blame.{gives_color, coloring_deeds, last_or}
use Rattle.frame_blame.specs.Marks.{bare, mark_after, marked}
use Rattle.frame_blame.specs.declared.marks.Mark.{Mark}

-- the depth word after a fragment does not depend on colours
pub step-depth : (c d a b : Color) (o : Option ℕ) (z state word : ℕ)
    → (step_by_depth c o (record { color = a; depth = z }) state word).depth ≡ (step_by_depth d o (record { color = b; depth = z }) state word).depth
step-depth c d a b None z state word = refl
step-depth c d a b (Some stored) z state word = go (not (passes_stencil word stencil)) (not (passes_depth (depth_test_of state) z depth))
  where
    depth : ℕ
    depth = stored % 2 ^ 24

    stencil : ℕ
    stencil = stored / 2 ^ 24

    outcome : Bool → Bool → Color → Color → Pixel
    outcome p q color source =
        cond p (record { color = color; depth = Some (depth + 2 ^ 24 * stencil_by word (on_stencil_fail word) stencil) })
        (cond q (record { color = color; depth = Some (depth + 2 ^ 24 * stencil_by word (on_depth_fail word) stencil) })
        (record { color = stored_color state source color; depth = Some ((if writes_depth state then z else depth) + 2 ^ 24 * stencil_by word (on_pass word) stencil) }))

    go : (p q : Bool) → (outcome p q c a).depth ≡ (outcome p q d b).depth
    go true q = refl
    go false true = refl
    go false false = refl

-- the mark of a pixel that a deed gave its colour
abbrev pub of_pixel : Pixel → ℕ → Mark
of_pixel p deed = record { depth = p.depth; deed = deed }

after-as : (number : ℕ) (p : Pixel) (l : ℕ) (s : Stroke) → mark_after number (of_pixel p l) s ≡ of_pixel (after_stroke p s) (if gives_color p s then number else l)
after-as number p l (clear_stroke c) = refl
after-as number p l (fragment_stroke t state word shaded) =
    ap (λ o. record { depth = o; deed = if gives_color p (fragment_stroke t state word shaded) then number else l })
    (step-depth no_color p.color shaded.color shaded.color p.depth shaded.depth state word)

pub marks-blame : (p : Pixel) (l : ℕ) (ms : List Made) → (marked (of_pixel p l) ms).deed ≡ last_or l (coloring_deeds p ms)
marks-blame p l [] = refl
marks-blame p l (m ∷ ms) =
    ap (λ (k : Mark). (marked k ms).deed) (after-as (m.deed + 1) p l m.stroke)
    ∙ marks-blame (after_stroke p m.stroke) (if gives_color p m.stroke then m.deed + 1 else l) ms
    ∙ pick (gives_color p m.stroke)
  where
    rest : List ℕ
    rest = coloring_deeds (after_stroke p m.stroke) ms

    pick : (b : Bool) → last_or (cond b (m.deed + 1) l) rest ≡ last_or l (cond b (m.deed ∷ []) [] ++ rest)
    pick true = refl
    pick false = refl

-- a mark does not depend on the colour of a fragment, nor on the triangle's number
pub uncolored : (number : ℕ) (m : Mark) (t u state word z : ℕ) (a b : Color)
    → mark_after number m (fragment_stroke t state word (record { color = a; depth = z })) ≡ mark_after number m (fragment_stroke u state word (record { color = b; depth = z }))
uncolored number m t u state word z a b =
    ap (λ o. record { depth = o; deed = if gives_color (bare m.depth) (fragment_stroke u state word (record { color = b; depth = z })) then number else m.deed })
    (step-depth no_color no_color a b m.depth z state word)

-- strokes of one deed
pub stroked-marked : (n : ℕ) (m : Mark) (ss : List Stroke) → fold (mark_after (n + 1)) m ss ≡ marked m (map (λ s. record { deed = n; stroke = s }) ss)
stroked-marked n m [] = refl
stroked-marked n m (s ∷ ss) = stroked-marked n (mark_after (n + 1) m s) ss

pub marked-more : (m : Mark) (xs ys : List Made) → marked m (xs ++ ys) ≡ marked (marked m xs) ys
marked-more m [] ys = refl
marked-more m (x ∷ xs) ys = marked-more (mark_after (x.deed + 1) m x.stroke) xs ys

-- an element of a list that is mapped
pub got-map : {A B : Type 0} (f : A → B) (xs : List A) (i : ℕ) (d : A) → get_or (map f xs) i (f d) ≡ f (get_or xs i d)
got-map f [] i d = refl
got-map f (x ∷ xs) zero d = refl
got-map f (x ∷ xs) (suc i) d = got-map f xs i d

pub length-mapped : {A B : Type 0} (f : A → B) (xs : List A) → length (map f xs) ≡ length xs
length-mapped f [] = refl
length-mapped f (x ∷ xs) = ap suc (length-mapped f xs)

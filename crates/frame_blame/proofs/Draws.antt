-- Marks after a clear and after a draw, brush by brush.
use Rattle.std.proofs.Common.{◌≡◌, ◌∙◌, ℕ, zero, suc, ◌+◌, ◌<◌, ◌≤◌, ◌&&◌, Bool, true, false, cond, List, [], ◌∷◌, map, length, drop, get_or, refl, sym, ap, arith}
use Rattle.std.specs.Prelude.{fold}
use Rattle.gfx_model.specs.Raster.{contains, covers, fragment_at, no_color}
use Rattle.gfx_model.specs.World.{painted}
use Rattle.fix_math.specs.Seen.{rect_seen}
use Rattle.tri_cover.specs.Shown.{setup_seen}
use Rattle.tri_cover.specs.declared.triangles.Setup.{Setup}
use Rattle.int_raster.specs.declared.lists.Prepared.{Prepared}
use Rattle.int_raster.specs.Seen.{paint_seen, facing_seen}
use Rattle.trace_laws.specs.History.{Stroke, fragment_stroke, fragment_of, fragments_from}
use Rattle.frame_blame.specs.Brushes.{brushed, tip_covers, tip_stroke, IsBrushOf}
use Rattle.frame_blame.specs.Marks.{mark_after}
use Rattle.frame_blame.specs.declared.brushes.Brush.{Brush}
use Rattle.frame_blame.specs.declared.marks.Mark.{Mark}
use Rattle.frame_blame.proofs.Blames.{uncolored}

drop-suc : {A : Type 0} (xs : List A) (i : ℕ) (d : A) → i < length xs → drop i xs ≡ get_or xs i d ∷ drop (suc i) xs
drop-suc [] i d h = absurd (omega (arith, h))
drop-suc (x ∷ xs) zero d h = refl
drop-suc (x ∷ xs) (suc i) d h = drop-suc xs i d (omega (arith, h))

pub drop-next : {A : Type 0} (xs : List A) (i : ℕ) (d : A) → i < length xs → drop i xs ≡ get_or xs i d ∷ drop (i + 1) xs
drop-next xs i d h = drop-suc xs i d h ∙ ap (λ k. get_or xs i d ∷ drop k xs) same
  where
    same : suc i ≡ i + 1
    same = omega arith

pub drop-past : {A : Type 0} (xs : List A) (i : ℕ) → length xs ≤ i → drop i xs ≡ []
drop-past [] zero h = refl
drop-past [] (suc i) h = refl
drop-past (x ∷ xs) zero h = absurd (omega (arith, h))
drop-past (x ∷ xs) (suc i) h = drop-past xs i (omega (arith, h))

pub got-self : {A : Type 0} (xs : List A) (k : ℕ) (d : A) → k < length xs → get_or xs k (get_or xs k d) ≡ get_or xs k d
got-self [] k d h = absurd (omega (arith, h))
got-self (x ∷ xs) zero d h = refl
got-self (x ∷ xs) (suc k) d h = got-self xs k d (omega (arith, h))

module _ (draw : Prepared) (number x y : ℕ) where
  -- the fragments of triangles that are numbered from j on, within the cut
  abbrev pub from_on : ℕ → List Setup → List Stroke
  from_on j ts = cond (contains (rect_seen draw.cut) x y) (fragments_from j draw.state (paint_seen draw.paint) x y (map (facing_seen draw) ts)) []

  one-brush : (j : ℕ) (m : Mark) (t : Setup) (rest : List Setup) (b c : Bool)
      → fold (mark_after number) (cond (b && c) (mark_after number m (fragment_stroke 0 draw.state (facing_seen draw t).stencil (record { color = no_color; depth = (fragment_at (setup_seen t).triangle x y).depth }))) m)
      (cond b (fragments_from (j + 1) draw.state (paint_seen draw.paint) x y (map (facing_seen draw) rest)) [])
      ≡ fold (mark_after number) m
      (cond b (cond c (fragment_of j draw.state (paint_seen draw.paint) x y (facing_seen draw t) ∷ fragments_from (j + 1) draw.state (paint_seen draw.paint) x y (map (facing_seen draw) rest)) (fragments_from (j + 1) draw.state (paint_seen draw.paint) x y (map (facing_seen draw) rest))) [])
  one-brush j m t rest false c = refl
  one-brush j m t rest true false = refl
  one-brush j m t rest true true =
      ap (λ (k : Mark). fold (mark_after number) k (fragments_from (j + 1) draw.state (paint_seen draw.paint) x y (map (facing_seen draw) rest)))
      (uncolored number m 0 j draw.state (facing_seen draw t).stencil (fragment_at (setup_seen t).triangle x y).depth no_color (painted (paint_seen draw.paint) (fragment_at (setup_seen t).triangle x y)))

  brush-same : (t : Setup) (b : Brush) (m : Mark) → IsBrushOf draw t b
      → brushed number b x y m
      ≡ cond (contains (rect_seen draw.cut) x y && covers (setup_seen t).triangle x y)
      (mark_after number m (fragment_stroke 0 draw.state (facing_seen draw t).stencil (record { color = no_color; depth = (fragment_at (setup_seen t).triangle x y).depth }))) m
  brush-same t b m is =
      ap (λ c. cond (contains (rect_seen c) x y && tip_covers b.tip x y) (mark_after number m (tip_stroke b.tip x y)) m) is.cut_is
      ∙ ap (λ p. cond (contains (rect_seen draw.cut) x y && tip_covers p x y) (mark_after number m (tip_stroke p x y)) m) is.tip_is

  -- the next triangle
  pub draw-next : (ts : List Setup) (j : ℕ) (t : Setup) (b : Brush) (all m next : Mark) → j < length ts → get_or ts j t ≡ t → IsBrushOf draw t b
      → fold (mark_after number) m (from_on j (drop j ts)) ≡ all → next ≡ brushed number b x y m → fold (mark_after number) next (from_on (j + 1) (drop (j + 1) ts)) ≡ all
  draw-next ts j t b all m next lt is own before step =
      ap (λ (k : Mark). fold (mark_after number) k (from_on (j + 1) (drop (j + 1) ts))) (step ∙ brush-same t b m own)
      ∙ one-brush j m t (drop (j + 1) ts) (contains (rect_seen draw.cut) x y) (covers (setup_seen t).triangle x y)
      ∙ ap (λ us. fold (mark_after number) m (from_on j us)) (sym (drop-next ts j t lt ∙ ap (λ u. u ∷ drop (j + 1) ts) is))
      ∙ before

  pub draw-past : (ts : List Setup) (j : ℕ) (all m : Mark) → length ts ≤ j → fold (mark_after number) m (from_on j (drop j ts)) ≡ all → m ≡ all
  draw-past ts j all m le before = sym (none (contains (rect_seen draw.cut) x y)) ∙ ap (λ us. fold (mark_after number) m (from_on j us)) (sym (drop-past ts j le)) ∙ before
    where
      none : (b : Bool) → fold (mark_after number) m (cond b [] []) ≡ m
      none true = refl
      none false = refl

-- a clear
pub clear-same : (number : ℕ) (m : Mark) (s : Stroke) (b : Bool) → cond (b && true) (mark_after number m s) m ≡ fold (mark_after number) m (cond b (s ∷ []) [])
clear-same number m s true = refl
clear-same number m s false = refl

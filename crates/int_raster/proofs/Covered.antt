-- The rows that triangles may cover, and draws that change no row of a band.
use Rattle.std.proofs.Common.{◌≡◌, ℕ, zero, suc, ◌+◌, ◌<◌, ◌≤◌, Bool, true, false, if◌then◌else◌, List, [], ◌∷◌, length, map, fold, slice_index_or, refl, ap, sym, ◌∙◌, arith, ⊎_elim, ◌*◌, ◌/◌, ◌%◌}
use Rattle.std.proofs.lemmas.Bool.{cases_order}
use Rattle.gfx_model.specs.Pixel.{Pixel}
use Rattle.gfx_model.specs.Raster.{contains, covers}
use Rattle.gfx_model.specs.World.{Paint, paint_solid}
use Rattle.gfx_model.specs.Number.{map_from}
use Rattle.fix_math.specs.Seen.{rect_seen}
use Rattle.tri_cover.specs.Shown.{setup_seen}
use Rattle.tri_cover.specs.declared.triangles.Setup.{Setup}
use Rattle.int_raster.specs.Covered.{CoverRows}
use Rattle.int_raster.specs.Places.{below, by_place}
use Rattle.int_raster.specs.Drawing.{PreparedDraw, facing_shown, facing_step, prepared_step, covered_step}
use Rattle.int_raster.specs.Repainted.{painted_as}
use Rattle.int_raster.specs.declared.listed.Listed.{Listed}
use Rattle.int_raster.specs.Listing.{own_triangles, listed_seen}
use Rattle.int_raster.proofs.Changes.{map_from-none}
use Rattle.std.proofs.lemmas.Nat.{div_below}

-- an element that is there, whatever would stand for one that is not
any_default : {A : Type 0} (xs : List A) (i : ℕ) (d e : A) → i < length xs → slice_index_or xs i d ≡ slice_index_or xs i e
any_default [] i d e h = absurd (omega (arith, h))
any_default (x ∷ xs) zero d e h = refl
any_default (x ∷ xs) (suc i) d e h = any_default xs i d e (omega (arith, h))

-- one triangle more
pub covered_more : (ts : List Setup) (top bottom first after low high n : ℕ) (t : Setup) → CoverRows top bottom n ts → n < length ts → t ≡ slice_index_or ts n t → low ≤ top → low ≤ first → bottom ≤ high → after ≤ high →
    ((x y : ℕ) → y < 65535 → covers (setup_seen t).triangle x y ≡ true → (first ≤ y) × (y < after)) → CoverRows low high (n + 1) ts
covered_more ts top bottom first after low high n t h inside is a b c d own i x y s few below cover = ⊎_elim here (λ o. ⊎_elim before (λ l. absurd (omega (arith, l, few))) o) (cases_order i n)
  where
    here : i ≡ n → (low ≤ y) × (y < high)
    here e =
        let same : slice_index_or ts i s ≡ t = ap (λ k. slice_index_or ts k s) e ∙ any_default ts n s t inside ∙ sym is in
        let rows = own x y below (ap (λ u. covers (setup_seen u).triangle x y) (sym same) ∙ cover) in
        (omega (arith, b, rows.0), omega (arith, d, rows.1))

    before : i < n → (low ≤ y) × (y < high)
    before l = let rows = h i x y s l below cover in (omega (arith, a, rows.0), omega (arith, c, rows.1))

never : (b : Bool) → (b ≡ true → ⊥) → b ≡ false
never true h = absurd (h refl)
never false h = refl

in_either : {A : Type 0} (b : Bool) (u p : A) → u ≡ p → (if b then u else p) ≡ p
in_either true u p e = e
in_either false u p e = refl

-- triangles that do not cover a pixel leave it
facings_none : (state : ℕ) (paint : Paint) (front back x y : ℕ) (q : Pixel) (ts : List Setup) → ((i : ℕ) (s : Setup) → i < length ts → covers (setup_seen (slice_index_or ts i s)).triangle x y ≡ true → ⊥) →
    fold (facing_step state paint x y) q (map (facing_shown front back) (map setup_seen ts)) ≡ q
facings_none state paint front back x y q [] h = refl
facings_none state paint front back x y q (t ∷ ts) h =
    let off : covers (setup_seen t).triangle x y ≡ false = never (covers (setup_seen t).triangle x y) (h 0 t (omega arith)) in
    let step : facing_step state paint x y q (facing_shown front back (setup_seen t)) ≡ q = λ i. if off i then covered_step state paint (facing_shown front back (setup_seen t)) x y q else q in
    ap (λ r. fold (facing_step state paint x y) r (map (facing_shown front back) (map setup_seen ts))) step
    ∙ facings_none state paint front back x y q ts (λ i s b. h (suc i) s (omega (arith, b)))

-- a draw of nothing, for places behind a list's end
abbrev pub no_draw : PreparedDraw
no_draw = record { cut = record { x = 0; y = 0; w = 0; h = 0 }; state = 0; paint = paint_solid []; facings = [] }

-- a draw that changes no row of a band leaves the band
pub band_none : (d : PreparedDraw) (w top count : ℕ) (ps : List Pixel) → 0 < w → length ps ≡ w * count → ((x y : ℕ) (p : Pixel) → y < count → prepared_step d x (top + y) p ≡ p) →
    ps ≡ map_from (by_place w (below top (prepared_step d))) 0 ps
band_none d w top count ps pw l h =
    sym (map_from-none (by_place w (below top (prepared_step d))) 0 ps
    (λ k p b. h ((0 + k) % w) ((0 + k) / w) p (div_below (0 + k) w count pw (omega (arith, b, l)))))

-- a listed draw changes no row but its own, whatever it paints with
pub listed_none : (l : Listed) (ts : List Setup) (paint : Paint) (x y : ℕ) (q : Pixel) → CoverRows l.top l.bottom (length (own_triangles ts l)) (own_triangles ts l) → y < 65535 → (l.top ≤ y → y < l.bottom → ⊥) →
    prepared_step (painted_as (listed_seen ts l) paint) x y q ≡ q
listed_none l ts paint x y q held low out =
    in_either (contains (rect_seen l.cut) x y) (fold (facing_step l.state paint x y) q (map (facing_shown l.front l.back) (map setup_seen (own_triangles ts l)))) q
    (facings_none l.state paint l.front l.back x y q (own_triangles ts l)
    (λ i s b h. let r = held i x y s b low h in out r.0 r.1))

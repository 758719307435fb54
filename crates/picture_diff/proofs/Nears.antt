-- No pixel differs exactly where each channel is near enough.
use Rattle.std.proofs.Common.{◌≡◌, ℕ, zero, suc, ◌+◌, ◌*◌, ◌/◌, ◌%◌, ◌<◌, ◌≤◌, ◌↔◌, max, Bool, true, false, cond, eqb-true, eq-eqb, ltb, ◌&&◌, ◌==◌, List, [], ◌∷◌, length, get_or, Option, Result, Ok, Err, refl, ap, sym, ◌∙◌, arith, inl, inr}
use Rattle.std.specs.Int.{abs_diff}
use Rattle.std.specs.List.{AllByRecursion, AllZip}
use Rattle.std.proofs.Math.Nat.{div-add-mod, mod-lt, div-lt_iff_lt-mul, mul_comm, le-max_left, le-max_right}
use Rattle.std.proofs.lemmas.Bool.{cases_lt, ltb-false}
use Rattle.std.proofs.lemmas.List.{get_or_past, length-drop, length-take}
use Rattle.picture_diff.specs.Picture.{Picture, IsPicture}
use Rattle.picture_diff.specs.Difference.{AreNear, difference, differs_at, pixels_apart, place_at}
use Rattle.picture_diff.specs.Frames.{AreAllNear, are_all_same, are_halves, compared, first_half, have_other_sides, judged, onto, second_half}
use Rattle.picture_diff.specs.declared.difference.Difference.{Difference}
use Rattle.picture_diff.specs.declared.fault.PictureFault.{PictureFault}
use Rattle.picture_diff.specs.declared.fault.PictureFault.TheVariants as faults
use Rattle.picture_diff.proofs.Frames.{all-drop, all-take, halves-even, same-sides}
use Rattle.picture_diff.proofs.Rows.{all-near, none-there}

-- a channel of a pixel is no further apart than the pixel
channel-within : (one other : List ℕ) (at k : ℕ) → k < 3 → abs_diff (get_or one (at + k) 0) (get_or other (at + k) 0) ≤ pixels_apart one other at
channel-within one other at zero lt =
    let e : at ≡ at + 0 = omega arith in
    let a : ℕ → ℕ = λ i. abs_diff (get_or one i 0) (get_or other i 0) in
    omega (arith, ap a e, le-max_left (a at) (max (a (at + 1)) (a (at + 2))))
channel-within one other at (suc zero) lt =
    let a : ℕ → ℕ = λ i. abs_diff (get_or one i 0) (get_or other i 0) in
    omega (arith, le-max_right (a at) (max (a (at + 1)) (a (at + 2))), le-max_left (a (at + 1)) (a (at + 2)))
channel-within one other at (suc (suc zero)) lt =
    let a : ℕ → ℕ = λ i. abs_diff (get_or one i 0) (get_or other i 0) in
    omega (arith, le-max_right (a at) (max (a (at + 1)) (a (at + 2))), le-max_right (a (at + 1)) (a (at + 2)))
channel-within one other at (suc (suc (suc k))) lt = absurd (omega (arith, lt))

-- the pixel of a byte
pub record IsPixelOf (width height i : ℕ) : Type 0 where
  pub x : ℕ
  pub y : ℕ
  pub k : ℕ
  pub wide : x < width
  pub high : y < height
  pub channel : k < 3
  pub is : 3 * (y * width + x) + k ≡ i

pixel-of : (width height i : ℕ) → 0 < width → i < 3 * (width * height) → IsPixelOf width height i
pixel-of width height i some lt =
    let n = i / 3 in
    let whole = div-add-mod i 3 in
    let few : n < height * width = omega (arith, whole, lt, mul_comm width height) in
    record {
      x = n % width;
      y = n / width;
      k = i % 3;
      wide = mod-lt n some;
      high = (div-lt_iff_lt-mul {x = n} {y = height} some).1 few;
      channel = mod-lt i (omega arith);
      is = omega (arith, whole, div-add-mod n width, mul_comm width (n / width));
    }

pub near-forth : (near : ℕ) (p q : Picture) → IsPicture p → IsPicture q → p.width ≡ q.width → p.height ≡ q.height → (difference near p q).differ ≡ 0 → AreNear near p q
near-forth near p q a b wide high none i =
    elim (cases_lt i (3 * (p.width * p.height))) [
      | inl lt ↦
          let at = pixel-of p.width p.height i (omega (arith, a.wide.0)) lt in
          let test = none-there (differs_at near p.width p.bytes q.bytes) p.width p.height none at.x at.y at.wide at.high in
          let few : pixels_apart p.bytes q.bytes (3 * (at.y * p.width + at.x)) ≤ near = ltb-false _ _ test in
          let h = channel-within p.bytes q.bytes (3 * (at.y * p.width + at.x)) at.k at.channel in
          let same = ap (λ (j : ℕ). abs_diff (get_or p.bytes j 0) (get_or q.bytes j 0)) at.is in
          omega (arith, few, h, same)
      | inr le ↦
          let one : get_or p.bytes i 0 ≡ 0 = get_or_past p.bytes i 0 (omega (arith, a.whole, le)) in
          let long : length q.bytes ≡ 3 * (p.width * p.height) = b.whole ∙ (λ j. 3 * (sym wide j * sym high j)) in
          let other : get_or q.bytes i 0 ≡ 0 = get_or_past q.bytes i 0 (omega (arith, long, le)) in
          omega (arith, one, other)
    ]

pub near-back : (near : ℕ) (p q : Picture) → AreNear near p q → (difference near p q).differ ≡ 0
near-back near p q h = ap length (all-near near p.width p.height p.bytes q.bytes h)

-- ---- several frames

all-of : (b c : Bool) → (b && c) ≡ true → (b ≡ true) × (c ≡ true)
all-of true c h = (refl, h)
all-of false c h = absurd (cc h)

if-told : (b : Bool) (fault : PictureFault) (r : Result (List Difference) PictureFault) (ds : List Difference) → cond b (Err fault) r ≡ Ok ds → (b ≡ false) × (r ≡ Ok ds)
if-told true fault r ds e = absurd cc
if-told false fault r ds e = (refl, e)

abbrev told : List Difference → Result (List Difference) PictureFault
told ds = Ok ds

told-is : (xs ys : List Difference) → told xs ≡ told ys → xs ≡ ys
told-is xs ys e = cc

onto-told : (d : Difference) (r : Result (List Difference) PictureFault) (ds : List Difference) → onto (d ∷ []) r ≡ Ok ds → (rest : List Difference) × (r ≡ Ok rest) × (d ∷ rest ≡ ds)
onto-told d (Ok rest) ds e = (rest, refl, told-is (d ∷ rest) ds e)
onto-told d (Err fault) ds e = absurd cc

compared-forth : (near k : ℕ) (ps qs : List Picture) (ds : List Difference) → length ps ≡ length qs → AllByRecursion IsPicture ps → AllByRecursion IsPicture qs → compared near k ps qs ≡ Ok ds → are_all_same ds ≡ true → AllZip (AreNear near) ps qs
compared-forth near k [] [] ds long a b e same = tt
compared-forth near k [] (q ∷ qs) ds long a b e same = absurd (omega (arith, long))
compared-forth near k (p ∷ ps) [] ds long a b e same = absurd (omega (arith, long))
compared-forth near k (p ∷ ps) (q ∷ qs) ds long a b e same =
    let d = difference near p q in
    let parts = if-told (have_other_sides p q) (faults.Sides k) (onto (d ∷ []) (compared near (k + 1) ps qs)) ds e in
    let sides = same-sides p q parts.0 in
    let more = onto-told d (compared near (k + 1) ps qs) ds parts.1 in
    let both = all-of (d.differ == 0) (are_all_same more.0) (ap are_all_same more.2 ∙ same) in
    (near-forth near p q a.0 b.0 sides.0 sides.1 (eqb-true d.differ 0 both.0), compared-forth near (k + 1) ps qs more.0 (omega (arith, long)) a.1 b.1 more.1 both.1)

compared-back : (near k : ℕ) (ps qs : List Picture) (ds : List Difference) → compared near k ps qs ≡ Ok ds → AllZip (AreNear near) ps qs → are_all_same ds ≡ true
compared-back near k [] [] ds e h = ap are_all_same (sym (told-is [] ds e))
compared-back near k [] (q ∷ qs) ds e h = absurd h
compared-back near k (p ∷ ps) [] ds e h = absurd h
compared-back near k (p ∷ ps) (q ∷ qs) ds e h =
    let d = difference near p q in
    let parts = if-told (have_other_sides p q) (faults.Sides k) (onto (d ∷ []) (compared near (k + 1) ps qs)) ds e in
    let more = onto-told d (compared near (k + 1) ps qs) ds parts.1 in
    let first : (d.differ == 0) ≡ true = eq-eqb d.differ 0 (near-back near p q h.0) in
    sym (ap are_all_same more.2) ∙ rw first (compared-back near (k + 1) ps qs more.0 more.1 h.1)

if-halves : (b : Bool) (fault : PictureFault) (r : Result (List Difference) PictureFault) (ds : List Difference) → cond b r (Err fault) ≡ Ok ds → (b ≡ true) × (r ≡ Ok ds)
if-halves true fault r ds e = (refl, e)
if-halves false fault r ds e = absurd cc

judged-parts : (near : ℕ) (asked : Option ℕ) (ps : List Picture) (ds : List Difference) → judged near asked ps ≡ Ok ds → (are_halves asked (length ps) ≡ true) × (compared near 0 (first_half ps) (second_half ps) ≡ Ok ds)
judged-parts near asked ps ds e = if-halves (are_halves asked (length ps)) (faults.Count (length ps)) (compared near 0 (first_half ps) (second_half ps)) ds e

-- where no pixel differs in any frame, each channel is near enough, and the other way round
pub judged-forth : (near : ℕ) (asked : Option ℕ) (ps : List Picture) (ds : List Difference) → AllByRecursion IsPicture ps → judged near asked ps ≡ Ok ds → are_all_same ds ≡ true → AreAllNear near ps
judged-forth near asked ps ds all e same =
    let parts = judged-parts near asked ps ds e in
    let even = halves-even asked (length ps) parts.0 in
    let n = length ps / 2 in
    let long : length (first_half ps) ≡ length (second_half ps) = omega (arith, length-take n ps, length-drop n ps, even.1) in
    compared-forth near 0 (first_half ps) (second_half ps) ds long (all-take n ps all) (all-drop n ps all) parts.1 same

pub judged-back : (near : ℕ) (asked : Option ℕ) (ps : List Picture) (ds : List Difference) → judged near asked ps ≡ Ok ds → AreAllNear near ps → are_all_same ds ≡ true
judged-back near asked ps ds e h = compared-back near 0 (first_half ps) (second_half ps) ds (judged-parts near asked ps ds e).1 h

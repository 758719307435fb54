-- Joined picture texts are spelled frame by frame.
use Rattle.std.proofs.Common.{◌≡◌, ℕ, suc, ◌+◌, ◌-◌, ◌*◌, ◌/◌, ◌<◌, ◌≤◌, true, false, cond, List, [], ◌∷◌, ◌++◌, length, take, drop, Some, None, refl, sym, ap, ◌∙◌, append_assoc, append-nil, arith, suc-mul}
use Rattle.std.specs.Prelude.{flat_map, decimal, codes}
use Rattle.std.specs.Int.{w32, to_le_bytes}
use Rattle.std.proofs.lemmas.List.{length-append, take_at, drop_at}
use Rattle.std.proofs.lemmas.Nat.{div-mul-add}
use Rattle.std.proofs.lemmas.Option.{same_Some}
use Rattle.frame_capture.specs.declared.run.Run.{Run}
use Rattle.frame_capture.specs.declared.run.Color.{Color}
use Rattle.frame_capture.specs.Film.{color_bytes, text_head, text_length, texts}
use Rattle.frame_capture.specs.Capture.{run_bytes, AreFrames, head_of, IsCapture}
use Rattle.frame_capture.specs.Spelling.{film, AreTexts, AreTextsOf, frame_of, frames_of, runs_of, runs_behind, pixel_at, goes_on, run_with, color_of}
use Rattle.frame_capture.proofs.Frames.{colors-length, texts_with, AreWhole, texts-length}
use Rattle.frame_capture.proofs.Greedy.{runs-are}

-- the frames of whole pictures
frames-are : (head : List ℕ) (pixels size : ℕ) (k : ℕ) (ps : List (List Color)) → AreWhole pixels ps → size ≡ length head + 3 * pixels
    → AreFrames k (frames_of (length head) size k (length ps) (texts_with head ps)) ps
unfolding frames_of
frames-are head pixels size k [] whole e = refl
frames-are head pixels size k (p ∷ ps) whole e =
    let colors = flat_map color_bytes p in
    let text = head ++ colors in
    let others = texts_with head ps in
    let one : length text ≡ size = omega (arith, length-append head colors, colors-length p, whole.0, e) in
    let front : take size (text ++ others) ≡ text = take_at text others size one in
    let back : drop size (text ++ others) ≡ others = drop_at text others size one in
    let own : drop (length head) text ≡ colors = drop_at head colors (length head) refl in
    let runs = runs_of colors in
    let rest = frames_of (length head) size (k + 1) (length ps) others in
    let first : frame_of k (length head) (take size (text ++ others)) ≡ to_le_bytes w32 k ++ runs = ap (λ (t : List ℕ). to_le_bytes w32 k ++ runs_of (drop (length head) t)) front ∙ ap (λ (t : List ℕ). to_le_bytes w32 k ++ runs_of t) own in (
      runs,
      rest,
      ap (λ (t : List ℕ). t ++ frames_of (length head) size (k + 1) (length ps) (drop size (text ++ others))) first
          ∙ ap (λ (t : List ℕ). (to_le_bytes w32 k ++ runs) ++ frames_of (length head) size (k + 1) (length ps) t) back
          ∙ append_assoc (to_le_bytes w32 k) runs rest,
      runs-are p,
      frames-are head pixels size (k + 1) ps whole.1 e,
    )

-- how many texts there are
pub how-many : (width height size : ℕ) (bytes : List ℕ) (ps : List (List Color)) → AreTextsOf width height bytes ps → size ≡ text_length width height → 0 < size → length bytes / size ≡ length ps
how-many width height size bytes ps are e some =
    let all : length bytes ≡ length ps * size + 0 = ap length are.1 ∙ texts-length (text_head width height) (width * height) ps are.0.whole ∙ ap (λ (n : ℕ). length ps * n) (sym e) ∙ (let z : length ps * size ≡ length ps * size + 0 = omega arith in z) in
    ap (λ (n : ℕ). n / size) all ∙ div-mul-add (length ps) size 0 some

-- all texts are whole
pub whole-texts : (width height size : ℕ) (bytes : List ℕ) → AreTexts width height bytes → size ≡ text_length width height → 0 < size
    → (length bytes / size ≤ 1024) × (length bytes ≡ (length bytes / size) * size)
whole-texts width height size bytes are e some =
    let many = how-many width height size bytes are.0 are.1 e some in
    let all : length bytes ≡ length are.0 * size = ap length are.1.1 ∙ texts-length (text_head width height) (width * height) are.0 are.1.0.whole ∙ ap (λ (n : ℕ). length are.0 * n) (sym e) in
    (omega (arith, many, are.1.0.count.1), all ∙ ap (λ (n : ℕ). n * size) (sym many))

-- what was put is the capture
pub captured : (width height head size frames : ℕ) (bytes : List ℕ) (put : List ℕ) (ps : List (List Color)) → AreTextsOf width height bytes ps → head ≡ length (text_head width height)
    → size ≡ text_length width height → frames ≡ length ps
    → put ≡ head_of width height frames ++ frames_of head size 0 frames bytes → IsCapture put (film width height ps)
captured width height head size frames bytes put ps are h e many is =
    let own = text_head width height in
    let same : frames_of head size 0 frames bytes ≡ frames_of (length own) size 0 (length ps) (texts_with own ps) =
    ap (λ (n : ℕ). frames_of n size 0 frames bytes) h ∙ ap (λ (n : ℕ). frames_of (length own) size 0 n bytes) many ∙ ap (λ (b : List ℕ). frames_of (length own) size 0 (length ps) b) are.1 in
    record {
      frames = frames_of (length own) size 0 (length ps) (texts_with own ps);
      can = are.0;
      spelled = is ∙ ap (λ (n : ℕ). head_of width height n ++ frames_of head size 0 frames bytes) many ∙ ap (λ (b : List ℕ). head_of width height (length ps) ++ b) same;
      framed = frames-are own (width * height) size 0 ps are.0.whole e;
    }

-- one frame more
pub frames-more : (head size k n : ℕ) (texts put total : List ℕ) → put ++ frames_of head size k (suc n) texts ≡ total
    → (put ++ frame_of k head (take size texts)) ++ frames_of head size (k + 1) n (drop size texts) ≡ total
unfolding frames_of
frames-more head size k n texts put total e = append_assoc put (frame_of k head (take size texts)) (frames_of head size (k + 1) n (drop size texts)) ∙ e

pub frames-none : (head size k : ℕ) (texts put total : List ℕ) → put ++ frames_of head size k 0 texts ≡ total → put ≡ total
unfolding frames_of
frames-none head size k texts put total e = sym (append-nil put) ∙ e

-- ---- pixels

pub runs-next : (r : Run) (bytes : List ℕ) (c : Color) (after : List ℕ) → pixel_at bytes ≡ Some (c, after)
    → runs_behind r bytes ≡ cond (goes_on r c) (runs_behind (run_with (r.count + 1) r.color) after) (run_bytes r ++ runs_behind (run_with 1 c) after)
unfolding runs_behind
runs-next r [] c after e = absurd cc
runs-next r (x ∷ []) c after e = absurd cc
runs-next r (x ∷ y ∷ []) c after e = absurd cc
runs-next r (x ∷ y ∷ z ∷ bytes) c after e =
    let is : (color_of x y z, bytes) ≡ (c, after) = same_Some (color_of x y z, bytes) (c, after) e in
    ap (λ (p : Color × List ℕ). cond (goes_on r p.0) (runs_behind (run_with (r.count + 1) r.color) p.1) (run_bytes r ++ runs_behind (run_with 1 p.0) p.1)) is

pub run-longer : (r : Run) (bytes : List ℕ) (c : Color) (after put total : List ℕ) → pixel_at bytes ≡ Some (c, after) → goes_on r c ≡ true
    → put ++ runs_behind r bytes ≡ total → put ++ runs_behind (run_with (r.count + 1) r.color) after ≡ total
run-longer r bytes c after put total is test so_far =
    let next = runs-next r bytes c after is in
    ap (λ (x : List ℕ). put ++ x) (sym (next ∙ rw test refl)) ∙ so_far

pub run-ended : (r : Run) (bytes : List ℕ) (c : Color) (after put total : List ℕ) → pixel_at bytes ≡ Some (c, after) → goes_on r c ≡ false
    → put ++ runs_behind r bytes ≡ total → (put ++ run_bytes r) ++ runs_behind (run_with 1 c) after ≡ total
run-ended r bytes c after put total is test so_far =
    let next = runs-next r bytes c after is in
    append_assoc put (run_bytes r) (runs_behind (run_with 1 c) after) ∙ ap (λ (x : List ℕ). put ++ x) (sym (next ∙ rw test refl)) ∙ so_far

pub runs-last : (r : Run) (bytes : List ℕ) → pixel_at bytes ≡ None → runs_behind r bytes ≡ run_bytes r
unfolding runs_behind
runs-last r [] e = refl
runs-last r (x ∷ []) e = refl
runs-last r (x ∷ y ∷ []) e = refl
runs-last r (x ∷ y ∷ z ∷ bytes) e = absurd cc

pub no-pixels : (bytes : List ℕ) → pixel_at bytes ≡ None → runs_of bytes ≡ []
unfolding runs_of
no-pixels [] e = refl
no-pixels (x ∷ []) e = refl
no-pixels (x ∷ y ∷ []) e = refl
no-pixels (x ∷ y ∷ z ∷ bytes) e = absurd cc

pub first-pixel : (bytes : List ℕ) (c : Color) (after : List ℕ) → pixel_at bytes ≡ Some (c, after) → runs_of bytes ≡ runs_behind (run_with 1 c) after
unfolding runs_of
first-pixel [] c after e = absurd cc
first-pixel (x ∷ []) c after e = absurd cc
first-pixel (x ∷ y ∷ []) c after e = absurd cc
first-pixel (x ∷ y ∷ z ∷ bytes) c after e =
    let is : (color_of x y z, bytes) ≡ (c, after) = same_Some (color_of x y z, bytes) (c, after) e in
    ap (λ (p : Color × List ℕ). runs_behind (run_with 1 p.0) p.1) is

-- ---- the sizes

pub size-is : (len width height a b : ℕ) (text : List ℕ) → len ≡ length text → text ≡ text_head width height → a ≡ width → b ≡ height → len + 3 * (a * b) ≡ text_length width height
size-is len width height a b text l t x y =
    ap (λ (n : ℕ). n + 3 * (a * b)) (l ∙ ap length t) ∙ ap (λ (n : ℕ). length (text_head width height) + 3 * (n * b)) x ∙ ap (λ (n : ℕ). length (text_head width height) + 3 * (width * n)) y

pub text-some : (width height size : ℕ) → size ≡ text_length width height → 0 < size
text-some width height size e = omega (arith, e, length-append (codes "P6\n") (decimal width ++ (codes " " ++ (decimal height ++ codes "\n255\n"))))

pub one-fits : (n k size len : ℕ) → k < n → len ≡ (n - k) * size → size ≤ len
one-fits n k size len lt e =
    let more : n - k ≡ suc (n - (k + 1)) = omega arith in
    let all : len ≡ suc (n - (k + 1)) * size = e ∙ ap (λ (m : ℕ). m * size) more in
    omega (arith, all, suc-mul (n - (k + 1)) size)

pub rest-fits : (n k size len rest : ℕ) → k < n → rest + size ≡ len → len ≡ (n - k) * size → rest ≡ (n - (k + 1)) * size
rest-fits n k size len rest lt sum e =
    let more : n - k ≡ suc (n - (k + 1)) = omega arith in
    let all : len ≡ suc (n - (k + 1)) * size = e ∙ ap (λ (m : ℕ). m * size) more in
    omega (arith, all, sum, suc-mul (n - (k + 1)) size)

-- How long a capture can be: a run has four bytes and stands for at least one pixel, which has three bytes in its picture text.
use Rattle.std.proofs.Common.{◌≡◌, ℕ, ◌+◌, ◌*◌, ◌≤◌, List, [], ◌∷◌, ◌++◌, length, refl, ap, arith, suc-mul}
use Rattle.std.specs.Prelude.{flat_map, decimal, codes}
use Rattle.std.specs.Int.{w32, to_le_bytes}
use Rattle.std.proofs.lemmas.List.{length-append, length-replicate}
use Rattle.frame_capture.specs.declared.run.Color.{Color}
use Rattle.frame_capture.specs.declared.run.Run.{Run}
use Rattle.frame_capture.specs.Film.{Film, color_bytes, text_head, texts}
use Rattle.frame_capture.specs.Capture.{run_bytes, run_pixels, AreRuns, AreRunsOf, AreFrames, head_of, IsCapture}
use Rattle.frame_capture.proofs.FieldLaws.{wide32}
use Rattle.frame_capture.proofs.Frames.{colors-length, texts_with, AreWhole}

runs-short : (rs : List Run) → AreRuns rs → length (flat_map run_bytes rs) ≤ 4 * length (flat_map run_pixels rs)
runs-short [] lawful = omega arith
runs-short (r ∷ rs) lawful =
    omega (arith, length-append (run_bytes r) (flat_map run_bytes rs), length-append (run_pixels r) (flat_map run_pixels rs), length-replicate r.count r.color, lawful.0, runs-short rs lawful.3)

frame-short : (runs : List ℕ) (p : List Color) → AreRunsOf runs p → length runs ≤ 4 * length p
frame-short runs p are = omega (arith, ap length are.spelled, ap length are.stand_for, runs-short are.runs are.lawful)

frames-short : (pixels k : ℕ) (ps : List (List Color)) (bytes : List ℕ) → AreFrames k bytes ps → AreWhole pixels ps → length bytes ≤ 4 * (length ps * (1 + pixels))
frames-short pixels k [] bytes are whole = omega (arith, ap length are)
frames-short pixels k (p ∷ ps) bytes are whole =
    omega (
      arith,
      ap length are.2,
      length-append (to_le_bytes w32 k) (are.0 ++ are.1),
      length-append are.0 are.1,
      wide32.len k,
      frame-short are.0 p are.3,
      whole.0,
      frames-short pixels (k + 1) ps are.1 are.4 whole.1,
      suc-mul (length ps) (1 + pixels),
    )

texts-long : (head : List ℕ) (pixels : ℕ) (ps : List (List Color)) → 3 ≤ length head → AreWhole pixels ps → 3 * (length ps * (1 + pixels)) ≤ length (texts_with head ps)
texts-long head pixels [] three whole = omega arith
texts-long head pixels (p ∷ ps) three whole =
    let colors = flat_map color_bytes p in
    omega (
      arith,
      length-append (head ++ colors) (texts_with head ps),
      length-append head colors,
      colors-length p,
      three,
      whole.0,
      texts-long head pixels ps three whole.1,
      suc-mul (length ps) (1 + pixels),
    )

head-long : (width height : ℕ) → 3 ≤ length (text_head width height)
head-long width height = omega (arith, length-append (codes "P6\n") (decimal width ++ (codes " " ++ (decimal height ++ codes "\n255\n"))))

pub capture-short : (bytes : List ℕ) (f : Film) → IsCapture bytes f → length bytes ≤ 201326592
capture-short bytes f is =
    let head = text_head f.width f.height in
    let pixels = f.width * f.height in
    let many = texts-long head pixels f.pictures (head-long f.width f.height) is.can.whole in
    let few = frames-short pixels 0 f.pictures is.frames is.framed is.can.whole in
    let front = head_of f.width f.height (length f.pictures) in
    let twelve : length front ≡ 12 = refl in
    omega (arith, ap length is.spelled, length-append front is.frames, twelve, few, many, is.can.short)

-- A scene's pictures and their texts, as those of a capture.
use Rattle.std.proofs.Common.{◌≡◌, ◌∙◌, ℕ, zero, suc, ◌+◌, ◌*◌, ◌≤◌, List, [], ◌∷◌, ◌++◌, length, map, take, refl, sym, ap, ap₂, subst, arith}
use Rattle.std.proofs.lemmas.List.{length-map}
use Rattle.std.specs.Prelude.{flat_map, slice_index_or, Ok}
use Rattle.std.specs.List.{AllByRecursion}
use Rattle.std.proofs.Math.Nat.{mul-le-mul_right}
use Rattle.gfx_model.specs.Vertex as vertex
use Rattle.gfx_model.specs.Raster.{Texels}
use Rattle.gfx_model.specs.World.{World, first_world, frame_step}
use Rattle.scene_model.specs.Scene.{Scene}
use Rattle.scene_model.specs.Fold.{FramePlan, plans}
use Rattle.scene_model.specs.Journal.{Journal, IsLawful, frame_content, pictures, pictures_from}
use Rattle.scene_model.specs.Output.{picture_header, picture_text, pictures_text}
use Rattle.scene_model.proofs.FaultLaws.{plan_count}
use Rattle.spelling_model.specs.Readable.{IsReadable}
use Rattle.picture_laws.specs.Whole.{IsFour, AreWhole}
use Rattle.picture_laws.proofs.Clears.{whole-law}
use Rattle.frame_capture.specs.Film.{Film, CanBeCaptured, color_bytes, text_head, text_length, texts}
use Rattle.frame_capture.specs.Film as films
use Rattle.frame_capture.specs.Capture.{IsCapture}
use Rattle.frame_capture.specs.Fault.{shown}
use Rattle.frame_capture.specs.Spelling.{color_of, film}
use Rattle.frame_capture.proofs.Frames.{texts-length, shown-again}
use Rattle.capture_running.specs.Filmed.{IsCaptureOf, all_texts_length, film_of, longest_texts, pixels_by}

-- ---- texts

color-text : (c : vertex.Color) → IsFour c → color_bytes (color_of (slice_index_or c 0 0) (slice_index_or c 1 0) (slice_index_or c 2 0)) ≡ take 3 c
color-text [] four = absurd (omega (arith, four))
color-text (r ∷ []) four = absurd (omega (arith, four))
color-text (r ∷ g ∷ []) four = absurd (omega (arith, four))
color-text (r ∷ g ∷ b ∷ rest) four = refl

colors-text : (cs : List vertex.Color) → AllByRecursion IsFour cs → flat_map color_bytes (map (λ c. color_of (slice_index_or c 0 0) (slice_index_or c 1 0) (slice_index_or c 2 0)) cs) ≡ flat_map (take 3) cs
colors-text [] four = refl
colors-text (c ∷ cs) four = ap₂ (λ (a b : List ℕ). a ++ b) (color-text c four.0) (colors-text cs four.1)

picture-same : (width height : ℕ) (t : Texels) → AreWhole width height t → films.picture_text width height (pixels_by color_of t) ≡ picture_text t
picture-same width height t whole =
    ap₂ (λ (a b : List ℕ). a ++ b) (ap₂ picture_header (sym whole.width_is) (sym whole.height_is)) (colors-text t.texels whole.four)

texts-same : (width height : ℕ) (ts : List Texels) → AllByRecursion (AreWhole width height) ts → texts (film width height (map (pixels_by color_of) ts)) ≡ flat_map picture_text ts
texts-same width height [] whole = refl
texts-same width height (t ∷ ts) whole = ap₂ (λ (a b : List ℕ). a ++ b) (picture-same width height t whole.0) (texts-same width height ts whole.1)

-- the texts of a scene's pictures
pub film-texts : (s : Scene) (j : Journal) → IsReadable s → texts (film_of s j) ≡ pictures_text s j
film-texts s j readable = texts-same s.width s.height (pictures s j) (whole-law s j readable)

-- ---- counts

pixels-whole : (width height : ℕ) (ts : List Texels) → AllByRecursion (AreWhole width height) ts → AllByRecursion (λ p. length p ≡ width * height) (map (pixels_by color_of) ts)
pixels-whole width height [] whole = tt
pixels-whole width height (t ∷ ts) whole = (length-map t.texels _ ∙ whole.0.many, pixels-whole width height ts whole.1)

few-pictures : (w : World) (ps : List FramePlan) (j : Journal) → length (pictures_from w ps j) ≤ length ps
few-pictures w [] j = omega arith
few-pictures w (p ∷ ps) [] = omega arith
few-pictures w (p ∷ ps) (entries ∷ rest) = omega (arith, few-pictures (frame_step w (frame_content p entries)) ps rest)

all-pictures : (w : World) (ps : List FramePlan) (j : Journal) → length j ≡ length ps → length (pictures_from w ps j) ≡ length ps
all-pictures w [] j same = refl
all-pictures w (p ∷ ps) [] same = absurd (omega (arith, same))
all-pictures w (p ∷ ps) (entries ∷ rest) same = ap suc (all-pictures (frame_step w (frame_content p entries)) ps rest (omega (arith, same)))

-- how many pictures a scene has by a lawful journal
picture-count : (s : Scene) (j : Journal) → IsLawful s j → length (pictures s j) ≡ length s.frames
picture-count s j lawful = all-pictures (first_world s.width s.height) (plans s) j (lawful.1 ∙ sym (plan_count s)) ∙ plan_count s

-- as long as the number of pictures says
by-count : (s : Scene) (j : Journal) → IsReadable s → length (pictures_text s j) ≡ length (pictures s j) * text_length s.width s.height
by-count s j readable =
    let whole = pixels-whole s.width s.height (pictures s j) (whole-law s j readable) in
    ap length (sym (film-texts s j readable)) ∙ texts-length (text_head s.width s.height) (s.width * s.height) (map (pixels_by color_of) (pictures s j)) whole
    ∙ ap (λ (n : ℕ). n * text_length s.width s.height) (length-map (pictures s j) (pixels_by color_of))

pub text-long : (s : Scene) (j : Journal) → IsReadable s → IsLawful s j → length (pictures_text s j) ≡ all_texts_length s
text-long s j readable lawful = by-count s j readable ∙ ap (λ (n : ℕ). n * text_length s.width s.height) (picture-count s j lawful)

pub text-fits : (s : Scene) (j : Journal) → IsReadable s → length (pictures_text s j) ≤ all_texts_length s
text-fits s j readable = let few : length (pictures s j) ≤ length s.frames = omega (arith, few-pictures (first_world s.width s.height) (plans s) j, plan_count s) in rw (by-count s j readable) (mul-le-mul_right (text_length s.width s.height) few)

-- ---- captures

pub film-can : (s : Scene) (j : Journal) → IsReadable s → IsLawful s j → all_texts_length s ≤ longest_texts → CanBeCaptured (film_of s j)
film-can s j readable lawful small =
    let count : length (map (pixels_by color_of) (pictures s j)) ≡ length s.frames = length-map (pictures s j) (pixels_by color_of) ∙ picture-count s j lawful in
    record {
      sides = ((readable.sides.wide, readable.sides.narrow), (readable.sides.high, readable.sides.low));
      count = (omega (arith, count, readable.frame_count.0), omega (arith, count, readable.frame_count.1));
      whole = pixels-whole s.width s.height (pictures s j) (whole-law s j readable);
      short = omega (arith, ap length (film-texts s j readable), text-long s j readable lawful, small);
    }

pub capture-of : (s : Scene) (j : Journal) (bytes : List ℕ) → IsReadable s → IsCapture bytes (film_of s j) → IsCaptureOf s j bytes
capture-of s j bytes readable is = record { is = is; shows = shown-again bytes (film_of s j) is ∙ ap Ok (film-texts s j readable) }

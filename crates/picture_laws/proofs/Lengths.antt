-- The texts of a scene's pictures are of one length in all.
use Rattle.std.proofs.Common.{◌≡◌, ◌∙◌, ℕ, suc, ◌+◌, ◌*◌, List, [], ◌∷◌, length, refl, sym, ap, arith}
use Rattle.std.specs.Prelude.{take, flat_map}
use Rattle.std.specs.List.{AllByRecursion}
use Rattle.std.proofs.lemmas.List.{length-append}
use Rattle.gfx_model.specs.Vertex.{Color}
use Rattle.gfx_model.specs.Raster.{Texels}
use Rattle.gfx_model.specs.World.{World, frame_step, first_world}
use Rattle.scene_model.specs.Fold.{FramePlan, plans}
use Rattle.scene_model.specs.Journal.{Journal, frame_content, pictures, pictures_from}
use Rattle.scene_model.specs.Output.{picture_header, picture_text}
use Rattle.picture_laws.specs.Whole.{IsFour, AreWhole, LengthLaw}
use Rattle.picture_laws.proofs.Clears.{whole-law}

-- ---- texts

three-of-four : (c : Color) → IsFour c → length (take 3 c) ≡ 3
three-of-four [] four = absurd (omega (arith, four))
three-of-four (r ∷ []) four = absurd (omega (arith, four))
three-of-four (r ∷ g ∷ []) four = absurd (omega (arith, four))
three-of-four (r ∷ g ∷ b ∷ rest) four = refl

three-each : (cs : List Color) → AllByRecursion IsFour cs → length (flat_map (take 3) cs) ≡ 3 * length cs
three-each [] four = refl
three-each (c ∷ cs) four =
    let first = three-of-four c four.0 in
    let rest = three-each cs four.1 in
    omega (arith, length-append (take 3 c) (flat_map (take 3) cs), first, rest)

-- how many bytes the text of a picture with these sides has
abbrev text_length : (width height : ℕ) → ℕ
text_length width height = length (picture_header width height) + 3 * (width * height)

one-length : (width height : ℕ) (t : Texels) → AreWhole width height t → length (picture_text t) ≡ text_length width height
one-length width height t whole =
    let header : length (picture_header t.width t.height) ≡ length (picture_header width height) = ap (λ w. length (picture_header w t.height)) whole.width_is ∙ ap (λ h. length (picture_header width h)) whole.height_is in
    let pixels : length (flat_map (take 3) t.texels) ≡ 3 * (width * height) = three-each t.texels whole.four ∙ ap (λ n. 3 * n) whole.many in
    omega (arith, length-append (picture_header t.width t.height) (flat_map (take 3) t.texels), header, pixels)

all-lengths : (width height : ℕ) (ts us : List Texels) → length ts ≡ length us → AllByRecursion (AreWhole width height) ts → AllByRecursion (AreWhole width height) us
    → length (flat_map picture_text ts) ≡ length (flat_map picture_text us)
all-lengths width height [] [] same ours theirs = refl
all-lengths width height [] (u ∷ us) same ours theirs = absurd (omega (arith, same))
all-lengths width height (t ∷ ts) [] same ours theirs = absurd (omega (arith, same))
all-lengths width height (t ∷ ts) (u ∷ us) same ours theirs =
    let rest = all-lengths width height ts us (omega (arith, same)) ours.1 theirs.1 in
    omega (arith, length-append (picture_text t) (flat_map picture_text ts), length-append (picture_text u) (flat_map picture_text us), one-length width height t ours.0, one-length width height u theirs.0, rest)

-- ---- pictures

same-count : (w v : World) (ps : List FramePlan) (j k : Journal) → length j ≡ length k → length (pictures_from w ps j) ≡ length (pictures_from v ps k)
same-count w v [] j k same = refl
same-count w v (p ∷ ps) [] [] same = refl
same-count w v (p ∷ ps) [] (own ∷ k) same = absurd (omega (arith, same))
same-count w v (p ∷ ps) (entries ∷ j) [] same = absurd (omega (arith, same))
same-count w v (p ∷ ps) (entries ∷ j) (own ∷ k) same = ap suc (same-count (frame_step w (frame_content p entries)) (frame_step v (frame_content p own)) ps j k (omega (arith, same)))

pub length-law : LengthLaw
length-law s j k readable lawful other =
    let start = first_world s.width s.height in
    all-lengths s.width s.height (pictures s j) (pictures s k) (same-count start start (plans s) j k (lawful.1 ∙ sym other.1)) (whole-law s j readable) (whole-law s k readable)

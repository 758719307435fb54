-- The numbers of a frame that a link was given are those of the scene's frame.
use Rattle.std.proofs.Common.{◌≡◌, ◌∙◌, ℕ, zero, suc, ◌<◌, Bool, List, length, get_or, Option, Some, None, sym, ap, subst, arith}
use Rattle.std.specs.Prelude.{◌*◌, ◌/◌, ◌%◌}
use Rattle.std.proofs.Math.Logic.{∥∥₁_elim}
use Rattle.std.specs.Coded.{Coded-set, coded_ℕ, coded_list}
use Rattle.std.proofs.lemmas.List.FromFn.{fill_by_all}
use Rattle.std.proofs.lemmas.Nat.{div-add-mod', div_below, mod_below}
use Rattle.std.proofs.Math.Nat.{mul_comm}
use Rattle.gfx_model.specs.World.{Surface}
use Rattle.scene_model.specs.Scene.{Scene}
use Rattle.scene_model.specs.Journal.{Journal, frame_content, serial}
use Rattle.spelling_model.specs.Readable.{IsReadable}
use Rattle.scene_laws.specs.Readables.{ColorsLaw}
use Rattle.scene_traces.specs.Traced.{SceneTracedLaw, GatheredDoersLaw}
use Rattle.frame_record.specs.declared.frame.Frame.{Frame}
use Rattle.render_core.specs.Seen.{frame_seen}
use Rattle.scene_playing.specs.Frames.{AreEnded}
use Rattle.scene_playing.specs.Order.{Follows}
use Rattle.frame_blame.specs.Blame.{AreNumbers, blame_in, numbers_text, pixel_blame}
use Rattle.frame_blame.specs.Laws.{BlameLaw}
use Rattle.scene_tracing.specs.Asked.{journal_asked}
use Rattle.scene_tracing.specs.Blame.{by_rows, blame_at, scene_blame_text}
use Rattle.scene_tracing.specs.Blaming.{HasBlamed, IsBlamedIn}
use Rattle.scene_tracing.specs.Tracing.{stores_behind}
use Rattle.scene_tracing.specs.declared.asked.AskedFrame.{AskedFrame}
use Rattle.scene_tracing.specs.declared.blamed.Blamed.{Blamed}
use Rattle.scene_tracing.proofs.GivenFrames.{IsFrameOf, of-scene, asked-front}

-- ---- row by row

some-column : (width height i : ℕ) → i < width * height → 0 < width
some-column zero height i lt = absurd (omega (arith, lt))
some-column (suc width) height i lt = omega arith

-- numbers of the pixels of a picture stand row by row
numbers-are : (width height : ℕ) (number : (x y : ℕ) → ℕ) (numbers : List ℕ) → AreNumbers width height number numbers → numbers ≡ by_rows width height number
numbers-are width height number numbers is = fill_by_all (λ i. number (i % width) (i / width)) numbers (width * height) 0 is.many at
  where
    at : (i : ℕ) → i < width * height → get_or numbers i 0 ≡ number (i % width) (i / width)
    at i lt =
        let some : 0 < width = some-column width height i lt in
        ap (λ k. get_or numbers k 0) (sym (div-add-mod' i width))
        ∙ is.each (i % width) (i / width) (mod_below i width some) (div_below i width height some (subst (λ n. i < n) (mul_comm width height) lt))

-- ---- a frame of a scene

-- the text of numbers that were found
abbrev pub text_of : Blamed → List ℕ
text_of b = numbers_text b.width b.height b.numbers.items

blamed-by : BlameLaw → (s : Scene) (j : Journal) (width height : ℕ) (b : Blamed) (front : List Frame) (f : Frame) → IsFrameOf s j width height front f → IsBlamedIn (stores_behind width height front) f b
    → text_of b ≡ scene_blame_text s j (length front)
blamed-by law s j width height b front f of is =
    let h = stores_behind width height front in
    let sides : Surface → List ℕ → List ℕ = λ back numbers. numbers_text back.color.width back.color.height numbers in
    let same : blame_in h (frame_seen f) ≡ pixel_blame of.world (frame_content of.plan of.entries) = λ i x y. law h of.world (frame_seen f) (frame_content of.plan of.entries) of.traced x y i in
    (λ i. numbers_text (is.0 i) (is.1 i) b.numbers.items)
    ∙ ap (sides h.back) (numbers-are h.back.color.width h.back.color.height (blame_in h (frame_seen f)) b.numbers.items is.2)
    ∙ ap (λ (back : Surface). sides back (by_rows back.color.width back.color.height (blame_in h (frame_seen f)))) of.traced.back
    ∙ ap (λ (number : ℕ → ℕ → ℕ). sides of.world.back (by_rows of.world.back.color.width of.world.back.color.height number)) same
    ∙ ap blame_at (sym of.begins)

-- what was asked for of a play
pub blame-asked : SceneTracedLaw → GatheredDoersLaw → ColorsLaw → BlameLaw → (s : Scene) (o : Option Journal) (j : Journal) (given : List Frame) (notes : List (ℕ × ℕ)) (is_whole : Bool) (a asked : AskedFrame) (b : Blamed)
    → IsReadable s → AreEnded s given j notes is_whole → Follows o j → (o ≡ None → Follows (Some (serial s)) j) → a ≡ asked → asked.width ≡ s.width → asked.height ≡ s.height
    → ∥ HasBlamed a given b ∥₁ → text_of b ≡ scene_blame_text s (journal_asked s o) asked.frame
blame-asked traced_law doers_law colors_law law s o j given notes is_whole a asked b readable ended follows alone is wide high h =
    ∥∥₁_elim h (Coded-set (coded_list coded_ℕ) (text_of b) (scene_blame_text s (journal_asked s o) asked.frame))
    (λ e.
    of-scene traced_law doers_law s (journal_asked s o) j given notes is_whole (colors_law s readable) ended (asked-front s o j follows alone) asked.width asked.height wide high
    (λ st g. IsBlamedIn st g b) (λ k. text_of b ≡ scene_blame_text s (journal_asked s o) k) asked.frame (subst (λ (x : AskedFrame). HasBlamed x given b) is e)
    (λ front f of done. blamed-by law s (journal_asked s o) asked.width asked.height b front f of done))

-- The pictures of a scene's frames, and their texts.
use Rattle.std.proofs.Common.{◌≡◌, ℕ, ◌<◌, ◌≤◌, List, [], ◌∷◌, ◌++◌, map, length, take, drop, Option, refl, sym, ap, ◌∙◌, arith}
use Rattle.std.specs.Prelude.{min}
use Rattle.std.specs.List.{flat_map}
use Rattle.std.proofs.lemmas.List.{take-append-drop, take-append-le, take_min}
use Rattle.std.proofs.lemmas.Grind.{flat_map-append}
use Rattle.io_edge.specs.Edge.{with_back, counted}
use Rattle.gfx_model.specs.Raster.{Texels}
use Rattle.gfx_model.specs.World.{first_world}
use Rattle.scene_model.specs.Scene.{Scene}
use Rattle.scene_model.specs.Journal.{Journal, pictures}
use Rattle.scene_model.specs.Output.{picture_text}
use Rattle.spelling_model.specs.Readable.{IsReadable}
use Rattle.store_laws.specs.ByIndex.{Stores, first_stores}
use Rattle.store_laws.specs.Run.{pictures_by_index}
use Rattle.scene_laws.specs.Laws.{ScenePicturesLaw}
use Rattle.scene_laws.specs.Readables.{ColorsLaw}
use Rattle.scene_laws.specs.SceneFrames.{scene_frames}
use Rattle.scene_progress.specs.Laws.{PicturesFrontLaw, PictureCountLaw, LawfulCountLaw, PlanCountLaw}
use Rattle.frame_record.specs.declared.frame.Frame.{Frame}
use Rattle.frame_record.specs.declared.frame.RenderedFrame.{RenderedFrame}
use Rattle.frame_record.specs.Links.{frames_of}
use Rattle.render_core.specs.Ended.{TextsLaw, KeptLaw, pictures_seen, counted_with}
use Rattle.render_core.specs.Laws.{frames_seen}
use Rattle.io_whole.specs.Whole.{HasFront}
use Rattle.render_core.specs.Seen.{frame_seen}

-- the laws that are used
pub record Laws : Type 0 where
  pub texts : TextsLaw
  pub kept : KeptLaw
  pub scene_pictures : ScenePicturesLaw
  pub colors : ColorsLaw
  pub pictures_front : PicturesFrontLaw
  pub picture_count : PictureCountLaw
  pub lawful_count : LawfulCountLaw
  pub plan_count : PlanCountLaw

seen_of : (rs : List RenderedFrame) → frames_seen rs ≡ map frame_seen (frames_of rs)
seen_of [] = refl
seen_of (r ∷ rs) = ap (λ fs. frame_seen r.frame ∷ fs) (seen_of rs)

-- the pictures of the first frames of a scene are its first pictures
pub pictures_are : Laws → (s : Scene) (journal : Journal) (given : List Frame) (back : List RenderedFrame) (first : Stores) → IsReadable s
    → map frame_seen given ≡ scene_frames s (take (length given) journal) → given ≡ frames_of back → first ≡ first_stores (first_world s.width s.height).back
    → pictures_seen first back ≡ take (length given) (pictures s journal)
pictures_are laws s journal given back first readable seen all_back is =
    let frames : frames_seen back ≡ scene_frames s (take (length given) journal) = seen_of back ∙ ap (map frame_seen) (sym all_back) ∙ seen in
    (λ i. pictures_by_index (is i) (frames i))
    ∙ laws.scene_pictures s (take (length given) journal) (laws.colors s readable)
    ∙ laws.pictures_front s (length given) journal

-- a picture's text is not empty
text_counted : (told : Option (ℕ × ℕ)) (p : Texels) (ps : List Texels) → counted_with told (flat_map picture_text (p ∷ ps)) ≡ counted told (flat_map picture_text (p ∷ ps))
text_counted told p ps = refl

-- the texts of some pictures are counted
pub texts_counted : (told : Option (ℕ × ℕ)) (ps : List Texels) → 0 < length ps → counted_with told (flat_map picture_text ps) ≡ counted told (flat_map picture_text ps)
texts_counted told [] some = absurd (omega (arith, some))
texts_counted told (p ∷ ps) some = text_counted told p ps

-- a front of the texts of the first pictures is a front of all
pub front_of_all : (old new : Option (List ℕ)) (ps : List Texels) (k : ℕ) → HasFront old (flat_map picture_text (take k ps)) new → HasFront old (flat_map picture_text ps) new
front_of_all old new ps k front =
    let first = flat_map picture_text (take k ps) in
    let rest = flat_map picture_text (drop k ps) in
    let all : first ++ rest ≡ flat_map picture_text ps = sym (flat_map-append picture_text (take k ps) (drop k ps)) ∙ ap (flat_map picture_text) (take-append-drop k ps) in
    let short : min front.0 (length first) ≤ length first = omega arith in
    let same : take front.0 first ≡ take (min front.0 (length first)) (flat_map picture_text ps) =
    sym (take_min front.0 first) ∙ sym (take-append-le (min front.0 (length first)) first rest short) ∙ ap (take (min front.0 (length first))) all in
    (min front.0 (length first), front.1 ∙ ap (with_back old) same)

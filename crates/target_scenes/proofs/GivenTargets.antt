-- What was found of a frame that a link was given is that of the scene's frame.
use Rattle.std.proofs.Common.{◌≡◌, ◌∙◌, ℕ, zero, suc, ◌+◌, Bool, true, List, [], ◌∷◌, ◌++◌, map, fold, take, drop, length, slice_get, Option, Some, None, IfSome, refl, sym, ap, subst, arith, length-append}
use Rattle.std.proofs.Math.Logic.{∥∥₁_map}
use Rattle.std.proofs.lemmas.List.{take-take}
use Rattle.gfx_model.specs.Frames.{Entry}
use Rattle.gfx_model.specs.Views.{Views}
use Rattle.gfx_model.specs.World.{World, Surface, first_world, surface_of}
use Rattle.store_laws.specs.ByIndex.{Stores, FrameData, first_stores, frame_by_index}
use Rattle.scene_model.specs.Scene.{Scene, SceneFrame}
use Rattle.scene_model.specs.Fold.{FramePlan, Progress, after_lines, at_start, first_progress, plans}
use Rattle.scene_model.specs.Journal.{Journal, frame_content, serial}
use Rattle.spelling_model.specs.Readable.{IsReadable}
use Rattle.scene_laws.specs.Readables.{ColorsLaw}
use Rattle.scene_laws.specs.SceneFrames.{HasColors, frame_data, frames_from, scene_frames}
use Rattle.trace_laws.specs.ByIndex.{begun_in}
use Rattle.trace_laws.specs.Deeds.{begun}
use Rattle.trace_laws.specs.Doers.{Doer, doers, doers_in}
use Rattle.trace_lines.specs.Seen.{doer_seen}
use Rattle.scene_traces.specs.Traced.{stores_before, GatheredDoersLaw}
use Rattle.frame_record.specs.declared.frame.Frame.{Frame}
use Rattle.render_core.specs.Seen.{frame_seen, journal_of, recordings_of}
use Rattle.scene_playing.specs.Frames.{AreEnded}
use Rattle.scene_playing.specs.Given.{HavePlans}
use Rattle.scene_playing.specs.Order.{Follows}
use Rattle.scene_tracing.specs.Asked.{journal_asked}
use Rattle.scene_tracing.specs.Tracing.{stores_behind}
use Rattle.scene_tracing.proofs.Frames.{HasAt, cut-at}
use Rattle.scene_tracing.proofs.Scenes.{has-at, has-moment, moment_of, seen-at, seen-before}
use Rattle.scene_tracing.proofs.GivenFrames.{asked-front}
use Rattle.target_laws.specs.Laws.{IsTargetTraced, SceneTargetLaw}
use Rattle.target_laws.specs.Targets.{has_pixel, pixel_on}
use Rattle.target_tracing.specs.Tracing.{IsTargetHistory}
use Rattle.target_tracing.specs.declared.made.TargetHistory.{TargetHistory}
use Rattle.target_tracing.specs.declared.tracing.TargetSpot.{TargetSpot}
use Rattle.target_scenes.specs.Finding.{IsFoundIn, HasFound}
use Rattle.target_scenes.specs.Scenes.{IsHistoryFrom, IsSceneHistory}
use Rattle.target_scenes.specs.declared.asked.AskedTarget.{AskedTarget}
use Rattle.target_scenes.specs.declared.found.Found.{Found}

abbrev no-frames : List FrameData
no-frames = []

take-none : (n : ℕ) → take n no-frames ≡ no-frames
take-none zero = refl
take-none (suc n) = refl

-- the frames by the front of a journal are the first of the frames
frames-first : (s : Scene) (k : ℕ) (p : Progress) (fs : List SceneFrame) (m : ℕ) (j : Journal) → frames_from s k p fs (take m j) ≡ take m (frames_from s k p fs j)
frames-first s k p [] m j = sym (take-none m)
frames-first s k p (f ∷ fs) zero [] = refl
frames-first s k p (f ∷ fs) (suc m) [] = refl
frames-first s k p (f ∷ fs) zero (entries ∷ j) = refl
frames-first s k p (f ∷ fs) (suc m) (entries ∷ j) =
    let first : Progress = at_start k p in
    ap (λ (ds : List FrameData). frame_data s k first f entries ∷ ds) (frames-first s (k + 1) (after_lines s.names (after_lines s.names first f.before) f.beside) fs m j)

-- what stands at a place of a front stands there
taken-at : {A : Type 0} (m : ℕ) (xs : List A) (k : ℕ) (x : A) → slice_get (take m xs) k ≡ Some x → slice_get xs k ≡ Some x
taken-at zero [] k x at = at
taken-at zero (y ∷ ys) k x at = absurd (cc at)
taken-at (suc m) [] k x at = at
taken-at (suc m) (y ∷ ys) zero x at = at
taken-at (suc m) (y ∷ ys) (suc k) x at = taken-at m ys k x at

-- from the stores on which a frame is traced
history-from : (h : Stores) (w : World) (p : FramePlan) (entries : List Entry) (f : FrameData) (fr : Frame) (spot : TargetSpot) (o : Option TargetHistory) → IsTargetTraced h w f (frame_content p entries) spot.target
    → doers_in fr.views (recordings_of fr) (journal_of fr) ≡ doers p entries → IsTargetHistory spot.target spot.x spot.y (begun_in h f) f o → IfSome o (λ it. map doer_seen it.doers.items ≡ doers_in fr.views (recordings_of fr) (journal_of fr))
    → IsHistoryFrom w p entries spot o
history-from h w p entries f fr spot None is own none whose = ap (λ (u : Option Surface). has_pixel u spot.x spot.y) (sym is.surface) ∙ none
history-from h w p entries f fr spot (Some it) is own found whose = (
  ap (λ (u : Option Surface). has_pixel u spot.x spot.y) (sym is.surface) ∙ found.0,
  found.1 ∙ ap (λ (u : Option Surface). pixel_on u spot.x spot.y) is.surface,
  found.2 ∙ is.history spot.x spot.y,
  whose ∙ own,
)

module _ (law : SceneTargetLaw) (doers_law : GatheredDoersLaw) (s : Scene) (wanted j : Journal) (given : List Frame) (notes : List (ℕ × ℕ)) (is_whole : Bool)
    (colors : HasColors s) (ended : AreEnded s given j notes is_whole) (front_is : j ≡ take (length j) wanted) (width height : ℕ) (wide : width ≡ s.width) (high : height ≡ s.height) where
  -- the frames that were given are the first of the scene's by the journal that was asked for
  given-first : map frame_seen given ≡ take (length given) (take (length j) (scene_frames s wanted))
  given-first =
      ended.seen ∙ frames-first s 0 (first_progress s) s.frames (length given) j
      ∙ ap (λ (i : Journal). take (length given) (scene_frames s i)) front_is
      ∙ ap (take (length given)) (frames-first s 0 (first_progress s) s.frames (length j) wanted)

  found-at : (spot : TargetSpot) (b : Found) (front : List Frame) (f : Frame) (rest : List Frame) → given ≡ front ++ f ∷ rest → IsFoundIn spot (stores_behind width height front) f b → IsSceneHistory s wanted (length front) spot b.history
  found-at spot b front f rest are found =
      let k : ℕ = length front in
      let fs : List FrameData = take (length given) (take (length j) (scene_frames s wanted)) in
      let many = ap length are ∙ length-append front (f ∷ rest) in
      let few = ended.few.0 in
      let seen : map frame_seen (front ++ f ∷ rest) ≡ fs = ap (λ (gs : List Frame). map frame_seen gs) (sym are) ∙ given-first in
      let at = has-at (plans s) j front f rest (subst (λ (gs : List Frame). HavePlans (plans s) j gs) are ended.gathered) in
      let ordered : slice_get wanted k ≡ Some at.entries = taken-at (length j) wanted k at.entries (ap (λ (i : Journal). slice_get i k) (sym front_is) ∙ at.ordered) in
      let m = has-moment (first_world s.width s.height) (plans s) wanted k at.plan at.entries at.planned ordered in
      let here : slice_get (scene_frames s wanted) k ≡ Some (frame_seen f) =
      taken-at (length j) (scene_frames s wanted) k (frame_seen f) (taken-at (length given) (take (length j) (scene_frames s wanted)) k (frame_seen f) (seen-at front f rest fs seen)) in
      let before : take k (scene_frames s wanted) ≡ map frame_seen front =
      sym (take-take k (length j) (scene_frames s wanted) (omega (arith, many, few))) ∙ sym (take-take k (length given) (take (length j) (scene_frames s wanted)) (omega (arith, many))) ∙ seen-before front f rest fs seen in
      let stores : stores_before s wanted k ≡ stores_behind width height front =
      ap (fold frame_by_index (first_stores (first_world s.width s.height).back)) before ∙ (λ i. fold frame_by_index (first_stores (first_world (sym wide i) (sym high i)).back) (map frame_seen front)) in
      let own : doers_in f.views (recordings_of f) (journal_of f) ≡ doers at.plan at.entries =
      ap (λ (v : Views). doers_in v (recordings_of f) (journal_of f)) at.has.views ∙ ap (doers_in at.plan.views (recordings_of f)) at.has.journal
      ∙ doers_law at.plan (recordings_of f) at.entries at.has.gathered in
      record {
        world = m.world;
        plan = at.plan;
        entries = at.entries;
        planned = at.planned;
        ordered = ordered;
        begins = m.begins;
        told = λ on.
            history-from (stores_behind width height front) m.world at.plan at.entries (frame_seen f) f spot b.history
            (subst (λ (h : Stores). IsTargetTraced h m.world (frame_seen f) (frame_content at.plan at.entries) spot.target) stores
            (law s wanted colors k (frame_seen f) (moment_of m.world at.plan at.entries) spot.target here m.begins on)) own found.0 found.1;
      }

  pub found-in : (spot : TargetSpot) (b : Found) (k : ℕ) → HasAt (λ st g. IsFoundIn spot st g b) width height k given → IsSceneHistory s wanted k spot b.history
  found-in spot b k h =
      let n = cut-at given k h.0 in
      subst (λ (i : ℕ). IsSceneHistory s wanted i spot b.history) n.many (found-at spot b (take k given) n.frame (drop (suc k) given) n.are (h.1 n.frame n.at))

-- what was asked for of a play
pub target-asked : SceneTargetLaw → GatheredDoersLaw → ColorsLaw → (s : Scene) (o : Option Journal) (j : Journal) (given : List Frame) (notes : List (ℕ × ℕ)) (is_whole : Bool) (a asked : AskedTarget) (b : Found)
    → IsReadable s → AreEnded s given j notes is_whole → Follows o j → (o ≡ None → Follows (Some (serial s)) j) → a ≡ asked → asked.width ≡ s.width → asked.height ≡ s.height
    → ∥ HasFound a given b ∥₁ → ∥ IsSceneHistory s (journal_asked s o) asked.frame asked.spot b.history ∥₁
target-asked law doers_law colors_law s o j given notes is_whole a asked b readable ended follows alone is wide high h =
    ∥∥₁_map h (λ e.
    found-in law doers_law s (journal_asked s o) j given notes is_whole (colors_law s readable) ended (asked-front s o j follows alone) asked.width asked.height wide high asked.spot b asked.frame
    (subst (λ (x : AskedTarget). HasFound x given b) is e))

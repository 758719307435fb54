-- A frame that a link was given is that of the scene, whatever of the scene was given behind it.
use Rattle.std.proofs.Common.{◌≡◌, ◌∙◌, ℕ, zero, suc, ◌+◌, Bool, List, [], ◌∷◌, ◌++◌, map, fold, take, drop, length, slice_get, Option, Some, None, refl, sym, ap, subst, arith, length-append}
use Rattle.std.proofs.lemmas.List.{take-take}
use Rattle.gfx_model.specs.World.{World, first_world}
use Rattle.gfx_model.specs.Frames.{Entry}
use Rattle.gfx_model.specs.Views.{Views}
use Rattle.store_laws.specs.ByIndex.{Stores, FrameData, first_stores, frame_by_index}
use Rattle.scene_model.specs.Scene.{Scene, SceneFrame}
use Rattle.scene_model.specs.Fold.{FramePlan, Progress, after_lines, at_start, plans, first_progress}
use Rattle.scene_model.specs.Journal.{Journal, frame_content, serial}
use Rattle.scene_laws.specs.SceneFrames.{HasColors, frame_data, frames_from, scene_frames}
use Rattle.trace_laws.specs.Doers.{doers_in}
use Rattle.trace_laws.specs.ByIndex.{IsTraced}
use Rattle.trace_laws.specs.Moments.{moments}
use Rattle.scene_traces.specs.Traced.{stores_before, SceneTracedLaw, GatheredDoersLaw}
use Rattle.frame_record.specs.declared.frame.Frame.{Frame}
use Rattle.render_core.specs.Seen.{frame_seen, journal_of, recordings_of}
use Rattle.scene_playing.specs.Frames.{AreEnded}
use Rattle.scene_playing.specs.Given.{HavePlans}
use Rattle.scene_playing.specs.Order.{Follows}
use Rattle.scene_tracing.specs.Asked.{journal_asked}
use Rattle.scene_tracing.specs.Steps.{doers_at, scene_doers}
use Rattle.scene_tracing.specs.Tracing.{stores_behind}
use Rattle.scene_tracing.proofs.Frames.{HasAt, cut-at}
use Rattle.scene_tracing.proofs.Scenes.{has-at, has-moment, moment_of, seen-at, seen-before}

-- ---- the first frames

abbrev no-frames : List FrameData
no-frames = []

take-none : (n : ℕ) → take n no-frames ≡ no-frames
take-none zero = refl
take-none (suc n) = refl

-- the frames by the front of a journal are the first of the frames
frames-first : (s : Scene) (k : ℕ) (p : Progress) (fs : List SceneFrame) (m : ℕ) (j : Journal) → frames_from s k p fs (take m j) ≡ take m (frames_from s k p fs j)
frames-first s k p [] m j = sym (take-none m)
frames-first s k p (f ∷ fs) zero [] = refl
frames-first s k p (f ∷ fs) (suc m) [] = refl
frames-first s k p (f ∷ fs) zero (entries ∷ j) = refl
frames-first s k p (f ∷ fs) (suc m) (entries ∷ j) =
    let first : Progress = at_start k p in
    ap (λ (ds : List FrameData). frame_data s k first f entries ∷ ds) (frames-first s (k + 1) (after_lines s.names (after_lines s.names first f.before) f.beside) fs m j)

-- what stands at a place of a front stands there
taken-at : {A : Type 0} (m : ℕ) (xs : List A) (k : ℕ) (x : A) → slice_get (take m xs) k ≡ Some x → slice_get xs k ≡ Some x
taken-at zero [] k x at = at
taken-at zero (y ∷ ys) k x at = absurd (cc at)
taken-at (suc m) [] k x at = at
taken-at (suc m) (y ∷ ys) zero x at = at
taken-at (suc m) (y ∷ ys) (suc k) x at = taken-at m ys k x at

-- ---- a frame that was given

-- a frame behind others, rendered one after another on empty stores with a back buffer of these sides, is that of a scene by a journal
pub record IsFrameOf (s : Scene) (j : Journal) (width height : ℕ) (front : List Frame) (f : Frame) : Type 0 where
  pub world : World
  pub plan : FramePlan
  pub entries : List Entry
  pub begins : slice_get (moments s j) (length front) ≡ Some (moment_of world plan entries)
  pub traced : IsTraced (stores_behind width height front) world (frame_seen f) (frame_content plan entries)
  pub doers : doers_in f.views (recordings_of f) (journal_of f) ≡ scene_doers s j (length front)

module _ (traced_law : SceneTracedLaw) (doers_law : GatheredDoersLaw) (s : Scene) (wanted j : Journal) (given : List Frame) (notes : List (ℕ × ℕ)) (is_whole : Bool)
    (colors : HasColors s) (ended : AreEnded s given j notes is_whole) (front_is : j ≡ take (length j) wanted) (width height : ℕ) (wide : width ≡ s.width) (high : height ≡ s.height) where
  -- the frames that were given are the first of the scene's by the journal that was asked for
  given-first : map frame_seen given ≡ take (length given) (take (length j) (scene_frames s wanted))
  given-first =
      ended.seen ∙ frames-first s 0 (first_progress s) s.frames (length given) j
      ∙ ap (λ (i : Journal). take (length given) (scene_frames s i)) front_is
      ∙ ap (take (length given)) (frames-first s 0 (first_progress s) s.frames (length j) wanted)

  frame-of : (front : List Frame) (f : Frame) (rest : List Frame) → given ≡ front ++ f ∷ rest → IsFrameOf s wanted width height front f
  frame-of front f rest are =
      let k : ℕ = length front in
      let fs : List FrameData = take (length given) (take (length j) (scene_frames s wanted)) in
      let many = ap length are ∙ length-append front (f ∷ rest) in
      let few = ended.few.0 in
      let seen : map frame_seen (front ++ f ∷ rest) ≡ fs = ap (λ (gs : List Frame). map frame_seen gs) (sym are) ∙ given-first in
      let at = has-at (plans s) j front f rest (subst (λ (gs : List Frame). HavePlans (plans s) j gs) are ended.gathered) in
      let ordered : slice_get wanted k ≡ Some at.entries = taken-at (length j) wanted k at.entries (ap (λ (i : Journal). slice_get i k) (sym front_is) ∙ at.ordered) in
      let m = has-moment (first_world s.width s.height) (plans s) wanted k at.plan at.entries at.planned ordered in
      let here : slice_get (scene_frames s wanted) k ≡ Some (frame_seen f) =
      taken-at (length j) (scene_frames s wanted) k (frame_seen f) (taken-at (length given) (take (length j) (scene_frames s wanted)) k (frame_seen f) (seen-at front f rest fs seen)) in
      let before : take k (scene_frames s wanted) ≡ map frame_seen front =
      sym (take-take k (length j) (scene_frames s wanted) (omega (arith, many, few))) ∙ sym (take-take k (length given) (take (length j) (scene_frames s wanted)) (omega (arith, many))) ∙ seen-before front f rest fs seen in
      let stores : stores_before s wanted k ≡ stores_behind width height front =
      ap (fold frame_by_index (first_stores (first_world s.width s.height).back)) before ∙ (λ i. fold frame_by_index (first_stores (first_world (sym wide i) (sym high i)).back) (map frame_seen front)) in
      record {
        world = m.world;
        plan = at.plan;
        entries = at.entries;
        begins = m.begins;
        traced =
            subst (λ (h : Stores). IsTraced h m.world (frame_seen f) (frame_content at.plan at.entries)) stores
            (traced_law s wanted colors k (frame_seen f) (moment_of m.world at.plan at.entries) here m.begins);
        doers =
            ap (λ (v : Views). doers_in v (recordings_of f) (journal_of f)) at.has.views ∙ ap (doers_in at.plan.views (recordings_of f)) at.has.journal
            ∙ doers_law at.plan (recordings_of f) at.entries at.has.gathered ∙ sym (λ i. doers_at (at.planned i) (ordered i));
      }

  -- what is said of a frame that was given, by its place
  pub of-scene : (Q : Stores → Frame → Type 0) (P : ℕ → Type 0) (k : ℕ) → HasAt Q width height k given
      → ((front : List Frame) (f : Frame) → IsFrameOf s wanted width height front f → Q (stores_behind width height front) f → P (length front)) → P k
  of-scene Q P k h told =
      let n = cut-at given k h.0 in
      subst P n.many (told (take k given) n.frame (frame-of (take k given) n.frame (drop (suc k) given) n.are) (h.1 n.frame n.at))

-- the journal of a play is a front of the one that was asked for
pub asked-front : (s : Scene) (o : Option Journal) (j : Journal) → Follows o j → (o ≡ None → Follows (Some (serial s)) j) → j ≡ take (length j) (journal_asked s o)
asked-front s None j follows alone = alone refl
asked-front s (Some read) j follows alone = follows

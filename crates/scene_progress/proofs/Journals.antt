-- Journals that grow frame by frame, their frames by index and their pictures.
use Rattle.std.proofs.Common.{◌≡◌, ℕ, zero, suc, ◌+◌, ◌≤◌, List, [], ◌∷◌, ◌++◌, map, length, take, Some, slice_get, refl, sym, ap, ◌∙◌, subst, arith}
use Rattle.gfx_model.specs.World.{World, frame_step, first_world}
use Rattle.scene_model.specs.Scene.{SceneFrame, Scene}
use Rattle.scene_model.specs.Fold.{Progress, at_start, FramePlan, plans, first_progress}
use Rattle.scene_model.specs.Journal.{Entry, Journal, IsLawfulFrame, AreLawful, frame_content, pictures_from}
use Rattle.scene_model.specs.Output.{report_from}
use Rattle.scene_laws.specs.SceneFrames.{frame_data, frames_from, scene_frames}
use Rattle.scene_progress.specs.Progress.{after_frame, progress_from, progress_before}
use Rattle.scene_progress.specs.Notes.{noted_of, note_line, note_lines}
use Rattle.scene_progress.specs.Laws.{NoFramesLaw, FramesMoreLaw, FrameCountLaw, NoneLawfulLaw, LawfulMoreLaw, LawfulCountLaw, FramesFrontLaw, PicturesFrontLaw, PictureCountLaw, ReportLaw, NotedMoreLaw}
use Rattle.scene_progress.proofs.Lists.{add_one, none_before, take_none, map_next}
use Rattle.scene_progress.proofs.Reached.{plan_count}

-- ---- frames by index

no_frames_from : (s : Scene) (n : ℕ) (p : Progress) (frames : List SceneFrame) → frames_from s n p frames [] ≡ []
no_frames_from s n p [] = refl
no_frames_from s n p (f ∷ rest) = refl

pub no_frames : NoFramesLaw
no_frames s = no_frames_from s 0 (first_progress s) s.frames

frames_more_from : (s : Scene) (n : ℕ) (p : Progress) (frames : List SceneFrame) (k : ℕ) (f : SceneFrame) (j : Journal) (e : List Entry) → slice_get frames k ≡ Some f → length j ≡ k
    → frames_from s n p frames (j ++ e ∷ []) ≡ frames_from s n p frames j ++ frame_data s (n + k) (at_start (n + k) (progress_from s.names n p (take k frames))) f e ∷ []
frames_more_from s n p [] k f j e is count = absurd cc
frames_more_from s n p (g ∷ rest) zero f [] e is count =
    let same : g ≡ f = cc is in
    let zeroth : n ≡ n + 0 = omega arith in
    ap (λ zs. frame_data s n (at_start n p) g e ∷ zs) (no_frames_from s (n + 1) (after_frame s.names n p g) rest)
    ∙ ap (λ m. frame_data s m (at_start m p) g e ∷ []) zeroth
    ∙ ap (λ h. frame_data s (n + 0) (at_start (n + 0) p) h e ∷ []) same
frames_more_from s n p (g ∷ rest) (suc k) f [] e is count = absurd (omega (arith, count))
frames_more_from s n p (g ∷ rest) zero f (x ∷ j) e is count = absurd (omega (arith, count))
frames_more_from s n p (g ∷ rest) (suc k) f (x ∷ j) e is count =
    let all : Progress = after_frame s.names n p g in
    let fewer : length j ≡ k = omega (arith, count) in
    let later : n + 1 + k ≡ n + suc k = omega arith in
    ap (λ zs. frame_data s n (at_start n p) g x ∷ zs)
    (frames_more_from s (n + 1) all rest k f j e is fewer
    ∙ ap (λ m. frames_from s (n + 1) all rest j ++ frame_data s m (at_start m (progress_from s.names (n + 1) all (take k rest))) f e ∷ []) later)

pub frames_more : FramesMoreLaw
frames_more s k f j e is count =
    frames_more_from s 0 (first_progress s) s.frames k f j e is count
    ∙ ap (λ m. scene_frames s j ++ frame_data s m (at_start m (progress_before s k)) f e ∷ []) (none_before k)

frame_count_from : (s : Scene) (n : ℕ) (p : Progress) (frames : List SceneFrame) (j : Journal) → length j ≤ length frames → length (frames_from s n p frames j) ≡ length j
frame_count_from s n p [] [] le = refl
frame_count_from s n p [] (x ∷ j) le = absurd (omega (arith, le))
frame_count_from s n p (f ∷ rest) [] le = refl
frame_count_from s n p (f ∷ rest) (x ∷ j) le = ap suc (frame_count_from s (n + 1) (after_frame s.names n p f) rest j (omega (arith, le)))

pub frame_count : FrameCountLaw
frame_count s j le = frame_count_from s 0 (first_progress s) s.frames j le

-- ---- lawful journals

none_lawful_of : (ps : List FramePlan) → AreLawful ps []
none_lawful_of [] = tt
none_lawful_of (p ∷ ps) = tt

pub none_lawful : NoneLawfulLaw
none_lawful s = none_lawful_of (plans s)

lawful_more_of : (ps : List FramePlan) (k : ℕ) (p : FramePlan) (j : Journal) (e : List Entry) → slice_get ps k ≡ Some p → length j ≡ k → AreLawful ps j → IsLawfulFrame p e → AreLawful ps (j ++ e ∷ [])
lawful_more_of [] k p j e is count a l = absurd cc
lawful_more_of (q ∷ ps) zero p [] e is count a l =
    let same : p ≡ q = cc is in
    (subst (λ (r : FramePlan). IsLawfulFrame r e) same l, none_lawful_of ps)
lawful_more_of (q ∷ ps) (suc k) p [] e is count a l = absurd (omega (arith, count))
lawful_more_of (q ∷ ps) zero p (x ∷ j) e is count a l = absurd (omega (arith, count))
lawful_more_of (q ∷ ps) (suc k) p (x ∷ j) e is count a l = (a.0, lawful_more_of ps k p j e is (omega (arith, count)) a.1 l)

pub lawful_more : LawfulMoreLaw
lawful_more s k p j e is count a l = lawful_more_of (plans s) k p j e is count a l

lawful_count_of : (ps : List FramePlan) (j : Journal) → AreLawful ps j → length j ≤ length ps
lawful_count_of ps [] a = omega arith
lawful_count_of [] (x ∷ j) a = absurd a
lawful_count_of (p ∷ ps) (x ∷ j) a = let le = lawful_count_of ps j a.1 in omega (arith, le)

pub lawful_count : LawfulCountLaw
lawful_count s j a =
    let le = lawful_count_of (plans s) j a in
    let same = plan_count s in
    omega (arith, le, same)

-- ---- the first frames of a journal

frames_front_from : (s : Scene) (n : ℕ) (p : Progress) (frames : List SceneFrame) (m : ℕ) (j : Journal) → frames_from s n p frames (take m j) ≡ take m (frames_from s n p frames j)
frames_front_from s n p [] m j = sym (take_none m)
frames_front_from s n p (f ∷ rest) zero j = refl
frames_front_from s n p (f ∷ rest) (suc m) [] = refl
frames_front_from s n p (f ∷ rest) (suc m) (x ∷ j) = ap (λ zs. frame_data s n (at_start n p) f x ∷ zs) (frames_front_from s (n + 1) (after_frame s.names n p f) rest m j)

pub frames_front : FramesFrontLaw
frames_front s m j = frames_front_from s 0 (first_progress s) s.frames m j

pictures_front_from : (w : World) (ps : List FramePlan) (m : ℕ) (j : Journal) → pictures_from w ps (take m j) ≡ take m (pictures_from w ps j)
pictures_front_from w [] m j = sym (take_none m)
pictures_front_from w (p ∷ ps) zero j = refl
pictures_front_from w (p ∷ ps) (suc m) [] = refl
pictures_front_from w (p ∷ ps) (suc m) (x ∷ j) =
    let next : World = frame_step w (frame_content p x) in
    ap (λ zs. next.back.color ∷ zs) (pictures_front_from next ps m j)

pub pictures_front : PicturesFrontLaw
pictures_front s m j = pictures_front_from (first_world s.width s.height) (plans s) m j

picture_count_from : (w : World) (ps : List FramePlan) (j : Journal) → length j ≤ length ps → length (pictures_from w ps j) ≡ length j
picture_count_from w [] [] le = refl
picture_count_from w [] (x ∷ j) le = absurd (omega (arith, le))
picture_count_from w (p ∷ ps) [] le = refl
picture_count_from w (p ∷ ps) (x ∷ j) le = ap suc (picture_count_from (frame_step w (frame_content p x)) ps j (omega (arith, le)))

pub picture_count : PictureCountLaw
picture_count s j le =
    let same = plan_count s in
    picture_count_from (first_world s.width s.height) (plans s) j (omega (arith, le, same))

-- ---- the report

report_of : (k : ℕ) (ps : List FramePlan) → note_lines k (map noted_of ps) ≡ report_from k ps
report_of k [] = refl
report_of k (p ∷ ps) = ap (λ text. note_line k (noted_of p) ++ text) (report_of (k + 1) ps)

pub report_is : ReportLaw
report_is s = report_of 0 (plans s)

pub noted_more : NotedMoreLaw
noted_more s k p e = ap (λ m. map noted_of (take m (plans s))) (add_one k) ∙ map_next noted_of (plans s) k p e

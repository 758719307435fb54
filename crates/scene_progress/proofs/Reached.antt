-- The state before each frame, and the plans.
use Rattle.std.proofs.Common.{◌≡◌, ℕ, zero, suc, ◌+◌, List, [], ◌∷◌, length, take, Some, slice_get, refl, ap, ◌∙◌, arith}
use Rattle.gfx_model.specs.Resources.{deaths_in}
use Rattle.scene_model.specs.Scene.{SceneFrame, Scene}
use Rattle.scene_model.specs.Fold.{Progress, after_lines, at_start, FramePlan, plan_of, plans_from, first_progress}
use Rattle.scene_progress.specs.Progress.{after_frame, progress_from, progress_before}
use Rattle.scene_progress.specs.Laws.{FirstLaw, NextLaw, PlanLaw, PlanCountLaw}
use Rattle.scene_progress.proofs.Lists.{add_one, none_before}

next_from : (names : List (List ℕ)) (n : ℕ) (p : Progress) (frames : List SceneFrame) (k : ℕ) (f : SceneFrame) → slice_get frames k ≡ Some f
    → progress_from names n p (take (suc k) frames) ≡ after_frame names (n + k) (progress_from names n p (take k frames)) f
next_from names n p [] k f e = absurd cc
next_from names n p (g ∷ rest) zero f e =
    let same : g ≡ f = cc e in
    let zeroth : n ≡ n + 0 = omega arith in
    ap (λ m. after_frame names m p g) zeroth ∙ ap (after_frame names (n + 0) p) same
next_from names n p (g ∷ rest) (suc k) f e =
    let later : n + 1 + k ≡ n + suc k = omega arith in
    next_from names (n + 1) (after_frame names n p g) rest k f e
    ∙ ap (λ m. after_frame names m (progress_from names (n + 1) (after_frame names n p g) (take k rest)) f) later

pub first : FirstLaw
first s = refl

pub next : NextLaw
next s k f e =
    ap (λ m. progress_from s.names 0 (first_progress s) (take m s.frames)) (add_one k)
    ∙ next_from s.names 0 (first_progress s) s.frames k f e
    ∙ ap (λ m. after_frame s.names m (progress_before s k) f) (none_before k)

-- ---- plans

-- a frame's plan by the state before it
abbrev plan_by : Scene → ℕ → SceneFrame → List ℕ → Progress → FramePlan
plan_by s k f gone p = plan_of s k f gone (after_lines s.names (at_start k p) f.before) (after_frame s.names k p f)

plan_from : (s : Scene) (n : ℕ) (gone : List ℕ) (p : Progress) (frames : List SceneFrame) (k : ℕ) (f : SceneFrame) → slice_get frames k ≡ Some f
    → (died : List ℕ) × (slice_get (plans_from s n gone p frames) k ≡ Some (plan_by s (n + k) f died (progress_from s.names n p (take k frames))))
plan_from s n gone p [] k f e = absurd cc
plan_from s n gone p (g ∷ rest) zero f e =
    let same : g ≡ f = cc e in
    let zeroth : n ≡ n + 0 = omega arith in
    (gone, ap (λ m. Some (plan_by s m g gone p)) zeroth ∙ ap (λ h. Some (plan_by s (n + 0) h gone p)) same)
plan_from s n gone p (g ∷ rest) (suc k) f e =
    let all : Progress = after_frame s.names n p g in
    let more = plan_from s (n + 1) (deaths_in n all.resources) all rest k f e in
    let later : n + 1 + k ≡ n + suc k = omega arith in
    (more.0, more.1 ∙ ap (λ m. Some (plan_by s m f more.0 (progress_from s.names (n + 1) all (take k rest)))) later)

pub plan : PlanLaw
plan s k f e =
    let p = plan_from s 0 [] (first_progress s) s.frames k f e in
    (p.0, p.1 ∙ ap (λ m. Some (plan_by s m f p.0 (progress_before s k))) (none_before k))

plan_count_from : (s : Scene) (n : ℕ) (gone : List ℕ) (p : Progress) (frames : List SceneFrame) → length (plans_from s n gone p frames) ≡ length frames
plan_count_from s n gone p [] = refl
plan_count_from s n gone p (f ∷ rest) =
    let all : Progress = after_frame s.names n p f in
    ap suc (plan_count_from s (n + 1) (deaths_in n all.resources) all rest)

pub plan_count : PlanCountLaw
plan_count s = plan_count_from s 0 [] (first_progress s) s.frames

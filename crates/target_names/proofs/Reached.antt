-- Frames whose lines were played one after another.
use Rattle.std.proofs.Common.{◌≡◌, ◌∙◌, ◌<◌, ◌≤◌, ◌^◌, ℕ, zero, suc, ◌+◌, List, [], ◌∷◌, map, length, fold, take, Option, Some, None, slice_get, refl, sym, ap, subst, arith}
use Rattle.std.specs.Prelude.{option_and_then, if◌then◌else◌}
use Rattle.std.proofs.lemmas.List.{length-map}
use Rattle.std.proofs.lemmas.Option.{get_or_from_slice_get, slice_get_within}
use Rattle.gfx_model.specs.Words.{Handle}
use Rattle.gfx_model.specs.Views.{Views}
use Rattle.gfx_model.specs.Resources.{Resources, start_frame}
use Rattle.resource_laws.specs.Laws.{BareStartLaw}
use Rattle.call_laws.specs.Calls.{Written, after_call}
use Rattle.scene_model.specs.Scene.{Name, SceneFrame, Scene}
use Rattle.scene_model.specs.Fold.{FramePlan, Progress, plans, plan_of, after_lines, at_start, first_progress, thing_named}
use Rattle.scene_laws.specs.SceneFrames.{calls_of}
use Rattle.resource_book.specs.Written.{BookView}
use Rattle.resource_book.specs.Works.{with_nothing_written}
use Rattle.scene_lines.specs.Names.{AreNamed, handle_of}
use Rattle.scene_lines.specs.Played.{LinesPlayed, StandsFor}
use Rattle.scene_progress.specs.Laws.{PlanLaw}
use Rattle.scene_progress.specs.Progress.{after_frame, progress_from, progress_before, start_of, before_of, all_of}
use Rattle.scene_progress.proofs.Reached.{next}
use Rattle.scene_text.specs.Bounds.{HasFewLines, IsBounded}
use Rattle.scene_text.specs.Seen.{name_seen, resource_line_seen}
use Rattle.scene_text.specs.declared.scene.ResLine.{ResLine}
use Rattle.scene_text.specs.declared.scene.SceneName.{SceneName}
use Rattle.scene_check.specs.Scenes.{IsReached}
use Rattle.target_laws.specs.Names.{name_from, progress_after, thing_in, target_named, is_drawn_on}

-- ---- a frame

started : (s : Scene) (k : ℕ) (old now : BookView) (before : List (Option Handle)) → BareStartLaw → (r : IsReached s k old before) → now ≡ record old { resources = start_frame k old.resources }
    → StandsFor (record r.written { resources = start_frame k r.written.resources; changes = [] }) (start_of s k) now before
started s k old now before bare_start r e = record {
  resources = ap (start_frame k) r.stands.resources;
  changes = refl;
  book_is =
      e ∙ ap (λ (v : BookView). let q : BookView = record v { resources = start_frame k v.resources } in q) r.stands.book_is
      ∙ ap (λ (x : Resources). let q : BookView = record { resources = x; pre = r.written.pre; post = r.written.post; payloads = r.written.payloads } in q) (bare_start r.written.resources k);
  named = r.stands.named;
}

module _ (s : Scene) (k : ℕ) (f : SceneFrame) (old now mid last : BookView) (before between after : List (Option Handle)) (m n : ℕ)
    (bare_start : BareStartLaw) (r : IsReached s k old before) (is : slice_get s.frames k ≡ Some f) (e : now ≡ record old { resources = start_frame k old.resources })
    (lines : LinesPlayed s.names f.before m now mid before between) (beside : LinesPlayed s.names f.beside n mid last between after) where
  w : Written
  w = record r.written { resources = start_frame k r.written.resources; changes = [] }

  x : Written
  x = fold after_call w (calls_of s.names (start_of s k) f.before)

  y : Written
  y = fold after_call x (calls_of s.names (before_of s k f) f.beside)

  stands : StandsFor y (all_of s k f) last after
  unfolding w x y
  stands = beside.stands x (before_of s k f) (lines.stands w (start_of s k) (started s k old now before bare_start r e))

  pub frame-reached : (new : BookView) → new ≡ with_nothing_written last → IsReached s (k + 1) new after
  frame-reached new taken = record {
    written = record y { pre = []; post = []; payloads = [] };
    stands = subst (λ (u : Progress). StandsFor (record y { pre = []; post = []; payloads = [] }) u new after) (sym (next s k f is)) (record {
      resources = stands.resources;
      changes = stands.changes;
      book_is = taken ∙ ap with_nothing_written stands.book_is;
      named = stands.named;
    });
    nothing = ap (λ (v : BookView). v.post) taken;
    many = beside.many ∙ lines.many ∙ r.many;
  }

  pub views-are : last.resources.views ≡ (all_of s k f).resources.views
  views-are = ap (λ (v : BookView). v.resources.views) stands.book_is ∙ ap (λ (q : Resources). q.views) stands.resources

-- ---- parts of the code's frame

pub played-as : (names own_names : List SceneName) (lines own_lines : List ResLine) (n : ℕ) (old new : BookView) (before after : List (Option Handle)) → names ≡ own_names → lines ≡ own_lines
    → LinesPlayed (map name_seen names) (map resource_line_seen lines) n old new before after → LinesPlayed (map name_seen own_names) (map resource_line_seen own_lines) n old new before after
played-as names own_names lines own_lines n old new before after e f p =
    subst (λ (ns : List SceneName). LinesPlayed (map name_seen ns) (map resource_line_seen own_lines) n old new before after) e
    (subst (λ (ls : List ResLine). LinesPlayed (map name_seen names) (map resource_line_seen ls) n old new before after) f p)

pub few-in : (s : Scene) (k : ℕ) (f : SceneFrame) → IsBounded s → slice_get s.frames k ≡ Some f → HasFewLines f
few-in s k f bounded is = subst HasFewLines (get_or_from_slice_get s.frames k f f is) (bounded.lines k f (slice_get_within s.frames k f is))

pub few-lines : (lines own_lines : List ResLine) → lines ≡ own_lines → length (map resource_line_seen own_lines) < 2 ^ 32 → length lines ≤ 4294967295
few-lines lines own_lines same few =
    let many = ap length same in
    let mapped = length-map own_lines resource_line_seen in
    omega (arith, many, mapped, few)

-- ---- what a name stands for

progress-at : (s : Scene) (n : ℕ) (p : Progress) (fs : List SceneFrame) (k : ℕ) (f : SceneFrame) → slice_get fs k ≡ Some f
    → progress_after s n p fs k ≡ Some (after_frame s.names (n + k) (progress_from s.names n p (take k fs)) f)
progress-at s n p [] k f is = absurd (cc is)
progress-at s n p (g ∷ fs) zero f is =
    let same : g ≡ f = cc is in
    let here : n ≡ n + 0 = omega arith in
    ap (λ (h : SceneFrame). Some (after_frame s.names n p h)) same ∙ ap (λ (i : ℕ). Some (after_frame s.names i p f)) here
progress-at s n p (g ∷ fs) (suc k) f is =
    let there : (n + 1) + k ≡ n + suc k = omega arith in
    progress-at s (n + 1) (after_frame s.names n p g) fs k f is ∙ ap (λ (i : ℕ). Some (after_frame s.names i (progress_from s.names (n + 1) (after_frame s.names n p g) (take k fs)) f)) there

module _ (s : Scene) (k : ℕ) (f : SceneFrame) (is : slice_get s.frames k ≡ Some f) (name : List ℕ) where
  abbrev named-by : Progress → Option Handle
  named-by p = option_and_then (thing_named p.bindings) (name_from 0 s.names name)

  by-place : (handles : List (Option Handle)) (p : Progress) → AreNamed handles p.bindings → (o : Option Name) → option_and_then (handle_of handles) o ≡ option_and_then (thing_named p.bindings) o
  by-place handles p named None = refl
  by-place handles p named (Some n) = named n

  thing-is : (book : BookView) (handles : List (Option Handle)) → IsReached s (k + 1) book handles → option_and_then (handle_of handles) (name_from 0 s.names name) ≡ thing_in s k name
  thing-is book handles r =
      let none : 0 + k ≡ k = omega arith in
      by-place handles (progress_before s (k + 1)) r.stands.named (name_from 0 s.names name)
      ∙ ap named-by (next s k f is)
      ∙ ap (λ (i : ℕ). named-by (after_frame s.names i (progress_before s k) f)) (sym none)
      ∙ ap (option_and_then named-by) (sym (progress-at s 0 (first_progress s) s.frames k f is))

  abbrev pub if-drawn : Views → Option Handle → Option Handle
  if-drawn views o = option_and_then (λ t. if is_drawn_on views t then Some t else None) o

  pub named-is : PlanLaw → (book : BookView) (handles : List (Option Handle)) (views : Views) → IsReached s (k + 1) book handles → views ≡ (all_of s k f).resources.views → (p : FramePlan) → slice_get (plans s) k ≡ Some p
      → if-drawn views (option_and_then (handle_of handles) (name_from 0 s.names name)) ≡ target_named s k name p.views
  named-is law book handles views r are p planned =
      let known = law s k f is in
      let own : plan_of s k f known.0 (before_of s k f) (all_of s k f) ≡ p = cc (sym known.1 ∙ planned) in
      ap (if-drawn views) (thing-is book handles r)
      ∙ ap (λ (v : Views). if-drawn v (thing_in s k name)) (are ∙ ap (λ (q : FramePlan). q.views) own)

-- What is told of a pixel of the frame buffer of a name, by its history.
use Rattle.std.proofs.Common.{◌≡◌, ◌∙◌, ◌<◌, ℕ, zero, suc, Bool, true, false, cond, List, [], ◌∷◌, length, map, Option, Some, None, IsSome, is_some, refl, sym, ap, subst, arith, slice_get}
use Rattle.std.specs.Prelude.{option_and_then, if◌then◌else◌}
use Rattle.std.proofs.lemmas.Option.{none-some, same_Some}
use Rattle.std.proofs.Math.Logic.{∥∥₁_elim}
use Rattle.std.specs.Coded.{Coded-set, coded_ℕ, coded_list, coded_option}
use Rattle.gfx_model.specs.Words.{Handle}
use Rattle.gfx_model.specs.Frames.{Entry}
use Rattle.gfx_model.specs.Views.{Views}
use Rattle.gfx_model.specs.World.{World, first_world, frame_step, surface_of}
use Rattle.pixel_ops.specs.Seen.{pixel_seen}
use Rattle.scene_model.specs.Scene.{Scene}
use Rattle.scene_model.specs.Fold.{FramePlan, plans}
use Rattle.scene_model.specs.Journal.{Journal, frame_content}
use Rattle.trace_laws.specs.Doers.{Doer, doers}
use Rattle.trace_laws.specs.Deeds.{begun}
use Rattle.scene_progress.specs.Laws.{PlanCountLaw}
use Rattle.trace_laws.specs.Moments.{Moment, moments, moments_from}
use Rattle.trace_lines.specs.Seen.{doer_seen}
use Rattle.target_laws.specs.Names.{target_named, thing_in, is_drawn_on}
use Rattle.target_laws.specs.Targets.{TargetMade, has_pixel, target_history, target_pixel}
use Rattle.target_laws.specs.Text as plain
use Rattle.target_tracing.specs.Seen.{target_made_seen}
use Rattle.target_tracing.specs.declared.made.TargetHistory.{TargetHistory}
use Rattle.target_tracing.specs.declared.tracing.TargetSpot.{TargetSpot}
use Rattle.target_scenes.specs.Numbered.{numbered_target_lines, target_lines_from, target_lines_at, scene_numbered_target_lines, scene_target_named}
use Rattle.target_scenes.specs.Scenes.{IsHistoryFrom, IsSceneHistory}

-- ---- a frame buffer that is named is drawn on

drawn-on : (b : Bool) (t r : Handle) → (if b then Some t else None) ≡ Some r → (b ≡ true) × (t ≡ r)
drawn-on true t r is = (refl, same_Some t r is)
drawn-on false t r is = absurd (none-some r is)

pub if-drawn : (f : Handle → Bool) (o : Option Handle) (t : Handle) → option_and_then (λ r. if f r then Some r else None) o ≡ Some t → f t ≡ true
if-drawn f None t is = absurd (none-some t is)
if-drawn f (Some r) t is = let on = drawn-on (f r) r t is in ap f (sym on.1) ∙ on.0

-- ---- the lines of a frame that is there

module _ (numbers : List (List ℕ)) (s : Scene) (j : Journal) (k : ℕ) (name : List ℕ) (spot : TargetSpot) (named : (p : FramePlan) → slice_get (plans s) k ≡ Some p → Some spot.target ≡ target_named s k name p.views) where
  abbrev lines-of : Option (List ℕ)
  lines-of = scene_numbered_target_lines numbers s j k name spot.x spot.y

  module _ (o : Option TargetHistory) (h : IsSceneHistory s j k spot o) where
    moment : Moment
    moment = record { world = h.world; content = frame_content h.plan h.entries }

    on : is_drawn_on h.plan.views spot.target ≡ true
    on = if-drawn (is_drawn_on h.plan.views) (thing_in s k name) spot.target (sym (named h.plan h.planned))

    here : lines-of ≡ target_lines_from numbers moment h.plan h.entries spot.x spot.y (Some spot.target)
    unfolding moment
    here =
        (λ i. target_lines_at numbers s k name spot.x spot.y (h.begins i) (h.planned i) (h.ordered i))
        ∙ ap (target_lines_from numbers moment h.plan h.entries spot.x spot.y) (sym (named h.plan h.planned))

    abbrev if-there : Bool → Option (List ℕ)
    if-there b = if b then Some (numbered_target_lines numbers (doers h.plan h.entries) (target_pixel (begun h.world (frame_content h.plan h.entries)) spot.target spot.x spot.y) (target_history h.world (frame_content h.plan h.entries) spot.target spot.x spot.y)) else None

  lines-none : IsSceneHistory s j k spot None → lines-of ≡ None
  unfolding moment
  lines-none h = here None h ∙ ap (if-there None h) (h.told (on None h))

  lines-some : (it : TargetHistory) → IsSceneHistory s j k spot (Some it) → lines-of ≡ Some (numbered_target_lines numbers (map doer_seen it.doers.items) (pixel_seen it.before) (map target_made_seen it.made.items))
  unfolding moment
  lines-some it h =
      let told = h.told (on (Some it) h) in
      here (Some it) h ∙ ap (if-there (Some it) h) told.0
      ∙ sym (λ i. Some (numbered_target_lines numbers (told.3 i) (told.1 i) (told.2 i)))

  pub told-none : ∥ IsSceneHistory s j k spot None ∥₁ → lines-of ≡ None
  told-none h = ∥∥₁_elim h (Coded-set (coded_option (coded_list coded_ℕ)) lines-of None) lines-none

  pub told-some : (it : TargetHistory) → ∥ IsSceneHistory s j k spot (Some it) ∥₁ → lines-of ≡ Some (numbered_target_lines numbers (map doer_seen it.doers.items) (pixel_seen it.before) (map target_made_seen it.made.items))
  told-some it h = ∥∥₁_elim h (Coded-set (coded_option (coded_list coded_ℕ)) lines-of (Some (numbered_target_lines numbers (map doer_seen it.doers.items) (pixel_seen it.before) (map target_made_seen it.made.items)))) (lines-some it)

-- ---- the views of a frame's moment are those of its plan

views-same : (w : World) (ps : List FramePlan) (j : Journal) (k : ℕ) (m : Moment) (p : FramePlan) → slice_get (moments_from w ps j) k ≡ Some m → slice_get ps k ≡ Some p → m.content.views ≡ p.views
views-same w [] j k m p a b = absurd (cc b)
views-same w (q ∷ ps) [] k m p a b = absurd (cc a)
views-same w (q ∷ ps) (entries ∷ j) zero m p a b =
    let moment : Moment = record { world = w; content = frame_content q entries } in
    ap (λ (n : Moment). n.content.views) (sym (same_Some moment m a)) ∙ ap (λ (r : FramePlan). r.views) (same_Some q p b)
views-same w (q ∷ ps) (entries ∷ j) (suc k) m p a b = views-same (frame_step w (frame_content q entries)) ps j k m p a b

-- ---- a name on which no view draws

module _ (numbers : List (List ℕ)) (s : Scene) (j : Journal) (k : ℕ) (name : List ℕ) (x y : ℕ) (named : (p : FramePlan) → slice_get (plans s) k ≡ Some p → None ≡ target_named s k name p.views) where
  pub none-named : scene_target_named s k name ≡ None
  none-named = go (slice_get (plans s) k) refl
    where
      go : (o : Option FramePlan) → slice_get (plans s) k ≡ o → option_and_then (λ (p : FramePlan). target_named s k name p.views) o ≡ None
      go None is = refl
      go (Some p) is = sym (named p is)

  pub none-told : scene_numbered_target_lines numbers s j k name x y ≡ None
  none-told = go (slice_get (moments s j) k) (slice_get (plans s) k) (slice_get j k) refl refl
    where
      go : (o : Option Moment) (q : Option FramePlan) (e : Option (List Entry)) → slice_get (moments s j) k ≡ o → slice_get (plans s) k ≡ q → target_lines_at numbers s k name x y o q e ≡ None
      go None q e a b = refl
      go (Some m) None e a b = refl
      go (Some m) (Some p) None a b = refl
      go (Some m) (Some p) (Some entries) a b =
          ap (λ (v : Views). target_lines_from numbers m p entries x y (target_named s k name v)) (views-same (first_world s.width s.height) (plans s) j k m p a b)
          ∙ ap (target_lines_from numbers m p entries x y) (sym (named p b))

-- ---- a name on which a view draws

at-place : {A : Type 0} (xs : List A) (k : ℕ) → k < length xs → (x : A) × (slice_get xs k ≡ Some x)
at-place [] k lt = absurd (omega (arith, lt))
at-place (x ∷ xs) zero lt = (x, refl)
at-place (x ∷ xs) (suc k) lt = at-place xs k (omega (arith, lt))

pub some-named : PlanCountLaw → (s : Scene) (k : ℕ) (name : List ℕ) (t : Handle) → k < length s.frames → ((p : FramePlan) → slice_get (plans s) k ≡ Some p → Some t ≡ target_named s k name p.views) → IsSome (scene_target_named s k name)
some-named law s k name t lt named =
    let many : length (plans s) ≡ length s.frames = law s in
    let at = at-place (plans s) k (omega (arith, many, lt)) in
    subst IsSome (named at.0 at.1 ∙ ap (option_and_then (λ (p : FramePlan). target_named s k name p.views)) (sym at.1)) refl

-- ---- there are lines with numbers where there are lines without

module _ (numbers : List (List ℕ)) (s : Scene) (j : Journal) (k : ℕ) (name : List ℕ) (x y : ℕ) where
  either-told : (a b : List ℕ) (has : Bool) → is_some (if has then Some a else None) ≡ is_some (if has then Some b else None)
  either-told a b true = refl
  either-told a b false = refl

  from-told : (m : Moment) (p : FramePlan) (entries : List Entry) (o : Option Handle) → is_some (target_lines_from numbers m p entries x y o) ≡ is_some (plain.frame_target_lines m.world p entries m.content x y o)
  from-told m p entries None = refl
  from-told m p entries (Some t) =
      let before = target_pixel (begun m.world m.content) t x y in
      let made = target_history m.world m.content t x y in
      either-told (numbered_target_lines numbers (doers p entries) before made) (plain.target_lines (doers p entries) before made) (has_pixel (surface_of (begun m.world m.content) (Some t)) x y)

  at-told : (o : Option Moment) (q : Option FramePlan) (e : Option (List Entry)) → is_some (target_lines_at numbers s k name x y o q e) ≡ is_some (plain.target_lines_at s k name x y o q e)
  at-told None q e = refl
  at-told (Some m) None e = refl
  at-told (Some m) (Some p) None = refl
  at-told (Some m) (Some p) (Some entries) = from-told m p entries (target_named s k name m.content.views)

  pub same-told : is_some (scene_numbered_target_lines numbers s j k name x y) ≡ is_some (plain.scene_target_lines s j k name x y)
  same-told = at-told (slice_get (moments s j) k) (slice_get (plans s) k) (slice_get j k)

-- ---- by what was found

pub none-of : (o : Option Handle) → ((t : Handle) → o ≡ Some t → ⊥) → o ≡ None
none-of None other = refl
none-of (Some t) other = absurd (other t refl)

module _ (numbers : List (List ℕ)) (s : Scene) (j : Journal) (k : ℕ) (name : List ℕ) (o : Option Handle) (named : (p : FramePlan) → slice_get (plans s) k ≡ Some p → o ≡ target_named s k name p.views) where
  pub no-target : (x y : ℕ) → o ≡ None → (scene_target_named s k name ≡ None) × (scene_numbered_target_lines numbers s j k name x y ≡ None)
  no-target x y is =
      let none : (p : FramePlan) → slice_get (plans s) k ≡ Some p → None ≡ target_named s k name p.views = λ p planned. sym is ∙ named p planned in
      (none-named numbers s j k name x y none, none-told numbers s j k name x y none)

  module _ (spot : TargetSpot) (is : o ≡ Some spot.target) (h : Option TargetHistory) (history : ∥ IsSceneHistory s j k spot h ∥₁) where
    some : (p : FramePlan) → slice_get (plans s) k ≡ Some p → Some spot.target ≡ target_named s k name p.views
    some p planned = sym is ∙ named p planned

    pub no-pixel : PlanCountLaw → k < length s.frames → h ≡ None → IsSome (scene_target_named s k name) × (scene_numbered_target_lines numbers s j k name spot.x spot.y ≡ None)
    no-pixel law lt none = (some-named law s k name spot.target lt some, told-none numbers s j k name spot some (subst (λ (u : Option TargetHistory). ∥ IsSceneHistory s j k spot u ∥₁) none history))

    pub some-lines : (it : TargetHistory) (text : List ℕ) → h ≡ Some it → text ≡ numbered_target_lines numbers (map doer_seen it.doers.items) (pixel_seen it.before) (map target_made_seen it.made.items)
        → scene_numbered_target_lines numbers s j k name spot.x spot.y ≡ Some text
    some-lines it text there lines =
        told-some numbers s j k name spot some it (subst (λ (u : Option TargetHistory). ∥ IsSceneHistory s j k spot u ∥₁) there history) ∙ ap (λ (t : List ℕ). Some t) (sym lines)

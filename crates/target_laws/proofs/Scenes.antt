-- The frame buffers on which the views of a scene's frames draw.
use Rattle.std.proofs.Common.{◌≡◌, ◌∙◌, ◌<◌, ℕ, zero, suc, ◌+◌, true, false, eqb, List, [], ◌∷◌, Option, Some, None, refl, sym, ap, subst}
use Rattle.std.proofs.lemmas.Bool.{eqb-true, and_parts, both_ways}
use Rattle.std.proofs.lemmas.List.{get_or_default}
use Rattle.std.proofs.lemmas.List.Folds.{Any-from_list_any}
use Rattle.std.specs.Prelude.{fold, take, slice_get}
use Rattle.gfx_model.specs.Words.{Handle, frame_buffer_kind, first_place, greatest}
use Rattle.gfx_model.specs.Views.{View, Views, plain_view, view_at}
use Rattle.gfx_model.specs.World.{World, Content, FrameContent, frame_step, first_world}
use Rattle.store_laws.specs.ByIndex.{Stores, FrameData, first_stores, frame_by_index}
use Rattle.store_laws.specs.Says.{StandsFor, TargetNames, left, there_in}
use Rattle.store_laws.specs.Standing.{serial_at}
use Rattle.store_laws.specs.Run.{Frames, no_frames, next_frame}
use Rattle.store_laws.proofs.FrameLaws.{frame_stands}
use Rattle.store_laws.proofs.DeathLaws.{left_same}
use Rattle.store_laws.proofs.Start.{start_stands}
use Rattle.scene_model.specs.Fold.{FramePlan, plans}
use Rattle.scene_model.specs.Journal.{Journal, frame_content}
use Rattle.scene_laws.specs.SceneFrames.{scene_frames}
use Rattle.scene_laws.proofs.Pictures.{contents_from, scene_run}
use Rattle.trace_laws.specs.Moments.{Moment, moments_from}
use Rattle.target_laws.specs.Laws.{IsTargetTraced, SceneTargetLaw}
use Rattle.target_laws.specs.Names.{is_drawn_on}
use Rattle.target_laws.specs.Targets.{is_target}
use Rattle.target_laws.proofs.Indexed.{target-indexed-law}

abbrev moments_of : World → List FrameContent → List Moment
moments_of w [] = []
moments_of w (c ∷ cs) = record { world = w; content = c } ∷ moments_of (frame_step w c) cs

moments-same : (w : World) (ps : List FramePlan) (j : Journal) → moments_from w ps j ≡ moments_of w (contents_from ps j)
moments-same w [] j = refl
moments-same w (p ∷ ps) [] = refl
moments-same w (p ∷ ps) (entries ∷ j) = ap (λ (ms : List Moment). record { world = w; content = frame_content p entries } ∷ ms) (moments-same (frame_step w (frame_content p entries)) ps j)

some-same : {A : Type 0} (a b : A) → Some a ≡ Some b → a ≡ b
some-same a b is = cc is

-- ---- the frame buffer on which a view draws, by the index and the serial of its handle

names-same : (place : ℕ → ℕ) (there : List ℕ) (t r : Handle) → r.index ≡ t.index → r.serial ≡ t.serial → TargetNames place there (Some r) → TargetNames place there (Some t)
names-same place there t r index serial n =
    let moved = subst (λ (i : ℕ). (i < greatest frame_buffer_kind) × (serial_at place there (first_place frame_buffer_kind + i) ≡ Some r.serial)) index n in
    (moved.0, moved.1 ∙ ap (λ (m : ℕ). Some m) serial)

named-by : (place : ℕ → ℕ) (there : List ℕ) (t : Handle) (o : Option Handle) → is_target t o ≡ true → TargetNames place there o → TargetNames place there (Some t)
named-by place there t None on n = absurd (both_ways false refl on)
named-by place there t (Some r) on n =
    let both = and_parts (eqb r.index t.index) (eqb r.serial t.serial) on in
    names-same place there t r (eqb-true r.index t.index both.0) (eqb-true r.serial t.serial both.1) n

-- a view that draws on it
drawn-by : (views : Views) (t : Handle) → is_drawn_on views t ≡ true → (v : ℕ) × (is_target t (view_at views v).target ≡ true)
drawn-by views t on =
    let any = Any-from_list_any (λ (v : View). is_target t v.target) views.settings on in
    (any.0, ap (λ (v : View). is_target t v.target) (get_or_default views.settings any.0 plain_view any.1 any.2 ∙ any.3) ∙ any.4)

-- what is traced of the frame buffers on which the views of a frame draw
abbrev AreTraced : Stores → World → FrameData → FrameContent → Type 0
AreTraced h w f content = (t : Handle) → is_drawn_on content.views t ≡ true → IsTargetTraced h w f content t

run-traced : (place : ℕ → ℕ) (h : Stores) (w : World) (gone : List ℕ) (fs : List FrameData) (cs : List FrameContent) → StandsFor place h (left gone w) → Frames place w gone fs cs
    → (k : ℕ) (f : FrameData) (m : Moment) → slice_get fs k ≡ Some f → slice_get (moments_of w cs) k ≡ Some m → AreTraced (fold frame_by_index h (take k fs)) m.world f m.content
run-traced place h w gone fs cs s no_frames k f m has begins = cc has
run-traced place h w gone fs cs s (next_frame {later = later} {f = g} {fs = more} {content = content} {contents = contents} e says next) zero f m has begins =
    let P : List (ℕ × Content) → Type 0 = λ ts. StandsFor place h (record w { things = ts }) in
    let one : AreTraced h w g content = λ t on.
    let drawn = drawn-by content.views t on in
    target-indexed-law place h w g content later t (subst P (sym (left_same content.gone gone w.things e)) s) says (named-by place (there_in content w) t (view_at content.views drawn.0).target drawn.1 (says.targets drawn.0)) in
    let moment : Moment = record { world = w; content = content } in
    subst (λ (n : Moment). AreTraced h n.world f n.content) (some-same moment m begins) (subst (λ (x : FrameData). AreTraced h w x content) (some-same g f has) one)
run-traced place h w gone fs cs s (next_frame {later = later} {f = g} {fs = more} {content = content} {contents = contents} e says next) (suc k) f m has begins =
    let P : List (ℕ × Content) → Type 0 = λ ts. StandsFor place h (record w { things = ts }) in
    let one = frame_stands place h w g content later (subst P (sym (left_same content.gone gone w.things e)) s) says in
    run-traced place (frame_by_index h g) (frame_step w content) later more contents one.1 next k f m has begins

pub scene-target-law : SceneTargetLaw
scene-target-law s j colors k f m t has begins on =
    let run = scene_run s j colors in
    let w : World = first_world s.width s.height in
    run-traced run.0 (first_stores w.back) w [] (scene_frames s j) (contents_from (plans s) j) (start_stands run.0 w.back) run.1 k f m has
    (ap (λ (ms : List Moment). slice_get ms k) (sym (moments-same w (plans s) j)) ∙ begins) t on

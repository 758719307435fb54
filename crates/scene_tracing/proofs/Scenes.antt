-- The history of a pixel that a link traced is that of the scene.
use Rattle.std.proofs.Common.{◌≡◌, ◌∙◌, ℕ, zero, suc, ◌<◌, Bool, true, false, not, List, [], ◌∷◌, ◌++◌, map, fold, take, drop, length, slice_get, Option, Some, None, refl, sym, ap, subst, arith}
use Rattle.std.proofs.lemmas.List.{length-map, map-append, take_all}
use Rattle.gfx_model.specs.Pixel.{Pixel}
use Rattle.gfx_model.specs.World.{World, Surface, frame_step, first_world}
use Rattle.gfx_model.specs.Frames.{Entry}
use Rattle.gfx_model.specs.Views.{Views}
use Rattle.store_laws.specs.ByIndex.{Stores, FrameData, first_stores, frame_by_index}
use Rattle.scene_model.specs.Scene.{Scene}
use Rattle.scene_model.specs.Fold.{FramePlan, plans}
use Rattle.scene_model.specs.Journal.{Journal, IsLawful, frame_content, serial}
use Rattle.spelling_model.specs.Readable.{IsReadable}
use Rattle.scene_laws.specs.Readables.{ColorsLaw}
use Rattle.scene_progress.specs.Laws.{LawfulCountLaw, PlanCountLaw}
use Rattle.scene_laws.specs.SceneFrames.{HasColors, scene_frames}
use Rattle.trace_laws.specs.Doers.{Doer, doers, doers_in}
use Rattle.trace_laws.specs.History as history
use Rattle.trace_laws.specs.Moments.{Moment, moments_from}
use Rattle.trace_laws.specs.ByIndex.{IsTraced, history_in, begun_in, deeds_in}
use Rattle.trace_laws.specs.Laws.{ScenePixelLaw}
use Rattle.scene_traces.specs.Traced.{stores_before, SceneTracedLaw, GatheredDoersLaw}
use Rattle.frame_record.specs.declared.frame.Frame.{Frame}
use Rattle.render_core.specs.Seen.{frame_seen, journal_of, recordings_of}
use Rattle.scene_playing.specs.Frames.{AreEnded}
use Rattle.scene_playing.specs.Given.{HasPlan, HavePlans}
use Rattle.scene_playing.specs.Order.{Follows}
use Rattle.pixel_ops.specs.Seen.{pixel_seen}
use Rattle.frame_tracing.specs.Seen.{made_seen}
use Rattle.trace_lines.specs.Seen.{doer_seen}
use Rattle.trace_lines.specs.Numbered.{numbered_lines, lines_at, scene_numbered_lines}
use Rattle.scene_tracing.specs.declared.asked.Asked.{Asked}
use Rattle.scene_tracing.specs.declared.history.History.{History}
use Rattle.scene_tracing.specs.Asked.{journal_asked, IsLawfulOrder}
use Rattle.scene_tracing.specs.Histories.{IsHistory, EndsInPicture}
use Rattle.scene_tracing.specs.Tracing.{stores_behind, IsTracedIn, HasTraced}
use Rattle.scene_tracing.proofs.Frames.{cut-at, is-true}
use Rattle.scene_tracing.proofs.Journals.{lawful-whole, asked-journal}

-- ---- the frame at a place

-- the plan and the entries of a frame behind others
pub record HasAt (ps : List FramePlan) (j : Journal) (k : ℕ) (f : Frame) : Type 0 where
  pub plan : FramePlan
  pub entries : List Entry
  pub planned : slice_get ps k ≡ Some plan
  pub ordered : slice_get j k ≡ Some entries
  pub has : HasPlan plan entries f

pub has-at : (ps : List FramePlan) (j : Journal) (front : List Frame) (f : Frame) (rest : List Frame) → HavePlans ps j (front ++ f ∷ rest) → HasAt ps j (length front) f
has-at [] j [] f rest h = absurd h
has-at (p ∷ ps) [] [] f rest h = absurd h
has-at (p ∷ ps) (e ∷ j) [] f rest h = record { plan = p; entries = e; planned = refl; ordered = refl; has = h.0 }
has-at [] j (g ∷ front) f rest h = absurd h
has-at (p ∷ ps) [] (g ∷ front) f rest h = absurd h
has-at (p ∷ ps) (e ∷ j) (g ∷ front) f rest h =
    let n = has-at ps j front f rest h.1 in
    record { plan = n.plan; entries = n.entries; planned = n.planned; ordered = n.ordered; has = n.has }

at-length : {A : Type 0} (xs : List A) (y : A) (zs : List A) → slice_get (xs ++ y ∷ zs) (length xs) ≡ Some y
at-length [] y zs = refl
at-length (x ∷ xs) y zs = at-length xs y zs

take-length : {A : Type 0} (xs ys : List A) → take (length xs) (xs ++ ys) ≡ xs
take-length [] ys = refl
take-length (x ∷ xs) ys = ap (λ zs. x ∷ zs) (take-length xs ys)

module _ (front : List Frame) (f : Frame) (rest : List Frame) (fs : List FrameData) (seen : map frame_seen (front ++ f ∷ rest) ≡ fs) where
  parts : map frame_seen front ++ frame_seen f ∷ map frame_seen rest ≡ fs
  parts = sym (map-append frame_seen front (f ∷ rest)) ∙ seen

  pub seen-at : slice_get fs (length front) ≡ Some (frame_seen f)
  seen-at =
      ap (λ (gs : List FrameData). slice_get gs (length front)) (sym parts)
      ∙ ap (slice_get (map frame_seen front ++ frame_seen f ∷ map frame_seen rest)) (sym (length-map front frame_seen))
      ∙ at-length (map frame_seen front) (frame_seen f) (map frame_seen rest)

  pub seen-before : take (length front) fs ≡ map frame_seen front
  seen-before =
      ap (λ (gs : List FrameData). take (length front) gs) (sym parts)
      ∙ ap (λ n. take n (map frame_seen front ++ frame_seen f ∷ map frame_seen rest)) (sym (length-map front frame_seen))
      ∙ take-length (map frame_seen front) (frame_seen f ∷ map frame_seen rest)

-- ---- the moment of a frame

abbrev pub moment_of : World → FramePlan → List Entry → Moment
moment_of w p entries = record { world = w; content = frame_content p entries }

pub record HasMoment (w : World) (ps : List FramePlan) (j : Journal) (k : ℕ) (p : FramePlan) (entries : List Entry) : Type 0 where
  pub world : World
  pub begins : slice_get (moments_from w ps j) k ≡ Some (moment_of world p entries)

some-same : {A : Type 0} (a b : A) → Some a ≡ Some b → a ≡ b
some-same a b is = cc is

pub has-moment : (w : World) (ps : List FramePlan) (j : Journal) (k : ℕ) (p : FramePlan) (entries : List Entry) → slice_get ps k ≡ Some p → slice_get j k ≡ Some entries → HasMoment w ps j k p entries
has-moment w [] j k p entries a b = absurd (cc a)
has-moment w (q ∷ ps) [] k p entries a b = absurd (cc b)
has-moment w (q ∷ ps) (es ∷ j) zero p entries a b =
    record { world = w; begins = ap (λ (r : FramePlan). Some (moment_of w r es)) (some-same q p a) ∙ ap (λ (ns : List Entry). Some (moment_of w p ns)) (some-same es entries b) }
has-moment w (q ∷ ps) (es ∷ j) (suc k) p entries a b =
    let next = has-moment (frame_step w (frame_content q es)) ps j k p entries a b in
    record { world = next.world; begins = next.begins }

-- ---- the history

-- a frame of a scene that was traced has the scene's history
pub history-at : SceneTracedLaw → GatheredDoersLaw → (s : Scene) (j : Journal) (given : List Frame) (x y : ℕ) (t : History) (front : List Frame) (f : Frame) (rest : List Frame)
    → HasColors s → HavePlans (plans s) j (front ++ f ∷ rest) → map frame_seen (front ++ f ∷ rest) ≡ scene_frames s j
    → IsTracedIn (fold frame_by_index (first_stores (first_world s.width s.height).back) (map frame_seen front)) x y f t → IsHistory s j (length front) x y t
history-at traced_law doers_law s j given x y t front f rest colors plans_are seen is =
    let at = has-at (plans s) j front f rest plans_are in
    let m = has-moment (first_world s.width s.height) (plans s) j (length front) at.plan at.entries at.planned at.ordered in
    let traced : IsTraced (stores_before s j (length front)) m.world (frame_seen f) (frame_content at.plan at.entries) =
    traced_law s j colors (length front) (frame_seen f) (moment_of m.world at.plan at.entries) (seen-at front f rest (scene_frames s j) seen) m.begins in
    let stores : fold frame_by_index (first_stores (first_world s.width s.height).back) (map frame_seen front) ≡ stores_before s j (length front) =
    ap (fold frame_by_index (first_stores (first_world s.width s.height).back)) (sym (seen-before front f rest (scene_frames s j) seen)) in
    record {
      world = m.world;
      plan = at.plan;
      entries = at.entries;
      planned = at.planned;
      ordered = at.ordered;
      begins = m.begins;
      before = is.0 ∙ ap (λ (h : Stores). history.pixel_at h.back x y) stores ∙ ap (λ (b : Surface). history.pixel_at b x y) traced.back;
      made = is.1 ∙ ap (λ (h : Stores). history_in x y 0 (begun_in h (frame_seen f)) (deeds_in (frame_seen f))) stores ∙ traced.history x y;
      doers =
          is.2 ∙ ap (λ (v : Views). doers_in v (recordings_of f) (journal_of f)) at.has.views ∙ ap (doers_in at.plan.views (recordings_of f)) at.has.journal
          ∙ doers_law at.plan (recordings_of f) at.entries at.has.gathered;
    }

-- the frame that was asked for of a play that gave all frames
pub history-of : SceneTracedLaw → GatheredDoersLaw → (s : Scene) (j wanted : Journal) (given : List Frame) (notes : List (ℕ × ℕ)) (is_whole : Bool) (a : Asked) (t : History)
    → HasColors s → AreEnded s given j notes is_whole → is_whole ≡ true → IsLawful s j → j ≡ wanted → a.width ≡ s.width → a.height ≡ s.height → HasTraced a given t → IsHistory s wanted a.spot.frame a.spot.x a.spot.y t
history-of traced_law doers_law s j wanted given notes is_whole a t colors ended whole lawful same wide high h =
    let all : length j ≡ length given = lawful.1 ∙ sym (ended.whole whole) in
    let seen : map frame_seen given ≡ scene_frames s j = ended.seen ∙ ap (scene_frames s) (take_all (length given) j (omega (arith, all))) in
    let k : ℕ = a.spot.frame in
    let n = cut-at given k h.0 in
    let front : List Frame = take k given in
    let stores : stores_behind a.width a.height front ≡ fold frame_by_index (first_stores (first_world s.width s.height).back) (map frame_seen front) =
    λ i. fold frame_by_index (first_stores (first_world (wide i) (high i)).back) (map frame_seen front) in
    let found : IsHistory s j (length front) a.spot.x a.spot.y t =
    history-at traced_law doers_law s j given a.spot.x a.spot.y t front n.frame (drop (suc k) given) colors (subst (λ (fs : List Frame). HavePlans (plans s) j fs) n.are ended.gathered)
    (ap (λ (fs : List Frame). map frame_seen fs) (sym n.are) ∙ seen) (subst (λ (g : Stores). IsTracedIn g a.spot.x a.spot.y n.frame t) stores (h.1 n.frame n.at)) in
    subst (λ (m : ℕ). IsHistory s wanted m a.spot.x a.spot.y t) n.many (subst (λ (o : Journal). IsHistory s o (length front) a.spot.x a.spot.y t) same found)

-- ---- what a history tells

pub ends-in-picture : ScenePixelLaw → (s : Scene) (j : Journal) (k x y : ℕ) (t : History) → x < s.width → y < s.height → IsHistory s j k x y t → EndsInPicture s j k x y t
ends-in-picture law s j k x y t column row is = λ texels at.
    ap (λ (p : Pixel). (history.after_history p (map made_seen t.made.items)).color) is.before
    ∙ ap (λ (ms : List history.Made). (history.after_history (history.pixel_at is.world.back x y) ms).color) is.made
    ∙ law s j k x y (moment_of is.world is.plan is.entries) texels column row is.begins at

pub lines-are : (numbers : List (List ℕ)) (s : Scene) (j : Journal) (k x y : ℕ) (t : History) → IsHistory s j k x y t
    → numbered_lines numbers (map doer_seen t.doers.items) (pixel_seen t.before) (map made_seen t.made.items) ≡ scene_numbered_lines numbers s j k x y
lines-are numbers s j k x y t is =
    ap (λ (ds : List Doer). numbered_lines numbers ds (pixel_seen t.before) (map made_seen t.made.items)) is.doers
    ∙ ap (λ (p : Pixel). numbered_lines numbers (doers is.plan is.entries) p (map made_seen t.made.items)) is.before
    ∙ ap (λ (ms : List history.Made). numbered_lines numbers (doers is.plan is.entries) (history.pixel_at is.world.back x y) ms) is.made
    ∙ sym (λ i. lines_at numbers x y (is.begins i) (is.planned i) (is.ordered i))

-- what was asked for of a play that gave all frames
pub history-asked : SceneTracedLaw → GatheredDoersLaw → ColorsLaw → LawfulCountLaw → PlanCountLaw → (s : Scene) (o : Option Journal) (j : Journal) (given : List Frame) (notes : List (ℕ × ℕ)) (is_whole : Bool) (a asked : Asked) (t : History)
    → IsReadable s → IsLawfulOrder s o → AreEnded s given j notes is_whole → not is_whole ≡ false → Follows o j → (o ≡ None → Follows (Some (serial s)) j)
    → a ≡ asked → asked.width ≡ s.width → asked.height ≡ s.height → HasTraced a given t → IsHistory s (journal_asked s o) asked.spot.frame asked.spot.x asked.spot.y t
history-asked traced_law doers_law colors_law count_law plan_law s o j given notes is_whole a asked t readable order ended all follows alone is wide high h =
    let whole : is_whole ≡ true = is-true is_whole all in
    let lawful : IsLawful s j = lawful-whole s given j notes is_whole count_law whole ended in
    history-of traced_law doers_law s j (journal_asked s o) given notes is_whole asked t (colors_law s readable) ended whole lawful
    (asked-journal s o j plan_law lawful order follows alone) wide high (subst (λ (x : Asked). HasTraced x given t) is h)

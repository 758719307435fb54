-- Frames of which the commands alone are executed, one after another.
use Rattle.std.proofs.Common.{◌≡◌, ◌∙◌, ℕ, zero, suc, ◌+◌, ◌<◌, ◌≤◌, Bool, true, false, not, List, [], ◌∷◌, ◌++◌, map, take, length, Option, Some, None, slice_get, refl, sym, ap, subst, arith}
use Rattle.std.specs.Prelude.{fold}
use Rattle.std.proofs.lemmas.List.{length-map, length-append, map-append, take_all}
use Rattle.gfx_model.specs.World.{World, Draw, first_world, begin_frame, frame_step}
use Rattle.store_laws.specs.ByIndex.{Stores, FrameData, first_stores}
use Rattle.scene_model.specs.Scene.{Scene}
use Rattle.scene_model.specs.Fold.{FramePlan, plans}
use Rattle.scene_model.specs.Journal.{Entry, Journal, IsLawful, frame_content, pictures}
use Rattle.spelling_model.specs.Readable.{IsReadable}
use Rattle.scene_laws.specs.Readables.{ColorsLaw}
use Rattle.scene_laws.specs.SceneFrames.{HasColors, scene_frames}
use Rattle.scene_progress.specs.Laws.{PlanCountLaw}
use Rattle.shared_keys.specs.Members.{In}
use Rattle.shared_keys.specs.Lines.{shared_views, frame_lines}
use Rattle.frame_record.specs.declared.frame.Frame.{Frame}
use Rattle.render_core.specs.Seen.{frame_seen, recordings_of}
use Rattle.scene_playing.specs.Frames.{AreEnded}
use Rattle.scene_playing.specs.Given.{HasPlan, HavePlans}
use Rattle.bare_worlds.specs.Bare.{bare_from, bare_worlds, bare_stores, bare_after, begun_by}
use Rattle.bare_worlds.specs.Laws.{ShapedLaw, HarmlessLaw}
use Rattle.bare_worlds.specs.Views.{IsHarmlessView}
use Rattle.harmless_views.specs.Left.{AreLeft, AreShaped, IsNotHarmless, HasLeft}
use Rattle.harmless_views.proofs.Leaving.{none-left}
use Rattle.shares_running.specs.Listed.{lines_of}
use Rattle.shares_running.specs.Left.{AreLeftOf, AreJudged, AreJudgedFrom, Judges}

abbrev Views : Type 0
Views = List (ℕ × (ℕ × ℕ))

fold-more : {A B : Type 0} (f : B → A → B) (z : B) (xs : List A) (x : A) → fold f z (xs ++ x ∷ []) ≡ f (fold f z xs) x
fold-more f z [] x = refl
fold-more f z (y ∷ ys) x = fold-more f (f z y) ys x

-- ---- one frame more

judged-more : (h : Stores) (fs : List Frame) (lists : List Views) (f : Frame) (kept : Views) → AreJudged h fs lists → HasLeft (begun_by (fold bare_after h (map frame_seen fs)) (frame_seen f)) f.views (recordings_of f) kept
    → AreJudged h (fs ++ f ∷ []) (lists ++ kept ∷ [])
judged-more h [] [] f kept a one = (one, tt)
judged-more h [] (l ∷ lists) f kept a one = absurd a
judged-more h (g ∷ fs) [] f kept a one = absurd a
judged-more h (g ∷ fs) (l ∷ lists) f kept a one = (a.0, judged-more (bare_after h (frame_seen g)) fs lists f kept a.1 one)

pub judges-more : (width height : ℕ) (h next : Stores) (lists more : List Views) (given : List Frame) (f : Frame) (kept : Views) → next ≡ bare_after h (frame_seen f) → more ≡ lists ++ kept ∷ []
    → HasLeft (begun_by h (frame_seen f)) f.views (recordings_of f) kept → Judges width height h lists given → Judges width height next more (given ++ f ∷ [])
judges-more width height h next lists more given f kept after is left judges =
    let start : Stores = first_stores (first_world width height).back in (
      after ∙ ap (λ g. bare_after g (frame_seen f)) judges.0
          ∙ sym (ap (fold bare_after start) (map-append frame_seen given (f ∷ [])) ∙ fold-more bare_after start (map frame_seen given) (frame_seen f)),
      subst (λ (ls : List Views). AreJudged start (given ++ f ∷ []) ls) (sym is)
          (judged-more start given lists f kept judges.1 (subst (λ (g : Stores). HasLeft (begun_by g (frame_seen f)) f.views (recordings_of f) kept) judges.0 left)),
    )

-- none yet
pub judges-first : (width height : ℕ) (h : Stores) (lists : List Views) (given : List Frame) → h ≡ first_stores (first_world width height).back → lists ≡ [] → given ≡ [] → Judges width height h lists given
judges-first width height h lists given is none no_frame =
    subst (λ (ls : List Views). Judges width height h ls given) (sym none) (subst (λ (fs : List Frame). Judges width height h [] fs) (sym no_frame) (is, tt))

-- the same frames by another name
pub judges-same : (width height : ℕ) (h : Stores) (lists : List Views) (old new : List Frame) → new ≡ old → ∥ Judges width height h lists old ∥₁ → ∥ Judges width height h lists new ∥₁
judges-same width height h lists old new same = subst (λ (fs : List Frame). ∥ Judges width height h lists fs ∥₁) (sym same)

-- ---- the frame at a place

record JudgedAt (h : Stores) (fs : List Frame) (k : ℕ) (kept : Views) : Type 0 where
  frame : Frame
  at : slice_get fs k ≡ Some frame
  left : HasLeft (begun_by (fold bare_after h (map frame_seen (take k fs))) (frame_seen frame)) frame.views (recordings_of frame) kept

some-same : {A : Type 0} (a b : A) → Some a ≡ Some b → a ≡ b
some-same a b is = cc is

judged-at : (h : Stores) (fs : List Frame) (lists : List Views) (k : ℕ) (kept : Views) → AreJudged h fs lists → slice_get lists k ≡ Some kept → JudgedAt h fs k kept
judged-at h [] [] k kept a at = absurd (cc at)
judged-at h [] (l ∷ lists) k kept a at = absurd a
judged-at h (f ∷ fs) [] k kept a at = absurd a
judged-at h (f ∷ fs) (l ∷ lists) zero kept a at = record { frame = f; at = refl; left = subst (λ (ks : Views). HasLeft (begun_by h (frame_seen f)) f.views (recordings_of f) ks) (some-same l kept at) a.0 }
judged-at h (f ∷ fs) (l ∷ lists) (suc k) kept a at = let rest = judged-at (bare_after h (frame_seen f)) fs lists k kept a.1 at in record { frame = rest.frame; at = rest.at; left = rest.left }

judged-many : (h : Stores) (fs : List Frame) (lists : List Views) → AreJudged h fs lists → length lists ≡ length fs
judged-many h [] [] a = refl
judged-many h [] (l ∷ lists) a = absurd a
judged-many h (f ∷ fs) [] a = absurd a
judged-many h (f ∷ fs) (l ∷ lists) a = ap suc (judged-many (bare_after h (frame_seen f)) fs lists a.1)

-- what a frame at a place has of its plan
record PlannedAt (ps : List FramePlan) (k : ℕ) (p : FramePlan) (f : Frame) : Type 0 where
  entries : List Entry
  has : HasPlan p entries f

planned-at : (ps : List FramePlan) (j : Journal) (fs : List Frame) (k : ℕ) (p : FramePlan) (f : Frame) → HavePlans ps j fs → slice_get ps k ≡ Some p → slice_get fs k ≡ Some f → PlannedAt ps k p f
planned-at ps j [] k p f h plan at = absurd (cc at)
planned-at [] j (g ∷ fs) k p f h plan at = absurd h
planned-at (q ∷ ps) [] (g ∷ fs) k p f h plan at = absurd h
planned-at (q ∷ ps) (es ∷ j) (g ∷ fs) zero p f h plan at = record { entries = es; has = subst (λ (r : FramePlan). HasPlan r es f) (some-same q p plan) (subst (λ (x : Frame). HasPlan q es x) (some-same g f at) h.0) }
planned-at (q ∷ ps) (es ∷ j) (g ∷ fs) (suc k) p f h plan at = let rest = planned-at ps j fs k p f h.1 plan at in record { entries = rest.entries; has = rest.has }

map-at : {A B : Type 0} (f : A → B) (xs : List A) (k : ℕ) (x : A) → slice_get xs k ≡ Some x → slice_get (map f xs) k ≡ Some (f x)
map-at f [] k x at = absurd (cc at)
map-at f (y ∷ ys) zero x at = ap (λ z. Some (f z)) (some-same y x at)
map-at f (y ∷ ys) (suc k) x at = map-at f ys k x at

map-front : {A B : Type 0} (f : A → B) (xs : List A) (k : ℕ) → map f (take k xs) ≡ take k (map f xs)
map-front f xs zero = refl
map-front f [] (suc k) = refl
map-front f (x ∷ xs) (suc k) = ap (λ ys. f x ∷ ys) (map-front f xs k)

-- ---- the scene

left-of : ShapedLaw → (s : Scene) (j : Journal) (given : List Frame) (lists : List Views) → HasColors s → HavePlans (plans s) j given → map frame_seen given ≡ scene_frames s j → length given ≡ length (plans s)
    → AreJudgedFrom s.width s.height lists given → AreLeftOf s lists
left-of shaped s j given lists colors have seen all judged = record {
  many = judged-many (first_stores (first_world s.width s.height).back) given lists judged ∙ all;
  each = λ k p w kept plan world at.
      let start : Stores = first_stores (first_world s.width s.height).back in
      let one = judged-at start given lists k kept judged at in
      let own = planned-at (plans s) j given k p one.frame have plan one.at in
      let frame : slice_get (scene_frames s j) k ≡ Some (frame_seen one.frame) = ap (λ (fs : List FrameData). slice_get fs k) (sym seen) ∙ map-at frame_seen given k one.frame one.at in
      let front : map frame_seen (take k given) ≡ take k (scene_frames s j) = map-front frame_seen given k ∙ ap (take k) seen in
      let shapes : AreShaped (begun_by (fold bare_after start (map frame_seen (take k given))) (frame_seen one.frame)) p w =
      subst (λ (fs : List FrameData). AreShaped (begun_by (fold bare_after start fs) (frame_seen one.frame)) p w) (sym front)
      (λ n d is. shaped s j colors k (frame_seen one.frame) p w n d frame plan world is) in
      one.left s k p w plan own.has.views own.has.gathered shapes;
}

is_true : (b : Bool) → not b ≡ false → b ≡ true
is_true true e = refl
is_true false e = absurd (cc e)

-- all frames were given, so of each the views are left
pub left-given : ShapedLaw → ColorsLaw → PlanCountLaw → (s : Scene) (lists : List Views) (given : List Frame) (journal : Journal) (notes : List (ℕ × ℕ)) (is_whole : Bool) (width height : ℕ)
    → IsReadable s → AreEnded s given journal notes is_whole → not is_whole ≡ false → width ≡ s.width → height ≡ s.height → AreJudgedFrom width height lists given → AreLeftOf s lists
left-given shaped colors plan_law s lists given journal notes is_whole width height readable ended whole wide high judged =
    let full : length given ≡ length s.frames = ended.whole (is_true is_whole whole) in
    let counted = plan_law s in
    let seen : map frame_seen given ≡ scene_frames s (take (length given) journal) = ended.seen in
    left-of shaped s (take (length given) journal) given lists (colors s readable) (front-plans (plans s) journal given ended.gathered) seen (full ∙ sym counted)
    (subst (λ (x : ℕ). AreJudgedFrom x s.height lists given) wide (subst (λ (y : ℕ). AreJudgedFrom width y lists given) high judged))
  where
    front-plans : (ps : List FramePlan) (j : Journal) (fs : List Frame) → HavePlans ps j fs → HavePlans ps (take (length fs) j) fs
    front-plans ps j [] h = tt
    front-plans [] j (f ∷ fs) h = absurd h
    front-plans (p ∷ ps) [] (f ∷ fs) h = absurd h
    front-plans (p ∷ ps) (es ∷ j) (f ∷ fs) h = (h.0, front-plans ps j fs h.1)

-- ---- where none is left

no-lines : (k : ℕ) (views : Views) → frame_lines k views ≡ [] → views ≡ []
no-lines k [] e = refl
no-lines k (x ∷ views) e = absurd (cc e)

no-front : {A : Type 0} (xs ys : List A) → xs ++ ys ≡ [] → (xs ≡ []) × (ys ≡ [])
no-front [] ys e = (refl, e)
no-front (x ∷ xs) ys e = absurd (cc e)

all-none : (k : ℕ) (lists : List Views) (n : ℕ) (kept : Views) → lines_of k lists ≡ [] → slice_get lists n ≡ Some kept → kept ≡ []
all-none k [] n kept e at = absurd (cc at)
all-none k (l ∷ lists) zero kept e at = sym (some-same l kept at) ∙ no-lines k l (no-front (frame_lines k l) (lines_of (k + 1) lists) e).0
all-none k (l ∷ lists) (suc n) kept e at = all-none (k + 1) lists n kept (no-front (frame_lines k l) (lines_of (k + 1) lists) e).1 at

list-at : {A : Type 0} (xs : List A) (n : ℕ) → n < length xs → (x : A) × (slice_get xs n ≡ Some x)
list-at [] n lt = absurd (omega (arith, lt))
list-at (x ∷ xs) zero lt = (x, refl)
list-at (x ∷ xs) (suc n) lt = list-at xs n (omega (arith, lt))

at-below : {A : Type 0} (xs : List A) (n : ℕ) (x : A) → slice_get xs n ≡ Some x → n < length xs
at-below [] n x at = absurd (cc at)
at-below (y ∷ xs) zero x at = omega arith
at-below (y ∷ xs) (suc n) x at = let lt = at-below xs n x at in omega (arith, lt)

pub left-free : HarmlessLaw → (s : Scene) (lists : List Views) (j k : Journal) → AreLeftOf s lists → lines_of 0 lists ≡ [] → IsLawful s j → IsLawful s k → pictures s j ≡ pictures s k
left-free law s lists j k left none lj lk =
    law s j k
    (λ n p w x plan world i.
    let below = at-below (plans s) n p plan in
    let many = left.many in
    let kept = list-at lists n (omega (arith, below, many)) in
    none-left (IsHarmlessView w p) (IsNotHarmless w p) (shared_views p) kept.0 x (left.each n p w kept.0 plan world kept.1) (all-none 0 lists n kept.0 none kept.1) i)
    lj lk

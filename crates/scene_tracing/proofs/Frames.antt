-- Frames that are traced one after another.
use Rattle.std.proofs.Common.{◌≡◌, ◌∙◌, ℕ, zero, suc, ◌+◌, ◌<◌, ◌≤◌, Bool, true, false, not, is_some, List, [], ◌∷◌, ◌++◌, map, fold, take, drop, length, slice_get, ◌⊎◌, inl, inr, Option, Some, None, IfSome, refl, sym, ap, subst, arith}
use Rattle.std.proofs.lemmas.List.{length-append, map-append}
use Rattle.store_laws.specs.ByIndex.{Stores, FrameData, first_stores, frame_by_index}
use Rattle.gfx_model.specs.World.{first_world}
use Rattle.frame_record.specs.declared.frame.Frame.{Frame}
use Rattle.render_core.specs.Seen.{frame_seen}
use Rattle.scene_tracing.specs.declared.asked.Asked.{Asked}
use Rattle.scene_tracing.specs.declared.history.History.{History}
use Rattle.scene_tracing.specs.declared.tracer.Tracer.{Tracer}
use Rattle.frame_record.specs.declared.frame.Outcome.{Outcome}
use Rattle.frame_record.specs.declared.frame.Outcome.TheVariants as outcomes
use Rattle.render_core.specs.Shown.{StoresAfter}
use Rattle.scene_tracing.specs.Tracing.{stores_behind, IsTracedIn, HasTraced, IsBefore, Reaches, Traces}

fold-more : {A B : Type 0} (f : B → A → B) (z : B) (xs : List A) (x : A) → fold f z (xs ++ x ∷ []) ≡ f (fold f z xs) x
fold-more f z [] x = refl
fold-more f z (y ∷ ys) x = fold-more f (f z y) ys x

stores-more : (width height : ℕ) (frames : List Frame) (f : Frame) → stores_behind width height (frames ++ f ∷ []) ≡ frame_by_index (stores_behind width height frames) (frame_seen f)
stores-more width height frames f =
    ap (fold frame_by_index (first_stores (first_world width height).back)) (map-append frame_seen frames (f ∷ []))
    ∙ fold-more frame_by_index (first_stores (first_world width height).back) (map frame_seen frames) (frame_seen f)

-- ---- lists with one more

front-at : {A : Type 0} (xs : List A) (i : ℕ) (y x : A) → i < length xs → slice_get (xs ++ y ∷ []) i ≡ Some x → slice_get xs i ≡ Some x
front-at [] i y x lt at = absurd (omega (arith, lt))
front-at (z ∷ xs) zero y x lt at = at
front-at (z ∷ xs) (suc i) y x lt at = front-at xs i y x (omega (arith, lt)) at

front-taken : {A : Type 0} (xs : List A) (i : ℕ) (y : A) → i ≤ length xs → take i (xs ++ y ∷ []) ≡ take i xs
front-taken [] zero y le = refl
front-taken [] (suc i) y le = absurd (omega (arith, le))
front-taken (z ∷ xs) zero y le = refl
front-taken (z ∷ xs) (suc i) y le = ap (λ ys. z ∷ ys) (front-taken xs i y (omega (arith, le)))

last-at : {A : Type 0} (xs : List A) (y x : A) → slice_get (xs ++ y ∷ []) (length xs) ≡ Some x → y ≡ x
last-at [] y x at = cc at
last-at (z ∷ xs) y x at = last-at xs y x at

all-taken : {A : Type 0} (xs ys : List A) → take (length xs) (xs ++ ys) ≡ xs
all-taken [] ys = refl
all-taken (x ∷ xs) ys = ap (λ zs. x ∷ zs) (all-taken xs ys)

-- ---- frames with one more

-- of what is said of a frame and of the stores in which it begins, the frame at a place has this
abbrev pub HasAt : (Stores → Frame → Type 0) → (width height k : ℕ) → List Frame → Type 0
HasAt Q width height k frames = (k < length frames) × ((frame : Frame) → slice_get frames k ≡ Some frame → Q (stores_behind width height (take k frames)) frame)

-- a frame after the one asked for is left alone
pub at-more : (Q : Stores → Frame → Type 0) (width height k : ℕ) (frames : List Frame) (f : Frame) → HasAt Q width height k frames → HasAt Q width height k (frames ++ f ∷ [])
at-more Q width height k frames f h =
    let within = h.0 in
    let many = length-append frames (f ∷ []) in (
      omega (arith, within, many),
      λ g at. subst (λ (fs : List Frame). Q (stores_behind width height fs) g) (sym (front-taken frames k f (omega (arith, within)))) (h.1 g (front-at frames k f g within at)),
    )

-- the frame asked for comes next
pub at-now : (Q : Stores → Frame → Type 0) (width height k left : ℕ) (h : Stores) (frames : List Frame) (f : Frame) → left ≡ 0 → IsBefore width height k left h frames → Q h f → HasAt Q width height k (frames ++ f ∷ [])
at-now Q width height k left h frames f none b said =
    let number = b.0 in
    let many = length-append frames (f ∷ []) in
    let same : k ≡ length frames = omega (arith, number, none) in (
      omega (arith, same, many),
      λ g at.
          let is : f ≡ g = last-at frames f g (ap (slice_get (frames ++ f ∷ [])) (sym same) ∙ at) in
          let front : take k (frames ++ f ∷ []) ≡ frames = ap (λ n. take n (frames ++ f ∷ [])) same ∙ all-taken frames (f ∷ []) in
          subst (λ (fs : List Frame). Q (stores_behind width height fs) g) (sym front)
          (subst (λ (e : Frame). Q (stores_behind width height frames) e) is (subst (λ (k : Stores). Q k f) b.1 said)),
    )

-- the same of a history
traced-more : (a : Asked) (frames : List Frame) (f : Frame) (t : History) → HasTraced a frames t → HasTraced a (frames ++ f ∷ []) t
traced-more a frames f t h = at-more (λ st g. IsTracedIn st a.spot.x a.spot.y g t) a.width a.height a.spot.frame frames f h

traced-now : (a : Asked) (left : ℕ) (h : Stores) (frames : List Frame) (f : Frame) (t : History) → left ≡ 0 → IsBefore a.width a.height a.spot.frame left h frames → IsTracedIn h a.spot.x a.spot.y f t → HasTraced a (frames ++ f ∷ []) t
traced-now a left h frames f t none b traced = at-now (λ st g. IsTracedIn st a.spot.x a.spot.y g t) a.width a.height a.spot.frame left h frames f none b traced

some-same : (a b : History) → Some a ≡ Some b → a ≡ b
some-same a b is = cc is

-- one frame more was rendered
pub before-more : (width height frame left later : ℕ) (h next : Stores) (frames : List Frame) (f : Frame) → left ≡ later + 1 → next ≡ frame_by_index h (frame_seen f)
    → IsBefore width height frame left h frames → IsBefore width height frame later next (frames ++ f ∷ [])
before-more width height frame left later h next frames f less rendered b =
    let number = b.0 in
    let many = length-append frames (f ∷ []) in
    (omega (arith, number, many, less), rendered ∙ ap (λ (g : Stores). frame_by_index g (frame_seen f)) b.1 ∙ sym (stores-more width height frames f))

-- a frame before the one asked for is rendered
pub render-reaches : (a : Asked) (left later : ℕ) (h next : Stores) (o : Option History) (frames : List Frame) (f : Frame) → o ≡ None → left ≡ later + 1 → next ≡ frame_by_index h (frame_seen f)
    → Reaches a left h o frames → Reaches a later next o (frames ++ f ∷ [])
render-reaches a left later h next o frames f none less rendered r =
    let b = r.0 none in (
      (λ e. before-more a.width a.height a.spot.frame left later h next frames f less rendered b),
      (λ t some. absurd (cc (sym none ∙ some))),
    )

-- the frame asked for is traced
pub trace-reaches : (a : Asked) (left later : ℕ) (h next : Stores) (o : Option History) (frames : List Frame) (f : Frame) (t : History) → o ≡ None → left ≡ 0 → Reaches a left h o frames → IsTracedIn h a.spot.x a.spot.y f t
    → Reaches a later next (Some t) (frames ++ f ∷ [])
trace-reaches a left later h next o frames f t none here r traced = (
  (λ e. absurd (cc e)),
  (λ u same. subst (λ (v : History). HasTraced a (frames ++ f ∷ []) v) (some-same t u same) (traced-now a left h frames f t here (r.0 none) traced)),
)

-- a frame is left alone where the one asked for was traced, or something was wanting
pub alone-reaches : (a : Asked) (left : ℕ) (h : Stores) (o : Option History) (whole : Bool) (frames : List Frame) (f : Frame) → (whole ≡ false) ⊎ (is_some o ≡ true)
    → (whole ≡ true → Reaches a left h o frames) → whole ≡ true → Reaches a left h o (frames ++ f ∷ [])
alone-reaches a left h o whole frames f (inl e) r is = absurd (cc (sym e ∙ is))
alone-reaches a left h None whole frames f (inr e) r is = absurd (cc e)
alone-reaches a left h (Some t) whole frames f (inr e) r is = ((λ n. absurd (cc n)), (λ u same. traced-more a frames f u ((r is).1 u same)))

pub none-of : (o : Option History) → is_some o ≡ false → o ≡ None
none-of None e = refl
none-of (Some t) e = absurd (cc e)

pub is-true : (b : Bool) → not b ≡ false → b ≡ true
is-true true e = refl
is-true false e = absurd (cc e)

-- what is said of a history that is there
pub history-is : (o : Option History) (P : History → Type 0) → ((t : History) → o ≡ Some t → P t) → IfSome o P
history-is None P given = tt
history-is (Some t) P given = given t refl

-- what a tracer that was given frames has traced
pub history-traced : (t : Tracer) → t.is_whole ≡ true → IfSome t.history (λ h. (frames : List Frame) → Traces t frames → HasTraced t.asked frames h)
history-traced t whole = history-is t.history (λ h. (frames : List Frame) → Traces t frames → HasTraced t.asked frames h) (λ h is frames traces. (traces whole).1 h is)

-- the same of the frames that it was given
pub history-given : (t : Tracer) (frames : List Frame) (o : Option History) → Traces t frames → IfSome o (λ h. (frames : List Frame) → Traces t frames → HasTraced t.asked frames h) → IfSome o (λ h. HasTraced t.asked frames h)
history-given t frames None traces is = tt
history-given t frames (Some h) traces is = is frames traces

-- the same frames by another name
pub traces-same : (t : Tracer) (old new : List Frame) → new ≡ old → Traces t old → Traces t new
traces-same t old new same = subst (λ (fs : List Frame). Traces t fs) (sym same)

-- the stores after a frame that was shown
pub shown-stores : (o : Outcome) (old : Stores) (f : FrameData) (new : Stores) → o ≡ outcomes.Shown → StoresAfter o old f new → new ≡ frame_by_index old f
shown-stores o old f new is after = subst (λ (p : Outcome). StoresAfter p old f new) is after

-- ---- the frame at a place

-- a frame with those before it and behind it
pub record Cut (frames : List Frame) (k : ℕ) : Type 0 where
  pub frame : Frame
  pub at : slice_get frames k ≡ Some frame
  pub are : frames ≡ take k frames ++ frame ∷ drop (suc k) frames
  pub many : length (take k frames) ≡ k

pub cut-at : (frames : List Frame) (k : ℕ) → k < length frames → Cut frames k
cut-at [] k lt = absurd (omega (arith, lt))
cut-at (f ∷ frames) zero lt = record { frame = f; at = refl; are = refl; many = refl }
cut-at (f ∷ frames) (suc k) lt =
    let n = cut-at frames k (omega (arith, lt)) in
    record { frame = n.frame; at = n.at; are = ap (λ (fs : List Frame). f ∷ fs) n.are; many = ap suc n.many }

-- What a run that was done has told.
use Rattle.std.proofs.Common.{◌≡◌, ◌∙◌, ℕ, zero, suc, ◌<◌, ◌≤◌, Bool, true, false, List, [], ◌∷◌, length, Option, Some, None, Result, Ok, Err, slice_get, refl, sym, ap, subst, arith}
use Rattle.std.specs.Prelude.{drop, if◌then◌else◌, option_map, unwrap_or}
use Rattle.std.proofs.lemmas.List.{length-map}
use Rattle.std.proofs.lemmas.Option.{none-some, same_Some}
use Rattle.gfx_model.specs.Words.{Handle}
use Rattle.gfx_model.specs.World.{World, FrameContent, first_world, frame_step, surface_of}
use Rattle.scene_model.specs.Scene.{Scene}
use Rattle.scene_model.specs.Fold.{FramePlan, plans}
use Rattle.scene_model.specs.Grammar.{Fault, scene_of, front_of, whole_language}
use Rattle.scene_model.specs.Journal.{Entry, Journal, fault_place, frame_content, serial_from, serial}
use Rattle.scene_model.specs.JournalText.{journal_of}
use Rattle.scene_model.proofs.FaultLaws.{fault-law}
use Rattle.io_whole.specs.Whole.{longest}
use Rattle.scene_laws.specs.Readables.{ColorsLaw}
use Rattle.scene_laws.specs.SceneFrames.{scene_frames}
use Rattle.scene_progress.specs.Laws.{FrameCountLaw, PlanCountLaw}
use Rattle.scene_text.proofs.Bounded.{bounded, front_bounded}
use Rattle.spelling_model.specs.Readable.{IsReadable}
use Rattle.target_laws.specs.Laws.{SceneTargetLaw, TargetHistoryLaw, TargetLastLaw}
use Rattle.target_laws.specs.Names.{is_drawn_on, target_named, thing_in}
use Rattle.target_laws.specs.Targets.{has_pixel, target_history, target_pixel}
use Rattle.target_laws.specs.Text.{frame_target_lines, scene_target_lines, target_lines, target_lines_at}
use Rattle.target_scenes.proofs.Tells.{if-drawn}
use Rattle.target_scenes.specs.Numbered as numbered
use Rattle.target_scenes.specs.Numbered.{numbered_target_lines}
use Rattle.trace_laws.specs.Deeds as deeds
use Rattle.trace_laws.specs.Doers.{doers}
use Rattle.std.specs.Prelude.{flat_map}
use Rattle.scene_model.specs.Output.{picture_text}
use Rattle.trace_laws.specs.Laws.{MomentLaw, ScenePixelLaw, StepLaw}
use Rattle.trace_laws.specs.Moments.{Moment, moments_from}
use Rattle.trace_lines.specs.Numbered.{lines_at}
use Rattle.item_lines.specs.Items.{item_lines}
use Rattle.trace_lines.specs.Steps.{step_lines}
use Rattle.scene_tracing.specs.Blame.{blame_at}
use Rattle.scene_tracing.specs.Steps.{doers_at, steps_at}
use Rattle.gfx_trace.specs.Asked.{Asked, scene_by, no_scene, no_journal, unless_fault, by_journal, behind_front, alone_or_front, asked_of}
use Rattle.gfx_trace.specs.Lines.{AreSeen, IsBlamed, IsTold, IsToldOf}

-- ---- a journal has a list for each frame

abbrev pair_of : Asked → Option (Scene × Journal)
pair_of (scene_by s j) = Some (s, j)
pair_of (no_scene fault) = None
pair_of (no_journal place) = None

abbrev HasAll : Scene × Journal → Type 0
HasAll q = length q.1 ≡ length q.0.frames

same : (s t : Scene) (j i : Journal) → scene_by t i ≡ scene_by s j → HasAll (t, i) → HasAll (s, j)
same s t j i is all = subst HasAll (same_Some (t, i) (s, j) (ap pair_of is)) all

taken : (s : Scene) (j : Journal) (t : Scene) (i : Journal) (o : Option ℕ) → fault_place (plans t) i ≡ o → unless_fault t i o ≡ scene_by s j → HasAll (s, j)
taken s j t i None lawful is = same s t j i is ((fault-law t i).0 lawful).1
taken s j t i (Some place) lawful is = absurd (cc is)

journaled : (s : Scene) (j : Journal) (t : Scene) (r : Result Journal ℕ) → by_journal t r ≡ scene_by s j → HasAll (s, j)
journaled s j t (Ok i) is = taken s j t i (fault_place (plans t) i) refl is
journaled s j t (Err place) is = absurd (cc is)

behind : (s : Scene) (j : Journal) (bytes : List ℕ) (r : Result (Scene × ℕ) Fault) → behind_front bytes r ≡ scene_by s j → HasAll (s, j)
behind s j bytes (Ok front) is = journaled s j front.0 (journal_of (drop front.1 bytes) (length front.0.frames)) is
behind s j bytes (Err fault) is = absurd (cc is)

alone : PlanCountLaw → (s : Scene) (j : Journal) (bytes : List ℕ) (r : Result Scene Fault) → alone_or_front bytes r ≡ scene_by s j → HasAll (s, j)
alone many s j bytes (Ok t) is = same s t j (serial t) is (length-map (plans t) (λ (p : FramePlan). serial_from 0 p.encoders) ∙ many t)
alone many s j bytes (Err fault) is = behind s j bytes (front_of whole_language bytes) is

-- ---- what a frame begins with

record Has {A : Type 0} (xs : List A) (k : ℕ) : Type 0 where
  it : A
  at : slice_get xs k ≡ Some it

has : {A : Type 0} (xs : List A) (k : ℕ) → k < length xs → Has xs k
has [] k lt = absurd (omega (arith, lt))
has (x ∷ xs) zero lt = record { it = x; at = refl }
has (x ∷ xs) (suc k) lt = let h = has xs k (omega (arith, lt)) in record { it = h.it; at = h.at }

abbrev moment_of : World → FramePlan → List Entry → Moment
moment_of w p entries = record { world = w; content = frame_content p entries }

begun : (w : World) (ps : List FramePlan) (j : Journal) (k : ℕ) → k < length ps → k < length j → Has (moments_from w ps j) k
begun w [] j k a b = absurd (omega (arith, a))
begun w (p ∷ ps) [] k a b = absurd (omega (arith, b))
begun w (p ∷ ps) (entries ∷ j) zero a b = record { it = moment_of w p entries; at = refl }
begun w (p ∷ ps) (entries ∷ j) (suc k) a b =
    let next = begun (frame_step w (frame_content p entries)) ps j k (omega (arith, a)) (omega (arith, b)) in
    record { it = next.it; at = next.at }

-- the lines of a pixel of a frame that is there, of what a scene is asked for
pub is-told : MomentLaw → ScenePixelLaw → PlanCountLaw → (bytes : List ℕ) (s : Scene) (j : Journal) (k x y : ℕ) → asked_of bytes ≡ scene_by s j → k < length s.frames → x < s.width → y < s.height → IsTold bytes s j k x y
is-told moment_law pixel_law many bytes s j k x y asked frame column row =
    let lists = alone many s j bytes (scene_of whole_language bytes) asked in
    let planned : length (plans s) ≡ length s.frames = many s in
    let plan = has (plans s) k (omega (arith, planned, frame)) in
    let entries = has j k (omega (arith, lists, frame)) in
    let m = begun (first_world s.width s.height) (plans s) j k (omega (arith, planned, frame)) (omega (arith, lists, frame)) in
    let shows = moment_law s j k ∙ ap (option_map (λ (n : Moment). (frame_step n.world n.content).back.color)) m.at in
    record {
      moment = m.it;
      plan = plan.it;
      entries = entries.it;
      picture = (frame_step m.it.world m.it.content).back.color;
      begins = m.at;
      planned = plan.at;
      ordered = entries.at;
      shows = shows;
      lines = λ i. lines_at (item_lines bytes s k) x y (m.at i) (plan.at i) (entries.at i);
      color = pixel_law s j k x y m.it (frame_step m.it.world m.it.content).back.color column row m.at shows;
    }

-- the pictures of the steps of a frame that is there, and their lines
pub are-seen : MomentLaw → StepLaw → PlanCountLaw → (bytes : List ℕ) (s : Scene) (j : Journal) (k : ℕ) → asked_of bytes ≡ scene_by s j → k < length s.frames → AreSeen bytes s j k
are-seen moment_law step_law many bytes s j k asked frame =
    let lists = alone many s j bytes (scene_of whole_language bytes) asked in
    let planned : length (plans s) ≡ length s.frames = many s in
    let plan = has (plans s) k (omega (arith, planned, frame)) in
    let entries = has j k (omega (arith, lists, frame)) in
    let m = begun (first_world s.width s.height) (plans s) j k (omega (arith, planned, frame)) (omega (arith, lists, frame)) in
    let shows = moment_law s j k ∙ ap (option_map (λ (n : Moment). (frame_step n.world n.content).back.color)) m.at in
    record {
      moment = m.it;
      plan = plan.it;
      entries = entries.it;
      picture = (frame_step m.it.world m.it.content).back.color;
      begins = m.at;
      planned = plan.at;
      ordered = entries.at;
      shows = shows;
      pictures = ap steps_at m.at;
      steps = step_law m.it.world m.it.content;
      last = (step_law m.it.world m.it.content).last;
      lines = λ i. step_lines (item_lines bytes s k) 1 (doers_at (plan.at i) (entries.at i));
    }

-- the numbers of a frame that is there
pub is-blamed : PlanCountLaw → (bytes : List ℕ) (s : Scene) (j : Journal) (k : ℕ) → asked_of bytes ≡ scene_by s j → k < length s.frames → IsBlamed s j k
is-blamed many bytes s j k asked frame =
    let lists = alone many s j bytes (scene_of whole_language bytes) asked in
    let planned : length (plans s) ≡ length s.frames = many s in
    let m = begun (first_world s.width s.height) (plans s) j k (omega (arith, planned, frame)) (omega (arith, lists, frame)) in
    record { moment = m.it; begins = m.at; numbers = ap blame_at m.at }

-- ---- a pixel of a frame buffer

-- a scene that bytes ask for is readable
abbrev IsReadableIn : Scene × Journal → Type 0
IsReadableIn q = IsReadable q.0

same_readable : (s t : Scene) (j i : Journal) → scene_by t i ≡ scene_by s j → IsReadable t → IsReadable s
same_readable s t j i is all = subst IsReadableIn (same_Some (t, i) (s, j) (ap pair_of is)) all

taken_readable : (s : Scene) (j : Journal) (t : Scene) (i : Journal) (o : Option ℕ) → IsReadable t → unless_fault t i o ≡ scene_by s j → IsReadable s
taken_readable s j t i None readable is = same_readable s t j i is readable
taken_readable s j t i (Some place) readable is = absurd (cc is)

journaled_readable : (s : Scene) (j : Journal) (t : Scene) (r : Result Journal ℕ) → IsReadable t → by_journal t r ≡ scene_by s j → IsReadable s
journaled_readable s j t (Ok i) readable is = taken_readable s j t i (fault_place (plans t) i) readable is
journaled_readable s j t (Err place) readable is = absurd (cc is)

behind_readable : (s : Scene) (j : Journal) (bytes : List ℕ) (r : Result (Scene × ℕ) Fault) → length bytes ≤ longest → front_of whole_language bytes ≡ r → behind_front bytes r ≡ scene_by s j → IsReadable s
behind_readable s j bytes (Ok front) few read is = journaled_readable s j front.0 (journal_of (drop front.1 bytes) (length front.0.frames)) (front_bounded bytes front (omega (arith, few)) read).0 is
behind_readable s j bytes (Err fault) few read is = absurd (cc is)

alone_readable : (s : Scene) (j : Journal) (bytes : List ℕ) (r : Result Scene Fault) → length bytes ≤ longest → scene_of whole_language bytes ≡ r → alone_or_front bytes r ≡ scene_by s j → IsReadable s
alone_readable s j bytes (Ok t) few read is = same_readable s t j (serial t) is (bounded bytes t (omega (arith, few)) read).0
alone_readable s j bytes (Err fault) few read is = behind_readable s j bytes (front_of whole_language bytes) few refl is

-- the laws by which it is told
pub record TargetTelling : Type 0 where
  pub history : TargetHistoryLaw
  pub last : TargetLastLaw
  pub traced : SceneTargetLaw
  pub colors : ColorsLaw
  pub many : FrameCountLaw
  pub planned : PlanCountLaw

-- where a pixel has lines, the frame buffer is there and has it
abbrev if-there : (List (List ℕ)) → World → FrameContent → FramePlan → List Entry → (x y : ℕ) → Handle → Bool → Option (List ℕ)
if-there numbers w f p entries x y t b = if b then Some (numbered_target_lines numbers (doers p entries) (target_pixel (deeds.begun w f) t x y) (target_history w f t x y)) else None

record HasTarget (w : World) (p : FramePlan) (entries : List Entry) (f : FrameContent) (x y : ℕ) (o : Option Handle) : Type 0 where
  target : Handle
  is : o ≡ Some target
  has : has_pixel (surface_of (deeds.begun w f) (Some target)) x y ≡ true

has-pixel : (w : World) (p : FramePlan) (entries : List Entry) (f : FrameContent) (x y : ℕ) (t : Handle) (text : List ℕ) (b : Bool) → has_pixel (surface_of (deeds.begun w f) (Some t)) x y ≡ b
    → (if b then Some (target_lines (doers p entries) (target_pixel (deeds.begun w f) t x y) (target_history w f t x y)) else None) ≡ Some text → b ≡ true
has-pixel w p entries f x y t text true is told = refl
has-pixel w p entries f x y t text false is told = absurd (none-some text told)

has-target : (w : World) (p : FramePlan) (entries : List Entry) (f : FrameContent) (x y : ℕ) (text : List ℕ) (o q : Option Handle) → o ≡ q → frame_target_lines w p entries f x y q ≡ Some text → HasTarget w p entries f x y o
has-target w p entries f x y text o None is told = absurd (none-some text told)
has-target w p entries f x y text o (Some t) is told =
    let b = has_pixel (surface_of (deeds.begun w f) (Some t)) x y in
    record { target = t; is = is; has = has-pixel w p entries f x y t text b refl told }

pub is-told-of : TargetTelling → (bytes : List ℕ) (s : Scene) (j : Journal) (k : ℕ) (name : List ℕ) (x y : ℕ) (text : List ℕ) → asked_of bytes ≡ scene_by s j → length bytes ≤ longest → k < length s.frames → scene_target_lines s j k name x y ≡ Some text
    → IsToldOf bytes s j k name x y
is-told-of laws bytes s j k name x y text asked few frame told =
    let lists = alone laws.planned s j bytes (scene_of whole_language bytes) asked in
    let planned : length (plans s) ≡ length s.frames = laws.planned s in
    let plan = has (plans s) k (omega (arith, planned, frame)) in
    let entries = has j k (omega (arith, lists, frame)) in
    let m = begun (first_world s.width s.height) (plans s) j k (omega (arith, planned, frame)) (omega (arith, lists, frame)) in
    let readable = alone_readable s j bytes (scene_of whole_language bytes) few refl asked in
    let framed : length (scene_frames s j) ≡ length j = laws.many s j (omega (arith, lists)) in
    let frame_at = has (scene_frames s j) k (omega (arith, framed, lists, frame)) in
    let here : frame_target_lines m.it.world plan.it entries.it m.it.content x y (target_named s k name m.it.content.views) ≡ Some text = (λ i. target_lines_at s k name x y (sym m.at i) (sym plan.at i) (sym entries.at i)) ∙ told in
    let t = has-target m.it.world plan.it entries.it m.it.content x y text (target_named s k name m.it.content.views) (target_named s k name m.it.content.views) refl here in
    let on = if-drawn (is_drawn_on m.it.content.views) (thing_in s k name) t.target t.is in
    let traced = laws.traced s j (laws.colors s readable) k frame_at.it m.it t.target frame_at.at m.at on in
    let numbers : List (List ℕ) = item_lines bytes s k in
    let lines : numbered.scene_numbered_target_lines numbers s j k name x y ≡ if-there numbers m.it.world m.it.content plan.it entries.it x y t.target true =
    (λ i. numbered.target_lines_at numbers s k name x y (m.at i) (plan.at i) (entries.at i))
    ∙ ap (numbered.target_lines_from numbers m.it plan.it entries.it x y) t.is
    ∙ ap (if-there numbers m.it.world m.it.content plan.it entries.it x y t.target) t.has in
    record {
      moment = m.it;
      plan = plan.it;
      entries = entries.it;
      target = t.target;
      begins = m.at;
      planned = plan.at;
      ordered = entries.at;
      named = t.is;
      has = t.has;
      lines = ap (λ (o : Option (List ℕ)). unwrap_or o []) lines;
      there = traced.there;
      last = laws.history m.it.world m.it.content t.target x y traced.there;
      color = laws.last m.it.world m.it.content t.target x y traced.there;
    }

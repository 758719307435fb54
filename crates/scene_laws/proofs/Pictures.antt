-- The frames of a scene by index have its pictures.
use Rattle.std.proofs.Common.{◌≡◌, ℕ, zero, suc, ◌+◌, ◌≤◌, Bool, List, [], ◌∷◌, ◌++◌, map, fold, filter_map, Option, Some, None, refl, sym, ap, ◌∙◌, subst, arith, slice_get}
use Rattle.std.specs.List.{AllByRecursion, range_with_len}
use Rattle.std.specs.List.{cons_option}
use Rattle.std.specs.Option.{option_and_then}
use Rattle.std.proofs.lemmas.Option.{same_Some, none-some}
use Rattle.std.proofs.lemmas.List.Sums.{fold-append}
use Rattle.gfx_model.specs.Words.{Handle}
use Rattle.gfx_model.specs.World.{Content, World, Item, FrameContent, frame_step, first_world}
use Rattle.gfx_model.specs.Resources.{Resources, ResourceCall, start_frame, deaths_in, opening}
use Rattle.store_laws.specs.ByIndex.{FrameData, first_stores}
use Rattle.store_laws.specs.Says.{left, made_none, died_none}
use Rattle.store_laws.specs.Run.{Frames, empty_world, pictures_by_index, pictures_of}
use Rattle.store_laws.proofs.RunLaws.{run_shows}
use Rattle.store_laws.proofs.Start.{start_stands}
use Rattle.call_laws.specs.Calls.{Written, after_call, IsWritten, nothing_written}
use Rattle.call_laws.specs.Context.{AllAccepted, no_call, next_call, after_calls, data_of, content_by, HasItem, HasTargets, ContextFrames, no_more, one_more}
use Rattle.call_laws.proofs.ContextLaws.{frames_of, written_next}
use Rattle.resource_laws.proofs.AttachLaws.{all_more}
use Rattle.resource_laws.proofs.StartLaws.{lawful_opening}
use Rattle.scene_model.specs.Scene.{SceneFrame, Scene, views_of, latency_of}
use Rattle.scene_model.specs.Fold.{Progress, at_start, after_lines, Accepted, accepted_of, recording_of, FramePlan, plan_of, plans_from, plans, first_progress}
use Rattle.scene_model.specs.Journal.{Entry, Journal, item_of, frame_content, pictures_from, pictures}
use Rattle.scene_laws.specs.SceneFrames.{calls_of, written_by, items_by, frame_data, frames_from, scene_frames, FrameHasColors, HasColors}
use Rattle.scene_laws.proofs.Accepting.{IsGiven, place_by}
use Rattle.scene_laws.proofs.Lines.{Known, Done, written_at, new_of, all_left, all_right, lines_done}
use Rattle.scene_laws.proofs.Recording.{block_has, item_stays}
use Rattle.scene_laws.proofs.Given.{new_from, given_in, run_given}
use Rattle.scene_laws.proofs.Starting.{known_started}

-- ---- the definition's frames

-- what the frames are drawn from, as far as the journal goes
abbrev pub contents_from : List FramePlan → Journal → List FrameContent
contents_from [] j = []
contents_from (p ∷ ps) [] = []
contents_from (p ∷ ps) (entries ∷ rest) = frame_content p entries ∷ contents_from ps rest

pictures_same : (w : World) (ps : List FramePlan) (j : Journal) → pictures_of w (contents_from ps j) ≡ pictures_from w ps j
pictures_same w [] j = refl
pictures_same w (p ∷ ps) [] = refl
pictures_same w (p ∷ ps) (entries ∷ rest) = ap (λ ts. (frame_step w (frame_content p entries)).back.color ∷ ts) (pictures_same (frame_step w (frame_content p entries)) ps rest)

-- ---- items

some_item : (P : Item → Type 0) (items : List Item) (i : ℕ) (x : Item) → AllByRecursion P items → slice_get items i ≡ Some x → P x
some_item P [] i x a e = absurd cc
some_item P (y ∷ ys) zero x a e = subst P (same_Some y x e) a.0
some_item P (y ∷ ys) (suc i) x a e = some_item P ys i x a.1 e

some_encoder : (P : Item → Type 0) (encoders : List Accepted) (e : ℕ) (x : Accepted) → AllByRecursion (λ a. AllByRecursion P a.items) encoders → slice_get encoders e ≡ Some x → AllByRecursion P x.items
some_encoder P [] i x a e = absurd cc
some_encoder P (y ∷ ys) zero x a e = subst (λ (z : Accepted). AllByRecursion P z.items) (same_Some y x e) a.0
some_encoder P (y ∷ ys) (suc i) x a e = some_encoder P ys i x a.1 e

-- an optional item has a property
abbrev HasOption : (Item → Type 0) → Option Item → Type 0
HasOption P None = Unit {0}
HasOption P (Some i) = P i

entry_has : (P : Item → Type 0) (encoders : List Accepted) (n : Entry) → AllByRecursion (λ a. AllByRecursion P a.items) encoders → HasOption P (item_of encoders n)
entry_has P encoders n a = outer (slice_get encoders n.encoder) (λ x e. some_encoder P encoders n.encoder x a e)
  where
    inner : (items : List Item) (o : Option Item) → ((x : Item) → o ≡ Some x → P x) → HasOption P o
    inner items None f = tt
    inner items (Some x) f = f x refl

    outer : (o : Option Accepted) → ((x : Accepted) → o ≡ Some x → AllByRecursion P x.items) → HasOption P (option_and_then (λ a. slice_get a.items n.ordinal) o)
    outer None f = tt
    outer (Some y) f = inner y.items (slice_get y.items n.ordinal) (λ x e. some_item P y.items n.ordinal x (f y refl) e)

pub items_have : (P : Item → Type 0) (encoders : List Accepted) (entries : List Entry) → AllByRecursion (λ a. AllByRecursion P a.items) encoders → AllByRecursion P (items_by encoders entries)
items_have P encoders [] a = tt
items_have P encoders (n ∷ rest) a = step (item_of encoders n) (entry_has P encoders n a) (items_have P encoders rest a)
  where
    step : (o : Option Item) → HasOption P o → AllByRecursion P (items_by encoders rest) → AllByRecursion P (cons_option o (items_by encoders rest))
    step None h q = q
    step (Some i) h q = (h, q)

all_mapped : {A B : Type 0} (f : A → B) (P : B → Type 0) (xs : List A) → ((x : A) → P (f x)) → AllByRecursion P (map f xs)
all_mapped f P [] h = tt
all_mapped f P (x ∷ xs) h = (h x, all_mapped f P xs h)

-- ---- calls of both groups of lines

accepted_both : (place : ℕ → ℕ) (first : List (ℕ × Content)) (v : Written) (xs ys : List ResourceCall) → AllAccepted place first v xs → AllAccepted place first (fold after_call v xs) ys → AllAccepted place first v (xs ++ ys)
accepted_both place first v xs ys no_call b = b
accepted_both place first v (x ∷ xs) ys (next_call a more) b = next_call a (accepted_both place first (after_call v x) xs ys more b)

-- ---- one frame

-- what is known at the start of a frame
pub record Ready (given : ℕ → Handle) (w : World) (gone : List ℕ) (first : Progress) : Type 0 where
  pub known : Known given first
  pub written : IsWritten (place_by given) (left gone w).things (nothing_written first.resources)

module _ (given : ℕ → Handle) (s : Scene) where
  abbrev place : ℕ → ℕ
  place = place_by given

  abbrev before_of : ℕ → Progress → SceneFrame → Progress
  before_of k p f = after_lines s.names (at_start k p) f.before

  abbrev all_of : ℕ → Progress → SceneFrame → Progress
  all_of k p f = after_lines s.names (before_of k p f) f.beside

  -- the frame's calls were done, and its items name what is there
  record FrameDone (w : World) (gone : List ℕ) (k : ℕ) (p : Progress) (f : SceneFrame) (entries : List Entry) : Type 0 where
    accepted : AllAccepted place (left gone w).things (nothing_written (at_start k p).resources) (calls_of s.names (at_start k p) f.before ++ calls_of s.names (before_of k p f) f.beside)
    targets : HasTargets (written_by s.names (at_start k p) f).resources (written_by s.names (at_start k p) f).resources.views
    items : AllByRecursion (HasItem (written_by s.names (at_start k p) f).resources) (items_by (plan_of s k f [] (before_of k p f) (all_of k p f)).encoders entries)
    content : content_by gone (written_by s.names (at_start k p) f) (items_by (plan_of s k f [] (before_of k p f) (all_of k p f)).encoders entries) ≡ frame_content (plan_of s k f gone (before_of k p f) (all_of k p f)) entries
    resources : (written_by s.names (at_start k p) f).resources ≡ (all_of k p f).resources
    known : Known given (all_of k p f)
    frame : (all_of k p f).resources.frame ≡ k
    written : IsWritten place (left gone w).things (written_by s.names (at_start k p) f)

  frame_done : (w : World) (gone : List ℕ) (k : ℕ) (p : Progress) (f : SceneFrame) (entries : List Entry) → Ready given w gone (at_start k p) → FrameHasColors f → AllByRecursion (IsGiven given) (new_of s.names (at_start k p) f.before ++ new_of s.names (before_of k p f) f.beside)
      → FrameDone w gone k p f entries
  frame_done w gone k p f entries ready colors new =
      let first : Progress = at_start k p in
      let before : Progress = before_of k p f in
      let all : Progress = all_of k p f in
      let things : List (ℕ × Content) = (left gone w).things in
      let xs : List ResourceCall = calls_of s.names first f.before in
      let ys : List ResourceCall = calls_of s.names before f.beside in
      let nothing : Written = nothing_written first.resources in
      let d = lines_done given things s.names f.before first [] [] [] [] ready.known ready.written colors.before (all_left (IsGiven given) (new_of s.names first f.before) (new_of s.names before f.beside) new) in
      let e = lines_done given things s.names f.beside before d.pre d.post d.payloads d.dying d.known d.written colors.beside (all_right (IsGiven given) (new_of s.names first f.before) (new_of s.names before f.beside) new) in
      let last : Written = written_at all e.pre e.post e.payloads e.dying in
      let v : Written = written_by s.names first f in
      let same : v ≡ last = fold-append after_call nothing xs ys ∙ ap (λ u. fold after_call u ys) d.same ∙ e.same in
      let encoders : List Accepted = (plan_of s k f [] before all).encoders in
      let items : List Item = items_by encoders entries in
      let there : AllByRecursion (HasItem all.resources) items =
      items_have (HasItem all.resources) encoders entries
      (all_mapped (λ n. accepted_of (recording_of s k before f n)) (λ a. AllByRecursion (HasItem all.resources) a.items) (range_with_len 0 s.encoders)
      (λ n. all_more (HasItem before.resources) (HasItem all.resources) (item_stays before.resources all.resources e.stays) (recording_of s k before f n).recorder.items (block_has given before d.known s k f n (sym d.frame)))) in
      record {
        accepted = accepted_both place things nothing xs ys d.accepted (subst (λ (u : Written). AllAccepted place things u ys) (sym d.same) e.accepted);
        targets = subst (λ (u : Written). HasTargets u.resources u.resources.views) (sym same) e.known.targets;
        items = subst (λ (u : Written). AllByRecursion (HasItem u.resources) items) (sym same) there;
        content = ap (λ (u : Written). content_by gone u items) same;
        resources = ap (λ (u : Written). u.resources) same;
        known = e.known;
        frame = e.frame ∙ d.frame;
        written = subst (λ (u : Written). IsWritten place things u) (sym same) e.written;
      }

  -- ---- all frames

  all_frames : (frames : List SceneFrame) (j : Journal) (w : World) (gone : List ℕ) (k : ℕ) (p : Progress) → Ready given w gone (at_start k p) → AllByRecursion FrameHasColors frames → AllByRecursion (IsGiven given) (new_from s k p frames)
      → ContextFrames place w gone (start_frame k p.resources) (frames_from s k p frames j) (contents_from (plans_from s k gone p frames) j)
  all_frames [] j w gone k p ready colors new = no_more
  all_frames (f ∷ rest) [] w gone k p ready colors new = no_more
  all_frames (f ∷ rest) (entries ∷ later) w gone k p ready colors new =
      let first : Progress = at_start k p in
      let before : Progress = before_of k p f in
      let all : Progress = all_of k p f in
      let now : List Handle = new_of s.names first f.before ++ new_of s.names before f.beside in
      let d = frame_done w gone k p f entries ready colors.0 (all_left (IsGiven given) now (new_from s (k + 1) all rest) new) in
      let v : Written = written_by s.names first f in
      let items : List Item = items_by (plan_of s k f [] before all).encoders entries in
      let plan : FramePlan = plan_of s k f gone before all in
      let next : World = frame_step w (frame_content plan entries) in
      let fs : List FrameData = frames_from s (k + 1) all rest later in
      let cs : List FrameContent = contents_from (plans_from s (k + 1) (deaths_in k all.resources) all rest) later in
      let written_raw : IsWritten place (left (deaths_in v.resources.frame v.resources) (frame_step w (content_by gone v items))).things (nothing_written (start_frame (v.resources.frame + 1) v.resources)) = written_next place w gone v items d.written in
      let written_content : IsWritten place (left (deaths_in v.resources.frame v.resources) next).things (nothing_written (start_frame (v.resources.frame + 1) v.resources)) =
      subst (λ (c : FrameContent). IsWritten place (left (deaths_in v.resources.frame v.resources) (frame_step w c)).things (nothing_written (start_frame (v.resources.frame + 1) v.resources))) d.content written_raw in
      let written_all : IsWritten place (left (deaths_in all.resources.frame all.resources) next).things (nothing_written (start_frame (all.resources.frame + 1) all.resources)) =
      subst (λ (r : Resources). IsWritten place (left (deaths_in r.frame r) next).things (nothing_written (start_frame (r.frame + 1) r))) d.resources written_content in
      let written : IsWritten place (left (deaths_in k all.resources) next).things (nothing_written (start_frame (k + 1) all.resources)) =
      subst (λ n. IsWritten place (left (deaths_in n all.resources) next).things (nothing_written (start_frame (n + 1) all.resources))) d.frame written_all in
      let told = d.frame in
      let known : Known given (at_start (k + 1) all) = known_started given (k + 1) all d.known (omega (arith, told)) in
      let more : ContextFrames place next (deaths_in k all.resources) (start_frame (k + 1) all.resources) fs cs =
      all_frames rest later next (deaths_in k all.resources) (k + 1) all (record { known = known; written = written }) colors.1 (all_right (IsGiven given) now (new_from s (k + 1) all rest) new) in
      let more_all : ContextFrames place next (deaths_in all.resources.frame all.resources) (start_frame (all.resources.frame + 1) all.resources) fs cs =
      subst (λ n. ContextFrames place next (deaths_in n all.resources) (start_frame (n + 1) all.resources) fs cs) (sym d.frame) more in
      let more_by : ContextFrames place next (deaths_in v.resources.frame v.resources) (start_frame (v.resources.frame + 1) v.resources) fs cs =
      subst (λ (r : Resources). ContextFrames place next (deaths_in r.frame r) (start_frame (r.frame + 1) r) fs cs) (sym d.resources) more_all in
      let more_raw : ContextFrames place (frame_step w (content_by gone v items)) (deaths_in v.resources.frame v.resources) (start_frame (v.resources.frame + 1) v.resources) fs cs =
      subst (λ (c : FrameContent). ContextFrames place (frame_step w c) (deaths_in v.resources.frame v.resources) (start_frame (v.resources.frame + 1) v.resources) fs cs) (sym d.content) more_by in
      subst (λ (c : FrameContent). ContextFrames place w gone (start_frame k p.resources) (data_of v items ∷ fs) (c ∷ cs)) d.content
      (one_more (calls_of s.names first f.before ++ calls_of s.names before f.beside) items d.accepted d.targets d.items more_raw)

-- ---- the whole scene

-- the frames by index of a scene say what the definition's frames have
pub scene_run : (s : Scene) (j : Journal) → HasColors s → (place : ℕ → ℕ) × Frames place (first_world s.width s.height) [] (scene_frames s j) (contents_from (plans s) j)
scene_run s j colors =
    let p : Progress = first_progress s in
    let hs : List Handle = new_from s 0 p s.frames in
    let given : ℕ → Handle = given_in hs in
    let place : ℕ → ℕ = place_by given in
    let w : World = first_world s.width s.height in
    let opened : Known given p = record { lawful = lawful_opening (views_of s) (latency_of s) 0 1 (omega arith); things = tt; names = tt; targets = plain_targets (views_of s) } in
    let known : Known given (at_start 0 p) = known_started given 0 p opened (omega arith) in
    let written : IsWritten place [] (nothing_written (at_start 0 p).resources) = record {
      made = made_none;
      ties = record { same = refl; fit = tt; below = tt; rises = tt; past = tt; apart = tt; ascends = tt };
      dies = record { died = died_none; listed = λ n. refl; hold = tt; deep = tt };
    } in
    let frames = all_frames given s s.frames j w [] 0 p (record { known = known; written = written }) colors (run_given s 0 p s.frames refl) in
    (place, frames_of place w [] [] (start_frame 0 p.resources) (scene_frames s j) (contents_from (plans s) j) (λ n. refl) written frames)
  where
    plain_targets : (n : ℕ) → Rattle.scene_laws.proofs.Lines.TargetsThere (first_progress s).resources (Rattle.std.specs.Prelude.replicate n Rattle.gfx_model.specs.Views.plain_view)
    plain_targets zero = tt
    plain_targets (suc n) = (tt, plain_targets n)

pub scene_pictures : (s : Scene) (j : Journal) → HasColors s → pictures_by_index (first_stores (first_world s.width s.height).back) (scene_frames s j) ≡ pictures s j
scene_pictures s j colors =
    let run = scene_run s j colors in
    let w : World = first_world s.width s.height in
    run_shows run.0 (first_stores w.back) w [] (scene_frames s j) (contents_from (plans s) j) (start_stands run.0 w.back) run.1
    ∙ pictures_same w (plans s) j

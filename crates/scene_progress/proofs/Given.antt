-- The state in each frame is lawful and of that frame, and each name stands for a handle that was given.
use Rattle.std.proofs.Common.{◌≡◌, ℕ, suc, ◌+◌, ◌-◌, ◌<◌, ◌≤◌, ◌==◌, nat_lt, Bool, true, false, ◌&&◌, if◌then◌else◌, List, [], ◌∷◌, ◌++◌, length, take, Option, Some, None, refl, ◌∙◌, subst, arith}
use Rattle.std.specs.List.{AllByRecursion, find}
use Rattle.std.proofs.lemmas.Option.{same_Some, none-some}
use Rattle.gfx_model.specs.Words.{greatest, Handle, UniformKind}
use Rattle.gfx_model.specs.Resources.{Refusal, or_refusal, Thing, Resources, is_at, is_live, has_name, named_uniform, references_of, with_references, on_thing, die, no_change, uniform_effect, ResourceCall, create_layout, create_vertex_buffer, create_index_buffer, create_texture, create_frame_buffer, create_program, create_uniform, update_buffer, update_texture, destroy, change_view, set_view_target, set_view_order, refusal_of, effect}
use Rattle.resource_laws.specs.Lawful.{IsLawful}
use Rattle.resource_laws.proofs.AttachLaws.{all_more}
use Rattle.resource_laws.proofs.CallLaws.{lawful_call}
use Rattle.resource_laws.proofs.LiveLaws.{all_found}
use Rattle.resource_laws.proofs.StartLaws.{lawful_started, lawful_opening}
use Rattle.scene_model.specs.Scene.{Name, ResourceLine, SceneFrame, Scene, views_of, latency_of}
use Rattle.scene_model.specs.Fold.{Bindings, thing_named, resource_call, created_name, Progress, bound_by, after_answer, after_call, after_line, after_lines, at_start, first_progress}
use Rattle.scene_laws.proofs.Moves.{frame_kept}
use Rattle.scene_progress.specs.Progress.{after_frame, progress_from, progress_before, start_of, before_of}
use Rattle.scene_progress.specs.Laws.{LawfulStateLaw, GivenLaw, FrameNumberLaw}
use Rattle.scene_progress.proofs.Lists.{take_few}

-- ---- handles that were given

-- a handle's serial is below a number, and its index is one of its kind
abbrev pub IsBelow : ℕ → Handle → Type 0
IsBelow n h = (h.serial < n) × (h.index < greatest h.kind)

below_more : (m n : ℕ) (h : Handle) → m ≤ n → IsBelow m h → IsBelow n h
below_more m n h le b = let less = b.0 in (omega (arith, less, le), b.1)

-- each name stands for such a handle
abbrev pub NamesBelow : ℕ → Bindings → Type 0
NamesBelow n bs = AllByRecursion (λ b. IsBelow n b.1) bs

names_more : (m n : ℕ) (bs : Bindings) → m ≤ n → NamesBelow m bs → NamesBelow n bs
names_more m n bs le a = all_more (λ b. IsBelow m b.1) (λ b. IsBelow n b.1) (λ b q. below_more m n b.1 le q) bs a

thing_below : (n : ℕ) (bs : Bindings) (name : Name) (h : Handle) → NamesBelow n bs → thing_named bs name ≡ Some h → IsBelow n h
thing_below n [] name h a e = absurd (none-some h e)
thing_below n (b ∷ rest) name h a e = step (b.0 == name) e (thing_below n rest name h a.1)
  where
    step : (c : Bool) → (if c then Some b.1 else thing_named rest name) ≡ Some h → (thing_named rest name ≡ Some h → IsBelow n h) → IsBelow n h
    step true q later = subst (IsBelow n) (same_Some b.1 h q) a.0
    step false q later = later q

bound_below : (n : ℕ) (o : Option Name) (made : Option Handle) (bs : Bindings) → ((h : Handle) → made ≡ Some h → IsBelow n h) → NamesBelow n bs → NamesBelow n (bound_by o made bs)
bound_below n None made bs own a = a
bound_below n (Some name) None bs own a = a
bound_below n (Some name) (Some h) bs own a = (own h refl, a)

-- ---- calls

uniform_grows : (r : Resources) (name : List ℕ) (k : UniformKind) (o : Option Thing) → r.next_serial ≤ (uniform_effect r name k o).after.next_serial
uniform_grows r name k None = omega arith
uniform_grows r name k (Some t) = omega arith

destroy_grows : (r : Resources) (h : Handle) (b : Bool) → r.next_serial ≤ (if b then no_change (on_thing (with_references (λ n. n - 1)) h.serial r) else no_change (die h r)).after.next_serial
destroy_grows r h true = omega arith
destroy_grows r h false = omega arith

-- a call gives no serial back
serial_grows : (r : Resources) (c : ResourceCall) → r.next_serial ≤ (effect r c).after.next_serial
serial_grows r (create_layout l) = omega arith
serial_grows r (create_vertex_buffer l bytes) = omega arith
serial_grows r (create_index_buffer bytes) = omega arith
serial_grows r (create_texture width height f d source) = omega arith
serial_grows r (create_frame_buffer color depth) = omega arith
serial_grows r (create_program k) = omega arith
serial_grows r (create_uniform name k) = uniform_grows r name k (named_uniform r name)
serial_grows r (update_buffer h offset bytes) = omega arith
serial_grows r (update_texture h rect bytes) = omega arith
serial_grows r (destroy h) = destroy_grows r h (nat_lt 1 (references_of (find (is_at h.kind h.index) r.things)))
serial_grows r (change_view v c) = omega arith
serial_grows r (set_view_target v t) = omega arith
serial_grows r (set_view_order ids) = omega arith

last_of : {A : Type 0} (P : A → Type 0) (xs : List A) (x : A) → AllByRecursion P (xs ++ x ∷ []) → P x
last_of P [] x a = a.0
last_of P (y ∷ xs) x a = last_of P xs x a.1

-- the handle of the last thing of a lawful state
last_below : (r s : Resources) (t : Thing) (h : Handle) → IsLawful s → s.things ≡ r.things ++ t ∷ [] → Some t.handle ≡ Some h → IsBelow s.next_serial h
last_below r s t h l is e =
    let below = subst (λ (ts : List Thing). AllByRecursion (λ u. u.handle.serial < s.next_serial) ts) is l.below in
    let fits = subst (λ (ts : List Thing). AllByRecursion (λ u. u.handle.index < greatest u.handle.kind) ts) is l.fits in
    subst (IsBelow s.next_serial) (same_Some t.handle h e)
    (last_of (λ (u : Thing). u.handle.serial < s.next_serial) r.things t below, last_of (λ (u : Thing). u.handle.index < greatest u.handle.kind) r.things t fits)

module _ (r : Resources) (h : Handle) (l : IsLawful r) where
  uniform_below : (name : List ℕ) (k : UniformKind) (o : Option Thing) → named_uniform r name ≡ o → IsLawful (uniform_effect r name k o).after → (uniform_effect r name k o).made ≡ Some h → IsBelow (uniform_effect r name k o).after.next_serial h
  uniform_below name k None is after e = last_below r (uniform_effect r name k None).after _ h after refl e
  uniform_below name k (Some t) is after e =
      let p : Thing → Bool = λ u. is_live u && has_name name u.content in
      subst (IsBelow r.next_serial) (same_Some t.handle h e)
      (all_found (λ (u : Thing). u.handle.serial < r.next_serial) p r.things t l.below is, all_found (λ (u : Thing). u.handle.index < greatest u.handle.kind) p r.things t l.fits is)

  destroy_makes : (b : Bool) (x y : Resources) → (if b then no_change x else no_change y).made ≡ Some h → ⊥
  destroy_makes true x y e = none-some h e
  destroy_makes false x y e = none-some h e

  made_below : (c : ResourceCall) → IsLawful (effect r c).after → (effect r c).made ≡ Some h → IsBelow (effect r c).after.next_serial h
  made_below (create_layout x) after e = last_below r _ _ h after refl e
  made_below (create_vertex_buffer x bytes) after e = last_below r _ _ h after refl e
  made_below (create_index_buffer bytes) after e = last_below r _ _ h after refl e
  made_below (create_texture width height f d source) after e = last_below r _ _ h after refl e
  made_below (create_frame_buffer color depth) after e = last_below r _ _ h after refl e
  made_below (create_program k) after e = last_below r _ _ h after refl e
  made_below (create_uniform name k) after e = uniform_below name k (named_uniform r name) refl after e
  made_below (update_buffer b offset bytes) after e = absurd (none-some h e)
  made_below (update_texture t rect bytes) after e = absurd (none-some h e)
  made_below (destroy g) after e = absurd (destroy_makes _ _ _ e)
  made_below (change_view v c) after e = absurd (none-some h e)
  made_below (set_view_target v t) after e = absurd (none-some h e)
  made_below (set_view_order ids) after e = absurd (none-some h e)

-- ---- lines

-- what lines keep: the state is lawful and of a frame, and each name stands for a handle that was given
pub record Keeps (k : ℕ) (p : Progress) : Type 0 where
  pub lawful : IsLawful p.resources
  pub names : NamesBelow p.resources.next_serial p.bindings
  pub frame : p.resources.frame ≡ k

answer_keeps : (k : ℕ) (p : Progress) (line : ResourceLine) (c : ResourceCall) (o : Option Refusal) → refusal_of p.resources c ≡ o → Keeps k p → Keeps k (after_answer p line (or_refusal (effect p.resources c) o))
answer_keeps k p line c (Some refusal) e q = record { lawful = q.lawful; names = q.names; frame = q.frame }
answer_keeps k p line c None e q =
    let after : Resources = (effect p.resources c).after in
    let lawful : IsLawful after = lawful_call p.resources c q.lawful e in
    record {
      lawful = lawful;
      names = bound_below after.next_serial (created_name line) (effect p.resources c).made p.bindings (λ h made. made_below p.resources h q.lawful c lawful made)
          (names_more p.resources.next_serial after.next_serial p.bindings (serial_grows p.resources c) q.names);
      frame = frame_kept p.resources c ∙ q.frame;
    }

line_keeps : (k : ℕ) (p : Progress) (line : ResourceLine) (o : Option ResourceCall) → Keeps k p → Keeps k (after_call p line o)
line_keeps k p line None q = record { lawful = q.lawful; names = q.names; frame = q.frame }
line_keeps k p line (Some c) q = answer_keeps k p line c (refusal_of p.resources c) refl q

pub lines_keep : (k : ℕ) (names : List (List ℕ)) (p : Progress) (lines : List ResourceLine) → Keeps k p → Keeps k (after_lines names p lines)
lines_keep k names p [] q = q
lines_keep k names p (line ∷ rest) q = lines_keep k names (after_line names p line) rest (line_keeps k p line (resource_call p.bindings names line) q)

-- ---- frames

-- what is kept from frame to frame: the state is of an earlier frame
pub record KeepsBefore (k : ℕ) (p : Progress) : Type 0 where
  pub lawful : IsLawful p.resources
  pub names : NamesBelow p.resources.next_serial p.bindings
  pub frame : p.resources.frame ≤ k

start_keeps : (k : ℕ) (p : Progress) → KeepsBefore k p → Keeps k (at_start k p)
start_keeps k p q = record { lawful = lawful_started p.resources k q.lawful q.frame; names = q.names; frame = refl }

later_keeps : (m n : ℕ) (p : Progress) → m ≤ n → KeepsBefore m p → KeepsBefore n p
later_keeps m n p le q = let frame = q.frame in record { lawful = q.lawful; names = q.names; frame = omega (arith, frame, le) }

frame_keeps : (names : List (List ℕ)) (k : ℕ) (p : Progress) (f : SceneFrame) → KeepsBefore k p → KeepsBefore (k + 1) (after_frame names k p f)
frame_keeps names k p f q =
    let before : Progress = after_lines names (at_start k p) f.before in
    let all : Keeps k (after_frame names k p f) = lines_keep k names before f.beside (lines_keep k names (at_start k p) f.before (start_keeps k p q)) in
    let same = all.frame in
    record { lawful = all.lawful; names = all.names; frame = omega (arith, same) }

frames_keep : (names : List (List ℕ)) (k : ℕ) (p : Progress) (frames : List SceneFrame) → KeepsBefore k p → KeepsBefore (k + length frames) (progress_from names k p frames)
frames_keep names k p [] q = later_keeps k (k + 0) p (omega arith) q
frames_keep names k p (f ∷ rest) q =
    later_keeps (k + 1 + length rest) (k + suc (length rest)) (progress_from names (k + 1) (after_frame names k p f) rest) (omega arith)
    (frames_keep names (k + 1) (after_frame names k p f) rest (frame_keeps names k p f q))

first_keeps : (s : Scene) → KeepsBefore 0 (first_progress s)
first_keeps s = record { lawful = lawful_opening (views_of s) (latency_of s) 0 1 (omega arith); names = tt; frame = omega arith }

-- before each frame
pub before_keeps : (s : Scene) (k : ℕ) → KeepsBefore k (progress_before s k)
before_keeps s k =
    let few = take_few k s.frames in
    later_keeps (0 + length (take k s.frames)) k (progress_before s k) (omega (arith, few)) (frames_keep s.names 0 (first_progress s) (take k s.frames) (first_keeps s))

-- behind the `before` lines of each frame
pub in_frame : (s : Scene) (k : ℕ) (f : SceneFrame) → Keeps k (before_of s k f)
in_frame s k f = lines_keep k s.names (start_of s k) f.before (start_keeps k (progress_before s k) (before_keeps s k))

pub lawful_state : LawfulStateLaw
lawful_state s k f e = (in_frame s k f).lawful

pub given : GivenLaw
given s k f e name h is =
    let p : Progress = before_of s k f in
    thing_below p.resources.next_serial p.bindings name h (in_frame s k f).names is

pub frame_number : FrameNumberLaw
frame_number s k f e = (in_frame s k f).frame

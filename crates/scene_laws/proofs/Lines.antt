-- What the lines of the API thread keep, and that their calls are accepted.
use Rattle.std.proofs.Common.{◌≡◌, ℕ, zero, suc, ◌+◌, ◌-◌, ◌<◌, ◌≤◌, ◌==◌, Bool, true, false, not, if◌then◌else◌, List, [], ◌∷◌, ◌++◌, fold, Option, Some, None, Ok, Err, refl, sym, ap, ◌∙◌, subst, arith, option_map, slice_index_or, slice_set, nat_lt}
use Rattle.std.specs.List.{AllByRecursion, find}
use Rattle.std.specs.Option.{option_and_then}
use Rattle.std.proofs.lemmas.Option.{same_Some, none-some}
use Rattle.std.proofs.lemmas.Bool.{eqb-true}
use Rattle.gfx_model.specs.Words.{Kind, frame_buffer_kind, kind_number, Handle, UniformKind}
use Rattle.gfx_model.specs.Commands.{Command}
use Rattle.gfx_model.specs.Vertex.{layout_of_parts}
use Rattle.gfx_model.specs.Views.{View, Views, plain_view, set_view, rect_change, scissor_change, clear_change, mode_change, transform_change, plain_change}
use Rattle.gfx_model.specs.World.{Content}
use Rattle.gfx_model.specs.Resources.{Refusal, or_refusal, Thing, Resources, is_at, is_live_handle, named_uniform, references_of, with_references, with_death, on_thing, die, no_change, uniform_effect, ResourceCall, create_layout, create_vertex_buffer, create_index_buffer, create_texture, create_frame_buffer, create_program, create_uniform, update_buffer, update_texture, destroy, change_view, set_view_target, set_view_order, refusals, refusal_of, effect, with_views, answer}
use Rattle.call_laws.specs.Calls.{HasLive, SourceFits, Written, after_call, IsWritten, IsAccepted}
use Rattle.call_laws.specs.Context.{AllAccepted, no_call, next_call, HasThere, HasThereOption}
use Rattle.call_laws.proofs.WrittenLaws.{written_after}
use Rattle.resource_laws.specs.Lawful.{IsLawful}
use Rattle.resource_laws.proofs.AttachLaws.{all_more, all_snoc}
use Rattle.resource_laws.proofs.DeathLaws.{all_change}
use Rattle.resource_laws.proofs.CallLaws.{all_passed, lawful_call}
use Rattle.scene_model.specs.Scene.{Name, ResourceLine, layout_line, vertex_buffer_line, index_buffer_line, texture_line, frame_buffer_line, program_line, uniform_line, update_line, texel_update_line, destroy_line, view_line, target_line, order_line}
use Rattle.scene_model.specs.Fold.{Bindings, thing_named, option_named, resource_call, created_name, Progress, bound_by, after_answer, drop_line, after_line, after_lines}
use Rattle.scene_laws.specs.SceneFrames.{unless_refused, accepted_call, calls_of, LineHasColor}
use Rattle.scene_laws.proofs.Moves.{Moves, moved, frame_kept, handles_moved, Stays, stays_call, stays_option}
use Rattle.scene_laws.proofs.Accepting.{IsGiven, place_by, ThingsGiven, named_in, new_handles, new_uniform, live_given, made_given, is_accepted}

-- ---- lists

pub all_set : {A : Type 0} (P : A → Type 0) (xs : List A) (i : ℕ) (y : A) → AllByRecursion P xs → P y → AllByRecursion P (slice_set xs i y)
all_set P [] i y a p = tt
all_set P (x ∷ xs) zero y a p = (p, a.1)
all_set P (x ∷ xs) (suc i) y a p = (a.0, all_set P xs i y a.1 p)

pub all_at : {A : Type 0} (P : A → Type 0) (xs : List A) (i : ℕ) (d : A) → AllByRecursion P xs → P d → P (slice_index_or xs i d)
all_at P [] i d a p = p
all_at P (x ∷ xs) zero d a p = a.0
all_at P (x ∷ xs) (suc i) d a p = all_at P xs i d a.1 p

-- ---- names

-- each name stands for a handle that was given
abbrev pub NamesGiven : (ℕ → Handle) → Bindings → Type 0
NamesGiven given bs = AllByRecursion (λ b. IsGiven given b.1) bs

pub thing_given : (given : ℕ → Handle) (bs : Bindings) (n : Name) (h : Handle) → NamesGiven given bs → thing_named bs n ≡ Some h → IsGiven given h
thing_given given [] n h a e = absurd (none-some h e)
thing_given given (b ∷ rest) n h a e = step (b.0 == n) e (thing_given given rest n h a.1)
  where
    step : (c : Bool) → (if c then Some b.1 else thing_named rest n) ≡ Some h → (thing_named rest n ≡ Some h → IsGiven given h) → IsGiven given h
    step true q later = subst (IsGiven given) (same_Some b.1 h q) a.0
    step false q later = later q

-- a handle that is there, if there is one
abbrev pub GivenOption : (ℕ → Handle) → Option Handle → Type 0
GivenOption given None = Unit {0}
GivenOption given (Some h) = IsGiven given h

pub option_given : (given : ℕ → Handle) (bs : Bindings) (o : Option Name) (d : Option Handle) → NamesGiven given bs → option_named bs o ≡ Some d → GivenOption given d
option_given given bs None d a e = subst (GivenOption given) (same_Some None d e) tt
option_given given bs (Some n) d a e = step (thing_named bs n) (λ h. thing_given given bs n h a) e
  where
    step : (o : Option Handle) → ((h : Handle) → o ≡ Some h → IsGiven given h) → option_map (λ h. Some h) o ≡ Some d → GivenOption given d
    step None own q = absurd (none-some d q)
    step (Some h) own q = subst (GivenOption given) (same_Some (Some h) d q) (own h refl)

-- the call of a line names handles that were given, and has a colour where it fills
pub record LineCall (given : ℕ → Handle) (c : ResourceCall) : Type 0 where
  pub named : AllByRecursion (IsGiven given) (named_in c)
  pub source : SourceFits c

module _ (given : ℕ → Handle) (bs : Bindings) (a : NamesGiven given bs) where
  -- a call with one name
  by_name : (f : Handle → ResourceCall) → ((h : Handle) → IsGiven given h → LineCall given (f h)) → (n : Name) (o : Option Handle) → ((h : Handle) → o ≡ Some h → IsGiven given h) → (c : ResourceCall) → option_map f o ≡ Some c → LineCall given c
  by_name f g n None own c e = absurd (none-some c e)
  by_name f g n (Some h) own c e = subst (LineCall given) (same_Some (f h) c e) (g h (own h refl))

  one : (f : Handle → ResourceCall) → ((h : Handle) → IsGiven given h → LineCall given (f h)) → (n : Name) (c : ResourceCall) → option_map f (thing_named bs n) ≡ Some c → LineCall given c
  one f g n c e = by_name f g n (thing_named bs n) (λ h. thing_given given bs n h a) c e

  plain : (c d : ResourceCall) → LineCall given c → Some c ≡ Some d → LineCall given d
  plain c d l e = subst (LineCall given) (same_Some c d e) l

  target : (v : ℕ) (o : Option (Option Handle)) → ((d : Option Handle) → o ≡ Some d → GivenOption given d) → (c : ResourceCall) → option_map (set_view_target v) o ≡ Some c → LineCall given c
  target v None own c e = absurd (none-some c e)
  target v (Some None) own c e = plain (set_view_target v None) c (record { named = tt; source = tt }) e
  target v (Some (Some h)) own c e = plain (set_view_target v (Some h)) c (record { named = (own (Some h) refl, tt); source = tt }) e

  depth_too : (color : Handle) → IsGiven given color → (o : Option (Option Handle)) → ((d : Option Handle) → o ≡ Some d → GivenOption given d) → (c : ResourceCall) → option_map (λ d. create_frame_buffer color d) o ≡ Some c → LineCall given c
  depth_too color own None deep c e = absurd (none-some c e)
  depth_too color own (Some None) deep c e = plain (create_frame_buffer color None) c (record { named = (own, tt); source = tt }) e
  depth_too color own (Some (Some d)) deep c e = plain (create_frame_buffer color (Some d)) c (record { named = (own, (deep (Some d) refl, tt)); source = tt }) e

  frame_buffer : (depth : Option Name) (o : Option Handle) → ((h : Handle) → o ≡ Some h → IsGiven given h) → (c : ResourceCall) → option_and_then (λ h. option_map (λ d. create_frame_buffer h d) (option_named bs depth)) o ≡ Some c → LineCall given c
  frame_buffer depth None own c e = absurd (none-some c e)
  frame_buffer depth (Some h) own c e = depth_too h (own h refl) (option_named bs depth) (λ d. option_given given bs depth d a) c e

  layout : (o : Option Rattle.gfx_model.specs.Vertex.Layout) (c : ResourceCall) → option_map create_layout o ≡ Some c → LineCall given c
  layout None c e = absurd (none-some c e)
  layout (Some l) c e = plain (create_layout l) c (record { named = tt; source = tt }) e

  source_fits : (w h : ℕ) (f : Rattle.gfx_model.specs.Words.Format) (d : Bool) (s : Rattle.gfx_model.specs.Resources.TexelSource) → Rattle.scene_laws.specs.SceneFrames.HasColor s → SourceFits (create_texture w h f d s)
  source_fits w h f d (Rattle.gfx_model.specs.Resources.fill_source c) has = has
  source_fits w h f d (Rattle.gfx_model.specs.Resources.bytes_source bytes) has = tt

  pub line_call : (names : List (List ℕ)) (line : ResourceLine) (c : ResourceCall) → LineHasColor line → resource_call bs names line ≡ Some c → LineCall given c
  line_call names (layout_line n parts) c has e = layout (layout_of_parts parts) c e
  line_call names (vertex_buffer_line n l bytes) c has e = one (λ h. create_vertex_buffer h bytes) (λ h own. record { named = (own, tt); source = tt }) l c e
  line_call names (index_buffer_line n bytes) c has e = plain (create_index_buffer bytes) c (record { named = tt; source = tt }) e
  line_call names (texture_line n width height f d source) c has e = plain (create_texture width height f d source) c (record { named = tt; source = source_fits width height f d source has }) e
  line_call names (frame_buffer_line n color depth) c has e = frame_buffer depth (thing_named bs color) (λ h. thing_given given bs color h a) c e
  line_call names (program_line n k) c has e = plain (create_program k) c (record { named = tt; source = tt }) e
  line_call names (uniform_line n k) c has e = plain (create_uniform (slice_index_or names n []) k) c (record { named = tt; source = tt }) e
  line_call names (update_line n offset bytes) c has e = one (λ h. update_buffer h offset bytes) (λ h own. record { named = (own, tt); source = tt }) n c e
  line_call names (texel_update_line n rect bytes) c has e = one (λ h. update_texture h rect bytes) (λ h own. record { named = (own, tt); source = tt }) n c e
  line_call names (destroy_line n) c has e = one destroy (λ h own. record { named = (own, tt); source = tt }) n c e
  line_call names (view_line v x) c has e = plain (change_view v x) c (record { named = tt; source = tt }) e
  line_call names (target_line v t) c has e = target v (option_named bs t) (λ d. option_given given bs t d a) c e
  line_call names (order_line ids) c has e = plain (set_view_order ids) c (record { named = tt; source = tt }) e

-- ---- what is known of the state and of the names

-- the targets of views are there
abbrev pub TargetsThere : Resources → List View → Type 0
TargetsThere r vs = AllByRecursion (λ v. HasThereOption r frame_buffer_kind v.target) vs

pub record Known (given : ℕ → Handle) (p : Progress) : Type 0 where
  pub lawful : IsLawful p.resources
  pub things : ThingsGiven given p.resources.things
  pub names : NamesGiven given p.bindings
  pub targets : TargetsThere p.resources p.resources.views.settings

targets_stay : (r s : Resources) (vs : List View) → Stays r s → TargetsThere r vs → TargetsThere s vs
targets_stay r s vs stays a = all_more (λ v. HasThereOption r frame_buffer_kind v.target) (λ v. HasThereOption s frame_buffer_kind v.target) (λ v h. stays_option r s frame_buffer_kind v.target stays h) vs a

live_there : (r : Resources) (h : Handle) → h.kind ≡ frame_buffer_kind → HasLive r h → HasThere r frame_buffer_kind h
live_there r h kind live = (kind, (live.0, record { found = live.1.found; own = live.1.own; there = ap (Rattle.call_laws.specs.Calls.is_there r.frame) live.1.lives }))

-- one view changed, its target kept or there
view_changed : (r : Resources) (vs : List View) (v : ℕ) (f : View → View) → ((w : View) → HasThereOption r frame_buffer_kind w.target → HasThereOption r frame_buffer_kind (f w).target) → TargetsThere r vs → TargetsThere r (slice_set vs v (f (slice_index_or vs v plain_view)))
view_changed r vs v f keeps a =
    let P : View → Type 0 = λ w. HasThereOption r frame_buffer_kind w.target in
    all_set P vs v (f (slice_index_or vs v plain_view)) a (keeps (slice_index_or vs v plain_view) (all_at P vs v plain_view a tt))

kind_by : (k : Kind) → kind_number k ≡ kind_number frame_buffer_kind → k ≡ frame_buffer_kind
kind_by Rattle.gfx_model.specs.Words.frame_buffer_kind e = refl
kind_by Rattle.gfx_model.specs.Words.layout_kind e = absurd (omega (arith, e))
kind_by Rattle.gfx_model.specs.Words.vertex_buffer_kind e = absurd (omega (arith, e))
kind_by Rattle.gfx_model.specs.Words.index_buffer_kind e = absurd (omega (arith, e))
kind_by Rattle.gfx_model.specs.Words.texture_kind e = absurd (omega (arith, e))
kind_by Rattle.gfx_model.specs.Words.program_kind e = absurd (omega (arith, e))
kind_by Rattle.gfx_model.specs.Words.uniform_kind e = absurd (omega (arith, e))

not_true : (b : Bool) → not b ≡ false → b ≡ true
not_true true e = refl
not_true false e = absurd cc

uniform_views : (r : Resources) (name : List ℕ) (k : UniformKind) (o : Option Thing) → (uniform_effect r name k o).after.views ≡ r.views
uniform_views r name k None = refl
uniform_views r name k (Some t) = refl

destroy_views : (r : Resources) (h : Handle) (b : Bool) → (if b then no_change (on_thing (with_references (λ n. n - 1)) h.serial r) else no_change (die h r)).after.views ≡ r.views
destroy_views r h true = refl
destroy_views r h false = refl

-- the views after a call have targets that were there before it, or one that lives
targets_before : (given : ℕ → Handle) (r : Resources) (c : ResourceCall) → IsLawful r → ThingsGiven given r.things → AllByRecursion (IsGiven given) (named_in c) → AllByRecursion (λ t. t.0 ≡ false) (refusals r c) → TargetsThere r r.views.settings → TargetsThere r (effect r c).after.views.settings
targets_before given r (create_layout l) lawful things named p a = a
targets_before given r (create_vertex_buffer l bytes) lawful things named p a = a
targets_before given r (create_index_buffer bytes) lawful things named p a = a
targets_before given r (create_texture width height f d source) lawful things named p a = a
targets_before given r (create_frame_buffer color depth) lawful things named p a = a
targets_before given r (create_program k) lawful things named p a = a
targets_before given r (create_uniform name k) lawful things named p a = subst (λ (vs : Views). TargetsThere r vs.settings) (sym (uniform_views r name k (named_uniform r name))) a
targets_before given r (update_buffer h offset bytes) lawful things named p a = a
targets_before given r (update_texture h rect bytes) lawful things named p a = a
targets_before given r (destroy h) lawful things named p a = subst (λ (vs : Views). TargetsThere r vs.settings) (sym (destroy_views r h (nat_lt 1 (references_of (find (is_at h.kind h.index) r.things))))) a
targets_before given r (change_view v (rect_change rect)) lawful things named p a = view_changed r r.views.settings v (λ w. record w { rect = rect }) (λ w h. h) a
targets_before given r (change_view v (scissor_change rect)) lawful things named p a = view_changed r r.views.settings v (λ w. record w { scissor = rect }) (λ w h. h) a
targets_before given r (change_view v (clear_change c)) lawful things named p a = view_changed r r.views.settings v (λ w. record w { clear = c }) (λ w h. h) a
targets_before given r (change_view v (mode_change m)) lawful things named p a = view_changed r r.views.settings v (λ w. record w { mode = m }) (λ w h. h) a
targets_before given r (change_view v (transform_change t)) lawful things named p a = view_changed r r.views.settings v (λ w. record w { transform = t }) (λ w h. h) a
targets_before given r (set_view_target v None) lawful things named p a = view_changed r r.views.settings v (λ w. record w { target = None }) (λ w h. tt) a
targets_before given r (set_view_target v (Some h)) lawful things named p a =
    let kind : h.kind ≡ frame_buffer_kind = kind_by h.kind (eqb-true (kind_number h.kind) (kind_number frame_buffer_kind) (not_true (kind_number h.kind == kind_number frame_buffer_kind) p.1.0)) in
    let live : HasThere r frame_buffer_kind h = live_there r h kind (live_given given r h lawful things named.0 p.1.1.0) in
    view_changed r r.views.settings v (λ w. record w { target = Some h }) (λ w q. live) a
targets_before given r (set_view_order ids) lawful things named p a = a
targets_before given r (change_view v plain_change) lawful things named p a = view_changed r r.views.settings v (λ w. plain_view) (λ w h. tt) a

-- ---- each thing is of a handle that was given

module _ (given : ℕ → Handle) (r : Resources) (a : ThingsGiven given r.things) where
  abbrev P : Thing → Type 0
  P t = IsGiven given t.handle

  uniform_given : (name : List ℕ) (k : UniformKind) (o : Option Thing) → AllByRecursion (IsGiven given) (new_uniform r k o) → ThingsGiven given (uniform_effect r name k o).after.things
  uniform_given name k None new = all_snoc P r.things _ a new.0
  uniform_given name k (Some t) new = all_change (with_references (λ n. n + 1)) t.handle.serial P (λ t q. q) r.things a

  destroyed_given : (h : Handle) (b : Bool) → ThingsGiven given (if b then no_change (on_thing (with_references (λ n. n - 1)) h.serial r) else no_change (die h r)).after.things
  destroyed_given h true = all_change (with_references (λ n. n - 1)) h.serial P (λ t q. q) r.things a
  destroyed_given h false = all_change (with_death r.frame) h.serial P (λ t q. q) r.things a

  new_given : (c : ResourceCall) → AllByRecursion (IsGiven given) (new_handles r c) → ThingsGiven given (effect r c).after.things
  new_given (create_layout l) new = all_snoc P r.things _ a new.0
  new_given (create_vertex_buffer l bytes) new = all_snoc P r.things _ a new.0
  new_given (create_index_buffer bytes) new = all_snoc P r.things _ a new.0
  new_given (create_texture width height f d source) new = all_snoc P r.things _ a new.0
  new_given (create_frame_buffer color depth) new = all_snoc P r.things _ a new.0
  new_given (create_program k) new = all_snoc P r.things _ a new.0
  new_given (create_uniform name k) new = uniform_given name k (named_uniform r name) new
  new_given (update_buffer h offset bytes) new = a
  new_given (update_texture h rect bytes) new = a
  new_given (destroy h) new = destroyed_given h (nat_lt 1 (references_of (find (is_at h.kind h.index) r.things)))
  new_given (change_view v c) new = a
  new_given (set_view_target v t) new = a
  new_given (set_view_order ids) new = a

-- ---- one line

-- what is new by a line
abbrev pub new_where : Resources → ResourceCall → Option Refusal → List Handle
new_where r c None = new_handles r c
new_where r c (Some refusal) = []

abbrev pub new_by : Resources → Option ResourceCall → List Handle
new_by r None = []
new_by r (Some c) = new_where r c (refusal_of r c)

-- what is new by lines, in order
abbrev pub new_of : List (List ℕ) → Progress → List ResourceLine → List Handle
new_of names p [] = []
new_of names p (line ∷ rest) = new_by p.resources (resource_call p.bindings names line) ++ new_of names (after_line names p line) rest

-- what the lines of a frame wrote so far
abbrev pub written_at : Progress → List Command → List Command → List (List ℕ) → List ℕ → Written
written_at p pre post payloads dying = record { resources = p.resources; changes = p.changes; pre = pre; post = post; payloads = payloads; dying = dying }

-- lines were done, their calls accepted: what is written is that of the state after them, and what was there is there
pub record Done (given : ℕ → Handle) (first : List (ℕ × Content)) (v : Written) (p : Progress) (calls : List ResourceCall) (q : Progress) : Type 0 where
  pub pre : List Command
  pub post : List Command
  pub payloads : List (List ℕ)
  pub dying : List ℕ
  pub same : fold after_call v calls ≡ written_at q pre post payloads dying
  pub accepted : AllAccepted (place_by given) first v calls
  pub written : IsWritten (place_by given) first (written_at q pre post payloads dying)
  pub known : Known given q
  pub stays : Stays p.resources q.resources
  pub frame : q.resources.frame ≡ p.resources.frame

-- a binding more
bound_given : (given : ℕ → Handle) (o : Option Name) (made : Option Handle) (bs : Bindings) → ((h : Handle) → made ≡ Some h → IsGiven given h) → NamesGiven given bs → NamesGiven given (bound_by o made bs)
bound_given given None made bs own a = a
bound_given given (Some n) None bs own a = a
bound_given given (Some n) (Some h) bs own a = (own h refl, a)

-- the state after an accepted line is known
known_call : (given : ℕ → Handle) (p : Progress) (line : ResourceLine) (c : ResourceCall) → Known given p → AllByRecursion (IsGiven given) (named_in c) → refusal_of p.resources c ≡ None → AllByRecursion (IsGiven given) (new_handles p.resources c) → Known given (after_answer p line (Ok (effect p.resources c)))
known_call given p line c k named passes new =
    let t = all_passed (refusals p.resources c) passes in
    record {
      lawful = lawful_call p.resources c k.lawful passes;
      things = new_given given p.resources k.things c new;
      names = bound_given given (created_name line) (effect p.resources c).made p.bindings (λ h e. (made_given given p.resources k.lawful k.things c h t new e).0) k.names;
      targets = targets_stay p.resources (effect p.resources c).after (effect p.resources c).after.views.settings (stays_call p.resources c) (targets_before given p.resources c k.lawful k.things named t k.targets);
    }

pub all_left : {A : Type 0} (P : A → Type 0) (xs ys : List A) → AllByRecursion P (xs ++ ys) → AllByRecursion P xs
all_left P [] ys a = tt
all_left P (x ∷ xs) ys a = (a.0, all_left P xs ys a.1)

pub all_right : {A : Type 0} (P : A → Type 0) (xs ys : List A) → AllByRecursion P (xs ++ ys) → AllByRecursion P ys
all_right P [] ys a = a
all_right P (x ∷ xs) ys a = all_right P xs ys a.1

-- ---- all lines

-- a dropped line changes nothing
dropped : (given : ℕ → Handle) (first : List (ℕ × Content)) (v : Written) (p : Progress) (calls : List ResourceCall) (q : Progress) → Done given first v (drop_line p) calls q → Done given first v p calls q
dropped given first v p calls q d = record { pre = d.pre; post = d.post; payloads = d.payloads; dying = d.dying; same = d.same; accepted = d.accepted; written = d.written; known = d.known; stays = d.stays; frame = d.frame }

-- one call more before
called : (given : ℕ → Handle) (first : List (ℕ × Content)) (v : Written) (p next : Progress) (c : ResourceCall) (calls : List ResourceCall) (q : Progress) → IsAccepted (place_by given) first v c → Stays p.resources next.resources → next.resources.frame ≡ p.resources.frame
    → Done given first (after_call v c) next calls q → Done given first v p (c ∷ calls) q
called given first v p next c calls q a stays frame d = record { pre = d.pre; post = d.post; payloads = d.payloads; dying = d.dying; same = d.same; accepted = next_call a d.accepted; written = d.written; known = d.known; stays = λ k h has. d.stays k h (stays k h has); frame = d.frame ∙ frame }

-- the lines behind a line, from any state that is known
abbrev Later : (ℕ → Handle) → List (ℕ × Content) → List (List ℕ) → List ResourceLine → Type 0
Later given first names rest = (p : Progress) (pre post : List Command) (payloads : List (List ℕ)) (dying : List ℕ) → Known given p → IsWritten (place_by given) first (written_at p pre post payloads dying) → AllByRecursion LineHasColor rest
    → AllByRecursion (IsGiven given) (new_of names p rest) → Done given first (written_at p pre post payloads dying) p (calls_of names p rest) (after_lines names p rest)

module _ (given : ℕ → Handle) (first : List (ℕ × Content)) (names : List (List ℕ)) where
  line_answered : (p : Progress) (pre post : List Command) (payloads : List (List ℕ)) (dying : List ℕ) (line : ResourceLine) (rest : List ResourceLine) → Later given first names rest → Known given p → IsWritten (place_by given) first (written_at p pre post payloads dying) → AllByRecursion LineHasColor rest
      → (c : ResourceCall) → LineCall given c → (o : Option Refusal) → refusal_of p.resources c ≡ o → AllByRecursion (IsGiven given) (new_where p.resources c o ++ new_of names (after_answer p line (or_refusal (effect p.resources c) o)) rest)
      → Done given first (written_at p pre post payloads dying) p (unless_refused c o ++ calls_of names (after_answer p line (or_refusal (effect p.resources c) o)) rest) (after_lines names (after_answer p line (or_refusal (effect p.resources c) o)) rest)
  line_answered p pre post payloads dying line rest later k w has c l (Some refusal) passes new =
      dropped given first (written_at p pre post payloads dying) p (calls_of names (drop_line p) rest) (after_lines names (drop_line p) rest)
      (later (drop_line p) pre post payloads dying (record { lawful = k.lawful; things = k.things; names = k.names; targets = k.targets }) w has new)
  line_answered p pre post payloads dying line rest later k w has c l None passes new =
      let v : Written = written_at p pre post payloads dying in
      let own = all_left (IsGiven given) (new_handles p.resources c) (new_of names (after_answer p line (Ok (effect p.resources c))) rest) new in
      let others = all_right (IsGiven given) (new_handles p.resources c) (new_of names (after_answer p line (Ok (effect p.resources c))) rest) new in
      let a : IsAccepted (place_by given) first v c = is_accepted given first v c k.lawful k.things w passes l.named l.source own in
      called given first v p (after_answer p line (Ok (effect p.resources c))) c (calls_of names (after_answer p line (Ok (effect p.resources c))) rest) (after_lines names (after_answer p line (Ok (effect p.resources c))) rest) a (stays_call p.resources c) (frame_kept p.resources c)
      (later (after_answer p line (Ok (effect p.resources c))) (after_call v c).pre (after_call v c).post (after_call v c).payloads (after_call v c).dying (known_call given p line c k l.named passes own) (written_after (place_by given) first v c w a) has others)

  line_done : (p : Progress) (pre post : List Command) (payloads : List (List ℕ)) (dying : List ℕ) (line : ResourceLine) (rest : List ResourceLine) → Later given first names rest → Known given p → IsWritten (place_by given) first (written_at p pre post payloads dying) → LineHasColor line → AllByRecursion LineHasColor rest
      → (o : Option ResourceCall) → resource_call p.bindings names line ≡ o → AllByRecursion (IsGiven given) (new_by p.resources o ++ new_of names (Rattle.scene_model.specs.Fold.after_call p line o) rest)
      → Done given first (written_at p pre post payloads dying) p (accepted_call p.resources o ++ calls_of names (Rattle.scene_model.specs.Fold.after_call p line o) rest) (after_lines names (Rattle.scene_model.specs.Fold.after_call p line o) rest)
  line_done p pre post payloads dying line rest later k w color has None e new =
      dropped given first (written_at p pre post payloads dying) p (calls_of names (drop_line p) rest) (after_lines names (drop_line p) rest)
      (later (drop_line p) pre post payloads dying (record { lawful = k.lawful; things = k.things; names = k.names; targets = k.targets }) w has new)
  line_done p pre post payloads dying line rest later k w color has (Some c) e new =
      line_answered p pre post payloads dying line rest later k w has c (line_call given p.bindings k.names names line c color e) (refusal_of p.resources c) refl new

  pub lines_done : (lines : List ResourceLine) → Later given first names lines
  lines_done [] p pre post payloads dying k w has new = record { pre = pre; post = post; payloads = payloads; dying = dying; same = refl; accepted = no_call; written = w; known = k; stays = λ kind h q. q; frame = refl }
  lines_done (line ∷ rest) p pre post payloads dying k w has new =
      line_done p pre post payloads dying line rest (lines_done rest) k w has.0 has.1 (resource_call p.bindings names line) refl new

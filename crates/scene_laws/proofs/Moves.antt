-- What a call does to the things, and that what is there stays there.
use Rattle.std.proofs.Common.{◌≡◌, ℕ, ◌+◌, ◌-◌, ◌==◌, nat_lt, Bool, true, false, ◌&&◌, if◌then◌else◌, List, [], ◌∷◌, ◌++◌, Option, Some, None, refl, sym, ap, ◌∙◌, subst, eq-eqb}
use Rattle.std.specs.List.{AllByRecursion, find}
use Rattle.std.proofs.lemmas.Option.{same_Some, none-some}
use Rattle.gfx_model.specs.Words.{Kind, Handle, kind_number}
use Rattle.gfx_model.specs.Resources.{Thing, Resources, is_at, change_of_serial, with_death, with_references, ResourceCall, create_layout, create_vertex_buffer, create_index_buffer, create_texture, create_frame_buffer, create_program, create_uniform, update_buffer, update_texture, destroy, change_view, set_view_target, set_view_order, effect, uniform_effect, named_uniform, destroy_effect, references_of, no_change, on_thing, die}
use Rattle.gfx_model.specs.Words.{UniformKind}
use Rattle.call_laws.specs.Calls.{is_there}
use Rattle.call_laws.specs.Context.{IsThingThere, HasThere, HasThereOption}
use Rattle.resource_laws.proofs.AttachLaws.{all_snoc}

-- a change of a thing keeps its handle, and leaves it there
pub record KeepsThing (frame : ℕ) (f : Thing → Thing) : Type 0 where
  pub handle : (t : Thing) → (f t).handle ≡ t.handle
  pub there : (t : Thing) → is_there frame t.death ≡ true → is_there frame (f t).death ≡ true

-- the things after a call: as before, with one more, or with one changed
pub data Moves (frame : ℕ) (ts us : List Thing) : Type 0 where
  stay : us ≡ ts → Moves frame ts us
  more : (t : Thing) → us ≡ ts ++ t ∷ [] → Moves frame ts us
  turn : (f : Thing → Thing) (serial : ℕ) → KeepsThing frame f → us ≡ change_of_serial f serial ts → Moves frame ts us

referred : (frame : ℕ) (g : ℕ → ℕ) → KeepsThing frame (with_references g)
referred frame g = record { handle = λ t. refl; there = λ t e. e }

died : (frame : ℕ) → KeepsThing frame (with_death frame)
died frame = record { handle = λ t. refl; there = λ t e. eq-eqb frame frame refl }

uniform_moves : (r : Resources) (name : List ℕ) (k : UniformKind) (o : Option Thing) → Moves r.frame r.things (uniform_effect r name k o).after.things
uniform_moves r name k None = more _ refl
uniform_moves r name k (Some t) = turn (with_references (λ n. n + 1)) t.handle.serial (referred r.frame (λ n. n + 1)) refl

destroy_moves : (r : Resources) (h : Handle) (b : Bool) → Moves r.frame r.things (if b then no_change (on_thing (with_references (λ n. n - 1)) h.serial r) else no_change (die h r)).after.things
destroy_moves r h true = turn (with_references (λ n. n - 1)) h.serial (referred r.frame (λ n. n - 1)) refl
destroy_moves r h false = turn (with_death r.frame) h.serial (died r.frame) refl

pub moved : (r : Resources) (c : ResourceCall) → Moves r.frame r.things (effect r c).after.things
moved r (create_layout l) = more _ refl
moved r (create_vertex_buffer l bytes) = more _ refl
moved r (create_index_buffer bytes) = more _ refl
moved r (create_texture width height f d source) = more _ refl
moved r (create_frame_buffer color depth) = more _ refl
moved r (create_program k) = more _ refl
moved r (create_uniform name k) = uniform_moves r name k (named_uniform r name)
moved r (update_buffer h offset bytes) = stay refl
moved r (update_texture h rect bytes) = stay refl
moved r (destroy h) = destroy_moves r h (nat_lt 1 (references_of (find (is_at h.kind h.index) r.things)))
moved r (change_view v c) = stay refl
moved r (set_view_target v t) = stay refl
moved r (set_view_order ids) = stay refl

uniform_frame : (r : Resources) (name : List ℕ) (k : UniformKind) (o : Option Thing) → (uniform_effect r name k o).after.frame ≡ r.frame
uniform_frame r name k None = refl
uniform_frame r name k (Some t) = refl

destroy_frame : (r : Resources) (h : Handle) (b : Bool) → (if b then no_change (on_thing (with_references (λ n. n - 1)) h.serial r) else no_change (die h r)).after.frame ≡ r.frame
destroy_frame r h true = refl
destroy_frame r h false = refl

-- a call stays in its frame
pub frame_kept : (r : Resources) (c : ResourceCall) → (effect r c).after.frame ≡ r.frame
frame_kept r (create_layout l) = refl
frame_kept r (create_vertex_buffer l bytes) = refl
frame_kept r (create_index_buffer bytes) = refl
frame_kept r (create_texture width height f d source) = refl
frame_kept r (create_frame_buffer color depth) = refl
frame_kept r (create_program k) = refl
frame_kept r (create_uniform name k) = uniform_frame r name k (named_uniform r name)
frame_kept r (update_buffer h offset bytes) = refl
frame_kept r (update_texture h rect bytes) = refl
frame_kept r (destroy h) = destroy_frame r h (nat_lt 1 (references_of (find (is_at h.kind h.index) r.things)))
frame_kept r (change_view v c) = refl
frame_kept r (set_view_target v t) = refl
frame_kept r (set_view_order ids) = refl

-- ---- what is found is found still

-- what is found, is there, and has a handle
pub record Found (frame : ℕ) (p : Thing → Bool) (ts : List Thing) (h : Handle) : Type 0 where
  pub thing : Thing
  pub found : find p ts ≡ Some thing
  pub own : thing.handle ≡ h
  pub there : is_there frame thing.death ≡ true

found_next : (frame : ℕ) (p : Thing → Bool) (x : Thing) (xs : List Thing) (h : Handle) → p x ≡ false → Found frame p xs h → Found frame p (x ∷ xs) h
found_next frame p x xs h e f = record { thing = f.thing; found = ap (λ b. if b then Some x else find p xs) e ∙ f.found; own = f.own; there = f.there }

found_first : (frame : ℕ) (p : Thing → Bool) (x : Thing) (xs : List Thing) (h : Handle) → p x ≡ true → x.handle ≡ h → is_there frame x.death ≡ true → Found frame p (x ∷ xs) h
found_first frame p x xs h e own there = record { thing = x; found = ap (λ b. if b then Some x else find p xs) e; own = own; there = there }

-- a found thing is the first, or is found behind it
pub data Split (frame : ℕ) (p : Thing → Bool) (x : Thing) (xs : List Thing) (h : Handle) : Type 0 where
  first : p x ≡ true → x.handle ≡ h → is_there frame x.death ≡ true → Split frame p x xs h
  later : p x ≡ false → Found frame p xs h → Split frame p x xs h

split_by : (frame : ℕ) (p : Thing → Bool) (x : Thing) (xs : List Thing) (h : Handle) (f : Found frame p (x ∷ xs) h) (b : Bool) → p x ≡ b → (if b then Some x else find p xs) ≡ Some f.thing → Split frame p x xs h
split_by frame p x xs h f true e g =
    let same : x ≡ f.thing = same_Some x f.thing g in
    first e (ap (λ (t : Thing). t.handle) same ∙ f.own) (ap (λ (t : Thing). is_there frame t.death) same ∙ f.there)
split_by frame p x xs h f false e g = later e (record { thing = f.thing; found = g; own = f.own; there = f.there })

pub split : (frame : ℕ) (p : Thing → Bool) (x : Thing) (xs : List Thing) (h : Handle) → Found frame p (x ∷ xs) h → Split frame p x xs h
split frame p x xs h f = split_by frame p x xs h f (p x) refl f.found

found_more : (frame : ℕ) (p : Thing → Bool) (ts : List Thing) (t : Thing) (h : Handle) → Found frame p ts h → Found frame p (ts ++ t ∷ []) h
found_more frame p [] t h f = absurd (none-some f.thing f.found)
found_more frame p (x ∷ xs) t h f = step (λ g. found_more frame p xs t h g) (split frame p x xs h f)
  where
    step : (Found frame p xs h → Found frame p (xs ++ t ∷ []) h) → Split frame p x xs h → Found frame p (x ∷ (xs ++ t ∷ [])) h
    step rest (first e own there) = found_first frame p x (xs ++ t ∷ []) h e own there
    step rest (later e g) = found_next frame p x (xs ++ t ∷ []) h e (rest g)

found_turned : (frame : ℕ) (k : Kind) (i : ℕ) (g : Thing → Thing) (serial : ℕ) → KeepsThing frame g → (ts : List Thing) (h : Handle) → Found frame (is_at k i) ts h → Found frame (is_at k i) (change_of_serial g serial ts) h
found_turned frame k i g serial keeps [] h f = absurd (none-some f.thing f.found)
found_turned frame k i g serial keeps (x ∷ xs) h f = step (λ q. found_turned frame k i g serial keeps xs h q) (x.handle.serial == serial) (split frame (is_at k i) x xs h f)
  where
    same : is_at k i (g x) ≡ is_at k i x
    same = ap (λ (y : Handle). (kind_number y.kind == kind_number k) && (y.index == i)) (keeps.handle x)

    step : (Found frame (is_at k i) xs h → Found frame (is_at k i) (change_of_serial g serial xs) h) → (b : Bool) → Split frame (is_at k i) x xs h → Found frame (is_at k i) (if b then g x ∷ xs else x ∷ change_of_serial g serial xs) h
    step rest true (first e own there) = found_first frame (is_at k i) (g x) xs h (same ∙ e) (keeps.handle x ∙ own) (keeps.there x there)
    step rest true (later e q) = found_next frame (is_at k i) (g x) xs h (same ∙ e) q
    step rest false (first e own there) = found_first frame (is_at k i) x (change_of_serial g serial xs) h e own there
    step rest false (later e q) = found_next frame (is_at k i) x (change_of_serial g serial xs) h e (rest q)

pub found_moved : (frame : ℕ) (k : Kind) (i : ℕ) (ts us : List Thing) (h : Handle) → Moves frame ts us → Found frame (is_at k i) ts h → Found frame (is_at k i) us h
found_moved frame k i ts us h (stay e) f = subst (λ (xs : List Thing). Found frame (is_at k i) xs h) (sym e) f
found_moved frame k i ts us h (more t e) f = subst (λ (xs : List Thing). Found frame (is_at k i) xs h) (sym e) (found_more frame (is_at k i) ts t h f)
found_moved frame k i ts us h (turn g serial keeps e) f = subst (λ (xs : List Thing). Found frame (is_at k i) xs h) (sym e) (found_turned frame k i g serial keeps ts h f)

-- ---- what has a thing that is there has one still

pub found_of : (r : Resources) (k : Kind) (h : Handle) → HasThere r k h → Found r.frame (is_at h.kind h.index) r.things h
found_of r k h has = record { thing = has.1.0; found = has.1.1.found; own = has.1.1.own; there = has.1.1.there }

pub has_found : (r : Resources) (k : Kind) (h : Handle) → h.kind ≡ k → Found r.frame (is_at h.kind h.index) r.things h → HasThere r k h
has_found r k h is f = (is, (f.thing, record { found = f.found; own = f.own; there = f.there }))

-- what is there in one state is there in another
abbrev pub Stays : Resources → Resources → Type 0
Stays r s = (k : Kind) (h : Handle) → HasThere r k h → HasThere s k h

pub stays_call : (r : Resources) (c : ResourceCall) → Stays r (effect r c).after
stays_call r c k h has =
    let f = found_moved r.frame h.kind h.index r.things (effect r c).after.things h (moved r c) (found_of r k h has) in
    has_found (effect r c).after k h has.0 (subst (λ n. Found n (is_at h.kind h.index) (effect r c).after.things h) (sym (frame_kept r c)) f)

pub stays_option : (r s : Resources) (k : Kind) (o : Option Handle) → Stays r s → HasThereOption r k o → HasThereOption s k o
stays_option r s k None stays has = tt
stays_option r s k (Some h) stays has = stays k h has

-- ---- a fact of each handle

pub handles_moved : (Q : Handle → Type 0) (frame : ℕ) (ts us : List Thing) → Moves frame ts us → ((t : Thing) → us ≡ ts ++ t ∷ [] → Q t.handle) → AllByRecursion (λ t. Q t.handle) ts → AllByRecursion (λ t. Q t.handle) us
handles_moved Q frame ts us (stay e) new a = subst (λ (xs : List Thing). AllByRecursion (λ t. Q t.handle) xs) (sym e) a
handles_moved Q frame ts us (more t e) new a = subst (λ (xs : List Thing). AllByRecursion (λ t. Q t.handle) xs) (sym e) (all_snoc (λ (t : Thing). Q t.handle) ts t a (new t e))
handles_moved Q frame ts us (turn f serial keeps e) new a = subst (λ (xs : List Thing). AllByRecursion (λ t. Q t.handle) xs) (sym e) (turned ts a)
  where
    turned : (xs : List Thing) → AllByRecursion (λ t. Q t.handle) xs → AllByRecursion (λ t. Q t.handle) (change_of_serial f serial xs)
    turned [] b = tt
    turned (x ∷ xs) b = step (x.handle.serial == serial) (turned xs b.1)
      where
        step : (c : Bool) → AllByRecursion (λ t. Q t.handle) (change_of_serial f serial xs) → AllByRecursion (λ t. Q t.handle) (if c then f x ∷ xs else x ∷ change_of_serial f serial xs)
        step true q = (subst Q (sym (keeps.handle x)) b.0, b.1)
        step false q = (b.0, q)

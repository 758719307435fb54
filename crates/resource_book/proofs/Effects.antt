use Rattle.std.proofs.Common.{◌≡◌, ℕ, ◌+◌, ◌-◌, ◌<◌, ◌≤◌, Bool, true, false, not, ◌&&◌, nat_lt, nat_le, List, [], ◌∷◌, ◌++◌, length, Option, Some, None, Result, Ok, Err, MatchOption, MatchResult, IfErr, sym, ap, ◌∙◌, subst, if◌then◌else◌}
use Rattle.std.proofs.lemmas.Bool.{lt-ltb, le-ltb}
use Rattle.std.specs.List.{find}
use Rattle.cmd_buffer.specs.Rows.{Writing}
use Rattle.gfx_model.specs.Words.{Handle, UniformKind, kind_number}
use Rattle.gfx_model.specs.Commands.{destroy_command}
use Rattle.gfx_model.specs.Resources as model
use Rattle.gfx_model.specs.Resources.{Thing, Resources, is_at, named_uniform, uniform_refusals, uniform_effect, first_refusal, on_thing, with_references, destroy_effect, die, references_of}
use Rattle.gfx_words.specs.declared.refusals.Refusal.{Refusal}
use Rattle.gfx_words.specs.declared.refusals.Refusal.TheVariants as refusals
use Rattle.gfx_words.specs.Seen.{refusal_seen, IsFirstRefusal}
use Rattle.resource_laws.specs.Bare.{bare_of}
use Rattle.resource_book.specs.Written.{BookView, after_in, add_all, where_changed, written, payload_for}
use Rattle.resource_book.specs.Answered.{Creates, IsFirstRefusalOrOutOfMemory}
use Rattle.resource_book.specs.Books.{view_of}
use Rattle.resource_book.specs.declared.book.Book.TheInside.{Inside}
use Rattle.resource_book.specs.declared.shelf.Shelf.{Shelf}
use Rattle.resource_book.specs.Shelves.{resources_of}

weaker : (first : Option model.Refusal) (r : Refusal) → IsFirstRefusal first r → IsFirstRefusalOrOutOfMemory first r
weaker first r h = weaker_by (refusal_seen r) h where
  weaker_by : (o : Option model.Refusal) → MatchOption o ⊥ (λ x. first ≡ Some x) → MatchOption o (first ≡ None) (λ x. first ≡ Some x)
  weaker_by None k = absurd k
  weaker_by (Some x) k = k

-- how a create of a uniform is answered, by the live uniform of its name
abbrev IsMadeBy : Bool → Result Handle Refusal → List ℕ → UniformKind → (old new : BookView) → Option Thing → Type 0
IsMadeBy bad result name k old new o =
    MatchResult result
    (λ h. ((if bad then Some model.bad_size else first_refusal (uniform_refusals old.resources k o)) ≡ None) × ((uniform_effect old.resources name k o).made ≡ Some h)
    × (new ≡ record {
      resources = bare_of (uniform_effect old.resources name k o).after;
      pre = add_all old.pre (where_changed (uniform_effect old.resources name k o).changes (written (model.create_uniform name k) (Some h) (length old.payloads)));
      post = old.post;
      payloads = add_all old.payloads (where_changed (uniform_effect old.resources name k o).changes (payload_for (model.create_uniform name k)));
    }))
    (λ r. IsFirstRefusalOrOutOfMemory (if bad then Some model.bad_size else first_refusal (uniform_refusals old.resources k o)) r × (new ≡ old))

referred_by : (result : Result Handle Refusal) (name : List ℕ) (k : UniformKind) (old new : BookView) (t : Thing)
    → MatchResult result
    (λ h. (first_refusal (uniform_refusals old.resources k (Some t)) ≡ None) × (h ≡ t.handle) × (new ≡ record old { resources = bare_of (on_thing (with_references (λ n. n + 1)) h.serial old.resources) }))
    (λ r. IsFirstRefusal (first_refusal (uniform_refusals old.resources k (Some t))) r × (new ≡ old))
    → IsMadeBy false result name k old new (Some t)
referred_by (Ok h) name k old new t a = (a.0, (λ j. Some (sym a.1 j)), a.2 ∙ (λ j. record old { resources = bare_of (on_thing (with_references (λ n. n + 1)) (a.1 j).serial old.resources) }))
referred_by (Err r) name k old new t a = (weaker (first_refusal (uniform_refusals old.resources k (Some t))) r a.0, a.1)

pub referred : (result : Result Handle Refusal) (name : List ℕ) (k : UniformKind) (old new : BookView) (t : Thing)
    → not (nat_le 1 (length name) && nat_le (length name) 32) ≡ false → named_uniform old.resources name ≡ Some t
    → MatchResult result
    (λ h. (first_refusal (uniform_refusals old.resources k (Some t)) ≡ None) × (h ≡ t.handle) × (new ≡ record old { resources = bare_of (on_thing (with_references (λ n. n + 1)) h.serial old.resources) }))
    (λ r. IsFirstRefusal (first_refusal (uniform_refusals old.resources k (Some t))) r × (new ≡ old))
    → Creates result (model.create_uniform name k) old new
referred result name k old new t size is a =
    subst (λ b. IsMadeBy b result name k old new (named_uniform old.resources name)) (sym size) (subst (λ o. IsMadeBy false result name k old new o) (sym is) (referred_by result name k old new t a))

-- what a reference more is answered, of the state of the calls alone
abbrev IsReferred : Result Handle Refusal → UniformKind → (old new : Resources) → Thing → Type 0
IsReferred result k old new t =
    MatchResult result
    (λ h. (first_refusal (uniform_refusals old k (Some t)) ≡ None) × (h ≡ t.handle) × (new ≡ bare_of (on_thing (with_references (λ n. n + 1)) h.serial old)))
    (λ r. IsFirstRefusal (first_refusal (uniform_refusals old k (Some t))) r × (new ≡ old))

widened : (result : Result Handle Refusal) (k : UniformKind) (v : BookView) (new : Resources) (t : Thing) → IsReferred result k v.resources new t
    → MatchResult result
    (λ h. (first_refusal (uniform_refusals v.resources k (Some t)) ≡ None) × (h ≡ t.handle) × (record v { resources = new } ≡ record v { resources = bare_of (on_thing (with_references (λ n. n + 1)) h.serial v.resources) }))
    (λ r. IsFirstRefusal (first_refusal (uniform_refusals v.resources k (Some t))) r × (record v { resources = new } ≡ v))
widened (Ok h) k v new t a = (a.0, a.1, λ j. record v { resources = a.2 j })
widened (Err r) k v new t a = (a.0, λ j. record v { resources = a.1 j })

-- a book's create of a uniform whose name lives
pub book_referred : (b : Inside) (v : BookView) → view_of b ≡ v → (result : Result Handle Refusal) (name : List ℕ) (k : UniformKind) (s : Shelf) (t : Thing)
    → not (nat_le 1 (length name) && nat_le (length name) 32) ≡ false → named_uniform (resources_of b.shelf) name ≡ Some t
    → IsReferred result k (resources_of b.shelf) (resources_of s) t → Creates result (model.create_uniform name k) v (view_of (record b { shelf = s }))
book_referred b v is result name k s t size found a =
    subst (λ (w : BookView). Creates result (model.create_uniform name k) w (view_of (record b { shelf = s }))) is
    (referred result name k (view_of b) (view_of (record b { shelf = s })) t size found (widened result k (view_of b) (resources_of s) t a))

-- who only tests what the definition tests wants no memory
pub never_memory : (result : Result Handle Refusal) (first : Option model.Refusal) (A : Handle → Type 0) (B X : Type 0) → MatchResult result A (λ r. IsFirstRefusal first r × B) → IfErr result (λ r. r ≡ refusals.OutOfMemory → X)
never_memory (Ok h) first A B X a = tt
never_memory (Err r) first A B X a = λ e. absurd (subst (IsFirstRefusal first) e a.0)

-- ---- destroys

-- an accepted destroy, by whether references are left
abbrev destroyed_by : Handle → BookView → Bool → BookView
destroyed_by h v b = record {
  resources = bare_of (if b then model.no_change (on_thing (with_references (λ n. n - 1)) h.serial v.resources) else model.no_change (die h v.resources)).after;
  pre = add_all v.pre (where_changed (if b then model.no_change (on_thing (with_references (λ n. n - 1)) h.serial v.resources) else model.no_change (die h v.resources)).changes []);
  post = add_all v.post (if b then [] else destroy_command (kind_number h.kind) h.index ∷ []);
  payloads = add_all v.payloads (where_changed (if b then model.no_change (on_thing (with_references (λ n. n - 1)) h.serial v.resources) else model.no_change (die h v.resources)).changes []);
}

pub destroyed_less : (h : Handle) (v : BookView) (t : Thing) → find (is_at h.kind h.index) v.resources.things ≡ Some t → 1 < t.references
    → record v { resources = bare_of (on_thing (with_references (λ n. n - 1)) h.serial v.resources) } ≡ after_in (model.destroy h) None v
destroyed_less h v t is lt =
    let more : nat_lt 1 (references_of (find (is_at h.kind h.index) v.resources.things)) ≡ true = ap (λ o. nat_lt 1 (references_of o)) is ∙ lt-ltb 1 t.references lt in
    ap (destroyed_by h v) (sym more)

pub destroyed_whole : (h : Handle) (v : BookView) (t : Thing) → find (is_at h.kind h.index) v.resources.things ≡ Some t → t.references ≤ 1
    → record v { resources = bare_of (die h v.resources); post = v.post ++ destroy_command (kind_number h.kind) h.index ∷ [] } ≡ after_in (model.destroy h) None v
destroyed_whole h v t is le =
    let more : nat_lt 1 (references_of (find (is_at h.kind h.index) v.resources.things)) ≡ false = ap (λ o. nat_lt 1 (references_of o)) is ∙ le-ltb 1 t.references le in
    ap (destroyed_by h v) (sym more)

pub is_less : (h : Handle) (v : BookView) (t : Thing) → find (is_at h.kind h.index) v.resources.things ≡ Some t → 1 < t.references → false ≡ not (nat_lt 1 (references_of (find (is_at h.kind h.index) v.resources.things)))
is_less h v t is lt = sym (ap not (ap (λ o. nat_lt 1 (references_of o)) is ∙ lt-ltb 1 t.references lt))

pub is_whole : (h : Handle) (v : BookView) (t : Thing) → find (is_at h.kind h.index) v.resources.things ≡ Some t → t.references ≤ 1 → true ≡ not (nat_lt 1 (references_of (find (is_at h.kind h.index) v.resources.things)))
is_whole h v t is le = sym (ap not (ap (λ o. nat_lt 1 (references_of o)) is ∙ le-ltb 1 t.references le))

-- a book's destroy that leaves references
pub book_less : (b : Inside) (v : BookView) → view_of b ≡ v → (h : Handle) (s : Shelf) (t : Thing) → find (is_at h.kind h.index) b.shelf.table.things ≡ Some t → 1 < t.references
    → resources_of s ≡ bare_of (on_thing (with_references (λ n. n - 1)) h.serial (resources_of b.shelf))
    → (false ≡ not (nat_lt 1 (references_of (find (is_at h.kind h.index) v.resources.things)))) × (view_of (record b { shelf = s }) ≡ after_in (model.destroy h) None v)
book_less b v is h s t found more e =
    subst (λ (w : BookView). (false ≡ not (nat_lt 1 (references_of (find (is_at h.kind h.index) w.resources.things)))) × (view_of (record b { shelf = s }) ≡ after_in (model.destroy h) None w)) is
    (is_less h (view_of b) t found more, (λ j. record (view_of b) { resources = e j }) ∙ destroyed_less h (view_of b) t found more)

-- a book's destroy of a thing that dies
pub book_whole : (b : Inside) (v : BookView) → view_of b ≡ v → (h : Handle) (s : Shelf) (post : Writing) (t : Thing) → find (is_at h.kind h.index) b.shelf.table.things ≡ Some t → t.references ≤ 1
    → resources_of s ≡ bare_of (die h (resources_of b.shelf)) → post.commands ≡ b.post.commands ++ destroy_command (kind_number h.kind) h.index ∷ []
    → (true ≡ not (nat_lt 1 (references_of (find (is_at h.kind h.index) v.resources.things)))) × (view_of (record b { shelf = s; post = post }) ≡ after_in (model.destroy h) None v)
book_whole b v is h s post t found few e noted =
    subst (λ (w : BookView). (true ≡ not (nat_lt 1 (references_of (find (is_at h.kind h.index) w.resources.things)))) × (view_of (record b { shelf = s; post = post }) ≡ after_in (model.destroy h) None w)) is
    (is_whole h (view_of b) t found few, (λ j. record (view_of b) { resources = e j; post = noted j }) ∙ destroyed_whole h (view_of b) t found few)

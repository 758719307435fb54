-- The handles of a run by their serials.
use Rattle.std.proofs.Common.{◌≡◌, ℕ, zero, suc, ◌+◌, ◌-◌, Bool, true, false, nat_lt, if◌then◌else◌, List, [], ◌∷◌, ◌++◌, length, fold, Option, Some, None, refl, sym, ap, ◌∙◌, subst, arith, slice_index_or}
use Rattle.std.specs.Prelude.{⊤}
use Rattle.std.specs.List.{AllByRecursion, find}
use Rattle.std.proofs.lemmas.List.{length-append}
use Rattle.gfx_model.specs.Words.{layout_kind, uniform_kind, plain, UniformKind, Handle}
use Rattle.gfx_model.specs.Resources.{Refusal, or_refusal, Thing, Resources, is_at, named_uniform, references_of, with_references, on_thing, die, no_change, uniform_effect, ResourceCall, create_layout, create_vertex_buffer, create_index_buffer, create_texture, create_frame_buffer, create_program, create_uniform, update_buffer, update_texture, destroy, change_view, set_view_target, set_view_order, effect, refusal_of}
use Rattle.scene_model.specs.Scene.{ResourceLine, SceneFrame, Scene}
use Rattle.scene_model.specs.Fold.{Progress, resource_call, after_call, after_answer, after_line, after_lines, at_start}
use Rattle.scene_laws.proofs.Accepting.{IsGiven, new_handles, new_uniform}
use Rattle.scene_laws.proofs.Lines.{new_where, new_by, new_of}

-- the serials of handles ascend by one from a number on
abbrev pub Numbered : ℕ → List Handle → Type 0
Numbered n [] = ⊤
Numbered n (h ∷ hs) = (h.serial ≡ n) × Numbered (n + 1) hs

numbered_append : (n : ℕ) (xs ys : List Handle) → Numbered n xs → Numbered (n + length xs) ys → Numbered n (xs ++ ys)
numbered_append n [] ys a b = let e : n + 0 ≡ n = omega arith in subst (λ m. Numbered m ys) e b
numbered_append n (x ∷ xs) ys a b = (a.0, numbered_append (n + 1) xs ys a.1 (let e : n + suc (length xs) ≡ n + 1 + length xs = omega arith in subst (λ m. Numbered m ys) e b))

-- handles that are new are numbered from the next serial on, and the next one follows them
pub record Numbers (r : Resources) (hs : List Handle) (s : Resources) : Type 0 where
  pub numbered : Numbered r.next_serial hs
  pub next : s.next_serial ≡ r.next_serial + length hs

none_new : (r s : Resources) → s.next_serial ≡ r.next_serial → Numbers r [] s
none_new r s e = record { numbered = tt; next = (let f : r.next_serial ≡ r.next_serial + 0 = omega arith in e ∙ f) }

one_new : (r : Resources) (h : Handle) (s : Resources) → h.serial ≡ r.next_serial → s.next_serial ≡ r.next_serial + 1 → Numbers r (h ∷ []) s
one_new r h s e f = record { numbered = (e, tt); next = f }

then_new : (r s t : Resources) (xs ys : List Handle) → Numbers r xs s → Numbers s ys t → Numbers r (xs ++ ys) t
then_new r s t xs ys a b = record {
  numbered = numbered_append r.next_serial xs ys a.numbered (subst (λ m. Numbered m ys) a.next b.numbered);
  next = (let e = a.next in let f = b.next in let g = length-append xs ys in omega (arith, e, f, g));
}

uniform_new : (r : Resources) (name : List ℕ) (k : UniformKind) (o : Option Thing) → Numbers r (new_uniform r k o) (uniform_effect r name k o).after
uniform_new r name k None = one_new r _ _ refl refl
uniform_new r name k (Some t) = none_new r _ refl

destroy_new : (r : Resources) (h : Handle) (b : Bool) → Numbers r [] (if b then no_change (on_thing (with_references (λ n. n - 1)) h.serial r) else no_change (die h r)).after
destroy_new r h true = none_new r _ refl
destroy_new r h false = none_new r _ refl

call_new : (r : Resources) (c : ResourceCall) → Numbers r (new_handles r c) (effect r c).after
call_new r (create_layout l) = one_new r _ _ refl refl
call_new r (create_vertex_buffer l bytes) = one_new r _ _ refl refl
call_new r (create_index_buffer bytes) = one_new r _ _ refl refl
call_new r (create_texture width height f d source) = one_new r _ _ refl refl
call_new r (create_frame_buffer color depth) = one_new r _ _ refl refl
call_new r (create_program k) = one_new r _ _ refl refl
call_new r (create_uniform name k) = uniform_new r name k (named_uniform r name)
call_new r (update_buffer h offset bytes) = none_new r _ refl
call_new r (update_texture h rect bytes) = none_new r _ refl
call_new r (destroy h) = destroy_new r h (nat_lt 1 (references_of (find (is_at h.kind h.index) r.things)))
call_new r (change_view v c) = none_new r _ refl
call_new r (set_view_target v t) = none_new r _ refl
call_new r (set_view_order ids) = none_new r _ refl

answer_new : (p : Progress) (line : ResourceLine) (c : ResourceCall) (o : Option Refusal) → Numbers p.resources (new_where p.resources c o) (after_answer p line (or_refusal (effect p.resources c) o)).resources
answer_new p line c None = call_new p.resources c
answer_new p line c (Some refusal) = none_new p.resources p.resources refl

line_new : (p : Progress) (line : ResourceLine) (o : Option ResourceCall) → Numbers p.resources (new_by p.resources o) (after_call p line o).resources
line_new p line None = none_new p.resources p.resources refl
line_new p line (Some c) = answer_new p line c (refusal_of p.resources c)

lines_new : (names : List (List ℕ)) (p : Progress) (lines : List ResourceLine) → Numbers p.resources (new_of names p lines) (after_lines names p lines).resources
lines_new names p [] = none_new p.resources p.resources refl
lines_new names p (line ∷ rest) =
    then_new p.resources (after_line names p line).resources (after_lines names (after_line names p line) rest).resources (new_by p.resources (resource_call p.bindings names line)) (new_of names (after_line names p line) rest)
    (line_new p line (resource_call p.bindings names line)) (lines_new names (after_line names p line) rest)

-- all that is new in frames from number k on
abbrev pub new_from : Scene → ℕ → Progress → List SceneFrame → List Handle
new_from s k p [] = []
new_from s k p (f ∷ rest) =
    let before = after_lines s.names (at_start k p) f.before in
    (new_of s.names (at_start k p) f.before ++ new_of s.names before f.beside) ++ new_from s (k + 1) (after_lines s.names before f.beside) rest

frames_new : (s : Scene) (k : ℕ) (p : Progress) (frames : List SceneFrame) → Numbered p.resources.next_serial (new_from s k p frames)
frames_new s k p [] = tt
frames_new s k p (f ∷ rest) =
    let first = at_start k p in
    let before = after_lines s.names first f.before in
    let all = after_lines s.names before f.beside in
    let n = then_new first.resources before.resources all.resources (new_of s.names first f.before) (new_of s.names before f.beside) (lines_new s.names first f.before) (lines_new s.names before f.beside) in
    let more = frames_new s (k + 1) all rest in
    numbered_append p.resources.next_serial (new_of s.names first f.before ++ new_of s.names before f.beside) (new_from s (k + 1) all rest) n.numbered
    (subst (λ m. Numbered m (new_from s (k + 1) all rest)) n.next more)

-- ---- a handle by its serial

abbrev no_handle : Handle
no_handle = record { kind = layout_kind; index = 0; serial = 0; info = plain }

-- the handles of a run by their serials, which begin with 1
abbrev pub given_in : List Handle → ℕ → Handle
given_in hs n = slice_index_or hs (n - 1) no_handle

all_given : (given : ℕ → Handle) (n : ℕ) (hs : List Handle) → Numbered n hs → ((i : ℕ) → given (n + i) ≡ slice_index_or hs i no_handle) → AllByRecursion (IsGiven given) hs
all_given given n [] a same = tt
all_given given n (h ∷ hs) a same =
    let zeroth : n ≡ n + 0 = omega arith in
    (ap given (a.0 ∙ zeroth) ∙ same 0, all_given given (n + 1) hs a.1 (λ i. (let e : n + 1 + i ≡ n + suc i = omega arith in ap given e ∙ same (suc i))))

-- each handle of a run is the one with its serial
pub run_given : (s : Scene) (k : ℕ) (p : Progress) (frames : List SceneFrame) → p.resources.next_serial ≡ 1 → AllByRecursion (IsGiven (given_in (new_from s k p frames))) (new_from s k p frames)
run_given s k p frames e =
    let hs : List Handle = new_from s k p frames in
    all_given (given_in hs) 1 hs (subst (λ m. Numbered m hs) e (frames_new s k p frames)) (λ i. (let same : 1 + i - 1 ≡ i = omega arith in ap (λ n. slice_index_or hs n no_handle) same))

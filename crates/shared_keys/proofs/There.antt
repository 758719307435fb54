-- The accepted items of a scene are of views that are there.
use Rattle.std.proofs.Common.{◌≡◌, ℕ, zero, suc, ◌+◌, ◌<◌, Bool, true, false, not, cond, nat_lt, nat_le, List, [], ◌∷◌, ◌++◌, map, fold, slice_get, Option, Some, None, refl, sym, subst, ◌∙◌, arith, ◌-◌}
use Rattle.std.specs.List.{AllByRecursion, find, range_with_len}
use Rattle.std.proofs.lemmas.List.{length-map, length-set, length-replicate}
use Rattle.gfx_model.specs.Words.{program_kind, is_kind, UniformKind}
use Rattle.gfx_model.specs.Views.{Views, View, plain_view, view_count, set_view, view_after}
use Rattle.gfx_model.specs.World.{Blit}
use Rattle.gfx_model.specs.Resources.{Resources, ResourceCall, create_layout, create_vertex_buffer, create_index_buffer, create_texture, create_frame_buffer, create_program, create_uniform, update_buffer, update_texture, destroy, change_view, set_view_target, set_view_order, Effect, Refusal, wrong_kind, not_blit_destination, Thing, refusal_of, effect, named_uniform, uniform_effect, no_change, on_thing, with_references, die, is_at, references_of, first_refusal, or_refusal, deaths_in, with_live_target}
use Rattle.gfx_model.specs.Recorder.{Recorder, EncoderCall, set_state, set_stencil, set_scissor, set_transform, set_vertices, set_indices, set_transient_vertices, set_transient_indices, set_texture, set_uniform, submit, touch, blit, refusals, is_no_view, is_not_kind, is_not_usable, same_formats, format_of, is_blit_destination_in, loaded, lacks_room, after, asked, begun}
use Rattle.scene_model.specs.Scene.{ResourceLine, EncoderLine, SceneFrame, Scene, views_of}
use Rattle.scene_model.specs.Fold.{resource_call, Progress, after_answer, after_call, after_line, after_lines, at_start, encoder_call, Recording, recording_after, after_encoder_call, after_encoder_line, lines_of, recording_of, accepted_of, Accepted, FramePlan, plan_of, plans_from, plans, first_progress}
use Rattle.gfx_model.specs.Resources.{word_of}
use Rattle.shared_keys.specs.Marks.{IsThere}
use Rattle.shared_keys.specs.Laws.{ThereLaw}

-- ---- the number of views

set-count : (vs : Views) (v : ℕ) (f : View → View) → view_count (set_view vs v f) ≡ view_count vs
set-count vs v f = length-set vs.settings v _

uniform-count : (r : Resources) (name : List ℕ) (o : Option Thing) (k : UniformKind) → view_count (uniform_effect r name k o).after.views ≡ view_count r.views
uniform-count r name None k = refl
uniform-count r name (Some t) k = refl

either-count : (n : ℕ) (b : Bool) (x y : Effect) → view_count x.after.views ≡ n → view_count y.after.views ≡ n → view_count (cond b x y).after.views ≡ n
either-count n true x y f g = f
either-count n false x y f g = g

call-count : (r : Resources) (c : ResourceCall) → view_count (effect r c).after.views ≡ view_count r.views
call-count r (create_layout l) = refl
call-count r (create_vertex_buffer l bytes) = refl
call-count r (create_index_buffer bytes) = refl
call-count r (create_texture width height f d source) = refl
call-count r (create_frame_buffer color depth) = refl
call-count r (create_program k) = refl
call-count r (create_uniform name k) = uniform-count r name (named_uniform r name) k
call-count r (update_buffer h offset bytes) = refl
call-count r (update_texture h rect bytes) = refl
call-count r (destroy h) =
    either-count (view_count r.views) (nat_lt 1 (references_of (find (is_at h.kind h.index) r.things))) (no_change (on_thing (with_references (λ n. n - 1)) h.serial r)) (no_change (die h r)) refl refl
call-count r (change_view v c) = set-count r.views v (view_after c)
call-count r (set_view_target v t) = set-count r.views v (λ view. record view { target = t })
call-count r (set_view_order ids) = refl

answered-count : (p : Progress) (line : ResourceLine) (e : Effect) (o : Option Refusal) → view_count e.after.views ≡ view_count p.resources.views → view_count (after_answer p line (or_refusal e o)).resources.views ≡ view_count p.resources.views
answered-count p line e None h = h
answered-count p line e (Some x) h = refl

called-count : (p : Progress) (line : ResourceLine) (o : Option ResourceCall) → view_count (after_call p line o).resources.views ≡ view_count p.resources.views
called-count p line None = refl
called-count p line (Some c) = answered-count p line (effect p.resources c) (refusal_of p.resources c) (call-count p.resources c)

lines-count : (names : List (List ℕ)) (p : Progress) (lines : List ResourceLine) → view_count (after_lines names p lines).resources.views ≡ view_count p.resources.views
lines-count names p [] = refl
lines-count names p (l ∷ lines) = lines-count names (after_line names p l) lines ∙ called-count p l (resource_call p.bindings names l)

start-count : (k : ℕ) (p : Progress) → view_count (at_start k p).resources.views ≡ view_count p.resources.views
start-count k p = length-map p.resources.views.settings (with_live_target p.resources)

-- ---- the items of an encoder

record AreThere (n : ℕ) (r : Recorder) : Type 0 where
  pub views : r.view_count ≡ n
  pub items : AllByRecursion (IsThere n) r.items

all-snoc : {A : Type 0} (P : A → Type 0) (xs : List A) (x : A) → AllByRecursion P xs → P x → AllByRecursion P (xs ++ x ∷ [])
all-snoc P [] x a h = (h, tt)
all-snoc P (y ∷ xs) x a h = (a.0, all-snoc P xs x a.1 h)

first-none : (x : Bool × Refusal) (rest : List (Bool × Refusal)) → first_refusal (x ∷ rest) ≡ None → (x.0 ≡ false) × (first_refusal rest ≡ None)
first-none x rest e = go x.0 refl e
  where
    go : (b : Bool) → x.0 ≡ b → cond b (Some x.1) (first_refusal rest) ≡ None → (x.0 ≡ false) × (first_refusal rest ≡ None)
    go true t e = cc e
    go false t e = (t, e)

unnot : (b : Bool) → not b ≡ false → b ≡ true
unnot true e = refl
unnot false e = cc e

view-there : (n c v : ℕ) → c ≡ n → nat_le c v ≡ false → v < n
view-there n c v e f = grind (arith, e, f)

-- the refusals of a blit behind that of its view
abbrev others : Recorder → List ℕ → Blit → List (Bool × Refusal)
others r words b =
    (not (same_formats (format_of b.destination) (format_of b.source)), wrong_kind) ∷ is_not_usable r.frame b.destination (loaded words 0) ∷ is_not_usable r.frame b.source (loaded words 1)
    ∷ (not (is_blit_destination_in b.destination.info), not_blit_destination) ∷ lacks_room r ∷ []

after-there : (n : ℕ) (r : Recorder) (words : List ℕ) (c : EncoderCall) → AreThere n r → first_refusal (refusals r words c) ≡ None → AreThere n (after r c)
after-there n r words (set_state word) h e = record { views = h.views; items = h.items }
after-there n r words (set_stencil front back) h e = record { views = h.views; items = h.items }
after-there n r words (set_scissor rect) h e = record { views = h.views; items = h.items }
after-there n r words (set_transform m) h e = record { views = h.views; items = h.items }
after-there n r words (set_vertices b first count) h e = record { views = h.views; items = h.items }
after-there n r words (set_indices b first count) h e = record { views = h.views; items = h.items }
after-there n r words (set_transient_vertices b bytes) h e = record { views = h.views; items = h.items }
after-there n r words (set_transient_indices bytes) h e = record { views = h.views; items = h.items }
after-there n r words (set_texture stage t) h e = record { views = h.views; items = h.items }
after-there n r words (set_uniform u v) h e = record { views = h.views; items = h.items }
after-there n r words (submit v program depth flags) h e =
    let views = first-none (is_no_view r v) (is_not_kind program_kind program ∷ is_not_usable r.frame program (loaded words 0) ∷ lacks_room r ∷ []) e in
    let kinds = first-none (is_not_kind program_kind program) (is_not_usable r.frame program (loaded words 0) ∷ lacks_room r ∷ []) views.1 in
    record { views = h.views; items = all-snoc (IsThere n) r.items _ h.items (view-there n r.view_count v h.views views.0, unnot (is_kind program.kind program_kind) kinds.0) }
after-there n r words (touch v) h e =
    let views = first-none (is_no_view r v) (lacks_room r ∷ []) e in
    record { views = h.views; items = all-snoc (IsThere n) r.items _ h.items (view-there n r.view_count v h.views views.0, tt) }
after-there n r words (blit b) h e = record { views = h.views; items = all-snoc (IsThere n) r.items _ h.items (view-there n r.view_count b.view h.views (first-none (is_no_view r b.view) (others r words b) e).0, tt) }

recorded-there : (n : ℕ) (x : Recorder) (o : Option Refusal) (r : Recording) → AreThere n r.recorder → (o ≡ None → AreThere n x) → AreThere n (recording_after r (or_refusal x o)).recorder
recorded-there n x None r h f = f refl
recorded-there n x (Some e) r h f = h

called-there : (n : ℕ) (p : Progress) (r : Recording) (o : Option EncoderCall) → AreThere n r.recorder → AreThere n (after_encoder_call p.resources r o).recorder
called-there n p r None h = h
called-there n p r (Some c) h =
    recorded-there n (after r.recorder c) (first_refusal (refusals r.recorder (map (word_of p.resources) (asked c)) c)) r h (after-there n r.recorder (map (word_of p.resources) (asked c)) c h)

lines-there : (n : ℕ) (p : Progress) (r : Recording) (lines : List EncoderLine) → AreThere n r.recorder → AreThere n (fold (after_encoder_line p) r lines).recorder
lines-there n p r [] h = h
lines-there n p r (l ∷ lines) h = lines-there n p (after_encoder_line p r l) lines (called-there n p r (encoder_call p.bindings l) h)

-- ---- frames

abbrev EncodersThere : FramePlan → Type 0
EncodersThere p = AllByRecursion (λ a. AllByRecursion (IsThere (view_count p.views)) a.items) p.encoders

all-map : {A B : Type 0} (P : B → Type 0) (g : A → B) → ((x : A) → P (g x)) → (xs : List A) → AllByRecursion P (map g xs)
all-map P g h [] = tt
all-map P g h (x ∷ xs) = (h x, all-map P g h xs)

plan-there : (s : Scene) (k : ℕ) (f : SceneFrame) (gone : List ℕ) (before all : Progress) → view_count all.resources.views ≡ views_of s → EncodersThere (plan_of s k f gone before all)
plan-there s k f gone before all e =
    subst (λ (n : ℕ). AllByRecursion (λ (a : Accepted). AllByRecursion (IsThere n) a.items) (plan_of s k f gone before all).encoders) (sym e)
    (all-map (λ (a : Accepted). AllByRecursion (IsThere (views_of s)) a.items) (λ e. accepted_of (recording_of s k before f e))
    (λ e. (lines-there (views_of s) before (record { recorder = begun k (views_of s) s.room; dropped = 0 }) (lines_of e f.blocks) (record { views = refl; items = tt })).items) (range_with_len 0 s.encoders))

plans-there : (s : Scene) (k : ℕ) (gone : List ℕ) (p : Progress) (frames : List SceneFrame) → view_count p.resources.views ≡ views_of s → AllByRecursion EncodersThere (plans_from s k gone p frames)
plans-there s k gone p [] e = tt
plans-there s k gone p (f ∷ frames) e =
    let before : Progress = after_lines s.names (at_start k p) f.before in
    let all : Progress = after_lines s.names before f.beside in
    let same : view_count all.resources.views ≡ views_of s = lines-count s.names before f.beside ∙ lines-count s.names (at_start k p) f.before ∙ start-count k p ∙ e in
    (plan-there s k f gone before all same, plans-there s (k + 1) (deaths_in k all.resources) all frames same)

pub all-there : (s : Scene) → AllByRecursion EncodersThere (plans s)
all-there s = plans-there s 0 [] (first_progress s) s.frames (length-replicate (views_of s) _)

all-get : {A : Type 0} (P : A → Type 0) (xs : List A) (i : ℕ) (r : A) → slice_get xs i ≡ Some r → AllByRecursion P xs → P r
all-get P [] i r e a = cc e
all-get P (x ∷ xs) zero r e a = let same : x ≡ r = cc e in subst P same a.0
all-get P (x ∷ xs) (suc i) r e a = all-get P xs i r e a.1

pub there : ThereLaw
there s k p e = all-get EncodersThere (plans s) k p e (all-there s)

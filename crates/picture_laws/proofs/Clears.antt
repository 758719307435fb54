-- The views of a readable scene clear to colours of four bytes.
use Rattle.std.proofs.Common.{ℕ, zero, suc, ◌+◌, ◌-◌, Bool, true, false, cond, List, [], ◌∷◌, map, replicate, Option, Some, None, refl}
use Rattle.std.specs.Prelude.{⊤, option_map, option_and_then, slice_index_or, slice_set, nat_lt}
use Rattle.std.specs.List.{AllByRecursion, find}
use Rattle.gfx_model.specs.Views.{Views, View, plain_view, rect_change, scissor_change, clear_change, mode_change, transform_change, plain_change}
use Rattle.gfx_model.specs.Resources.{Resources, ResourceCall, create_layout, create_vertex_buffer, create_index_buffer, create_texture, create_frame_buffer, create_program, create_uniform, update_buffer, update_texture, destroy, change_view, set_view_target, set_view_order, Thing, Effect, effect, uniform_effect, named_uniform, no_change, on_thing, with_references, die, references_of, is_at, with_live_target, deaths_in, Refusal, refusal_of, or_refusal}
use Rattle.gfx_model.specs.Vertex.{layout_of_parts}
use Rattle.scene_model.specs.Scene.{ResourceLine, layout_line, vertex_buffer_line, index_buffer_line, texture_line, frame_buffer_line, program_line, uniform_line, update_line, texel_update_line, destroy_line, view_line, target_line, order_line, SceneFrame, Scene, views_of}
use Rattle.scene_model.specs.Fold.{Bindings, Progress, thing_named, option_named, resource_call, after_answer, after_call, after_line, after_lines, at_start, plans_from, first_progress}
use Rattle.spelling_model.specs.Readable.{IsResourceLine, AreResourceLines, bound_by, bound_by_lines, AreFrames, bound_by_frame}
use Rattle.picture_laws.specs.Whole.{IsFour, ClearsToColors, WholeLaw}
use Rattle.picture_laws.proofs.Kept.{cleared-law}

-- ---- views

abbrev ClearsFour : View → Type 0
ClearsFour v = IsFour v.clear.color

abbrev AreClear : Views → Type 0
AreClear vs = AllByRecursion ClearsFour vs.settings

at-clear : (xs : List View) (v : ℕ) → AllByRecursion ClearsFour xs → ClearsFour (slice_index_or xs v plain_view)
at-clear [] v h = refl
at-clear (x ∷ xs) zero h = h.0
at-clear (x ∷ xs) (suc v) h = at-clear xs v h.1

set-clear : (xs : List View) (v : ℕ) (x : View) → AllByRecursion ClearsFour xs → ClearsFour x → AllByRecursion ClearsFour (slice_set xs v x)
set-clear [] v x h f = tt
set-clear (y ∷ ys) zero x h f = (f, h.1)
set-clear (y ∷ ys) (suc v) x h f = (h.0, set-clear ys v x h.1 f)

live-clear : (r : Resources) (xs : List View) → AllByRecursion ClearsFour xs → AllByRecursion ClearsFour (map (with_live_target r) xs)
live-clear r [] h = tt
live-clear r (x ∷ xs) h = (h.0, live-clear r xs h.1)

new-clear : (n : ℕ) → AllByRecursion ClearsFour (replicate n plain_view)
new-clear zero = tt
new-clear (suc n) = (refl, new-clear n)

-- ---- calls

abbrev CallClears : ResourceCall → Type 0
CallClears (change_view v (clear_change c)) = IsFour c.color
CallClears _ = ⊤

abbrev MayClear : Option ResourceCall → Type 0
MayClear None = ⊤
MayClear (Some c) = CallClears c

either-clear : (b : Bool) (x y : Effect) → AreClear x.after.views → AreClear y.after.views → AreClear (cond b x y).after.views
either-clear true x y f g = f
either-clear false x y f g = g

effect-clear : (r : Resources) (c : ResourceCall) → CallClears c → AreClear r.views → AreClear (effect r c).after.views
effect-clear r (create_layout l) ok own = own
effect-clear r (create_vertex_buffer l bytes) ok own = own
effect-clear r (create_index_buffer bytes) ok own = own
effect-clear r (create_texture width height f d source) ok own = own
effect-clear r (create_frame_buffer color depth) ok own = own
effect-clear r (create_program k) ok own = own
effect-clear r (create_uniform name k) ok own = go (named_uniform r name)
  where
    go : (o : Option Thing) → AreClear (uniform_effect r name k o).after.views
    go None = own
    go (Some t) = own
effect-clear r (update_buffer h offset bytes) ok own = own
effect-clear r (update_texture h rect bytes) ok own = own
effect-clear r (destroy h) ok own =
    either-clear (nat_lt 1 (references_of (find (is_at h.kind h.index) r.things))) (no_change (on_thing (with_references (λ n. n - 1)) h.serial r)) (no_change (die h r)) own own
effect-clear r (change_view v (rect_change rect)) ok own = set-clear r.views.settings v _ own (at-clear r.views.settings v own)
effect-clear r (change_view v (scissor_change rect)) ok own = set-clear r.views.settings v _ own (at-clear r.views.settings v own)
effect-clear r (change_view v (clear_change c)) ok own = set-clear r.views.settings v _ own ok
effect-clear r (change_view v (mode_change m)) ok own = set-clear r.views.settings v _ own (at-clear r.views.settings v own)
effect-clear r (change_view v (transform_change t)) ok own = set-clear r.views.settings v _ own (at-clear r.views.settings v own)
effect-clear r (set_view_target v t) ok own = set-clear r.views.settings v _ own (at-clear r.views.settings v own)
effect-clear r (set_view_order ids) ok own = own
effect-clear r (change_view v plain_change) ok own = set-clear r.views.settings v _ own refl

-- ---- lines

mapped : {X : Type 0} (f : X → ResourceCall) (o : Option X) → ((x : X) → CallClears (f x)) → MayClear (option_map f o)
mapped f None h = tt
mapped f (Some x) h = h x

chained : {X : Type 0} (f : X → Option ResourceCall) (o : Option X) → ((x : X) → MayClear (f x)) → MayClear (option_and_then f o)
chained f None h = tt
chained f (Some x) h = h x

call-clears : (bs : Bindings) (names : List (List ℕ)) (views : ℕ) (bound : List Bool) (l : ResourceLine) → IsResourceLine views bound l → MayClear (resource_call bs names l)
call-clears bs names views bound (layout_line n parts) h = mapped create_layout (layout_of_parts parts) (λ x. tt)
call-clears bs names views bound (vertex_buffer_line n l bytes) h = mapped (λ x. create_vertex_buffer x bytes) (thing_named bs l) (λ x. tt)
call-clears bs names views bound (index_buffer_line n bytes) h = tt
call-clears bs names views bound (texture_line n width height f d source) h = tt
call-clears bs names views bound (frame_buffer_line n color depth) h =
    chained (λ c. option_map (λ d. create_frame_buffer c d) (option_named bs depth)) (thing_named bs color) (λ c. mapped (λ d. create_frame_buffer c d) (option_named bs depth) (λ d. tt))
call-clears bs names views bound (program_line n k) h = tt
call-clears bs names views bound (uniform_line n k) h = tt
call-clears bs names views bound (update_line n offset bytes) h = mapped (λ x. update_buffer x offset bytes) (thing_named bs n) (λ x. tt)
call-clears bs names views bound (texel_update_line n r bytes) h = mapped (λ x. update_texture x r bytes) (thing_named bs n) (λ x. tt)
call-clears bs names views bound (destroy_line n) h = mapped destroy (thing_named bs n) (λ x. tt)
call-clears bs names views bound (view_line v (rect_change r)) h = tt
call-clears bs names views bound (view_line v (scissor_change r)) h = tt
call-clears bs names views bound (view_line v (clear_change c)) h = h.1.1.0
call-clears bs names views bound (view_line v (mode_change m)) h = tt
call-clears bs names views bound (target_line v t) h = mapped (set_view_target v) (option_named bs t) (λ x. tt)
call-clears bs names views bound (view_line v (transform_change t)) h = tt
call-clears bs names views bound (view_line v plain_change) h = tt
call-clears bs names views bound (order_line ids) h = tt

answered : (p : Progress) (l : ResourceLine) (e : Effect) (o : Option Refusal) → AreClear e.after.views → AreClear p.resources.views → AreClear (after_answer p l (or_refusal e o)).resources.views
answered p l e None after own = after
answered p l e (Some r) after own = own

called : (p : Progress) (l : ResourceLine) (o : Option ResourceCall) → MayClear o → AreClear p.resources.views → AreClear (after_call p l o).resources.views
called p l None ok own = own
called p l (Some c) ok own = answered p l (effect p.resources c) (refusal_of p.resources c) (effect-clear p.resources c ok own) own

lines-clear : (names : List (List ℕ)) (views : ℕ) (bound : List Bool) (ls : List ResourceLine) (p : Progress) → AreResourceLines views bound ls → AreClear p.resources.views → AreClear (after_lines names p ls).resources.views
lines-clear names views bound [] p h own = own
lines-clear names views bound (l ∷ ls) p h own =
    lines-clear names views (bound_by bound l) ls (after_line names p l) h.1 (called p l (resource_call p.bindings names l) (call-clears p.bindings names views bound l h.0) own)

-- ---- frames

frames-clear : (s : Scene) (bound : List Bool) (k : ℕ) (gone : List ℕ) (p : Progress) (fs : List SceneFrame) → AreFrames (views_of s) s.encoders bound fs → AreClear p.resources.views
    → AllByRecursion (λ q. ClearsToColors q.views) (plans_from s k gone p fs)
frames-clear s bound k gone p [] h own = tt
frames-clear s bound k gone p (f ∷ fs) h own =
    let start = live-clear p.resources p.resources.views.settings own in
    let before = after_lines s.names (at_start k p) f.before in
    let all = after_lines s.names before f.beside in
    let first = lines-clear s.names (views_of s) bound f.before (at_start k p) h.0.before start in
    let after : AreClear all.resources.views = lines-clear s.names (views_of s) (bound_by_lines bound f.before) f.beside before h.0.beside first in
    (λ v. at-clear all.resources.views.settings v after, frames-clear s (bound_by_frame bound f) (k + 1) (deaths_in k all.resources) all fs h.1 after)

pub whole-law : WholeLaw
whole-law s j h = cleared-law s j (frames-clear s [] 0 [] (first_progress s) s.frames h.frames (new-clear (views_of s)))

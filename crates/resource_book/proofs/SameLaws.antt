-- What no call changes: how many views there are, how many frames may be out, and the number of the frame.
use Rattle.std.proofs.Common.{◌≡◌, ℕ, Bool, true, false, List, Option, Some, None, ◌-◌, if◌then◌else◌, refl, nat_lt, slice_set}
use Rattle.std.specs.List.{find}
use Rattle.std.proofs.lemmas.List.{length-set}
use Rattle.gfx_model.specs.Views.{View, view_count}
use Rattle.gfx_model.specs.Words.{Handle, UniformKind}
use Rattle.gfx_model.specs.Resources.{Thing, Resources, create_layout, create_vertex_buffer, create_index_buffer, create_texture, create_frame_buffer, create_program, create_uniform, update_buffer, update_texture, destroy, change_view, set_view_target, set_view_order, named_uniform, uniform_effect, no_change, die, on_thing, with_references, references_of, is_at}
use Rattle.resource_book.specs.Laws.{SameLaw}

-- two states with the same of all three
abbrev IsOfSame : (old new : Resources) → Type 0
IsOfSame old new = (view_count new.views ≡ view_count old.views) × (new.latency ≡ old.latency) × (new.frame ≡ old.frame)

same_uniform : (r : Resources) (name : List ℕ) (k : UniformKind) (o : Option Thing) → IsOfSame r (uniform_effect r name k o).after
same_uniform r name k None = (refl, refl, refl)
same_uniform r name k (Some t) = (refl, refl, refl)

same_destroy : (r : Resources) (h : Handle) (b : Bool) → IsOfSame r (if b then no_change (on_thing (with_references (λ n. n - 1)) h.serial r) else no_change (die h r)).after
same_destroy r h true = (refl, refl, refl)
same_destroy r h false = (refl, refl, refl)

same_view : (r : Resources) (v : ℕ) (x : View) → view_count (record r.views { settings = slice_set r.views.settings v x }) ≡ view_count r.views
same_view r v x = length-set r.views.settings v x

pub same_law : SameLaw
same_law r (create_layout x) = (refl, refl, refl)
same_law r (create_vertex_buffer h bytes) = (refl, refl, refl)
same_law r (create_index_buffer bytes) = (refl, refl, refl)
same_law r (create_texture width height f d source) = (refl, refl, refl)
same_law r (create_frame_buffer color depth) = (refl, refl, refl)
same_law r (create_program k) = (refl, refl, refl)
same_law r (create_uniform name k) = same_uniform r name k (named_uniform r name)
same_law r (update_buffer h offset bytes) = (refl, refl, refl)
same_law r (update_texture h rect bytes) = (refl, refl, refl)
same_law r (destroy h) = same_destroy r h (nat_lt 1 (references_of (find (is_at h.kind h.index) r.things)))
same_law r (change_view v c) = (same_view r v _, refl, refl)
same_law r (set_view_target v t) = (same_view r v _, refl, refl)
same_law r (set_view_order ids) = (refl, refl, refl)

-- What a call writes does not depend on contents.
use Rattle.std.proofs.Common.{◌≡◌, List, [], ◌∷◌, ◌++◌, length, Option, Some, None, nat_lt, if◌then◌else◌, option_map, refl, sym, ap, ◌∙◌}
use Rattle.std.proofs.lemmas.List.{append-nil}
use Rattle.std.specs.List.{find}
use Rattle.gfx_model.specs.Words.{kind_number}
use Rattle.gfx_model.specs.Commands.{destroy_command}
use Rattle.gfx_model.specs.Resources.{Thing, Resources, ResourceCall, effect, references_of, is_at, create_layout, create_vertex_buffer, create_index_buffer, create_texture, create_frame_buffer, create_program, create_uniform, update_buffer, update_texture, destroy, change_view, set_view_target, set_view_order}
use Rattle.call_laws.specs.Calls.{Written, after_call, written, payload_for, where_changed, destroys_of}
use Rattle.resource_laws.specs.Bare.{bare, bare_of}
use Rattle.resource_laws.proofs.BareCalls.{find_bare}
use Rattle.resource_laws.proofs.BareEffects.{effect_same}
use Rattle.resource_book.specs.Written.{add_all, after_in}
use Rattle.resource_book.specs.Laws.{bared}

added : {A : Type 0} (xs ys : List A) → xs ++ ys ≡ add_all xs ys
added xs [] = append-nil xs
added xs (y ∷ ys) = refl

references_bare : (o : Option Thing) → references_of (option_map bare o) ≡ references_of o
references_bare None = refl
references_bare (Some t) = refl

destroys_bare : (r : Resources) (c : ResourceCall) → destroys_of (bare_of r) c ≡ destroys_of r c
destroys_bare r (destroy h) = ap (λ n. if nat_lt 1 n then [] else destroy_command (kind_number h.kind) h.index ∷ []) (ap references_of (find_bare (is_at h.kind h.index) (λ t. refl) r.things) ∙ references_bare (find (is_at h.kind h.index) r.things))
destroys_bare r (create_layout l) = refl
destroys_bare r (create_vertex_buffer l bytes) = refl
destroys_bare r (create_index_buffer bytes) = refl
destroys_bare r (create_texture width height f d source) = refl
destroys_bare r (create_frame_buffer color depth) = refl
destroys_bare r (create_program k) = refl
destroys_bare r (create_uniform name k) = refl
destroys_bare r (update_buffer h offset bytes) = refl
destroys_bare r (update_texture h rect bytes) = refl
destroys_bare r (change_view v c) = refl
destroys_bare r (set_view_target v t) = refl
destroys_bare r (set_view_order ids) = refl

pub written_law : (v : Written) (call : ResourceCall) → bared (after_call v call) ≡ after_in call (effect v.resources call).made (bared v)
written_law v call =
    let same = effect_same v.resources call in
    λ j. record {
      resources = sym same.after j;
      pre = (added v.pre (where_changed (effect v.resources call).changes (written call (effect v.resources call).made (length v.payloads)))
          ∙ ap (λ cs. add_all v.pre (where_changed cs (written call (effect v.resources call).made (length v.payloads)))) (sym same.changes)) j;
      post = (added v.post (destroys_of v.resources call) ∙ ap (add_all v.post) (sym (destroys_bare v.resources call))) j;
      payloads = (added v.payloads (where_changed (effect v.resources call).changes (payload_for call)) ∙ ap (λ cs. add_all v.payloads (where_changed cs (payload_for call))) (sym same.changes)) j;
    }

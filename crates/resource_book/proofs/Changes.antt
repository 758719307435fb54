-- Updates and view calls: what they write and change.
use Rattle.std.proofs.Common.{◌≡◌, ℕ, List, [], ◌∷◌, ◌++◌, map, length, None, Result, Ok, Err, sym, subst, ◌∙◌}
use Rattle.gfx_model.specs.Words.{Handle, kind_number}
use Rattle.gfx_model.specs.Raster.{Rect}
use Rattle.gfx_model.specs.Views.{Views}
use Rattle.gfx_model.specs.Commands.{Command, update_buffer_command, update_texture_command}
use Rattle.gfx_model.specs.Resources.{ResourceCall, Effect, effect, refusals, no_change, with_views, update_buffer, update_texture}
use Rattle.gfx_words.specs.declared.refusals.Refusal.{Refusal}
use Rattle.view_table.specs.Answered.{IsAnswered}
use Rattle.resource_laws.specs.Bare.{bare, bare_of}
use Rattle.resource_book.specs.Answered.{Changes}
use Rattle.resource_book.specs.Books.{view_of}
use Rattle.resource_book.specs.declared.book.Book.TheInside.{Inside}
use Rattle.resource_book.specs.Shelves.{resources_of}
use Rattle.resource_book.specs.Written.{BookView, after_in, add_all, where_changed, written, payload_for, destroys_of}

pub updated_buffer : (h : Handle) (offset : ℕ) (bytes : List ℕ) (v : BookView) → map bare v.resources.things ≡ v.resources.things
    → record v { pre = v.pre ++ update_buffer_command (kind_number h.kind) h.index offset (length v.payloads) ∷ []; payloads = v.payloads ++ bytes ∷ [] } ≡ after_in (update_buffer h offset bytes) None v
updated_buffer h offset bytes v b = λ j. record {
  resources = record v.resources { things = sym b j };
  pre = v.pre ++ update_buffer_command (kind_number h.kind) h.index offset (length v.payloads) ∷ [];
  post = v.post;
  payloads = v.payloads ++ bytes ∷ [];
}

pub updated_texture : (h : Handle) (r : Rect) (bytes : List ℕ) (v : BookView) → map bare v.resources.things ≡ v.resources.things
    → record v { pre = v.pre ++ update_texture_command h.index r.x r.y r.w r.h (length v.payloads) ∷ []; payloads = v.payloads ++ bytes ∷ [] } ≡ after_in (update_texture h r bytes) None v
updated_texture h r bytes v b = λ j. record {
  resources = record v.resources { things = sym b j };
  pre = v.pre ++ update_texture_command h.index r.x r.y r.w r.h (length v.payloads) ∷ [];
  post = v.post;
  payloads = v.payloads ++ bytes ∷ [];
}

abbrev after_with : ResourceCall → BookView → Effect → List Command → BookView
after_with call v e ds = record {
  resources = bare_of e.after;
  pre = add_all v.pre (where_changed e.changes (written call None (length v.payloads)));
  post = add_all v.post ds;
  payloads = add_all v.payloads (where_changed e.changes (payload_for call));
}

-- a call on views that is answered so by the views is answered so by the state
pub view_changed : (result : Result (Unit {0}) Refusal) (call : ResourceCall) (v : BookView) (new changed : Views) → map bare v.resources.things ≡ v.resources.things
    → IsAnswered result (refusals v.resources call) v.resources.views new changed → effect v.resources call ≡ no_change (with_views changed v.resources) → destroys_of v.resources call ≡ []
    → Changes result call v (record v { resources = with_views new v.resources })
view_changed (Ok u) call v new changed b a e d = (
  a.0,
  (λ j. record v { resources = record v.resources { views = a.1 j; things = sym b j } }) ∙ (λ j. after_with call v (sym e j) (sym d j)),
)
view_changed (Err r) call v new changed b a e d = (a.0, λ j. record v { resources = with_views (a.1 j) v.resources })

-- the same of a book, whose views alone are others
pub view_answered : (b : Inside) (v : BookView) → view_of b ≡ v → (result : Result (Unit {0}) Refusal) (call : ResourceCall) (new changed : Views) → map bare b.shelf.table.things ≡ b.shelf.table.things
    → IsAnswered result (refusals (resources_of b.shelf) call) b.shelf.views new changed → effect (resources_of b.shelf) call ≡ no_change (with_views changed (resources_of b.shelf)) → destroys_of (resources_of b.shelf) call ≡ []
    → Changes result call v (view_of (record b { shelf = record b.shelf { views = new } }))
view_answered b v is result call new changed things a e d =
    subst (λ (w : BookView). Changes result call w (view_of (record b { shelf = record b.shelf { views = new } }))) is (view_changed result call (view_of b) new changed things a e d)

-- The waiting indices of a kind stand in the order of the destroys.
use Rattle.std.proofs.Common.{◌≡◌, ◌≢◌, ℕ, ◌-◌, ◌==◌, nat_lt, Bool, true, false, if◌then◌else◌, List, [], ◌∷◌, ◌++◌, map, filter, length, Option, Some, None, refl, sym, ap, ◌∙◌, append_assoc, append-nil, eq-eqb, ne_eqb}
use Rattle.std.specs.List.{find}
use Rattle.std.proofs.lemmas.List.{length-set, map-append}
use Rattle.std.proofs.lemmas.List.Elements.{filter-append}
use mathlib.Core.Logic.{dite}
use native.Mathlib.Decide.{ℕ_discrete}
use Rattle.gfx_model.specs.Words.{Kind, all_kinds, kind_number, is_kind, Info, Handle, UniformKind, layout_kind, vertex_buffer_kind, index_buffer_kind, texture_kind, frame_buffer_kind, program_kind, uniform_kind, plain, texture_info, uniform_info}
use Rattle.gfx_model.specs.World.{Content, layout_content, vertex_content, index_content, texture_content, frame_buffer_content, program_content, uniform_content}
use Rattle.gfx_model.specs.Resources.{Thing, Resources, Book, book_of, without_top_index, with_waiting, make, die, on_thing, with_references, no_change, references_of, is_at, effect, uniform_effect, named_uniform, layout_of_handle, texels_from, serial_option, zero_value, ResourceCall, create_layout, create_vertex_buffer, create_index_buffer, create_texture, create_frame_buffer, create_program, create_uniform, update_buffer, update_texture, destroy, change_view, set_view_target, set_view_order}
use Rattle.resource_laws.specs.Laws.{dead_by, dead_by_all, after_all}
use Rattle.resource_laws.proofs.LawfulLaws.{no_book, book_same, book_other}

-- the indices and deaths of the handles of a kind
abbrev waiting_of : Kind → ℕ → List Handle → List (ℕ × ℕ)
waiting_of k frame hs = map (λ h. (h.index, frame)) (filter (λ h. is_kind h.kind k) hs)

-- what an effect leaves: the books, the frame, and the waiting of each kind with those that died behind
record Waits (r after : Resources) (dead : List Handle) : Type 0 where
  books : length after.books ≡ length all_kinds
  frame : after.frame ≡ r.frame
  waits : (k : Kind) → (book_of after k).waiting ≡ (book_of r k).waiting ++ waiting_of k r.frame dead

same_waits : (r : Resources) → length r.books ≡ length all_kinds → Waits r r []
same_waits r e = record { books = e; frame = refl; waits = λ k. sym (append-nil (book_of r k).waiting) }

made_waits : (m : Kind) (info : Info) (c : Content) (r : Resources) → length r.books ≡ length all_kinds → Waits r (make m info c r).after []
made_waits m info c r e = record {
  books = length-set r.books (kind_number m) (without_top_index (book_of r m)) ∙ e;
  frame = refl;
  waits = λ k. dite (ℕ_discrete (kind_number k) (kind_number m))
      (λ (same : kind_number k ≡ kind_number m). ap (λ (b : Book). b.waiting) (book_same r.books m k (without_top_index (book_of r m)) e same) ∙ ap (λ n. (Rattle.std.proofs.Common.slice_index_or r.books n no_book).waiting) (sym same) ∙ sym (append-nil (book_of r k).waiting))
      (λ (other : kind_number k ≢ kind_number m). ap (λ (b : Book). b.waiting) (book_other r.books m k (without_top_index (book_of r m)) other) ∙ sym (append-nil (book_of r k).waiting));
}

died_waits : (h : Handle) (r : Resources) → length r.books ≡ length all_kinds → Waits r (die h r) (h ∷ [])
died_waits h r e = record {
  books = length-set r.books (kind_number h.kind) (with_waiting h.index r.frame (book_of r h.kind)) ∙ e;
  frame = refl;
  waits = λ k. dite (ℕ_discrete (kind_number k) (kind_number h.kind))
      (λ (same : kind_number k ≡ kind_number h.kind).
      ap (λ (b : Book). b.waiting) (book_same r.books h.kind k (with_waiting h.index r.frame (book_of r h.kind)) e same)
      ∙ ap (λ n. (Rattle.std.proofs.Common.slice_index_or r.books n no_book).waiting ++ (h.index, r.frame) ∷ []) (sym same)
      ∙ ap (λ b. (book_of r k).waiting ++ map (λ (g : Handle). (g.index, r.frame)) (if b then h ∷ [] else [])) (sym (eq-eqb (kind_number h.kind) (kind_number k) (sym same))))
      (λ (other : kind_number k ≢ kind_number h.kind).
      ap (λ (b : Book). b.waiting) (book_other r.books h.kind k (with_waiting h.index r.frame (book_of r h.kind)) other)
      ∙ sym (append-nil (book_of r k).waiting)
      ∙ ap (λ b. (book_of r k).waiting ++ map (λ (g : Handle). (g.index, r.frame)) (if b then h ∷ [] else [])) (sym (ne_eqb (kind_number h.kind) (kind_number k) (λ f. other (sym f)))));
}

destroy_waits : (h : Handle) (r : Resources) (b : Bool) → length r.books ≡ length all_kinds → Waits r (if b then no_change (on_thing (with_references (λ n. n - 1)) h.serial r) else no_change (die h r)).after (if b then [] else h ∷ [])
destroy_waits h r true e = record { books = e; frame = refl; waits = λ k. sym (append-nil (book_of r k).waiting) }
destroy_waits h r false e = died_waits h r e

uniform_waits : (r : Resources) (name : List ℕ) (k : UniformKind) (o : Option Thing) → length r.books ≡ length all_kinds → Waits r (uniform_effect r name k o).after []
uniform_waits r name k None e = made_waits uniform_kind (uniform_info k) (uniform_content name (zero_value k)) r e
uniform_waits r name k (Some t) e = record { books = e; frame = refl; waits = λ m. sym (append-nil (book_of r m).waiting) }

view_waits : (r after : Resources) → length r.books ≡ length all_kinds → after.books ≡ r.books → after.frame ≡ r.frame → Waits r after []
view_waits r after e books frame = record {
  books = ap length books ∙ e;
  frame = frame;
  waits = λ k. ap (λ bs. (Rattle.std.proofs.Common.slice_index_or bs (kind_number k) no_book).waiting) books ∙ sym (append-nil (book_of r k).waiting);
}

call_waits : (r : Resources) (c : ResourceCall) → length r.books ≡ length all_kinds → Waits r (effect r c).after (dead_by r c)
call_waits r (create_layout l) e = made_waits layout_kind plain (layout_content l) r e
call_waits r (create_vertex_buffer l bytes) e = made_waits vertex_buffer_kind plain (vertex_content (layout_of_handle r l) bytes) r e
call_waits r (create_index_buffer bytes) e = made_waits index_buffer_kind plain (index_content bytes) r e
call_waits r (create_texture width height f d source) e = made_waits texture_kind (texture_info f d width height) (texture_content f (texels_from width height source)) r e
call_waits r (create_frame_buffer color depth) e = made_waits frame_buffer_kind plain (frame_buffer_content color.serial (serial_option depth)) r e
call_waits r (create_program k) e = made_waits program_kind plain (program_content k) r e
call_waits r (create_uniform name k) e = uniform_waits r name k (named_uniform r name) e
call_waits r (update_buffer h offset bytes) e = same_waits r e
call_waits r (update_texture h rect bytes) e = same_waits r e
call_waits r (destroy h) e = destroy_waits h r (nat_lt 1 (references_of (find (is_at h.kind h.index) r.things))) e
call_waits r (change_view v c) e = view_waits r _ e refl refl
call_waits r (set_view_target v t) e = view_waits r _ e refl refl
call_waits r (set_view_order ids) e = view_waits r _ e refl refl

waiting_append : (k : Kind) (frame : ℕ) (xs ys : List Handle) → waiting_of k frame (xs ++ ys) ≡ waiting_of k frame xs ++ waiting_of k frame ys
waiting_append k frame xs ys = ap (map _) (filter-append (λ (h : Handle). is_kind h.kind k) xs ys) ∙ map-append _ (filter (λ (h : Handle). is_kind h.kind k) xs) (filter (λ (h : Handle). is_kind h.kind k) ys)

pub destroys_in_order : (r : Resources) (cs : List ResourceCall) (k : Kind) → length r.books ≡ length all_kinds
    → (book_of (after_all r cs) k).waiting ≡ (book_of r k).waiting ++ map (λ h. (h.index, r.frame)) (filter (λ h. is_kind h.kind k) (dead_by_all r cs))
destroys_in_order r [] k e = sym (append-nil (book_of r k).waiting)
destroys_in_order r (c ∷ cs) k e =
    let one = call_waits r c e in
    let next : Resources = (effect r c).after in
    destroys_in_order next cs k one.books
    ∙ ap (λ ws. ws ++ waiting_of k next.frame (dead_by_all next cs)) (one.waits k)
    ∙ ap (λ n. ((book_of r k).waiting ++ waiting_of k r.frame (dead_by r c)) ++ waiting_of k n (dead_by_all next cs)) one.frame
    ∙ append_assoc (book_of r k).waiting (waiting_of k r.frame (dead_by r c)) (waiting_of k r.frame (dead_by_all next cs))
    ∙ ap (λ ws. (book_of r k).waiting ++ ws) (sym (waiting_append k r.frame (dead_by r c) (dead_by_all next cs)))

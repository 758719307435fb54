-- Views that are entered one after the other, as one pass.
use Rattle.std.proofs.Common.{◌≡◌, false, List, [], ◌∷◌, Option, Some, None, refl, sym, ap, subst, ◌∙◌}
use Rattle.std.specs.Prelude.{fold}
use Rattle.std.specs.List.{AllByRecursion}
use Rattle.gfx_model.specs.Words.{Handle, ProgramKind}
use Rattle.gfx_model.specs.Vertex.{VertexRange, IndexRange}
use Rattle.gfx_model.specs.Views.{View}
use Rattle.gfx_model.specs.World.{Surface, Draw, Paint, Item, draw_item, touch_item, blit_item, is_blit, clear_surface}
use Rattle.store_model.specs.Slots.{at}
use Rattle.store_model.specs.Buffers.{Buffers}
use Rattle.store_model.specs.Textures.{Textures}
use Rattle.store_laws.specs.ByIndex.{Stores, with_buffers, with_values, on_target, textures_out, paint_at, vertices_at, indices_at, drawn_with, do_by_index}
use Rattle.store_laws.specs.Listed.{Drawing, painted_in, drawn_in, values_after, IsApartTarget}
use Rattle.store_laws.proofs.ListLaws.{again, list_after, nothing_done, out_same}
use Rattle.store_laws.proofs.SideLaws.{KeepsSides, map_sides, clear_sides}
use Rattle.pass_laws.specs.Passed.{Turn, clear_turn, after_turn, all_drawn, all_values, all_cleared, all_listed, all_passed, ClearsBefore, AllClearBefore, IsPass}
use Rattle.pass_laws.proofs.Steps.{painted_after}

-- ---- clears before draws

-- a drawing whose surface is cleared
abbrev cleared_by : View → Drawing → Drawing
cleared_by w x = record { buffers = x.buffers; surface = clear_surface w x.surface }

items_after : (out : Textures) (programs : List (Option ProgramKind)) (v w : View) (x : Drawing) (items : List Item) → ClearsBefore v w
    → fold (drawn_in out programs v) (cleared_by w x) items ≡ cleared_by w (fold (drawn_in out programs v) x items)
items_after out programs v w x [] a = refl
items_after out programs v w x (touch_item t ∷ items) a = items_after out programs v w (drawn_in out programs v x (touch_item t)) items a
items_after out programs v w x (blit_item b ∷ items) a = items_after out programs v w x items a
items_after out programs v w x (draw_item d ∷ items) a =
    let b : Buffers = with_values x.buffers d.values in
    ap (λ (s : Surface). fold (drawn_in out programs v) (record { buffers = b; surface = s }) items) (sym (painted_after v w d b (paint_at b out d (at programs d.program.index)) x.surface a))
    ∙ items_after out programs v w (drawn_in out programs v x (draw_item d)) items a

-- a drawing whose surface is cleared by views
abbrev all_cleared_in : List Turn → Drawing → Drawing
all_cleared_in es x = record { buffers = x.buffers; surface = all_cleared x.surface es }

items_before : (out : Textures) (programs : List (Option ProgramKind)) (v : View) (x : Drawing) (items : List Item) (es : List Turn) → AllByRecursion (λ f. ClearsBefore v f.view) es
    → fold (drawn_in out programs v) (all_cleared_in es x) items ≡ all_cleared_in es (fold (drawn_in out programs v) x items)
items_before out programs v x items [] a = refl
items_before out programs v x items (e ∷ es) a =
    items_before out programs v (cleared_by e.view x) items es a.1 ∙ ap (all_cleared_in es) (items_after out programs v e.view x items a.0)

-- views in turn, each cleared and drawn
abbrev in_turn : Textures → List (Option ProgramKind) → Drawing → List Turn → Drawing
in_turn out programs x es = fold (λ y e. fold (drawn_in out programs e.view) (cleared_by e.view y) e.items) x es

turns_are : (out : Textures) (programs : List (Option ProgramKind)) (x : Drawing) (es : List Turn) → AllClearBefore es → in_turn out programs x es ≡ all_drawn out programs (all_cleared_in es x) es
turns_are out programs x [] a = refl
turns_are out programs x (e ∷ es) a =
    turns_are out programs (fold (drawn_in out programs e.view) (cleared_by e.view x) e.items) es a.1
    ∙ ap (λ y. all_drawn out programs y es) (sym (items_before out programs e.view (cleared_by e.view x) e.items es a.0))

-- ---- sides

with_sides : (view : View) (d : Draw) (v : Option VertexRange) (i : Option IndexRange) (paint : Paint) → KeepsSides (drawn_with view d v i paint)
with_sides view d v i paint = record { wide = λ s. refl; high = λ s. refl; deep = λ s. map_sides _ s.depth }

both_keep : (f g : Surface → Surface) → KeepsSides f → KeepsSides g → KeepsSides (λ s. g (f s))
both_keep f g a b = record { wide = λ s. b.wide (f s) ∙ a.wide s; high = λ s. b.high (f s) ∙ a.high s; deep = λ s. b.deep (f s) ∙ a.deep s }

paint_keeps : (view : View) (d : Draw) (b : Buffers) (o : Option Paint) (f : Surface → Surface) → KeepsSides f → KeepsSides (λ s. painted_in view d b o (f s))
paint_keeps view d b None f k = k
paint_keeps view d b (Some p) f k = both_keep f (drawn_with view d (vertices_at b d.vertices) (indices_at b d.indices) p) k (with_sides view d (vertices_at b d.vertices) (indices_at b d.indices) p)

items_keep : (out : Textures) (programs : List (Option ProgramKind)) (view : View) (b : Buffers) (f : Surface → Surface) (items : List Item) → KeepsSides f
    → KeepsSides (λ s. (fold (drawn_in out programs view) (record { buffers = b; surface = f s }) items).surface)
items_keep out programs view b f [] k = k
items_keep out programs view b f (touch_item t ∷ items) k = items_keep out programs view (with_values b t.values) f items k
items_keep out programs view b f (blit_item x ∷ items) k = items_keep out programs view b f items k
items_keep out programs view b f (draw_item d ∷ items) k =
    let c : Buffers = with_values b d.values in
    let o : Option Paint = paint_at c out d (at programs d.program.index) in
    items_keep out programs view c (λ s. painted_in view d c o (f s)) items (paint_keeps view d c o f k)

-- ---- the stores

values_drawn : (out : Textures) (programs : List (Option ProgramKind)) (view : View) (x : Drawing) (items : List Item) → (fold (drawn_in out programs view) x items).buffers ≡ fold values_after x.buffers items
values_drawn out programs view x [] = refl
values_drawn out programs view x (draw_item d ∷ items) = values_drawn out programs view (drawn_in out programs view x (draw_item d)) items
values_drawn out programs view x (touch_item t ∷ items) = values_drawn out programs view (drawn_in out programs view x (touch_item t)) items
values_drawn out programs view x (blit_item b ∷ items) = values_drawn out programs view x items

apart_with : (h : Stores) (b : Buffers) (target : Option Handle) → IsApartTarget h target → IsApartTarget (with_buffers h b) target
apart_with h b None a = tt
apart_with h b (Some t) a = a

buffers_over : (h : Stores) (b c : Buffers) (target : Option Handle) (f : Surface → Surface) → with_buffers (on_target (with_buffers h b) target f) c ≡ on_target (with_buffers h c) target f
buffers_over h b c None f = refl
buffers_over h b c (Some t) f = refl

buffers_last : (h : Stores) (b : Buffers) (target : Option Handle) (f : Surface → Surface) → on_target (with_buffers h b) target f ≡ with_buffers (on_target h target f) b
buffers_last h b None f = refl
buffers_last h b (Some t) f = refl

-- one view more, of the same target
one_turn : (target : Option Handle) (h : Stores) (b : Buffers) (f : Surface → Surface) (e : Turn) → KeepsSides f → IsApartTarget h target → e.view.target ≡ target → AllByRecursion (λ i. is_blit i ≡ false) e.items
    → after_turn (on_target (with_buffers h b) target f) e
    ≡ on_target (with_buffers h (fold values_after b e.items)) target
    (λ s. (fold (drawn_in (textures_out target h.textures) h.programs e.view) (record { buffers = b; surface = clear_surface e.view (f s) }) e.items).surface)
one_turn target h b f e k a same plain = subst goal same own (apart_with h b target a)
  where
    goal : Option Handle → Type 0
    goal t =
        IsApartTarget (with_buffers h b) t
        → fold (do_by_index e.view) (on_target (on_target (with_buffers h b) t f) e.view.target (clear_surface e.view)) e.items
        ≡ on_target (with_buffers h (fold values_after b e.items)) t (λ s. (fold (drawn_in (textures_out t h.textures) h.programs e.view) (record { buffers = b; surface = clear_surface e.view (f s) }) e.items).surface)

    own : goal e.view.target
    own ap-target =
        ap (λ x. fold (do_by_index e.view) x e.items) (again (with_buffers h b) e.view.target f (clear_surface e.view) k (clear_sides e.view) ap-target)
        ∙ list_after (with_buffers h b) e.view (λ s. clear_surface e.view (f s)) e.items (both_keep f (clear_surface e.view) k (clear_sides e.view)) ap-target plain
        ∙ buffers_over h b (fold values_after b e.items) e.view.target
        (λ s. (fold (drawn_in (textures_out e.view.target h.textures) h.programs e.view) (record { buffers = b; surface = clear_surface e.view (f s) }) e.items).surface)

-- views of one target in turn
from_surface : (target : Option Handle) (h : Stores) (b : Buffers) (f : Surface → Surface) (es : List Turn) → KeepsSides f → IsApartTarget h target
    → AllByRecursion (λ e. e.view.target ≡ target) es → AllByRecursion (λ e. AllByRecursion (λ i. is_blit i ≡ false) e.items) es
    → fold after_turn (on_target (with_buffers h b) target f) es
    ≡ on_target (with_buffers h (all_values b es)) target (λ s. (in_turn (textures_out target h.textures) h.programs (record { buffers = b; surface = f s }) es).surface)
from_surface target h b f [] k a same plain = refl
from_surface target h b f (e ∷ es) k a same plain =
    ap (λ x. fold after_turn x es) (one_turn target h b f e k a same.0 plain.0)
    ∙ from_surface target h c g es (items_keep out h.programs e.view b (λ s. clear_surface e.view (f s)) e.items (both_keep f (clear_surface e.view) k (clear_sides e.view))) a same.1 plain.1
    ∙ (λ i. on_target (with_buffers h (all_values c es)) target (λ s. (in_turn out h.programs (turn s i) es).surface))
  where
    out : Textures
    out = textures_out target h.textures

    c : Buffers
    c = fold values_after b e.items

    g : Surface → Surface
    g s = (fold (drawn_in out h.programs e.view) (record { buffers = b; surface = clear_surface e.view (f s) }) e.items).surface

    turn : (s : Surface) → record { buffers = c; surface = g s } ≡ fold (drawn_in out h.programs e.view) (record { buffers = b; surface = clear_surface e.view (f s) }) e.items
    turn s = λ i. record { buffers = sym (values_drawn out h.programs e.view (record { buffers = b; surface = clear_surface e.view (f s) }) e.items) i; surface = g s }

nothing_keeps : KeepsSides (λ s. s)
nothing_keeps = record { wide = λ s. refl; high = λ s. refl; deep = λ s. refl }

pub passes_are : (target : Option Handle) (h : Stores) (es : List Turn) → IsPass target es → IsApartTarget h target → fold after_turn h es ≡ all_passed target h es es
passes_are target h es is a =
    ap (λ x. fold after_turn x es) (sym (nothing_done h target a))
    ∙ from_surface target h h.buffers (λ s. s) es nothing_keeps a is.same is.plain
    ∙ (λ i. on_target (with_buffers h (all_values h.buffers es)) target (λ s. (turns_are (textures_out target h.textures) h.programs (record { buffers = h.buffers; surface = s }) es is.before i).surface))
    ∙ buffers_last h (all_values h.buffers es) target (λ s. (all_drawn (textures_out target h.textures) h.programs (record { buffers = h.buffers; surface = all_cleared s es }) es).surface)

-- ---- the clears by themselves

one_clear : (target : Option Handle) (h : Stores) (f : Surface → Surface) (e : Turn) → KeepsSides f → IsApartTarget h target → e.view.target ≡ target
    → clear_turn (on_target h target f) e ≡ on_target h target (λ s. clear_surface e.view (f s))
one_clear target h f e k a same =
    ap (λ o. on_target (on_target h target f) o (clear_surface e.view)) same ∙ again h target f (clear_surface e.view) k (clear_sides e.view) a

clears_are : (target : Option Handle) (h : Stores) (f : Surface → Surface) (es : List Turn) → KeepsSides f → IsApartTarget h target → AllByRecursion (λ e. e.view.target ≡ target) es
    → fold clear_turn (on_target h target f) es ≡ on_target h target (λ s. all_cleared (f s) es)
clears_are target h f [] k a same = refl
clears_are target h f (e ∷ es) k a same =
    ap (λ x. fold clear_turn x es) (one_clear target h f e k a same.0)
    ∙ clears_are target h (λ s. clear_surface e.view (f s)) es (both_keep f (clear_surface e.view) k (clear_sides e.view)) a same.1

clears_keep : (f : Surface → Surface) (es : List Turn) → KeepsSides f → KeepsSides (λ s. all_cleared (f s) es)
clears_keep f [] k = k
clears_keep f (e ∷ es) k = clears_keep (λ s. clear_surface e.view (f s)) es (both_keep f (clear_surface e.view) k (clear_sides e.view))

-- ---- the draws by themselves

draws_keep : (out : Textures) (programs : List (Option ProgramKind)) (b : Buffers) (f : Surface → Surface) (es : List Turn) → KeepsSides f
    → KeepsSides (λ s. (all_drawn out programs (record { buffers = b; surface = f s }) es).surface)
draws_keep out programs b f [] k = k
draws_keep out programs b f (e ∷ es) k = subst (λ (d : Surface → Drawing). KeepsSides (λ s. (all_drawn out programs (d s) es).surface)) turn (draws_keep out programs c g es (items_keep out programs e.view b f e.items k))
  where
    c : Buffers
    c = fold values_after b e.items

    after : Surface → Drawing
    after s = fold (drawn_in out programs e.view) (record { buffers = b; surface = f s }) e.items

    g : Surface → Surface
    g s = (after s).surface

    with_values_of : Surface → Drawing
    with_values_of s = record { buffers = c; surface = g s }

    turn : with_values_of ≡ after
    turn = λ i s. record { buffers = sym (values_drawn out programs e.view (record { buffers = b; surface = f s }) e.items) i; surface = g s }

programs_same : (h : Stores) (target : Option Handle) (f : Surface → Surface) → (on_target h target f).programs ≡ h.programs
programs_same h None f = refl
programs_same h (Some t) f = refl

buffers_same : (h : Stores) (target : Option Handle) (f : Surface → Surface) → (on_target h target f).buffers ≡ h.buffers
buffers_same h None f = refl
buffers_same h (Some t) f = refl

-- a list on a target that is cleared is the clears and the list on the target taken out once
listed_is : (target : Option Handle) (h : Stores) (es : List Turn) → IsApartTarget h target → all_listed target (on_target h target (λ s. all_cleared s es)) es ≡ all_passed target h es es
listed_is target h es a =
    (λ i. with_buffers (on_target (on_target h target f) target (λ s. (all_drawn (out_same h target f kf a i) (programs_same h target f i) (record { buffers = buffers_same h target f i; surface = s }) es).surface))
    (all_values (buffers_same h target f i) es))
    ∙ ap (λ x. with_buffers x (all_values h.buffers es)) (again h target f g kf kg a)
  where
    f : Surface → Surface
    f s = all_cleared s es

    g : Surface → Surface
    g s = (all_drawn (textures_out target h.textures) h.programs (record { buffers = h.buffers; surface = s }) es).surface

    kf : KeepsSides f
    kf = clears_keep (λ s. s) es nothing_keeps

    kg : KeepsSides g
    kg = draws_keep (textures_out target h.textures) h.programs h.buffers (λ s. s) es nothing_keeps

pub clears_stand : (target : Option Handle) (h : Stores) (es : List Turn) → AllByRecursion (λ e. e.view.target ≡ target) es → IsApartTarget h target
    → fold clear_turn h es ≡ on_target h target (λ s. all_cleared s es)
clears_stand target h es same a = ap (λ x. fold clear_turn x es) (sym (nothing_done h target a)) ∙ clears_are target h (λ s. s) es nothing_keeps a same

pub pass_stands : (target : Option Handle) (h : Stores) (es : List Turn) → IsPass target es → IsApartTarget h target → fold after_turn h es ≡ all_listed target (fold clear_turn h es) es
pass_stands target h es is a =
    passes_are target h es is a
    ∙ sym (listed_is target h es a)
    ∙ ap (λ x. all_listed target x es) (sym (clears_stand target h es is.same a))

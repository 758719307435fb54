-- Items of a list, one after the other.
use Rattle.std.proofs.Common.{◌≡◌, ℕ, List, [], ◌++◌, Option, sym, ap, ◌∙◌}
use Rattle.std.specs.Prelude.{fold, Result, Ok, Err, OnErr}
use Rattle.std.specs.List.{cons_option}
use Rattle.std.proofs.lemmas.List.Sums.{fold-append}
use Rattle.gfx_model.specs.Words.{ProgramKind}
use Rattle.gfx_model.specs.Views.{View}
use Rattle.gfx_model.specs.World.{Draw, Item, draw_item, touch_item, Touch}
use Rattle.store_model.specs.Slots.{at}
use Rattle.store_model.specs.Buffers.{Buffers}
use Rattle.store_model.specs.Textures.{Textures}
use Rattle.int_raster.specs.Drawing.{PreparedDraw, drawn_prepared}
use Rattle.store_laws.specs.ByIndex.{with_values, paint_at}
use Rattle.store_laws.specs.Listed.{Drawing, painted_in, drawn_in}
use Rattle.view_drawing.specs.Prepared.{AddsTo, DoesTo, DoAllTo}

-- what is done to a list and then to one item more, or none, is done to both
pub do_more : (width height : ℕ) (out : Textures) (programs : List (Option ProgramKind)) (view : View) (items all : List Item) (found : Option Item) (b c e : Buffers) (l m n : List PreparedDraw)
    → all ≡ items ++ cons_option found [] → DoAllTo width height out programs view items b l c m → DoAllTo width height out programs view (cons_option found []) c m e n → DoAllTo width height out programs view all b l e n
do_more width height out programs view items all found b c e l m n is before one s ew eh =
    ap (fold (drawn_in out programs view) (record { buffers = b; surface = fold drawn_prepared s l })) is
    ∙ fold-append (drawn_in out programs view) (record { buffers = b; surface = fold drawn_prepared s l }) items (cons_option found [])
    ∙ ap (λ x. fold (drawn_in out programs view) x (cons_option found [])) (before s ew eh)
    ∙ one s ew eh

-- the same of one step more of another fold
pub fold_more : {B A : Type 0} (f : B → A → B) (first mid last : B) (xs all : List A) (o : Option A) → all ≡ xs ++ cons_option o [] → mid ≡ fold f first xs → last ≡ fold f mid (cons_option o [])
    → last ≡ fold f first all
fold_more f first mid last xs all o is before one =
    one ∙ ap (λ b. fold f b (cons_option o [])) before ∙ sym (fold-append f first xs (cons_option o [])) ∙ ap (fold f first) (sym is)

-- a draw whose values are given
pub does_draw : (width height : ℕ) (out : Textures) (programs : List (Option ProgramKind)) (view : View) (d : Draw) (old new : Buffers) (l m : List PreparedDraw)
    → new ≡ with_values old d.values → AddsTo width height (painted_in view d new (paint_at new out d (at programs d.program.index))) l m
    → DoesTo width height out programs view (draw_item d) old l new m
does_draw width height out programs view d old new l m e a s ew eh =
    (λ j. given (sym e j)) ∙ (λ j. record { buffers = new; surface = a s ew eh j })
  where
    given : Buffers → Drawing
    given b = record { buffers = b; surface = painted_in view d b (paint_at b out d (at programs d.program.index)) (fold drawn_prepared s l) }

-- a touch whose values are given
pub does_touch : (width height : ℕ) (out : Textures) (programs : List (Option ProgramKind)) (view : View) (t : Touch) (old new : Buffers) (l : List PreparedDraw)
    → new ≡ with_values old t.values → DoesTo width height out programs view (touch_item t) old l new l
does_touch width height out programs view t old new l e s ew eh = λ j. record { buffers = sym e j; surface = fold drawn_prepared s l }

-- what holds, holds where there is an error
pub on_err_holds : {T E P : Type 0} (r : Result T E) → P → OnErr r P
on_err_holds (Ok x) p = tt
on_err_holds (Err e) p = p

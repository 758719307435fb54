-- Where memory was wanting, something takes it.
use Rattle.std.proofs.Common.{◌≡◌, ◌≢◌, ◌<◌, ℕ, ◌+◌, Bool, true, false, List, [], ◌∷◌, ◌++◌, map, take, drop, length, get_or, Option, Some, None, Result, Ok, Err, IsOk, OnErr, refl, sym, ap, subst, ◌∙◌, inl, inr, arith}
use Rattle.std.specs.Prelude.{fold, option_and_then}
use Rattle.std.specs.List.{cons_option, slice_get}
use Rattle.std.proofs.lemmas.Bool.{cases_lt, false≢true}
use Rattle.std.proofs.lemmas.Option.{none-some}
use Rattle.gfx_model.specs.Frames as model
use Rattle.gfx_model.specs.Frames.{item_of_entry}
use Rattle.gfx_model.specs.Words.{ProgramKind}
use Rattle.gfx_model.specs.World.{Draw, Paint, Item, Blit}
use Rattle.store_model.specs.Buffers.{Buffers}
use Rattle.store_model.specs.Textures.{Textures, texels_at, region_of}
use Rattle.texture_store.specs.Cut.{writes_nothing}
use Rattle.store_laws.specs.ByIndex.{paint_at}
use Rattle.store_laws.specs.Listed.{values_after}
use Rattle.draw_encoder.specs.declared.items.BlitCall.{BlitCall}
use Rattle.draw_encoder.specs.Seen.{copy_seen}
use Rattle.frame_record.specs.Placed.{items_in}
use Rattle.view_drawing.specs.Entered.{blit_in, StopsAtBlit, StopsAtDraw}
use Rattle.view_drawing.specs.Entries.{blit_of, blits_in}
use Rattle.view_drawing.specs.Memory.{CanDraw, CopiesWithin}
use Rattle.view_drawing.proofs.Entries.{got_at, taken_before, taken_to, items_split, blits_split}
use Rattle.view_drawing.proofs.Folds.{fold_more}

-- numbers that are not different are equal
equal : (a b : ℕ) → (a ≢ b → ⊥) → a ≡ b
equal a b h =
    elim (cases_lt a b) [
      | inl lt ↦ absurd (h (λ e. omega (arith, lt, e)))
      | inr ge ↦ elim (cases_lt b a) [ inl lt ↦ absurd (h (λ e. omega (arith, lt, e))) | inr le ↦ omega (arith, ge, le) ]
    ]

not_true : (b : Bool) → (b ≡ true → ⊥) → b ≡ false
not_true true h = absurd (h refl)
not_true false h = refl

-- a copy that is refused is within one texture, and writes something
pub copies_within : {T E : Type 0} (r : Result T E) (h : Textures) (c : BlitCall) {x y : ℕ} → x ≡ c.src.index → y ≡ c.dst.index → (x ≢ y → IsOk r)
    → (writes_nothing (region_of (copy_seen 0 c)) (texels_at h x) ≡ true → IsOk r) → OnErr r ((view : ℕ) → CopiesWithin h (copy_seen view c))
copies_within (Ok t) h c is there apart nothing = tt
copies_within (Err e) h c is there apart nothing = λ view. (
  sym is ∙ equal _ _ (λ n. false≢true (apart n)) ∙ there,
  not_true (writes_nothing (region_of (copy_seen view c)) (texels_at h c.src.index)) (λ n. false≢true (nothing (ap (λ i. writes_nothing (region_of (copy_seen 0 c)) (texels_at h i)) is ∙ n))),
)

-- a draw that paints has its program
pub program_there : (b : Buffers) (t : Textures) (d : Draw) (paint : Paint) (program : Option ProgramKind) → Some paint ≡ paint_at b t d program → program ≢ None
program_there b t d paint program e none = none-some paint (sym (ap (paint_at b t d) none) ∙ sym e)

-- the blit that was refused
pub stops_at_blit : {X : Type 0} (rs : List model.Recorded) (entry : X → model.Entry) (xs : List X) (i : ℕ) (d : X) (found : Option Item) (old now new : Textures) → i < length xs → found ≡ item_of_entry rs (entry (get_or xs i d))
    → (b : Blit) × ((option_and_then blit_of found ≡ Some b) × CopiesWithin now b) → new ≡ now → now ≡ fold blit_in old (blits_in rs (map entry (take i xs))) → StopsAtBlit (blits_in rs (map entry xs)) old new
stops_at_blit rs entry xs i d found old now new within is needs kept done =
    let before : List Blit = blits_in rs (map entry (take i xs)) in
    let after : List Blit = blits_in rs (map entry (drop (i + 1) xs)) in
    let parts : blits_in rs (map entry xs) ≡ before ++ needs.0 ∷ after = blits_split rs entry xs i d within found needs.0 is needs.1.0 in record {
      before = length before;
      blit = needs.0;
      there = ap (λ bs. slice_get bs (length before)) parts ∙ got_at before needs.0 after;
      within = subst (λ (h : Textures). CopiesWithin h needs.0) (sym kept) needs.1.1;
      done = kept ∙ done ∙ ap (fold blit_in old) (sym (ap (take (length before)) parts ∙ taken_before before (needs.0 ∷ after)));
    }

-- the draw that was refused, with its values
pub stops_at_draw : {X : Type 0} (programs : List (Option ProgramKind)) (rs : List model.Recorded) (entry : X → model.Entry) (xs : List X) (i : ℕ) (d : X) (found : Option Item) (old now new : Buffers) → i < length xs
    → found ≡ item_of_entry rs (entry (get_or xs i d)) → (x : Item) × ((found ≡ Some x) × CanDraw programs x) → now ≡ fold values_after old (items_in rs (map entry (take i xs))) → new ≡ fold values_after now (cons_option found [])
    → StopsAtDraw programs (items_in rs (map entry xs)) old new
stops_at_draw programs rs entry xs i d found old now new within is needs done given =
    let x : Item = needs.0 in
    let before : List Item = items_in rs (map entry (take i xs)) in
    let after : List Item = items_in rs (map entry (drop (i + 1) xs)) in
    let parts : items_in rs (map entry xs) ≡ before ++ x ∷ after = items_split rs entry xs i d within x (sym needs.1.0 ∙ is) in record {
      before = length before;
      item = x;
      there = ap (λ ys. slice_get ys (length before)) parts ∙ got_at before x after;
      draws = needs.1.1;
      given =
          fold_more values_after old now new before (before ++ x ∷ []) (Some x) refl done (given ∙ ap (λ o. fold values_after now (cons_option o [])) needs.1.0)
          ∙ ap (fold values_after old) (sym (ap (take (length before + 1)) parts ∙ taken_to before x after));
    }

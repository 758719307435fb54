-- Rows of slots: what stands at an index after a change, and a thing that is taken out, changed and put back.
use Rattle.std.proofs.Common.{◌≡◌, ◌≢◌, ℕ, ◌<◌, ◌≤◌, ◌⊎◌, inl, inr, List, length, set, Option, Some, None, refl, sym, ap, ◌∙◌}
use Rattle.std.specs.Prelude.{option_map, slice_set}
use Rattle.std.proofs.lemmas.Bool.{cases_lt}
use Rattle.std.proofs.lemmas.List.{set-set, set_comm, set_past, set-get_or, length-set, get_or-set_same, get_or-set_other}
use Rattle.std.proofs.lemmas.Option.{unwrap_or-slice_get}
use Rattle.gfx_model.specs.Raster.{Texels}
use Rattle.gfx_model.specs.World.{Blit, blitted}
use Rattle.store_model.specs.Textures.{copied_region, region_of}
use Rattle.store_model.specs.Slots.{at, filled_at, emptied_at, changed_at}

-- a thing that is taken out, changed and put back is changed in its place
pub changed_again : {X : Type 0} (change : X → X) (slots : List (Option X)) (i : ℕ) (old new : X) → Some old ≡ at slots i → new ≡ change old → filled_at i new (emptied_at i slots) ≡ changed_at change i slots
changed_again change slots i old new there is =
    set-set slots i None (Some new) ∙ ap (λ o. slice_set slots i o) (ap Some is ∙ ap (option_map change) there)

-- a blit copies its region
pub blit_same : (b : Blit) (source d : Texels) → blitted b source d ≡ copied_region (region_of b) source d
blit_same b source d = refl

pub at_same : {X : Type 0} (slots : List (Option X)) (i : ℕ) (o : Option X) → i < length slots → at (set slots i o) i ≡ o
at_same slots i o lt = unwrap_or-slice_get (set slots i o) i None ∙ get_or-set_same slots i o None lt

pub at_other : {X : Type 0} (slots : List (Option X)) (i j : ℕ) (o : Option X) → j ≢ i → at (set slots i o) j ≡ at slots j
at_other slots i j o ne = unwrap_or-slice_get (set slots i o) j None ∙ get_or-set_other slots i j o None ne ∙ sym (unwrap_or-slice_get slots j None)

-- what is there put there again changes nothing
pub same_slot : {X : Type 0} (slots : List (Option X)) (i : ℕ) → set slots i (at slots i) ≡ slots
same_slot slots i = ap (set slots i) (unwrap_or-slice_get slots i None) ∙ set-get_or slots i None

-- two changes that are the same of the thing at an index
pub changed_as : {X : Type 0} (f g : X → X) (slots : List (Option X)) (i : ℕ) → ((x : X) → at slots i ≡ Some x → f x ≡ g x) → changed_at f i slots ≡ changed_at g i slots
changed_as {X = X} f g slots i same = ap (set slots i) (by_slot (at slots i) same)
  where
    by_slot : (o : Option X) → ((x : X) → o ≡ Some x → f x ≡ g x) → option_map f o ≡ option_map g o
    by_slot None same = refl
    by_slot (Some x) same = ap Some (same x refl)

-- a change that leaves the thing at an index as it is
pub changed_nothing : {X : Type 0} (f : X → X) (slots : List (Option X)) (i : ℕ) → ((x : X) → at slots i ≡ Some x → f x ≡ x) → changed_at f i slots ≡ slots
changed_nothing {X = X} f slots i same = changed_as f (λ x. x) slots i same ∙ ap (set slots i) (by_slot (at slots i)) ∙ same_slot slots i
  where
    by_slot : (o : Option X) → option_map (λ x. x) o ≡ o
    by_slot None = refl
    by_slot (Some x) = refl

-- two changes at one index are one
pub changed_twice : {X : Type 0} (f g : X → X) (slots : List (Option X)) (i : ℕ) → changed_at g i (changed_at f i slots) ≡ changed_at (λ x. g (f x)) i slots
changed_twice {X = X} f g slots i = by_place (cases_lt i (length slots))
  where
    both : (o : Option X) → option_map g (option_map f o) ≡ option_map (λ x. g (f x)) o
    both None = refl
    both (Some x) = refl

    by_place : (i < length slots) ⊎ (length slots ≤ i) → changed_at g i (changed_at f i slots) ≡ changed_at (λ x. g (f x)) i slots
    by_place (inl lt) =
        ap (λ o. set (changed_at f i slots) i (option_map g o)) (at_same slots i (option_map f (at slots i)) lt)
        ∙ set-set slots i (option_map f (at slots i)) (option_map g (option_map f (at slots i)))
        ∙ ap (set slots i) (both (at slots i))
    by_place (inr past) = set_past (changed_at f i slots) i _ (rw (length-set slots i (option_map f (at slots i))) past) ∙ set_past slots i _ past ∙ sym (set_past slots i _ past)

-- changes at two indices can be exchanged
pub changed_apart : {X : Type 0} (f g : X → X) (slots : List (Option X)) (i j : ℕ) → i ≢ j → changed_at g j (changed_at f i slots) ≡ changed_at f i (changed_at g j slots)
changed_apart f g slots i j ne =
    ap (λ o. set (changed_at f i slots) j (option_map g o)) (at_other slots i j (option_map f (at slots i)) (λ e. ne (sym e)))
    ∙ set_comm slots i j (option_map f (at slots i)) (option_map g (at slots j)) ne
    ∙ ap (λ o. set (changed_at g j slots) i (option_map f o)) (sym (at_other slots j i (option_map g (at slots j)) ne))

-- nothing to take out
pub emptied_nothing : {X : Type 0} (slots : List (Option X)) (i : ℕ) → at slots i ≡ None → emptied_at i slots ≡ slots
emptied_nothing slots i none = ap (set slots i) (sym none) ∙ same_slot slots i

-- nothing to change
pub changed_none : {X : Type 0} (f : X → X) (slots : List (Option X)) (i : ℕ) → at slots i ≡ None → changed_at f i slots ≡ slots
changed_none f slots i none = ap (λ o. set slots i (option_map f o)) none ∙ emptied_nothing slots i none

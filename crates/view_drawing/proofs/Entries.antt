-- Items of entries, one entry after the other.
use Rattle.std.proofs.Common.{◌≡◌, ℕ, suc, ◌+◌, ◌<◌, Option, Some, None, List, [], ◌∷◌, ◌++◌, map, take, drop, length, get_or, refl, sym, ap, ◌∙◌, arith}
use Rattle.std.specs.Prelude.{filter_map, option_and_then}
use Rattle.std.specs.List.{cons_option, slice_get}
use Rattle.std.proofs.lemmas.List.{take_more, take-append-drop, map-append, append_assoc}
use Rattle.std.proofs.lemmas.List.Elements.{filter_map-append}
use Rattle.gfx_model.specs.Frames as model
use Rattle.gfx_model.specs.Frames.{item_of_entry}
use Rattle.gfx_model.specs.World.{Item, Blit}
use Rattle.frame_record.specs.Placed.{items_in}
use Rattle.view_drawing.specs.Entries.{blit_of, blits_in}

-- ---- a list in three parts

pub got_at : {A : Type 0} (xs : List A) (x : A) (ys : List A) → slice_get (xs ++ x ∷ ys) (length xs) ≡ Some x
got_at [] x ys = refl
got_at (z ∷ xs) x ys = got_at xs x ys

pub taken_before : {A : Type 0} (xs ys : List A) → take (length xs) (xs ++ ys) ≡ xs
taken_before [] ys = refl
taken_before (z ∷ xs) ys = ap (λ zs. z ∷ zs) (taken_before xs ys)

taken_with : {A : Type 0} (xs : List A) (x : A) (ys : List A) → take (suc (length xs)) (xs ++ x ∷ ys) ≡ xs ++ x ∷ []
taken_with [] x ys = refl
taken_with (z ∷ xs) x ys = ap (λ zs. z ∷ zs) (taken_with xs x ys)

pub taken_to : {A : Type 0} (xs : List A) (x : A) (ys : List A) → take (length xs + 1) (xs ++ x ∷ ys) ≡ xs ++ x ∷ []
taken_to xs x ys = let on : length xs + 1 ≡ suc (length xs) = omega arith in ap (λ n. take n (xs ++ x ∷ ys)) on ∙ taken_with xs x ys

-- ---- entries

one_blit : (found : Option Item) → filter_map blit_of (cons_option found []) ≡ cons_option (option_and_then blit_of found) []
one_blit None = refl
one_blit (Some i) = by (blit_of i) refl
  where
    by : (o : Option Blit) → blit_of i ≡ o → filter_map blit_of (i ∷ []) ≡ cons_option (blit_of i) []
    by None e = rw e refl
    by (Some b) e = rw e refl

module _ {X : Type 0} (rs : List model.Recorded) (entry : X → model.Entry) (xs : List X) (i : ℕ) (d : X) (within : i < length xs) where
  -- the items of one entry more
  pub items_more : (found : Option Item) → found ≡ item_of_entry rs (entry (get_or xs i d))
      → items_in rs (map entry (take (i + 1) xs)) ≡ items_in rs (map entry (take i xs)) ++ cons_option found []
  items_more found is =
      ap (λ ys. items_in rs (map entry ys)) (take_more xs i d within)
      ∙ ap (items_in rs) (map-append entry (take i xs) (get_or xs i d ∷ []))
      ∙ filter_map-append (item_of_entry rs) (map entry (take i xs)) (entry (get_or xs i d) ∷ [])
      ∙ ap (λ o. items_in rs (map entry (take i xs)) ++ cons_option o []) (sym is)

  -- the blits of one entry more
  pub blits_more : (found : Option Item) → found ≡ item_of_entry rs (entry (get_or xs i d))
      → blits_in rs (map entry (take (i + 1) xs)) ≡ blits_in rs (map entry (take i xs)) ++ cons_option (option_and_then blit_of found) []
  blits_more found is =
      ap (filter_map blit_of) (items_more found is)
      ∙ filter_map-append blit_of (items_in rs (map entry (take i xs))) (cons_option found [])
      ∙ ap (λ ys. blits_in rs (map entry (take i xs)) ++ ys) (one_blit found)

  -- the items before an entry, its item, and those after it
  pub items_split : (x : Item) → Some x ≡ item_of_entry rs (entry (get_or xs i d))
      → items_in rs (map entry xs) ≡ items_in rs (map entry (take i xs)) ++ x ∷ items_in rs (map entry (drop (i + 1) xs))
  items_split x is =
      ap (λ ys. items_in rs (map entry ys)) (sym (take-append-drop (i + 1) xs))
      ∙ ap (items_in rs) (map-append entry (take (i + 1) xs) (drop (i + 1) xs))
      ∙ filter_map-append (item_of_entry rs) (map entry (take (i + 1) xs)) (map entry (drop (i + 1) xs))
      ∙ ap (λ ys. ys ++ items_in rs (map entry (drop (i + 1) xs))) (items_more (Some x) is)
      ∙ append_assoc (items_in rs (map entry (take i xs))) (x ∷ []) (items_in rs (map entry (drop (i + 1) xs)))

  -- the same of blits
  pub blits_split : (found : Option Item) (b : Blit) → found ≡ item_of_entry rs (entry (get_or xs i d)) → option_and_then blit_of found ≡ Some b
      → blits_in rs (map entry xs) ≡ blits_in rs (map entry (take i xs)) ++ b ∷ blits_in rs (map entry (drop (i + 1) xs))
  blits_split found b is some =
      ap (λ ys. blits_in rs (map entry ys)) (sym (take-append-drop (i + 1) xs))
      ∙ ap (blits_in rs) (map-append entry (take (i + 1) xs) (drop (i + 1) xs))
      ∙ ap (filter_map blit_of) (filter_map-append (item_of_entry rs) (map entry (take (i + 1) xs)) (map entry (drop (i + 1) xs)))
      ∙ filter_map-append blit_of (items_in rs (map entry (take (i + 1) xs))) (items_in rs (map entry (drop (i + 1) xs)))
      ∙ ap (λ ys. ys ++ blits_in rs (map entry (drop (i + 1) xs))) (blits_more found is ∙ ap (λ o. blits_in rs (map entry (take i xs)) ++ cons_option o []) some)
      ∙ append_assoc (blits_in rs (map entry (take i xs))) (b ∷ []) (blits_in rs (map entry (drop (i + 1) xs)))

-- The items of a view among those of a frame.
use native.Mathlib.Decide.{ℕ_discrete}
use mathlib.Core.Logic.{dite}
use Rattle.std.proofs.Common.{◌≡◌, ◌≢◌, ℕ, ◌<◌, ◌==◌, nat_lt, Bool, true, false, cond, Option, Some, None, List, [], ◌∷◌, map, filter, slice_index, refl, sym, ap, ◌∙◌, arith}
use Rattle.std.specs.Prelude.{option_map, option_and_then}
use Rattle.std.specs.List.{AllByRecursion}
use Rattle.std.proofs.lemmas.Bool.{ne_eqb, eq-eqb}
use Rattle.gfx_model.specs.Frames as model
use Rattle.gfx_model.specs.Frames.{item_of_entry}
use Rattle.gfx_model.specs.Views.{Views, view_count, view_order, position_of_view}
use Rattle.gfx_model.specs.World.{Item, Blit, draw_item, touch_item, blit_item, is_blit, is_of_view, view_of_item}
use Rattle.view_table.proofs.Lists.{at_place}
use Rattle.view_table.proofs.Permuted.{order_has}
use Rattle.frame_record.specs.Placed.{blit_position, blit_entries, items_in}
use Rattle.render_core.proofs.Runs.{at_position}

-- two views of one position are one
same_view : (vs : Views) (u v p : ℕ) → u < view_count vs → v < view_count vs → p ≡ position_of_view vs v → (position_of_view vs u == p) ≡ (u == v)
same_view vs u v p lu lv is = dite (ℕ_discrete u v)
    (λ (e : u ≡ v). eq-eqb (position_of_view vs u) p (ap (position_of_view vs) e ∙ sym is) ∙ sym (eq-eqb u v e))
    (λ (ne : u ≢ v). ne_eqb (position_of_view vs u) p (λ h. ne (one h)) ∙ sym (ne_eqb u v ne))
  where
    found : (w : ℕ) → w < view_count vs → slice_index (view_order vs) (position_of_view vs w) ≡ w
    found w l = (at_place w (view_order vs) (order_has (view_count vs) vs.order w l)).1

    one : position_of_view vs u ≡ p → u ≡ v
    one h = sym (found u lu) ∙ ap (slice_index (view_order vs)) (h ∙ is) ∙ found v lv

module _ {X : Type 0} (vs : Views) (rs : List model.Recorded) (entry : X → model.Entry) (pos : X → ℕ) where
  -- the entry has an item of a view that is there, and the position is that view's
  abbrev pub IsAt : X → Type 0
  IsAt x = (i : Item) × (item_of_entry rs (entry x) ≡ Some i) × (view_of_item i < view_count vs) × (pos x ≡ position_of_view vs (view_of_item i))

  -- the items of entries
  abbrev pub items_at : List X → List Item
  items_at xs = items_in rs (map entry xs)

  one_item : (x : X) (xs : List X) (i : Item) → item_of_entry rs (entry x) ≡ Some i → items_at (x ∷ xs) ≡ i ∷ items_at xs
  one_item x xs i is = rw is refl

  module _ (v p : ℕ) (within : v < view_count vs) (is : p ≡ position_of_view vs v) where
    -- those at the position are of the view
    pub at_view : (xs : List X) → AllByRecursion IsAt xs → items_at (at_position pos p xs) ≡ filter (is_of_view v) (items_at xs)
    at_view [] all = refl
    at_view (x ∷ xs) all =
        let i : Item = all.0.0 in
        let test : (pos x == p) ≡ is_of_view v i = ap (λ m. m == p) all.0.3 ∙ same_view vs (view_of_item i) v p all.0.2 within is in
        ap (λ b. items_at (cond b (x ∷ at_position pos p xs) (at_position pos p xs))) test
        ∙ go (is_of_view v i)
        ∙ ap (λ ys. cond (is_of_view v i) (i ∷ ys) ys) (at_view xs all.1)
        ∙ sym (ap (filter (is_of_view v)) (one_item x xs i all.0.1))
      where
        go : (b : Bool) → items_at (cond b (x ∷ at_position pos p xs) (at_position pos p xs)) ≡ cond b (all.0.0 ∷ items_at (at_position pos p xs)) (items_at (at_position pos p xs))
        go true = one_item x (at_position pos p xs) all.0.0 all.0.1
        go false = refl

-- ---- the blits of a view

module _ (vs : Views) (rs : List model.Recorded) (v p : ℕ) (within : v < view_count vs) (is : p ≡ position_of_view vs v) where
  abbrev entries_at : List (ℕ × model.Entry) → List model.Entry
  entries_at xs = map (λ x. x.1) (filter (λ x. x.0 == p) xs)

  -- an entry with its position, where it has one
  abbrev with_position : model.Entry → Option ℕ → Option (ℕ × model.Entry)
  with_position n o = option_map (λ p. (p, n)) o

  no_position : (n : model.Entry) (o : Option Item) (rest : List model.Entry) → item_of_entry rs n ≡ o → option_and_then (blit_position vs) o ≡ None → blit_entries vs rs (n ∷ rest) ≡ blit_entries vs rs rest
  no_position n o rest e none = rw (ap (option_and_then (blit_position vs)) e ∙ none) refl

  some_position : (n : model.Entry) (o : Option Item) (q : ℕ) (rest : List model.Entry) → item_of_entry rs n ≡ o → option_and_then (blit_position vs) o ≡ Some q
      → blit_entries vs rs (n ∷ rest) ≡ (q, n) ∷ blit_entries vs rs rest
  some_position n o q rest e some = rw (ap (option_and_then (blit_position vs)) e ∙ some) refl

  no_item : (n : model.Entry) (rest : List model.Entry) → item_of_entry rs n ≡ None → items_in rs (n ∷ rest) ≡ items_in rs rest
  no_item n rest e = rw e refl

  one_more : (n : model.Entry) (i : Item) (rest : List model.Entry) → item_of_entry rs n ≡ Some i → items_in rs (n ∷ rest) ≡ i ∷ items_in rs rest
  one_more n i rest e = rw e refl

  abbrev Goal : List (ℕ × model.Entry) → List Item → Type 0
  Goal xs ys = items_in rs (entries_at xs) ≡ filter (is_of_view v) (filter is_blit ys)

  -- the blits of the entries at the position are those of the view, in the journal's order
  pub blits_of_view : (journal : List model.Entry) → items_in rs (entries_at (blit_entries vs rs journal)) ≡ filter (is_of_view v) (filter is_blit (items_in rs journal))
  blits_of_view [] = refl
  blits_of_view (n ∷ rest) = go (item_of_entry rs n) refl (blits_of_view rest)
    where
      -- a blit of a view that is there
      here : (b : Blit) → b.view < view_count vs → item_of_entry rs n ≡ Some (blit_item b) → Goal (blit_entries vs rs rest) (items_in rs rest) → Goal ((position_of_view vs b.view, n) ∷ blit_entries vs rs rest) (blit_item b ∷ items_in rs rest)
      here b lt e h =
          ap (λ c. items_in rs (map (λ x. x.1) (cond c ((position_of_view vs b.view, n) ∷ filter (λ x. x.0 == p) (blit_entries vs rs rest)) (filter (λ x. x.0 == p) (blit_entries vs rs rest))))) (same_view vs b.view v p lt within is)
          ∙ by (b.view == v)
          ∙ ap (λ ys. cond (b.view == v) (blit_item b ∷ ys) ys) h
        where
          by : (c : Bool) → items_in rs (map (λ x. x.1) (cond c ((position_of_view vs b.view, n) ∷ filter (λ x. x.0 == p) (blit_entries vs rs rest)) (filter (λ x. x.0 == p) (blit_entries vs rs rest))))
              ≡ cond c (blit_item b ∷ items_in rs (entries_at (blit_entries vs rs rest))) (items_in rs (entries_at (blit_entries vs rs rest)))
          by true = one_more n (blit_item b) (entries_at (blit_entries vs rs rest)) e
          by false = refl

      -- a blit of a view that is not there is of no view
      away : (b : Blit) → nat_lt b.view (view_count vs) ≡ false → Goal (blit_entries vs rs rest) (items_in rs rest) → Goal (blit_entries vs rs rest) (blit_item b ∷ items_in rs rest)
      away b out h =
          let other : (b.view == v) ≡ false = ne_eqb b.view v (λ e. past (ap (λ m. nat_lt m (view_count vs)) (sym e) ∙ out)) in
          h ∙ sym (ap (λ c. cond c (blit_item b ∷ filter (is_of_view v) (filter is_blit (items_in rs rest))) (filter (is_of_view v) (filter is_blit (items_in rs rest)))) other)
        where
          past : nat_lt v (view_count vs) ≡ false → ⊥
          past e = let lt : nat_lt v (view_count vs) ≡ true = grind (arith, within) in let no : true ≡ false = sym lt ∙ e in cc no

      go : (o : Option Item) → item_of_entry rs n ≡ o → Goal (blit_entries vs rs rest) (items_in rs rest) → Goal (blit_entries vs rs (n ∷ rest)) (items_in rs (n ∷ rest))
      go None e h = ap (λ xs. items_in rs (entries_at xs)) (no_position n None rest e refl) ∙ h ∙ ap (λ ys. filter (is_of_view v) (filter is_blit ys)) (sym (no_item n rest e))
      go (Some (draw_item d)) e h = ap (λ xs. items_in rs (entries_at xs)) (no_position n (Some (draw_item d)) rest e refl) ∙ h ∙ ap (λ ys. filter (is_of_view v) (filter is_blit ys)) (sym (one_more n (draw_item d) rest e))
      go (Some (touch_item t)) e h = ap (λ xs. items_in rs (entries_at xs)) (no_position n (Some (touch_item t)) rest e refl) ∙ h ∙ ap (λ ys. filter (is_of_view v) (filter is_blit ys)) (sym (one_more n (touch_item t) rest e))
      go (Some (blit_item b)) e h = by (nat_lt b.view (view_count vs)) refl
        where
          by : (c : Bool) → nat_lt b.view (view_count vs) ≡ c → Goal (blit_entries vs rs (n ∷ rest)) (items_in rs (n ∷ rest))
          by true lt =
              ap (λ xs. items_in rs (entries_at xs)) (some_position n (Some (blit_item b)) (position_of_view vs b.view) rest e (ap (λ c. cond c (Some (position_of_view vs b.view)) None) lt))
              ∙ here b (grind (arith, lt)) e h
              ∙ ap (λ ys. filter (is_of_view v) (filter is_blit ys)) (sym (one_more n (blit_item b) rest e))
          by false out =
              ap (λ xs. items_in rs (entries_at xs)) (no_position n (Some (blit_item b)) rest e (ap (λ c. cond c (Some (position_of_view vs b.view)) None) out))
              ∙ away b out h
              ∙ ap (λ ys. filter (is_of_view v) (filter is_blit ys)) (sym (one_more n (blit_item b) rest e))

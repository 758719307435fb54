-- The draws and touches of a view, in the order in which they are drawn, from those in the order of the journal.
use Rattle.std.proofs.Common.{◌≡◌, ℕ, ◌+◌, Bool, true, false, not, ◌||◌, ◌&&◌, cond, ◌==◌, List, [], ◌∷◌, ◌++◌, map, filter, refl, ap, sym, ◌∙◌, arith}
use Rattle.std.specs.List.{AllByRecursion}
use Rattle.gfx_model.specs.Number.{map_from}
use Rattle.gfx_model.specs.Views.{Views, view_at}
use Rattle.gfx_model.specs.World.{Item, is_blit, view_of_item, key_of_item, sorted_by_key, ordered}
use Rattle.gfx_model.proofs.KeptOrder.{filter-second, sorted-stays}
use Rattle.scene_model.specs.Journal.{is_sequential}
use Rattle.scene_model.proofs.ViewOrder.{Fits, drawn, numb, keyed, keyed_from, second-keyed, key-number, Ascends-keyed}
use Rattle.cover_laws.proofs.Arranged.{Beside, same, swapped, filter_beside, sorted_beside, filter_sorted}

-- ---- without the number

-- an item with its key in a view that does not order by number
abbrev plain : Views → Item → ℕ × Item
plain vs i = (key_of_item vs 0 i, i)

plain-keyed : (vs : Views) (s : Item → Bool) (n : ℕ) (items : List Item) → ((i : Item) (m : ℕ) → s i ≡ true → key_of_item vs m i ≡ key_of_item vs 0 i)
    → filter (λ x. s x.1) (keyed_from vs n items) ≡ map (plain vs) (filter (drawn s) items)
plain-keyed vs s n [] h = refl
plain-keyed vs s n (i ∷ items) h = go (plain-keyed vs s (n + 1) items h) (is_blit i) (s i) refl
  where
    go : filter (λ x. s x.1) (keyed_from vs (n + 1) items) ≡ map (plain vs) (filter (drawn s) items) → (b c : Bool) → s i ≡ c
        → filter (λ x. s x.1) (map (keyed vs) (cond (not b) (numb n i ∷ filter (λ m. not (is_blit m.item)) (map_from numb (n + 1) items)) (filter (λ m. not (is_blit m.item)) (map_from numb (n + 1) items))))
        ≡ map (plain vs) (cond (not b && c) (i ∷ filter (drawn s) items) (filter (drawn s) items))
    go rest true c e = rest
    go rest false true e =
        ap (λ d. cond d (keyed vs (numb n i) ∷ filter (λ x. s x.1) (keyed_from vs (n + 1) items)) (filter (λ x. s x.1) (keyed_from vs (n + 1) items))) e
        ∙ (λ k. (h i n e k, i) ∷ rest k)
    go rest false false e = ap (λ d. cond d (keyed vs (numb n i) ∷ filter (λ x. s x.1) (keyed_from vs (n + 1) items)) (filter (λ x. s x.1) (keyed_from vs (n + 1) items))) e ∙ rest

map-append : {A B : Type 0} (f : A → B) (xs ys : List A) → map f (xs ++ ys) ≡ map f xs ++ map f ys
map-append f [] ys = refl
map-append f (x ∷ xs) ys = ap (λ zs. f x ∷ zs) (map-append f xs ys)

second-plain : (vs : Views) (items : List Item) → map (λ x. x.1) (map (plain vs) items) ≡ items
second-plain vs [] = refl
second-plain vs (i ∷ items) = ap (λ zs. i ∷ zs) (second-plain vs items)

-- ---- a view whose mode orders by number, and one whose mode does not

-- what is kept of the items in drawing order, where the keys hold the number: the order of the journal
pub kept_by_number : (vs : Views) (s : Item → Bool) (v : ℕ) (items : List Item) → is_sequential (view_at vs v).mode ≡ true → ((i : Item) → s i ≡ true → view_of_item i ≡ v) → AllByRecursion Fits items
    → filter s (ordered vs items) ≡ filter (drawn s) items
kept_by_number vs s v items m view fit =
    filter-second s (sorted_by_key (keyed_from vs 0 items))
    ∙ ap (map (λ x. x.1)) (sorted-stays s (keyed_from vs 0 items) (Ascends-keyed vs s v m view 0 0 items (omega arith) fit))
    ∙ second-keyed vs s 0 items

-- elsewhere: the kept items sorted by their keys
pub kept_by_key : (vs : Views) (s : Item → Bool) (v : ℕ) (items : List Item) → is_sequential (view_at vs v).mode ≡ false → ((i : Item) → s i ≡ true → view_of_item i ≡ v)
    → filter s (ordered vs items) ≡ map (λ x. x.1) (sorted_by_key (map (plain vs) (filter (drawn s) items)))
kept_by_key vs s v items m view =
    filter-second s (sorted_by_key (keyed_from vs 0 items))
    ∙ ap (map (λ x. x.1)) (filter_sorted s (keyed_from vs 0 items)
    ∙ ap sorted_by_key (plain-keyed vs s 0 items (λ i n h. key-number vs i n 0 (ap (λ u. is_sequential (view_at vs u).mode) (view i h) ∙ m))))

-- ---- two neighbours of the journal

-- both are kept and drawn, and their keys are equal or their view orders by number
pub record Meet (vs : Views) (s : Item → Bool) (v : ℕ) (i j : Item) : Type 0 where
  pub first : drawn s i ≡ true
  pub second : drawn s j ≡ true
  pub clash : (is_sequential (view_at vs v).mode || (key_of_item vs 0 i == key_of_item vs 0 j)) ≡ true

self_test : (m n : ℕ) → m ≡ n → (m == n) ≡ true
self_test m n e = grind (arith, e)

either : (a b : Bool) → b ≡ true → (a || b) ≡ true
either true b e = refl
either false b e = e

first-of : (a b : Bool) → a ≡ true → (a || b) ≡ true
first-of true b e = refl
first-of false b e = cc e

-- of items in the order of their keys
sorted_items : (vs : Views) (s : Item → Bool) (v : ℕ) (i j : Item) (xs ys : List Item) → Beside ((drawn s i ≡ true) × (drawn s j ≡ true)) i j xs ys
    → Beside (Meet vs s v i j) i j (map (λ x. x.1) (sorted_by_key (map (plain vs) xs))) (map (λ x. x.1) (sorted_by_key (map (plain vs) ys)))
sorted_items vs s v i j xs ys (same e) = same (ap (λ zs. map (λ x. x.1) (sorted_by_key (map (plain vs) zs))) e)
sorted_items vs s v i j xs ys (swapped before after e f q) = by (sorted_beside (plain vs i) (plain vs j) (map (plain vs) before) (map (plain vs) after))
  where
    left : map (λ x. x.1) (sorted_by_key (map (plain vs) xs)) ≡ map (λ x. x.1) (sorted_by_key (map (plain vs) before ++ plain vs i ∷ plain vs j ∷ map (plain vs) after))
    left = ap (λ zs. map (λ x. x.1) (sorted_by_key zs)) (ap (map (plain vs)) e ∙ map-append (plain vs) before (i ∷ j ∷ after))

    right : map (λ x. x.1) (sorted_by_key (map (plain vs) ys)) ≡ map (λ x. x.1) (sorted_by_key (map (plain vs) before ++ plain vs j ∷ plain vs i ∷ map (plain vs) after))
    right = ap (λ zs. map (λ x. x.1) (sorted_by_key zs)) (ap (map (plain vs)) f ∙ map-append (plain vs) before (j ∷ i ∷ after))

    by : Beside (key_of_item vs 0 i ≡ key_of_item vs 0 j) (plain vs i) (plain vs j) (sorted_by_key (map (plain vs) before ++ plain vs i ∷ plain vs j ∷ map (plain vs) after)) (sorted_by_key (map (plain vs) before ++ plain vs j ∷ plain vs i ∷ map (plain vs) after))
        → Beside (Meet vs s v i j) i j (map (λ x. x.1) (sorted_by_key (map (plain vs) xs))) (map (λ x. x.1) (sorted_by_key (map (plain vs) ys)))
    by (same h) = same (left ∙ ap (map (λ x. x.1)) h ∙ sym right)
    by (swapped front back g h k) = swapped (map (λ x. x.1) front) (map (λ x. x.1) back)
        (left ∙ ap (map (λ x. x.1)) g ∙ map-append (λ x. x.1) front (plain vs i ∷ plain vs j ∷ back))
        (right ∙ ap (map (λ x. x.1)) h ∙ map-append (λ x. x.1) front (plain vs j ∷ plain vs i ∷ back))
        (record { first = q.0; second = q.1; clash = either _ _ (self_test (key_of_item vs 0 i) (key_of_item vs 0 j) k) })

numbered_items : (vs : Views) (s : Item → Bool) (v : ℕ) (i j : Item) (xs ys : List Item) → is_sequential (view_at vs v).mode ≡ true → Beside ((drawn s i ≡ true) × (drawn s j ≡ true)) i j xs ys → Beside (Meet vs s v i j) i j xs ys
numbered_items vs s v i j xs ys m (same e) = same e
numbered_items vs s v i j xs ys m (swapped before after e f q) = swapped before after e f (record { first = q.0; second = q.1; clash = first-of _ _ m })

transport : {Q : Type 0} (i j : Item) (xs ys us ws : List Item) → us ≡ xs → ws ≡ ys → Beside Q i j xs ys → Beside Q i j us ws
transport i j xs ys us ws e f (same h) = same (e ∙ h ∙ sym f)
transport i j xs ys us ws e f (swapped before after g h q) = swapped before after (e ∙ g) (f ∙ h) q

-- the kept items in drawing order are the same, or the two are neighbours in it and clash
pub ordered_beside : (vs : Views) (s : Item → Bool) (v : ℕ) (i j : Item) (xs ys : List Item) → ((i : Item) → s i ≡ true → view_of_item i ≡ v) → AllByRecursion Fits (xs ++ i ∷ j ∷ ys) → AllByRecursion Fits (xs ++ j ∷ i ∷ ys)
    → Beside (Meet vs s v i j) i j (filter s (ordered vs (xs ++ i ∷ j ∷ ys))) (filter s (ordered vs (xs ++ j ∷ i ∷ ys)))
ordered_beside vs s v i j xs ys view fit other = by (is_sequential (view_at vs v).mode) refl
  where
    kept : Beside ((drawn s i ≡ true) × (drawn s j ≡ true)) i j (filter (drawn s) (xs ++ i ∷ j ∷ ys)) (filter (drawn s) (xs ++ j ∷ i ∷ ys))
    kept = filter_beside (drawn s) i j xs ys

    by : (b : Bool) → is_sequential (view_at vs v).mode ≡ b → Beside (Meet vs s v i j) i j (filter s (ordered vs (xs ++ i ∷ j ∷ ys))) (filter s (ordered vs (xs ++ j ∷ i ∷ ys)))
    by true m = transport i j _ _ _ _ (kept_by_number vs s v (xs ++ i ∷ j ∷ ys) m view fit) (kept_by_number vs s v (xs ++ j ∷ i ∷ ys) m view other) (numbered_items vs s v i j _ _ m kept)
    by false m = transport i j _ _ _ _ (kept_by_key vs s v (xs ++ i ∷ j ∷ ys) m view) (kept_by_key vs s v (xs ++ j ∷ i ∷ ys) m view) (sorted_items vs s v i j _ _ kept)

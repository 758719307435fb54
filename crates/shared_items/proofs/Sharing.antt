-- Each view in which two encoders share a key has its least pair of items.
use Rattle.std.proofs.Common.{◌≡◌, ℕ, zero, suc, ◌+◌, ◌-◌, ◌<◌, inl, inr, true, ◌==◌, is_some, List, [], ◌∷◌, map, length, filter_map, slice_get, Option, Some, None, option_map, option_and_then, refl, sym, ap, subst, ◌∙◌, arith}
use Rattle.std.specs.Prelude.{slice_index_or}
use Rattle.std.specs.List.{find, range_with_len, cons_option}
use Rattle.gfx_model.specs.Views.{view_count}
use Rattle.gfx_model.specs.World.{Item, view_of_item, is_of_view}
use Rattle.scene_model.specs.Fold.{Accepted, FramePlan, nothing_accepted}
use Rattle.scene_model.specs.Journal.{Tagged, tagged_from, share_key}
use Rattle.shared_keys.specs.Members.{In}
use Rattle.shared_keys.specs.Pairs.{Sharing, partner_of, least_pair, sharing_views}
use Rattle.shared_keys.specs.Lines.{encoders_share, shared_views}
use Rattle.shared_keys.proofs.Order.{both}
use Rattle.shared_keys.proofs.Clashes.{of-tagged, of-encoders, at-below, member-of-filter_map}
use Rattle.shared_items.specs.Items.{tagged_share, tagged_at, items_share, count_of, least_items, pair_of, pair_in, view_of_pair}
use Rattle.shared_items.specs.Laws.{PairsLaw}
use Rattle.shared_items.proofs.Finds.{find_holds, least_some}

self_test : (m n : ℕ) → m ≡ n → (m == n) ≡ true
self_test m n e = grind (arith, e)

-- ---- a shared view's encoders share

map-some : {A B : Type 0} (f : A → B) (o : Option A) (y : B) → option_map f o ≡ Some y → (x : A) × (o ≡ Some x) × (f x ≡ y)
map-some f None y e = absurd (cc e)
map-some f (Some x) y e = (x, refl, (let same : f x ≡ y = cc e in same))

then-some : {A B : Type 0} (f : A → Option B) (o : Option A) (y : B) → option_and_then f o ≡ Some y → (x : A) × (o ≡ Some x) × (f x ≡ Some y)
then-some f None y e = absurd (cc e)
then-some f (Some x) y e = (x, refl, e)

pair-shares : (share : Sharing) (encoders v : ℕ) (x : ℕ × ℕ) → least_pair share encoders v ≡ Some x → share v x.0 x.1 ≡ true
pair-shares share encoders v x e =
    let one = then-some (λ a. option_map (λ b. (a, b)) (partner_of share encoders v a)) (find (λ a. is_some (partner_of share encoders v a)) (range_with_len 0 encoders)) x e in
    let two = map-some (λ b. pair-with one.0 b) (partner_of share encoders v one.0) x one.2 in
    let holds : share v one.0 two.0 ≡ true = find_holds (share v one.0) (range_with_len (one.0 + 1) (encoders - (one.0 + 1))) two.0 two.1 in
    subst (λ (z : ℕ × ℕ). share v z.0 z.1 ≡ true) two.2 holds
  where
    pair-with : ℕ → ℕ → ℕ × ℕ
    pair-with a b = (a, b)

pub view-shares : (share : Sharing) (encoders views : ℕ) (x : ℕ × (ℕ × ℕ)) → In x (sharing_views share encoders views) → share x.0 x.1.0 x.1.1 ≡ true
view-shares share encoders views x i =
    let one = member-of-filter_map (λ v. option_map (λ y. view-with v y) (least_pair share encoders v)) (range_with_len 0 views) x i in
    let two = map-some (view-with one.0) (least_pair share encoders one.0) x one.2 in
    subst (λ (z : ℕ × (ℕ × ℕ)). share z.0 z.1.0 z.1.1 ≡ true) two.2 (pair-shares share encoders one.0 two.0 two.1)
  where
    view-with : ℕ → ℕ × ℕ → ℕ × (ℕ × ℕ)
    view-with v y = (v, y)

-- ---- its encoders have items that share

record HasPlace {A : Type 0} (xs : List A) (x : A) : Type 0 where
  place : ℕ
  at : slice_get xs place ≡ Some x

place-of : {A : Type 0} (xs : List A) (x : A) → In x xs → HasPlace xs x
place-of [] x i = absurd i
place-of (y ∷ ys) x (inl e) = record { place = 0; at = ap Some (sym e) }
place-of (y ∷ ys) x (inr i) = let later = place-of ys x i in record { place = suc later.place; at = later.at }

pub or-from-get : {A : Type 0} (xs : List A) (k : ℕ) (x d : A) → slice_get xs k ≡ Some x → slice_index_or xs k d ≡ x
or-from-get [] k x d e = absurd (cc e)
or-from-get (y ∷ ys) zero x d e = let same : y ≡ x = cc e in same
or-from-get (y ∷ ys) (suc k) x d e = or-from-get ys k x d e

-- the place of an item among those of its encoder
record IsAt (encoders : List Accepted) (e : ℕ) (t : Tagged) : Type 0 where
  place : ℕ
  below : place < count_of encoders e
  at : tagged_at encoders e place ≡ Some t

item-at : (encoders : List Accepted) (e : ℕ) (t : Tagged) → In t (tagged_from 0 encoders) → t.encoder ≡ e → IsAt encoders e t
item-at encoders e t i is =
    let o = of-tagged 0 encoders t i in
    let has = place-of o.accepted.items t.item o.item in
    let own : o.place ≡ e = (let z : 0 + o.place ≡ o.place = omega arith in sym z) ∙ sym o.own ∙ is in
    let there : slice_get encoders e ≡ Some o.accepted = ap (slice_get encoders) (sym own) ∙ o.there in
    let few : has.place < length o.accepted.items = at-below o.accepted.items has.place t.item has.at in
    record {
      place = has.place;
      below = subst (λ (a : Accepted). has.place < length a.items) (sym (or-from-get encoders e o.accepted nothing_accepted there)) few;
      at =
          ap (λ x. option_map (tag e) (option_and_then (λ a. slice_get a.items has.place) x)) there
          ∙ ap (option_map (tag e)) has.at
          ∙ ap (λ n. Some (tag n t.item)) (sym is);
    }
  where
    tag : ℕ → Item → Tagged
    tag n j = record { encoder = n; item = j }

pair-there : (p : FramePlan) (x : ℕ × (ℕ × ℕ)) → encoders_share p.views (tagged_from 0 p.encoders) x.0 x.1.0 x.1.1 ≡ true → is_some (pair_in p x) ≡ true
pair-there p x shares =
    let found = of-encoders p.views (tagged_from 0 p.encoders) x.0 x.1.0 x.1.1 shares in
    let t = found.1.1 in
    let left = item-at p.encoders x.1.0 found.0 t.0 t.2 in
    let right = item-at p.encoders x.1.1 found.1.0 t.1 t.4 in
    let share : items_share p x.0 x.1.0 x.1.1 left.place right.place ≡ true =
    (λ i. tagged_share p.views x.0 (left.at i) (right.at i)) ∙ both (is_of_view x.0 found.0.item) (share_key p.views found.0 found.1.0) (self_test (view_of_item found.0.item) x.0 t.3) t.5 in
    is_some_map (pair_of x) _ ∙ least_some (items_share p x.0 x.1.0 x.1.1) (count_of p.encoders x.1.0) (count_of p.encoders x.1.1) left.place right.place left.below right.below share
  where
    is_some_map : {A B : Type 0} (f : A → B) (o : Option A) → is_some (option_map f o) ≡ is_some o
    is_some_map f None = refl
    is_some_map f (Some y) = refl

-- ---- so the pairs have the views

views-same : (p : FramePlan) (xs : List (ℕ × (ℕ × ℕ))) → ((x : ℕ × (ℕ × ℕ)) → In x xs → is_some (pair_in p x) ≡ true) → map view_of_pair (filter_map (pair_in p) xs) ≡ xs
views-same p [] h = refl
views-same p (x ∷ xs) h = go (views-same p xs (λ z i. h z (inr i))) (least_items (items_share p x.0 x.1.0 x.1.1) (count_of p.encoders x.1.0) (count_of p.encoders x.1.1)) (h x (inl refl))
  where
    go : map view_of_pair (filter_map (pair_in p) xs) ≡ xs → (o : Option (ℕ × ℕ)) → is_some (option_map (pair_of x) o) ≡ true → map view_of_pair (cons_option (option_map (pair_of x) o) (filter_map (pair_in p) xs)) ≡ x ∷ xs
    go rest None e = cc e
    go rest (Some y) e = ap (λ zs. x ∷ zs) rest

pub pairs-law : PairsLaw
pairs-law p = views-same p (shared_views p) (λ x i. pair-there p x (view-shares (encoders_share p.views (tagged_from 0 p.encoders)) (length p.encoders) (view_count p.views) x i))

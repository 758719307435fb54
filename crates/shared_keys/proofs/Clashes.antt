-- Marks clash just as their items do, and a frame's marks tell the definition's sharing.
use Rattle.std.proofs.Common.{◌≡◌, ℕ, zero, suc, ◌+◌, ◌-◌, ◌<◌, ◌≤◌, ◌⊎◌, inl, inr, Bool, true, false, not, ◌||◌, ◌&&◌, ◌==◌, cond, is_some, List, [], ◌∷◌, map, length, filter, filter_map, slice_get, Option, Some, None, option_map, option_and_then, refl, sym, ap, subst, ◌∙◌, arith}
use Rattle.std.specs.List.{AllByRecursion, find, range_with_len, list_any, cons_option}
use Rattle.gfx_model.specs.Views.{Views, view_at, view_count}
use Rattle.gfx_model.specs.World.{Item, draw_item, touch_item, blit_item, is_blit, view_of_item, key_of_item, is_of_view}
use Rattle.scene_model.specs.Fold.{Accepted, FramePlan}
use Rattle.scene_model.specs.Journal.{Entry, IsLawfulFrame, item_of, Tagged, tagged_from, is_nonempty, is_marked, is_sequential, clashes, share_key}
use Rattle.scene_model.proofs.OneSource.{source-of, bool-same}
use Rattle.scene_model.proofs.LawfulLaws.{own-items}
use Rattle.shared_keys.specs.declared.marks.Mark.{Mark}
use Rattle.shared_keys.specs.Pairs.{Sharing, partner_of, least_pair, sharing_views}
use Rattle.shared_keys.specs.Lines.{encoders_share}
use Rattle.shared_keys.specs.Marks.{is_one_key, marks_share, IsMarkOf, can_clash, mark_of, tagged_by, marks_by, AreMarksOf, IsThere}
use Rattle.shared_keys.specs.Laws.{MarksLaw, JournalMarksLaw}
use Rattle.shared_keys.proofs.Order.{parts, both}
use Rattle.shared_keys.specs.Members.{In}
use Rattle.shared_keys.proofs.Members.{any-of, of-any, self-member, member-has, member-left, member-right, member-of-both, of-share, to-share}
use Rattle.shared_keys.proofs.There.{there}

same_from_test : (m n : ℕ) → (m == n) ≡ true → m ≡ n
same_from_test m n e = grind (arith, e)

self_test : (m n : ℕ) → m ≡ n → (m == n) ≡ true
self_test m n e = grind (arith, e)

-- ---- two items

mixed : (v k : Bool) → ((v && false) && k) ≡ (v && false)
mixed true k = refl
mixed false k = refl

mixed-marked : (v k m r : Bool) → ((v && false) && k) ≡ (v && (false || ((m && false) && r)))
mixed-marked true k true r = refl
mixed-marked true k false r = refl
mixed-marked false k m r = refl

plain : (v w a b : ℕ) (q u m n : Bool) → (v ≡ w → q ≡ u) → m ≡ true → n ≡ true → (((v == w) && true) && (cond q 0 a == cond u 0 b)) ≡ ((v == w) && (false || ((m && n) && (q || (a == b)))))
plain v w a b q u true true same em en = go (v == w) refl
  where
    keys : (q u : Bool) → q ≡ u → (cond q 0 a == cond u 0 b) ≡ (q || (a == b))
    keys true true e = refl
    keys true false e = cc e
    keys false true e = cc e
    keys false false e = refl

    go : (t : Bool) → (v == w) ≡ t → ((t && true) && (cond q 0 a == cond u 0 b)) ≡ (t && (false || (true && (q || (a == b)))))
    go true e = keys q u (same (same_from_test v w e))
    go false e = refl
plain v w a b q u true false same em en = absurd (cc en)
plain v w a b q u false n same em en = absurd (cc em)

is_seq : Views → Item → Bool
is_seq vs i = is_sequential (view_at vs (view_of_item i)).mode

abbrev seq_at : Views → ℕ → Bool
seq_at vs v = is_sequential (view_at vs v).mode

pub one-key-is : (vs : Views) (e f : ℕ) (i j : Item) → can_clash i ≡ true → can_clash j ≡ true
    → is_one_key (mark_of vs (record { encoder = e; item = i })) (mark_of vs (record { encoder = f; item = j })) ≡ ((view_of_item i == view_of_item j) && clashes vs i j)
one-key-is vs e f (blit_item b) (blit_item c) g h = both-blits (b.view == c.view)
  where
    both-blits : (v : Bool) → ((v && true) && (0 == 0)) ≡ (v && true)
    both-blits true = refl
    both-blits false = refl
one-key-is vs e f (blit_item b) (draw_item d) g h = mixed (b.view == d.view) _
one-key-is vs e f (blit_item b) (touch_item t) g h = mixed (b.view == t.view) _
one-key-is vs e f (draw_item d) (blit_item b) g h = mixed-marked (d.view == b.view) _ true true
one-key-is vs e f (touch_item t) (blit_item b) g h = mixed-marked (t.view == b.view) _ (is_nonempty t.values) _
one-key-is vs e f (draw_item d) (draw_item c) g h = plain d.view c.view (key_of_item vs 0 (draw_item d)) (key_of_item vs 0 (draw_item c)) (seq_at vs d.view) (seq_at vs c.view) true true (λ s. ap (seq_at vs) s) refl refl
one-key-is vs e f (draw_item d) (touch_item t) g h = plain d.view t.view (key_of_item vs 0 (draw_item d)) (key_of_item vs 0 (touch_item t)) (seq_at vs d.view) (seq_at vs t.view) true (is_nonempty t.values) (λ s. ap (seq_at vs) s) refl h
one-key-is vs e f (touch_item t) (draw_item d) g h = plain t.view d.view (key_of_item vs 0 (touch_item t)) (key_of_item vs 0 (draw_item d)) (seq_at vs t.view) (seq_at vs d.view) (is_nonempty t.values) true (λ s. ap (seq_at vs) s) g refl
one-key-is vs e f (touch_item t) (touch_item u) g h = plain t.view u.view (key_of_item vs 0 (touch_item t)) (key_of_item vs 0 (touch_item u)) (seq_at vs t.view) (seq_at vs u.view) (is_nonempty t.values) (is_nonempty u.values) (λ s. ap (seq_at vs) s) g h

or-true : (a b : Bool) → (a || b) ≡ true → (a ≡ true) ⊎ (b ≡ true)
or-true true b e = inl refl
or-true false b e = inr e

or-left : (a b : Bool) → a ≡ true → (a || b) ≡ true
or-left true b e = refl
or-left false b e = cc e

or-right : (a b : Bool) → b ≡ true → (a || b) ≡ true
or-right true b e = refl
or-right false b e = e

-- what clashes can clash
pub can-both : (vs : Views) (i j : Item) → clashes vs i j ≡ true → (can_clash i ≡ true) × (can_clash j ≡ true)
can-both vs i j h = elim (or-true (is_blit i && is_blit j) _ h) [
  | inl b ↦ let two = parts (is_blit i) (is_blit j) b in (or-left (is_blit i) (is_marked i) two.0, or-left (is_blit j) (is_marked j) two.1)
  | inr m ↦
      let outer = parts (is_marked i && is_marked j) _ m in
      let two = parts (is_marked i) (is_marked j) outer.0 in
      (or-right (is_blit i) (is_marked i) two.0, or-right (is_blit j) (is_marked j) two.1)
]

-- ---- members of lists that are made from others

pub member-of-map : {A B : Type 0} (f : A → B) (xs : List A) (y : B) → In y (map f xs) → (x : A) × In x xs × (y ≡ f x)
member-of-map f [] y i = absurd i
member-of-map f (x ∷ xs) y (inl e) = (x, inl refl, e)
member-of-map f (x ∷ xs) y (inr i) = let later = member-of-map f xs y i in (later.0, inr later.1, later.2)

pub member-map : {A B : Type 0} (f : A → B) (xs : List A) (x : A) → In x xs → In (f x) (map f xs)
member-map f [] x i = absurd i
member-map f (y ∷ xs) x (inl e) = inl (ap f e)
member-map f (y ∷ xs) x (inr i) = inr (member-map f xs x i)

pub member-of-filter : {A : Type 0} (p : A → Bool) (xs : List A) (x : A) → In x (filter p xs) → In x xs × (p x ≡ true)
member-of-filter p [] x i = absurd i
member-of-filter {A} p (y ∷ xs) x i = go (member-of-filter p xs x) (p y) refl i
  where
    go : (In x (filter p xs) → In x xs × (p x ≡ true)) → (b : Bool) → p y ≡ b → In x (cond b (y ∷ filter p xs) (filter p xs)) → In x (y ∷ xs) × (p x ≡ true)
    go rest true e (inl s) = (inl s, ap p s ∙ e)
    go rest true e (inr j) = let later = rest j in (inr later.0, later.1)
    go rest false e j = let later = rest j in (inr later.0, later.1)

pub member-filter : {A : Type 0} (p : A → Bool) (xs : List A) (x : A) → In x xs → p x ≡ true → In x (filter p xs)
member-filter p [] x i h = absurd i
member-filter {A} p (y ∷ xs) x (inl s) h = go (p y) (ap p (sym s) ∙ h)
  where
    go : (b : Bool) → b ≡ true → In x (cond b (y ∷ filter p xs) (filter p xs))
    go true e = inl s
    go false e = absurd (cc e)
member-filter {A} p (y ∷ xs) x (inr i) h = go (p y) (member-filter p xs x i h)
  where
    go : (b : Bool) → In x (filter p xs) → In x (cond b (y ∷ filter p xs) (filter p xs))
    go true j = inr j
    go false j = j

pub member-of-filter_map : {A B : Type 0} (f : A → Option B) (xs : List A) (y : B) → In y (filter_map f xs) → (x : A) × In x xs × (f x ≡ Some y)
member-of-filter_map f [] y i = absurd i
member-of-filter_map {A} {B} f (x ∷ xs) y i = go (member-of-filter_map f xs y) (f x) refl i
  where
    go : (In y (filter_map f xs) → (x : A) × In x xs × (f x ≡ Some y)) → (o : Option B) → f x ≡ o → In y (cons_option o (filter_map f xs)) → (z : A) × In z (x ∷ xs) × (f z ≡ Some y)
    go rest None e j = let later = rest j in (later.0, inr later.1, later.2)
    go rest (Some z) e (inl s) = (x, inl refl, e ∙ ap (λ (w : B). Some w) (sym s))
    go rest (Some z) e (inr j) = let later = rest j in (later.0, inr later.1, later.2)

pub member-filter_map : {A B : Type 0} (f : A → Option B) (xs : List A) (x : A) (y : B) → In x xs → f x ≡ Some y → In y (filter_map f xs)
member-filter_map f [] x y i e = absurd i
member-filter_map {A} {B} f (z ∷ xs) x y (inl s) e = subst (λ (o : Option B). In y (cons_option o (filter_map f xs))) (sym (ap f (sym s) ∙ e)) (inl refl)
member-filter_map {A} {B} f (z ∷ xs) x y (inr i) e = go (f z) (member-filter_map f xs x y i e)
  where
    go : (o : Option B) → In y (filter_map f xs) → In y (cons_option o (filter_map f xs))
    go None j = j
    go (Some w) j = inr j

pub member-at : {A : Type 0} (xs : List A) (k : ℕ) (x : A) → slice_get xs k ≡ Some x → In x xs
member-at [] k x e = absurd (cc e)
member-at (y ∷ xs) zero x e = let same : y ≡ x = cc e in inl (sym same)
member-at (y ∷ xs) (suc k) x e = inr (member-at xs k x e)

pub at-below : {A : Type 0} (xs : List A) (k : ℕ) (x : A) → slice_get xs k ≡ Some x → k < length xs
at-below [] k x e = absurd (cc e)
at-below (y ∷ xs) zero x e = omega arith
at-below (y ∷ xs) (suc k) x e = let l = at-below xs k x e in omega (arith, l)

-- ---- the items of a frame

-- an encoder of a frame that has the item
pub record IsOf (first : ℕ) (encoders : List Accepted) (t : Tagged) : Type 0 where
  pub place : ℕ
  pub accepted : Accepted
  pub there : slice_get encoders place ≡ Some accepted
  pub own : t.encoder ≡ first + place
  pub item : In t.item accepted.items

pub of-tagged : (first : ℕ) (encoders : List Accepted) (t : Tagged) → In t (tagged_from first encoders) → IsOf first encoders t
of-tagged first [] t i = absurd i
of-tagged first (a ∷ rest) t i = elim (member-of-both t (map (λ i. record { encoder = first; item = i }) a.items) (tagged_from (first + 1) rest) i) [
  | inl j ↦
      let one = member-of-map (λ (i : Item). let t : Tagged = record { encoder = first; item = i } in t) a.items t j in
      record { place = 0; accepted = a; there = refl; own = ap (λ (t : Tagged). t.encoder) one.2 ∙ (let e : first ≡ first + 0 = omega arith in e); item = subst (λ (i : Item). In i a.items) (sym (ap (λ (t : Tagged). t.item) one.2)) one.1 }
  | inr j ↦
      let later = of-tagged (first + 1) rest t j in
      record { place = suc later.place; accepted = later.accepted; there = later.there; own = later.own ∙ (let e : first + 1 + later.place ≡ first + suc later.place = omega arith in e); item = later.item }
]

pub to-tagged : (first : ℕ) (encoders : List Accepted) (k : ℕ) (a : Accepted) (i : Item) → slice_get encoders k ≡ Some a → In i a.items → In {A = Tagged} (record { encoder = first + k; item = i }) (tagged_from first encoders)
to-tagged first [] k a i e j = absurd (cc e)
to-tagged first (b ∷ rest) zero a i e j =
    let same : b ≡ a = cc e in
    let at : first ≡ first + 0 = omega arith in
    member-left _ (map (λ i. record { encoder = first; item = i }) b.items) (tagged_from (first + 1) rest)
    (subst (λ (n : ℕ). In {A = Tagged} (record { encoder = n; item = i }) (map (λ i. record { encoder = first; item = i }) b.items)) at
    (member-map (λ (i : Item). let t : Tagged = record { encoder = first; item = i } in t) b.items i (subst (λ (c : Accepted). In i c.items) (sym same) j)))
to-tagged first (b ∷ rest) (suc k) a i e j =
    let at : first + 1 + k ≡ first + suc k = omega arith in
    member-right _ (map (λ i. record { encoder = first; item = i }) b.items) (tagged_from (first + 1) rest)
    (subst (λ (n : ℕ). In {A = Tagged} (record { encoder = n; item = i }) (tagged_from (first + 1) rest)) at (to-tagged (first + 1) rest k a i e j))

abbrev tag : List Accepted → Entry → Option Tagged
tag encoders n = option_map (λ i. record { encoder = n.encoder; item = i }) (item_of encoders n)

tag-told : (encoders : List Accepted) (n : Entry) (t : Tagged) → tag encoders n ≡ Some t → (item_of encoders n ≡ Some t.item) × (t.encoder ≡ n.encoder)
tag-told encoders n t e = go (item_of encoders n) refl e
  where
    go : (o : Option Item) → item_of encoders n ≡ o → option_map (λ i. record { encoder = n.encoder; item = i }) o ≡ Some t → (item_of encoders n ≡ Some t.item) × (t.encoder ≡ n.encoder)
    go None h e = absurd (cc e)
    go (Some i) h e =
        let same : record { encoder = n.encoder; item = i } ≡ t = cc e in
        (h ∙ ap (λ (t : Tagged). Some t.item) same, sym (ap (λ (t : Tagged). t.encoder) same))

-- an item of a journal is an encoder's
pub by-is-from : (encoders : List Accepted) (entries : List Entry) (t : Tagged) → In t (tagged_by encoders entries) → IsOf 0 encoders t
by-is-from encoders entries t i =
    let one = member-of-filter_map (tag encoders) entries t i in
    let told = tag-told encoders one.0 t one.2 in
    let source = source-of encoders one.0 t.item told.0 in
    record {
      place = one.0.encoder;
      accepted = source.0;
      there = source.1;
      own = told.1 ∙ (let e : one.0.encoder ≡ 0 + one.0.encoder = omega arith in e);
      item = member-at source.0.items one.0.ordinal t.item source.2;
    }

pub by-has-from : (p : FramePlan) (entries : List Entry) (t : Tagged) → IsLawfulFrame p entries → IsOf 0 p.encoders t → In t (tagged_by p.encoders entries)
by-has-from p entries t h o =
    let e : ℕ = o.place in
    let there : In t.item (filter_map (item_of p.encoders) (filter (λ n. n.encoder == e) entries)) = subst (λ (is : List Item). In t.item is) (sym (own-items p entries h e o.accepted o.there)) o.item in
    let one = member-of-filter_map (item_of p.encoders) (filter (λ n. n.encoder == e) entries) t.item there in
    let two = member-of-filter (λ n. n.encoder == e) entries one.0 one.1 in
    let same : one.0.encoder ≡ t.encoder = same_from_test one.0.encoder e two.1 ∙ (let q : e ≡ 0 + e = omega arith in q) ∙ sym o.own in
    member-filter_map (tag p.encoders) entries one.0 t two.0
    (ap (option_map (λ i. let t : Tagged = record { encoder = one.0.encoder; item = i } in t)) one.2 ∙ ap (λ (n : ℕ). Some (record { encoder = n; item = t.item })) same)

-- ---- sharing

abbrev pub Two : Views → List Tagged → (v a b : ℕ) → Tagged → Tagged → Type 0
Two vs items v a b x y = In x items × In y items × (x.encoder ≡ a) × (view_of_item x.item ≡ v) × (y.encoder ≡ b) × (share_key vs x y ≡ true)

pub of-encoders : (vs : Views) (items : List Tagged) (v a b : ℕ) → encoders_share vs items v a b ≡ true → (x : Tagged) × ((y : Tagged) × Two vs items v a b x y)
of-encoders vs items v a b h =
    let one = of-any (λ x. (x.encoder == a) && is_of_view v x.item && list_any (λ y. (y.encoder == b) && share_key vs x y) items) items h in
    let x = one.0 in
    let outer = parts ((x.encoder == a) && is_of_view v x.item) (list_any (λ y. (y.encoder == b) && share_key vs x y) items) one.2 in
    let own = parts (x.encoder == a) (is_of_view v x.item) outer.0 in
    let two = of-any (λ y. (y.encoder == b) && share_key vs x y) items outer.1 in
    let y = two.0 in
    let other = parts (y.encoder == b) (share_key vs x y) two.2 in
    (x, (y, (one.1, two.1, same_from_test x.encoder a own.0, same_from_test (view_of_item x.item) v own.1, same_from_test y.encoder b other.0, other.1)))

pub to-encoders : (vs : Views) (items : List Tagged) (v a b : ℕ) (x y : Tagged) → Two vs items v a b x y → encoders_share vs items v a b ≡ true
to-encoders vs items v a b x y t =
    any-of (λ x. (x.encoder == a) && is_of_view v x.item && list_any (λ y. (y.encoder == b) && share_key vs x y) items) items x t.0
    (both ((x.encoder == a) && is_of_view v x.item) (list_any (λ y. (y.encoder == b) && share_key vs x y) items)
    (both (x.encoder == a) (is_of_view v x.item) (self_test x.encoder a t.2) (self_test (view_of_item x.item) v t.3))
    (any-of (λ y. (y.encoder == b) && share_key vs x y) items y t.1 (both (y.encoder == b) (share_key vs x y) (self_test y.encoder b t.4) t.5)))

-- what shares a key is of two encoders and of one view, and clashes
pub share-told : (vs : Views) (x y : Tagged) → share_key vs x y ≡ true → (not (x.encoder == y.encoder) ≡ true) × ((view_of_item x.item == view_of_item y.item) ≡ true) × (clashes vs x.item y.item ≡ true)
share-told vs x y h =
    let outer = parts (not (x.encoder == y.encoder) && (view_of_item x.item == view_of_item y.item)) (clashes vs x.item y.item) h in
    let inner = parts (not (x.encoder == y.encoder)) (view_of_item x.item == view_of_item y.item) outer.0 in
    (inner.0, inner.1, outer.1)

pub share-from : (vs : Views) (x y : Tagged) → not (x.encoder == y.encoder) ≡ true → (view_of_item x.item == view_of_item y.item) ≡ true → clashes vs x.item y.item ≡ true → share_key vs x y ≡ true
share-from vs x y a b c = both (not (x.encoder == y.encoder) && (view_of_item x.item == view_of_item y.item)) (clashes vs x.item y.item) (both (not (x.encoder == y.encoder)) (view_of_item x.item == view_of_item y.item) a b) c

pub apart-test : (m n : ℕ) → m < n → not (m == n) ≡ true
apart-test m n l = ap not (other m n l)
  where
    other : (m n : ℕ) → m < n → (m == n) ≡ false
    other m n l = grind (arith, l)

from-of : (encoders : List Accepted) (t : Tagged) → IsOf 0 encoders t → In t (tagged_from 0 encoders)
from-of encoders t o = subst (λ (n : ℕ). In {A = Tagged} (record { encoder = n; item = t.item }) (tagged_from 0 encoders)) (sym o.own) (to-tagged 0 encoders o.place o.accepted t.item o.there o.item)

pub journal-marks : JournalMarksLaw
journal-marks p entries h = record {
  has = λ t i c. member-map (mark_of p.views) (filter (λ t. can_clash t.item) (tagged_by p.encoders entries)) t
      (member-filter (λ t. can_clash t.item) (tagged_by p.encoders entries) t (by-has-from p entries t h (of-tagged 0 p.encoders t i)) c);
  of = λ m i.
      let one = member-of-map (mark_of p.views) (filter (λ t. can_clash t.item) (tagged_by p.encoders entries)) m i in
      let two = member-of-filter (λ t. can_clash t.item) (tagged_by p.encoders entries) one.0 one.1 in
      (one.0, from-of p.encoders one.0 (by-is-from p.encoders entries one.0 two.0), two.1, one.2);
}

module _ (p : FramePlan) (marks : List Mark) (h : AreMarksOf p marks) where
  marks-then : (v a b : ℕ) → a < b → marks_share marks v a b ≡ true → encoders_share p.views (tagged_from 0 p.encoders) v a b ≡ true
  marks-then v a b l e =
      let s = of-share marks v a b e in
      let left = h.of s.left s.has_left in
      let right = h.of s.right s.has_right in
      let x = left.0 in
      let y = right.0 in
      let first : x.encoder ≡ a = sym (ap (λ (m : Mark). m.encoder) left.3) ∙ s.first in
      let second : y.encoder ≡ b = sym (ap (λ (m : Mark). m.encoder) right.3) ∙ s.second in
      let view : view_of_item x.item ≡ v = sym (ap (λ (m : Mark). m.view) left.3) ∙ s.view in
      let key : is_one_key (mark_of p.views x) (mark_of p.views y) ≡ true = (λ i. is_one_key (sym left.3 i) (sym right.3 i)) ∙ s.clash in
      let told = parts (view_of_item x.item == view_of_item y.item) (clashes p.views x.item y.item) (sym (one-key-is p.views x.encoder y.encoder x.item y.item left.2 right.2) ∙ key) in
      to-encoders p.views (tagged_from 0 p.encoders) v a b x y
      (left.1, right.1, first, view, second, share-from p.views x y (apart-test x.encoder y.encoder (let f = first in let g = second in omega (arith, f, g, l))) told.0 told.1)

  then-marks : (v a b : ℕ) → encoders_share p.views (tagged_from 0 p.encoders) v a b ≡ true → marks_share marks v a b ≡ true
  then-marks v a b e =
      let found = of-encoders p.views (tagged_from 0 p.encoders) v a b e in
      let x = found.0 in
      let y = found.1.0 in
      let t = found.1.1 in
      let told = share-told p.views x y t.5 in
      let can = can-both p.views x.item y.item told.2 in
      to-share marks v a b (record {
        left = mark_of p.views x;
        right = mark_of p.views y;
        has_left = h.has x t.0 can.0;
        has_right = h.has y t.1 can.1;
        clash = one-key-is p.views x.encoder y.encoder x.item y.item can.0 can.1 ∙ both (view_of_item x.item == view_of_item y.item) (clashes p.views x.item y.item) told.1 told.2;
        first = t.2;
        second = t.4;
        view = t.3;
      })

  pub same-sharing : (v a b : ℕ) → a < b → marks_share marks v a b ≡ encoders_share p.views (tagged_from 0 p.encoders) v a b
  same-sharing v a b l = bool-same _ _ (marks-then v a b l) (then-marks v a b)

  pub marks-own : AllByRecursion (λ a. AllByRecursion (IsThere (view_count p.views)) a.items) p.encoders → AllByRecursion (IsMarkOf (view_count p.views) (length p.encoders)) marks
  marks-own all = self-member marks (IsMarkOf (view_count p.views) (length p.encoders)) (λ m i.
      let one = h.of m i in
      let o = of-tagged 0 p.encoders one.0 one.1 in
      let fits : AllByRecursion (IsThere (view_count p.views)) o.accepted.items = member-has (λ a. AllByRecursion (IsThere (view_count p.views)) a.items) p.encoders o.accepted all (member-at p.encoders o.place o.accepted o.there) in
      let low = (member-has (IsThere (view_count p.views)) o.accepted.items one.0.item fits o.item).0 in
      let few = at-below p.encoders o.place o.accepted o.there in
      let own = o.own in (
        subst (λ (n : ℕ). n < view_count p.views) (sym (ap (λ (m : Mark). m.view) one.3)) low,
        subst (λ (n : ℕ). n < length p.encoders) (sym (ap (λ (m : Mark). m.encoder) one.3)) (omega (arith, own, few)),
      ))

-- ---- the same sharing gives the same views

find-same : (p q : ℕ → Bool) (low n : ℕ) → ((y : ℕ) → low ≤ y → p y ≡ q y) → find p (range_with_len low n) ≡ find q (range_with_len low n)
find-same p q low zero h = refl
find-same p q low (suc n) h = (λ i. cond (h low (omega arith) i) (Some low) (find p (range_with_len (low + 1) n))) ∙ ap (λ o. cond (q low) (Some low) o) (find-same p q (low + 1) n (λ y l. h y (omega (arith, l))))

abbrev with_partner : Sharing → (encoders v a : ℕ) → Option (ℕ × ℕ)
with_partner share encoders v a = option_map (λ b. (a, b)) (partner_of share encoders v a)

abbrev with_view : Sharing → (encoders v : ℕ) → Option (ℕ × (ℕ × ℕ))
with_view share encoders v = option_map (λ x. (v, x)) (least_pair share encoders v)

module _ (f g : Sharing) (same : (v a b : ℕ) → a < b → f v a b ≡ g v a b) (encoders : ℕ) where
  partner-same : (v a : ℕ) → partner_of f encoders v a ≡ partner_of g encoders v a
  partner-same v a = find-same (f v a) (g v a) (a + 1) (encoders - (a + 1)) (λ b l. same v a b (omega (arith, l)))

  then-same : (v : ℕ) (o : Option ℕ) → option_and_then (with_partner f encoders v) o ≡ option_and_then (with_partner g encoders v) o
  then-same v None = refl
  then-same v (Some a) = ap (option_map (λ (b : ℕ). let x : ℕ × ℕ = (a, b) in x)) (partner-same v a)

  pair-same : (v : ℕ) → least_pair f encoders v ≡ least_pair g encoders v
  pair-same v =
      ap (option_and_then (with_partner f encoders v)) (find-same (λ a. is_some (partner_of f encoders v a)) (λ a. is_some (partner_of g encoders v a)) 0 encoders (λ a l. ap is_some (partner-same v a)))
      ∙ then-same v (find (λ a. is_some (partner_of g encoders v a)) (range_with_len 0 encoders))

  views-from : (xs : List ℕ) → filter_map (with_view f encoders) xs ≡ filter_map (with_view g encoders) xs
  views-from [] = refl
  views-from (v ∷ xs) = (λ i. cons_option (option_map (λ (x : ℕ × ℕ). let y : ℕ × (ℕ × ℕ) = (v, x) in y) (pair-same v i)) (views-from xs i))

  pub views-same : (views : ℕ) → sharing_views f encoders views ≡ sharing_views g encoders views
  views-same views = views-from (range_with_len 0 views)

pub marks-tell : MarksLaw
marks-tell s k p marks e h =
    (marks-own p marks h (there s k p e), views-same (marks_share marks) (encoders_share p.views (tagged_from 0 p.encoders)) (same-sharing p marks h) (length p.encoders) (view_count p.views))

-- There is no line exactly where no key is shared.
use Rattle.std.proofs.Common.{◌≡◌, ℕ, zero, suc, ◌+◌, ◌-◌, ◌<◌, ◌≤◌, ◌⊎◌, inl, inr, Bool, true, false, not, ◌||◌, ◌&&◌, ◌==◌, cond, is_some, List, [], ◌∷◌, ◌++◌, length, filter_map, Option, Some, None, option_map, option_and_then, refl, sym, ap, ◌∙◌, arith}
use Rattle.std.specs.List.{AllByRecursion, find, range_with_len, list_any, cons_option}
use Rattle.std.proofs.lemmas.Bool.{cases_order}
use Rattle.gfx_model.specs.Views.{Views, view_at, view_count}
use Rattle.gfx_model.specs.World.{Item, is_blit, view_of_item, key_of_item}
use Rattle.scene_model.specs.Fold.{FramePlan, plans}
use Rattle.scene_model.specs.Journal.{Tagged, tagged_from, is_marked, is_sequential, clashes, share_key, some_share}
use Rattle.scene_model.proofs.PlansFit.{order-law}
use Rattle.shared_keys.specs.Pairs.{Sharing, partner_of, least_pair}
use Rattle.shared_keys.specs.Lines.{encoders_share, shared_views, frame_lines, lines_from}
use Rattle.shared_keys.specs.Marks.{IsThere}
use Rattle.shared_keys.specs.Laws.{NoLineLaw, FreeLaw}
use Rattle.shared_keys.proofs.Order.{parts, both}
use Rattle.shared_keys.specs.Members.{In}
use Rattle.shared_keys.proofs.Members.{any-of, of-any, member-has}
use Rattle.shared_keys.proofs.Views.{least-none}
use Rattle.shared_keys.proofs.There.{all-there}
use Rattle.shared_keys.proofs.Clashes.{of-encoders, to-encoders, share-told, share-from, of-tagged, member-at, at-below}

same_from_test : (m n : ℕ) → (m == n) ≡ true → m ≡ n
same_from_test m n e = grind (arith, e)

self_test : (m n : ℕ) → m ≡ n → (m == n) ≡ true
self_test m n e = grind (arith, e)

clash : true ≡ false → ⊥
clash e = cc e

not_true : (b : Bool) → (b ≡ true → ⊥) → b ≡ false
not_true true f = absurd (f refl)
not_true false f = refl

or-true : (a b : Bool) → (a || b) ≡ true → (a ≡ true) ⊎ (b ≡ true)
or-true true b e = inl refl
or-true false b e = inr e

or-left : (a b : Bool) → a ≡ true → (a || b) ≡ true
or-left true b e = refl
or-left false b e = cc e

or-right : (a b : Bool) → b ≡ true → (a || b) ≡ true
or-right true b e = refl
or-right false b e = e

-- ---- two items that share a key, in either order

turned : (m n : ℕ) → not (m == n) ≡ true → not (n == m) ≡ true
turned m n h = go (n == m) refl
  where
    go : (b : Bool) → (n == m) ≡ b → not b ≡ true
    go true e = absurd (clash (sym h ∙ ap not (self_test m n (sym (same_from_test n m e)))))
    go false e = refl

clashes-turned : (vs : Views) (i j : Item) → view_of_item i ≡ view_of_item j → clashes vs i j ≡ true → clashes vs j i ≡ true
clashes-turned vs i j v h = elim (or-true (is_blit i && is_blit j) _ h) [
  | inl b ↦ let two = parts (is_blit i) (is_blit j) b in or-left (is_blit j && is_blit i) _ (both (is_blit j) (is_blit i) two.1 two.0)
  | inr m ↦
      let outer = parts (is_marked i && is_marked j) (is_sequential (view_at vs (view_of_item i)).mode || (key_of_item vs 0 i == key_of_item vs 0 j)) m in
      let two = parts (is_marked i) (is_marked j) outer.0 in
      or-right (is_blit j && is_blit i) ((is_marked j && is_marked i) && (is_sequential (view_at vs (view_of_item j)).mode || (key_of_item vs 0 j == key_of_item vs 0 i)))
      (both (is_marked j && is_marked i) (is_sequential (view_at vs (view_of_item j)).mode || (key_of_item vs 0 j == key_of_item vs 0 i)) (both (is_marked j) (is_marked i) two.1 two.0)
      (elim (or-true (is_sequential (view_at vs (view_of_item i)).mode) (key_of_item vs 0 i == key_of_item vs 0 j) outer.1) [
        | inl s ↦ or-left (is_sequential (view_at vs (view_of_item j)).mode) _ (ap (λ (v : ℕ). is_sequential (view_at vs v).mode) (sym v) ∙ s)
        | inr k ↦ or-right (is_sequential (view_at vs (view_of_item j)).mode) (key_of_item vs 0 j == key_of_item vs 0 i) (self_test (key_of_item vs 0 j) (key_of_item vs 0 i) (sym (same_from_test (key_of_item vs 0 i) (key_of_item vs 0 j) k)))
      ]))
]

pub share-turned : (vs : Views) (x y : Tagged) → share_key vs x y ≡ true → share_key vs y x ≡ true
share-turned vs x y h =
    let told = share-told vs x y h in
    let view : view_of_item x.item ≡ view_of_item y.item = same_from_test (view_of_item x.item) (view_of_item y.item) told.1 in
    share-from vs y x (turned x.encoder y.encoder told.0) (self_test (view_of_item y.item) (view_of_item x.item) (sym view)) (clashes-turned vs x.item y.item view told.2)

abbrev Sharers : Views → List Tagged → Tagged → Tagged → Type 0
Sharers vs ts x y = In x ts × In y ts × (share_key vs x y ≡ true)

some-of : (vs : Views) (ts : List Tagged) → some_share vs ts ≡ true → (x : Tagged) × ((y : Tagged) × Sharers vs ts x y)
some-of vs [] h = absurd (clash (sym h))
some-of vs (t ∷ ts) h = elim (or-true (list_any (share_key vs t) ts) (some_share vs ts) h) [
  | inl a ↦ let one = of-any (share_key vs t) ts a in (t, (one.0, (inl refl, inr one.1, one.2)))
  | inr s ↦ let later = some-of vs ts s in let r = later.1.1 in (later.0, (later.1.0, (inr r.0, inr r.1, r.2)))
]

to-some : (vs : Views) (ts : List Tagged) (x y : Tagged) → In x ts → In y ts → share_key vs x y ≡ true → some_share vs ts ≡ true
to-some vs [] x y i j h = absurd i
to-some vs (t ∷ ts) x y (inl e) (inl f) h =
    let told = share-told vs x y h in
    absurd (clash (sym told.0 ∙ ap not (self_test x.encoder y.encoder (ap (λ (t : Tagged). t.encoder) (e ∙ sym f)))))
to-some vs (t ∷ ts) x y (inl e) (inr j) h = or-left (list_any (share_key vs t) ts) (some_share vs ts) (any-of (share_key vs t) ts y j (ap (λ (z : Tagged). share_key vs z y) (sym e) ∙ h))
to-some vs (t ∷ ts) x y (inr i) (inl f) h = or-left (list_any (share_key vs t) ts) (some_share vs ts) (any-of (share_key vs t) ts x i (ap (λ (z : Tagged). share_key vs z x) (sym f) ∙ share-turned vs x y h))
to-some vs (t ∷ ts) x y (inr i) (inr j) h = or-right (list_any (share_key vs t) ts) (some_share vs ts) (to-some vs ts x y i j h)

-- ---- a pair that shares is found

found-some : (p : ℕ → Bool) (low n x : ℕ) → low ≤ x → x < low + n → p x ≡ true → (y : ℕ) × (find p (range_with_len low n) ≡ Some y) × (p y ≡ true)
found-some p low zero x l h t = absurd (omega (arith, l, h))
found-some p low (suc n) x l h t = go (found-some p (low + 1) n x) (p low) refl
  where
    go : (low + 1 ≤ x → x < low + 1 + n → p x ≡ true → (y : ℕ) × (find p (range_with_len (low + 1) n) ≡ Some y) × (p y ≡ true)) → (b : Bool) → p low ≡ b
        → (y : ℕ) × (cond (p low) (Some low) (find p (range_with_len (low + 1) n)) ≡ Some y) × (p y ≡ true)
    go later true e = (low, (λ i. cond (e i) (Some low) (find p (range_with_len (low + 1) n))), e)
    go later false e = elim (cases_order low x) [
      | inl same ↦ absurd (clash (sym t ∙ ap p (sym same) ∙ e))
      | inr (inl less) ↦ let r = later (omega (arith, less)) (omega (arith, h)) t in (r.0, (λ i. cond (e i) (Some low) (find p (range_with_len (low + 1) n))) ∙ r.1, r.2)
      | inr (inr more) ↦ absurd (omega (arith, l, more))
    ]

abbrev paired : Sharing → (encoders v a : ℕ) → Option (ℕ × ℕ)
paired share encoders v a = option_map (λ b. (a, b)) (partner_of share encoders v a)

map-none : (a : ℕ) (o : Option ℕ) → is_some o ≡ true → option_map (λ (b : ℕ). let x : ℕ × ℕ = (a, b) in x) o ≡ None → ⊥
map-none a None t e = clash (sym t)
map-none a (Some b) t e = cc e

pub pair-found : (share : Sharing) (encoders v a b : ℕ) → a < b → b < encoders → share v a b ≡ true → least_pair share encoders v ≡ None → ⊥
pair-found share encoders v a b l m t none =
    let partner = found-some (share v a) (a + 1) (encoders - (a + 1)) b (omega (arith, l)) (omega (arith, m, l)) t in
    let first = found-some (λ a. is_some (partner_of share encoders v a)) 0 encoders a (omega arith) (omega (arith, l, m)) (ap is_some partner.1) in
    map-none first.0 (partner_of share encoders v first.0) first.2 (sym (ap (option_and_then (paired share encoders v)) first.1) ∙ none)

abbrev viewed : Sharing → (encoders v : ℕ) → Option (ℕ × (ℕ × ℕ))
viewed share encoders v = option_map (λ x. (v, x)) (least_pair share encoders v)

unmapped : (v : ℕ) (o : Option (ℕ × ℕ)) → option_map (λ (x : ℕ × ℕ). let y : ℕ × (ℕ × ℕ) = (v, x) in y) o ≡ None → o ≡ None
unmapped v None e = refl
unmapped v (Some x) e = absurd (cc e)

none-listed : {B : Type 0} (f : ℕ → Option B) (low n v : ℕ) → filter_map f (range_with_len low n) ≡ [] → low ≤ v → v < low + n → f v ≡ None
none-listed f low zero v e l h = absurd (omega (arith, l, h))
none-listed {B} f low (suc n) v e l h = elim (cases_order low v) [
  | inl same ↦ ap f (sym same) ∙ go (f low) e
  | inr (inl less) ↦ none-listed f (low + 1) n v (rest (f low) e) (omega (arith, less)) (omega (arith, h))
  | inr (inr more) ↦ absurd (omega (arith, l, more))
]
  where
    go : (o : Option B) → cons_option o (filter_map f (range_with_len (low + 1) n)) ≡ [] → o ≡ None
    go None e = refl
    go (Some b) e = absurd (cc e)

    rest : (o : Option B) → cons_option o (filter_map f (range_with_len (low + 1) n)) ≡ [] → filter_map f (range_with_len (low + 1) n) ≡ []
    rest None e = e
    rest (Some b) e = absurd (cc e)

all-none : {B : Type 0} (f : ℕ → Option B) (xs : List ℕ) → ((v : ℕ) → f v ≡ None) → filter_map f xs ≡ []
all-none f [] h = refl
all-none f (v ∷ xs) h = ap (λ o. cons_option o (filter_map f xs)) (h v) ∙ all-none f xs h

-- ---- one frame

abbrev EncodersThere : FramePlan → Type 0
EncodersThere p = AllByRecursion (λ a. AllByRecursion (IsThere (view_count p.views)) a.items) p.encoders

below : (p : FramePlan) (t : Tagged) → In t (tagged_from 0 p.encoders) → t.encoder < length p.encoders
below p t i = let o = of-tagged 0 p.encoders t i in let l = at-below p.encoders o.place o.accepted o.there in let e = o.own in omega (arith, e, l)

ordered-none : (p : FramePlan) (x y : Tagged) → EncodersThere p → shared_views p ≡ [] → Sharers p.views (tagged_from 0 p.encoders) x y → x.encoder < y.encoder → ⊥
ordered-none p x y all e s l =
    let told = share-told p.views x y s.2 in
    let o = of-tagged 0 p.encoders x s.0 in
    let fits : AllByRecursion (IsThere (view_count p.views)) o.accepted.items = member-has (λ a. AllByRecursion (IsThere (view_count p.views)) a.items) p.encoders o.accepted all (member-at p.encoders o.place o.accepted o.there) in
    let low = (member-has (IsThere (view_count p.views)) o.accepted.items x.item fits o.item).0 in
    let v = view_of_item x.item in
    let share : Sharing = encoders_share p.views (tagged_from 0 p.encoders) in
    let none : least_pair share (length p.encoders) v ≡ None = unmapped v _ (none-listed (viewed share (length p.encoders)) 0 (view_count p.views) v e (omega arith) (omega (arith, low))) in
    pair-found share (length p.encoders) v x.encoder y.encoder l (below p y s.1) (to-encoders p.views (tagged_from 0 p.encoders) v x.encoder y.encoder x y (s.0, s.1, refl, refl, refl, s.2)) none

pub views-none : (p : FramePlan) → EncodersThere p → shared_views p ≡ [] → some_share p.views (tagged_from 0 p.encoders) ≡ false
views-none p all e = not_true (some_share p.views (tagged_from 0 p.encoders)) (λ h.
    let found = some-of p.views (tagged_from 0 p.encoders) h in
    let x = found.0 in
    let y = found.1.0 in
    let s = found.1.1 in
    let told = share-told p.views x y s.2 in
    elim (cases_order x.encoder y.encoder) [
      | inl same ↦ clash (sym told.0 ∙ ap not (self_test x.encoder y.encoder same))
      | inr (inl less) ↦ ordered-none p x y all e s less
      | inr (inr more) ↦ ordered-none p y x all e (s.1, s.0, share-turned p.views x y s.2) more
    ])

pub none-views : (p : FramePlan) → some_share p.views (tagged_from 0 p.encoders) ≡ false → shared_views p ≡ []
none-views p h =
    let share : Sharing = encoders_share p.views (tagged_from 0 p.encoders) in
    let never : (v a b : ℕ) → share v a b ≡ false = λ v a b. not_true (share v a b) (λ t.
    let found = of-encoders p.views (tagged_from 0 p.encoders) v a b t in
    let s = found.1.1 in
    clash (sym (to-some p.views (tagged_from 0 p.encoders) found.0 found.1.0 s.0 s.1 s.5) ∙ h)) in
    all-none (viewed share (length p.encoders)) (range_with_len 0 (view_count p.views))
    (λ v. ap (option_map (λ (x : ℕ × ℕ). let y : ℕ × (ℕ × ℕ) = (v, x) in y)) (least-none share (length p.encoders) v (λ a b l. never v a b)))

-- ---- all frames

no-lines : (k : ℕ) (views : List (ℕ × (ℕ × ℕ))) → frame_lines k views ≡ [] → views ≡ []
no-lines k [] e = refl
no-lines k (x ∷ views) e = absurd (cc e)

no-front : {A : Type 0} (xs ys : List A) → xs ++ ys ≡ [] → (xs ≡ []) × (ys ≡ [])
no-front [] ys e = (refl, e)
no-front (x ∷ xs) ys e = absurd (cc e)

or-false : (a b : Bool) → (a || b) ≡ false → (a ≡ false) × (b ≡ false)
or-false true b e = cc e
or-false false b e = (refl, e)

lines-then : (k : ℕ) (ps : List FramePlan) → AllByRecursion EncodersThere ps → lines_from k ps ≡ [] → list_any (λ p. some_share p.views (tagged_from 0 p.encoders)) ps ≡ false
lines-then k [] all e = refl
lines-then k (p ∷ ps) all e =
    let two = no-front (frame_lines k (shared_views p)) (lines_from (k + 1) ps) e in
    (λ i. views-none p all.0 (no-lines k (shared_views p) two.0) i || list_any (λ p. some_share p.views (tagged_from 0 p.encoders)) ps) ∙ lines-then (k + 1) ps all.1 two.1

then-lines : (k : ℕ) (ps : List FramePlan) → list_any (λ p. some_share p.views (tagged_from 0 p.encoders)) ps ≡ false → lines_from k ps ≡ []
then-lines k [] e = refl
then-lines k (p ∷ ps) e =
    let two = or-false (some_share p.views (tagged_from 0 p.encoders)) (list_any (λ p. some_share p.views (tagged_from 0 p.encoders)) ps) e in
    (λ i. frame_lines k (none-views p two.0 i) ++ lines_from (k + 1) ps) ∙ then-lines (k + 1) ps two.1

pub no-line : NoLineLaw
no-line s = (lines-then 0 (plans s) (all-there s), then-lines 0 (plans s))

pub free : FreeLaw
free s j k none hj hk = order-law s j k (lines-then 0 (plans s) (all-there s) none) hj hk

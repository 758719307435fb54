-- Pairs by marks are the definition's.
use Rattle.std.proofs.Common.{◌≡◌, ℕ, zero, suc, ◌+◌, ◌<◌, ◌⊎◌, inl, inr, Bool, true, false, not, ◌&&◌, ◌==◌, cond, List, [], ◌∷◌, ◌++◌, map, filter_map, drop, length, slice_get, Option, Some, None, option_map, option_and_then, refl, sym, ap, subst, ◌∙◌, arith, append_assoc}
use Rattle.std.specs.Prelude.{slice_index_or}
use Rattle.std.specs.List.{AllByRecursion, find, range_with_len, cons_option}
use Rattle.std.proofs.lemmas.List.{drop_more, length-map, map-append}
use Rattle.gfx_model.specs.Frames.{Entry}
use Rattle.gfx_model.specs.Views.{Views, view_count}
use Rattle.gfx_model.specs.World.{Item, view_of_item, is_of_view}
use Rattle.scene_model.specs.Fold.{Accepted, FramePlan, nothing_accepted}
use Rattle.scene_model.specs.Journal.{Tagged, clashes}
use Rattle.shared_keys.specs.declared.marks.Mark.{Mark}
use Rattle.shared_keys.specs.declared.marks.SharedView.{SharedView}
use Rattle.shared_keys.specs.Marks.{same_kind, can_clash, mark_of, shared_seen, IsThere}
use Rattle.shared_keys.specs.Members.{In}
use Rattle.shared_keys.proofs.Clashes.{one-key-is, can-both, member-at}
use Rattle.shared_keys.proofs.Members.{member-has}
use Rattle.shared_items.specs.declared.pairs.ItemPair.{ItemPair}
use Rattle.shared_items.specs.Seen.{pair_seen}
use Rattle.shared_items.specs.Items.{ItemSharing, tagged_share, tagged_at, items_share, count_of, least_items, pair_of, pair_in}
use Rattle.shared_items.specs.Marked.{marks_clash, clash_at}
use Rattle.shared_items.proofs.Finds.{find_holds, least_none}
use Rattle.shared_items.proofs.Sharing.{or-from-get}
use Rattle.draw_encoder.specs.declared.items.Recording.{Recording}
use Rattle.draw_encoder.specs.Bundles.{items_of}
use Rattle.recorded_keys.specs.Recorded.{marks_of_item, HasPlan, ArePlanned}
use Rattle.recorded_keys.specs.Pairs.{clash_mark, is_recorded_by, found_place, pair_by_marks, recorded_pair}

-- ---- one item

-- the mark of an item, as the list of its mark has it
pub mark-is : (vs : Views) (e : ℕ) (i : Item) (m : Option Mark) → cons_option m [] ≡ marks_of_item vs e i → m ≡ clash_mark vs e i
mark-is vs e i m h = go m (can_clash i) h
  where
    own : Mark
    own = mark_of vs (record { encoder = e; item = i })

    go : (m : Option Mark) (b : Bool) → cons_option m [] ≡ cond b (own ∷ []) [] → m ≡ cond b (Some own) None
    go None true h = cc h
    go None false h = refl
    go (Some n) true h = (let same : n ≡ own = cc h in ap Some same)
    go (Some n) false h = cc h

-- one element more of a list
pub map-step : {A B C : Type 0} (f : B → C) (g : A → B) (xs : List A) (i : ℕ) (x : A) (out new total : List C) → i < length xs → x ≡ slice_index_or xs i x
    → out ++ map f (map g (drop i xs)) ≡ total → new ≡ out ++ f (g x) ∷ [] → new ++ map f (map g (drop (i + 1) xs)) ≡ total
map-step {A} {B} {C} f g xs i x out new total lt is before more =
    ap (λ (zs : List C). zs ++ map f (map g (drop (i + 1) xs))) more
    ∙ append_assoc out (f (g x) ∷ []) (map f (map g (drop (i + 1) xs)))
    ∙ ap (λ (y : A). out ++ f (g y) ∷ map f (map g (drop (i + 1) xs))) is
    ∙ ap (λ (ys : List A). out ++ map f (map g ys)) (sym (drop_more xs i x lt))
    ∙ before

-- ---- two items

joined : (a n w k y : Bool) → ((((a && n) && w) && k) && y) ≡ (a && (n && ((w && k) && y)))
joined true true w k y = refl
joined true false w k y = refl
joined false n w k y = refl

apart : (a n w c : Bool) → (a && (n && (w && c))) ≡ (a && ((n && w) && c))
apart true true w c = refl
apart true false w c = refl
apart false n w c = refl

fails : (a n w : Bool) → (a && ((n && w) && false)) ≡ false
fails true true true = refl
fails true true false = refl
fails true false w = refl
fails false n w = refl

-- an item with its encoder
abbrev tag : ℕ → Item → Tagged
tag e i = record { encoder = e; item = i }

module _ (vs : Views) (v a b : ℕ) where
  -- an item that clashes with nothing shares with none
  no-share : (i j : Item) → (can_clash i ≡ false) ⊎ (can_clash j ≡ false) → tagged_share vs v (Some (tag a i)) (Some (tag b j)) ≡ false
  no-share i j none = go (clashes vs i j) refl
    where
      other : (c : Bool) → c ≡ true → c ≡ false → ⊥
      other c e f = cc (sym e ∙ f)

      not-both : clashes vs i j ≡ true → ⊥
      not-both h = elim none [
        | inl f ↦ other (can_clash i) (can-both vs i j h).0 f
        | inr f ↦ other (can_clash j) (can-both vs i j h).1 f
      ]

      go : (c : Bool) → clashes vs i j ≡ c → (is_of_view v i && ((not (a == b) && (view_of_item i == view_of_item j)) && clashes vs i j)) ≡ false
      go true e = absurd (not-both e)
      go false e = ap (λ c. is_of_view v i && ((not (a == b) && (view_of_item i == view_of_item j)) && c)) e ∙ fails (is_of_view v i) (not (a == b)) (view_of_item i == view_of_item j)

  both-can : (i j : Item) → can_clash i ≡ true → can_clash j ≡ true → marks_clash v (Some (mark_of vs (tag a i))) (Some (mark_of vs (tag b j))) ≡ tagged_share vs v (Some (tag a i)) (Some (tag b j))
  both-can i j g h =
      let x : Mark = mark_of vs (tag a i) in
      let y : Mark = mark_of vs (tag b j) in
      joined (x.view == v) (not (a == b)) (x.view == y.view) (same_kind x.is_blit y.is_blit) (x.key == y.key)
      ∙ ap (λ c. (x.view == v) && (not (a == b) && c)) (one-key-is vs a b i j g h)
      ∙ apart (x.view == v) (not (a == b)) (view_of_item i == view_of_item j) (clashes vs i j)

  two-items : (i j : Item) → marks_clash v (clash_mark vs a i) (clash_mark vs b j) ≡ tagged_share vs v (Some (tag a i)) (Some (tag b j))
  two-items i j = go (can_clash i) (can_clash j) refl refl
    where
      go : (g h : Bool) → can_clash i ≡ g → can_clash j ≡ h → marks_clash v (cond g (Some (mark_of vs (tag a i))) None) (cond h (Some (mark_of vs (tag b j))) None) ≡ tagged_share vs v (Some (tag a i)) (Some (tag b j))
      go true true eg eh = both-can i j eg eh
      go true false eg eh = sym (no-share i j (inr eh))
      go false h eg eh = sym (no-share i j (inl eg))

  two-maybe : (o q : Option Item) → marks_clash v (option_and_then (clash_mark vs a) o) (option_and_then (clash_mark vs b) q) ≡ tagged_share vs v (option_map (tag a) o) (option_map (tag b) q)
  two-maybe None q = refl
  two-maybe (Some i) None = go (can_clash i)
    where
      go : (g : Bool) → marks_clash v (cond g (Some (mark_of vs (tag a i))) None) None ≡ false
      go true = refl
      go false = refl
  two-maybe (Some i) (Some j) = two-items i j

-- ---- two encoders

place-of-map : {A B : Type 0} (f : A → Option B) (xs : List A) (n : ℕ) → slice_index_or (map f xs) n None ≡ option_and_then f (slice_get xs n)
place-of-map f [] n = refl
place-of-map f (x ∷ xs) zero = refl
place-of-map f (x ∷ xs) (suc n) = place-of-map f xs n

at-place : (encoders : List Accepted) (e n : ℕ) (x : Accepted) → slice_get encoders e ≡ Some x → tagged_at encoders e n ≡ option_map (λ i. record { encoder = e; item = i }) (slice_get x.items n)
at-place encoders e n x is = ap (λ o. option_map (λ i. tagged e i) (option_and_then (λ y. slice_get y.items n) o)) is
  where
    tagged : ℕ → Item → Tagged
    tagged k i = record { encoder = k; item = i }

-- the pair of two recordings that have the plan's items of two encoders
pub pair-same : (p : FramePlan) (x : ℕ × (ℕ × ℕ)) (r q : Recording) → HasPlan p r → HasPlan p q → r.encoder ≡ x.1.0 → q.encoder ≡ x.1.1 → recorded_pair p.views x r q ≡ pair_in p x
pair-same p x r q hr hq er eq =
    let a : ℕ = x.1.0 in
    let b : ℕ = x.1.1 in
    let left : slice_get p.encoders a ≡ Some hr.0 = ap (slice_get p.encoders) (sym er) ∙ hr.1 in
    let right : slice_get p.encoders b ≡ Some hq.0 = ap (slice_get p.encoders) (sym eq) ∙ hq.1 in
    let firsts : length (map (clash_mark p.views a) hr.0.items) ≡ count_of p.encoders a = length-map hr.0.items (clash_mark p.views a) ∙ ap (λ (y : Accepted). length y.items) (sym (or-from-get p.encoders a hr.0 nothing_accepted left)) in
    let seconds : length (map (clash_mark p.views b) hq.0.items) ≡ count_of p.encoders b = length-map hq.0.items (clash_mark p.views b) ∙ ap (λ (y : Accepted). length y.items) (sym (or-from-get p.encoders b hq.0 nothing_accepted right)) in
    let clash : (i j : ℕ) → clash_at x.0 (map (clash_mark p.views a) hr.0.items) (map (clash_mark p.views b) hq.0.items) i j ≡ items_share p x.0 a b i j = λ i j.
    (λ k. marks_clash x.0 (place-of-map (clash_mark p.views a) hr.0.items i k) (place-of-map (clash_mark p.views b) hq.0.items j k))
    ∙ two-maybe p.views x.0 a b (slice_get hr.0.items i) (slice_get hq.0.items j)
    ∙ (λ k. tagged_share p.views x.0 (sym (at-place p.encoders a i hr.0 left) k) (sym (at-place p.encoders b j hq.0 right) k)) in
    (λ k. pair_by_marks x (map (clash_mark p.views (er k)) (hr.2 k)) (map (clash_mark p.views (eq k)) (hq.2 k)))
    ∙ (λ k. option_map (pair_of x) (least_items (λ i j. clash i j k) (firsts k) (seconds k)))

-- ---- recordings by their encoders

pub found-is : (rs : List Recording) (e n : ℕ) (d : Recording) → found_place rs e ≡ Some n → (In (slice_index_or rs n d) rs) × ((slice_index_or rs n d).encoder ≡ e)
found-is rs e n d is = go (slice_get rs n) refl (find_holds (λ k. is_recorded_by e (slice_get rs k)) (range_with_len 0 (length rs)) n is)
  where
    from_test : (k m : ℕ) → (k == m) ≡ true → k ≡ m
    from_test k m t = grind (arith, t)

    go : (o : Option Recording) → slice_get rs n ≡ o → is_recorded_by e o ≡ true → (In (slice_index_or rs n d) rs) × ((slice_index_or rs n d).encoder ≡ e)
    go None at t = cc t
    go (Some r) at t =
        let same : slice_index_or rs n d ≡ r = or-from-get rs n r d at in
        (subst (λ (z : Recording). In z rs) (sym same) (member-at rs n r at), ap (λ (z : Recording). z.encoder) same ∙ from_test r.encoder e t)

-- where a search over places finds nothing, no place is looked for
none-from : (f : ℕ → Bool) (low n k : ℕ) → find f (range_with_len low n) ≡ None → k < n → f (low + k) ≡ false
none-from f low zero k h lt = absurd (omega (arith, lt))
none-from f low (suc n) zero h lt = go (f low) refl h
  where
    here : low + 0 ≡ low
    here = omega arith

    go : (b : Bool) → f low ≡ b → cond b (Some low) (find f (range_with_len (low + 1) n)) ≡ None → f (low + 0) ≡ false
    go true is h = cc h
    go false is h = ap f here ∙ is
none-from f low (suc n) (suc k) h lt = go (λ rest. none-from f (low + 1) n k rest (omega (arith, lt))) (f low) h
  where
    next : low + suc k ≡ low + 1 + k
    next = omega arith

    go : (find f (range_with_len (low + 1) n) ≡ None → f (low + 1 + k) ≡ false) → (b : Bool) → cond b (Some low) (find f (range_with_len (low + 1) n)) ≡ None → f (low + suc k) ≡ false
    go on true h = cc h
    go on false h = ap f next ∙ on h

record HasPlace (rs : List Recording) (r : Recording) : Type 0 where
  place : ℕ
  below : place < length rs
  at : slice_get rs place ≡ Some r

place-in : (rs : List Recording) (r : Recording) → In r rs → HasPlace rs r
place-in [] r i = absurd i
place-in (q ∷ rs) r (inl e) = record { place = 0; below = omega arith; at = ap Some (sym e) }
place-in (q ∷ rs) r (inr i) = let later = place-in rs r i in let l = later.below in record { place = suc later.place; below = omega (arith, l); at = later.at }

not-recorded : (p : FramePlan) (rs : List Recording) (e : ℕ) → ArePlanned p rs → found_place rs e ≡ None → slice_get p.encoders e ≡ None
not-recorded p rs e h none = go (slice_get p.encoders e) refl
  where
    self_test : (m n : ℕ) → m ≡ n → (m == n) ≡ true
    self_test m n q = grind (arith, q)

    go : (o : Option Accepted) → slice_get p.encoders e ≡ o → o ≡ None
    go None is = refl
    go (Some a) is =
        let r = h.all e a is in
        let at = place-in rs r.0 r.1 in
        let low : 0 + at.place ≡ at.place = omega arith in
        let no : is_recorded_by e (slice_get rs (0 + at.place)) ≡ false = none-from (λ k. is_recorded_by e (slice_get rs k)) 0 (length rs) at.place none at.below in
        cc (sym (self_test r.0.encoder e r.2) ∙ sym (ap (is_recorded_by e) at.at) ∙ ap (λ k. is_recorded_by e (slice_get rs k)) (sym low) ∙ no)

no-items : (encoders : List Accepted) (e : ℕ) → slice_get encoders e ≡ None → count_of encoders e ≡ 0
no-items [] e h = refl
no-items (a ∷ rest) zero h = cc h
no-items (a ∷ rest) (suc e) h = no-items rest e h

pub no-first : (p : FramePlan) (rs : List Recording) (x : ℕ × (ℕ × ℕ)) → ArePlanned p rs → found_place rs x.1.0 ≡ None → None ≡ pair_in p x
no-first p rs x h none = ap (λ m. option_map (pair_of x) (least_items (items_share p x.0 x.1.0 x.1.1) m (count_of p.encoders x.1.1))) (sym (no-items p.encoders x.1.0 (not-recorded p rs x.1.0 h none)))

pub no-second : (p : FramePlan) (rs : List Recording) (x : ℕ × (ℕ × ℕ)) → ArePlanned p rs → found_place rs x.1.1 ≡ None → None ≡ pair_in p x
no-second p rs x h none =
    let share : ItemSharing = items_share p x.0 x.1.0 x.1.1 in
    let m : ℕ = count_of p.encoders x.1.0 in
    ap (λ o. option_map (pair_of x) (then o)) (sym (least_none share m 0))
    ∙ ap (λ n. option_map (pair_of x) (least_items share m n)) (sym (no-items p.encoders x.1.1 (not-recorded p rs x.1.1 h none)))
  where
    then : Option ℕ → Option (ℕ × ℕ)
    then o = option_and_then (λ i. None) o

-- the pair of the recordings that were found is the definition's
pub found-pair : (p : FramePlan) (rs : List Recording) (x : ℕ × (ℕ × ℕ)) (n m : ℕ) (d e : Recording) → ArePlanned p rs → found_place rs x.1.0 ≡ Some n → found_place rs x.1.1 ≡ Some m
    → recorded_pair p.views x (slice_index_or rs n d) (slice_index_or rs m e) ≡ pair_in p x
found-pair p rs x n m d e h one two =
    let first = found-is rs x.1.0 n d one in
    let second = found-is rs x.1.1 m e two in
    pair-same p x (slice_index_or rs n d) (slice_index_or rs m e) (member-has (HasPlan p) rs (slice_index_or rs n d) h.each first.0) (member-has (HasPlan p) rs (slice_index_or rs m e) h.each second.0) first.1 second.1

pub found-there : (rs : List Recording) (views e n : ℕ) (d : Recording) → AllByRecursion (λ r. AllByRecursion (IsThere views) (items_of r)) rs → found_place rs e ≡ Some n → AllByRecursion (IsThere views) (items_of (slice_index_or rs n d))
found-there rs views e n d all is = member-has (λ r. AllByRecursion (IsThere views) (items_of r)) rs (slice_index_or rs n d) all (found-is rs e n d is).0

-- the same of recordings that were found, where their items are there
pub whole-pair : (p : FramePlan) (rs : List Recording) (x : ℕ × (ℕ × ℕ)) (vs : Views) (n m : ℕ) (d e : Recording) (found : Option (ℕ × (Entry × Entry))) → vs ≡ p.views → ArePlanned p rs
    → AllByRecursion (λ r. AllByRecursion (IsThere (view_count p.views)) (items_of r)) rs → Some n ≡ found_place rs x.1.0 → Some m ≡ found_place rs x.1.1
    → (AllByRecursion (IsThere (view_count vs)) (items_of (slice_index_or rs n d)) → AllByRecursion (IsThere (view_count vs)) (items_of (slice_index_or rs m e)) → found ≡ recorded_pair vs x (slice_index_or rs n d) (slice_index_or rs m e))
    → found ≡ pair_in p x
whole-pair p rs x vs n m d e found v h all one two is =
    let left = subst (λ (z : Views). AllByRecursion (IsThere (view_count z)) (items_of (slice_index_or rs n d))) (sym v) (found-there rs (view_count p.views) x.1.0 n d all (sym one)) in
    let right = subst (λ (z : Views). AllByRecursion (IsThere (view_count z)) (items_of (slice_index_or rs m e))) (sym v) (found-there rs (view_count p.views) x.1.1 m e all (sym two)) in
    is left right ∙ ap (λ (z : Views). recorded_pair z x (slice_index_or rs n d) (slice_index_or rs m e)) v ∙ found-pair p rs x n m d e h (sym one) (sym two)

-- the same of recordings that were taken from their places
pub taken-pair : (p : FramePlan) (rs : List Recording) (x : ℕ × (ℕ × ℕ)) (vs : Views) (n m : ℕ) (r q : Recording) (found : Option (ℕ × (Entry × Entry))) → vs ≡ p.views → ArePlanned p rs
    → AllByRecursion (λ r. AllByRecursion (IsThere (view_count p.views)) (items_of r)) rs → Some n ≡ found_place rs x.1.0 → Some m ≡ found_place rs x.1.1 → r ≡ slice_index_or rs n r → q ≡ slice_index_or rs m q
    → (AllByRecursion (IsThere (view_count vs)) (items_of r) → AllByRecursion (IsThere (view_count vs)) (items_of q) → found ≡ recorded_pair vs x r q)
    → found ≡ pair_in p x
taken-pair p rs x vs n m r q found v h all one two rn qm is =
    whole-pair p rs x vs n m r q found v h all one two
    (λ a b. is (subst (λ (z : Recording). AllByRecursion (IsThere (view_count vs)) (items_of z)) (sym rn) a) (subst (λ (z : Recording). AllByRecursion (IsThere (view_count vs)) (items_of z)) (sym qm) b) ∙ (λ i. recorded_pair vs x (rn i) (qm i)))

-- ---- one view more

pub pairs-step : (f : ℕ × (ℕ × ℕ) → Option (ℕ × (Entry × Entry))) (xs : List SharedView) (i : ℕ) (x : SharedView) (out new total : List (ℕ × (Entry × Entry))) (found : Option (ℕ × (Entry × Entry))) → i < length xs → x ≡ slice_index_or xs i x
    → out ++ filter_map f (map shared_seen (drop i xs)) ≡ total → new ≡ out ++ cons_option found [] → found ≡ f (shared_seen x) → new ++ filter_map f (map shared_seen (drop (i + 1) xs)) ≡ total
pairs-step f xs i x out new total found lt is before more same =
    let rest : List (ℕ × (Entry × Entry)) = filter_map f (map shared_seen (drop (i + 1) xs)) in
    ap (λ zs. zs ++ rest) more
    ∙ append_assoc out (cons_option found []) rest
    ∙ ap (λ zs. out ++ zs) (consed found rest)
    ∙ ap (λ o. out ++ cons_option o rest) same
    ∙ ap (λ (y : SharedView). out ++ cons_option (f (shared_seen y)) rest) is
    ∙ ap (λ (ys : List SharedView). out ++ filter_map f (map shared_seen ys)) (sym (drop_more xs i x lt))
    ∙ before
  where
    consed : (o : Option (ℕ × (Entry × Entry))) (rest : List (ℕ × (Entry × Entry))) → cons_option o [] ++ rest ≡ cons_option o rest
    consed None rest = refl
    consed (Some y) rest = refl

got-self : {A : Type 0} (xs : List A) (k : ℕ) (d : A) → slice_index_or xs k d ≡ slice_index_or xs k (slice_index_or xs k d)
got-self [] k d = refl
got-self (x ∷ xs) zero d = refl
got-self (x ∷ xs) (suc k) d = got-self xs k d

-- the same of the view at a place
pub pairs-step-at : (f : ℕ × (ℕ × ℕ) → Option (ℕ × (Entry × Entry))) (xs : List SharedView) (i : ℕ) (d : SharedView) (out new total : List (ℕ × (Entry × Entry))) (found : Option (ℕ × (Entry × Entry))) → i < length xs
    → out ++ filter_map f (map shared_seen (drop i xs)) ≡ total → new ≡ out ++ cons_option found [] → found ≡ f (shared_seen (slice_index_or xs i d)) → new ++ filter_map f (map shared_seen (drop (i + 1) xs)) ≡ total
pairs-step-at f xs i d out new total found lt before more same = pairs-step f xs i (slice_index_or xs i d) out new total found lt (got-self xs i d) before more same

pub put-seen : (pairs : List ItemPair) (o : Option ItemPair) → map pair_seen (pairs ++ cons_option o []) ≡ map pair_seen pairs ++ cons_option (option_map pair_seen o) []
put-seen pairs None = map-append pair_seen pairs []
put-seen pairs (Some x) = map-append pair_seen pairs (x ∷ [])

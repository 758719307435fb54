-- The marks of a frame's recordings are just those of its items.
use Rattle.std.proofs.Common.{◌≡◌, ℕ, ◌+◌, inl, inr, Bool, true, false, cond, List, [], ◌∷◌, flat_map, slice_get, Some, refl, sym, ap, subst, ◌∙◌, arith}
use Rattle.std.specs.List.{AllByRecursion}
use Rattle.gfx_model.specs.Views.{Views, view_count}
use Rattle.gfx_model.specs.World.{Item}
use Rattle.scene_model.specs.Scene.{Scene}
use Rattle.scene_model.specs.Fold.{Accepted, FramePlan, plans}
use Rattle.scene_model.specs.Journal.{Tagged, tagged_from}
use Rattle.shared_keys.specs.declared.marks.Mark.{Mark}
use Rattle.shared_keys.specs.Laws.{ThereLaw}
use Rattle.shared_keys.specs.Marks.{can_clash, mark_of, AreMarksOf, IsThere}
use Rattle.shared_keys.specs.Members.{In}
use Rattle.shared_keys.proofs.Members.{member-has, member-left, member-right, member-of-both}
use Rattle.shared_keys.proofs.Clashes.{of-tagged, to-tagged, member-at}
use Rattle.draw_encoder.specs.declared.items.Recording.{Recording}
use Rattle.draw_encoder.specs.Bundles.{items_of}
use Rattle.recorded_keys.specs.Recorded.{marks_of_item, marks_of_items, marks_of, HasPlan, ArePlanned}

member-flat : {A B : Type 0} (f : A → List B) (xs : List A) (x : A) (y : B) → In x xs → In y (f x) → In y (flat_map f xs)
member-flat f [] x y i j = absurd i
member-flat {A} {B} f (z ∷ xs) x y (inl e) j = member-left y (f z) (flat_map f xs) (subst (λ (w : A). In y (f w)) e j)
member-flat f (z ∷ xs) x y (inr i) j = member-right y (f z) (flat_map f xs) (member-flat f xs x y i j)

of-flat : {A B : Type 0} (f : A → List B) (xs : List A) (y : B) → In y (flat_map f xs) → (x : A) × In x xs × In y (f x)
of-flat f [] y i = absurd i
of-flat f (z ∷ xs) y i = elim (member-of-both y (f z) (flat_map f xs) i) [
  | inl j ↦ (z, inl refl, j)
  | inr j ↦ let later = of-flat f xs y j in (later.0, inr later.1, later.2)
]

item-there : (vs : Views) (e : ℕ) (i : Item) → can_clash i ≡ true → In (mark_of vs (record { encoder = e; item = i })) (marks_of_item vs e i)
item-there vs e i c = go (can_clash i) c
  where
    go : (b : Bool) → b ≡ true → In (mark_of vs (record { encoder = e; item = i })) (cond b (mark_of vs (record { encoder = e; item = i }) ∷ []) [])
    go true c = inl refl
    go false c = absurd (cc c)

of-item : (vs : Views) (e : ℕ) (i : Item) (m : Mark) → In m (marks_of_item vs e i) → (can_clash i ≡ true) × (m ≡ mark_of vs (record { encoder = e; item = i }))
of-item vs e i m h = go (can_clash i) refl h
  where
    go : (b : Bool) → can_clash i ≡ b → In m (cond b (mark_of vs (record { encoder = e; item = i }) ∷ []) []) → (can_clash i ≡ true) × (m ≡ mark_of vs (record { encoder = e; item = i }))
    go true c (inl is) = (c, is)
    go true c (inr j) = absurd j
    go false c j = absurd j

some-same : (a b : Accepted) → Some a ≡ Some b → a ≡ b
some-same a b e = cc e

has-mark : (p : FramePlan) (rs : List Recording) → ArePlanned p rs → (t : Tagged) → In t (tagged_from 0 p.encoders) → can_clash t.item ≡ true → In (mark_of p.views t) (marks_of p.views rs)
has-mark p rs h t i c =
    let o = of-tagged 0 p.encoders t i in
    let found = h.all o.place o.accepted o.there in
    let r = found.0 in
    let plan = member-has (HasPlan p) rs r h.each found.1 in
    let same : plan.0 ≡ o.accepted = some-same plan.0 o.accepted (sym plan.1 ∙ ap (slice_get p.encoders) found.2 ∙ o.there) in
    let own : In t.item (items_of r) = subst (λ (is : List Item). In t.item is) (sym (plan.2 ∙ ap (λ (a : Accepted). a.items) same)) o.item in
    let encoder : r.encoder ≡ t.encoder = found.2 ∙ (let e : o.place ≡ 0 + o.place = omega arith in e) ∙ sym o.own in
    member-flat (λ (r : Recording). marks_of_items p.views r.encoder (items_of r)) rs r (mark_of p.views t) found.1
    (member-flat (marks_of_item p.views r.encoder) (items_of r) t.item (mark_of p.views t) own
    (subst (λ (n : ℕ). In (mark_of p.views (record { encoder = n; item = t.item })) (marks_of_item p.views r.encoder t.item)) encoder (item-there p.views r.encoder t.item c)))

of-mark : (p : FramePlan) (rs : List Recording) → ArePlanned p rs → (m : Mark) → In m (marks_of p.views rs) → (t : Tagged) × In t (tagged_from 0 p.encoders) × (can_clash t.item ≡ true) × (m ≡ mark_of p.views t)
of-mark p rs h m i =
    let one = of-flat (λ (r : Recording). marks_of_items p.views r.encoder (items_of r)) rs m i in
    let r = one.0 in
    let two = of-flat (marks_of_item p.views r.encoder) (items_of r) m one.2 in
    let told = of-item p.views r.encoder two.0 m two.2 in
    let plan = member-has (HasPlan p) rs r h.each one.1 in
    let t : Tagged = record { encoder = r.encoder; item = two.0 } in
    let zero_plus : 0 + r.encoder ≡ r.encoder = omega arith in
    let there : In t (tagged_from 0 p.encoders) = subst (λ (n : ℕ). In {A = Tagged} (record { encoder = n; item = two.0 }) (tagged_from 0 p.encoders)) zero_plus
    (to-tagged 0 p.encoders r.encoder plan.0 two.0 plan.1 (subst (λ (is : List Item). In two.0 is) plan.2 two.1)) in
    (t, there, told.0, told.1)

pub planned-marks : (p : FramePlan) (rs : List Recording) → ArePlanned p rs → AreMarksOf p (marks_of p.views rs)
planned-marks p rs h = record { has = has-mark p rs h; of = of-mark p rs h }

all-planned : (p : FramePlan) (rs : List Recording) → AllByRecursion (λ a. AllByRecursion (IsThere (view_count p.views)) a.items) p.encoders → AllByRecursion (HasPlan p) rs
    → AllByRecursion (λ r. AllByRecursion (IsThere (view_count p.views)) (items_of r)) rs
all-planned p [] all each = tt
all-planned p (r ∷ rs) all each =
    let plan = each.0 in (
      subst (λ (is : List Item). AllByRecursion (IsThere (view_count p.views)) is) (sym plan.2) (member-has (λ a. AllByRecursion (IsThere (view_count p.views)) a.items) p.encoders plan.0 all (member-at p.encoders r.encoder plan.0 plan.1)),
      all-planned p rs all each.1,
    )

pub all-there : ThereLaw → (s : Scene) (k : ℕ) (p : FramePlan) (rs : List Recording) → slice_get (plans s) k ≡ Some p → ArePlanned p rs → AllByRecursion (λ r. AllByRecursion (IsThere (view_count p.views)) (items_of r)) rs
all-there law s k p rs e h = all-planned p rs (law s k p e) h.each

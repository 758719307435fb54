-- Where each shared view is harmless, so is the scene.
use Rattle.std.proofs.Common.{◌≡◌, ◌∙◌, ℕ, zero, suc, ◌+◌, ◌<◌, ◌≤◌, inl, inr, Bool, true, false, not, ◌==◌, List, [], ◌∷◌, length, map, filter_map, Option, Some, None, option_map, slice_get, refl, sym, ap, subst, arith}
use Rattle.std.specs.List.{AllByRecursion, range_with_len}
use Rattle.std.proofs.lemmas.Bool.{cases_order}
use Rattle.gfx_model.specs.Views.{view_at, view_count}
use Rattle.gfx_model.specs.World.{World, Item, begin_frame, frame_step, first_world, view_of_item}
use Rattle.scene_model.specs.Scene.{Scene}
use Rattle.scene_model.specs.Fold.{Accepted, FramePlan, plans}
use Rattle.scene_model.specs.Journal.{Entry, Journal, IsLawful, Tagged, tagged_from, item_of, frame_content, share_key, pictures}
use Rattle.shared_keys.specs.Members.{In}
use Rattle.shared_keys.specs.Marks.{IsThere}
use Rattle.shared_keys.specs.Pairs.{Sharing, least_pair}
use Rattle.shared_keys.specs.Lines.{encoders_share, shared_views}
use Rattle.shared_keys.proofs.Members.{member-has}
use Rattle.shared_keys.proofs.There.{all-there}
use Rattle.shared_keys.proofs.Clashes.{of-tagged, to-tagged, to-encoders, share-told, member-at, at-below, member-filter_map}
use Rattle.shared_keys.proofs.NoLine.{share-turned, pair-found}
use Rattle.cover_laws.specs.Covered.{MayPass, IsHarmlessFrame}
use Rattle.cover_laws.specs.Laws.{AreHarmless, BareLaw}
use Rattle.bare_worlds.specs.Bare.{bare_from, bare_worlds}
use Rattle.bare_worlds.specs.Views.{IsHarmlessView}
use Rattle.bare_worlds.specs.Laws.{HarmlessLaw}

self-test : (m n : ℕ) → m ≡ n → (m == n) ≡ true
self-test m n e = grind (arith, e)

same-from-test : (m n : ℕ) → (m == n) ≡ true → m ≡ n
same-from-test m n e = grind (arith, e)

other : (b : Bool) → b ≡ true → not b ≡ true → ⊥
other b e f = cc (sym f ∙ ap not e)

-- ---- the view of two items that share a key is listed

in-range : (low n v : ℕ) → low ≤ v → v < low + n → In v (range_with_len low n)
in-range low zero v l h = absurd (omega (arith, l, h))
in-range low (suc n) v l h = elim (cases_order low v) [
  | inl same ↦ inl (sym same)
  | inr (inl less) ↦ inr (in-range (low + 1) n v (omega (arith, less)) (omega (arith, h)))
  | inr (inr more) ↦ absurd (omega (arith, l, more))
]

abbrev EncodersThere : FramePlan → Type 0
EncodersThere p = AllByRecursion (λ a. AllByRecursion (IsThere (view_count p.views)) a.items) p.encoders

abbrev Listed : FramePlan → ℕ → Type 0
Listed p v = (z : ℕ × (ℕ × ℕ)) × In z (shared_views p) × (z.0 ≡ v)

module _ (p : FramePlan) (all : EncodersThere p) where
  items : List Tagged
  items = tagged_from 0 p.encoders

  below : (t : Tagged) → In t (tagged_from 0 p.encoders) → t.encoder < length p.encoders
  below t i = let o = of-tagged 0 p.encoders t i in let l = at-below p.encoders o.place o.accepted o.there in let e = o.own in omega (arith, e, l)

  in-order : (x y : Tagged) → In x (tagged_from 0 p.encoders) → In y (tagged_from 0 p.encoders) → share_key p.views x y ≡ true → x.encoder < y.encoder → Listed p (view_of_item x.item)
  in-order x y i j s l =
      let o = of-tagged 0 p.encoders x i in
      let fits : AllByRecursion (IsThere (view_count p.views)) o.accepted.items = member-has (λ a. AllByRecursion (IsThere (view_count p.views)) a.items) p.encoders o.accepted all (member-at p.encoders o.place o.accepted o.there) in
      let low = (member-has (IsThere (view_count p.views)) o.accepted.items x.item fits o.item).0 in
      go low (least_pair share (length p.encoders) v) refl
    where
      v : ℕ
      v = view_of_item x.item

      share : Sharing
      share = encoders_share p.views (tagged_from 0 p.encoders)

      with-view : ℕ → ℕ × ℕ → ℕ × (ℕ × ℕ)
      with-view n y = (n, y)

      go : v < view_count p.views → (o : Option (ℕ × ℕ)) → least_pair share (length p.encoders) v ≡ o → Listed p v
      go low None e = absurd (pair-found share (length p.encoders) v x.encoder y.encoder l (below y j) (to-encoders p.views (tagged_from 0 p.encoders) v x.encoder y.encoder x y (i, j, refl, refl, refl, s)) e)
      go low (Some z) e =
          (with-view v z, member-filter_map (λ n. option_map (with-view n) (least_pair share (length p.encoders) n)) (range_with_len 0 (view_count p.views)) v (with-view v z) (in-range 0 (view_count p.views) v (omega arith) (omega (arith, low))) (ap (option_map (with-view v)) e), refl)

  either-order : (x y : Tagged) → In x (tagged_from 0 p.encoders) → In y (tagged_from 0 p.encoders) → share_key p.views x y ≡ true → Listed p (view_of_item x.item)
  either-order x y i j s =
      let told = share-told p.views x y s in
      elim (cases_order x.encoder y.encoder) [
        | inl same ↦ absurd (other (x.encoder == y.encoder) (self-test x.encoder y.encoder same) told.0)
        | inr (inl less) ↦ in-order x y i j s less
        | inr (inr more) ↦ let z = in-order y x j i (share-turned p.views x y s) more in (z.0, z.1, z.2 ∙ sym (same-from-test (view_of_item x.item) (view_of_item y.item) told.1))
      ]

-- ---- an item of an entry is among the frame's

tagged-in : (encoders : List Accepted) (n : Entry) (i : Item) → item_of encoders n ≡ Some i → In {A = Tagged} (record { encoder = n.encoder; item = i }) (tagged_from 0 encoders)
tagged-in encoders n i is = go (slice_get encoders n.encoder) refl is
  where
    start : 0 + n.encoder ≡ n.encoder
    start = omega arith

    go : (o : Option Accepted) → slice_get encoders n.encoder ≡ o → Rattle.std.specs.Prelude.option_and_then (λ a. slice_get a.items n.ordinal) o ≡ Some i → In {A = Tagged} (record { encoder = n.encoder; item = i }) (tagged_from 0 encoders)
    go None at e = absurd (cc e)
    go (Some a) at e = subst (λ (k : ℕ). In {A = Tagged} (record { encoder = k; item = i }) (tagged_from 0 encoders)) start (to-tagged 0 encoders n.encoder a i at (member-at a.items n.ordinal i e))

-- ---- one frame

frame-harmless : (w : World) (p : FramePlan) → EncodersThere p → ((x : ℕ × (ℕ × ℕ)) → In x (shared_views p) → IsHarmlessView w p x.0) → IsHarmlessFrame w p
frame-harmless w p all views m n i j at bt share =
    let x : Tagged = record { encoder = m.encoder; item = i } in
    let y : Tagged = record { encoder = n.encoder; item = j } in
    let z = either-order p all x y (tagged-in p.encoders m i at) (tagged-in p.encoders n j bt) share in
    subst (λ (v : ℕ). MayPass w (view_at p.views v) i j) z.2 (views z.0 z.1 m n i j at bt (sym z.2) share)

-- ---- all frames

frames-harmless : (ps : List FramePlan) (w : World) → ((n : ℕ) (p : FramePlan) (u : World) → slice_get ps n ≡ Some p → slice_get (bare_from w ps) n ≡ Some u → IsHarmlessFrame u p) → AreHarmless w ps (map (λ p. []) ps)
frames-harmless [] w h = tt
frames-harmless (p ∷ ps) w h = (h 0 p (begin_frame p.gone p.changes w) refl refl, frames-harmless ps (frame_step w (frame_content p [])) (λ n q u a b. h (suc n) q u a b))

all-get : {A : Type 0} (P : A → Type 0) (xs : List A) (i : ℕ) (r : A) → slice_get xs i ≡ Some r → AllByRecursion P xs → P r
all-get P [] i r e a = cc e
all-get P (x ∷ xs) zero r e a = let same : x ≡ r = cc e in subst P same a.0
all-get P (x ∷ xs) (suc i) r e a = all-get P xs i r e a.1

pub harmless-law : BareLaw → HarmlessLaw
harmless-law law s j k views lj lk =
    law s j k
    (frames-harmless (plans s) (first_world s.width s.height)
    (λ n p u a b. frame-harmless u p (all-get EncodersThere (plans s) n p a (all-there s)) (λ x i. views n p u x a b i)))
    lj lk

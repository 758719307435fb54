-- The textures of a frame buffer that can be named can be named.
use Rattle.std.proofs.Common.{◌≡◌, ℕ, suc, zero, ◌<◌, ◌≤◌, ◌==◌, ◌&&◌, nat_le, Bool, true, false, if◌then◌else◌, IsTrue, List, [], ◌∷◌, map, Option, Some, None, refl, sym, ap, ◌∙◌, subst, arith, eq-eqb}
use Rattle.std.proofs.lemmas.Bool.{leb-true, le-leb, eqb-true}
use Rattle.std.proofs.lemmas.Option.{same_Some, none-some}
use Rattle.std.specs.List.{find}
use Rattle.gfx_model.specs.Words.{Handle, kind_number, greatest, place_of_handle}
use Rattle.gfx_model.specs.World.{Content, layout_content, vertex_content, index_content, texture_content, frame_buffer_content, program_content, uniform_content}
use Rattle.gfx_model.specs.Resources.{Thing, Resources, is_at}
use Rattle.schedule_model.specs.Machine.{Place, place_at, has_usable}
use Rattle.resource_laws.specs.Bare.{bare}
use Rattle.resource_laws.specs.Lawful.{count_where, outlives, is_texture_until, HasTextureUntil, Holds, IsLawful}
use Rattle.resource_laws.proofs.DeathLaws.{found_true, by_serial, has_serial}
use Rattle.resource_laws.proofs.LiveLaws.{all_found, count_found}
use Rattle.context_core.specs.Places.{place_by, place_of, IsPlaced, IsUsable}
use Rattle.context_core.specs.Laws.{HasUsableTexture, HoldsUsable, AttachedLaw}
use Rattle.context_core.proofs.ItemLaws.{both}
use Rattle.context_core.proofs.Targets.{index_below}
use Rattle.context_core.proofs.Tied.{found_bare, itself}

-- ---- what is found

some_step : (p : Thing → Bool) (x : Thing) (xs : List Thing) (b : Bool) → p x ≡ b → (1 ≤ count_where p xs → (t : Thing) × (find p xs ≡ Some t)) → 1 ≤ count_where p (x ∷ xs) → (t : Thing) × (find p (x ∷ xs) ≡ Some t)
some_step p x xs true e g le = (x, ap (λ c. if c then Some x else find p xs) e)
some_step p x xs false e g le =
    let z : (if p x then 1 else 0) ≡ zero = ap (λ c. if c then 1 else zero) e in
    let h = g (omega (arith, le, z)) in
    (h.0, ap (λ c. if c then Some x else find p xs) e ∙ h.1)

-- what is counted is found
some_found : (p : Thing → Bool) (ts : List Thing) → 1 ≤ count_where p ts → (t : Thing) × (find p ts ≡ Some t)
some_found p [] le = absurd (omega (arith, le))
some_found p (x ∷ xs) le = some_step p x xs (p x) refl (some_found p xs) le

only_step : (p q : Thing → Bool) (x : Thing) (xs : List Thing) (t : Thing) (b c : Bool) → p x ≡ b → q x ≡ c → q t ≡ true → count_where q (x ∷ xs) ≤ 1 → (find p xs ≡ Some t → count_where q xs ≤ 1 → find q xs ≡ Some t)
    → (if b then Some x else find p xs) ≡ Some t → find q (x ∷ xs) ≡ Some t
only_step p q x xs t true c px qx h le g e = ap (λ d. if d then Some x else find q xs) (ap q (same_Some x t e) ∙ h) ∙ e
only_step p q x xs t false true px qx h le g e =
    let one : (if q x then 1 else 0) ≡ suc zero = ap (λ d. if d then 1 else 0) qx in
    let more = count_found p q xs t h e in
    absurd (omega (arith, one, more, le))
only_step p q x xs t false false px qx h le g e = ap (λ d. if d then Some x else find q xs) qx ∙ g e (omega (arith, le))

-- what is found by one test is found by another that holds of one thing at most, and of it
only_found : (p q : Thing → Bool) (ts : List Thing) (t : Thing) → find p ts ≡ Some t → q t ≡ true → count_where q ts ≤ 1 → find q ts ≡ Some t
only_found p q [] t e h le = absurd (none-some t e)
only_found p q (x ∷ xs) t e h le = only_step p q x xs t (p x) (q x) refl refl h le (λ e m. only_found p q xs t e h m) e

-- ---- deaths

-- what can be named in a frame is outlived by what can be named in it
lasts : (frame n serial m : ℕ) (o p : Option ℕ) → IsTrue (has_usable frame serial (place_by n o)) → outlives o p ≡ true → IsTrue (has_usable frame m (place_by m p))
lasts frame n serial m o None u e = eq-eqb m m refl
lasts frame n serial m None (Some d) u e = absurd cc
lasts frame n serial m (Some f) (Some d) u e =
    let b = both (n == serial) (nat_le frame f) u in
    let first = leb-true frame f b.1 in
    let second = leb-true f d e in
    λ j. eq-eqb m m refl j && le-leb frame d (omega (arith, first, second)) j

module _ (r : Resources) (l : IsLawful r) (places : List Place) (placed : IsPlaced places (map bare r.things)) where
  -- the place of a thing that is found
  place_is : (h : Handle) (t : Thing) → find (is_at h.kind h.index) r.things ≡ Some t → place_at places (place_of_handle h) ≡ place_by t.handle.serial t.death
  place_is h t e =
      let below : t.handle.index < greatest t.handle.kind = all_found (λ u. u.handle.index < greatest u.handle.kind) (is_at h.kind h.index) r.things t l.fits e in
      placed h.kind h.index (index_below r.things h t e below) ∙ found_bare (is_at h.kind h.index) (λ u. refl) r.things ∙ ap place_of e

  module _ (frame : ℕ) (h : Handle) (t : Thing) (e : find (is_at h.kind h.index) r.things ≡ Some t) (u : IsUsable frame places h) where
    texture : (serial : ℕ) → HasTextureUntil r.things t.death serial → HasUsableTexture frame places r.things serial
    texture serial has =
        let some = some_found (is_texture_until t.death serial) r.things has in
        let x : Thing = some.0 in
        let true_of = found_true (is_texture_until t.death serial) r.things x some.1 in
        let parts = both (outlives t.death x.death && (kind_number x.handle.kind == 3)) (x.handle.serial == serial) true_of in
        let first = both (outlives t.death x.death) (kind_number x.handle.kind == 3) parts.0 in
        let same : x.handle.serial ≡ serial = eqb-true x.handle.serial serial parts.1 in
        let found : find (has_serial x.handle.serial) r.things ≡ Some x = by_serial 0 (is_texture_until t.death serial) r.things x l.rises some.1 in
        let below : x.handle.index < greatest x.handle.kind = all_found (λ y. y.handle.index < greatest y.handle.kind) (is_texture_until t.death serial) r.things x l.fits some.1 in
        let alone = l.once x.handle.kind x.handle.index below in
        let at : find (is_at x.handle.kind x.handle.index) r.things ≡ Some x = only_found (has_serial x.handle.serial) (is_at x.handle.kind x.handle.index) r.things x found (itself x) (omega (arith, alone)) in
        let usable = lasts frame t.handle.serial h.serial x.handle.serial t.death x.death (subst (λ (p : Place). IsTrue (has_usable frame h.serial p)) (place_is h t e) u) first.0 in
        (x, record { found = subst (λ (n : ℕ). find (has_serial n) r.things ≡ Some x) same found; kind = first.1; usable = subst (λ (p : Place). IsTrue (has_usable frame x.handle.serial p)) (sym (place_is x.handle x at)) usable })

    textures : (c : Content) → Holds r.things t.death c → HoldsUsable frame places r.things c
    textures (layout_content x) has = tt
    textures (vertex_content x bytes) has = tt
    textures (index_content bytes) has = tt
    textures (texture_content f x) has = tt
    textures (frame_buffer_content color None) has = (texture color has.0, tt)
    textures (frame_buffer_content color (Some depth)) has = (texture color has.0, texture depth has.1)
    textures (program_content k) has = tt
    textures (uniform_content name v) has = tt

    pub attached : HoldsUsable frame places r.things t.content
    attached = textures t.content (all_found (λ x. Holds r.things x.death x.content) (is_at h.kind h.index) r.things t l.attached e)

pub attached_law : AttachedLaw
attached_law seat r t l frame h x e u = attached r l seat.places t.placed frame h x e u

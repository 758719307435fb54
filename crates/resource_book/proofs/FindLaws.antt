use Rattle.std.proofs.Common.{◌≡◌, ℕ, ◌<◌, ◌≤◌, ◌==◌, true, List, length, refl, sym, ap, ◌∙◌, arith, slice_index_or, Option, Some, None, subst}
use Rattle.std.specs.List.{find}
use Rattle.std.proofs.lemmas.Bool.{eqb-true}
use Rattle.gfx_model.specs.Words.{Handle, Kind, is_live_in, kind_number, greatest}
use Rattle.gfx_model.specs.Resources.{Thing, is_at, word_of_thing}
use Rattle.resource_laws.proofs.AttachLaws.{all_found}
use Rattle.resource_book.specs.Answered.{HasLiveThing}
use Rattle.resource_book.specs.Tables.{StandApart}
use Rattle.resource_book.proofs.Apartness.{both_true}
use Rattle.resource_book.proofs.Rooms.{found_true, same_greatest}

-- ---- the thing of a handle

pub found_at : (h : Handle) (k : Kind) (i : ℕ) (ts : List Thing) (n : ℕ) (t : Thing) → k ≡ h.kind → i ≡ h.index → ((d : Thing) → find (is_at k i) ts ≡ Some (slice_index_or ts n d)) → ((d : Thing) → t ≡ slice_index_or ts n d)
    → find (is_at h.kind h.index) ts ≡ Some t
found_at h k i ts n t ek ei f is = (λ j. find (is_at (sym ek j) (sym ei j)) ts) ∙ f t ∙ ap Some (sym (is t))

pub word_found : (h : Handle) (k : Kind) (i : ℕ) (ts : List Thing) (n : ℕ) (t : Thing) → k ≡ h.kind → i ≡ h.index → ((d : Thing) → find (is_at k i) ts ≡ Some (slice_index_or ts n d)) → ((d : Thing) → t ≡ slice_index_or ts n d)
    → word_of_thing (Some t) ≡ word_of_thing (find (is_at h.kind h.index) ts)
word_found h k i ts n t ek ei f is = ap word_of_thing (sym (found_at h k i ts n t ek ei f is))

pub live_found : (h : Handle) (k : Kind) (i : ℕ) (ts : List Thing) (n : ℕ) (t : Thing) → k ≡ h.kind → i ≡ h.index → (n < length ts) × ((d : Thing) → find (is_at k i) ts ≡ Some (slice_index_or ts n d)) → ((d : Thing) → t ≡ slice_index_or ts n d)
    → is_live_in (word_of_thing (Some t)) h.serial ≡ true → t.handle.serial ≡ h.serial → t.death ≡ None
    → (n < length ts) × ((d : Thing) → HasLiveThing h ts (slice_index_or ts n d)) × (is_live_in (word_of_thing (find (is_at h.kind h.index) ts)) h.serial ≡ true)
live_found h k i ts n t ek ei f is live serial lives = (
  f.0,
  (λ d. subst (HasLiveThing h ts) (is d) (record { found = found_at h k i ts n t ek ei f.1 is; serial = serial; lives = lives })),
  ap (λ w. is_live_in w h.serial) (sym (word_found h k i ts n t ek ei f.1 is)) ∙ live,
)

-- ---- indices past the kind's

-- nothing stands at an index that is not below the kind's greatest number
pub none_past : (k : Kind) (i : ℕ) (ts : List Thing) → StandApart ts → greatest k ≤ i → find (is_at k i) ts ≡ None
none_past k i ts apart le = by (find (is_at k i) ts) refl where
  by : (o : Option Thing) → find (is_at k i) ts ≡ o → find (is_at k i) ts ≡ None
  by None e = e
  by (Some t) e =
      let at = both_true (kind_number t.handle.kind == kind_number k) (t.handle.index == i) (found_true (is_at k i) ts t e) in
      let kinds = same_greatest t.handle.kind k (eqb-true (kind_number t.handle.kind) (kind_number k) at.0) in
      let index = eqb-true t.handle.index i at.1 in
      let below = all_found (λ u. u.handle.index < greatest u.handle.kind) (is_at k i) ts t apart.fits e in
      absurd (omega (arith, le, kinds, index, below))

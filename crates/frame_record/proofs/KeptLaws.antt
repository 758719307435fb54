-- What frames keep.
use mathlib.Core.HLevel.{¬_prop}
use Rattle.std.proofs.Math.Logic.{∥∥₁_elim}
use Rattle.std.specs.Coded.{Coded, Coded-set, coded_ℕ, coded×, coded_list, code_by, le_prop, Unit-prop, Π_prop, ×_prop}
use Rattle.std.proofs.Common.{◌≡◌, ◌≢◌, ℕ, suc, ◌≤◌, Bool, true, false, cond, nat_le, List, [], ◌∷◌, length, map, refl, ap, ◌∙◌, arith}
use Rattle.std.specs.List.{flat_map, AllByRecursion}
use Rattle.std.proofs.lemmas.List.{length-append, length-map}
use Rattle.gfx_model.specs.Frames as model
use Rattle.gfx_model.specs.Frames.{numbered_entries, collected, AreOfOwnEncoders, NumbersAscend}
use Rattle.gfx_model.specs.World.{Numbered, insert_by_key, sorted_by_key}
use Rattle.schedule_model.specs.Held.{Ascends}
use Rattle.draw_encoder.specs.declared.items.Item.{Item}
use Rattle.draw_encoder.specs.declared.items.Recording.{Recording}
use Rattle.draw_encoder.specs.Seen.{number_of, numbers_of}
use Rattle.gfx_words.specs.declared.journal.JournalEntry.{JournalEntry}
use Rattle.frame_record.specs.Kept.{most_frame_items, numbers_in, IsKept}
use Rattle.frame_record.specs.Seen.{entry_seen, numbered_seen, recorded_seen, recordings_seen}
use Rattle.frame_record.proofs.EntryLaws.{length_entries}

-- ---- how many

length_insert : (x : ℕ × model.Entry) (xs : List (ℕ × model.Entry)) → length (insert_by_key x xs) ≡ suc (length xs)
length_insert x [] = refl
length_insert x (y ∷ ys) = go (nat_le x.0 y.0) (length_insert x ys)
  where
    go : (b : Bool) → length (insert_by_key x ys) ≡ suc (length ys) → length (cond b (x ∷ y ∷ ys) (y ∷ insert_by_key x ys)) ≡ suc (suc (length ys))
    go true e = refl
    go false e = ap suc e

length_sorted : (xs : List (ℕ × model.Entry)) → length (sorted_by_key xs) ≡ length xs
length_sorted [] = refl
length_sorted (x ∷ xs) = length_insert x (sorted_by_key xs) ∙ ap suc (length_sorted xs)

length_flat : (rs : List Recording) → length (flat_map numbered_entries (recordings_seen rs)) ≡ length (numbers_in rs)
length_flat [] = refl
length_flat (r ∷ rs) =
    let rest = length_flat rs in
    let a = length-append (numbered_entries (recorded_seen r)) (flat_map numbered_entries (recordings_seen rs)) in
    let b = length-append (numbers_of r.items) (numbers_in rs) in
    let c = length_entries r in
    let d = length-map r.items number_of in
    omega (arith, rest, a, b, c, d)

-- the journal has as many entries as there are items
pub few_entries : (rs : List Recording) (es : List JournalEntry) → IsKept rs es → length es ≤ most_frame_items
few_entries rs es k =
    let all : List (ℕ × model.Entry) = flat_map numbered_entries (recordings_seen rs) in
    let a = length-map es entry_seen in
    let b = ap length k.journal in
    let c = length-map (sorted_by_key all) (λ (x : ℕ × model.Entry). x.1) in
    let d = length_sorted all in
    let e = length_flat rs in
    let f = k.few in
    omega (arith, a, b, c, d, e, f)

-- ---- numbers that ascend

ascend_from : (r : Recording) (low : ℕ) (x : Item) (items : List Item) → low ≤ number_of x → Ascends (numbers_of (x ∷ items)) → NumbersAscend low (map (numbered_seen r) (x ∷ items))
ascend_from r low x [] h a = (h, tt)
ascend_from r low x (y ∷ items) h a = (h, ascend_from r (number_of x) y items (omega (arith, a.0)) a.1)

ascend_items : (r : Recording) (items : List Item) → Ascends (numbers_of items) → NumbersAscend 0 (map (numbered_seen r) items)
ascend_items r [] a = tt
ascend_items r (x ∷ items) a = ascend_from r 0 x items (omega arith) a

-- a bundle's numbers ascend as the definitions say it
pub all_ascend : (rs : List Recording) → AllByRecursion (λ r. Ascends (numbers_of r.items)) rs → AllByRecursion (λ r. NumbersAscend 0 r.items) (recordings_seen rs)
all_ascend [] a = tt
all_ascend (r ∷ rs) a = (ascend_items r r.items a.0, all_ascend rs a.1)

-- ---- in one way

all_prop : {A : Type 0} (P : A → Type 0) → ((x : A) → IsProp (P x)) → (xs : List A) → IsProp (AllByRecursion P xs)
all_prop P one [] = Unit-prop
all_prop P one (x ∷ xs) = ×_prop (one x) (all_prop P one xs)

ascend_prop : (low : ℕ) (items : List Numbered) → IsProp (NumbersAscend low items)
ascend_prop low [] = Unit-prop
ascend_prop low (i ∷ items) = ×_prop le_prop (ascend_prop i.number items)

own_prop : (rs : List model.Recorded) → IsProp (AreOfOwnEncoders rs)
own_prop [] = Unit-prop
own_prop (r ∷ rs) = ×_prop (all_prop (λ x. x.encoder ≢ r.encoder) (λ x. ¬_prop) rs) (own_prop rs)

entry_coded : Coded model.Entry
entry_coded = code_by (ℕ × ℕ) (coded× coded_ℕ coded_ℕ) (λ e. (e.encoder, e.ordinal)) (λ p. record { encoder = p.0; ordinal = p.1 }) (λ e. refl)

IsKept-prop : (rs : List Recording) (entries : List JournalEntry) → IsProp (IsKept rs entries)
IsKept-prop rs entries a b = λ i. record {
  few = le_prop a.few b.few i;
  apart = Π_prop (λ n. le_prop) a.apart b.apart i;
  own = own_prop (recordings_seen rs) a.own b.own i;
  ascend = all_prop (λ r. NumbersAscend 0 r.items) (λ r. ascend_prop 0 r.items) (recordings_seen rs) a.ascend b.ascend i;
  journal = Coded-set (coded_list entry_coded) (map entry_seen entries) (collected (recordings_seen rs)) a.journal b.journal i;
}

-- a frame keeps it in one way, so what its type keeps of it is it
pub kept_of : (rs : List Recording) (es : List JournalEntry) → ∥ IsKept rs es ∥₁ → IsKept rs es
kept_of rs es k = ∥∥₁_elim k (IsKept-prop rs es) (λ x. x)

-- The journal of a frame's recordings is lawful, and names the same items.
use Rattle.std.proofs.Common.{◌≡◌, ℕ, zero, suc, ◌+◌, ◌<◌, ◌≤◌, ◌==◌, Bool, true, false, if◌then◌else◌, List, [], ◌∷◌, ◌++◌, map, length, Option, Some, None, refl, sym, ap, ◌∙◌, subst, arith}
use Rattle.std.specs.Prelude.{filter_map, flat_map, option_map, option_and_then, slice_get}
use Rattle.std.specs.List.{AllByRecursion, range_with_len, cons_option}
use Rattle.std.proofs.lemmas.Bool.{eqb-true}
use Rattle.gfx_model.specs.World.{Item, Numbered, sorted_by_key}
use Rattle.gfx_model.specs.Frames.{Entry, Recorded, numbered_from, numbered_entries, ordinals_of, collected, items_by, item_of_entry}
use Rattle.gfx_model.proofs.FrameLaws.{collected_once, sorted_all}
use Rattle.scene_model.specs.Fold.{Accepted, FramePlan}
use Rattle.scene_model.specs.Journal.{HasInOrder, AreBelow, IsLawfulFrame, item_of}
use Rattle.scene_model.specs.Recordings.{HasRecorded, AreRecordings}

map_length : {A B : Type 0} (f : A → B) (xs : List A) → length (map f xs) ≡ length xs
map_length f [] = refl
map_length f (x ∷ xs) = ap suc (map_length f xs)

in_order : (e : ℕ) (all : List Accepted) (rs : List Recorded) → ((n : ℕ) → ordinals_of n (collected rs) ≡ range_with_len 0 (length (items_by rs n))) → HasRecorded e all rs → HasInOrder e all (collected rs)
in_order e [] rs once h = tt
in_order e (a ∷ rest) rs once h = (once e ∙ ap (range_with_len 0) (sym (map_length (λ (i : Numbered). i.item) (items_by rs e)) ∙ ap length h.0), in_order (e + 1) rest rs once h.1)

all_append : {A : Type 0} (P : A → Type 0) (xs ys : List A) → AllByRecursion P xs → AllByRecursion P ys → AllByRecursion P (xs ++ ys)
all_append P [] ys a b = b
all_append P (x ∷ xs) ys a b = (a.0, all_append P xs ys a.1 b)

entries_below : (count e k : ℕ) (items : List Numbered) → e < count → AllByRecursion (λ (x : ℕ × Entry). x.1.encoder < count) (numbered_from e k items)
entries_below count e k [] lt = tt
entries_below count e k (i ∷ items) lt = (lt, entries_below count e (k + 1) items lt)

all_below : (count : ℕ) (rs : List Recorded) → AllByRecursion (λ r. r.encoder < count) rs → AllByRecursion (λ (x : ℕ × Entry). x.1.encoder < count) (flat_map numbered_entries rs)
all_below count [] a = tt
all_below count (r ∷ rs) a = all_append (λ (x : ℕ × Entry). x.1.encoder < count) (numbered_entries r) (flat_map numbered_entries rs) (entries_below count r.encoder 0 r.items a.0) (all_below count rs a.1)

are_below : (count : ℕ) (xs : List (ℕ × Entry)) → AllByRecursion (λ (x : ℕ × Entry). x.1.encoder < count) xs → AreBelow count (map (λ x. x.1) xs)
are_below count [] a = tt
are_below count (x ∷ xs) a = (a.0, are_below count xs a.1)

pub recordings_lawful : (plan : FramePlan) (rs : List Recorded) → AreRecordings plan rs → IsLawfulFrame plan (collected rs)
recordings_lawful plan rs a = record {
  in_order = in_order 0 plan.encoders rs (λ n. collected_once rs n a.own a.ascend) a.items;
  no_other = are_below (length plan.encoders) (sorted_by_key (flat_map numbered_entries rs)) (sorted_all (λ (x : ℕ × Entry). x.1.encoder < length plan.encoders) (flat_map numbered_entries rs) (all_below (length plan.encoders) rs a.below));
}

-- ---- the items of entries

got_map : {A B : Type 0} (f : A → B) (xs : List A) (i : ℕ) → option_map f (slice_get xs i) ≡ slice_get (map f xs) i
got_map f [] i = refl
got_map f (x ∷ xs) zero = refl
got_map f (x ∷ xs) (suc i) = got_map f xs i

none_recorded : (count e : ℕ) (rs : List Recorded) → AllByRecursion (λ r. r.encoder < count) rs → count ≤ e → items_by rs e ≡ []
none_recorded count e [] a le = refl
none_recorded count e (r ∷ rs) a le = step (r.encoder == e) refl (none_recorded count e rs a.1 le)
  where
    step : (b : Bool) → (r.encoder == e) ≡ b → items_by rs e ≡ [] → (if b then r.items else items_by rs e) ≡ []
    step true h g = let same : r.encoder ≡ e = eqb-true r.encoder e h in let lt : r.encoder < count = a.0 in absurd (omega (arith, same, lt, le))
    step false h g = g

-- the item of an encoder that is the i-th of the rest
item_at : (first i ordinal : ℕ) (all : List Accepted) (rs : List Recorded) → HasRecorded first all rs → ((n : ℕ) → first + length all ≤ n → items_by rs n ≡ [])
    → option_and_then (λ (a : Accepted). slice_get a.items ordinal) (slice_get all i) ≡ option_map (λ (m : Numbered). m.item) (slice_get (items_by rs (first + i)) ordinal)
item_at first i ordinal [] rs h past = let e : items_by rs (first + i) ≡ [] = past (first + i) (omega arith) in sym (ap (λ (ms : List Numbered). option_map (λ (m : Numbered). m.item) (slice_get ms ordinal)) e)
item_at first zero ordinal (a ∷ all) rs h past =
    let same : first + 0 ≡ first = omega arith in
    ap (λ (is : List Item). slice_get is ordinal) (sym h.0) ∙ sym (got_map (λ (m : Numbered). m.item) (items_by rs first) ordinal) ∙ ap (λ n. option_map (λ (m : Numbered). m.item) (slice_get (items_by rs n) ordinal)) (sym same)
item_at first (suc i) ordinal (a ∷ all) rs h past =
    let same : (first + 1) + i ≡ first + suc i = omega arith in
    item_at (first + 1) i ordinal all rs h.1 (λ n le. past n (omega (arith, le))) ∙ ap (λ n. option_map (λ (m : Numbered). m.item) (slice_get (items_by rs n) ordinal)) same

pub same_items : (plan : FramePlan) (rs : List Recorded) (entries : List Entry) → AreRecordings plan rs → filter_map (item_of plan.encoders) entries ≡ filter_map (item_of_entry rs) entries
same_items plan rs [] a = refl
same_items plan rs (n ∷ entries) a =
    let zero_first : 0 + n.encoder ≡ n.encoder = omega arith in
    let one : item_of plan.encoders n ≡ item_of_entry rs n =
    item_at 0 n.encoder n.ordinal plan.encoders rs a.items (λ m le. none_recorded (length plan.encoders) m rs a.below (omega (arith, le)))
    ∙ ap (λ e. option_map (λ (m : Numbered). m.item) (slice_get (items_by rs e) n.ordinal)) zero_first in
    ap (λ o. cons_option o (filter_map (item_of plan.encoders) entries)) one ∙ ap (cons_option (item_of_entry rs n)) (same_items plan rs entries a)

-- The recordings of a frame's encoders have its items.
use Rattle.std.proofs.Common.{◌≡◌, ◌≢◌, ℕ, zero, suc, ◌+◌, ◌<◌, ◌≤◌, ◌==◌, nat_lt, Bool, true, false, ◌||◌, if◌then◌else◌, List, [], ◌∷◌, ◌++◌, map, length, filter_map, flat_map, Option, Some, None, is_some, option_map, refl, sym, ap, ◌∙◌, subst, arith, slice_get, slice_index_or, eq-eqb, ne_eqb}
use Rattle.std.specs.List.{AllByRecursion, cons_option}
use Rattle.std.proofs.lemmas.Bool.{eqb-true, ltb-true, lt-ltb}
use Rattle.std.proofs.lemmas.Option.{same_Some, none-some}
use Rattle.schedule_model.specs.Held.{count_of}
use Rattle.gfx_model.specs.Number.{map_from}
use Rattle.gfx_model.specs.Views.{Views}
use Rattle.gfx_model.specs.World.{Item, Numbered, is_blit, sorted_by_key}
use Rattle.gfx_model.specs.Frames.{Entry, Recorded, numbered_from, numbered_entries, collected, items_by, item_of_entry, is_ordered, AreOfOwnEncoders, NumbersAscend}
use Rattle.gfx_model.proofs.FrameLaws.{sorted_all, ordered_items}
use Rattle.scene_model.specs.Fold.{Accepted, FramePlan, nothing_accepted}
use Rattle.scene_model.specs.Journal.{item_of}
use Rattle.scene_model.specs.Recordings.{HasRecorded, AreRecordings}
use Rattle.scene_model.proofs.RecordingLaws.{recordings_lawful, same_items}
use Rattle.scene_laws.specs.Gathered.{IsOnceEach, HasPlanned, IsDrawn, IsGathered, HasFrame}

abbrev encoders : List Recorded → List ℕ
encoders rs = map (λ r. r.encoder) rs

-- ---- encoders

none_of : (e : ℕ) (rs : List Recorded) → count_of e (encoders rs) ≡ 0 → AllByRecursion (λ x. x.encoder ≢ e) rs
none_of e [] c = tt
none_of e (r ∷ rs) c = step (r.encoder == e) refl c (none_of e rs)
  where
    step : (b : Bool) → (r.encoder == e) ≡ b → (if b then 1 else 0) + count_of e (encoders rs) ≡ 0 → (count_of e (encoders rs) ≡ 0 → AllByRecursion (λ x. x.encoder ≢ e) rs) → (r.encoder ≢ e) × AllByRecursion (λ x. x.encoder ≢ e) rs
    step true is q rest = absurd (omega (arith, q))
    step false is q rest = ((λ same. absurd (let t = sym is ∙ eq-eqb r.encoder e same in cc)), rest (omega (arith, q)))

own_encoders : (rs : List Recorded) → ((e : ℕ) → count_of e (encoders rs) ≤ 1) → AreOfOwnEncoders rs
own_encoders [] c = tt
own_encoders (r ∷ rs) c =
    let one : (if r.encoder == r.encoder then 1 else 0) ≡ suc zero = ap (λ b. if b then 1 else 0) (eq-eqb r.encoder r.encoder refl) in
    let most = c r.encoder in
    (none_of r.encoder rs (omega (arith, one, most)), own_encoders rs (λ e. (let le = c e in omega (arith, le))))

all_below : (many : ℕ) (rs : List Recorded) → ((e : ℕ) → 1 ≤ count_of e (encoders rs) → e < many) → AllByRecursion (λ r. r.encoder < many) rs
all_below many [] h = tt
all_below many (r ∷ rs) h =
    let one : (if r.encoder == r.encoder then 1 else 0) ≡ suc zero = ap (λ b. if b then 1 else 0) (eq-eqb r.encoder r.encoder refl) in
    (h r.encoder (omega (arith, one)), all_below many rs (λ e c. h e (omega (arith, c))))

-- ---- items

abbrev items_in : List Numbered → List Item
items_in is = map (λ i. i.item) is

planned_by : (plan : FramePlan) (rs : List Recorded) (e : ℕ) → 1 ≤ count_of e (encoders rs) → AllByRecursion (HasPlanned plan) rs → items_in (items_by rs e) ≡ (slice_index_or plan.encoders e nothing_accepted).items
planned_by plan [] e c a = absurd (omega (arith, c))
planned_by plan (r ∷ rs) e c a = step (r.encoder == e) refl c (λ d. planned_by plan rs e d a.1)
  where
    step : (b : Bool) → (r.encoder == e) ≡ b → 1 ≤ (if b then 1 else 0) + count_of e (encoders rs) → (1 ≤ count_of e (encoders rs) → items_in (items_by rs e) ≡ (slice_index_or plan.encoders e nothing_accepted).items)
        → items_in (if b then r.items else items_by rs e) ≡ (slice_index_or plan.encoders e nothing_accepted).items
    step true is q rest = a.0 ∙ ap (λ n. (slice_index_or plan.encoders n nothing_accepted).items) (eqb-true r.encoder e is)
    step false is q rest = rest (omega (arith, q))

recorded_from : (rs : List Recorded) (e : ℕ) (all : List Accepted) → ((i : ℕ) → i < length all → items_in (items_by rs (e + i)) ≡ (slice_index_or all i nothing_accepted).items) → HasRecorded e all rs
recorded_from rs e [] h = tt
recorded_from rs e (a ∷ rest) h =
    let z : e + 0 ≡ e = omega arith in
    (ap (λ n. items_in (items_by rs n)) (sym z) ∙ h 0 (omega arith), recorded_from rs (e + 1) rest (λ i lt. (let n : e + 1 + i ≡ e + suc i = omega arith in ap (λ m. items_in (items_by rs m)) n ∙ h (suc i) (omega (arith, lt)))))

once_below : (many e : ℕ) (b : Bool) → nat_lt e many ≡ b → 1 ≤ (if b then 1 else 0) → e < many
once_below many e true is c = ltb-true e many is
once_below many e false is c = absurd (omega (arith, c))

once_most : (b : Bool) → (if b then 1 else 0) ≤ suc zero
once_most true = omega arith
once_most false = omega arith

pub are_recordings : (plan : FramePlan) (rs : List Recorded) → IsGathered plan rs → AreRecordings plan rs
are_recordings plan rs g = record {
  own = own_encoders rs (λ e. (let one = once_most (nat_lt e (length plan.encoders)) in let is = g.once e in omega (arith, one, is)));
  ascend = g.ascend;
  below = all_below (length plan.encoders) rs (λ e c. once_below (length plan.encoders) e (nat_lt e (length plan.encoders)) refl (let is = g.once e in omega (arith, is, c)));
  items = recorded_from rs 0 plan.encoders (λ i lt. (let z : 0 + i ≡ i = omega arith in
      ap (λ n. items_in (items_by rs n)) z ∙ planned_by plan rs i (let one : (if nat_lt i (length plan.encoders) then 1 else 0) ≡ suc zero = ap (λ b. if b then 1 else 0) (lt-ltb i (length plan.encoders) lt) in let is = g.once i in omega (arith, one, is)) g.planned));
}

-- ---- each entry has an item

found_own : (whole rs : List Recorded) → AllByRecursion (λ r. items_by whole r.encoder ≡ r.items) rs → (x : Recorded) → AllByRecursion (λ r. r.encoder ≢ x.encoder) rs → AllByRecursion (λ r. items_by (x ∷ whole) r.encoder ≡ r.items) rs
found_own whole [] a x n = tt
found_own whole (r ∷ rs) a x n =
    (ap (λ b. if b then x.items else items_by whole r.encoder) (ne_eqb x.encoder r.encoder (λ e. n.0 (sym e))) ∙ a.0, found_own whole rs a.1 x n.1)

pub found_all : (rs : List Recorded) → AreOfOwnEncoders rs → AllByRecursion (λ r. items_by rs r.encoder ≡ r.items) rs
found_all [] o = tt
found_all (r ∷ rs) o =
    (ap (λ b. if b then r.items else items_by rs r.encoder) (eq-eqb r.encoder r.encoder refl), found_own rs rs (found_all rs o.1) r o.0)

some_at : (is : List Numbered) (j : ℕ) → j < length is → is_some (option_map (λ i. i.item) (slice_get is j)) ≡ true
some_at [] j lt = absurd (omega (arith, lt))
some_at (x ∷ xs) zero lt = refl
some_at (x ∷ xs) (suc j) lt = some_at xs j (omega (arith, lt))

-- the entries of items from a place on
numbered_have : (whole : List Recorded) (e k : ℕ) (is : List Numbered) → ((j : ℕ) → j < length is → is_some (item_of_entry whole (record { encoder = e; ordinal = k + j })) ≡ true)
    → AllByRecursion (λ x. is_some (item_of_entry whole x.1) ≡ true) (numbered_from e k is)
numbered_have whole e k [] h = tt
numbered_have whole e k (i ∷ is) h =
    let z : k ≡ k + 0 = omega arith in (
      ap (λ n. is_some (item_of_entry whole (record { encoder = e; ordinal = n }))) z ∙ h 0 (omega arith),
      numbered_have whole e (k + 1) is (λ j lt. (let n : k + 1 + j ≡ k + suc j = omega arith in ap (λ m. is_some (item_of_entry whole (record { encoder = e; ordinal = m }))) n ∙ h (suc j) (omega (arith, lt)))),
    )

all_append : {A : Type 0} (P : A → Type 0) (xs ys : List A) → AllByRecursion P xs → AllByRecursion P ys → AllByRecursion P (xs ++ ys)
all_append P [] ys a b = b
all_append P (x ∷ xs) ys a b = (a.0, all_append P xs ys a.1 b)

entries_have : (whole rs : List Recorded) → AllByRecursion (λ r. items_by whole r.encoder ≡ r.items) rs → AllByRecursion (λ x. is_some (item_of_entry whole x.1) ≡ true) (flat_map numbered_entries rs)
entries_have whole [] a = tt
entries_have whole (r ∷ rs) a =
    all_append (λ x. is_some (item_of_entry whole x.1) ≡ true) (numbered_entries r) (flat_map numbered_entries rs)
    (numbered_have whole r.encoder 0 r.items (λ j lt. (let z : 0 + j ≡ j = omega arith in
    ap (λ n. is_some (item_of_entry whole (record { encoder = r.encoder; ordinal = n }))) z ∙ ap (λ is. is_some (option_map (λ i. i.item) (slice_get is j))) a.0 ∙ some_at r.items j lt)))
    (entries_have whole rs a.1)

all_seconds : (P : Entry → Type 0) (xs : List (ℕ × Entry)) → AllByRecursion (λ x. P x.1) xs → AllByRecursion P (map (λ x. x.1) xs)
all_seconds P [] a = tt
all_seconds P (x ∷ xs) a = (a.0, all_seconds P xs a.1)

pub journal_has : (rs : List Recorded) → AreOfOwnEncoders rs → AllByRecursion (λ n. is_some (item_of_entry rs n) ≡ true) (collected rs)
journal_has rs o =
    all_seconds (λ n. is_some (item_of_entry rs n) ≡ true) (sorted_by_key (flat_map numbered_entries rs))
    (sorted_all (λ x. is_some (item_of_entry rs x.1) ≡ true) (flat_map numbered_entries rs) (entries_have rs rs (found_all rs o)))

-- ---- each item is drawn

drawn_by : (vs : Views) (rs : List Recorded) (e : ℕ) → AllByRecursion (λ r. AllByRecursion (λ i. IsDrawn vs i.item) r.items) rs → AllByRecursion (λ i. IsDrawn vs i.item) (items_by rs e)
drawn_by vs [] e a = tt
drawn_by vs (r ∷ rs) e a = step (r.encoder == e) (drawn_by vs rs e a.1)
  where
    step : (b : Bool) → AllByRecursion (λ i. IsDrawn vs i.item) (items_by rs e) → AllByRecursion (λ i. IsDrawn vs i.item) (if b then r.items else items_by rs e)
    step true h = a.0
    step false h = h

-- an optional item is drawn
abbrev DrawnOption : Views → Option Item → Type 0
DrawnOption vs None = Unit {0}
DrawnOption vs (Some i) = IsDrawn vs i

drawn_at : (vs : Views) (is : List Numbered) (j : ℕ) → AllByRecursion (λ i. IsDrawn vs i.item) is → DrawnOption vs (option_map (λ i. i.item) (slice_get is j))
drawn_at vs [] j a = tt
drawn_at vs (x ∷ xs) zero a = a.0
drawn_at vs (x ∷ xs) (suc j) a = drawn_at vs xs j a.1

all_drawn : (vs : Views) (rs : List Recorded) (journal : List Entry) → AllByRecursion (λ r. AllByRecursion (λ i. IsDrawn vs i.item) r.items) rs → AllByRecursion (λ i. (is_blit i || is_ordered vs i) ≡ true) (filter_map (item_of_entry rs) journal)
all_drawn vs rs [] a = tt
all_drawn vs rs (n ∷ journal) a = step (item_of_entry rs n) (drawn_at vs (items_by rs n.encoder) n.ordinal (drawn_by vs rs n.encoder a)) (all_drawn vs rs journal a)
  where
    step : (o : Option Item) → DrawnOption vs o → AllByRecursion (λ i. (is_blit i || is_ordered vs i) ≡ true) (filter_map (item_of_entry rs) journal) → AllByRecursion (λ i. (is_blit i || is_ordered vs i) ≡ true) (cons_option o (filter_map (item_of_entry rs) journal))
    step None h q = q
    step (Some i) h q = (h, q)

pub has_frame : (plan : FramePlan) (rs : List Recorded) → IsGathered plan rs → HasFrame plan rs
has_frame plan rs g =
    let are = are_recordings plan rs g in
    let same : filter_map (item_of_entry rs) (collected rs) ≡ filter_map (item_of plan.encoders) (collected rs) = sym (same_items plan rs (collected rs) are) in
    record {
      lawful = recordings_lawful plan rs are;
      items = same;
      ordered_items = ordered_items plan.views rs (collected rs) (journal_has rs are.own) (all_drawn plan.views rs (collected rs) g.drawn) ∙ ap (Rattle.gfx_model.specs.World.ordered plan.views) same;
    }

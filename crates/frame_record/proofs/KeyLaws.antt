-- Keys of items, and the recording of an encoder.
use Rattle.std.proofs.Common.{◌≡◌, ℕ, zero, suc, ◌+◌, ◌<◌, ◌≤◌, ◌==◌, Bool, true, false, cond, Option, Some, None, List, [], ◌∷◌, ◌++◌, map, take, length, drop, slice_index_or, refl, sym, ap, subst, nat_le, ◌∙◌, arith}
use mathlib.Core.Logic.{⊎_elim}
use Rattle.std.proofs.lemmas.Bool.{lt-ltb}
use Rattle.std.specs.Prelude.{filter_map, option_map, option_and_then, slice_get, IfSome}
use Rattle.std.specs.List.{AllByRecursion}
use Rattle.std.proofs.lemmas.List.{drop_more, take_more, length-take-le, length-map, map-append}
use Rattle.std.proofs.lemmas.Option.{slice_get_past}
use Rattle.gfx_model.specs.Number.{map_from}
use Rattle.gfx_model.specs.Frames as model
use Rattle.gfx_model.specs.Frames.{items_by, item_of_entry, is_ordered, with_key, keyed_entry, keyed_entries}
use Rattle.gfx_model.specs.Views.{Views, ViewMode, default_mode, sequential_mode, ascending_mode, descending_mode, KeyFields, key_fields, key_bits, view_count}
use Rattle.gfx_model.specs.World.{Item, Touch, touch_item, Numbered, key_of_item, view_of_item, insert_by_key, sorted_by_key}
use Rattle.gfx_model.proofs.OrderedLaws.{Ascends, sorted-ascends}
use Rattle.schedule_model.proofs.Lists.{all-append}
use Rattle.view_table.specs.Order.{IsViewTable}
use Rattle.draw_encoder.specs.declared.items.Item as items
use Rattle.draw_encoder.specs.declared.items.Recording.{Recording}
use Rattle.draw_encoder.specs.Seen.{item_seen}
use Rattle.gfx_words.specs.declared.journal.JournalEntry.{JournalEntry}
use Rattle.frame_record.specs.declared.ordering.OrderedItem.{OrderedItem}
use Rattle.frame_record.specs.Ordered.{keyed_of, key_or_none, one_or_none, position_of, position_in, AscendFrom, IsOfView, IsPlaced}
use Rattle.frame_record.specs.Seen.{entry_seen, numbered_seen, recorded_seen, recordings_seen}

-- a position is below the greatest number of views
pub below_most : (vs : Views) (p : ℕ) → IsViewTable vs → p < view_count vs → p < 512
below_most vs p k h = ⊎_elim (λ e. omega (arith, e, h)) (λ e. omega (arith, e, h)) k.count

-- the position is the first field of a key
pub position_is : (m : ViewMode) (position blended program depth number : ℕ) → (key_fields m position blended program depth number).position ≡ position
position_is default_mode position blended program depth number = refl
position_is sequential_mode position blended program depth number = refl
position_is ascending_mode position blended program depth number = refl
position_is descending_mode position blended program depth number = refl

-- a touch in a view that is there has its key
pub touch_has_key : (vs : Views) (place : ℕ) (t : Touch) (key : KeyFields) → t.view < view_count vs → key_bits key ≡ key_of_item vs place (touch_item t)
    → option_map key_bits (Some key) ≡ key_or_none vs place (touch_item t)
touch_has_key vs place t key h is = rw (lt-ltb t.view (view_count vs) h) (ap Some is)

-- the recording at a place is the encoder's, or it is passed over
by_next : (rs : List Recording) (i e : ℕ) (d : Recording) → i < length rs
    → items_by (recordings_seen (drop i rs)) e ≡ cond ((slice_index_or rs i d).encoder == e) (recorded_seen (slice_index_or rs i d)).items (items_by (recordings_seen (drop (i + 1) rs)) e)
by_next rs i e d h = ap (λ xs. items_by (recordings_seen xs) e) (drop_more rs i d h)

pub by_found : (rs : List Recording) (i e : ℕ) (d : Recording) → i < length rs → ((slice_index_or rs i d).encoder == e) ≡ true
    → items_by (recordings_seen (drop i rs)) e ≡ (recorded_seen (slice_index_or rs i d)).items
by_found rs i e d h t = by_next rs i e d h ∙ rw t refl

pub by_passed : (rs : List Recording) (i e : ℕ) (d : Recording) → i < length rs → ((slice_index_or rs i d).encoder == e) ≡ false
    → items_by (recordings_seen (drop i rs)) e ≡ items_by (recordings_seen (drop (i + 1) rs)) e
by_passed rs i e d h t = by_next rs i e d h ∙ rw t refl

-- ---- keys of entries

-- an entry with a key
abbrev pub with_key_of : model.Entry → KeyFields → ℕ × model.Entry
with_key_of e k = (key_bits k, e)

abbrev paired : model.Entry → ℕ → ℕ × model.Entry
paired e k = (k, e)

with_entry : (b : Bool) (key : ℕ) (e : model.Entry) → option_map (paired e) (cond b (Some key) None) ≡ cond b (Some (paired e key)) None
with_entry true key e = refl
with_entry false key e = refl

by_bits : (key : Option KeyFields) (e : model.Entry) → option_map (with_key_of e) key ≡ option_map (paired e) (option_map key_bits key)
by_bits None e = refl
by_bits (Some k) e = refl

-- an entry whose item is there has its item's key
pub keyed_item : (vs : Views) (rs : List model.Recorded) (place : ℕ) (e : model.Entry) (x : Item) (key : Option KeyFields)
    → Some x ≡ item_of_entry rs e → option_map key_bits key ≡ key_or_none vs place x → option_map (with_key_of e) key ≡ keyed_entry vs rs place e
keyed_item vs rs place e x key there is =
    by_bits key e ∙ ap (option_map (paired e)) is ∙ with_entry (is_ordered vs x) (key_of_item vs place x) e ∙ ap (option_and_then (with_key vs place e)) there

-- one without an item has none
pub keyed_none : (vs : Views) (rs : List model.Recorded) (place : ℕ) (e : model.Entry) → None ≡ item_of_entry rs e → None ≡ keyed_entry vs rs place e
keyed_none vs rs place e gone = ap (option_and_then (with_key vs place e)) gone

-- it has the position of its item's view
pub placed_item : (vs : Views) (rs : List model.Recorded) (e : model.Entry) (x : Item) (key : Option KeyFields)
    → Some x ≡ item_of_entry rs e → IfSome key (λ k. IsOfView vs (view_of_item x) (key_bits k)) → IfSome key (λ k. IsPlaced vs rs (key_bits k, e))
placed_item vs rs e x None there is = is
placed_item vs rs e x (Some k) there is = (x, sym there, is)

-- an item of a recording
pub item_there : (rs : List Recording) (e : ℕ) (ordinal : ℕ) (r : Recording) (i : items.Item) → items_by (recordings_seen rs) e ≡ (recorded_seen r).items → slice_get r.items ordinal ≡ Some i
    → Some (item_seen r.bytes r.uniforms i) ≡ item_of_entry (recordings_seen rs) (record { encoder = e; ordinal = ordinal })
item_there rs e ordinal r i by there =
    sym (ap (λ (xs : List Numbered). option_map (λ (n : Numbered). n.item) (slice_get xs ordinal)) by ∙ ap (option_map (λ (n : Numbered). n.item)) (got_map (numbered_seen r) r.items ordinal ∙ ap (option_map (numbered_seen r)) there))
  where
    got_map : {A B : Type 0} (f : A → B) (xs : List A) (n : ℕ) → slice_get (map f xs) n ≡ option_map f (slice_get xs n)
    got_map f [] n = refl
    got_map f (x ∷ xs) zero = refl
    got_map f (x ∷ xs) (suc n) = got_map f xs n

pub no_item : (items : List Numbered) (ordinal : ℕ) → items ≡ [] → slice_get items ordinal ≡ None
no_item items ordinal e = slice_get_past items ordinal (omega (arith, ap length e))

-- ---- one entry more

one_kept : (key : Option KeyFields) (e : model.Entry) → filter_map (λ o. o) (option_map (with_key_of e) key ∷ []) ≡ one_or_none key e
one_kept None e = refl
one_kept (Some key) e = refl

from_append : (vs : Views) (rs : List model.Recorded) (n : ℕ) (xs : List model.Entry) (e : model.Entry)
    → map_from (keyed_entry vs rs) n (xs ++ e ∷ []) ≡ map_from (keyed_entry vs rs) n xs ++ keyed_entry vs rs (n + length xs) e ∷ []
from_append vs rs n [] e = let z : n ≡ n + 0 = omega arith in ap (λ k. keyed_entry vs rs k e ∷ []) z
from_append vs rs n (x ∷ xs) e =
    let z : n + 1 + length xs ≡ n + suc (length xs) = omega arith in
    ap (λ zs. keyed_entry vs rs n x ∷ zs) (from_append vs rs (n + 1) xs e ∙ ap (λ k. map_from (keyed_entry vs rs) (n + 1) xs ++ keyed_entry vs rs k e ∷ []) z)

kept_append : (xs ys : List (Option (ℕ × model.Entry))) → filter_map (λ o. o) (xs ++ ys) ≡ filter_map (λ o. o) xs ++ filter_map (λ o. o) ys
kept_append [] ys = refl
kept_append (None ∷ xs) ys = kept_append xs ys
kept_append (Some x ∷ xs) ys = ap (λ zs. x ∷ zs) (kept_append xs ys)

keyed_append : (vs : Views) (rs : List model.Recorded) (xs : List model.Entry) (e : model.Entry) (key : Option KeyFields)
    → option_map (with_key_of e) key ≡ keyed_entry vs rs (length xs) e → keyed_entries vs rs (xs ++ e ∷ []) ≡ keyed_entries vs rs xs ++ one_or_none key e
keyed_append vs rs xs e key h =
    let z : 0 + length xs ≡ length xs = omega arith in
    ap (filter_map (λ o. o)) (from_append vs rs 0 xs e ∙ ap (λ k. map_from (keyed_entry vs rs) 0 xs ++ keyed_entry vs rs k e ∷ []) z)
    ∙ kept_append (map_from (keyed_entry vs rs) 0 xs) (keyed_entry vs rs (length xs) e ∷ [])
    ∙ ap (λ o. keyed_entries vs rs xs ++ filter_map (λ o. o) (o ∷ [])) (sym h)
    ∙ ap (λ zs. keyed_entries vs rs xs ++ zs) (one_kept key e)

pub keyed_more : (vs : Views) (rs : List model.Recorded) (journal : List JournalEntry) (place : ℕ) (d : JournalEntry) (key : Option KeyFields)
    → place < length journal → option_map (with_key_of (entry_seen (slice_index_or journal place d))) key ≡ keyed_entry vs rs place (entry_seen (slice_index_or journal place d))
    → keyed_entries vs rs (map entry_seen (take (place + 1) journal)) ≡ keyed_entries vs rs (map entry_seen (take place journal)) ++ one_or_none key (entry_seen (slice_index_or journal place d))
keyed_more vs rs journal place d key within h =
    let e : JournalEntry = slice_index_or journal place d in
    let many : place ≡ length (map entry_seen (take place journal)) = omega (arith, length-map (take place journal) entry_seen, length-take-le place journal (omega (arith, within))) in
    ap (λ xs. keyed_entries vs rs (map entry_seen xs)) (take_more journal place d within)
    ∙ ap (keyed_entries vs rs) (map-append entry_seen (take place journal) (e ∷ []))
    ∙ keyed_append vs rs (map entry_seen (take place journal)) (entry_seen e) key (h ∙ ap (λ k. keyed_entry vs rs k (entry_seen e)) many)

-- the entries of ordered items
pub entries_seen : (xs : List OrderedItem) → map (λ x. x.1) (map keyed_of xs) ≡ map (λ o. entry_seen o.entry) xs
entries_seen [] = refl
entries_seen (x ∷ xs) = ap (λ zs. entry_seen x.entry ∷ zs) (entries_seen xs)

-- ---- positions

pub placed_one : (P : ℕ × model.Entry → Type 0) (key : Option KeyFields) (e : model.Entry) → IfSome key (λ k. P (key_bits k, e)) → AllByRecursion P (one_or_none key e)
placed_one P None e h = tt
placed_one P (Some k) e h = (h, tt)

-- one entry more
pub placed_more : (P : ℕ × model.Entry → Type 0) (old new : List (ℕ × model.Entry)) (key : Option KeyFields) (e : model.Entry) → new ≡ old ++ one_or_none key e → AllByRecursion P old → IfSome key (λ k. P (key_bits k, e)) → AllByRecursion P new
placed_more P old new key e is all h = subst (AllByRecursion P) (sym is) (all-append P old (one_or_none key e) all (placed_one P key e h))

insert_all : (P : ℕ × model.Entry → Type 0) (x : ℕ × model.Entry) (xs : List (ℕ × model.Entry)) → P x → AllByRecursion P xs → AllByRecursion P (insert_by_key x xs)
insert_all P x [] h all = (h, tt)
insert_all P x (y ∷ ys) h all = go (nat_le x.0 y.0) (insert_all P x ys h all.1)
  where
    go : (b : Bool) → AllByRecursion P (insert_by_key x ys) → AllByRecursion P (cond b (x ∷ y ∷ ys) (y ∷ insert_by_key x ys))
    go true rest = (h, all)
    go false rest = (all.0, rest)

-- what holds of each holds of each in order
sorted_all : (P : ℕ × model.Entry → Type 0) (xs : List (ℕ × model.Entry)) → AllByRecursion P xs → AllByRecursion P (sorted_by_key xs)
sorted_all P [] all = tt
sorted_all P (x ∷ xs) all = insert_all P x (sorted_by_key xs) all.0 (sorted_all P xs all.1)

pub placed_sorted : (P : ℕ × model.Entry → Type 0) (old new : List (ℕ × model.Entry)) → new ≡ sorted_by_key old → AllByRecursion P old → AllByRecursion P new
placed_sorted P old new is all = subst (AllByRecursion P) (sym is) (sorted_all P old all)

-- keys that ascend have positions that ascend
positions_from : (low : ℕ) (xs : List OrderedItem) → Ascends low (map keyed_of xs) → AscendFrom (position_in low) (map position_of xs)
positions_from low [] a = tt
positions_from low (x ∷ xs) a = (above low (key_bits x.key) a.0, positions_from (key_bits x.key) xs a.1)
  where
    above : (m n : ℕ) → m ≤ n → position_in m ≤ position_in n
    above m n le = omega (arith, le)

pub positions_ascend : (old : List (ℕ × model.Entry)) (xs : List OrderedItem) → map keyed_of xs ≡ sorted_by_key old → AscendFrom 0 (map position_of xs)
positions_ascend old xs is = positions_from 0 xs (subst (Ascends 0) (sym is) (sorted-ascends old))

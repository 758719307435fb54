-- Entries whose items are checked one after another.
use Rattle.std.proofs.Common.{◌≡◌, ◌∙◌, ℕ, zero, suc, ◌+◌, ◌<◌, ◌≤◌, inl, inr, Bool, true, false, not, cond, List, [], ◌∷◌, ◌++◌, map, take, length, get_or, Option, Some, None, refl, sym, ap, subst, arith}
use Rattle.std.specs.List.{AllByRecursion, cons_option}
use Rattle.std.proofs.lemmas.List.{take_more, take_all, map-append}
use Rattle.gfx_model.specs.Frames.{Entry, Recorded, item_of_entry}
use Rattle.gfx_model.specs.Views.{View, view_count}
use Rattle.gfx_model.specs.World.{Item, draw_item, touch_item, blit_item, UniformSet}
use Rattle.gfx_words.specs.declared.journal.JournalEntry.{JournalEntry}
use Rattle.gfx_words.specs.Seen.{entry_seen}
use Rattle.scene_model.specs.Journal.{is_nonempty}
use Rattle.store_model.specs.Slots.{at}
use Rattle.store_laws.specs.ByIndex.{Stores}
use Rattle.shared_keys.specs.declared.marks.Mark.{Mark}
use Rattle.shared_keys.specs.Marks.{can_clash, IsThere}
use Rattle.shared_keys.specs.Members.{In}
use Rattle.recorded_keys.specs.Recorded.{marks_of_item}
use Rattle.recorded_keys.proofs.PairLaws.{mark-is}
use Rattle.covered_rows.specs.declared.runs.Run.{Run}
use Rattle.covered_rows.specs.Covering.{HasRun, Keeps, AddsOnly}
use Rattle.harmless_views.specs.Covers.{IsRunOf}
use Rattle.harmless_views.specs.Runs.{ItemCovered, IsItemRun, LacksProgram}
use Rattle.harmless_views.proofs.Leaving.{got-self}
use Rattle.harmless_views.specs.Checked.{is_clashing, IsCovered, Looked, own_mark, Clashes, EntryThere, EntryChecked, AllThere, AllChecked, IsFound, is_plain, ClashesAt, IsEntryRun, IsSomeRun, Stops, SomeStops}

-- ---- marks

-- an item that can clash has its mark
marked : (k : Looked) (e : ℕ) (i : Item) (o : Option Mark) → cons_option o [] ≡ marks_of_item k.views e i → can_clash i ≡ true → o ≡ Some (own_mark k e i)
marked k e i o is can = mark-is k.views e i o is ∙ (λ j. cond (can j) (Some (own_mark k e i)) None)

some-same : (m n : Mark) → Some m ≡ Some n → m ≡ n
some-same m n e = cc e

-- an item without a mark clashes with none
pub none-found : (k : Looked) (e : ℕ) (i : Item) → cons_option None [] ≡ marks_of_item k.views e i → IsFound k e i None
none-found k e i is clashes = absurd (cc (marked k e i None is clashes.can))

-- one whose mark is of another view, or clashes with none, is left alone
pub other-found : (k : Looked) (e : ℕ) (i : Item) (m : Mark) → cons_option (Some m) [] ≡ marks_of_item k.views e i → (m.view ≡ k.number → is_clashing k.marks m ≡ true → ⊥) → IsFound k e i None
other-found k e i m is other clashes =
    let same : m ≡ own_mark k e i = some-same m (own_mark k e i) (marked k e i (Some m) is clashes.can) in
    other (ap (λ (n : Mark). n.view) same ∙ clashes.view) (ap (is_clashing k.marks) same ∙ clashes.clash)

pub own-found : (k : Looked) (e : ℕ) (i : Item) (m : Mark) → cons_option (Some m) [] ≡ marks_of_item k.views e i → m.view ≡ k.number → is_clashing k.marks m ≡ true → IsFound k e i (Some m)
own-found k e i m is view clash = go (can_clash i) refl is
  where
    go : (b : Bool) → can_clash i ≡ b → m ∷ [] ≡ cond b (own_mark k e i ∷ []) [] → (m ≡ own_mark k e i) × Clashes k e i
    go true can h =
        let same : m ≡ own_mark k e i = cc h in
        (same, record { can = can; view = sym (ap (λ (n : Mark). n.view) same) ∙ view; clash = sym (ap (is_clashing k.marks) same) ∙ clash })
    go false can h = absurd (cc h)

-- ---- more runs

run-kept : (old new : List Run) (key e x y : ℕ) → Keeps old new → HasRun old key e x y → HasRun new key e x y
run-kept old new key e x y keeps h = (h.0, keeps h.0 h.1, h.2, h.3, h.4, h.5)

covered-kept : (old new : List Run) (h : Stores) (view : View) (m : Mark) (i : Item) → Keeps old new → IsCovered old h view m i → IsCovered new h view m i
covered-kept old new h view m (draw_item d) keeps is = (is.0, λ x y wide high covered. run-kept old new m.key m.encoder x y keeps (is.1 x y wide high covered))
covered-kept old new h view m (touch_item t) keeps is = absurd is
covered-kept old new h view m (blit_item b) keeps is = absurd is

entry-kept : (k : Looked) (old new : List Run) (rs : List Recorded) (n : Entry) → Keeps old new → EntryChecked k old rs n → EntryChecked k new rs n
entry-kept k old new rs n keeps is i at there clashes = covered-kept old new k.stores k.view (own_mark k n.encoder i) i keeps (is i at there clashes)

all-kept : (k : Looked) (old new : List Run) (rs : List Recorded) (ns : List Entry) → Keeps old new → AllChecked k old rs ns → AllChecked k new rs ns
all-kept k old new rs [] keeps a = tt
all-kept k old new rs (n ∷ ns) keeps a = (entry-kept k old new rs n keeps a.0, all-kept k old new rs ns keeps a.1)

all-both : (P : Entry → Type 0) (ns ms : List Entry) → AllByRecursion P ns → AllByRecursion P ms → AllByRecursion P (ns ++ ms)
all-both P [] ms a b = b
all-both P (n ∷ ns) ms a b = (a.0, all-both P ns ms a.1 b)

all-front : (P : Entry → Type 0) (ns ms : List Entry) → AllByRecursion P (ns ++ ms) → AllByRecursion P ns × AllByRecursion P ms
all-front P [] ms a = (tt, a)
all-front P (n ∷ ns) ms a = let rest = all-front P ns ms a.1 in ((a.0, rest.0), rest.1)

-- ---- an entry's item

item-same : (i j : Item) → Some i ≡ Some j → i ≡ j
item-same i j e = cc e

-- one that is not there
pub entry-none : (k : Looked) (runs : List Run) (rs : List Recorded) (n : Entry) → None ≡ item_of_entry rs n → EntryChecked k runs rs n
entry-none k runs rs n none i at = absurd (cc (none ∙ at))

-- one that clashes with none
pub entry-alone : (k : Looked) (runs : List Run) (rs : List Recorded) (n : Entry) (e : ℕ) (i : Item) → Some i ≡ item_of_entry rs n → e ≡ n.encoder → (IsThere (view_count k.views) i → IsFound k e i None) → EntryChecked k runs rs n
entry-alone k runs rs n e i at own alone j is there clashes =
    let same : i ≡ j = item-same i j (at ∙ is) in
    absurd (subst (λ (z : ℕ). IsThere (view_count k.views) j → IsFound k z j None) own (subst (λ (z : Item). IsThere (view_count k.views) z → IsFound k e z None) same alone) there clashes)

no-values : (values : List UniformSet) → not (is_nonempty values) ≡ true → values ≡ []
no-values [] e = refl
no-values (v ∷ values) e = absurd (cc e)

plain-covered : (runs : List Run) (h : Stores) (view : View) (m : Mark) (i : Item) (o : Option Item) → is_plain i ≡ true → o ≡ Some i → ItemCovered runs m.key m.encoder h view o → IsCovered runs h view m i
plain-covered runs h view m (draw_item d) o plain at covered = (no-values d.values plain, subst (λ (z : Option Item). ItemCovered runs m.key m.encoder h view z) at covered)
plain-covered runs h view m (touch_item t) o plain at covered = absurd (cc plain)
plain-covered runs h view m (blit_item b) o plain at covered = absurd (cc plain)

-- what was found of an entry's item
module _ (k : Looked) (rs : List Recorded) (n : Entry) (e : ℕ) (i : Item) (m : Mark) (at_entry : Some i ≡ item_of_entry rs n) (own : e ≡ n.encoder) (found : IsThere (view_count k.views) i → IsFound k e i (Some m)) where
  mark-same : IsThere (view_count k.views) i → m ≡ own_mark k n.encoder i
  mark-same there = (found there).0 ∙ ap (λ (z : ℕ). own_mark k z i) own

  clashes-at : IsThere (view_count k.views) i → ClashesAt k rs n i
  clashes-at there = record { at = sym at_entry; own = subst (λ (z : ℕ). Clashes k z i) own (found there).1 }

  -- a draw without values whose runs are there
  pub entry-covered : (runs : List Run) → is_plain i ≡ true → ItemCovered runs m.key m.encoder k.stores k.view (item_of_entry rs n) → EntryChecked k runs rs n
  entry-covered runs plain covered j is there clashes =
      let same : i ≡ j = item-same i j (at_entry ∙ is) in
      let here : IsThere (view_count k.views) i = subst (λ (z : Item). IsThere (view_count k.views) z) (sym same) there in
      subst (λ (z : Item). IsCovered runs k.stores k.view (own_mark k n.encoder z) z) same
      (subst (λ (z : Mark). IsCovered runs k.stores k.view z i) (mark-same here) (plain-covered runs k.stores k.view m i (item_of_entry rs n) plain (sym at_entry) covered))

  -- its runs are its own
  pub entry-adds : (old new : List Run) → EntryThere k rs n → AddsOnly (IsItemRun m.key m.encoder k.stores k.view (item_of_entry rs n)) old new → AddsOnly (IsEntryRun k rs n) old new
  entry-adds old new there adds r j = elim (adds r j) [
    | inl was ↦ inl was
    | inr run ↦ inr (go i (mark-same (there i (sym at_entry))) (clashes-at (there i (sym at_entry))) (subst (λ (z : Option Item). IsItemRun m.key m.encoder k.stores k.view z r) (sym at_entry) run))
  ]
    where
      go : (i : Item) → m ≡ own_mark k n.encoder i → ClashesAt k rs n i → IsItemRun m.key m.encoder k.stores k.view (Some i) r → IsEntryRun k rs n r
      go (draw_item d) same clashes run = (d, (clashes, subst (λ (z : Mark). IsRunOf z.key z.encoder k.stores k.view d r) same run))
      go (touch_item t) same clashes run = absurd run
      go (blit_item b) same clashes run = absurd run

  -- an item that is no draw without values stops its view
  pub entry-stops : is_plain i ≡ false → EntryThere k rs n → Stops k rs n
  entry-stops plain there = inl (i, (clashes-at (there i (sym at_entry)), plain))

  -- and so does one that lacks its program
  pub entry-lacks : is_plain i ≡ true → LacksProgram k.stores (item_of_entry rs n) → EntryThere k rs n → Stops k rs n
  entry-lacks plain lacks there = go i plain (clashes-at (there i (sym at_entry))) (subst (λ (z : Option Item). LacksProgram k.stores z) (sym at_entry) lacks)
    where
      go : (i : Item) → is_plain i ≡ true → ClashesAt k rs n i → LacksProgram k.stores (Some i) → Stops k rs n
      go (draw_item d) p clashes l = inr (d, (clashes, l))
      go (touch_item t) p clashes l = absurd (cc p)
      go (blit_item b) p clashes l = absurd (cc p)

-- ---- one entry more

pub checked-none : (k : Looked) (runs : List Run) (rs : List Recorded) (all : List JournalEntry) → AllChecked k runs rs (map entry_seen (take 0 all))
checked-none k runs rs [] = tt
checked-none k runs rs (n ∷ all) = tt

entries-more : (all : List JournalEntry) (i : ℕ) (n : JournalEntry) → i < length all → get_or all i n ≡ n → map entry_seen (take (i + 1) all) ≡ map entry_seen (take i all) ++ entry_seen n ∷ []
entries-more all i n lt is = ap (map entry_seen) (take_more all i n lt ∙ ap (λ z. take i all ++ z ∷ []) is) ∙ map-append entry_seen (take i all) (n ∷ [])

pub checked-more : (k : Looked) (old new : List Run) (rs : List Recorded) (all : List JournalEntry) (i : ℕ) (n : JournalEntry) → i < length all → get_or all i n ≡ n → Keeps old new
    → AllChecked k old rs (map entry_seen (take i all)) → EntryChecked k new rs (entry_seen n) → AllChecked k new rs (map entry_seen (take (i + 1) all))
checked-more k old new rs all i n lt is keeps before one =
    subst (λ (ns : List Entry). AllChecked k new rs ns) (sym (entries-more all i n lt is))
    (all-both (EntryChecked k new rs) (map entry_seen (take i all)) (entry_seen n ∷ []) (all-kept k old new rs (map entry_seen (take i all)) keeps before) (one, tt))

pub checked-all : (k : Looked) (runs : List Run) (rs : List Recorded) (all : List JournalEntry) (i : ℕ) → length all ≤ i → AllChecked k runs rs (map entry_seen (take i all)) → AllChecked k runs rs (map entry_seen all)
checked-all k runs rs all i le h = subst (λ (ns : List JournalEntry). AllChecked k runs rs (map entry_seen ns)) (take_all i all le) h

-- ---- of all entries

there-in : (k : Looked) (rs : List Recorded) (ns : List Entry) (n : Entry) → AllThere k rs ns → In n ns → EntryThere k rs n
there-in k rs [] n a i = absurd i
there-in k rs (m ∷ ns) n a (inl e) = subst (λ (z : Entry). EntryThere k rs z) (sym e) a.0
there-in k rs (m ∷ ns) n a (inr i) = there-in k rs ns n a.1 i

run-in : (k : Looked) (rs : List Recorded) (ns : List Entry) (n : Entry) (r : Run) → In n ns → IsEntryRun k rs n r → IsSomeRun k rs ns r
run-in k rs [] n r i own = absurd i
run-in k rs (m ∷ ns) n r (inl e) own = inl (subst (λ (z : Entry). IsEntryRun k rs z r) e own)
run-in k rs (m ∷ ns) n r (inr i) own = inr (run-in k rs ns n r i own)

stops-in : (k : Looked) (rs : List Recorded) (ns : List Entry) (n : Entry) → In n ns → Stops k rs n → SomeStops k rs ns
stops-in k rs [] n i stops = absurd i
stops-in k rs (m ∷ ns) n (inl e) stops = inl (subst (λ (z : Entry). Stops k rs z) e stops)
stops-in k rs (m ∷ ns) n (inr i) stops = inr (stops-in k rs ns n i stops)

in-at : (all : List JournalEntry) (i : ℕ) (n : JournalEntry) → i < length all → get_or all i n ≡ n → In (entry_seen n) (map entry_seen all)
in-at [] i n lt is = absurd (omega (arith, lt))
in-at (m ∷ all) zero n lt is = inl (ap entry_seen (sym is))
in-at (m ∷ all) (suc i) n lt is = inr (in-at all i n (omega (arith, lt)) is)

-- the runs so far are of entries
pub adds-more : (k : Looked) (first old new : List Run) (rs : List Recorded) (all : List JournalEntry) (i : ℕ) (n : JournalEntry) → i < length all → get_or all i n ≡ n
    → (AllThere k rs (map entry_seen all) → AddsOnly (IsSomeRun k rs (map entry_seen all)) first old) → (EntryThere k rs (entry_seen n) → AddsOnly (IsEntryRun k rs (entry_seen n)) old new)
    → AllThere k rs (map entry_seen all) → AddsOnly (IsSomeRun k rs (map entry_seen all)) first new
adds-more k first old new rs all i n lt is before one there r j =
    let here = in-at all i n lt is in
    elim (one (there-in k rs (map entry_seen all) (entry_seen n) there here) r j) [
      | inl was ↦ before there r was
      | inr own ↦ inr (run-in k rs (map entry_seen all) (entry_seen n) r here own)
    ]

-- the same of what stands at a place of the same entries
pub checked-more-at : (k : Looked) (old new : List Run) (rs : List Recorded) (xs all : List JournalEntry) (i : ℕ) (d : JournalEntry) → xs ≡ all → i < length xs → Keeps old new
    → AllChecked k old rs (map entry_seen (take i all)) → EntryChecked k new rs (entry_seen (get_or xs i d)) → AllChecked k new rs (map entry_seen (take (i + 1) all))
checked-more-at k old new rs xs all i d same lt keeps before one =
    subst (λ (ys : List JournalEntry). AllChecked k new rs (map entry_seen (take (i + 1) ys))) same
    (checked-more k old new rs xs i (get_or xs i d) lt (got-self xs i d) keeps (subst (λ (ys : List JournalEntry). AllChecked k old rs (map entry_seen (take i ys))) (sym same) before) one)

pub adds-more-at : (k : Looked) (first old new : List Run) (rs : List Recorded) (xs all : List JournalEntry) (i : ℕ) (d : JournalEntry) → xs ≡ all → i < length xs
    → (AllThere k rs (map entry_seen all) → AddsOnly (IsSomeRun k rs (map entry_seen all)) first old) → (EntryThere k rs (entry_seen (get_or xs i d)) → AddsOnly (IsEntryRun k rs (entry_seen (get_or xs i d))) old new)
    → AllThere k rs (map entry_seen all) → AddsOnly (IsSomeRun k rs (map entry_seen all)) first new
adds-more-at k first old new rs xs all i d same lt before one =
    adds-more k first old new rs all i (get_or xs i d) (subst (λ (ys : List JournalEntry). i < length ys) same lt)
    (subst (λ (ys : List JournalEntry). get_or ys i (get_or xs i d) ≡ get_or xs i d) same (got-self xs i d)) before one

pub stops-at : (k : Looked) (rs : List Recorded) (all : List JournalEntry) (i : ℕ) (n : JournalEntry) → i < length all → get_or all i n ≡ n → (EntryThere k rs (entry_seen n) → Stops k rs (entry_seen n)) → AllThere k rs (map entry_seen all) → SomeStops k rs (map entry_seen all)
stops-at k rs all i n lt is stops there =
    let here = in-at all i n lt is in
    stops-in k rs (map entry_seen all) (entry_seen n) here (stops (there-in k rs (map entry_seen all) (entry_seen n) there here))

pub stops-at-place : (k : Looked) (rs : List Recorded) (xs all : List JournalEntry) (i : ℕ) (d : JournalEntry) → xs ≡ all → i < length xs → (EntryThere k rs (entry_seen (get_or xs i d)) → Stops k rs (entry_seen (get_or xs i d)))
    → AllThere k rs (map entry_seen all) → SomeStops k rs (map entry_seen all)
stops-at-place k rs xs all i d same lt stops =
    stops-at k rs all i (get_or xs i d) (subst (λ (ys : List JournalEntry). i < length ys) same lt)
    (subst (λ (ys : List JournalEntry). get_or ys i (get_or xs i d) ≡ get_or xs i d) same (got-self xs i d)) stops

-- The first fault of a journal by the numbers of items alone is the definition's.
use Rattle.std.proofs.Common.{◌≡◌, ℕ, zero, suc, ◌+◌, ◌-◌, ◌<◌, ◌≤◌, nat_lt, Bool, true, false, ◌&&◌, ◌==◌, cond, List, [], ◌∷◌, ◌++◌, length, map, filter, take, drop, replicate, get_or, slice_get, slice_set, sum, sum_by, Option, Some, None, refl, ap, subst, sym, ◌∙◌, arith, length-append}
use Rattle.std.proofs.lemmas.Bool.Decides.{nat_tests}
use Rattle.std.proofs.lemmas.Bool.{eqb-true}
use Rattle.std.proofs.lemmas.List.{length-map, drop_more, drop_all, take_more, take_all, length-take-le, length-set, get_or-set_same, get_or-set_other, get_or_default}
use Rattle.std.proofs.lemmas.List.Elements.{filter-append}
use Rattle.std.proofs.lemmas.List.Sums.{sum_by-cons}
use Rattle.scene_model.specs.Fold.{Accepted, FramePlan}
use Rattle.scene_model.specs.Journal as model
use Rattle.scene_model.specs.Journal.{Entry, Journal, ordinals_of, item_count, fault_in_frame, fault_of_frames, fault_place}
use Rattle.gfx_words.specs.declared.journal.JournalEntry.{JournalEntry}
use Rattle.scene_text.specs.Seen.{entry_seen}
use Rattle.scene_text.specs.Journals.{entry_count, counts_in, counts_of, has_item, can_stand, fault_in, fault_from}

-- ---- by the numbers of items

total : (encoders : List Accepted) → sum (counts_in encoders) ≡ item_count encoders
total [] = refl
total (a ∷ rest) = sum_by-cons (λ n. n) (length a.items) (counts_in rest) ∙ ap (λ n. length a.items + n) (total rest)

item_there : (o : ℕ) (encoders : List Accepted) (e : ℕ) → has_item o (slice_get (counts_in encoders) e) ≡ model.has_item o (slice_get encoders e)
item_there o [] e = refl
item_there o (a ∷ rest) zero = refl
item_there o (a ∷ rest) (suc e) = item_there o rest e

in_frame : (encoders : List Accepted) (earlier es : List Entry) → fault_in (counts_in encoders) earlier es ≡ fault_in_frame encoders earlier es
in_frame encoders earlier [] = ap (λ n. cond (length earlier == n) None (Some (length earlier))) (total encoders)
in_frame encoders earlier (n ∷ rest) =
    ap (λ b. cond ((n.ordinal == length (ordinals_of n.encoder earlier)) && b) (fault_in (counts_in encoders) (earlier ++ n ∷ []) rest) (Some (length earlier))) (item_there n.ordinal encoders n.encoder)
    ∙ ap (λ f. cond (model.can_stand encoders earlier n) f (Some (length earlier))) (in_frame encoders (earlier ++ n ∷ []) rest)

in_journal : (plans : List FramePlan) (j : Journal) → fault_from (counts_of plans) j ≡ fault_place plans j
in_journal [] [] = refl
in_journal [] (entries ∷ rest) = refl
in_journal (p ∷ ps) [] = refl
in_journal (p ∷ ps) (entries ∷ rest) =
    ap (λ own. fault_of_frames (length entries) own (fault_from (counts_of ps) rest)) (in_frame p.encoders [] entries)
    ∙ ap (fault_of_frames (length entries) (fault_in_frame p.encoders [] entries)) (in_journal ps rest)

pub as_defined : (plans : List FramePlan) (counts : List (List ℕ)) (j : Journal) → counts_of plans ≡ counts → fault_from counts j ≡ fault_place plans j
as_defined plans counts j e = ap (λ c. fault_from c j) (sym e) ∙ in_journal plans j

-- ---- the entries of each encoder so far

-- the list has for each encoder how many entries it had
abbrev pub IsTaken : List ℕ → List Entry → Type 0
IsTaken taken earlier = (e : ℕ) → e < 256 → get_or taken e 0 ≡ length (ordinals_of e earlier)

ordinals_more : (e : ℕ) (earlier : List Entry) (n : Entry) → length (ordinals_of e (earlier ++ n ∷ [])) ≡ length (ordinals_of e earlier) + cond (n.encoder == e) 1 0
ordinals_more e [] n = by (n.encoder == e)
  where
    by : (b : Bool) → length (map (λ m. m.ordinal) (cond b (n ∷ []) [])) ≡ 0 + cond b 1 0
    by true = refl
    by false = refl
ordinals_more e (m ∷ earlier) n = by (m.encoder == e) (ordinals_more e earlier n)
  where
    by : (b : Bool) → length (ordinals_of e (earlier ++ n ∷ [])) ≡ length (ordinals_of e earlier) + cond (n.encoder == e) 1 0
        → length (map (λ x. x.ordinal) (cond b (m ∷ filter (λ x. x.encoder == e) (earlier ++ n ∷ [])) (filter (λ x. x.encoder == e) (earlier ++ n ∷ [])))) ≡ length (map (λ x. x.ordinal) (cond b (m ∷ filter (λ x. x.encoder == e) earlier) (filter (λ x. x.encoder == e) earlier))) + cond (n.encoder == e) 1 0
    by true h = omega (arith, h)
    by false h = h

true_is_false : false ≡ true → ⊥
true_is_false e = absurd (cc e)

same_number : (n : ℕ) → (n == n) ≡ true
same_number n = grind arith

set_at : (xs : List ℕ) (i e v : ℕ) → i < length xs → get_or (slice_set xs i v) e 0 ≡ cond (i == e) v (get_or xs e 0)
set_at xs i e v lt = by (i == e) refl
  where
    by : (b : Bool) → (i == e) ≡ b → get_or (slice_set xs i v) e 0 ≡ cond b v (get_or xs e 0)
    by true t = let same : i ≡ e = eqb-true i e t in ap (λ k. get_or (slice_set xs i v) k 0) (sym same) ∙ get_or-set_same xs i v 0 lt
    by false t = get_or-set_other xs i e v 0 (λ same. true_is_false (sym t ∙ ap (λ k. i == k) same ∙ same_number i))

pub taken_more : (taken : List ℕ) (earlier : List Entry) (n : Entry) → IsTaken taken earlier → length taken ≡ 256 → n.encoder < 256 → n.ordinal ≡ get_or taken n.encoder 0 → IsTaken (slice_set taken n.encoder (n.ordinal + 1)) (earlier ++ n ∷ [])
taken_more taken earlier n h l lt o e small = set_at taken n.encoder e (n.ordinal + 1) (omega (arith, l, lt)) ∙ by (n.encoder == e) refl ∙ sym (ordinals_more e earlier n)
  where
    by : (b : Bool) → (n.encoder == e) ≡ b → cond b (n.ordinal + 1) (get_or taken e 0) ≡ length (ordinals_of e earlier) + cond b 1 0
    by true t = let same : n.encoder ≡ e = eqb-true n.encoder e t in omega (arith, o, ap (λ k. get_or taken k 0) same, h e small)
    by false t = omega (arith, h e small)

zero_at : (n e : ℕ) → ◌≡◌ {A = ℕ} (get_or (replicate n 0) e 0) 0
zero_at zero e = refl
zero_at (suc n) zero = refl
zero_at (suc n) (suc e) = zero_at n e

pub none_taken : (n : ℕ) → IsTaken (replicate n 0) []
none_taken n e small = zero_at n e

-- ---- one entry more

pub stands : (counts : List ℕ) (taken : List ℕ) (earlier : List Entry) (n : Entry) → IsTaken taken earlier → n.encoder < 256 → can_stand counts earlier n ≡ ((n.ordinal == get_or taken n.encoder 0) && has_item n.ordinal (slice_get counts n.encoder))
stands counts taken earlier n h lt = ap (λ k. (n.ordinal == k) && has_item n.ordinal (slice_get counts n.encoder)) (sym (h n.encoder lt))

pub entry_more : (counts : List ℕ) (earlier es : List Entry) (i : ℕ) (d : Entry) → i < length es → can_stand counts earlier (get_or es i d) ≡ true → fault_in counts earlier (drop i es) ≡ fault_in counts (earlier ++ get_or es i d ∷ []) (drop (i + 1) es)
entry_more counts earlier es i d lt s = ap (fault_in counts earlier) (drop_more es i d lt) ∙ ap (λ b. cond b (fault_in counts (earlier ++ get_or es i d ∷ []) (drop (i + 1) es)) (Some (length earlier))) s

pub entry_fails : (counts : List ℕ) (earlier es : List Entry) (i : ℕ) (d : Entry) → i < length es → can_stand counts earlier (get_or es i d) ≡ false → fault_in counts earlier (drop i es) ≡ Some (length earlier)
entry_fails counts earlier es i d lt s = ap (fault_in counts earlier) (drop_more es i d lt) ∙ ap (λ b. cond b (fault_in counts (earlier ++ get_or es i d ∷ []) (drop (i + 1) es)) (Some (length earlier))) s

pub entries_end : (counts : List ℕ) (earlier es : List Entry) (i : ℕ) → length es ≤ i → fault_in counts earlier (drop i es) ≡ cond (length earlier == sum counts) None (Some (length earlier))
entries_end counts earlier es i le = ap (fault_in counts earlier) (drop_all i es le)

-- ---- one frame more

-- a fault behind entries
abbrev pub shifted : ℕ → Option ℕ → Option ℕ
shifted place None = None
shifted place (Some p) = Some (place + p)

pub frame_passes : (place count : ℕ) (own later : Option ℕ) → own ≡ None → shifted place (fault_of_frames count own later) ≡ shifted (place + count) later
frame_passes place count None None e = refl
frame_passes place count None (Some p) e = let k : place + (count + p) ≡ place + count + p = omega arith in ap Some k
frame_passes place count (Some p) later e = absurd (cc e)

pub frame_fails : (place count p : ℕ) (own later : Option ℕ) → own ≡ Some p → shifted place (fault_of_frames count own later) ≡ Some (place + p)
frame_fails place count p None later e = absurd (cc e)
frame_fails place count p (Some q) later e = let k : q ≡ p = cc e in ap (λ n. Some (place + n)) k

pub none_expected : (counts : List (List ℕ)) (j : Journal) (i : ℕ) → length counts ≤ i → i < length j → fault_from (drop i counts) (drop i j) ≡ Some 0
none_expected counts j i le lt = ap (λ c. fault_from c (drop i j)) (drop_all i counts le) ∙ ap (fault_from []) (drop_more j i [] lt)

pub one_missing : (counts : List (List ℕ)) (j : Journal) (i : ℕ) → i < length counts → length j ≤ i → fault_from (drop i counts) (drop i j) ≡ Some 0
one_missing counts j i lt le = ap (λ c. fault_from c (drop i j)) (drop_more counts i [] lt) ∙ ap (fault_from (get_or counts i [] ∷ drop (i + 1) counts)) (drop_all i j le)

pub all_there : (counts : List (List ℕ)) (j : Journal) (i : ℕ) → length counts ≤ i → length j ≤ i → fault_from (drop i counts) (drop i j) ≡ None
all_there counts j i le lj = ap (λ c. fault_from c (drop i j)) (drop_all i counts le) ∙ ap (fault_from []) (drop_all i j lj)

pub frame_next : (counts : List (List ℕ)) (j : Journal) (i : ℕ) → i < length counts → i < length j → fault_from (drop i counts) (drop i j) ≡ fault_of_frames (length (get_or j i [])) (fault_in (get_or counts i []) [] (get_or j i [])) (fault_from (drop (i + 1) counts) (drop (i + 1) j))
frame_next counts j i lt lj = ap (λ c. fault_from c (drop i j)) (drop_more counts i [] lt) ∙ ap (fault_from (get_or counts i [] ∷ drop (i + 1) counts)) (drop_more j i [] lj)

pub count_next : (j : Journal) (i : ℕ) → i < length j → entry_count (drop i j) ≡ length (get_or j i []) + entry_count (drop (i + 1) j)
count_next j i lt = ap entry_count (drop_more j i [] lt) ∙ sum_by-cons length (get_or j i []) (drop (i + 1) j)

-- ---- sums

pub sum_next : (xs : List ℕ) (i d : ℕ) → i < length xs → sum (drop i xs) ≡ get_or xs i d + sum (drop (i + 1) xs)
sum_next xs i d lt = ap sum (drop_more xs i d lt) ∙ sum_by-cons (λ n. n) (get_or xs i d) (drop (i + 1) xs)

pub sum_end : (xs : List ℕ) (i : ℕ) → length xs ≤ i → sum (drop i xs) ≡ 0
sum_end xs i le = ap sum (drop_all i xs le)

-- ---- the entries of a frame, as the code has them

seen_at : (es : List JournalEntry) (i : ℕ) (d : JournalEntry) → get_or (map entry_seen es) i (entry_seen d) ≡ entry_seen (get_or es i d)
seen_at [] i d = refl
seen_at (e ∷ es) zero d = refl
seen_at (e ∷ es) (suc i) d = seen_at es i d

-- what the code tests of an entry
abbrev test_of : List ℕ → List ℕ → JournalEntry → Bool
test_of counts taken e = (e.ordinal == get_or taken e.encoder 0) && has_item e.ordinal (slice_get counts e.encoder)

stands_seen : (counts taken : List ℕ) (es : List JournalEntry) (i : ℕ) (d : JournalEntry) (b : Bool) → IsTaken taken (take i (map entry_seen es)) → (get_or es i d).encoder < 256 → b ≡ test_of counts taken (get_or es i d) → can_stand counts (take i (map entry_seen es)) (get_or (map entry_seen es) i (entry_seen d)) ≡ b
stands_seen counts taken es i d b h lt v = ap (can_stand counts (take i (map entry_seen es))) (seen_at es i d) ∙ stands counts taken (take i (map entry_seen es)) (entry_seen (get_or es i d)) h lt ∙ sym v

pub entry_refused : (counts taken : List ℕ) (es : List JournalEntry) (i : ℕ) (d : JournalEntry) (b : Bool) (whole : Option ℕ) → i < length es → IsTaken taken (take i (map entry_seen es)) → (get_or es i d).encoder < 256 → b ≡ test_of counts taken (get_or es i d) → b ≡ false → fault_in counts (take i (map entry_seen es)) (drop i (map entry_seen es)) ≡ whole → Some i ≡ whole
entry_refused counts taken es i d b whole lt h byte v n e =
    let l : i < length (map entry_seen es) = omega (arith, lt, length-map es entry_seen) in
    let all : i ≤ length (map entry_seen es) = omega (arith, l) in
    ap Some (sym (length-take-le i (map entry_seen es) all))
    ∙ sym (entry_fails counts (take i (map entry_seen es)) (map entry_seen es) i (entry_seen d) l (stands_seen counts taken es i d b h byte v ∙ n)) ∙ e

next_taken : (es : List JournalEntry) (i : ℕ) (d : JournalEntry) → i < length es → take (i + 1) (map entry_seen es) ≡ take i (map entry_seen es) ++ entry_seen (get_or es i d) ∷ []
next_taken es i d lt = take_more (map entry_seen es) i (entry_seen d) (omega (arith, lt, length-map es entry_seen)) ∙ ap (λ n. take i (map entry_seen es) ++ n ∷ []) (seen_at es i d)

pub entry_passes : (counts taken : List ℕ) (es : List JournalEntry) (i : ℕ) (d : JournalEntry) (b : Bool) (whole : Option ℕ) → i < length es → IsTaken taken (take i (map entry_seen es)) → (get_or es i d).encoder < 256 → b ≡ test_of counts taken (get_or es i d) → b ≡ true → fault_in counts (take i (map entry_seen es)) (drop i (map entry_seen es)) ≡ whole → fault_in counts (take (i + 1) (map entry_seen es)) (drop (i + 1) (map entry_seen es)) ≡ whole
entry_passes counts taken es i d b whole lt h byte v n e =
    let l : i < length (map entry_seen es) = omega (arith, lt, length-map es entry_seen) in
    ap (λ xs. fault_in counts xs (drop (i + 1) (map entry_seen es))) (take_more (map entry_seen es) i (entry_seen d) l)
    ∙ sym (entry_more counts (take i (map entry_seen es)) (map entry_seen es) i (entry_seen d) l (stands_seen counts taken es i d b h byte v ∙ n)) ∙ e

both_true : (a b : Bool) → (a && b) ≡ true → a ≡ true
both_true true b e = refl
both_true false b e = absurd (cc e)

pub taken_next : (counts taken : List ℕ) (es : List JournalEntry) (i : ℕ) (d : JournalEntry) (b : Bool) → i < length es → length taken ≡ 256 → IsTaken taken (take i (map entry_seen es)) → (get_or es i d).encoder < 256 → b ≡ test_of counts taken (get_or es i d) → b ≡ true → IsTaken (slice_set taken (get_or es i d).encoder ((get_or es i d).ordinal + 1)) (take (i + 1) (map entry_seen es))
taken_next counts taken es i d b lt long h byte v n =
    let t = both_true ((get_or es i d).ordinal == get_or taken (get_or es i d).encoder 0) (has_item (get_or es i d).ordinal (slice_get counts (get_or es i d).encoder)) (sym v ∙ n) in
    subst (IsTaken (slice_set taken (get_or es i d).encoder ((get_or es i d).ordinal + 1))) (sym (next_taken es i d lt))
    (taken_more taken (take i (map entry_seen es)) (entry_seen (get_or es i d)) h long byte (eqb-true _ _ t))

-- ---- the frames of a journal, as the code has them

pub surplus_frame : (counts : List (List ℕ)) (j : Journal) (i place : ℕ) (whole : Option ℕ) → length counts ≤ i → i < length j → shifted place (fault_from (drop i counts) (drop i j)) ≡ whole → Some place ≡ whole
surplus_frame counts j i place whole le lt e = let k : place ≡ place + 0 = omega arith in ap Some k ∙ sym (ap (shifted place) (none_expected counts j i le lt)) ∙ e

pub missing_frame : (counts : List (List ℕ)) (j : Journal) (i place : ℕ) (whole : Option ℕ) → i < length counts → length j ≤ i → shifted place (fault_from (drop i counts) (drop i j)) ≡ whole → Some place ≡ whole
missing_frame counts j i place whole lt le e = let k : place ≡ place + 0 = omega arith in ap Some k ∙ sym (ap (shifted place) (one_missing counts j i lt le)) ∙ e

pub frame_refused : (counts : List (List ℕ)) (j : Journal) (i place p : ℕ) (whole : Option ℕ) → i < length counts → i < length j → Some p ≡ fault_in (get_or counts i []) [] (get_or j i []) → shifted place (fault_from (drop i counts) (drop i j)) ≡ whole → Some (place + p) ≡ whole
frame_refused counts j i place p whole lt lj f e = sym (frame_fails place (length (get_or j i [])) p (fault_in (get_or counts i []) [] (get_or j i [])) (fault_from (drop (i + 1) counts) (drop (i + 1) j)) (sym f)) ∙ sym (ap (shifted place) (frame_next counts j i lt lj)) ∙ e

pub frame_taken : (counts : List (List ℕ)) (j : Journal) (i place : ℕ) (whole : Option ℕ) → i < length counts → i < length j → None ≡ fault_in (get_or counts i []) [] (get_or j i []) → shifted place (fault_from (drop i counts) (drop i j)) ≡ whole → shifted (place + length (get_or j i [])) (fault_from (drop (i + 1) counts) (drop (i + 1) j)) ≡ whole
frame_taken counts j i place whole lt lj f e = sym (frame_passes place (length (get_or j i [])) (fault_in (get_or counts i []) [] (get_or j i [])) (fault_from (drop (i + 1) counts) (drop (i + 1) j)) (sym f)) ∙ sym (ap (shifted place) (frame_next counts j i lt lj)) ∙ e

pub frame_seen_at : (frames : List (List JournalEntry)) (i : ℕ) → get_or (map (map entry_seen) frames) i [] ≡ map entry_seen (get_or frames i [])
frame_seen_at [] i = refl
frame_seen_at (f ∷ fs) zero = refl
frame_seen_at (f ∷ fs) (suc i) = frame_seen_at fs i

-- a frame at its place
pub frame_at : (frames : List (List JournalEntry)) (i : ℕ) (f : List JournalEntry) → i < length frames → f ≡ get_or frames i f → get_or (map (map entry_seen) frames) i [] ≡ map entry_seen f
frame_at frames i f lt e = frame_seen_at frames i ∙ ap (map entry_seen) (get_or_default frames i [] f lt ∙ sym e)

pub frame_length : (frames : List (List JournalEntry)) (i : ℕ) (f : List JournalEntry) → i < length frames → f ≡ get_or frames i f → length (get_or (map (map entry_seen) frames) i []) ≡ length f
frame_length frames i f lt e = ap length (frame_at frames i f lt e) ∙ length-map f entry_seen

pub fault_same : (counts : List (List ℕ)) (frames : List (List JournalEntry)) (i : ℕ) (row : List ℕ) (f es : List JournalEntry) (r : Option ℕ) → r ≡ fault_in row [] (map entry_seen es) → row ≡ get_or counts i [] → es ≡ f → i < length frames → f ≡ get_or frames i f → r ≡ fault_in (get_or counts i []) [] (get_or (map (map entry_seen) frames) i [])
fault_same counts frames i row f es r v c e lt at_i = v ∙ ap (λ x. fault_in x [] (map entry_seen es)) c ∙ ap (fault_in (get_or counts i []) []) (ap (map entry_seen) e ∙ sym (frame_at frames i f lt at_i))

pub frame_room : (frames : List (List JournalEntry)) (i place : ℕ) (f : List JournalEntry) → i < length frames → f ≡ get_or frames i f → place + entry_count (drop i (map (map entry_seen) frames)) ≡ entry_count (map (map entry_seen) frames) → place + length f + entry_count (drop (i + 1) (map (map entry_seen) frames)) ≡ entry_count (map (map entry_seen) frames)
frame_room frames i place f lt e s = omega (arith, s, count_next (map (map entry_seen) frames) i (omega (arith, lt, length-map frames (map entry_seen))), frame_length frames i f lt e)

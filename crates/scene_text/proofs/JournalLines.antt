-- Reading a journal, entry by entry and line by line.
use Rattle.std.proofs.Common.{◌≡◌, ℕ, zero, suc, ◌+◌, ◌-◌, ◌<◌, ◌≤◌, nat_le, Bool, true, false, ◌&&◌, ◌==◌, cond, List, [], ◌∷◌, ◌++◌, length, map, sum_by, take, drop, get_or, Option, Some, None, Result, Ok, Err, bytes_eq, codes, refl, ap, subst, sym, ◌∙◌, arith}
use Rattle.std.specs.List.{AllByRecursion}
use Rattle.std.specs.Option.{MatchOption}
use Rattle.std.specs.Prelude.{IfOk}
use Rattle.std.specs.Borrow.{Bor}
use Rattle.std.proofs.lemmas.Bool.{leb-true}
use Rattle.std.proofs.lemmas.Bool.Decides.{nat_tests}
use Rattle.std.proofs.lemmas.List.{append_assoc, append-nil, length-map, drop_more, drop_all}
use Rattle.std.proofs.lemmas.List.Sums.{sum_by-cons}
use Rattle.scene_model.specs.Field.{split_at, with_head, is_numeral, value_onto}
use Rattle.scene_model.specs.Grammar.{is_skipped}
use Rattle.scene_model.specs.Journal.{Entry, Journal}
use Rattle.scene_model.specs.JournalText.{number_within, entry_from, entry_of_pieces, entry_field, EntriesRead, entries_onto, entries_in, entries_behind, entries_of_line, with_first, after_line, at_last_piece, journal_pieces, journal_of, greatest_encoder, greatest_ordinal}
use Rattle.scene_model.specs.TextLaws.{IsSpellable}
use Rattle.gfx_words.specs.declared.journal.JournalEntry.{JournalEntry}
use Rattle.scene_text.specs.Seen.{entry_seen}
use Rattle.scene_text.specs.declared.journal.JournalFault.{JournalFault}
use Rattle.text_fields.specs.Fields.{texts}
use Rattle.scene_text.specs.Journals.{behind_frames, entry_count, IsOnePiece, Passes}
use Rattle.scene_text.proofs.Lines.{parts}

-- ---- entries

-- a number that is spelled as one is within its range or above it
pub within : (f : List ℕ) (high : ℕ) (r : Option ℕ) → is_numeral f ≡ true → MatchOption r (high < value_onto 0 f) (λ n. (n ≡ value_onto 0 f) × (n ≤ high)) → r ≡ number_within high f
within f high None n h = let e : nat_le (value_onto 0 f) high ≡ false = grind (arith, nat_tests) in rw (n, e) refl
within f high (Some k) n h = let e : nat_le (value_onto 0 f) high ≡ true = grind (arith, nat_tests) in rw (n, e) (ap Some h.0)

-- a field that has more pieces than two
pub entry_more : (f p rest : List ℕ) → split_at 58 f ≡ p ∷ split_at 58 rest → IsOnePiece false rest → entry_field f ≡ None
entry_more f p rest e more = ap entry_of_pieces e ∙ ap (λ ps. entry_of_pieces (p ∷ ps)) more.3

-- a field of two pieces
pub entry_two : (f p rest : List ℕ) → split_at 58 f ≡ p ∷ split_at 58 rest → IsOnePiece true rest → entry_field f ≡ entry_from (number_within 255 p) (number_within 4294967295 rest)
entry_two f p rest e one = ap entry_of_pieces e ∙ ap (λ ps. entry_of_pieces (p ∷ ps)) one

pub one_more : (f p rest : List ℕ) → split_at 58 f ≡ p ∷ split_at 58 rest → IsOnePiece false f
one_more f p rest e = let s = parts 58 rest in (p, s.first, s.rest, e ∙ ap (λ ps. p ∷ ps) s.are)

-- ---- the entries of a line

-- what is read behind entries that were read
abbrev pub entries_after : List Entry → EntriesRead → EntriesRead
entries_after done r = record { entries = done ++ r.entries; is_whole = r.is_whole }

abbrev read_as : List Entry → Bool → EntriesRead
read_as entries is_whole = record { entries = entries; is_whole = is_whole }

pub entry_next : (done : List Entry) (fs : List (List ℕ)) (i : ℕ) (n : Entry) → i < length fs → entry_field (get_or fs i []) ≡ Some n → entries_after done (entries_in (drop i fs)) ≡ entries_after (done ++ n ∷ []) (entries_in (drop (i + 1) fs))
entry_next done fs i n lt e =
    ap (λ xs. entries_after done (entries_in xs)) (drop_more fs i [] lt)
    ∙ ap (λ o. entries_after done (entries_onto o (entries_in (drop (i + 1) fs)))) e
    ∙ ap (λ xs. read_as xs (entries_in (drop (i + 1) fs)).is_whole) (sym (append_assoc done (n ∷ []) (entries_in (drop (i + 1) fs)).entries))

pub entry_stops : (done : List Entry) (fs : List (List ℕ)) (i : ℕ) → i < length fs → entry_field (get_or fs i []) ≡ None → entries_after done (entries_in (drop i fs)) ≡ read_as done false
entry_stops done fs i lt e =
    ap (λ xs. entries_after done (entries_in xs)) (drop_more fs i [] lt)
    ∙ ap (λ o. entries_after done (entries_onto o (entries_in (drop (i + 1) fs)))) e
    ∙ ap (λ xs. read_as xs false) (append-nil done)

pub entries_end : (done : List Entry) (fs : List (List ℕ)) (i : ℕ) → length fs ≤ i → entries_after done (entries_in (drop i fs)) ≡ read_as done true
entries_end done fs i le = ap (λ xs. entries_after done (entries_in xs)) (drop_all i fs le) ∙ ap (λ xs. read_as xs true) (append-nil done)

-- ---- how many entries a line has at most

pieces_few : (c : ℕ) (xs : List ℕ) → length (split_at c xs) ≤ length xs + 1
pieces_few c [] = omega arith
pieces_few c (x ∷ xs) = by (x == c) (pieces_few c xs)
  where
    headed : (ps : List (List ℕ)) → length ps ≤ length xs + 1 → length (with_head x ps) ≤ suc (length xs) + 1
    headed [] h = omega arith
    headed (p ∷ ps) h = omega (arith, h)

    by : (t : Bool) → length (split_at c xs) ≤ length xs + 1 → length (cond t ([] ∷ split_at c xs) (with_head x (split_at c xs))) ≤ suc (length xs) + 1
    by true h = omega (arith, h)
    by false h = headed (split_at c xs) h

entries_few : (fs : List (List ℕ)) → length (entries_in fs).entries ≤ length fs
entries_few [] = omega arith
entries_few (f ∷ fs) = by (entry_field f) (entries_few fs)
  where
    by : (o : Option Entry) → length (entries_in fs).entries ≤ length fs → length (entries_onto o (entries_in fs)).entries ≤ suc (length fs)
    by None h = omega arith
    by (Some n) h = omega (arith, h)

behind_few : (fs : List (List ℕ)) (most : ℕ) → length fs ≤ most + 1 → length (entries_behind fs).entries ≤ most
behind_few [] most h = omega arith
behind_few (w ∷ fs) most h = by (bytes_eq w (codes "j")) (entries_few fs)
  where
    by : (b : Bool) → length (entries_in fs).entries ≤ length fs → length (cond b (entries_in fs) (read_as [] false)).entries ≤ most
    by true k = omega (arith, h, k)
    by false k = omega arith

pub line_few : (line : List ℕ) (es : List JournalEntry) (b : Bool) → read_as (map entry_seen es) b ≡ entries_of_line line → length es ≤ length line
line_few line es b e = omega (arith, ap (λ r. length r.entries) e, length-map es entry_seen, behind_few (split_at 32 line) (length line) (pieces_few 32 line))

-- ---- lines

pub skipped : (p q : List ℕ) (rest : List (List ℕ)) (n : ℕ) → is_skipped p ≡ true → journal_pieces (p ∷ q ∷ rest) n ≡ journal_pieces (q ∷ rest) n
skipped p q rest zero s = rw s refl
skipped p q rest (suc n) s = rw s refl

pub surplus : (p q : List ℕ) (rest : List (List ℕ)) (n : ℕ) → is_skipped p ≡ false → n ≡ 0 → journal_pieces (p ∷ q ∷ rest) n ≡ Err 0
surplus p q rest zero s e = rw s refl
surplus p q rest (suc n) s e = absurd (omega (arith, e))

pub expected : (p q : List ℕ) (rest : List (List ℕ)) (n m : ℕ) → is_skipped p ≡ false → m + 1 ≡ n → journal_pieces (p ∷ q ∷ rest) n ≡ after_line (entries_of_line p) (journal_pieces (q ∷ rest) m)
expected p q rest zero m s e = absurd (omega (arith, e))
expected p q rest (suc n) m s e = let k : n ≡ m = omega (arith, e) in rw (s, k) refl

-- a whole line in front
pub line_joins : (done : Journal) (count : ℕ) (entries : List Entry) (rest : Result Journal ℕ) → behind_frames done count (after_line (read_as entries true) rest) ≡ behind_frames (done ++ entries ∷ []) (count + length entries) rest
line_joins done count entries (Ok j) = ap Ok (sym (append_assoc done (entries ∷ []) j))
line_joins done count entries (Err place) = let e : count + (length entries + place) ≡ count + length entries + place = omega arith in ap Err e

-- ---- the last piece

pub last_missing : (n : ℕ) (piece : List ℕ) → 0 < n → piece ≡ [] → at_last_piece n piece ≡ Err 0
last_missing zero piece lt e = absurd (omega arith)
last_missing (suc n) piece lt e = rw e refl

pub last_surplus : (n : ℕ) (piece : List ℕ) → n ≡ 0 → 0 < length piece → at_last_piece n piece ≡ Err 0
last_surplus zero [] e lt = absurd (omega arith)
last_surplus zero (b ∷ bs) e lt = refl
last_surplus (suc n) piece e lt = absurd (omega (arith, e))

pub last_open : (n : ℕ) (piece : List ℕ) → 0 < n → 0 < length piece → at_last_piece n piece ≡ Err (length (entries_of_line piece).entries)
last_open zero piece lt l = absurd (omega arith)
last_open (suc n) [] lt l = absurd (omega arith)
last_open (suc n) (b ∷ bs) lt l = refl

-- ---- lines in their places

pub text_at : (fs : List (Bor (List ℕ))) (i : ℕ) (d : Bor (List ℕ)) → get_or (texts fs) i d.now ≡ (get_or fs i d).now
text_at [] i d = refl
text_at (f ∷ fs) zero d = refl
text_at (f ∷ fs) (suc i) d = text_at fs i d

-- a line that is not skipped is read as its entries are
pub line_passes : {A : Type 0} (r : Result A JournalFault) (done new : Journal) (count next left after : ℕ) (p q : List ℕ) (rest : List (List ℕ)) (es : EntriesRead) → is_skipped p ≡ false → 0 < left → es ≡ entries_of_line p → IfOk r (λ x. after + 1 ≡ left)
    → ((k : Result Journal ℕ) → Passes r (behind_frames done count (after_line es k)) (behind_frames new next k))
    → Passes r (behind_frames done count (journal_pieces (p ∷ q ∷ rest) left)) (behind_frames new next (journal_pieces (q ∷ rest) after))
line_passes (Ok x) done new count next left after p q rest es s lt e l k =
    ap (behind_frames done count) (expected p q rest left after s l ∙ ap (λ r. after_line r (journal_pieces (q ∷ rest) after)) (sym e)) ∙ k (journal_pieces (q ∷ rest) after)
line_passes (Err fault) done new count next left after p q rest es s lt e l k =
    let m : left - 1 + 1 ≡ left = omega (arith, lt) in
    subst (λ t. Passes {A = Unit {0}} (Err fault) t (behind_frames new next (journal_pieces (q ∷ rest) (left - 1))))
    (sym (ap (behind_frames done count) (expected p q rest left (left - 1) s m ∙ ap (λ r. after_line r (journal_pieces (q ∷ rest) (left - 1))) (sym e))))
    (k (journal_pieces (q ∷ rest) (left - 1)))

-- a line of a text, with what follows it
pub journal_step : {A : Type 0} (r : Result A JournalFault) (done : Journal) (count left : ℕ) (text p after : List ℕ) (whole : Result Journal ℕ) (later : List (List ℕ) → Result Journal ℕ) → behind_frames done count (journal_pieces (split_at 10 text) left) ≡ whole → split_at 10 text ≡ p ∷ split_at 10 after
    → ((q : List ℕ) (rest : List (List ℕ)) → Passes r (behind_frames done count (journal_pieces (p ∷ q ∷ rest) left)) (later (q ∷ rest)))
    → Passes r whole (later (split_at 10 after))
journal_step r done count left text p after whole later e s k =
    let q = parts 10 after in
    let before : behind_frames done count (journal_pieces (p ∷ q.first ∷ q.rest) left) ≡ whole = ap (λ ps. behind_frames done count (journal_pieces ps left)) (sym (s ∙ ap (λ ps. p ∷ ps) q.are)) ∙ e in
    subst (λ b. Passes r b (later (split_at 10 after))) before
    (subst (λ ps. Passes r (behind_frames done count (journal_pieces (p ∷ q.first ∷ q.rest) left)) (later ps)) (sym q.are) (k q.first q.rest))

-- ---- how many entries a journal has at most

entries_least : (line : List ℕ) → length (entries_of_line line).entries ≤ length line
entries_least line = behind_few (split_at 32 line) (length line) (pieces_few 32 line)

-- the pieces are no longer than the whole
pieces_short : (c : ℕ) (xs : List ℕ) → sum_by length (split_at c xs) ≤ length xs
pieces_short c [] = omega arith
pieces_short c (x ∷ xs) = by (x == c) (pieces_short c xs)
  where
    headed : (ps : List (List ℕ)) → sum_by length ps ≤ length xs → sum_by length (with_head x ps) ≤ suc (length xs)
    headed [] h = omega (arith, h)
    headed (p ∷ ps) h = omega (arith, h, sum_by-cons length p ps, sum_by-cons length (x ∷ p) ps)

    by : (t : Bool) → sum_by length (split_at c xs) ≤ length xs → sum_by length (cond t ([] ∷ split_at c xs) (with_head x (split_at c xs))) ≤ suc (length xs)
    by true h = omega (arith, h, sum_by-cons length [] (split_at c xs))
    by false h = headed (split_at c xs) h

abbrev as_read : Bool → Result Journal ℕ → Result Journal ℕ → Result Journal ℕ
as_read b r s = cond b r s

pieces_entries : (ps : List (List ℕ)) (n : ℕ) (j : Journal) → journal_pieces ps n ≡ Ok j → entry_count j ≤ sum_by length ps
pieces_entries [] n j e = absurd (cc e)
pieces_entries (p ∷ []) zero j e = last p e
  where
    last : (p : List ℕ) → at_last_piece 0 p ≡ Ok j → entry_count j ≤ sum_by length (p ∷ [])
    last [] e = let same : [] ≡ j = cc e in subst (λ k. entry_count k ≤ 0) same (omega arith)
    last (b ∷ bs) e = absurd (cc e)
pieces_entries (p ∷ []) (suc n) j e = last p e
  where
    last : (p : List ℕ) → at_last_piece (suc n) p ≡ Ok j → entry_count j ≤ sum_by length (p ∷ [])
    last [] e = absurd (cc e)
    last (b ∷ bs) e = absurd (cc e)
pieces_entries (p ∷ q ∷ rest) zero j e = by (is_skipped p) e (pieces_entries (q ∷ rest) 0 j)
  where
    by : (b : Bool) → as_read b (journal_pieces (q ∷ rest) 0) (Err 0) ≡ Ok j → (journal_pieces (q ∷ rest) 0 ≡ Ok j → entry_count j ≤ sum_by length (q ∷ rest)) → entry_count j ≤ sum_by length (p ∷ q ∷ rest)
    by true e later = omega (arith, later e, sum_by-cons length p (q ∷ rest))
    by false e later = absurd (cc e)
pieces_entries (p ∷ q ∷ rest) (suc n) j e = by (is_skipped p) e (pieces_entries (q ∷ rest) (suc n) j) (pieces_entries (q ∷ rest) n)
  where
    joined : (r : Result Journal ℕ) → with_first (entries_of_line p).entries r ≡ Ok j → ((k : Journal) → r ≡ Ok k → entry_count k ≤ sum_by length (q ∷ rest)) → entry_count j ≤ sum_by length (p ∷ q ∷ rest)
    joined (Ok k) e later =
        let same : (entries_of_line p).entries ∷ k ≡ j = cc e in
        subst (λ t. entry_count t ≤ sum_by length (p ∷ q ∷ rest)) same
        (omega (arith, sum_by-cons length (entries_of_line p).entries k, sum_by-cons length p (q ∷ rest), entries_least p, later k refl))
    joined (Err place) e later = absurd (cc e)

    whole : (b : Bool) → as_read b (with_first (entries_of_line p).entries (journal_pieces (q ∷ rest) n)) (Err (length (entries_of_line p).entries)) ≡ Ok j → ((k : Journal) → journal_pieces (q ∷ rest) n ≡ Ok k → entry_count k ≤ sum_by length (q ∷ rest)) → entry_count j ≤ sum_by length (p ∷ q ∷ rest)
    whole true e later = joined (journal_pieces (q ∷ rest) n) e later
    whole false e later = absurd (cc e)

    by : (b : Bool) → as_read b (journal_pieces (q ∷ rest) (suc n)) (after_line (entries_of_line p) (journal_pieces (q ∷ rest) n)) ≡ Ok j → (journal_pieces (q ∷ rest) (suc n) ≡ Ok j → entry_count j ≤ sum_by length (q ∷ rest)) → ((k : Journal) → journal_pieces (q ∷ rest) n ≡ Ok k → entry_count k ≤ sum_by length (q ∷ rest)) → entry_count j ≤ sum_by length (p ∷ q ∷ rest)
    by true e later below = omega (arith, later e, sum_by-cons length p (q ∷ rest))
    by false e later below = whole (entries_of_line p).is_whole e below

-- a journal has no more entries than its text has bytes
pub journal_short : (bytes : List ℕ) (n : ℕ) (j : Journal) → journal_of bytes n ≡ Ok j → entry_count j ≤ length bytes
journal_short bytes n j e = omega (arith, pieces_entries (split_at 10 bytes) n j e, pieces_short 10 bytes)

-- ---- the numbers of entries that are read

both_of : (a b : Bool) → (a && b) ≡ true → (a ≡ true) × (b ≡ true)
both_of true b e = (refl, e)
both_of false b e = absurd (cc e)

number_small : (high : ℕ) (f : List ℕ) (n : ℕ) → number_within high f ≡ Some n → n ≤ high
number_small high f n e = by (is_numeral f && nat_le (value_onto 0 f) high) refl e
  where
    by : (b : Bool) → (is_numeral f && nat_le (value_onto 0 f) high) ≡ b → cond {A = Option ℕ} b (Some (value_onto 0 f)) None ≡ Some n → n ≤ high
    by true h e =
        let same : value_onto 0 f ≡ n = cc e in
        subst (λ k. k ≤ high) same (leb-true (value_onto 0 f) high (both_of (is_numeral f) (nat_le (value_onto 0 f) high) h).1)
    by false h e = absurd (cc e)

entry_small : (a b : Option ℕ) (n : Entry) → ((x : ℕ) → a ≡ Some x → x ≤ greatest_encoder) → ((x : ℕ) → b ≡ Some x → x ≤ greatest_ordinal) → entry_from a b ≡ Some n → IsSpellable n
entry_small None b n p q e = absurd (cc e)
entry_small (Some x) None n p q e = absurd (cc e)
entry_small (Some x) (Some y) n p q e = subst IsSpellable (the_entry x y n e) (p x refl, q y refl)
  where
    the_entry : (x y : ℕ) (n : Entry) → entry_from (Some x) (Some y) ≡ Some n → record { encoder = x; ordinal = y } ≡ n
    the_entry x y n e = cc e

field_small : (ps : List (List ℕ)) (n : Entry) → entry_of_pieces ps ≡ Some n → IsSpellable n
field_small [] n e = absurd (cc e)
field_small (a ∷ []) n e = absurd (cc e)
field_small (a ∷ b ∷ []) n e = entry_small (number_within greatest_encoder a) (number_within greatest_ordinal b) n (number_small greatest_encoder a) (number_small greatest_ordinal b) e
field_small (a ∷ b ∷ c ∷ rest) n e = absurd (cc e)

abbrev AreSmall : List Entry → Type 0
AreSmall es = AllByRecursion IsSpellable es

entries_small : (fs : List (List ℕ)) → AreSmall (entries_in fs).entries
entries_small [] = tt
entries_small (f ∷ fs) = by (entry_field f) refl (entries_small fs)
  where
    by : (o : Option Entry) → entry_field f ≡ o → AreSmall (entries_in fs).entries → AreSmall (entries_onto o (entries_in fs)).entries
    by None e h = tt
    by (Some n) e h = (field_small (split_at 58 f) n e, h)

behind_small : (fs : List (List ℕ)) → AreSmall (entries_behind fs).entries
behind_small [] = tt
behind_small (w ∷ fs) = by (bytes_eq w (codes "j")) (entries_small fs)
  where
    by : (b : Bool) → AreSmall (entries_in fs).entries → AreSmall (cond b (entries_in fs) (read_as [] false)).entries
    by true h = h
    by false h = tt

abbrev IsSmall : Journal → Type 0
IsSmall j = AllByRecursion AreSmall j

pieces_small : (ps : List (List ℕ)) (n : ℕ) (j : Journal) → journal_pieces ps n ≡ Ok j → IsSmall j
pieces_small [] n j e = absurd (cc e)
pieces_small (p ∷ []) zero j e = last p e
  where
    last : (p : List ℕ) → at_last_piece 0 p ≡ Ok j → IsSmall j
    last [] e = let same : [] ≡ j = cc e in subst IsSmall same tt
    last (b ∷ bs) e = absurd (cc e)
pieces_small (p ∷ []) (suc n) j e = last p e
  where
    last : (p : List ℕ) → at_last_piece (suc n) p ≡ Ok j → IsSmall j
    last [] e = absurd (cc e)
    last (b ∷ bs) e = absurd (cc e)
pieces_small (p ∷ q ∷ rest) zero j e = by (is_skipped p) e (pieces_small (q ∷ rest) 0 j)
  where
    by : (b : Bool) → as_read b (journal_pieces (q ∷ rest) 0) (Err 0) ≡ Ok j → (journal_pieces (q ∷ rest) 0 ≡ Ok j → IsSmall j) → IsSmall j
    by true e later = later e
    by false e later = absurd (cc e)
pieces_small (p ∷ q ∷ rest) (suc n) j e = by (is_skipped p) e (pieces_small (q ∷ rest) (suc n) j) (pieces_small (q ∷ rest) n)
  where
    joined : (r : Result Journal ℕ) → with_first (entries_of_line p).entries r ≡ Ok j → ((k : Journal) → r ≡ Ok k → IsSmall k) → IsSmall j
    joined (Ok k) e later =
        let same : (entries_of_line p).entries ∷ k ≡ j = cc e in
        subst IsSmall same (behind_small (split_at 32 p), later k refl)
    joined (Err place) e later = absurd (cc e)

    whole : (b : Bool) → as_read b (with_first (entries_of_line p).entries (journal_pieces (q ∷ rest) n)) (Err (length (entries_of_line p).entries)) ≡ Ok j → ((k : Journal) → journal_pieces (q ∷ rest) n ≡ Ok k → IsSmall k) → IsSmall j
    whole true e later = joined (journal_pieces (q ∷ rest) n) e later
    whole false e later = absurd (cc e)

    by : (b : Bool) → as_read b (journal_pieces (q ∷ rest) (suc n)) (after_line (entries_of_line p) (journal_pieces (q ∷ rest) n)) ≡ Ok j → (journal_pieces (q ∷ rest) (suc n) ≡ Ok j → IsSmall j) → ((k : Journal) → journal_pieces (q ∷ rest) n ≡ Ok k → IsSmall k) → IsSmall j
    by true e later below = later e
    by false e later below = whole (entries_of_line p).is_whole e below

-- the entries of a journal that is read are in their ranges
pub journal_small : (bytes : List ℕ) (n : ℕ) (j : Journal) → journal_of bytes n ≡ Ok j → AllByRecursion (AllByRecursion IsSpellable) j
journal_small bytes n j e = pieces_small (split_at 10 bytes) n j e

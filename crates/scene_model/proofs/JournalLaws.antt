-- The text of a journal is read as that journal.
use Rattle.std.proofs.Common.{◌≡◌, ℕ, suc, ◌^◌, ◌<◌, ◌≤◌, nat_le, Bool, true, false, not, ◌&&◌, ◌==◌, List, [], ◌∷◌, ◌++◌, map, length, lit<, Some, refl, ap, sym, ◌∙◌, arith, append_assoc}
use Rattle.std.specs.Prelude.{codes, flat_map}
use Rattle.std.specs.List.{AllByRecursion}
use Rattle.std.specs.Fmt.{decimal}
use Rattle.std.proofs.lemmas.Bool.Decides.{nat_tests}
use Rattle.scene_model.specs.Field.{split_at}
use Rattle.scene_model.specs.Journal.{Entry}
use Rattle.scene_model.specs.Output.{entry_text, journal_line, journal_text}
use Rattle.scene_model.specs.JournalText.{number_within, greatest_encoder, greatest_ordinal, entry_from, entry_of_pieces, entry_field, EntriesRead, entries_onto, entries_in, entries_behind, entries_of_line, after_line, journal_pieces}
use Rattle.scene_model.specs.TextLaws.{IsSpellable, JournalTextLaw}
use Rattle.scene_model.proofs.SplitLaws.{is_free_of, split-found, split-none, split-has}
use Rattle.scene_model.proofs.NumberTexts.{decimal-value, decimal-numeral, decimal-free}

-- ---- entries

-- an entry without the blank before it
abbrev entry_spelled : Entry → List ℕ
entry_spelled n = decimal n.encoder ++ 58 ∷ decimal n.ordinal

encoder_small : (n : Entry) → IsSpellable n → n.encoder < 2 ^ 64
encoder_small n h = let a = h.0 in let k : greatest_encoder < 2 ^ 64 = lit< tt in omega (arith, a, k)

ordinal_small : (n : Entry) → IsSpellable n → n.ordinal < 2 ^ 64
ordinal_small n h = let a = h.1 in let k : greatest_ordinal < 2 ^ 64 = lit< tt in omega (arith, a, k)

within_again : (high n : ℕ) → n ≤ high → n < 2 ^ 64 → number_within high (decimal n) ≡ Some n
within_again high n fits small =
    let le : nat_le n high ≡ true = grind (arith, nat_tests, fits) in
    rw (decimal-numeral n small, decimal-value n small, le) refl

entry_again : (n : Entry) → IsSpellable n → entry_field (entry_spelled n) ≡ Some n
entry_again n h =
    let e = encoder_small n h in
    let o = ordinal_small n h in
    let pieces = split-found 58 (decimal n.encoder) (decimal n.ordinal) (decimal-free 58 n.encoder refl e) ∙ ap (λ k. decimal n.encoder ∷ k) (split-none 58 (decimal n.ordinal) (decimal-free 58 n.ordinal refl o)) in
    ap entry_of_pieces pieces ∙ (λ i. entry_from (within_again greatest_encoder n.encoder h.0 e i) (within_again greatest_ordinal n.ordinal h.1 o i))

free_joined : (c : ℕ) (xs ys : List ℕ) → is_free_of c xs ≡ true → is_free_of c ys ≡ true → is_free_of c (xs ++ ys) ≡ true
free_joined c [] ys h k = k
free_joined c (x ∷ xs) ys h k = by (not (x == c)) (is_free_of c xs) h (free_joined c xs ys)
  where
    by : (a b : Bool) → (a && b) ≡ true → (b ≡ true → is_free_of c ys ≡ true → is_free_of c (xs ++ ys) ≡ true) → (a && is_free_of c (xs ++ ys)) ≡ true
    by true b h later = later h k
    by false b h later = absurd (cc h)

entry_free : (c : ℕ) (n : Entry) → IsSpellable n → is_free_of c (58 ∷ []) ≡ true → ((m : ℕ) → m < 2 ^ 64 → is_free_of c (decimal m) ≡ true) → is_free_of c (entry_spelled n) ≡ true
entry_free c n h colon digits =
    free_joined c (decimal n.encoder) (58 ∷ decimal n.ordinal) (digits n.encoder (encoder_small n h)) (free_joined c (58 ∷ []) (decimal n.ordinal) colon (digits n.ordinal (ordinal_small n h)))

-- ---- lines

-- a word and the entries behind it fall into these fields
fields_again : (w : List ℕ) (es : List Entry) → is_free_of 32 w ≡ true → AllByRecursion IsSpellable es → split_at 32 (w ++ flat_map entry_text es) ≡ w ∷ map entry_spelled es
fields_again w [] free h = ap (split_at 32) (append_nothing w) ∙ split-none 32 w free
  where
    append_nothing : (xs : List ℕ) → xs ++ [] ≡ xs
    append_nothing [] = refl
    append_nothing (x ∷ xs) = ap (λ k. x ∷ k) (append_nothing xs)
fields_again w (e ∷ es) free h =
    split-found 32 w (entry_spelled e ++ flat_map entry_text es) free
    ∙ ap (λ k. w ∷ k) (fields_again (entry_spelled e) es (entry_free 32 e h.0 refl (λ m small. decimal-free 32 m refl small)) h.1)

abbrev whole_entries : List Entry → EntriesRead
whole_entries es = record { entries = es; is_whole = true }

entries_again : (es : List Entry) → AllByRecursion IsSpellable es → entries_in (map entry_spelled es) ≡ whole_entries es
entries_again [] h = refl
entries_again (e ∷ es) h = let first = entry_again e h.0 in let rest = entries_again es h.1 in λ i. entries_onto (first i) (rest i)

abbrev line_of : List Entry → List ℕ
line_of es = codes "j" ++ flat_map entry_text es

line_again : (es : List Entry) → AllByRecursion IsSpellable es → entries_of_line (line_of es) ≡ whole_entries es
line_again es h = ap entries_behind (fields_again (codes "j") es refl h) ∙ entries_again es h

entries_free : (es : List Entry) → AllByRecursion IsSpellable es → is_free_of 10 (flat_map entry_text es) ≡ true
entries_free [] h = refl
entries_free (e ∷ es) h =
    free_joined 10 (entry_text e) (flat_map entry_text es) (entry_free 10 e h.0 refl (λ m small. decimal-free 10 m refl small)) (entries_free es h.1)

-- ---- texts

one_line_more : (es : List Entry) (rest : List ℕ) (n : ℕ) (q : List ℕ) (qs : List (List ℕ)) → AllByRecursion IsSpellable es → split_at 10 rest ≡ q ∷ qs
    → journal_pieces (line_of es ∷ split_at 10 rest) (suc n) ≡ after_line (whole_entries es) (journal_pieces (split_at 10 rest) n)
one_line_more es rest n q qs h e =
    ap (λ k. journal_pieces (line_of es ∷ k) (suc n)) e
    ∙ ap (λ k. after_line k (journal_pieces (q ∷ qs) n)) (line_again es h)
    ∙ ap (λ k. after_line (whole_entries es) (journal_pieces k n)) (sym e)

text_line : (es : List Entry) (rest : List ℕ) → journal_line es ++ rest ≡ line_of es ++ 10 ∷ rest
text_line es rest = ap (λ k. 106 ∷ k) (append_assoc (flat_map entry_text es) (codes "\n") rest)

pub journal-text-law : JournalTextLaw
journal-text-law [] h = refl
journal-text-law (es ∷ j) h =
    let rest = journal_text j in
    let part = split-has 10 rest in
    let line_free : is_free_of 10 (line_of es) ≡ true = entries_free es h.0 in
    ap (λ k. journal_pieces (split_at 10 k) (length (es ∷ j))) (text_line es rest)
    ∙ ap (λ k. journal_pieces k (length (es ∷ j))) (split-found 10 (line_of es) rest line_free)
    ∙ one_line_more es rest (length j) part.0 part.1 h.0 part.2
    ∙ ap (after_line (whole_entries es)) (journal-text-law j h.1)

-- Lines of a block that are read in one pass.
use Rattle.std.proofs.Common.{◌≡◌, ℕ, ℤ, zero, suc, ◌+◌, ◌-◌, ◌*◌, ◌<◌, ◌≤◌, Bool, true, false, List, ◌==◌, [], ◌∷◌, ◌++◌, length, take, drop, get_or, codes, Ok, FitsSigned, w32, refl, ap, sym, subst, ◌∙◌, arith, inl, inr}
use Rattle.std.specs.List.{list_all}
use Rattle.std.specs.Int.{bit_at}
use Rattle.std.proofs.Math.Seq.{take-suc}
use Rattle.std.proofs.lemmas.Nat.Bits.{bit_at-zero}
use Rattle.std.proofs.lemmas.Bool.{cases_lt, le-leb}
use Rattle.std.proofs.lemmas.Bool.Decides.{nat_tests}
use Rattle.std.proofs.lemmas.List.{drop-drop, length-take, length-drop, get_or-take, get_or-drop}
use Rattle.std.proofs.lemmas.List.Folds.{list_all-append}
use Rattle.std.proofs.lemmas.List.Sums.{AllPass-from_list_all}
use Rattle.scene_model.specs.Field.{split_at, BoundName, is_digit, is_numeral, value_onto, number_to, i32_number, used_name, hex_bytes}
use Rattle.scene_model.specs.Scene.{EncoderLine, set_line, submit_line, transient_vertices_line}
use Rattle.scene_model.specs.Grammar.{Field, Reading, in_block, is_skipped, is_empty_field, line_read, whole_language, on_last_frame, with_encoder_line, after_word, after_encoder_line, read_pieces}
use Rattle.gfx_model.specs.Words.{vec4_value}
use Rattle.scene_text.specs.Cuts.{is_visible, AreVisible, AreMarks, IsCut, IsLine}
use Rattle.scene_text.specs.Runs.{part, IsPart, AreDigits, IsFirstLine, AreRead}
use Rattle.scene_text.proofs.Lines.{line_step}
use Rattle.scene_text.specs.LineWords.{word_of, after_parts}
use Rattle.scene_text.proofs.CutLines.{cut_first, cut_more, cut_line, line_found}
use Rattle.scene_text.proofs.LineParts.{line_parts}

-- ---- the end of a field

true_false : (b : Bool) → (b ≡ false → ⊥) → b ≡ true
true_false true h = refl
true_false false h = absurd (h refl)

-- 32 bytes without a mark are visible
pub run_more : (bytes : List ℕ) (from place marks : ℕ) → AreVisible bytes from place → AreMarks bytes place marks → marks ≡ 0 → AreVisible bytes from (place + 32)
run_more bytes from place marks v m none k low high =
    elim (cases_lt k place) [
      | inl early ↦ v k low early
      | inr late ↦
          let back : place + (k - place) ≡ k = omega arith in
          true_false _ (λ hidden. absurd (omega (arith, m.each (k - place) (omega arith) (ap (λ j. is_visible (get_or bytes j 0)) back ∙ hidden), ap (λ x. bit_at x (k - place)) none ∙ bit_at-zero (k - place))))
    ]

-- and so are those before the lowest mark
pub run_ends : (bytes : List ℕ) (from place marks bit : ℕ) → AreVisible bytes from place → AreMarks bytes place marks → bit < 32 → ((k : ℕ) → k < bit → bit_at marks k ≡ 0) → AreVisible bytes from (place + bit)
run_ends bytes from place marks bit v m small below k low high =
    elim (cases_lt k place) [
      | inl early ↦ v k low early
      | inr late ↦
          let back : place + (k - place) ≡ k = omega arith in
          true_false _ (λ hidden. absurd (omega (arith, m.each (k - place) (omega arith) (ap (λ j. is_visible (get_or bytes j 0)) back ∙ hidden), below (k - place) (omega arith))))
    ]

-- ---- digits

value_push : (n : ℕ) (xs : List ℕ) (d : ℕ) → value_onto n (xs ++ d ∷ []) ≡ value_onto n xs * 10 + (d - 48)
value_push n [] d = refl
value_push n (x ∷ xs) d = value_push (n * 10 + (x - 48)) xs d

part_more : (bytes : List ℕ) (from place : ℕ) → from ≤ place → place < length bytes → part bytes from (place + 1) ≡ part bytes from place ++ get_or bytes place 0 ∷ []
part_more bytes from place le lt =
    let count : place + 1 - from ≡ suc (place - from) = omega arith in
    let back : from + (place - from) ≡ place = omega arith in
    ap (λ n. take n (drop from bytes)) count
    ∙ take-suc (drop from bytes) (place - from) 0 (omega (arith, length-drop from bytes))
    ∙ ap (λ d. part bytes from place ++ d ∷ []) (get_or-drop from bytes (place - from) 0 ∙ ap (λ j. get_or bytes j 0) back)

pub digits_none : (bytes : List ℕ) (from : ℕ) → from ≤ length bytes → AreDigits bytes from from 0
digits_none bytes from le =
    let none : from - from ≡ 0 = omega arith in
    record {
      ordered = omega arith;
      within = le;
      digits = ap (λ n. list_all is_digit (take n (drop from bytes))) none;
      value = sym (ap (λ n. value_onto 0 (take n (drop from bytes))) none);
    }

pub digits_more : (bytes : List ℕ) (from place n d : ℕ) → AreDigits bytes from place n → place < length bytes → get_or bytes place 0 ≡ d → is_digit d ≡ true → AreDigits bytes from (place + 1) (n * 10 + (d - 48))
digits_more bytes from place n d a lt there digit =
    let more = part_more bytes from place a.ordered lt ∙ ap (λ b. part bytes from place ++ b ∷ []) there in
    record {
      ordered = omega (arith, a.ordered);
      within = omega arith;
      digits = ap (list_all is_digit) more ∙ list_all-append is_digit (part bytes from place) (d ∷ []) ∙ rw (a.digits, digit) refl;
      value = ap (λ v. v * 10 + (d - 48)) a.value ∙ sym (value_push 0 (part bytes from place) d) ∙ sym (ap (value_onto 0) more);
    }

digit_visible : (b : ℕ) → is_digit b ≡ true → is_visible b ≡ true
digit_visible b h = grind (arith, nat_tests, h)

digits_seen : (bytes : List ℕ) (from end n : ℕ) → AreDigits bytes from end n → AreVisible bytes from end
digits_seen bytes from end n a k low high =
    let back : from + (k - from) ≡ k = omega arith in
    digit_visible (get_or bytes k 0)
    (ap is_digit (sym (get_or-take (end - from) (drop from bytes) (k - from) 0 (omega arith) ∙ get_or-drop from bytes (k - from) 0 ∙ ap (λ j. get_or bytes j 0) back))
    ∙ AllPass-from_list_all is_digit (part bytes from end) a.digits (k - from) 0 (omega (arith, length-take (end - from) (drop from bytes), length-drop from bytes, a.within)))

pub digits_part : (bytes : List ℕ) (from end n stop : ℕ) → AreDigits bytes from end n → end < length bytes → get_or bytes end 0 ≡ stop → IsPart bytes from end stop
digits_part bytes from end n stop a lt s = record { ordered = a.ordered; within = lt; visible = digits_seen bytes from end n a; stops = s }

numeral_of : (xs : List ℕ) → list_all is_digit xs ≡ true → 0 < length xs → (get_or xs 0 0 ≡ 48 → length xs ≡ 1) → is_numeral xs ≡ true
numeral_of [] h some lead = absurd (omega arith)
numeral_of (b ∷ []) h some lead = grind (arith, nat_tests, h)
numeral_of (b ∷ c ∷ ys) h some lead =
    let other : b ≡ 48 → ⊥ = λ e. omega (arith, lead e) in
    grind (arith, nat_tests, h, other)

pub digits_numeral : (bytes : List ℕ) (from end n : ℕ) → AreDigits bytes from end n → from < end → (get_or bytes from 0 ≡ 48 → end ≡ from + 1) → is_numeral (part bytes from end) ≡ true
digits_numeral bytes from end n a lt lead =
    let long : length (part bytes from end) ≡ end - from = omega (arith, length-take (end - from) (drop from bytes), length-drop from bytes, a.within) in
    let here : from + 0 ≡ from = omega arith in
    numeral_of (part bytes from end) a.digits (omega (arith, long))
    (λ e. omega (arith, long, lead (sym (get_or-take (end - from) (drop from bytes) 0 0 (omega arith) ∙ get_or-drop from bytes 0 0 ∙ ap (λ j. get_or bytes j 0) here) ∙ e)))

-- ---- lines

pub to_number : (f : Field) (n high : ℕ) → is_numeral f ≡ true → n ≡ value_onto 0 f → n ≤ high → number_to high f ≡ Ok n
to_number f n high i v le = rw (i, sym v, le-leb 0 n (omega arith), le-leb n high le) refl

front_visible : (bytes : List ℕ) (n : ℕ) → list_all is_visible (take n bytes) ≡ true → n ≤ length bytes → AreVisible bytes 0 n
front_visible bytes n h le k low high = ap is_visible (sym (get_or-take n bytes k 0 high)) ∙ AllPass-from_list_all is_visible (take n bytes) h k 0 (omega (arith, length-take n bytes))

-- a word in front that a blank ends
front_cut : (bytes : List ℕ) (n : ℕ) (w : Field) → take n bytes ≡ w → list_all is_visible w ≡ true → n < length bytes → get_or bytes n 0 ≡ 32 → IsCut bytes (n + 1) (w ∷ [])
front_cut bytes n w t v lt blank =
    let whole : n - 0 ≡ n = omega arith in
    subst (λ f. IsCut bytes (n + 1) (f ∷ [])) (ap (λ m. take m bytes) whole ∙ t) (cut_more bytes 0 n [] (cut_first bytes) (omega arith) lt (front_visible bytes n (ap (list_all is_visible) t ∙ v) (omega arith)) blank)

field_more : (bytes : List ℕ) (from end : ℕ) (fs : List Field) → IsCut bytes from fs → IsPart bytes from end 32 → IsCut bytes (end + 1) (fs ++ part bytes from end ∷ [])
field_more bytes from end fs c p = cut_more bytes from end fs c p.ordered p.within p.visible p.stops

field_last : (bytes : List ℕ) (from end : ℕ) (fs : List Field) → IsCut bytes from fs → IsPart bytes from end 10 → IsLine bytes end (fs ++ part bytes from end ∷ [])
field_last bytes from end fs c p = cut_line bytes from end fs c p.ordered p.within p.visible p.stops

not_skipped : (bytes : List ℕ) (end b : ℕ) (r : List ℕ) → bytes ≡ b ∷ r → (b == 35) ≡ false → 0 < end → is_skipped (take end bytes) ≡ false
not_skipped bytes zero b r e h lt = absurd (omega arith)
not_skipped bytes (suc m) b r e h lt = ap (λ x. is_skipped (take (suc m) x)) e ∙ h

first_line : (names : List BoundName) (bytes : List ℕ) (end : ℕ) (fs : List Field) (line : EncoderLine) → IsLine bytes end fs → is_skipped (take end bytes) ≡ false → ((r : Reading) → r.stage ≡ in_block → r.names ≡ names → after_parts r fs ≡ Ok (on_last_frame (with_encoder_line line) r)) → IsFirstLine names bytes end line
first_line names bytes end fs line l skip p =
    let f = line_found bytes end fs l in
    record {
      within = f.0;
      first = f.1;
      read = λ r s n. line_parts r (take end bytes) skip l.text ∙ ap (after_parts r) (sym l.fields) ∙ p r s n;
    }

numeral_filled : (f : Field) → is_numeral f ≡ true → is_empty_field f ≡ false
numeral_filled [] e = absurd (cc e)
numeral_filled (b ∷ bs) e = refl

name_filled : (names : List BoundName) (f : Field) (n : ℕ) → used_name names f ≡ Ok n → is_empty_field f ≡ false
name_filled names [] n e = absurd (cc e)
name_filled names (b ∷ bs) n e = refl

hex_filled : (f : Field) (b : List ℕ) → hex_bytes f ≡ Ok b → is_empty_field f ≡ false
hex_filled [] b e = absurd (cc e)
hex_filled (x ∷ xs) b e = refl

set_parts : (r : Reading) (f1 f2 f3 f4 f5 : Field) (n : ℕ) (x y z w : ℤ) → r.stage ≡ in_block → used_name r.names f1 ≡ Ok n → i32_number f2 ≡ Ok x → i32_number f3 ≡ Ok y → i32_number f4 ≡ Ok z → i32_number f5 ≡ Ok w → is_empty_field f1 ≡ false → is_empty_field f2 ≡ false → is_empty_field f3 ≡ false → is_empty_field f4 ≡ false → is_empty_field f5 ≡ false → after_parts r (codes "set" ∷ f1 ∷ f2 ∷ f3 ∷ f4 ∷ f5 ∷ []) ≡ Ok (on_last_frame (with_encoder_line (set_line n (vec4_value (x ∷ y ∷ z ∷ w ∷ [])))) r)
unfolding after_parts word_of after_word after_encoder_line
set_parts r f1 f2 f3 f4 f5 n x y z w s e1 e2 e3 e4 e5 z1 z2 z3 z4 z5 = rw (s, z1, z2, z3, z4, z5, e1, e2, e3, e4, e5) refl

submit_parts : (r : Reading) (f1 f2 f3 f4 : Field) (v n d g : ℕ) → r.stage ≡ in_block → number_to 65535 f1 ≡ Ok v → used_name r.names f2 ≡ Ok n → number_to 4294967295 f3 ≡ Ok d → number_to 255 f4 ≡ Ok g → is_empty_field f1 ≡ false → is_empty_field f2 ≡ false → is_empty_field f3 ≡ false → is_empty_field f4 ≡ false → after_parts r (codes "submit" ∷ f1 ∷ f2 ∷ f3 ∷ f4 ∷ []) ≡ Ok (on_last_frame (with_encoder_line (submit_line v n d g)) r)
unfolding after_parts word_of after_word after_encoder_line
submit_parts r f1 f2 f3 f4 v n d g s e1 e2 e3 e4 z1 z2 z3 z4 = rw (s, z1, z2, z3, z4, e1, e2, e3, e4) refl

vertices_parts : (r : Reading) (f1 f2 : Field) (n : ℕ) (b : List ℕ) → r.stage ≡ in_block → used_name r.names f1 ≡ Ok n → hex_bytes f2 ≡ Ok b → is_empty_field f1 ≡ false → is_empty_field f2 ≡ false → after_parts r (codes "tvertices" ∷ f1 ∷ f2 ∷ []) ≡ Ok (on_last_frame (with_encoder_line (transient_vertices_line n b)) r)
unfolding after_parts word_of after_word after_encoder_line
vertices_parts r f1 f2 n b s e1 e2 z1 z2 = rw (s, z1, z2, e1, e2) refl

pub set_first : (names : List BoundName) (bytes : List ℕ) (a b c d end n : ℕ) (x y z w : ℤ) → bytes ≡ codes "set " ++ drop 4 bytes → IsPart bytes 4 a 32 → used_name names (part bytes 4 a) ≡ Ok n
    → IsPart bytes (a + 1) b 32 × is_numeral (part bytes (a + 1) b) ≡ true × i32_number (part bytes (a + 1) b) ≡ Ok x × FitsSigned w32 x
    → IsPart bytes (b + 1) c 32 × is_numeral (part bytes (b + 1) c) ≡ true × i32_number (part bytes (b + 1) c) ≡ Ok y × FitsSigned w32 y
    → IsPart bytes (c + 1) d 32 × is_numeral (part bytes (c + 1) d) ≡ true × i32_number (part bytes (c + 1) d) ≡ Ok z × FitsSigned w32 z
    → IsPart bytes (d + 1) end 10 × is_numeral (part bytes (d + 1) end) ≡ true × i32_number (part bytes (d + 1) end) ≡ Ok w × FitsSigned w32 w
    → IsFirstLine names bytes end (set_line n (vec4_value (x ∷ y ∷ z ∷ w ∷ [])))
set_first names bytes a b c d end n x y z w e p0 u p1 p2 p3 p4 =
    let c0 = front_cut bytes 3 (codes "set") (ap (take 3) e) refl (omega (arith, ap length e)) (ap (λ l. get_or l 3 0) e) in
    let c1 = field_more bytes 4 a _ c0 p0 in
    let c2 = field_more bytes (a + 1) b _ c1 p1.0 in
    let c3 = field_more bytes (b + 1) c _ c2 p2.0 in
    let c4 = field_more bytes (c + 1) d _ c3 p3.0 in
    first_line names bytes end _ _ (field_last bytes (d + 1) end _ c4 p4.0) (not_skipped bytes end _ _ e refl (omega (arith, p4.0.ordered)))
    (λ r s m. set_parts r _ _ _ _ _ n x y z w s (ap (λ ns. used_name ns (part bytes 4 a)) m ∙ u) p1.2 p2.2 p3.2 p4.2 (name_filled names _ n u) (numeral_filled _ p1.1) (numeral_filled _ p2.1) (numeral_filled _ p3.1) (numeral_filled _ p4.1))

pub submit_first : (names : List BoundName) (bytes : List ℕ) (a b c end v n d g : ℕ) → bytes ≡ codes "submit " ++ drop 7 bytes
    → IsPart bytes 7 a 32 × is_numeral (part bytes 7 a) ≡ true × v ≡ value_onto 0 (part bytes 7 a) × v ≤ 65535
    → IsPart bytes (a + 1) b 32 → used_name names (part bytes (a + 1) b) ≡ Ok n
    → IsPart bytes (b + 1) c 32 × is_numeral (part bytes (b + 1) c) ≡ true × d ≡ value_onto 0 (part bytes (b + 1) c) × d ≤ 4294967295
    → IsPart bytes (c + 1) end 10 × is_numeral (part bytes (c + 1) end) ≡ true × g ≡ value_onto 0 (part bytes (c + 1) end) × g ≤ 255
    → IsFirstLine names bytes end (submit_line v n d g)
submit_first names bytes a b c end v n d g e p1 p2 u p3 p4 =
    let c0 = front_cut bytes 6 (codes "submit") (ap (take 6) e) refl (omega (arith, ap length e)) (ap (λ l. get_or l 6 0) e) in
    let c1 = field_more bytes 7 a _ c0 p1.0 in
    let c2 = field_more bytes (a + 1) b _ c1 p2 in
    let c3 = field_more bytes (b + 1) c _ c2 p3.0 in
    first_line names bytes end _ _ (field_last bytes (c + 1) end _ c3 p4.0) (not_skipped bytes end _ _ e refl (omega (arith, p4.0.ordered)))
    (λ r s m. submit_parts r _ _ _ _ v n d g s (to_number (part bytes 7 a) v 65535 p1.1 p1.2 p1.3) (ap (λ ns. used_name ns (part bytes (a + 1) b)) m ∙ u) (to_number (part bytes (b + 1) c) d 4294967295 p3.1 p3.2 p3.3) (to_number (part bytes (c + 1) end) g 255 p4.1 p4.2 p4.3) (numeral_filled _ p1.1) (name_filled names _ n u) (numeral_filled _ p3.1) (numeral_filled _ p4.1))

pub vertices_first : (names : List BoundName) (bytes : List ℕ) (a end n : ℕ) (b : List ℕ) → bytes ≡ codes "tvertices " ++ drop 10 bytes → IsPart bytes 10 a 32 → used_name names (part bytes 10 a) ≡ Ok n → IsPart bytes (a + 1) end 10 → hex_bytes (part bytes (a + 1) end) ≡ Ok b → IsFirstLine names bytes end (transient_vertices_line n b)
vertices_first names bytes a end n b e p1 u p2 h =
    let c0 = front_cut bytes 9 (codes "tvertices") (ap (take 9) e) refl (omega (arith, ap length e)) (ap (λ l. get_or l 9 0) e) in
    let c1 = field_more bytes 10 a _ c0 p1 in
    first_line names bytes end _ _ (field_last bytes (a + 1) end _ c1 p2) (not_skipped bytes end _ _ e refl (omega (arith, p2.ordered)))
    (λ r s m. vertices_parts r _ _ n b s (ap (λ ns. used_name ns (part bytes 10 a)) m ∙ u) h (name_filled names _ n u) (hex_filled _ b h))

-- ---- runs

-- no line is read
pub run_none : (bytes : List ℕ) (r : Reading) → AreRead bytes 0 0 r r
run_none bytes r = record {
  within = omega arith;
  few = omega arith;
  same = λ n. let e : n ≡ n + 0 = omega arith in ap (λ m. read_pieces whole_language m (Ok r) (split_at 10 bytes)) e;
}

-- one line more is read
pub run_step : (names : List BoundName) (bytes : List ℕ) (place lines end : ℕ) (r q : Reading) (line : EncoderLine) → AreRead bytes place lines r q → q.stage ≡ in_block → q.names ≡ names → IsFirstLine names (drop place bytes) end line → AreRead bytes (place + (end + 1)) (lines + 1) r (on_last_frame (with_encoder_line line) q)
run_step names bytes place lines end r q line a s m f = record {
  within = omega (arith, f.within, length-drop place bytes);
  few = omega (arith, a.few);
  same = λ n.
      let after = on_last_frame (with_encoder_line line) q in
      let more : n + lines + 1 ≡ n + (lines + 1) = omega arith in
      a.same n
      ∙ ap (read_pieces whole_language (n + lines) (Ok q)) f.first
      ∙ line_step whole_language (n + lines) q (take end (drop place bytes)) (drop (end + 1) (drop place bytes))
      ∙ ap (λ x. read_pieces whole_language (n + lines + 1) x (split_at 10 (drop (end + 1) (drop place bytes)))) (f.read q s m)
      ∙ ap (λ k. read_pieces whole_language k (Ok after) (split_at 10 (drop (end + 1) (drop place bytes)))) more
      ∙ ap (λ t. read_pieces whole_language (n + (lines + 1)) (Ok after) (split_at 10 t)) (drop-drop (end + 1) place bytes);
}

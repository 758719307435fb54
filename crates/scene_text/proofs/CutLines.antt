-- A line that is cut into its fields while its end is looked for.
use Rattle.std.proofs.Common.{◌≡◌, ℕ, zero, suc, ◌+◌, ◌-◌, ◌%◌, ◌^◌, ◌<◌, ◌≤◌, Bool, true, false, not, ◌&&◌, ◌==◌, cond, eqb, List, [], ◌∷◌, ◌++◌, map, length, take, drop, get_or, Fits, w8, refl, ap, sym, subst, ◌∙◌, arith, inl, inr}
use Rattle.std.specs.List.{list_all}
use Rattle.std.specs.Int.{bit_at}
use Rattle.std.proofs.lemmas.Bool.{agree_below, agree_below_at, cases_eq, cases_lt}
use Rattle.std.proofs.lemmas.Nat.Bits.{bit_at-zero}
use Rattle.std.proofs.lemmas.Bool.Decides.{nat_tests}
use Rattle.std.proofs.lemmas.List.Sums.{AllPass-from_list_all, list_all-from_AllPass}
use Rattle.std.proofs.lemmas.List.{append_assoc, length-map, length-take, length-drop, take-take, drop-take, drop-drop, get_or-take, get_or-drop}
use Rattle.std.proofs.lemmas.Simd.{map-map, mask_l-mod, mask_l-lt, bit_mask_l, length-chunk, get_or-chunk}
use lib.Lanes.{chunk, mask_l, top}
use Rattle.scene_model.specs.Field.{split_at}
use Rattle.scene_model.specs.Grammar.{Field, is_text_byte}
use Rattle.scene_model.proofs.SplitLaws.{is_free_of, split-none}
use Rattle.text_fields.proofs.Splits.{split_found}
use Rattle.scene_text.specs.Cuts.{is_visible, AreVisible, AreMarks, IsCut, IsOpen, IsLine, IsPending}

-- ---- marks

get_map : (p : ℕ → Bool) (xs : List ℕ) (k : ℕ) → k < length xs → get_or (map p xs) k false ≡ p (get_or xs k 0)
get_map p [] k lt = absurd (omega arith)
get_map p (x ∷ xs) zero lt = refl
get_map p (x ∷ xs) (suc k) lt = get_map p xs k (omega arith)

get_past : (ms : List Bool) (k : ℕ) → length ms ≤ k → get_or ms k false ≡ false
get_past [] k le = refl
get_past (m ∷ ms) zero le = absurd (omega arith)
get_past (m ∷ ms) (suc k) le = get_past ms k (omega arith)

-- the mask of one load marks the bytes at which a lane stops
pub marked : (d : List ℕ) (i m : ℕ) (z : List ℕ) (f : ℕ → ℕ) → i + 32 ≤ length d → ((k : ℕ) → Fits w8 (get_or d k 0)) → m ≡ mask_l (map (top 7) z) % 2 ^ 64 → z ≡ map f (chunk i 32 d) → agree_below (λ x. top 7 (f x)) (λ x. not (is_visible x)) 256 ≡ true → AreMarks d i m
marked d i m z f room fits found lanes all = record {
  each = λ k lt hidden.
      bit k
      ∙ ap (λ b. cond b 1 0) (get_map stops v k (omega (arith, long)) ∙ ap stops (get_or-chunk i 32 d k 0 lt) ∙ agree_below_at stops (λ x. not (is_visible x)) 256 (get_or d (i + k) 0) all (fits (i + k)).fits ∙ ap not hidden);
  within = λ k set.
      elim (cases_lt k 32) [
        | inl lt ↦ lt
        | inr ge ↦ absurd (omega (arith, set, bit k ∙ ap (λ b. cond {A = ℕ} b 1 0) (get_past (map stops v) k (omega (arith, length-map v stops, long)))))
      ];
}
  where
    stops : ℕ → Bool
    stops x = top 7 (f x)

    v : List ℕ
    v = chunk i 32 d

    long : length v ≡ 32
    long = length-chunk i 32 d room

    bit : (k : ℕ) → bit_at m k ≡ cond (get_or (map stops v) k false) 1 0
    bit k =
        ap (λ x. bit_at x k) (found ∙ ap (λ l. mask_l l % 2 ^ 64) (ap (map (top 7)) lanes ∙ map-map (top 7) f v) ∙ mask_l-mod (map stops v) 64 (omega (arith, length-map v stops, long)))
        ∙ bit_mask_l (map stops v) k

-- ---- fields

visible_text : (b : ℕ) → is_visible b ≡ true → is_text_byte b ≡ true
visible_text b h = grind (arith, nat_tests, h)

visible_field : (b : ℕ) → is_visible b ≡ true → not (b == 32) ≡ true
visible_field b h = grind (arith, nat_tests, h)

pub all_upto : (p : ℕ → Bool) (xs : List ℕ) (n : ℕ) → n ≤ length xs → ((k : ℕ) → k < n → p (get_or xs k 0) ≡ true) → list_all p (take n xs) ≡ true
all_upto p xs zero le h = refl
all_upto p [] (suc n) le h = absurd (omega arith)
all_upto p (x ∷ xs) (suc n) le h = rw (h 0 (omega arith)) (all_upto p xs n (omega arith) (λ k lt. h (suc k) (omega arith)))

-- what is visible has no blank
free_run : (bytes : List ℕ) (start p : ℕ) → start ≤ p → p ≤ length bytes → AreVisible bytes start p → is_free_of 32 (take (p - start) (drop start bytes)) ≡ true
free_run bytes start p le long v =
    all_upto (λ b. not (b == 32)) (drop start bytes) (p - start) (omega (arith, length-drop start bytes))
    (λ k lt. ap (λ b. not (b == 32)) (get_or-drop start bytes k 0) ∙ visible_field (get_or bytes (start + k) 0) (v (start + k) (omega arith) (omega arith)))

text_run : (bytes : List ℕ) (start p : ℕ) (fs : List Field) → IsCut bytes start fs → AreVisible bytes start p → (k : ℕ) → k < p → is_text_byte (get_or bytes k 0) ≡ true
text_run bytes start p fs c v k lt =
    elim (cases_lt k start) [
      | inl early ↦ c.text k early
      | inr late ↦ visible_text (get_or bytes k 0) (v k (omega arith) lt)
    ]

-- at the front there is no field yet
pub cut_first : (bytes : List ℕ) → IsCut bytes 0 []
cut_first bytes = record { within = omega arith; text = λ k lt. absurd (omega arith); cut = λ end le. let e : end ≡ end - 0 = omega arith in ap (λ n. split_at 32 (take n bytes)) e }

-- a blank ends a field
pub cut_more : (bytes : List ℕ) (start p : ℕ) (fs : List Field) → IsCut bytes start fs → start ≤ p → p < length bytes → AreVisible bytes start p → get_or bytes p 0 ≡ 32 → IsCut bytes (p + 1) (fs ++ take (p - start) (drop start bytes) ∷ [])
cut_more bytes start p fs c le lt v blank = record {
  within = omega arith;
  text = λ k small.
      elim (cases_eq k p) [
        | inl same ↦ ap (λ j. is_text_byte (get_or bytes j 0)) same ∙ ap is_text_byte blank
        | inr other ↦ text_run bytes start p fs c v k (omega (arith, other))
      ];
  cut = λ end more. c.cut end (omega arith) ∙ ap (λ r. fs ++ r) (later end more) ∙ sym (append_assoc fs (take (p - start) (drop start bytes) ∷ []) _);
}
  where
    later : (end : ℕ) → p + 1 ≤ end → split_at 32 (take (end - start) (drop start bytes)) ≡ take (p - start) (drop start bytes) ∷ split_at 32 (take (end - (p + 1)) (drop (p + 1) bytes))
    later end more =
        let ys = drop start bytes in
        let xs = take (end - start) ys in
        let i = p - start in
        let inside : i < length xs = omega (arith, length-take (end - start) ys, length-drop start bytes) in
        let front : take i xs ≡ take i ys = take-take i (end - start) ys (omega arith) in
        let there : get_or xs i 0 ≡ 32 = get_or-take (end - start) ys i 0 (omega arith) ∙ get_or-drop start bytes i 0 ∙ ap (λ j. get_or bytes j 0) (omega arith) ∙ blank in
        let whole : end - start ≡ (i + 1) + (end - (p + 1)) = omega arith in
        let place : start + (i + 1) ≡ p + 1 = omega arith in
        let back : drop (i + 1) xs ≡ take (end - (p + 1)) (drop (p + 1) bytes) = ap (λ n. drop (i + 1) (take n ys)) whole ∙ drop-take (i + 1) (end - (p + 1)) ys ∙ ap (take (end - (p + 1))) (drop-drop (i + 1) start bytes ∙ ap (λ n. drop n bytes) place) in
        split_found 32 xs i inside (ap (is_free_of 32) front ∙ free_run bytes start p le (omega arith) v) there ∙ (λ j. front j ∷ split_at 32 (back j))

-- a newline ends the line
pub cut_line : (bytes : List ℕ) (start p : ℕ) (fs : List Field) → IsCut bytes start fs → start ≤ p → p < length bytes → AreVisible bytes start p → get_or bytes p 0 ≡ 10 → IsLine bytes p (fs ++ take (p - start) (drop start bytes) ∷ [])
cut_line bytes start p fs c le lt v newline = record {
  within = lt;
  newline = newline;
  text = all_upto is_text_byte bytes p (omega arith) (text_run bytes start p fs c v);
  fields = sym (c.cut p le ∙ ap (λ r. fs ++ r) (split-none 32 _ (free_run bytes start p le (omega arith) v)));
}

text_other : (b : ℕ) → is_text_byte b ≡ true → not (b == 10) ≡ true
text_other b h = grind (arith, nat_tests, h)

text_free : (xs : List ℕ) → list_all is_text_byte xs ≡ true → is_free_of 10 xs ≡ true
text_free xs h = list_all-from_AllPass (λ b. not (b == 10)) xs (λ k d lt. text_other (get_or xs k d) (AllPass-from_list_all is_text_byte xs h k d lt))

-- the newline is the first one
pub line_found : (bytes : List ℕ) (end : ℕ) (fs : List Field) → IsLine bytes end fs → (end < length bytes) × (split_at 10 bytes ≡ take end bytes ∷ split_at 10 (drop (end + 1) bytes))
line_found bytes end fs l = (l.within, split_found 10 bytes end l.within (text_free (take end bytes) l.text) l.newline)

-- ---- what is still to be looked at

true_false : (b : Bool) → (b ≡ false → ⊥) → b ≡ true
true_false true h = refl
true_false false h = absurd (h refl)

pub pending_first : (bytes : List ℕ) (start from marks : ℕ) (fs : List Field) → IsOpen bytes start from fs → AreMarks bytes from marks → IsPending bytes start from marks
pending_first bytes start from marks fs o m = record {
  each = λ k low high hidden.
      elim (cases_lt k from) [
        | inl early ↦ absurd (let e : true ≡ false = sym (o.visible k low early) ∙ hidden in cc e)
        | inr late ↦
            let back : from + (k - from) ≡ k = omega arith in
            (late, m.each (k - from) (omega arith) (ap (λ j. is_visible (get_or bytes j 0)) back ∙ hidden))
      ];
  within = λ k set. (omega (arith, o.ordered), m.within k set);
}

-- up to the lowest mark all is visible
pub pending_visible : (bytes : List ℕ) (start from marks bit : ℕ) → IsPending bytes start from marks → bit < 32 → ((k : ℕ) → k < bit → bit_at marks k ≡ 0) → AreVisible bytes start (from + bit)
pending_visible bytes start from marks bit p small below k low high =
    true_false _ (λ hidden.
    let found = p.each k low (omega arith) hidden in
    absurd (omega (arith, found.1, below (k - from) (omega (arith, found.0)))))

pub pending_more : (bytes : List ℕ) (start from marks bit left : ℕ) → IsPending bytes start from marks → ((k : ℕ) → k < bit → bit_at marks k ≡ 0) → bit_at left bit ≡ 0 → ((k : ℕ) → k < 64 → ¬ (k ≡ bit) → bit_at left k ≡ bit_at marks k) → ((k : ℕ) → bit_at left k ≡ 1 → bit_at marks k ≡ 1) → start ≤ from + bit → IsPending bytes (from + bit + 1) from left
pending_more bytes start from marks bit left p below cleared kept no_more le = record {
  each = λ k low high hidden.
      let found = p.each k (omega arith) high hidden in
      (found.0, kept (k - from) (omega arith) (λ same. absurd (omega (arith, same))) ∙ found.1);
  within = λ k set.
      let old = no_more k set in
      elim (cases_lt k bit) [
        | inl less ↦ absurd (omega (arith, old, below k less))
        | inr more ↦ (later k set more, (p.within k old).1)
      ];
}
  where
    later : (k : ℕ) → bit_at left k ≡ 1 → bit ≤ k → from + bit + 1 ≤ from + k
    later k set more =
        elim (cases_eq k bit) [
          | inl same ↦ absurd (omega (arith, set, ap (bit_at left) same ∙ cleared))
          | inr other ↦ omega (arith, other)
        ]

-- without a mark the field is still open
pub pending_over : (bytes : List ℕ) (start from marks : ℕ) (fs : List Field) → IsCut bytes start fs → start ≤ from + 32 → IsPending bytes start from marks → marks ≡ 0 → IsOpen bytes start (from + 32) fs
pending_over bytes start from marks fs c le p none = record {
  cut = c;
  ordered = le;
  visible = λ k low high.
      true_false _ (λ hidden.
      let found = p.each k low high hidden in
      absurd (omega (arith, found.1, ap (λ m. bit_at m (k - from)) none ∙ bit_at-zero (k - from))));
}

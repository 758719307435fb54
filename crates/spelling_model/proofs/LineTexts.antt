-- Lines that some text has are had by the text that is made of them.
use Rattle.std.proofs.Common.{◌≡◌, ℕ, Bool, true, false, not, ◌&&◌, ◌==◌, cond, List, [], ◌∷◌, ◌++◌, map, filter, refl, ap, sym, ◌∙◌, append_assoc}
use Rattle.std.specs.Prelude.{flat_map}
use Rattle.std.specs.Bool.{⊤}
use Rattle.scene_model.specs.Field.{split_at, with_head}
use Rattle.scene_model.specs.Grammar.{Field, is_skipped}
use Rattle.scene_model.proofs.SplitLaws.{is_free_of, split-found}
use Rattle.spelling_model.specs.Spelling.{kept_fields, IsEnded}
use Rattle.spelling_model.specs.Written.{line_text}
use Rattle.spelling_model.proofs.Joins.{joined_by, joined-split}

-- the fields are those of a line that is kept
abbrev pub IsLine : List Field → Type 0
IsLine fs = (line : List ℕ) × (is_free_of 10 line ≡ true) × (split_at 32 line ≡ fs) × (is_skipped line ≡ false)

abbrev pub AreLines : List (List Field) → Type 0
AreLines [] = ⊤
AreLines (fs ∷ lines) = IsLine fs × AreLines lines

pub lines_apart : (xs ys : List (List Field)) → AreLines (xs ++ ys) → AreLines xs × AreLines ys
lines_apart [] ys h = (tt, h)
lines_apart (x ∷ xs) ys h = let r = lines_apart xs ys h.1 in ((h.0, r.0), r.1)

pub lines_joined : (xs ys : List (List Field)) → AreLines xs → AreLines ys → AreLines (xs ++ ys)
lines_joined [] ys h k = k
lines_joined (x ∷ xs) ys h k = (h.0, lines_joined xs ys h.1 k)

-- ---- the lines of a text

abbrev AreFree : List (List ℕ) → Type 0
AreFree [] = ⊤
AreFree (p ∷ ps) = (is_free_of 10 p ≡ true) × AreFree ps

head_free : (b : ℕ) (ps : List (List ℕ)) → (b == 10) ≡ false → AreFree ps → AreFree (with_head b ps)
head_free b [] h k = (ap (λ t. not t && true) h, tt)
head_free b (p ∷ ps) h k = (ap (λ t. not t && is_free_of 10 p) h ∙ k.0, k.1)

pieces_free : (xs : List ℕ) → AreFree (split_at 10 xs)
pieces_free [] = (refl, tt)
pieces_free (x ∷ xs) = by (x == 10) refl (pieces_free xs)
  where
    by : (t : Bool) → (x == 10) ≡ t → AreFree (split_at 10 xs) → AreFree (cond t ([] ∷ split_at 10 xs) (with_head x (split_at 10 xs)))
    by true h k = (refl, k)
    by false h k = head_free x (split_at 10 xs) h k

kept_lines : (pieces : List (List ℕ)) → AreFree pieces → AreLines (map (split_at 32) (filter (λ line. not (is_skipped line)) pieces))
kept_lines [] h = tt
kept_lines (p ∷ ps) h = by (is_skipped p) refl (kept_lines ps h.1)
  where
    by : (t : Bool) → is_skipped p ≡ t → AreLines (map (split_at 32) (filter (λ line. not (is_skipped line)) ps))
        → AreLines (map (split_at 32) (cond (not t) (p ∷ filter (λ line. not (is_skipped line)) ps) (filter (λ line. not (is_skipped line)) ps)))
    by true s k = k
    by false s k = ((p, h.0, refl, s), k)

pub lines_of_text : (bytes : List ℕ) → AreLines (kept_fields bytes)
lines_of_text bytes = kept_lines (split_at 10 bytes) (pieces_free bytes)

-- ---- the text of lines

pub line_joined : (fs : List Field) → line_text fs ≡ joined_by 32 fs ++ 10 ∷ []
line_joined [] = refl
line_joined (f ∷ []) = refl
line_joined (f ∷ g ∷ fs) = ap (λ k. f ++ 32 ∷ k) (line_joined (g ∷ fs)) ∙ sym (append_assoc f (32 ∷ joined_by 32 (g ∷ fs)) (10 ∷ []))

line_again : (fs : List Field) (rest : List ℕ) (line : List ℕ) → split_at 32 line ≡ fs → line_text fs ++ rest ≡ line ++ 10 ∷ rest
line_again fs rest line e =
    let same : joined_by 32 fs ≡ line = ap (joined_by 32) (sym e) ∙ joined-split 32 line in
    ap (λ k. k ++ rest) (line_joined fs ∙ ap (λ k. k ++ 10 ∷ []) same) ∙ append_assoc line (10 ∷ []) rest

-- the text of lines has these lines, and nothing behind the last newline
pub text_of_lines : (lines : List (List Field)) → AreLines lines → IsEnded (flat_map line_text lines) × (kept_fields (flat_map line_text lines) ≡ lines)
text_of_lines [] h = (([], refl), refl)
text_of_lines (fs ∷ lines) h =
    let rest = flat_map line_text lines in
    let line = h.0.0 in
    let r = text_of_lines lines h.1 in
    let pieces : split_at 10 (line_text fs ++ rest) ≡ line ∷ split_at 10 rest = ap (split_at 10) (line_again fs rest line h.0.2) ∙ split-found 10 line rest h.0.1 in
    let kept = ap (λ t. map (split_at 32) (cond (not t) (line ∷ filter (λ l. not (is_skipped l)) (split_at 10 rest)) (filter (λ l. not (is_skipped l)) (split_at 10 rest)))) h.0.3 in
    let fields = h.0.2 in (
      (line ∷ r.0.0, pieces ∙ ap (λ k. line ∷ k) r.0.1),
      ap (λ k. map (split_at 32) (filter (λ l. not (is_skipped l)) k)) pieces ∙ kept ∙ (λ i. fields i ∷ r.1 i),
    )

-- From bytes to fields and back: a text is read as the fields of its kept lines are read, where nothing stands behind its last newline.
use Rattle.std.proofs.Common.{◌≡◌, ℕ, ◌+◌, eqb-true, Bool, true, false, not, ◌&&◌, ◌==◌, cond, List, [], ◌∷◌, ◌++◌, map, filter, Ok, Err, Result, refl, ap, sym, ◌∙◌}
use Rattle.std.specs.List.{list_all}
use Rattle.scene_model.specs.Scene.{Scene}
use Rattle.scene_model.specs.Field.{Read, ◌>>=◌, bad_byte, ends_early, split_at, with_head, find_word}
use Rattle.scene_model.specs.Grammar.{Field, field, Reading, nothing_read, unless, is_text_byte, words, whole_language, after_fields, after_line, is_skipped, is_at_end, scene_read, Fault, at_last_piece, line_read, read_pieces, scene_of}
use Rattle.spelling_model.specs.Spelling.{kept_fields, IsEnded}
use Rattle.spelling_model.proofs.Read.{bind_ok, same_ok}
use Rattle.spelling_model.proofs.ReadLines.{after_kept, read_fields}

-- ---- a line's bytes are its fields' bytes, beside blanks

head_bytes : (b : ℕ) (ps : List (List ℕ)) → list_all (list_all is_text_byte) (with_head b ps) ≡ (is_text_byte b && list_all (list_all is_text_byte) ps)
head_bytes b [] = by (is_text_byte b)
  where
    by : (t : Bool) → ((t && true) && true) ≡ (t && true)
    by true = refl
    by false = refl
head_bytes b (p ∷ ps) = by (is_text_byte b)
  where
    by : (t : Bool) → ((t && list_all is_text_byte p) && list_all (list_all is_text_byte) ps) ≡ (t && (list_all is_text_byte p && list_all (list_all is_text_byte) ps))
    by true = refl
    by false = refl

text_bytes : (line : List ℕ) → list_all is_text_byte line ≡ list_all (list_all is_text_byte) (split_at 32 line)
text_bytes [] = refl
text_bytes (b ∷ line) = by (b == 32) refl (text_bytes line)
  where
    by : (t : Bool) → (b == 32) ≡ t → list_all is_text_byte line ≡ list_all (list_all is_text_byte) (split_at 32 line)
        → (is_text_byte b && list_all is_text_byte line) ≡ list_all (list_all is_text_byte) (cond t ([] ∷ split_at 32 line) (with_head b (split_at 32 line)))
    by true h e = ap (λ k. is_text_byte k && list_all is_text_byte line) (eqb-true _ _ h) ∙ e
    by false h e = ap (λ k. is_text_byte b && k) e ∙ sym (head_bytes b (split_at 32 line))

kept_line : (r : Reading) (line : List ℕ) → after_line whole_language r line ≡ after_kept r (split_at 32 line)
kept_line r line = ap (λ t. unless t bad_byte >>= λ _. after_fields whole_language r (split_at 32 line) (find_word words (field (split_at 32 line) 0))) (text_bytes line)

-- ---- pieces

abbrev kept_of : List (List ℕ) → List (List Field)
kept_of pieces = map (split_at 32) (filter (λ line. not (is_skipped line)) pieces)

-- the pieces end with an empty one, and the fields of those before it are read to the end
abbrev ReadTo : Reading → List (List ℕ) → Scene → Type 0
ReadTo r pieces s = (lines : List (List ℕ)) × (q : Reading) × (pieces ≡ lines ++ [] ∷ []) × (read_fields r (kept_of pieces) ≡ Ok q) × (is_at_end q.stage ≡ true) × (scene_read q ≡ s)

last_read : (n : ℕ) (r : Reading) (s : Scene) (p : List ℕ) → at_last_piece n r p ≡ Ok s → ReadTo r (p ∷ []) s
last_read n r s [] e = by (is_at_end r.stage) refl e
  where
    by : (t : Bool) → is_at_end r.stage ≡ t → cond {A = Result Scene Fault} t (Ok (scene_read r)) (Err (record { line = n; cause = ends_early })) ≡ Ok s → ReadTo r ([] ∷ []) s
    by true h e = ([], r, refl, refl, h, cc e)
    by false h e = absurd (cc e)
last_read n r s (b ∷ bs) e = absurd (cc e)

read_more : (r : Reading) (p : List ℕ) (rest : List (List ℕ)) (s : Scene) (q : Reading) → line_read whole_language r p ≡ Ok q → ReadTo q rest s → ReadTo r (p ∷ rest) s
read_more r p rest s q e t = by (is_skipped p) refl e
  where
    by : (b : Bool) → is_skipped p ≡ b → cond b (Ok r) (after_line whole_language r p) ≡ Ok q → ReadTo r (p ∷ rest) s
    by true h e =
        let same : q ≡ r = sym (same_ok e) in
        let left : kept_of rest ≡ kept_of (p ∷ rest) = ap (λ b. map (split_at 32) (cond (not b) (p ∷ filter (λ line. not (is_skipped line)) rest) (filter (λ line. not (is_skipped line)) rest))) (sym h) in
        (p ∷ t.0, t.1, ap (λ k. p ∷ k) t.2, ap (read_fields r) (sym left) ∙ ap (λ k. read_fields k (kept_of rest)) (sym same) ∙ t.3, t.4, t.5)
    by false h e =
        let one : after_kept r (split_at 32 p) ≡ Ok q = sym (kept_line r p) ∙ e in
        let left : split_at 32 p ∷ kept_of rest ≡ kept_of (p ∷ rest) = ap (λ b. map (split_at 32) (cond (not b) (p ∷ filter (λ line. not (is_skipped line)) rest) (filter (λ line. not (is_skipped line)) rest))) (sym h) in
        (p ∷ t.0, t.1, ap (λ k. p ∷ k) t.2, ap (read_fields r) (sym left) ∙ ap (λ m. m >>= λ k. read_fields k (kept_of rest)) one ∙ t.3, t.4, t.5)

pieces_read : (pieces : List (List ℕ)) (n : ℕ) (r : Reading) (s : Scene) → read_pieces whole_language n (Ok r) pieces ≡ Ok s → ReadTo r pieces s
pieces_read [] n r s e = absurd (cc e)
pieces_read (p ∷ []) n r s e = last_read n r s p e
pieces_read (p ∷ p2 ∷ rest) n r s e = by (line_read whole_language r p) refl e (λ q k. pieces_read (p2 ∷ rest) (n + 1) q s k)
  where
    by : (m : Read Reading) → line_read whole_language r p ≡ m → read_pieces whole_language (n + 1) m (p2 ∷ rest) ≡ Ok s → ((q : Reading) → read_pieces whole_language (n + 1) (Ok q) (p2 ∷ rest) ≡ Ok s → ReadTo q (p2 ∷ rest) s) → ReadTo r (p ∷ p2 ∷ rest) s
    by (Ok q) h e later = read_more r p (p2 ∷ rest) s q h (later q e)
    by (Err c) h e later = absurd (cc e)

-- what the bytes are read to, said by their fields
pub fields_read : (bytes : List ℕ) (s : Scene) → scene_of whole_language bytes ≡ Ok s → IsEnded bytes × (q : Reading) × (read_fields nothing_read (kept_fields bytes) ≡ Ok q) × (is_at_end q.stage ≡ true) × (scene_read q ≡ s)
fields_read bytes s e = let t = pieces_read (split_at 10 bytes) 1 nothing_read s e in ((t.0, t.2), t.1, t.3, t.4, t.5)

-- ---- and back

more_pieces : (n : ℕ) (r : Reading) (p : List ℕ) (lines : List (List ℕ)) → read_pieces whole_language n (Ok r) (p ∷ (lines ++ [] ∷ [])) ≡ read_pieces whole_language (n + 1) (line_read whole_language r p) (lines ++ [] ∷ [])
more_pieces n r p [] = refl
more_pieces n r p (l ∷ lines) = refl

lines_read : (lines : List (List ℕ)) (n : ℕ) (r q : Reading) → read_fields r (kept_of (lines ++ [] ∷ [])) ≡ Ok q → is_at_end q.stage ≡ true → read_pieces whole_language n (Ok r) (lines ++ [] ∷ []) ≡ Ok (scene_read q)
lines_read [] n r q e end =
    let same : q ≡ r = sym (same_ok e) in
    ap (λ t. cond t (Ok (scene_read r)) (Err (record { line = n; cause = ends_early }))) (ap (λ k. is_at_end k.stage) (sym same) ∙ end) ∙ ap (λ k. Ok (scene_read k)) (sym same)
lines_read (p ∷ lines) n r q e end = more_pieces n r p lines ∙ by (is_skipped p) refl e (λ m k. lines_read lines (n + 1) m q k end)
  where
    by : (b : Bool) → is_skipped p ≡ b → read_fields r (map (split_at 32) (cond (not b) (p ∷ filter (λ line. not (is_skipped line)) (lines ++ [] ∷ [])) (filter (λ line. not (is_skipped line)) (lines ++ [] ∷ [])))) ≡ Ok q
        → ((m : Reading) → read_fields m (kept_of (lines ++ [] ∷ [])) ≡ Ok q → read_pieces whole_language (n + 1) (Ok m) (lines ++ [] ∷ []) ≡ Ok (scene_read q))
        → read_pieces whole_language (n + 1) (line_read whole_language r p) (lines ++ [] ∷ []) ≡ Ok (scene_read q)
    by true h e later = ap (λ b. read_pieces whole_language (n + 1) (cond b (Ok r) (after_line whole_language r p)) (lines ++ [] ∷ [])) h ∙ later r e
    by false h e later =
        let m = bind_ok (after_kept r (split_at 32 p)) _ q e in
        ap (λ b. read_pieces whole_language (n + 1) (cond b (Ok r) (after_line whole_language r p)) (lines ++ [] ∷ [])) h
        ∙ ap (λ k. read_pieces whole_language (n + 1) k (lines ++ [] ∷ [])) (kept_line r p ∙ m.1)
        ∙ later m.0 m.2

pub bytes_read : (bytes : List ℕ) (q : Reading) → IsEnded bytes → read_fields nothing_read (kept_fields bytes) ≡ Ok q → is_at_end q.stage ≡ true → scene_of whole_language bytes ≡ Ok (scene_read q)
bytes_read bytes q ended e end =
    let pieces : split_at 10 bytes ≡ ended.0 ++ [] ∷ [] = ended.1 in
    ap (read_pieces whole_language 1 (Ok nothing_read)) pieces ∙ lines_read ended.0 1 nothing_read q (ap (λ k. read_fields nothing_read (kept_of k)) (sym pieces) ∙ e) end

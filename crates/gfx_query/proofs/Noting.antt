-- Notes that are put together piece by piece.
use Rattle.std.proofs.Common.{◌≡◌, ℕ, zero, suc, ◌+◌, ◌<◌, List, [], ◌∷◌, ◌++◌, length, map, drop, get_or, append_assoc, None, refl, ap, sym, ◌∙◌, arith}
use Rattle.gfx_query.specs.Queries.{Results, Step, Target, result_of, query_note, query_notes, frame_note, frame_after, results_after, notes_from}

-- the list from a place on begins with the element there
pub drop_at : {A : Type 0} (xs : List A) (i : ℕ) (d : A) → i < length xs → drop i xs ≡ get_or xs i d ∷ drop (i + 1) xs
drop_at [] i d lt = absurd (omega (arith, lt))
drop_at (x ∷ xs) zero d lt = refl
drop_at (x ∷ xs) (suc i) d lt =
    let next : suc (i + 1) ≡ suc i + 1 = omega arith in
    drop_at xs i d (omega (arith, lt)) ∙ ap (λ n. get_or xs i d ∷ drop n (x ∷ xs)) next

-- one query more
pub query_more : (text : List ℕ) (sums : Results) (q : ℕ) → q < length sums →
    text ++ query_notes q (drop q sums) ≡ (text ++ query_note q (result_of sums q)) ++ query_notes (q + 1) (drop (q + 1) sums)
query_more text sums q lt =
    ap (λ rs. text ++ query_notes q rs) (drop_at sums q None lt)
    ∙ sym (append_assoc text (query_note q (result_of sums q)) (query_notes (q + 1) (drop (q + 1) sums)))

-- one frame more
pub frame_more : {A : Type 0} (w h : ℕ) (view : A → List Step) (text : List ℕ) (frames : List A) (k : ℕ) (d : A) (results : Results) (t : Target) → k < length frames →
    text ++ notes_from w h k results t (map view (drop k frames)) ≡
    (text ++ frame_note k (frame_after w h results t (view (get_or frames k d))).sums)
    ++ notes_from w h (k + 1) (results_after (frame_after w h results t (view (get_or frames k d))).sums results) (frame_after w h results t (view (get_or frames k d))).target (map view (drop (k + 1) frames))
frame_more w h view text frames k d results t lt =
    let p = frame_after w h results t (view (get_or frames k d)) in
    ap (λ fs. text ++ notes_from w h k results t (map view fs)) (drop_at frames k d lt)
    ∙ sym (append_assoc text (frame_note k p.sums) (notes_from w h (k + 1) (results_after p.sums results) p.target (map view (drop (k + 1) frames))))

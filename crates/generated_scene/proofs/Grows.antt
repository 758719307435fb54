-- Lists of draws, blocks and frames that grow at their ends.
use Rattle.std.proofs.Common.{◌≡◌, ℕ, zero, suc, ◌+◌, ◌%◌, ◌==◌, Bool, true, false, List, [], ◌∷◌, ◌++◌, filter, flat_map, cond, if◌then◌else◌, refl, ap, ◌∙◌, arith, append_assoc}
use Rattle.std.specs.List.{range_with_len}
use Rattle.std.proofs.lemmas.List.{append-nil}
use Rattle.std.proofs.lemmas.List.Elements.{filter-append}
use Rattle.std.proofs.lemmas.List.Concat.{flat_map-append}
use Rattle.scene_model.specs.Scene.{EncoderLine}
use Rattle.scene_text.specs.declared.scene.EncLine.{EncLine}
use Rattle.scene_model.specs.Generated.{draw_lines}
use Rattle.generated_scene.specs.Draws.{lines_of_draw}

-- encoder e's draws below d, ascending
abbrev draws_below : ℕ → ℕ → List ℕ
draws_below e d = filter (λ k. k % 4 == e) (range_with_len 0 d)

-- the lines of those draws in frame f
abbrev pub lines_below : (frame encoder draw : ℕ) → List EncoderLine
lines_below f e d = flat_map (draw_lines f) (draws_below e d)

range_more : (from count : ℕ) → range_with_len from (count + 1) ≡ range_with_len from count ++ (from + count) ∷ []
range_more from zero = let same : from ≡ from + 0 = omega arith in ap (λ (k : ℕ). k ∷ []) same
range_more from (suc count) =
    let more : suc count + 1 ≡ suc (count + 1) = omega arith in
    let same : from + 1 + count ≡ from + suc count = omega arith in
    ap (range_with_len from) more ∙ ap (λ (l : List ℕ). from ∷ l) (range_more (from + 1) count ∙ ap (λ (k : ℕ). range_with_len (from + 1) count ++ k ∷ []) same)

draws_more : (e d : ℕ) → draws_below e (d + 1) ≡ draws_below e d ++ filter (λ k. k % 4 == e) (d ∷ [])
draws_more e d =
    let last : 0 + d ≡ d = omega arith in
    ap (λ (l : List ℕ). filter (λ k. k % 4 == e) l) (range_more 0 d ∙ ap (λ (k : ℕ). range_with_len 0 d ++ k ∷ []) last)
    ∙ filter-append (λ k. k % 4 == e) (range_with_len 0 d) (d ∷ [])

one_draw : (f d : ℕ) (b : Bool) → flat_map (draw_lines f) (cond b (d ∷ []) []) ≡ (if b then draw_lines f d else [])
one_draw f d true = append-nil (draw_lines f d)
one_draw f d false = refl

-- the lines of one draw more
pub lines_more : (f e d : ℕ) → lines_below f e (d + 1) ≡ lines_below f e d ++ lines_of_draw f e d
lines_more f e d =
    ap (flat_map (draw_lines f)) (draws_more e d)
    ∙ flat_map-append (draw_lines f) (draws_below e d) (filter (λ k. k % 4 == e) (d ∷ []))
    ∙ ap (λ (l : List EncoderLine). lines_below f e d ++ l) (one_draw f d (d % 4 == e))

-- three lines at the end
pub three_more : (xs : List EncLine) (a b c : EncLine) (one two three : List EncLine) → one ≡ xs ++ a ∷ [] → two ≡ one ++ b ∷ [] → three ≡ two ++ c ∷ [] → three ≡ xs ++ a ∷ b ∷ c ∷ []
three_more xs a b c one two three e f g =
    g ∙ ap (λ (l : List EncLine). l ++ c ∷ []) (f ∙ ap (λ (l : List EncLine). l ++ b ∷ []) e ∙ append_assoc xs (a ∷ []) (b ∷ []))
    ∙ append_assoc xs (a ∷ b ∷ []) (c ∷ [])

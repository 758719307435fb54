-- The lines of strokes, one after another.
use Rattle.std.proofs.Common.{◌≡◌, ◌∙◌, ℕ, ◌+◌, ◌<◌, ◌≤◌, List, ◌∷◌, ◌++◌, map, drop, length, get_or, slice_get, sym, ap, arith}
use Rattle.std.proofs.lemmas.List.{append_assoc, append-nil, drop_more, drop_all, get_or-map, length-map}
use Rattle.gfx_model.specs.Pixel.{Pixel}
use Rattle.trace_laws.specs.Doers.{Doer}
use Rattle.target_laws.specs.Targets as model
use Rattle.target_tracing.specs.declared.made.TargetMade.{TargetMade}
use Rattle.target_tracing.specs.Seen.{target_made_seen}
use Rattle.trace_lines.specs.Numbered.{line_of}
use Rattle.target_scenes.specs.Numbered.{numbered_target_line, numbered_target_lines}

-- one stroke more
pub line-more : (numbers : List (List ℕ)) (ds : List Doer) (p q : Pixel) (ms : List TargetMade) (i : ℕ) (m : TargetMade) (old new whole : List ℕ) → i < length ms → m ≡ get_or ms i m
    → q ≡ model.after_target_stroke p (target_made_seen m).stroke → old ++ numbered_target_lines numbers ds p (drop i (map target_made_seen ms)) ≡ whole
    → new ≡ old ++ numbered_target_line (target_made_seen m).deed (slice_get ds (target_made_seen m).deed) (line_of numbers (slice_get ds (target_made_seen m).deed)) p (target_made_seen m).stroke
    → new ++ numbered_target_lines numbers ds q (drop (i + 1) (map target_made_seen ms)) ≡ whole
line-more numbers ds p q ms i m old new whole lt is after left put =
    let n : model.TargetMade = target_made_seen m in
    let rest : List model.TargetMade = drop (i + 1) (map target_made_seen ms) in
    let line : List ℕ = numbered_target_line n.deed (slice_get ds n.deed) (line_of numbers (slice_get ds n.deed)) p n.stroke in
    let here : get_or (map target_made_seen ms) i n ≡ n = get_or-map target_made_seen ms i m n lt ∙ ap target_made_seen (sym is) in
    let cut : drop i (map target_made_seen ms) ≡ n ∷ rest =
    drop_more (map target_made_seen ms) i n (let many = length-map ms target_made_seen in omega (arith, lt, many)) ∙ ap (λ (x : model.TargetMade). x ∷ rest) here in
    ap (λ (t : List ℕ). t ++ numbered_target_lines numbers ds q rest) put
    ∙ append_assoc old line (numbered_target_lines numbers ds q rest)
    ∙ ap (λ (r : Pixel). old ++ (line ++ numbered_target_lines numbers ds r rest)) after
    ∙ ap (λ (xs : List model.TargetMade). old ++ numbered_target_lines numbers ds p xs) (sym cut)
    ∙ left

-- behind the last one
pub lines-all : (numbers : List (List ℕ)) (ds : List Doer) (p : Pixel) (ms : List TargetMade) (i : ℕ) (text whole : List ℕ) → length ms ≤ i
    → text ++ numbered_target_lines numbers ds p (drop i (map target_made_seen ms)) ≡ whole → text ≡ whole
lines-all numbers ds p ms i text whole all left =
    sym (append-nil text)
    ∙ ap (λ (xs : List model.TargetMade). text ++ numbered_target_lines numbers ds p xs) (sym (drop_all i (map target_made_seen ms) (let many = length-map ms target_made_seen in omega (arith, all, many))))
    ∙ left

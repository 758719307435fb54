-- The lines of strokes, one after another.
use Rattle.std.proofs.Common.{◌≡◌, ◌∙◌, ℕ, ◌+◌, ◌<◌, ◌≤◌, List, ◌∷◌, ◌++◌, map, drop, length, get_or, slice_get, sym, ap, arith}
use Rattle.std.proofs.lemmas.List.{append_assoc, append-nil, drop_more, drop_all, get_or-map, length-map}
use Rattle.gfx_model.specs.Pixel.{Pixel}
use Rattle.trace_laws.specs.Doers.{Doer}
use Rattle.trace_laws.specs.History as history
use Rattle.frame_tracing.specs.declared.made.Made.{Made}
use Rattle.frame_tracing.specs.Seen.{made_seen}
use Rattle.trace_lines.specs.Numbered.{line_of, numbered_line, numbered_lines}

-- one stroke more
pub line-more : (numbers : List (List ℕ)) (ds : List Doer) (p q : Pixel) (ms : List Made) (i : ℕ) (m : Made) (old new whole : List ℕ) → i < length ms → m ≡ get_or ms i m
    → q ≡ history.after_stroke p (made_seen m).stroke → old ++ numbered_lines numbers ds p (drop i (map made_seen ms)) ≡ whole
    → new ≡ old ++ numbered_line (made_seen m).deed (slice_get ds (made_seen m).deed) (line_of numbers (slice_get ds (made_seen m).deed)) p (made_seen m).stroke
    → new ++ numbered_lines numbers ds q (drop (i + 1) (map made_seen ms)) ≡ whole
line-more numbers ds p q ms i m old new whole lt is after left put =
    let n : history.Made = made_seen m in
    let rest : List history.Made = drop (i + 1) (map made_seen ms) in
    let line : List ℕ = numbered_line n.deed (slice_get ds n.deed) (line_of numbers (slice_get ds n.deed)) p n.stroke in
    let here : get_or (map made_seen ms) i n ≡ n = get_or-map made_seen ms i m n lt ∙ ap made_seen (sym is) in
    let cut : drop i (map made_seen ms) ≡ n ∷ rest =
    drop_more (map made_seen ms) i n (let many = length-map ms made_seen in omega (arith, lt, many)) ∙ ap (λ (x : history.Made). x ∷ rest) here in
    ap (λ (t : List ℕ). t ++ numbered_lines numbers ds q rest) put
    ∙ append_assoc old line (numbered_lines numbers ds q rest)
    ∙ ap (λ (r : Pixel). old ++ (line ++ numbered_lines numbers ds r rest)) after
    ∙ ap (λ (xs : List history.Made). old ++ numbered_lines numbers ds p xs) (sym cut)
    ∙ left

-- behind the last one
pub lines-all : (numbers : List (List ℕ)) (ds : List Doer) (p : Pixel) (ms : List Made) (i : ℕ) (text whole : List ℕ) → length ms ≤ i
    → text ++ numbered_lines numbers ds p (drop i (map made_seen ms)) ≡ whole → text ≡ whole
lines-all numbers ds p ms i text whole all left =
    sym (append-nil text)
    ∙ ap (λ (xs : List history.Made). text ++ numbered_lines numbers ds p xs) (sym (drop_all i (map made_seen ms) (let many = length-map ms made_seen in omega (arith, all, many))))
    ∙ left

-- What stands behind a scene's text numbers no line of an item.
use Rattle.std.proofs.Common.{◌≡◌, ◌∙◌, ℕ, ◌+◌, ◌≤◌, ◌==◌, Bool, true, false, cond, List, [], ◌∷◌, ◌++◌, map, length, Option, Ok, refl, sym, ap, arith}
use Rattle.std.specs.List.{range_with_len}
use Rattle.std.proofs.lemmas.List.{append-nil}
use Rattle.scene_model.specs.Scene.{Scene}
use Rattle.scene_model.specs.Field.{split_at, with_head}
use Rattle.scene_model.proofs.SplitLaws.{split-has}
use Rattle.dropped_lines.specs.Laws.{NumberLaw}
use Rattle.dropped_lines.specs.Numbers.{is_numbered, numbers_from, line_numbers}
use Rattle.dropped_lines.specs.Verdicts.{Verdict, verdicts}
use Rattle.item_lines.specs.declared.places.Place.{Place}
use Rattle.item_lines.specs.declared.accepted.ItemLine.{ItemLine}
use Rattle.item_lines.specs.Items.{with_item, items_with, item_places, numbers_of, encoder_item_lines, item_lines}
use Rattle.item_lines.specs.Laws.{BehindLaw}

-- a first part goes on, whatever stands behind it
headed : (b : ℕ) (ps qs : List (List ℕ)) (xs : List ℕ) → split_at 10 xs ≡ ps → with_head b (split_at 10 xs ++ qs) ≡ with_head b (split_at 10 xs) ++ qs
headed b ps qs xs e = step (split-has 10 xs)
  where
    step : (p : List ℕ) × (rest : List (List ℕ)) × (split_at 10 xs ≡ p ∷ rest) → with_head b (split_at 10 xs ++ qs) ≡ with_head b (split_at 10 xs) ++ qs
    step (p, rest, is) = ap (λ (zs : List (List ℕ)). with_head b (zs ++ qs)) is ∙ sym (ap (λ (zs : List (List ℕ)). with_head b zs ++ qs) is)

-- the lines in front of a newline, and those behind it
two-parts : (xs ys : List ℕ) → split_at 10 (xs ++ 10 ∷ ys) ≡ split_at 10 xs ++ split_at 10 ys
two-parts [] ys = refl
two-parts (b ∷ xs) ys = step (b == 10) (two-parts xs ys)
  where
    step : (t : Bool) → split_at 10 (xs ++ 10 ∷ ys) ≡ split_at 10 xs ++ split_at 10 ys
        → cond t ([] ∷ split_at 10 (xs ++ 10 ∷ ys)) (with_head b (split_at 10 (xs ++ 10 ∷ ys))) ≡ cond t ([] ∷ split_at 10 xs) (with_head b (split_at 10 xs)) ++ split_at 10 ys
    step true e = ap (λ (zs : List (List ℕ)). [] ∷ zs) e
    step false e = ap (with_head b) e ∙ headed b (split_at 10 xs) (split_at 10 ys) xs refl

numbers-parts : (n : ℕ) (ls ms : List (List ℕ)) → numbers_from n (ls ++ ms) ≡ numbers_from n ls ++ numbers_from (n + length ls) ms
numbers-parts n [] ms = ap (λ m. numbers_from m ms) (omega arith)
numbers-parts n (l ∷ ls) ms = step (is_numbered l) (numbers-parts (n + 1) ls ms ∙ ap (λ m. numbers_from (n + 1) ls ++ numbers_from m ms) (omega arith))
  where
    step : (t : Bool) → numbers_from (n + 1) (ls ++ ms) ≡ numbers_from (n + 1) ls ++ numbers_from (n + length (l ∷ ls)) ms
        → cond t (n ∷ numbers_from (n + 1) (ls ++ ms)) (numbers_from (n + 1) (ls ++ ms))
        ≡ cond t (n ∷ numbers_from (n + 1) ls) (numbers_from (n + 1) ls) ++ numbers_from (n + length (l ∷ ls)) ms
    step true e = ap (λ ns. n ∷ ns) e
    step false e = e

-- the numbers of a text's lines come first
numbers-behind : (bytes rest : List ℕ) → line_numbers (bytes ++ 10 ∷ rest) ≡ line_numbers (bytes ++ 10 ∷ []) ++ numbers_from (1 + length (split_at 10 bytes)) (split_at 10 rest)
numbers-behind bytes rest =
    ap (numbers_from 1) (two-parts bytes rest)
    ∙ numbers-parts 1 (split_at 10 bytes) (split_at 10 rest)
    ∙ ap (λ (ns : List ℕ). ns ++ numbers_from (1 + length (split_at 10 bytes)) (split_at 10 rest))
    (sym (ap (numbers_from 1) (two-parts bytes []) ∙ numbers-parts 1 (split_at 10 bytes) ([] ∷ []) ∙ append-nil (numbers_from 1 (split_at 10 bytes))))

-- further numbers are of no line where each line has its own
items-front : (ns ms : List ℕ) (vs : List Verdict) (qs : List (Option Place)) → length vs ≤ length ns → items_with (ns ++ ms) vs qs ≡ items_with ns vs qs
items-front [] [] vs qs h = refl
items-front [] (m ∷ ms) [] qs h = refl
items-front [] (m ∷ ms) (v ∷ vs) qs h = absurd (omega (arith, h))
items-front (n ∷ ns) ms [] qs h = refl
items-front (n ∷ ns) ms (v ∷ vs) [] h = refl
items-front (n ∷ ns) ms (v ∷ vs) (q ∷ qs) h = ap (with_item n v.reason q) (items-front ns ms vs qs (omega (arith, h)))

pub behind-law : NumberLaw → BehindLaw
behind-law numbers bytes rest s is k =
    let judged = (numbers (bytes ++ 10 ∷ []) s is).judged in
    let more : List ℕ = numbers_from (1 + length (split_at 10 bytes)) (split_at 10 rest) in
    let lines : items_with (line_numbers (bytes ++ 10 ∷ rest)) (verdicts s) (item_places s) ≡ items_with (line_numbers (bytes ++ 10 ∷ [])) (verdicts s) (item_places s) =
    ap (λ (ns : List ℕ). items_with ns (verdicts s) (item_places s)) (numbers-behind bytes rest)
    ∙ items-front (line_numbers (bytes ++ 10 ∷ [])) more (verdicts s) (item_places s) (omega (arith, judged)) in
    ap (λ (is : List ItemLine). map (λ e. numbers_of k e is) (range_with_len 0 s.encoders)) lines

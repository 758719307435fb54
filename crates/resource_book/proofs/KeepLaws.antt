-- What is kept of a list moves to its front.
use Rattle.std.proofs.Common.{◌≡◌, ℕ, ◌+◌, ◌<◌, ◌≤◌, Bool, true, false, not, if◌then◌else◌, List, [], ◌∷◌, ◌++◌, map, filter, take, drop, length, sym, ap, ◌∙◌, arith, slice_index_or, slice_set}
use Rattle.std.proofs.lemmas.List.{take_more, map-append, take-set, drop-set-lt, get_or-drop, get_or-set_same, length-set, append-nil}
use Rattle.std.proofs.lemmas.List.Elements.{filter-append}
use Rattle.resource_book.specs.declared.stacks.Waiting.{Waiting}
use Rattle.resource_book.specs.Stacks.{waiting_seen}

module _ (over : ℕ × ℕ → Bool) (ws old : List Waiting) (later i : ℕ) (w : Waiting) (le : later ≤ i) (lt : i < length old) (long : length ws ≡ length old)
    (kept : map waiting_seen (take later ws) ≡ filter (λ v. not (over v)) (map waiting_seen (take i old))) (rest : drop i ws ≡ drop i old) (is : w ≡ slice_index_or ws i w) where
  at : (l : List Waiting) → slice_index_or (drop i l) 0 w ≡ slice_index_or l i w
  at l = get_or-drop i l 0 w ∙ ap (λ m. slice_index_or l m w) (omega arith)

  here : slice_index_or old i w ≡ w
  here = sym (at old) ∙ sym (ap (λ l. slice_index_or l 0 w) rest) ∙ at ws ∙ sym is

  front : map waiting_seen (take (i + 1) old) ≡ map waiting_seen (take i old) ++ waiting_seen w ∷ []
  front = ap (map waiting_seen) (take_more old i w lt) ∙ map-append waiting_seen (take i old) (slice_index_or old i w ∷ []) ∙ (λ j. map waiting_seen (take i old) ++ waiting_seen (here j) ∷ [])

  filtered : (b : Bool) → over (waiting_seen w) ≡ b → filter (λ v. not (over v)) (map waiting_seen (take (i + 1) old)) ≡ map waiting_seen (take later ws) ++ (if not b then waiting_seen w ∷ [] else [])
  filtered b e = ap (filter (λ v. not (over v))) front ∙ filter-append (λ v. not (over v)) (map waiting_seen (take i old)) (waiting_seen w ∷ [])
      ∙ (λ j. sym kept j ++ (if not (e j) then waiting_seen w ∷ [] else []))

  pub kept_next : (b : Bool) → over (waiting_seen w) ≡ b → (next : ℕ) → next ≡ later + (if b then 0 else 1)
      → map waiting_seen (take next (slice_set ws later w)) ≡ filter (λ v. not (over v)) (map waiting_seen (take (i + 1) old))
  kept_next true e next n = ap (λ m. map waiting_seen (take m (slice_set ws later w))) (n ∙ omega arith) ∙ ap (map waiting_seen) (take-set ws later w) ∙ sym (filtered true e ∙ append-nil (map waiting_seen (take later ws)))
  kept_next false e next n = ap (λ m. map waiting_seen (take m (slice_set ws later w))) n
      ∙ ap (map waiting_seen) (take_more (slice_set ws later w) later w (omega (arith, le, lt, long, length-set ws later w)))
      ∙ ap (map waiting_seen) (λ j. take-set ws later w j ++ get_or-set_same ws later w w (omega (arith, le, lt, long)) j ∷ [])
      ∙ map-append waiting_seen (take later ws) (w ∷ []) ∙ sym (filtered false e)

  pub rest_next : drop (i + 1) (slice_set ws later w) ≡ drop (i + 1) old
  rest_next = drop-set-lt (i + 1) ws later w (omega (arith, le)) ∙ Rattle.std.proofs.lemmas.Grind.drop_more_same ws old i rest

-- Runs of lists that ascend by positions.
use Rattle.std.proofs.Common.{◌≡◌, ◌≢◌, ℕ, zero, suc, ◌+◌, ◌-◌, ◌<◌, ◌≤◌, ◌==◌, false, cond, List, [], ◌∷◌, map, filter, take, drop, length, slice_index_or, refl, sym, ap, subst, ◌∙◌, arith, inl, inr}
use Rattle.std.proofs.lemmas.Bool.{ne_eqb, eq-eqb, cases_order}
use Rattle.std.proofs.lemmas.List.{drop-drop, get_or-drop, length-drop}
use Rattle.frame_record.specs.Ordered.{AscendFrom}
use Rattle.render_core.specs.Runs.{RunsFrom}

weaken : (low bound : ℕ) (ns : List ℕ) → low ≤ bound → AscendFrom bound ns → AscendFrom low ns
weaken low bound [] le a = tt
weaken low bound (n ∷ ns) le a = (omega (arith, le, a.0), a.1)

other : (m p : ℕ) → p + 1 ≤ m → (m == p) ≡ false
other m p le = ne_eqb m p (λ e. omega (arith, e, le))

above : (p m : ℕ) → p ≤ m → m ≢ p → p + 1 ≤ m
above p m le ne = elim (cases_order p m) [
  | inl e ↦ absurd (ne (sym e))
  | inr (inl l) ↦ omega (arith, l)
  | inr (inr l) ↦ omega (arith, l, le)
]

module _ {X : Type 0} (pos : X → ℕ) where
  -- those at a position
  abbrev pub at_position : ℕ → List X → List X
  at_position p xs = filter (λ x. pos x == p) xs

  none_from : (p : ℕ) (xs : List X) → AscendFrom (p + 1) (map pos xs) → at_position p xs ≡ []
  none_from p [] a = refl
  none_from p (x ∷ xs) a =
      ap (λ b. cond b (x ∷ at_position p xs) (at_position p xs)) (other (pos x) p a.0) ∙ none_from p xs (weaken (p + 1) (pos x) (map pos xs) a.0 a.1)

  -- a list whose first elements are at a position, and no other
  record Split (p n : ℕ) (rest : List X) : Type 0 where
    pub run : take n rest ≡ at_position p rest
    pub up : AscendFrom (p + 1) (map pos (drop n rest))
    pub later : (q : ℕ) → p + 1 ≤ q → at_position q rest ≡ at_position q (drop n rest)

  split : (p n : ℕ) (rest : List X) → AscendFrom p (map pos rest) → n ≤ length rest → ((i : ℕ) (d : X) → i < n → pos (slice_index_or rest i d) ≡ p)
      → ((d : X) → n < length rest → pos (slice_index_or rest n d) ≢ p) → Split p n rest
  split p zero [] a le same end = record { run = refl; up = tt; later = λ q more. refl }
  split p zero (x ∷ xs) a le same end =
      let up : AscendFrom (p + 1) (map pos (x ∷ xs)) = (above p (pos x) a.0 (end x (omega arith)), a.1) in
      record { run = sym (none_from p (x ∷ xs) up); up = up; later = λ q more. refl }
  split p (suc n) [] a le same end = absurd (omega (arith, le))
  split p (suc n) (x ∷ xs) a le same end =
      let here : pos x ≡ p = same 0 x (omega arith) in
      let rest : Split p n xs = split p n xs (subst (λ m. AscendFrom m (map pos xs)) here a.1) (omega (arith, le)) (λ i d lt. same (suc i) d (omega (arith, lt))) (λ d lt. end d (omega (arith, lt))) in
      record {
        run = ap (λ ys. x ∷ ys) rest.run ∙ sym (ap (λ b. cond b (x ∷ at_position p xs) (at_position p xs)) (eq-eqb (pos x) p here));
        up = rest.up;
        later = λ q more. ap (λ b. cond b (x ∷ at_position q xs) (at_position q xs)) (ne_eqb (pos x) q (λ e. omega (arith, here, e, more))) ∙ rest.later q more;
      }

  -- before the first position
  pub runs_first : (xs : List X) → AscendFrom 0 (map pos xs) → RunsFrom pos 0 0 xs
  runs_first xs a = record { within = omega arith; up = a; later = λ q le. refl }

  -- the run of a position, and what is left after it
  pub record NextRun (from to p : ℕ) (xs : List X) : Type 0 where
    pub run : take (to - from) (drop from xs) ≡ at_position p xs
    pub next : RunsFrom pos to (p + 1) xs

  pub next_run : (from to p : ℕ) (xs : List X) → RunsFrom pos from p xs → from ≤ to → to ≤ length xs
      → ((i : ℕ) (d : X) → from ≤ i → i < to → pos (slice_index_or xs i d) ≡ p) → ((d : X) → to < length xs → pos (slice_index_or xs to d) ≢ p) → NextRun from to p xs
  next_run from to p xs k le most same end =
      let n : ℕ = to - from in
      let is : from + n ≡ to = omega (arith, le) in
      let long : length (drop from xs) ≡ length xs - from = length-drop from xs in
      let s : Split p n (drop from xs) =
      split p n (drop from xs) k.up (omega (arith, long, le, most))
      (λ i d lt. ap pos (get_or-drop from xs i d) ∙ same (from + i) d (omega arith) (omega (arith, lt, is)))
      (λ d lt e. end d (omega (arith, lt, long, is)) (ap (λ m. pos (slice_index_or xs m d)) (sym is) ∙ sym (ap pos (get_or-drop from xs n d)) ∙ e)) in
      let rest : drop n (drop from xs) ≡ drop to xs = drop-drop n from xs ∙ ap (λ m. drop m xs) is in
      record {
        run = s.run ∙ sym (k.later p (omega arith));
        next = record {
          within = most;
          up = subst (λ ys. AscendFrom (p + 1) (map pos ys)) rest s.up;
          later = λ q more. k.later q (omega (arith, more)) ∙ s.later q more ∙ ap (at_position q) rest;
        };
      }

-- Marks in order give the least pairs of the definition.
use Rattle.std.proofs.Common.{◌≡◌, ℕ, ◌<◌, ◌⊎◌, inl, inr, Bool, true, false, ◌==◌, cond, List, [], ◌∷◌, fold, Option, Some, None, refl, subst}
use Rattle.std.specs.List.{AllByRecursion}
use Rattle.std.specs.List.Sorted.{IsPermutation}
use Rattle.std.proofs.lemmas.List.Sorted.{IsPermutation-sym}
use Rattle.shared_keys.specs.declared.marks.Mark.{Mark}
use Rattle.shared_keys.specs.Pairs.{least_pair, sharing_views}
use Rattle.shared_keys.specs.Marks.{marks_share, IsMarkOf}
use Rattle.shared_keys.specs.Steps.{AreInOrder, AreInOrderFrom, steps_of, with_step, leasts_of}
use Rattle.shared_keys.specs.Members.{In}
use Rattle.shared_keys.proofs.Members.{member-has, Share, of-share, to-share, share-moves}
use Rattle.shared_keys.proofs.Steps.{Step, ViewsAscend, HasStep, steps-sound, steps-complete, steps-ascend}
use Rattle.shared_keys.proofs.Kept.{Pair, pair_at, kept-some, kept-none, leasts-up, up-to-over}
use Rattle.shared_keys.proofs.Views.{least-is, least-none, AllBelow, views-are}

sound : (marks : List Mark) (s : Step) → In s (steps_of marks) → Share marks s.0 s.1.0 s.1.1 × (s.1.0 < s.1.1)
sound [] s i = absurd i
sound (m ∷ rest) s i = steps-sound m rest s i

complete : (marks : List Mark) (v a b : ℕ) → AreInOrder marks → Share marks v a b → a < b → HasStep (steps_of marks) v a b
complete [] v a b o s l = absurd s.has_left
complete (m ∷ rest) v a b o s l = steps-complete m rest v a b o s l

ascend : (marks : List Mark) → AreInOrder marks → (low : ℕ) × ViewsAscend low (steps_of marks)
ascend [] o = (0, tt)
ascend (m ∷ rest) o = (m.view, steps-ascend m rest o)

all-below : (n : ℕ) (xs : List Step) → ((s : Step) → In s xs → s.0 < n) → AllBelow n xs
all-below n [] h = tt
all-below n (x ∷ xs) h = (h x (inl refl), all-below n xs (λ s i. h s (inr i)))

with-member : (xs : List Step) (s t : Step) → In t (with_step xs s) → In t xs ⊎ (t ≡ s)
with-member [] s t (inl e) = inr e
with-member [] s t (inr i) = absurd i
with-member (x ∷ []) s t i = go (x.0 == s.0) (Rattle.shared_keys.specs.Steps.is_less s.1 x.1) i
  where
    go : (a c : Bool) → In t (cond a (cond c (s ∷ []) (x ∷ [])) (x ∷ s ∷ [])) → In t (x ∷ []) ⊎ (t ≡ s)
    go true true (inl e) = inr e
    go true true (inr j) = absurd j
    go true false j = inl j
    go false c (inl e) = inl (inl e)
    go false c (inr (inl e)) = inr e
    go false c (inr (inr j)) = absurd j
with-member (x ∷ y ∷ rest) s t (inl e) = inl (inl e)
with-member (x ∷ y ∷ rest) s t (inr i) = elim (with-member (y ∷ rest) s t i) [ inl j ↦ inl (inr j) | inr e ↦ inr e ]

kept-member : (xs steps : List Step) (t : Step) → In t (fold with_step xs steps) → In t xs ⊎ In t steps
kept-member xs [] t i = inl i
kept-member xs (s ∷ steps) t i = elim (kept-member (with_step xs s) steps t i) [
  | inl j ↦ elim (with-member xs s t j) [ inl k ↦ inl k | inr e ↦ inr (inl e) ]
  | inr j ↦ inr (inr j)
]

not_true : (b : Bool) → (b ≡ true → ⊥) → b ≡ false
not_true true f = absurd (f refl)
not_true false f = refl

module _ (marks sorted : List Mark) (moves : IsPermutation marks sorted) (o : AreInOrder sorted) where
  steps : List Step
  steps = steps_of sorted

  shared : (v a b : ℕ) → a < b → marks_share marks v a b ≡ true → HasStep (steps_of sorted) v a b
  shared v a b l t = complete sorted v a b o (share-moves marks sorted v a b moves (of-share marks v a b t)) l

  at-view : (encoders : ℕ) → ((m : Mark) → In m marks → m.encoder < encoders) → (v : ℕ) (p : Option Pair) → pair_at v (leasts_of (steps_of sorted)) ≡ p → least_pair (marks_share marks) encoders v ≡ p
  at-view encoders few v None e = least-none (marks_share marks) encoders v (λ a b l. not_true (marks_share marks v a b) (λ t. let s = shared v a b l t in kept-none v (ascend sorted o).0 (steps_of sorted) (ascend sorted o).1 e (a, s.0) s.2))
  at-view encoders few v (Some x) e =
      let least = kept-some v (ascend sorted o).0 (steps_of sorted) x (ascend sorted o).1 e in
      let told = sound sorted (v, x) least.there in
      let own : Share marks v x.0 x.1 = share-moves sorted marks v x.0 x.1 (IsPermutation-sym marks sorted moves) told.0 in
      let high : x.1 < encoders = subst (λ (n : ℕ). n < encoders) own.second (few own.right own.has_right) in
      least-is (marks_share marks) encoders v x high (record {
        rises = told.1;
        shared = to-share marks v x.0 x.1 own;
        least = λ a b l t. let s = shared v a b l t in let c = s.1 in up-to-over x (a, s.0) (a, b) (least.least (a, s.0) s.2) (inr (refl, c));
      })

  pub leasts-are : (views encoders : ℕ) → AllByRecursion (IsMarkOf views encoders) marks → sharing_views (marks_share marks) encoders views ≡ leasts_of (steps_of sorted)
  leasts-are views encoders own =
      let up = leasts-up (ascend sorted o).0 (steps_of sorted) (ascend sorted o).1 in
      let below : AllBelow views (leasts_of (steps_of sorted)) = all-below views (leasts_of (steps_of sorted)) (λ s i. elim (kept-member [] (steps_of sorted) s i) [
        | inl j ↦ absurd j
        | inr j ↦
            let told = sound sorted s j in
            let mine : Share marks s.0 s.1.0 s.1.1 = share-moves sorted marks s.0 s.1.0 s.1.1 (IsPermutation-sym marks sorted moves) told.0 in
            subst (λ (n : ℕ). n < views) mine.view (member-has (IsMarkOf views encoders) marks mine.left own mine.has_left).0
      ]) in
      views-are (marks_share marks) encoders views up.0 (leasts_of (steps_of sorted)) up.1 below
      (λ v. at-view encoders (λ m i. (member-has (IsMarkOf views encoders) marks m own i).1) v (pair_at v (leasts_of (steps_of sorted))) refl)

-- Four recordings, by the numbers of their items: they can be collected, and no number is twice.
use Rattle.std.proofs.Common.{◌≡◌, ℕ, ◌≤◌, List, [], ◌∷◌, ◌++◌, map, length, refl, sym, ap, subst, ◌∙◌, arith, lit<}
use Rattle.std.specs.List.{flat_map, AllByRecursion}
use Rattle.schedule_model.specs.Held.{Ascends, count_of}
use Rattle.draw_encoder.specs.declared.items.Recording.{Recording}
use Rattle.draw_encoder.specs.Seen.{numbers_of}
use Rattle.frame_record.specs.Kept.{IsCollectable, numbers_in}
use Rattle.frame_record.proofs.Apart.{count_most}

-- the numbers of each recording
abbrev pub numbers_each : List Recording → List (List ℕ)
numbers_each rs = map (λ r. numbers_of r.items) rs

-- those of the four
abbrev pub the_four : List (List ℕ)
the_four = (0 ∷ 7 ∷ []) ∷ (1 ∷ 3 ∷ []) ∷ (2 ∷ 6 ∷ []) ∷ (4 ∷ 5 ∷ []) ∷ []

all_numbers : (rs : List Recording) → numbers_in rs ≡ flat_map (λ (ns : List ℕ). ns) (numbers_each rs)
all_numbers [] = refl
all_numbers (r ∷ rs) = ap (λ (ms : List ℕ). numbers_of r.items ++ ms) (all_numbers rs)

all_ascend : (rs : List Recording) → AllByRecursion Ascends (numbers_each rs) → AllByRecursion (λ (r : Recording). Ascends (numbers_of r.items)) rs
all_ascend [] a = tt
all_ascend (r ∷ rs) a = (a.0, all_ascend rs a.1)

the_numbers : (rs : List Recording) → numbers_each rs ≡ the_four → numbers_in rs ≡ 0 ∷ 7 ∷ 1 ∷ 3 ∷ 2 ∷ 6 ∷ 4 ∷ 5 ∷ []
the_numbers rs e = all_numbers rs ∙ ap (flat_map (λ (ns : List ℕ). ns)) e

each_ascends : AllByRecursion Ascends the_four
each_ascends = ((lit< tt, tt), ((lit< tt, tt), ((lit< tt, tt), ((lit< tt, tt), tt))))

pub few_numbers : (rs : List Recording) → numbers_each rs ≡ the_four → length (numbers_in rs) ≤ 65528
few_numbers rs e = let eight : length (numbers_in rs) ≡ 8 = ap length (the_numbers rs e) in omega (arith, eight)

pub apart : (rs : List Recording) → numbers_each rs ≡ the_four → (n : ℕ) → count_of n (numbers_in rs) ≤ 1
apart rs e = subst (λ (ms : List ℕ). (n : ℕ) → count_of n ms ≤ 1) (sym (the_numbers rs e)) (count_most (0 ∷ 7 ∷ 1 ∷ 3 ∷ 2 ∷ 6 ∷ 4 ∷ 5 ∷ []) refl)

pub collectable : (rs : List Recording) → numbers_each rs ≡ the_four → IsCollectable rs
collectable rs e = record {
  few = few_numbers rs e;
  ascends = all_ascend rs (subst (λ (ns : List (List ℕ)). AllByRecursion Ascends ns) (sym e) each_ascends);
}

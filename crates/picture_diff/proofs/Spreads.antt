-- One differing pixel more.
use Rattle.std.proofs.Common.{◌≡◌, ℕ, ◌+◌, ◌≤◌, max, min, Bool, true, false, cond, List, [], ◌∷◌, ◌++◌, length, Some, refl, ap, sym, ◌∙◌, arith, append-nil}
use Rattle.std.specs.Prelude.{fold, map}
use Rattle.std.proofs.lemmas.List.{length-append}
use Rattle.picture_diff.specs.Difference.{spread_of}
use Rattle.picture_diff.specs.Told.{found_of, widened}
use Rattle.picture_diff.specs.declared.difference.Place.{Place}
use Rattle.picture_diff.specs.declared.found.Found.{Found}

fold-more : (f : ℕ → ℕ → ℕ) (g : Place → ℕ) (n : ℕ) (ps : List Place) (p : Place) → fold f n (map g (ps ++ p ∷ [])) ≡ f (fold f n (map g ps)) (g p)
fold-more f g n [] p = refl
fold-more f g n (q ∷ ps) p = fold-more f g (f n (g q)) ps p

spread-more : (ps : List Place) (p : Place) → spread_of (ps ++ p ∷ []) ≡ Some (widened (spread_of ps) p)
spread-more [] p = refl
spread-more (f ∷ ps) p =
    let left = fold-more min (λ (q : Place). q.x) f.x ps p in
    let top = fold-more min (λ (q : Place). q.y) f.y ps p in
    let right = fold-more max (λ (q : Place). q.x) f.x ps p in
    let bottom = fold-more max (λ (q : Place). q.y) f.y ps p in
    λ i. Some (record { first = f; left = left i; top = top i; right = right i; bottom = bottom i })

-- what was found, with a place more
abbrev pub with_place : Found → Place → Found
with_place f p = record { differ = f.differ + 1; spread = Some (widened f.spread p) }

pub found-more : (f : Found) (ps : List Place) (p : Place) → f ≡ found_of ps → with_place f p ≡ found_of (ps ++ p ∷ [])
found-more f ps p e =
    let many : length ps + 1 ≡ length (ps ++ p ∷ []) = sym (length-append ps (p ∷ [])) in
    let wide = sym (spread-more ps p) in
    ap (λ (g : Found). with_place g p) e ∙ (λ i. record { differ = many i; spread = wide i })

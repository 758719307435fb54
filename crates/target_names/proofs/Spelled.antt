-- Names, one after another.
use Rattle.std.proofs.Common.{◌≡◌, ◌∙◌, ℕ, zero, suc, ◌+◌, ◌<◌, ◌≤◌, Bool, true, false, cond, List, [], ◌∷◌, drop, length, get_or, Option, Some, None, refl, sym, ap, arith}
use Rattle.std.proofs.lemmas.List.{drop_more, drop_all}
use Rattle.std.specs.Prelude.{bytes_eq}
use Rattle.scene_model.specs.Scene.{Name}
use Rattle.target_laws.specs.Names.{name_from}

module _ (text : List ℕ) (names : List (List ℕ)) (i : ℕ) (x : List ℕ) (whole : Option Name) (lt : i < length names) (is : get_or names i x ≡ x) (left : name_from i (drop i names) text ≡ whole) where
  cut : name_from i (x ∷ drop (i + 1) names) text ≡ whole
  cut = ap (λ y. name_from i (y ∷ drop (i + 1) names) text) (sym is) ∙ ap (λ ys. name_from i ys text) (sym (drop_more names i x lt)) ∙ left

  pub name-next : bytes_eq x text ≡ false → name_from (i + 1) (drop (i + 1) names) text ≡ whole
  name-next other = sym (ap (λ (b : Bool). cond b (Some i) (name_from (i + 1) (drop (i + 1) names) text)) other) ∙ cut

  pub name-found : bytes_eq x text ≡ true → Some i ≡ whole
  name-found same = sym (ap (λ (b : Bool). cond b (Some i) (name_from (i + 1) (drop (i + 1) names) text)) same) ∙ cut

pub name-none : (text : List ℕ) (names : List (List ℕ)) (i : ℕ) (whole : Option Name) → length names ≤ i → name_from i (drop i names) text ≡ whole → None ≡ whole
name-none text names i whole le left = sym (ap (λ ys. name_from i ys text) (drop_all i names le)) ∙ left

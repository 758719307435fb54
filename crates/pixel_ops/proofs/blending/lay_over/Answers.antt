use Rattle.std.proofs.Common.{rules, ◌≡◌, ℕ, ◌+◌, ◌-◌, ◌<◌, ◌≤◌, ◌∷◌, [], ◌∙◌, get_or, refl}
use Rattle.std.specs.Prelude.{min}
use Rattle.gfx_model.specs.Number.{byte_product}
use Rattle.std.proofs.lemmas.Nat.{le_bytes_4}
use Rattle.pixel_ops.specs.Blended.{over_byte}
use Rattle.pixel_ops.proofs.Pairs.{joined, over_few, over_is, four_few}
use Rattle.pixel_ops.proofs.blending.lay_over.Goals as goal

pub returns : goal.returns
returns c =
    let s = c.args.source in
    let d = c.args.stored in
    let a : (i : ℕ) → get_or s i 0 < 256 = search rules in
    let b : (i : ℕ) → get_or d i 0 < 256 = search rules in
    let f = get_or s 3 0 in
    let over : ℕ → ℕ = λ i. over_byte (get_or s i 0) (get_or d i 0) f in
    let few : (i : ℕ) → over_byte (get_or s i 0) (get_or d i 0) f ≤ 255 = λ i. over_few (get_or s i 0) (get_or d i 0) f (a i) (b i) (a 3) in
    let is : (i : ℕ) → over_byte (get_or s i 0) (get_or d i 0) f ≡ min 255 (byte_product (get_or s i 0) f + byte_product (get_or d i 0) (255 - f)) = λ i. over_is (get_or s i 0) (get_or d i 0) f (a i) (b i) (a 3) in
    let even = c.over_pair-even.ensures (get_or s 2 0) (get_or s 0 0) (get_or d 2 0) (get_or d 0 0) (a 2) (a 0) (b 2) (b 0) c.even_channels.ensures c.even_channels-2.ensures in
    let odd = c.over_pair-odd.ensures (get_or s 3 0) (get_or s 1 0) (get_or d 3 0) (get_or d 1 0) (a 3) (a 1) (b 3) (b 1) c.odd_channels.ensures c.odd_channels-2.ensures in
    c.to_le_bytes.ensures
    ∙ le_bytes_4 (over 0 ∷ over 1 ∷ over 2 ∷ over 3 ∷ []) _ refl (four_few (over 0) (over 1) (over 2) (over 3) (few 0) (few 1) (few 2) (few 3))
    (joined (over 0) (over 2) (over 1) (over 3) c.over_pair-even.result c.over_pair-odd.result (few 0) (few 2) (few 1) (few 3) even odd)
    ∙ (λ i. is 0 i ∷ is 1 i ∷ is 2 i ∷ is 3 i ∷ [])

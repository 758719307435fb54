-- Two bytes in the halves of a word, and their sums and products.
use Rattle.std.proofs.Common.{◌≡◌, ℕ, ◌+◌, ◌-◌, ◌*◌, ◌/◌, ◌%◌, ◌<◌, ◌≤◌, [], ◌∷◌, zero, suc, get_or, ap, sym, ◌∙◌, arith}
use Rattle.std.specs.Prelude.{min}
use Rattle.std.proofs.Math.Nat.{mul-le-mul_right, min-eq_right}
use Rattle.std.specs.Int.RustNames.{bit_and}
use Rattle.std.proofs.lemmas.Nat.{and_block, and_mask}
use Rattle.gfx_model.specs.Number.{byte_product}
use Rattle.pixel_ops.specs.Blended.{over_byte}

-- the mask of the lower bytes of both halves
pub lower_bytes_is : (n : ℕ) → bit_and n 16711935 ≡ n / 65536 % 256 * 65536 + n % 256
lower_bytes_is n =
    let split : n ≡ n / 65536 * 65536 + n % 65536 = omega arith in
    let low : bit_and (n % 65536) 255 ≡ n % 256 = and_mask (n % 65536) 8 ∙ omega arith in
    ap (λ m. bit_and m 16711935) split
    ∙ and_block 16 (n / 65536) 255 (n % 65536) 255 (omega arith) (omega arith)
    ∙ (λ i. and_mask (n / 65536) 8 i * 65536 + low i)

-- a division by 255 as two by 256
by_shifts : (sum : ℕ) → sum ≤ 65279 → (sum + 1 + sum / 256) / 256 ≡ sum / 255
by_shifts sum h = omega arith

-- the upper bytes of both halves
upper_bytes : (h l n : ℕ) → h < 65536 → l < 65536 → n ≡ h * 65536 + l → n / 256 / 65536 % 256 * 65536 + n / 256 % 256 ≡ h / 256 * 65536 + l / 256
upper_bytes h l n a b e =
    let upper : n / 256 / 65536 % 256 ≡ h / 256 = omega (arith, a, b, e) in
    let lower : n / 256 % 256 ≡ l / 256 = omega (arith, a, b, e) in
    (λ i. upper i * 65536 + lower i)

-- both halves by 255
pub divided : (h l n m : ℕ) → h ≤ 65152 → l ≤ 65152 → n ≡ h * 65536 + l → m ≡ n / 256 / 65536 % 256 * 65536 + n / 256 % 256 →
    (n + 65537 + m) / 256 / 65536 % 256 * 65536 + (n + 65537 + m) / 256 % 256 ≡ h / 255 * 65536 + l / 255
divided h l n m a b e f =
    let here : m ≡ h / 256 * 65536 + l / 256 = f ∙ upper_bytes h l n (omega (arith, a)) (omega (arith, b)) e in
    upper_bytes (h + 1 + h / 256) (l + 1 + l / 256) (n + 65537 + m) (omega (arith, a)) (omega (arith, b)) (omega (arith, e, here))
    ∙ (λ i. by_shifts h (omega (arith, a)) i * 65536 + by_shifts l (omega (arith, b)) i)

-- a byte's product with a byte, and 127
pub product_few : (a f : ℕ) → a < 256 → f < 256 → a * f + 127 ≤ 65152
product_few a f p q =
    let near : a ≤ 255 = omega (arith, p) in
    omega (arith, q, mul-le-mul_right f near)

-- a share of an alpha is at most the alpha
share_few : (a f : ℕ) → a < 256 → byte_product a f ≤ f
share_few a f p =
    let near : a ≤ 255 = omega (arith, p) in
    let most : a * f ≤ 255 * f = mul-le-mul_right f near in
    omega (arith, most)

pub over_few : (s d f : ℕ) → s < 256 → d < 256 → f < 256 → over_byte s d f ≤ 255
over_few s d f p q h = omega (arith, h, share_few s f p, share_few d (255 - f) q)

pub over_is : (s d f : ℕ) → s < 256 → d < 256 → f < 256 → over_byte s d f ≡ min 255 (byte_product s f + byte_product d (255 - f))
over_is s d f p q h = sym (min-eq_right (over_few s d f p q h))

-- red and blue of a colour's word
pub even_is : (a b c d n r : ℕ) → a < 256 → b < 256 → c < 256 → d < 256 → n ≡ a + b * 256 + c * 65536 + d * 16777216 → r ≡ n / 65536 % 256 * 65536 + n % 256 → r ≡ c * 65536 + a
even_is a b c d n r p q s t e h =
    let upper : n / 65536 % 256 ≡ c = omega (arith, p, q, s, t, e) in
    let lower : n % 256 ≡ a = omega (arith, p, q, s, t, e) in
    h ∙ (λ i. upper i * 65536 + lower i)

-- green and alpha
pub odd_is : (a b c d n r : ℕ) → a < 256 → b < 256 → c < 256 → d < 256 → n ≡ a + b * 256 + c * 65536 + d * 16777216 → r ≡ n / 256 / 65536 % 256 * 65536 + n / 256 % 256 → r ≡ d * 65536 + b
odd_is a b c d n r p q s t e h =
    let upper : n / 256 / 65536 % 256 ≡ d = omega (arith, p, q, s, t, e) in
    let lower : n / 256 % 256 ≡ b = omega (arith, p, q, s, t, e) in
    h ∙ (λ i. upper i * 65536 + lower i)

-- the products of both halves
pub pair_product : (a b f n : ℕ) → n ≡ a * 65536 + b → n * f + 8323199 ≡ (a * f + 127) * 65536 + (b * f + 127)
pair_product a b f n e = ap (λ m. m * f + 8323199) e ∙ spread a b f
  where
    spread : (a b f : ℕ) → (a * 65536 + b) * f + 8323199 ≡ (a * f + 127) * 65536 + (b * f + 127)
    spread a b f = omega arith

-- the words of both pairs as one
pub joined : (e0 e1 o0 o1 e o : ℕ) → e0 ≤ 255 → e1 ≤ 255 → o0 ≤ 255 → o1 ≤ 255 → e ≡ e1 * 65536 + e0 → o ≡ o1 * 65536 + o0 →
    (e + o * 256 % 4294967296) % 4294967296 ≡ e0 + o0 * 256 + e1 * 65536 + o1 * 16777216
joined e0 e1 o0 o1 e o p q s t he ho = omega (arith, p, q, s, t, he, ho)

-- four numbers of at most 255 in a list
pub four_few : (a b c d : ℕ) → a ≤ 255 → b ≤ 255 → c ≤ 255 → d ≤ 255 → (i : ℕ) → get_or (a ∷ b ∷ c ∷ d ∷ []) i 0 < 256
four_few a b c d p q s t zero = omega (arith, p)
four_few a b c d p q s t (suc zero) = omega (arith, q)
four_few a b c d p q s t (suc (suc zero)) = omega (arith, s)
four_few a b c d p q s t (suc (suc (suc zero))) = omega (arith, t)
four_few a b c d p q s t (suc (suc (suc (suc i)))) = omega arith

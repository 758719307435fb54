-- Bytes, colours and texels that are read are spelled by two digits a byte.
use Rattle.std.proofs.Common.{◌≡◌, ℕ, ◌+◌, ◌*◌, ◌-◌, ◌/◌, ◌%◌, ◌<◌, ◌≤◌, Bool, true, false, ◌&&◌, ◌==◌, nat_lt, leb, eqb-true, cond, List, [], ◌∷◌, ◌++◌, drop, length, Option, Some, None, Ok, Err, refl, ap, sym, ◌∙◌, arith}
use Rattle.std.specs.Prelude.{codes, flat_map}
use Rattle.std.specs.List.{starts_with}
use Rattle.std.proofs.lemmas.Bool.{leb-true}
use Rattle.std.proofs.lemmas.Bool.Decides.{nat_tests}
use Rattle.std.proofs.lemmas.Slice.Eq.{bytes_eq-Decides}
use Rattle.gfx_model.specs.Vertex.{Color}
use Rattle.gfx_model.specs.Resources.{TexelSource, fill_source, bytes_source}
use Rattle.scene_model.specs.Field.{◌>>=◌, misspelt, is_digit, hex_value, joined, hex_byte, hex_pairs, is_dash, hex_bytes, color_field, source_field}
use Rattle.scene_model.specs.Grammar.{Field}
use Rattle.spelling_model.specs.FieldSpelling.{hex_digit, hex_pair, hex_field, color_spelled, source_spelled}
use Rattle.spelling_model.proofs.Read.{bind_ok, both, true_false}

digit_low : (b v : ℕ) → is_digit b ≡ true → b - 48 ≡ v → (b ≡ hex_digit v) × (v < 16)
digit_low b v d e =
    let range : (48 ≤ b) × (b ≤ 57) = grind (arith, nat_tests, d) in
    let small : nat_lt v 10 ≡ true = let k : v < 10 = omega (arith, range, e) in grind (arith, nat_tests, k) in
    let same : b ≡ 48 + v = omega (arith, range, e) in
    (same ∙ ap (λ t. cond t (48 + v) (87 + v)) (sym small), omega (arith, range, e))

digit_high : (b v : ℕ) → (leb 97 b && leb b 102) ≡ true → b - 87 ≡ v → (b ≡ hex_digit v) × (v < 16)
digit_high b v d e =
    let p = both (leb 97 b) (leb b 102) d in
    let low = leb-true 97 b p.0 in
    let high = leb-true b 102 p.1 in
    let large : nat_lt v 10 ≡ false = let k : 10 ≤ v = omega (arith, low, high, e) in grind (arith, nat_tests, k) in
    let same : b ≡ 87 + v = omega (arith, low, high, e) in
    (same ∙ ap (λ t. cond t (48 + v) (87 + v)) (sym large), omega (arith, low, high, e))

pub digit_takes : (b v : ℕ) → hex_value b ≡ Some v → (b ≡ hex_digit v) × (v < 16)
unfolding hex_value
digit_takes b v e = by (is_digit b) refl (leb 97 b && leb b 102) refl e
  where
    by : (t : Bool) → is_digit b ≡ t → (u : Bool) → (leb 97 b && leb b 102) ≡ u → cond t (Some (b - 48)) (cond u (Some (b - 87)) None) ≡ Some v → (b ≡ hex_digit v) × (v < 16)
    by true t u h e = digit_low b v t (cc e)
    by false t true h e = digit_high b v h (cc e)
    by false t false h e = absurd (cc e)

pair_of : (v w n : ℕ) → w < 16 → v * 16 + w ≡ n → (n / 16 ≡ v) × (n % 16 ≡ w)
pair_of v w n small e = (omega (arith, small, e), omega (arith, small, e))

pub byte_takes : (a b n : ℕ) → hex_byte a b ≡ Ok n → a ∷ b ∷ [] ≡ hex_pair n
unfolding hex_byte
byte_takes a b n e = by (hex_value a) refl (hex_value b) refl e
  where
    by : (o : Option ℕ) → hex_value a ≡ o → (p : Option ℕ) → hex_value b ≡ p → joined o p ≡ Ok n → a ∷ b ∷ [] ≡ hex_pair n
    by None h p k e = absurd (cc e)
    by (Some v) h None k e = absurd (cc e)
    by (Some v) h (Some w) k e =
        let made : v * 16 + w ≡ n = cc e in
        let high = digit_takes a v h in
        let low = digit_takes b w k in
        let parts = pair_of v w n low.1 made in
        let x : a ≡ hex_digit (n / 16) = high.0 ∙ ap hex_digit (sym parts.0) in
        let y : b ≡ hex_digit (n % 16) = low.0 ∙ ap hex_digit (sym parts.1) in
        λ i. x i ∷ y i ∷ []

pairs_take : (f : Field) (bytes : List ℕ) → hex_pairs f ≡ Ok bytes → f ≡ flat_map hex_pair bytes
pairs_take [] bytes e = let made : [] ≡ bytes = cc e in ap (flat_map hex_pair) made
pairs_take (a ∷ []) bytes e = absurd (cc e)
pairs_take (a ∷ b ∷ rest) bytes e =
    let x = bind_ok (hex_byte a b) _ bytes e in
    let y = bind_ok (hex_pairs rest) _ bytes x.2 in
    let made : x.0 ∷ y.0 ≡ bytes = cc y.2 in
    let first : a ∷ b ∷ [] ≡ hex_pair x.0 = byte_takes a b x.0 x.1 in
    (λ i. first i ++ pairs_take rest y.0 y.1 i) ∙ ap (flat_map hex_pair) made

-- what is not empty is no list of no bytes
pairs_field : (f : Field) (bytes : List ℕ) → (length f == 0) ≡ false → f ≡ flat_map hex_pair bytes → f ≡ hex_field bytes
pairs_field f [] some e = absurd (true_false (ap (λ k. length k == 0) (sym e) ∙ some))
pairs_field f (b ∷ bytes) some e = e

pub hex_takes : (f : Field) (bytes : List ℕ) → hex_bytes f ≡ Ok bytes → f ≡ hex_field bytes
hex_takes f bytes e = by (is_dash f) refl (length f == 0) refl e
  where
    by : (t : Bool) → is_dash f ≡ t → (u : Bool) → (length f == 0) ≡ u → cond t (Ok []) (cond u (Err misspelt) (hex_pairs f)) ≡ Ok bytes → f ≡ hex_field bytes
    by true t u h e = let made : [] ≡ bytes = cc e in (bytes_eq-Decides f (codes "-")).0 t ∙ ap hex_field made
    by false t true h e = absurd (cc e)
    by false t false h e = pairs_field f bytes h (pairs_take f bytes e)

color_eight : (a b c d e f g h : ℕ) (color : Color) → color_field (a ∷ b ∷ c ∷ d ∷ e ∷ f ∷ g ∷ h ∷ []) ≡ Ok color → a ∷ b ∷ c ∷ d ∷ e ∷ f ∷ g ∷ h ∷ [] ≡ color_spelled color
color_eight a b c d e f g h color ok =
    let r = bind_ok (hex_byte a b) _ color ok in
    let s = bind_ok (hex_byte c d) _ color r.2 in
    let t = bind_ok (hex_byte e f) _ color s.2 in
    let u = bind_ok (hex_byte g h) _ color t.2 in
    let made : r.0 ∷ s.0 ∷ t.0 ∷ u.0 ∷ [] ≡ color = cc u.2 in
    let r1 : a ∷ b ∷ [] ≡ hex_pair r.0 = byte_takes a b r.0 r.1 in
    let s1 : c ∷ d ∷ [] ≡ hex_pair s.0 = byte_takes c d s.0 s.1 in
    let t1 : e ∷ f ∷ [] ≡ hex_pair t.0 = byte_takes e f t.0 t.1 in
    let u1 : g ∷ h ∷ [] ≡ hex_pair u.0 = byte_takes g h u.0 u.1 in
    (λ i. r1 i ++ (s1 i ++ (t1 i ++ (u1 i ++ [])))) ∙ ap color_spelled made

pub color_takes : (f : Field) (color : Color) → color_field f ≡ Ok color → f ≡ color_spelled color
color_takes (a ∷ b ∷ c ∷ d ∷ e ∷ f ∷ g ∷ h ∷ []) color ok = color_eight a b c d e f g h color ok
color_takes [] color ok = absurd (cc ok)
color_takes (a ∷ []) color ok = absurd (cc ok)
color_takes (a ∷ b ∷ []) color ok = absurd (cc ok)
color_takes (a ∷ b ∷ c ∷ []) color ok = absurd (cc ok)
color_takes (a ∷ b ∷ c ∷ d ∷ []) color ok = absurd (cc ok)
color_takes (a ∷ b ∷ c ∷ d ∷ e ∷ []) color ok = absurd (cc ok)
color_takes (a ∷ b ∷ c ∷ d ∷ e ∷ f ∷ []) color ok = absurd (cc ok)
color_takes (a ∷ b ∷ c ∷ d ∷ e ∷ f ∷ g ∷ []) color ok = absurd (cc ok)
color_takes (a ∷ b ∷ c ∷ d ∷ e ∷ f ∷ g ∷ h ∷ k ∷ rest) color ok = absurd (cc ok)

-- ---- texels

pub begins : (f word : List ℕ) → starts_with ◌==◌ f word ≡ true → f ≡ word ++ drop (length word) f
begins f [] h = refl
begins [] (w ∷ word) h = absurd (cc h)
begins (b ∷ f) (w ∷ word) h =
    let p = both (w == b) (starts_with ◌==◌ f word) h in
    let first : b ≡ w = sym (eqb-true _ _ p.0) in
    λ i. first i ∷ begins f word p.1 i

pub source_takes : (f : Field) (source : TexelSource) → source_field f ≡ Ok source → f ≡ source_spelled source
source_takes f source e = by (starts_with ◌==◌ f (codes "fill:")) refl (starts_with ◌==◌ f (codes "hex:")) refl e
  where
    by : (t : Bool) → starts_with ◌==◌ f (codes "fill:") ≡ t → (u : Bool) → starts_with ◌==◌ f (codes "hex:") ≡ u
        → cond t (color_field (drop 5 f) >>= λ c. Ok (fill_source c)) (cond u (hex_bytes (drop 4 f) >>= λ b. Ok (bytes_source b)) (Err misspelt)) ≡ Ok source → f ≡ source_spelled source
    by true t u h e =
        let c = bind_ok (color_field (drop 5 f)) _ source e in
        let made : fill_source c.0 ≡ source = cc c.2 in
        begins f (codes "fill:") t ∙ ap (λ k. codes "fill:" ++ k) (color_takes (drop 5 f) c.0 c.1) ∙ ap source_spelled made
    by false t true h e =
        let b = bind_ok (hex_bytes (drop 4 f)) _ source e in
        let made : bytes_source b.0 ≡ source = cc b.2 in
        begins f (codes "hex:") h ∙ ap (λ k. codes "hex:" ++ k) (hex_takes (drop 4 f) b.0 b.1) ∙ ap source_spelled made
    by false t false h e = absurd (cc e)

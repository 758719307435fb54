-- What a field is read as is in its range.
use Rattle.std.proofs.Common.{◌≡◌, ℕ, ◌+◌, ◌*◌, ◌^◌, ◌<◌, ◌≤◌, Bool, true, false, ◌==◌, cond, bytes_eq, List, [], ◌∷◌, drop, length, Option, Some, None, Ok, Err, refl, ap, subst, suc, arith}
use Rattle.std.specs.Prelude.{codes}
use Rattle.std.specs.List.{AllByRecursion, starts_with}
use Rattle.gfx_model.specs.Vertex.{attribute_part, skip_part}
use Rattle.gfx_model.specs.Resources.{fill_source, bytes_source}
use Rattle.scene_model.specs.Field.{Read, ◌>>=◌, misspelt, number_in, number_to, u8_number, u16_number, u32_number, integer, i32_in_range, i32_number, read_all, hex_value, joined, hex_byte, hex_pairs, is_dash, hex_bytes, color_field, source_field, attributes, component_types, word_in, skip_of, piece, skip_piece, attribute_piece, part_of_pieces, part_field, split_at}
use Rattle.scene_model.specs.Grammar.{Field, field, rect_fields, clear_fields}
use Rattle.spelling_model.specs.Readable.{AreBytes, IsColor, IsInteger, IsRect, IsClear, IsSource, IsPart}
use Rattle.spelling_model.proofs.Read.{bind_ok, same_ok}
use Rattle.spelling_model.proofs.Numbers.{number_bound, in_i32}
use Rattle.spelling_model.proofs.Bytes.{digit_takes}
use Rattle.spelling_model.proofs.Parts.{in_part_ok}

-- what a reading makes has a property
abbrev pub AllRead : {A : Type 0} → (A → Type 0) → Read A → Type 0
AllRead P m = (x : _) → m ≡ Ok x → P x

pub behind : {A B : Type 0} {P : A → Type 0} {Q : B → Type 0} (m : Read A) (f : A → Read B) → AllRead P m → ((x : A) → P x → AllRead Q (f x)) → AllRead Q (m >>= f)
behind (Ok x) f p h = h x (p x refl)
behind (Err c) f p h = λ y e. absurd (cc e)

-- the same where nothing is asked of the first reading
pub past : {A B : Type 0} {Q : B → Type 0} (m : Read A) (f : A → Read B) → ((x : A) → m ≡ Ok x → AllRead Q (f x)) → AllRead Q (m >>= f)
past (Ok x) f h = h x refl
past (Err c) f h = λ y e. absurd (cc e)

pub made : {A : Type 0} (P : A → Type 0) (x : A) → P x → AllRead P (Ok x)
made P x p y e = subst P (same_ok e) p

pub none_made : {A : Type 0} (P : A → Type 0) (c : ℕ) → AllRead P (Err c)
none_made P c y e = absurd (cc e)

-- ---- numbers

pub u8_range : (f : Field) → AllRead (λ n. n ≤ 255) (u8_number f)
u8_range f n e = (number_bound 0 255 f n e).1

pub u16_range : (f : Field) → AllRead (λ n. n ≤ 65535) (u16_number f)
u16_range f n e = (number_bound 0 65535 f n e).1

pub u32_range : (f : Field) → AllRead (λ n. n < 2 ^ 32) (u32_number f)
u32_range f n e = let b = (number_bound 0 4294967295 f n e).1 in omega (arith, b)

pub u64_range : (f : Field) → AllRead (λ n. n < 2 ^ 64) (number_to 18446744073709551615 f)
u64_range f n e = let b = (number_bound 0 18446744073709551615 f n e).1 in omega (arith, b)

pub i32_range : (f : Field) → AllRead IsInteger (i32_number f)
unfolding i32_number
i32_range f z e =
    let a = bind_ok (integer f) i32_in_range z e in
    let r = in_i32 a.0 z a.2 in
    subst IsInteger r.0 (r.1, r.2)

-- readings of several fields
pub all_range : {A : Type 0} (P : A → Type 0) (read : Field → Read A) → ((f : Field) → AllRead P (read f)) → (fs : List Field) → AllRead (λ xs. AllByRecursion P xs × (length xs ≡ length fs)) (read_all read fs)
all_range P read one [] = made (λ xs. AllByRecursion P xs × (length xs ≡ 0)) [] (tt, refl)
all_range P read one (f ∷ fs) = behind (read f) _ (one f) (λ x p. behind (read_all read fs) _ (all_range P read one fs) (λ xs q.
    made (λ ys. AllByRecursion P ys × (length ys ≡ suc (length fs))) (x ∷ xs) ((p, q.0), ap suc q.1)))

pub rect_range : (fs : List Field) (k : ℕ) → AllRead IsRect (rect_fields fs k)
rect_range fs k =
    behind (u16_number (field fs k)) _ (u16_range (field fs k)) (λ x a. behind (u16_number (field fs (k + 1))) _ (u16_range (field fs (k + 1))) (λ y b.
    behind (u16_number (field fs (k + 2))) _ (u16_range (field fs (k + 2))) (λ w c. behind (u16_number (field fs (k + 3))) _ (u16_range (field fs (k + 3))) (λ h d.
    made IsRect (record { x = x; y = y; w = w; h = h }) (a, b, c, d)))))

-- ---- bytes

pub byte_range : (a b : ℕ) → AllRead (λ v. v ≤ 255) (hex_byte a b)
unfolding hex_byte
byte_range a b n e = by (hex_value a) refl (hex_value b) refl e
  where
    by : (o : Option ℕ) → hex_value a ≡ o → (p : Option ℕ) → hex_value b ≡ p → joined o p ≡ Ok n → n ≤ 255
    by None h p k e = absurd (cc e)
    by (Some v) h None k e = absurd (cc e)
    by (Some v) h (Some w) k e =
        let same : v * 16 + w ≡ n = cc e in
        let high = (digit_takes a v h).1 in
        let low = (digit_takes b w k).1 in
        omega (arith, same, high, low)

pub pairs_range : (f : Field) → AllRead AreBytes (hex_pairs f)
pairs_range [] = made AreBytes [] tt
pairs_range (a ∷ []) = none_made _ misspelt
pairs_range (a ∷ b ∷ rest) = behind (hex_byte a b) _ (byte_range a b) (λ v p. behind (hex_pairs rest) _ (pairs_range rest) (λ vs q. made AreBytes (v ∷ vs) (p, q)))

pub hex_range : (f : Field) → AllRead AreBytes (hex_bytes f)
hex_range f = by (is_dash f) (length f == 0)
  where
    by : (t u : Bool) → AllRead AreBytes (cond t (Ok []) (cond u (Err misspelt) (hex_pairs f)))
    by true u = made AreBytes [] tt
    by false true = none_made _ misspelt
    by false false = pairs_range f

color_eight : (a b c d e f g h : ℕ) → AllRead IsColor (color_field (a ∷ b ∷ c ∷ d ∷ e ∷ f ∷ g ∷ h ∷ []))
color_eight a b c d e f g h =
    behind (hex_byte a b) _ (byte_range a b) (λ r p. behind (hex_byte c d) _ (byte_range c d) (λ s q. behind (hex_byte e f) _ (byte_range e f) (λ t u. behind (hex_byte g h) _ (byte_range g h) (λ v w.
    made IsColor (r ∷ s ∷ t ∷ v ∷ []) (refl, (p, (q, (u, (w, tt)))))))))

pub color_range : (f : Field) → AllRead IsColor (color_field f)
color_range (a ∷ b ∷ c ∷ d ∷ e ∷ f ∷ g ∷ h ∷ []) = color_eight a b c d e f g h
color_range [] = none_made _ misspelt
color_range (a ∷ []) = none_made _ misspelt
color_range (a ∷ b ∷ []) = none_made _ misspelt
color_range (a ∷ b ∷ c ∷ []) = none_made _ misspelt
color_range (a ∷ b ∷ c ∷ d ∷ []) = none_made _ misspelt
color_range (a ∷ b ∷ c ∷ d ∷ e ∷ []) = none_made _ misspelt
color_range (a ∷ b ∷ c ∷ d ∷ e ∷ f ∷ []) = none_made _ misspelt
color_range (a ∷ b ∷ c ∷ d ∷ e ∷ f ∷ g ∷ []) = none_made _ misspelt
color_range (a ∷ b ∷ c ∷ d ∷ e ∷ f ∷ g ∷ h ∷ k ∷ rest) = none_made _ misspelt

pub source_range : (f : Field) → AllRead IsSource (source_field f)
source_range f = by (starts_with ◌==◌ f (codes "fill:")) (starts_with ◌==◌ f (codes "hex:"))
  where
    by : (t u : Bool) → AllRead IsSource (cond t (color_field (drop 5 f) >>= λ c. Ok (fill_source c)) (cond u (hex_bytes (drop 4 f) >>= λ b. Ok (bytes_source b)) (Err misspelt)))
    by true u = behind (color_field (drop 5 f)) _ (color_range (drop 5 f)) (λ c p. made IsSource (fill_source c) p)
    by false true = behind (hex_bytes (drop 4 f)) _ (hex_range (drop 4 f)) (λ b p. made IsSource (bytes_source b) p)
    by false false = none_made _ misspelt

pub clear_range : (fs : List Field) → AllRead IsClear (clear_fields fs)
clear_range fs =
    behind (u8_number (field fs 3)) _ (u8_range (field fs 3)) (λ flags a. behind (color_field (field fs 4)) _ (color_range (field fs 4)) (λ c b.
    behind (number_to 16777215 (field fs 5)) _ (number_bound 0 16777215 (field fs 5)) (λ depth d. behind (u8_number (field fs 6)) _ (u8_range (field fs 6)) (λ stencil s.
    made IsClear (record { flags = flags; color = c; depth = depth; stencil = stencil }) (a, b, d.1, s)))))

-- ---- parts of a layout

skip_range : (ps : List (List ℕ)) → AllRead IsPart (skip_piece ps)
unfolding skip_piece
skip_range ps = by (bytes_eq (codes "skip") (piece ps 0))
  where
    by : (t : Bool) → AllRead IsPart (cond t (skip_of (piece ps 1)) (Err misspelt))
    by true = behind (number_in 1 255 (piece ps 1)) _ (number_bound 1 255 (piece ps 1)) (λ n p. made IsPart (skip_part n) p)
    by false = none_made _ misspelt

attribute_range : (ps : List (List ℕ)) → AllRead IsPart (attribute_piece ps)
unfolding attribute_piece
attribute_range ps =
    past (word_in attributes (piece ps 0)) _ (λ a _. past (word_in component_types (piece ps 1)) _ (λ t _. behind (number_in 1 4 (piece ps 2)) _ (number_bound 1 4 (piece ps 2)) (λ n p.
    made IsPart (attribute_part a t n) p)))

pieces_range : (ps : List (List ℕ)) → AllRead IsPart (part_of_pieces ps)
pieces_range ps = by (length ps == 2) (length ps == 3)
  where
    by : (t u : Bool) → AllRead IsPart (cond t (skip_piece ps) (cond u (attribute_piece ps) (Err misspelt)))
    by true u = skip_range ps
    by false true = attribute_range ps
    by false false = none_made _ misspelt

pub part_range : (f : Field) → AllRead IsPart (part_field f)
unfolding part_field
part_range f part e = pieces_range (split_at 58 f) part (in_part_ok (part_of_pieces (split_at 58 f)) part e)

-- Walks over the parts of bytes: lines of a text, fields of a line, pieces of a field.
use Rattle.std.proofs.Common.{◌≡◌, ℕ, zero, suc, ◌+◌, ◌-◌, ◌<◌, ◌≤◌, Bool, true, false, ◌||◌, cond, List, [], ◌∷◌, take, drop, length, Option, Some, None, refl, ap, sym, ◌∙◌, arith}
use Rattle.std.specs.List.{list_any}
use Rattle.std.proofs.lemmas.List.{take_rest}
use Rattle.scene_model.specs.Field.{split_at}
use Rattle.scene_model.specs.Grammar.{Field, field}
use Rattle.scene_text.proofs.Lines.{parts}
use Rattle.fault_fields.specs.Spelled.{are_of_part}
use Rattle.fault_fields.specs.Names.{opens_behind, opens_after}
use Rattle.fault_fields.specs.Kinds.{is_right, first_kind, later_kinds, first_wrong}
use Rattle.fault_fields.specs.declared.kind.Kind.{Kind}

-- ---- the part at a place

-- behind the first part
pub part_next : (x : Field) (gs fs : List Field) (k i : ℕ) (whole : Field) → fs ≡ x ∷ gs → i < k → field fs (k - i) ≡ whole → field gs (k - (i + 1)) ≡ whole
part_next x gs fs k i whole split lt e =
    let more : k - i ≡ suc (k - (i + 1)) = omega arith in
    ap (field (x ∷ gs)) (sym more) ∙ ap (λ ys. field ys (k - i)) (sym split) ∙ e

-- there is no other
pub part_none : (x : Field) (fs : List Field) (k i : ℕ) (whole : Field) → fs ≡ x ∷ [] → i < k → field fs (k - i) ≡ whole → [] ≡ whole
part_none x fs k i whole split lt e =
    let more : k - i ≡ suc (k - (i + 1)) = omega arith in
    none (k - (i + 1)) ∙ ap (field (x ∷ [])) (sym more) ∙ ap (λ ys. field ys (k - i)) (sym split) ∙ e
  where
    none : (a : ℕ) → [] ≡ field (x ∷ []) (suc a)
    none zero = refl
    none (suc a) = refl

-- at the place
pub part_here : (fs : List Field) (k i : ℕ) (whole r : Field) → k ≤ i → r ≡ field fs 0 → field fs (k - i) ≡ whole → r ≡ whole
part_here fs k i whole r le here e =
    let none : k - i ≡ 0 = omega arith in
    here ∙ ap (field fs) (sym none) ∙ e

-- ---- fields against what they must be

pub right_next : (before : List (List ℕ)) (n : ℕ) (ks : List Kind) (x : Field) (gs fs : List Field) (whole : Option ℕ) → fs ≡ x ∷ gs → is_right before (first_kind ks) x ≡ true → first_wrong before n ks fs ≡ whole
    → first_wrong before (n + 1) (later_kinds ks) gs ≡ whole
right_next before n ks x gs fs whole split right e =
    ap (λ b. cond b (first_wrong before (n + 1) (later_kinds ks) gs) (Some n)) (sym right) ∙ ap (first_wrong before n ks) (sym split) ∙ e

pub wrong_here : (before : List (List ℕ)) (n : ℕ) (ks : List Kind) (x : Field) (gs fs : List Field) (whole : Option ℕ) → fs ≡ x ∷ gs → is_right before (first_kind ks) x ≡ false → first_wrong before n ks fs ≡ whole → Some n ≡ whole
wrong_here before n ks x gs fs whole split wrong e =
    ap (λ b. cond b (first_wrong before (n + 1) (later_kinds ks) gs) (Some n)) (sym wrong) ∙ ap (first_wrong before n ks) (sym split) ∙ e

pub right_last : (before : List (List ℕ)) (n : ℕ) (ks : List Kind) (x : Field) (fs : List Field) (whole : Option ℕ) → fs ≡ x ∷ [] → is_right before (first_kind ks) x ≡ true → first_wrong before n ks fs ≡ whole → None ≡ whole
right_last before n ks x fs whole split right e = right_next before n ks x [] fs whole split right e

-- ---- one of some lines

pub any_next : (p : List ℕ → Bool) (x : List ℕ) (gs fs : List (List ℕ)) (k i : ℕ) (whole : Bool) → fs ≡ x ∷ gs → i < k → p x ≡ false → list_any p (take (k - i) fs) ≡ whole → list_any p (take (k - (i + 1)) gs) ≡ whole
any_next p x gs fs k i whole split lt apart e =
    let more : k - i ≡ suc (k - (i + 1)) = omega arith in
    ap (λ b. b || list_any p (take (k - (i + 1)) gs)) (sym apart) ∙ ap (λ m. list_any p (take m (x ∷ gs))) (sym more) ∙ ap (λ ys. list_any p (take (k - i) ys)) (sym split) ∙ e

pub any_here : (p : List ℕ → Bool) (x : List ℕ) (gs fs : List (List ℕ)) (k i : ℕ) (whole : Bool) → fs ≡ x ∷ gs → i < k → p x ≡ true → list_any p (take (k - i) fs) ≡ whole → true ≡ whole
any_here p x gs fs k i whole split lt found e =
    let more : k - i ≡ suc (k - (i + 1)) = omega arith in
    ap (λ b. b || list_any p (take (k - (i + 1)) gs)) (sym found) ∙ ap (λ m. list_any p (take m (x ∷ gs))) (sym more) ∙ ap (λ ys. list_any p (take (k - i) ys)) (sym split) ∙ e

pub any_last : (p : List ℕ → Bool) (x : List ℕ) (fs : List (List ℕ)) (k i : ℕ) (whole r : Bool) → fs ≡ x ∷ [] → i < k → r ≡ p x → list_any p (take (k - i) fs) ≡ whole → r ≡ whole
any_last p x fs k i whole r split lt here e =
    let more : k - i ≡ suc (k - (i + 1)) = omega arith in
    here ∙ one (k - (i + 1)) ∙ ap (λ m. list_any p (take m (x ∷ []))) (sym more) ∙ ap (λ ys. list_any p (take (k - i) ys)) (sym split) ∙ e
  where
    or_none : (b : Bool) → b ≡ (b || false)
    or_none true = refl
    or_none false = refl

    one : (a : ℕ) → p x ≡ list_any p (take (suc a) (x ∷ []))
    one zero = or_none (p x)
    one (suc a) = or_none (p x)

pub any_over : (p : List ℕ → Bool) (fs : List (List ℕ)) (k i : ℕ) (whole : Bool) → k ≤ i → list_any p (take (k - i) fs) ≡ whole → false ≡ whole
any_over p fs k i whole le e =
    let none : k - i ≡ 0 = omega arith in
    ap (λ m. list_any p (take m fs)) (sym none) ∙ e

-- ---- where a block can begin

pub opens_next : (o : Bool) (x : List ℕ) (gs fs : List (List ℕ)) (k i : ℕ) (whole r : Bool) → fs ≡ x ∷ gs → i < k → r ≡ opens_behind o x → opens_after o (take (k - i) fs) ≡ whole → opens_after r (take (k - (i + 1)) gs) ≡ whole
opens_next o x gs fs k i whole r split lt here e =
    let more : k - i ≡ suc (k - (i + 1)) = omega arith in
    ap (λ b. opens_after b (take (k - (i + 1)) gs)) here ∙ ap (λ m. opens_after o (take m (x ∷ gs))) (sym more) ∙ ap (λ ys. opens_after o (take (k - i) ys)) (sym split) ∙ e

pub opens_last : (o : Bool) (x : List ℕ) (fs : List (List ℕ)) (k i : ℕ) (whole r : Bool) → fs ≡ x ∷ [] → i < k → r ≡ opens_behind o x → opens_after o (take (k - i) fs) ≡ whole → r ≡ whole
opens_last o x fs k i whole r split lt here e =
    let more : k - i ≡ suc (k - (i + 1)) = omega arith in
    here ∙ one (k - (i + 1)) ∙ ap (λ m. opens_after o (take m (x ∷ []))) (sym more) ∙ ap (λ ys. opens_after o (take (k - i) ys)) (sym split) ∙ e
  where
    one : (a : ℕ) → opens_behind o x ≡ opens_after o (take (suc a) (x ∷ []))
    one zero = refl
    one (suc a) = refl

pub opens_over : (o : Bool) (fs : List (List ℕ)) (k i : ℕ) (whole : Bool) → k ≤ i → opens_after o (take (k - i) fs) ≡ whole → o ≡ whole
opens_over o fs k i whole le e =
    let none : k - i ≡ 0 = omega arith in
    ap (λ m. opens_after o (take m fs)) (sym none) ∙ e

-- ---- the pieces of a part

-- a piece, and those behind it
pub piece_cut : (g : List Field → Bool) (f : List ℕ) (n : ℕ) (r : Bool) → split_at 58 f ≡ take n f ∷ split_at 58 (drop (n + 1) f) → r ≡ g (take n f ∷ split_at 58 (take (length f - (n + 1)) (drop (n + 1) f))) → r ≡ g (split_at 58 f)
piece_cut g f n r split e = e ∙ ap (λ t. g (take n f ∷ split_at 58 t)) (take_rest f (n + 1)) ∙ ap g (sym split)

-- four pieces are no part
pub four_pieces : (a b f x more : List ℕ) → split_at 58 f ≡ x ∷ split_at 58 more → false ≡ are_of_part (a ∷ b ∷ split_at 58 f)
four_pieces a b f x more split =
    let rest = parts 58 more in
    ap (λ ps. are_of_part (a ∷ b ∷ x ∷ ps)) (sym rest.are) ∙ ap (λ ps. are_of_part (a ∷ b ∷ ps)) (sym split)

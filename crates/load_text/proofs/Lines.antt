-- Reading line by line.
use Rattle.std.proofs.Common.{◌≡◌, ℕ, zero, suc, ◌+◌, ◌-◌, ◌<◌, ◌≤◌, length, take, drop, map, get_or, slice_set, Bool, true, false, ◌==◌, cond, List, [], ◌∷◌, Some, None, Result, Err, refl, ap, sym, ◌∙◌, arith}
use Rattle.std.proofs.lemmas.List.{take_rest, length-drop}
use Rattle.scene_model.specs.Field.{split_at, with_head}
use Rattle.scene_model.specs.Grammar.{on_last}
use Rattle.load_text.specs.Loads.{BlockLine, Block}
use Rattle.load_text.specs.Text.{Reading, after_line, read_pieces}

-- a split has a part
record Parts (ps : List (List ℕ)) : Type 0 where
  pub first : List ℕ
  pub rest : List (List ℕ)
  pub are : ps ≡ first ∷ rest

parts : (c : ℕ) (xs : List ℕ) → Parts (split_at c xs)
parts c [] = record { first = []; rest = []; are = refl }
parts c (b ∷ xs) = by (b == c) (parts c xs)
  where
    headed : (ps : List (List ℕ)) → Parts ps → Parts (with_head b ps)
    headed ps p = record { first = b ∷ p.first; rest = p.rest; are = ap (with_head b) p.are }

    by : (t : Bool) → Parts (split_at c xs) → Parts (cond t ([] ∷ split_at c xs) (with_head b (split_at c xs)))
    by true p = record { first = []; rest = split_at c xs; are = refl }
    by false p = headed (split_at c xs) p

-- one line is read
line_step : (n : ℕ) (r : Reading) (p rest : List ℕ) → read_pieces n (Some r) (p ∷ split_at 10 rest) ≡ read_pieces (n + 1) (after_line r p) (split_at 10 rest)
line_step n r p rest =
    let s = parts 10 rest in
    rw s.are refl

pub line_more : (n : ℕ) (r q : Reading) (p text rest : List ℕ) (whole : Result (List Block) ℕ) → read_pieces n (Some r) (split_at 10 text) ≡ whole → split_at 10 text ≡ p ∷ split_at 10 rest → after_line r p ≡ Some q → read_pieces (n + 1) (Some q) (split_at 10 rest) ≡ whole
line_more n r q p text rest whole e s l = ap (λ x. read_pieces (n + 1) x (split_at 10 rest)) (sym l) ∙ sym (line_step n r p rest) ∙ ap (read_pieces n (Some r)) (sym s) ∙ e

-- a line that fails ends it
pub line_stops : (n : ℕ) (r : Reading) (p text rest : List ℕ) (whole : Result (List Block) ℕ) → read_pieces n (Some r) (split_at 10 text) ≡ whole → split_at 10 text ≡ p ∷ split_at 10 rest → after_line r p ≡ None → whole ≡ Err n
line_stops n r p text rest whole e s l =
    let k : n + 1 - 1 ≡ n = omega arith in
    sym e ∙ ap (read_pieces n (Some r)) s ∙ line_step n r p rest ∙ ap (λ x. read_pieces (n + 1) x (split_at 10 rest)) l ∙ ap (λ m. failed m) k
  where
    failed : ℕ → Result (List Block) ℕ
    failed line = Err line

-- fewer bytes are left
pub line_less : (line n : ℕ) (rest : List ℕ) (total : ℕ) → n < length rest → line + length rest ≤ total → line + 1 + length (take (length rest - (n + 1)) (drop (n + 1) rest)) ≤ total
line_less line n rest total lt h = rw (take_rest rest (n + 1)) (omega (arith, length-drop (n + 1) rest))

-- a change of the last element
pub last_set : {A B : Type 0} (view : A → B) (f : B → B) (xs : List A) (n : ℕ) (x old : A) → n + 1 ≡ length xs → old ≡ get_or xs n old → view x ≡ f (view old) → map view (slice_set xs n x) ≡ on_last f (map view xs)
last_set view f [] n x old l g e = absurd (omega (arith, l))
last_set view f (y ∷ []) zero x old l g e = ap (λ z. z ∷ []) (e ∙ ap (λ z. f (view z)) g)
last_set view f (y ∷ []) (suc n) x old l g e = absurd (omega (arith, l))
last_set view f (y ∷ z ∷ xs) zero x old l g e = absurd (omega (arith, l))
last_set view f (y ∷ z ∷ xs) (suc n) x old l g e = ap (λ ys. view y ∷ ys) (last_set view f (z ∷ xs) n x old (omega (arith, l)) g e)

-- a block of a caller
abbrev pub lines_in : ℕ → List BlockLine → Block
lines_in c ls = record { caller = c; lines = ls }

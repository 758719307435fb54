-- Reading line by line.
use Rattle.std.proofs.Common.{◌≡◌, ℕ, ◌+◌, ◌-◌, ◌<◌, ◌≤◌, length, take, drop, Bool, true, false, ◌==◌, cond, List, [], ◌∷◌, Result, Ok, Err, refl, ap, sym, ◌∙◌, arith}
use Rattle.std.proofs.lemmas.List.{take_rest, length-drop}
use Rattle.scene_model.specs.Scene.{Scene}
use Rattle.scene_model.specs.Field.{split_at, with_head}
use Rattle.scene_model.specs.Grammar.{Language, Reading, Fault, line_read, read_pieces}
use Rattle.scene_text.specs.declared.fault.LineFault.{LineFault}
use Rattle.scene_text.specs.declared.fault.LineFault.TheVariants as faults
use Rattle.scene_text.specs.Gives.{Fails, number_of}
use Rattle.scene_text.specs.Reads.{at, FailsAt}

-- a split has a part
pub record Parts (ps : List (List ℕ)) : Type 0 where
  pub first : List ℕ
  pub rest : List (List ℕ)
  pub are : ps ≡ first ∷ rest

pub parts : (c : ℕ) (xs : List ℕ) → Parts (split_at c xs)
parts c [] = record { first = []; rest = []; are = refl }
parts c (b ∷ xs) = by (b == c) (parts c xs)
  where
    headed : (ps : List (List ℕ)) → Parts ps → Parts (with_head b ps)
    headed ps p = record { first = b ∷ p.first; rest = p.rest; are = ap (with_head b) p.are }

    by : (t : Bool) → Parts (split_at c xs) → Parts (cond t ([] ∷ split_at c xs) (with_head b (split_at c xs)))
    by true p = record { first = []; rest = split_at c xs; are = refl }
    by false p = headed (split_at c xs) p

-- one line is read
pub line_step : (known : Language) (n : ℕ) (r : Reading) (p rest : List ℕ) → read_pieces known n (Ok r) (p ∷ split_at 10 rest) ≡ read_pieces known (n + 1) (line_read known r p) (split_at 10 rest)
line_step known n r p rest =
    let s = parts 10 rest in
    rw s.are refl

pub line_more : (known : Language) (n : ℕ) (r q : Reading) (p text rest : List ℕ) (whole : Result Scene Fault) → read_pieces known n (Ok r) (split_at 10 text) ≡ whole → split_at 10 text ≡ p ∷ split_at 10 rest → line_read known r p ≡ Ok q → read_pieces known (n + 1) (Ok q) (split_at 10 rest) ≡ whole
line_more known n r q p text rest whole e s l = ap (λ x. read_pieces known (n + 1) x (split_at 10 rest)) (sym l) ∙ sym (line_step known n r p rest) ∙ ap (read_pieces known n (Ok r)) (sym s) ∙ e

-- a line that fails ends it
pub line_stops : (known : Language) (f : LineFault) (n : ℕ) (r : Reading) (p text rest : List ℕ) (whole : Result Scene Fault) → read_pieces known n (Ok r) (split_at 10 text) ≡ whole → split_at 10 text ≡ p ∷ split_at 10 rest → Fails f (line_read known r p) → FailsAt (at f n) whole
line_stops known faults.OutOfMemory n r p text rest whole e s l = tt
line_stops known (faults.Bad cause) n r p text rest whole e s l =
    let k : n + 1 - 1 ≡ n = omega arith in
    sym e ∙ ap (read_pieces known n (Ok r)) s ∙ line_step known n r p rest ∙ ap (λ x. read_pieces known (n + 1) x (split_at 10 rest)) l ∙ ap (λ m. failed m (number_of cause)) k
  where
    failed : ℕ → ℕ → Result Scene Fault
    failed line cause = Err (record { line = line; cause = cause })

-- fewer bytes are left
pub line_less : (line n : ℕ) (rest : List ℕ) (total : ℕ) → n < length rest → line + length rest ≤ total → line + 1 + length (take (length rest - (n + 1)) (drop (n + 1) rest)) ≤ total
line_less line n rest total lt h = rw (take_rest rest (n + 1)) (omega (arith, length-drop (n + 1) rest))

-- The lines of pairs.
use Rattle.std.specs.Prelude.{ℕ, List, [], ◌++◌, map, flat_map, slice_index_or, decimal, codes}
use Rattle.std.specs.declared.vec.Vec.{Vec}
use Rattle.gfx_model.specs.Frames.{Entry}
use Rattle.shared_keys.specs.Lines.{shared_line}
use Rattle.shared_items.specs.Items.{view_of_pair}

-- the numbers of the lines of each encoder's items
abbrev pub numbers_seen : {A : Type 0} → List (Vec ℕ A) → List (List ℕ)
numbers_seen numbers = map (λ v. v.items) numbers

-- the number of the line that records an encoder's item; 0 where there is none
abbrev pub number_in : List (List ℕ) → (encoder item : ℕ) → ℕ
number_in numbers e i = slice_index_or (slice_index_or numbers e []) i 0

-- `pair frame K view V`
abbrev pub head_text : (frame view : ℕ) → List ℕ
head_text k v = codes "pair frame " ++ (decimal k ++ (codes " view " ++ decimal v))

-- ` encoder E item I line L`
abbrev pub entry_text : (encoder item line : ℕ) → List ℕ
entry_text e i l = codes " encoder " ++ (decimal e ++ (codes " item " ++ (decimal i ++ (codes " line " ++ decimal l))))

-- `pair frame K view V encoder A item I line L encoder B item J line M`, where the lines have the numbers l and m
abbrev pub numbered_pair : (frame : ℕ) → ℕ × (Entry × Entry) → (l m : ℕ) → List ℕ
numbered_pair k x l m = head_text k x.0 ++ (entry_text x.1.0.encoder x.1.0.ordinal l ++ (entry_text x.1.1.encoder x.1.1.ordinal m ++ codes "\n"))

-- the same with the numbers of the lines that record the items
abbrev pub pair_line : (frame : ℕ) → List (List ℕ) → ℕ × (Entry × Entry) → List ℕ
pair_line k numbers x = numbered_pair k x (number_in numbers x.1.0.encoder x.1.0.ordinal) (number_in numbers x.1.1.encoder x.1.1.ordinal)

-- the line of the pair's view and encoders, and behind it that of the pair
abbrev pub both_lines : (frame : ℕ) → List (List ℕ) → ℕ × (Entry × Entry) → List ℕ
both_lines k numbers x = shared_line k (view_of_pair x) ++ pair_line k numbers x

-- the lines of a frame's pairs
abbrev pub paired_lines : (frame : ℕ) → List (List ℕ) → List (ℕ × (Entry × Entry)) → List ℕ
paired_lines k numbers pairs = flat_map (both_lines k numbers) pairs

-- What is left behind a slice of texels that was lent.
use Rattle.std.specs.Prelude.{ℕ, List, ◌++◌, take, drop, length}
use Rattle.std.specs.Borrow.{Lends, MutBor, Fml, Array, u8}
use Rattle.fix_math.specs.contracts.picture.TexelList.{the_row}

-- a list whose front is replaced by another list, of the length that it had
abbrev pub refilled : {A : Type 0} → List A → List A → List A
refilled s w = take (length s) (w ++ drop (length w) s)

-- the list ends as what stands last behind the slice, which keeps its length
abbrev pub LendsTexels : MutBor (List (List ℕ)) → MutBor (List (List ℕ)) → Fml
LendsTexels s r = Lends the_row (Array (Array u8 4) 0) s r (refilled s.now)

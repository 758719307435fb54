-- What the passes of the bundle queue know, and its rule.
use Rattle.std.specs.Prelude.{◌≡◌, ℕ, ◌+◌, List, [], ◌∷◌, ◌++◌, map}
use Rattle.schedule_model.specs.Held.{count_of}
use Rattle.hold_table.specs.declared.table.EncSeat.{EncSeat}
use Rattle.draw_encoder.specs.declared.items.Recording.{Recording}

-- what a bundle is to contracts
abbrev pub Posted : Type 0
Posted = Recording × EncSeat

-- the number of a bundle's seat in the hold table
abbrev pub seat_of : Posted → ℕ
seat_of b = b.1.seat.id

-- the seats of bundles
abbrev pub seats_in : List Posted → List ℕ
seats_in items = map seat_of items

-- of which seats a pass has put bundles in, and of which it has taken some out
pub record PassView : Type 0 where
  pub posted : List ℕ
  pub taken : List ℕ

-- a pass that has put nothing in and taken nothing out
abbrev pub new_pass : PassView
new_pass = record { posted = []; taken = [] }

-- one bundle more was put in
abbrev pub posts : PassView → Posted → PassView
posts v b = record v { posted = v.posted ++ seat_of b ∷ [] }

-- one bundle more was taken out
abbrev pub takes : PassView → Posted → PassView
takes v b = record v { taken = v.taken ++ seat_of b ∷ [] }

-- what a push tells
abbrev pub Posts : PassView → Posted → PassView → Type 0
Posts v b w = w ≡ posts v b

-- what a pop tells
abbrev pub Takes : PassView → Posted → PassView → Type 0
Takes v b w = w ≡ takes v b

-- a sum over passes
abbrev pub total : (PassView → ℕ) → List PassView → ℕ
total f [] = 0
total f (v ∷ vs) = f v + total f vs

-- how often a bundle of a seat was put in, and how often one was taken out
abbrev pub posts_of : ℕ → PassView → ℕ
posts_of id v = count_of id v.posted

abbrev pub takes_of : ℕ → PassView → ℕ
takes_of id v = count_of id v.taken

-- of each seat the queue has as many bundles as were put in and not taken out
abbrev pub IsBalanced : List Posted → List PassView → Type 0
IsBalanced items views = (id : ℕ) → count_of id (seats_in items) + total (takes_of id) views ≡ total (posts_of id) views

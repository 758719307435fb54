-- Marks in order, neighbours that clash, and the least pair of each view.
use Rattle.std.specs.Prelude.{◌≡◌, ℕ, ◌<◌, ◌≤◌, ◌⊎◌, nat_lt, Bool, true, false, ◌&&◌, ◌||◌, ◌==◌, if◌then◌else◌, List, [], ◌∷◌, ◌++◌, fold, ⊤}
use Rattle.shared_keys.specs.declared.marks.Mark.{Mark}
use Rattle.shared_keys.specs.Marks.{is_one_key}

-- false before true
abbrev pub kind_number : Bool → ℕ
kind_number false = 0
kind_number true = 1

-- by view, kind, key and encoder
abbrev pub ComesBefore : Mark → Mark → Type 0
ComesBefore x y =
    (x.view < y.view) ⊎ ((x.view ≡ y.view) × ((kind_number x.is_blit < kind_number y.is_blit) ⊎ ((kind_number x.is_blit ≡ kind_number y.is_blit) × ((x.key < y.key) ⊎ ((x.key ≡ y.key) × (x.encoder ≤ y.encoder))))))

-- each mark is in order with the next
abbrev pub AreInOrderFrom : Mark → List Mark → Type 0
AreInOrderFrom m [] = ⊤
AreInOrderFrom m (n ∷ rest) = ComesBefore m n × AreInOrderFrom n rest

abbrev pub AreInOrder : List Mark → Type 0
AreInOrder [] = ⊤
AreInOrder (m ∷ rest) = AreInOrderFrom m rest

-- the encoders of two neighbours, where these clash and the second's encoder is above the first's
abbrev pub step_of : Mark → Mark → List (ℕ × (ℕ × ℕ))
step_of x y = if is_one_key x y && nat_lt x.encoder y.encoder then (x.view, (x.encoder, y.encoder)) ∷ [] else []

abbrev pub steps_from : Mark → List Mark → List (ℕ × (ℕ × ℕ))
steps_from m [] = []
steps_from m (n ∷ rest) = step_of m n ++ steps_from n rest

-- the encoders of all neighbours that clash
abbrev pub steps_of : List Mark → List (ℕ × (ℕ × ℕ))
steps_of [] = []
steps_of (m ∷ rest) = steps_from m rest

-- the first pair comes before the second
abbrev pub is_less : ℕ × ℕ → ℕ × ℕ → Bool
is_less x y = nat_lt x.0 y.0 || ((x.0 == y.0) && nat_lt x.1 y.1)

-- pairs of ascending views with one more: of one view the lesser pair stays
abbrev pub with_step : List (ℕ × (ℕ × ℕ)) → ℕ × (ℕ × ℕ) → List (ℕ × (ℕ × ℕ))
with_step [] s = s ∷ []
with_step (x ∷ []) s = if x.0 == s.0 then (if is_less s.1 x.1 then s ∷ [] else x ∷ []) else x ∷ s ∷ []
with_step (x ∷ y ∷ rest) s = x ∷ with_step (y ∷ rest) s

abbrev pub leasts_of : List (ℕ × (ℕ × ℕ)) → List (ℕ × (ℕ × ℕ))
leasts_of steps = fold with_step [] steps

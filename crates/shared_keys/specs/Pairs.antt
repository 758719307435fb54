-- The least pairs of encoders that share, view by view.
use Rattle.std.specs.Prelude.{ℕ, ◌+◌, ◌-◌, Bool, List, Option, is_some, option_map, option_and_then, filter_map}
use Rattle.std.specs.List.{find, range_with_len}

-- whether two encoders share in a view
abbrev pub Sharing : Type 0
Sharing = (view first second : ℕ) → Bool

-- the least of so many encoders above one with which it shares in a view
abbrev pub partner_of : Sharing → (encoders view first : ℕ) → Option ℕ
partner_of share encoders v a = find (share v a) (range_with_len (a + 1) (encoders - (a + 1)))

-- the least pair of so many encoders that share in a view: the least that has a partner, with that
abbrev pub least_pair : Sharing → (encoders view : ℕ) → Option (ℕ × ℕ)
least_pair share encoders v =
    option_and_then (λ a. option_map (λ b. (a, b)) (partner_of share encoders v a)) (find (λ a. is_some (partner_of share encoders v a)) (range_with_len 0 encoders))

-- those of so many views in which two encoders share, ascending, each with its least pair
abbrev pub sharing_views : Sharing → (encoders views : ℕ) → List (ℕ × (ℕ × ℕ))
sharing_views share encoders views = filter_map (λ v. option_map (λ x. (v, x)) (least_pair share encoders v)) (range_with_len 0 views)

-- The least pair of items of two encoders that share a key in a view.
use Rattle.std.specs.Prelude.{ℕ, ◌&&◌, Bool, false, List, length, Option, Some, is_some, option_map, option_and_then, filter_map, slice_index_or}
use Rattle.std.specs.List.{find, range_with_len}
use Rattle.gfx_model.specs.Frames.{Entry}
use Rattle.gfx_model.specs.Views.{Views}
use Rattle.gfx_model.specs.World.{is_of_view}
use Rattle.scene_model.specs.Fold.{Accepted, FramePlan, nothing_accepted}
use Rattle.scene_model.specs.Journal.{Tagged, item_of, share_key}
use Rattle.shared_keys.specs.Lines.{shared_views}

-- whether an item of a first encoder and one of a second share, by their places
abbrev pub ItemSharing : Type 0
ItemSharing = (first second : ℕ) → Bool

-- the least of so many items of the second with which an item of the first shares
abbrev pub partner_item : ItemSharing → (seconds : ℕ) → (first : ℕ) → Option ℕ
partner_item share n i = find (share i) (range_with_len 0 n)

-- the least pair of so many items that share: the first that has a partner, with that
abbrev pub least_items : ItemSharing → (firsts seconds : ℕ) → Option (ℕ × ℕ)
least_items share m n = option_and_then (λ i. option_map (λ j. (i, j)) (partner_item share n i)) (find (λ i. is_some (partner_item share n i)) (range_with_len 0 m))

-- two items are there, the first is of the view, and they share a key
abbrev pub tagged_share : Views → (view : ℕ) → Option Tagged → Option Tagged → Bool
tagged_share vs v (Some x) (Some y) = is_of_view v x.item && share_key vs x y
tagged_share vs v _ _ = false

-- an encoder's item with its encoder, if it is there
abbrev pub tagged_at : List Accepted → (encoder item : ℕ) → Option Tagged
tagged_at encoders e n = option_map (λ i. record { encoder = e; item = i }) (item_of encoders (record { encoder = e; ordinal = n }))

-- an item of the first encoder of a frame is of the view and shares a key with one of the second
abbrev pub items_share : FramePlan → (view first second : ℕ) → ItemSharing
items_share p v a b i j = tagged_share p.views v (tagged_at p.encoders a i) (tagged_at p.encoders b j)

-- how many items an encoder has
abbrev pub count_of : List Accepted → (encoder : ℕ) → ℕ
count_of encoders e = length (slice_index_or encoders e nothing_accepted).items

-- a view with two encoders, with an item of each
abbrev pub pair_of : ℕ × (ℕ × ℕ) → ℕ × ℕ → ℕ × (Entry × Entry)
pair_of x y = (x.0, (record { encoder = x.1.0; ordinal = y.0 }, record { encoder = x.1.1; ordinal = y.1 }))

-- a view in which two encoders share a key, with the least pair of their items that share one
abbrev pub pair_in : FramePlan → ℕ × (ℕ × ℕ) → Option (ℕ × (Entry × Entry))
pair_in p x = option_map (pair_of x) (least_items (items_share p x.0 x.1.0 x.1.1) (count_of p.encoders x.1.0) (count_of p.encoders x.1.1))

-- the views of a frame in which two encoders share a key, ascending, each with the least pair of items
abbrev pub frame_pairs : FramePlan → List (ℕ × (Entry × Entry))
frame_pairs p = filter_map (pair_in p) (shared_views p)

-- a pair's view and encoders
abbrev pub view_of_pair : ℕ × (Entry × Entry) → ℕ × (ℕ × ℕ)
view_of_pair x = (x.0, (x.1.0.encoder, x.1.1.encoder))

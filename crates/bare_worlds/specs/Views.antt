-- Views of which no two items of equal keys meet.
use Rattle.std.specs.Prelude.{◌≡◌, ℕ, true, Some}
use Rattle.gfx_model.specs.Views.{view_at}
use Rattle.gfx_model.specs.World.{World, Item, view_of_item}
use Rattle.scene_model.specs.Fold.{FramePlan}
use Rattle.scene_model.specs.Journal.{Entry, item_of, share_key}
use Rattle.cover_laws.specs.Covered.{MayPass}

-- any two items of a view, of different encoders, that share a key may pass each other, in the world in which the frame's items begin
abbrev pub IsHarmlessView : World → FramePlan → (view : ℕ) → Type 0
IsHarmlessView w p v =
    (m n : Entry) (i j : Item) → item_of p.encoders m ≡ Some i → item_of p.encoders n ≡ Some j → view_of_item i ≡ v
    → share_key p.views (record { encoder = m.encoder; item = i }) (record { encoder = n.encoder; item = j }) ≡ true
    → MayPass w (view_at p.views v) i j

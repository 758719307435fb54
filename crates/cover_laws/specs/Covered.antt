-- Items that may be drawn in either order.
use Rattle.std.specs.Prelude.{◌≡◌, ◌<◌, ℕ, Bool, false, true, ◌&&◌, [], None, Some}
use Rattle.std.specs.List.{list_any}
use Rattle.gfx_model.specs.Raster.{Rect, view_rect, covers}
use Rattle.gfx_model.specs.Views.{View, view_at}
use Rattle.gfx_model.specs.World.{World, Draw, Item, draw_item, view_of_item, facings_of, is_in_cut}
use Rattle.scene_model.specs.Fold.{FramePlan}
use Rattle.scene_model.specs.Journal.{Entry, item_of, share_key}

-- the view's rectangle on the back buffer
abbrev pub back_rect : World → View → Rect
back_rect w view = view_rect view.rect w.back.color.width w.back.color.height

-- a draw covers a pixel of the back buffer: it lies in the view's rectangle and in both scissors, and in one of the draw's triangles
abbrev pub covers_pixel : World → View → Draw → ℕ → ℕ → Bool
covers_pixel w view d x y = is_in_cut view (back_rect w view) d x y && list_any (λ f. covers f.triangle x y) (facings_of w view (back_rect w view) d)

-- no pixel of the back buffer is covered by both
abbrev pub AreApart : World → View → Draw → Draw → Type 0
AreApart w view a b = (x y : ℕ) → x < w.back.color.width → y < w.back.color.height → (covers_pixel w view a x y && covers_pixel w view b x y) ≡ false

-- two items of a view may pass each other: both are draws onto the back buffer that carry no uniform value, and no pixel is covered by both
abbrev pub MayPass : World → View → Item → Item → Type 0
MayPass w view (draw_item a) (draw_item b) = (a.values ≡ []) × (b.values ≡ []) × (view.target ≡ None) × AreApart w view a b
MayPass w view _ _ = ⊥

-- any two items of different encoders that share a key may pass each other, in the world in which the frame's items begin
abbrev pub IsHarmlessFrame : World → FramePlan → Type 0
IsHarmlessFrame w p =
    (m n : Entry) (i j : Item) → item_of p.encoders m ≡ Some i → item_of p.encoders n ≡ Some j
    → share_key p.views (record { encoder = m.encoder; item = i }) (record { encoder = n.encoder; item = j }) ≡ true
    → MayPass w (view_at p.views (view_of_item i)) i j

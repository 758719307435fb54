-- What deeds that are done did to a pixel of the back buffer.
use Rattle.std.specs.Prelude.{ℕ, ◌+◌, List, [], ◌∷◌, ◌++◌, map, Option, Some, None}
use Rattle.frame_steps.specs.Doing.{stores_after_some}
use Rattle.frame_tracing.specs.Given.{given_strokes}
use Rattle.frame_tracing.specs.Seen.{made_of}
use Rattle.gfx_model.specs.Views.{View}
use Rattle.gfx_model.specs.World.{Item}
use Rattle.store_laws.specs.ByIndex.{Stores}
use Rattle.trace_laws.specs.ByIndex.{clear_strokes_in, strokes_in}
use Rattle.trace_laws.specs.Deeds.{Deed, clear_deed, item_deed}
use Rattle.trace_laws.specs.Doers.{Doer, clear_doer, item_doer}
use Rattle.trace_laws.specs.History.{Stroke, Made, on_back}

-- what a deed did to a pixel, by the stores after it
abbrev pub strokes_done : Stores → Option Deed → (x y : ℕ) → List Stroke
strokes_done h None x y = []
strokes_done h (Some (clear_deed view)) x y = on_back view.target (clear_strokes_in h view x y)
strokes_done h (Some (item_deed view i)) x y = on_back view.target (given_strokes h view x y (Some i))

-- what a deed does to a pixel, if there is one
abbrev pub strokes_of_some : ℕ → ℕ → Stores → Option Deed → List Stroke
strokes_of_some x y h None = []
strokes_of_some x y h (Some d) = strokes_in x y h d

-- the strokes of deeds, each if there is one, that are numbered from n on
abbrev pub history_of_these : ℕ → ℕ → ℕ → Stores → List (Option Deed) → List Made
history_of_these x y n h [] = []
history_of_these x y n h (o ∷ os) = map (made_of n) (strokes_of_some x y h o) ++ history_of_these x y (n + 1) (stores_after_some h o) os

-- what an item did to a pixel whose values are given
abbrev pub given_of : Stores → View → Option Item → (x y : ℕ) → List Stroke
given_of h view i x y = given_strokes h view x y i

-- the view of a doer
abbrev pub view_of_doer : Doer → ℕ
view_of_doer (clear_doer v) = v
view_of_doer (item_doer v n) = v

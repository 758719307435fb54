-- A window of a tile is more of its span.
use Rattle.std.proofs.Common.{◌≡◌, ◌≤◌, ◌<◌, ◌+◌, ◌-◌, ◌^◌, ℕ, List, [], length, slice_index_or, false, ◌&&◌, nat_le, nat_lt, ap, ◌∙◌, arith}
use Rattle.std.proofs.lemmas.Bool.{cases_lt}
use Rattle.std.proofs.lemmas.Bool.Decides.{nat_tests}
use Rattle.gfx_model.specs.Number.{map_from, u32_at}
use Rattle.gfx_model.specs.Vertex.{Color}
use Rattle.gfx_model.specs.Pixel.{Pixel}
use Rattle.tri_cover.specs.declared.triangles.Setup.{Setup}
use Rattle.int_raster.specs.declared.lists.Prepared.{Prepared}
use Rattle.int_raster.specs.declared.opaque.Level.{Level}
use Rattle.int_raster.specs.declared.opaque.Tile.{Tile}
use Rattle.int_raster.specs.declared.spans.Span.{Span}
use Rattle.int_raster.specs.Places.{deep_pixel, deep_pixels, spanned, in_row}
use Rattle.int_raster.specs.Rules.{IsLevel, IsTile, IsStored}
use Rattle.int_raster.specs.Painted.{bytes_of}
use Rattle.int_raster.specs.Seen.{step_seen, color_seen}
use Rattle.int_raster.specs.Tiled.{word_bytes}
use Rattle.int_raster.proofs.Along.{at_place, opaque_color}
use Rattle.int_raster.proofs.Changes.{spans_joined}
use Rattle.int_raster.proofs.Tiled.{tiled_deep}
use Rattle.int_raster.proofs.Windows.{four_changed, four_placed}
use mathlib.Core.Logic.{inl, inr}

before_stop : {A : Type 0} (g : ℕ → A → A) (stop i : ℕ) (u : A) → i < stop → g i u ≡ spanned g 0 stop i u
before_stop g stop i u h = grind (arith, nat_tests)

behind_stop : {A : Type 0} (g : ℕ → A → A) (stop i : ℕ) (u : A) → stop ≤ i → u ≡ spanned g 0 stop i u
behind_stop g stop i u h = grind (arith, nat_tests)

module _ (d : Prepared) (s : Setup) (span : Span) (x : ℕ) (olds deeps colors depths news zs : List Color) where
  abbrev change : ℕ → Pixel → Pixel
  change = spanned (in_row span.start span.y (step_seen d s)) 0 (span.start + span.after)

  abbrev place : ℕ → ℕ
  place j = span.start + x + j

  abbrev color : ℕ → Color
  color i = slice_index_or colors i []

  abbrev depth : ℕ → Color
  depth i = slice_index_or depths i []

  abbrev new : ℕ → Color
  new i = slice_index_or news i []

  abbrev z : ℕ → Color
  z i = slice_index_or zs i []

  lane_is : ((j : ℕ) → j < 4 → j < span.after - x → deep_pixel (new (place j)) (z (place j)) ≡ step_seen d s (x + j) span.y (deep_pixel (color (place j)) (depth (place j))))
      → ((j : ℕ) → j < 4 → span.after - x ≤ j → (new (place j) ≡ color (place j)) × (z (place j) ≡ depth (place j)))
      → (j : ℕ) → j < 4 → deep_pixel (new (place j)) (z (place j)) ≡ change (place j) (deep_pixel (color (place j)) (depth (place j)))
  lane_is stored rest j h =
      let old = deep_pixel (color (place j)) (depth (place j)) in
      elim (cases_lt j (span.after - x)) [
        | inl less ↦
            let near : x + j < span.after = omega (arith, less) in
            let here : span.start + (x + j) ≡ place j = omega arith in
            stored j h less
            ∙ at_place (step_seen d s) span.start span.y (x + j) old
            ∙ ap (λ i. in_row span.start span.y (step_seen d s) i old) here
            ∙ before_stop (in_row span.start span.y (step_seen d s)) (span.start + span.after) (place j) old (omega (arith, near))
        | inr more ↦
            (λ i. deep_pixel ((rest j h more).0 i) ((rest j h more).1 i))
            ∙ behind_stop (in_row span.start span.y (step_seen d s)) (span.start + span.after) (place j) old (omega (arith, more))
      ]

  -- a window of pixels with depths is more of its span
  pub pixels_more : span.first ≤ x
      → length depths ≡ length colors
      → deep_pixels colors depths ≡ map_from (spanned change (span.start + span.first) (span.start + x)) 0 (deep_pixels olds deeps)
      → (length news ≡ length colors) × (length zs ≡ length depths)
      → ((j : ℕ) → j < 4 → j < span.after - x → deep_pixel (new (place j)) (z (place j)) ≡ step_seen d s (x + j) span.y (deep_pixel (color (place j)) (depth (place j))))
      → ((j : ℕ) → j < 4 → span.after - x ≤ j → (new (place j) ≡ color (place j)) × (z (place j) ≡ depth (place j)))
      → ((i : ℕ) → (nat_le (span.start + x) i && nat_lt i (span.start + x + 4)) ≡ false → (new i ≡ color i) × (z i ≡ depth i))
      → deep_pixels news zs ≡ map_from (spanned change (span.start + span.first) (span.start + (x + 4))) 0 (deep_pixels olds deeps)
  pixels_more low same done many stored rest others =
      let next : span.start + x + 4 ≡ span.start + (x + 4) = omega arith in
      spans_joined change (span.start + span.first) (span.start + x) (span.start + x + 4) (deep_pixels olds deeps) (deep_pixels colors depths) (deep_pixels news zs) (omega (arith, low)) (omega arith) done
      (four_changed change (span.start + x) colors depths news zs same many.0 many.1 (lane_is stored rest) others)
      ∙ ap (λ n. map_from (spanned change (span.start + span.first) n) 0 (deep_pixels olds deeps)) next

  -- the same of a tile
  pub window_more : (t : Tile) (l : Level) → IsLevel l d s → IsTile t l.color l.depth l.rule
      → span.first ≤ x
      → length depths ≡ length colors
      → deep_pixels colors depths ≡ map_from (spanned change (span.start + span.first) (span.start + x)) 0 (deep_pixels olds deeps)
      → (length news ≡ length colors) × (length zs ≡ length depths)
      → ((j : ℕ) → j < 4 → u32_at (depth (place j)) 0 < 2 ^ 32)
      → ((j : ℕ) → j < 4 → j < span.after - x → IsStored t (color (place j)) (depth (place j)) (new (place j)) (z (place j)))
      → ((j : ℕ) → j < 4 → span.after - x ≤ j → (new (place j) ≡ color (place j)) × (z (place j) ≡ depth (place j)))
      → ((i : ℕ) → (nat_le (span.start + x) i && nat_lt i (span.start + x + 4)) ≡ false → (new i ≡ color i) × (z i ≡ depth i))
      → deep_pixels news zs ≡ map_from (spanned change (span.start + span.first) (span.start + (x + 4))) 0 (deep_pixels olds deeps)
  window_more t l level tile low same done many small stored rest others =
      pixels_more low same done many
      (λ j h less. tiled_deep t l d s (x + j) span.y (color (place j)) (depth (place j)) (new (place j)) (z (place j)) level tile (small j h) (stored j h less))
      rest others

module _ (d : Prepared) (s : Setup) (span : Span) (x : ℕ) (olds colors news : List Color) where
  abbrev coloring : ℕ → Color → Color
  coloring = spanned (in_row span.start span.y (color_seen d s)) 0 (span.start + span.after)

  abbrev at : ℕ → ℕ
  at j = span.start + x + j

  color_lane : ((j : ℕ) → j < 4 → j < span.after - x → slice_index_or news (at j) [] ≡ color_seen d s (x + j) span.y (slice_index_or colors (at j) []))
      → ((j : ℕ) → j < 4 → span.after - x ≤ j → slice_index_or news (at j) [] ≡ slice_index_or colors (at j) [])
      → (j : ℕ) → j < 4 → slice_index_or news (at j) [] ≡ coloring (at j) (slice_index_or colors (at j) [])
  color_lane stored rest j h =
      let old = slice_index_or colors (at j) [] in
      elim (cases_lt j (span.after - x)) [
        | inl less ↦
            let near : x + j < span.after = omega (arith, less) in
            let here : span.start + (x + j) ≡ at j = omega arith in
            stored j h less
            ∙ at_place (color_seen d s) span.start span.y (x + j) old
            ∙ ap (λ i. in_row span.start span.y (color_seen d s) i old) here
            ∙ before_stop (in_row span.start span.y (color_seen d s)) (span.start + span.after) (at j) old (omega (arith, near))
        | inr more ↦
            rest j h more
            ∙ behind_stop (in_row span.start span.y (color_seen d s)) (span.start + span.after) (at j) old (omega (arith, more))
      ]

  -- a window of colours is more of its span
  pub colors_more : span.first ≤ x
      → colors ≡ map_from (spanned coloring (span.start + span.first) (span.start + x)) 0 olds
      → length news ≡ length colors
      → ((j : ℕ) → j < 4 → j < span.after - x → slice_index_or news (at j) [] ≡ color_seen d s (x + j) span.y (slice_index_or colors (at j) []))
      → ((j : ℕ) → j < 4 → span.after - x ≤ j → slice_index_or news (at j) [] ≡ slice_index_or colors (at j) [])
      → ((i : ℕ) → (nat_le (span.start + x) i && nat_lt i (span.start + x + 4)) ≡ false → slice_index_or news i [] ≡ slice_index_or colors i [])
      → news ≡ map_from (spanned coloring (span.start + span.first) (span.start + (x + 4))) 0 olds
  colors_more low done many stored rest others =
      let next : span.start + x + 4 ≡ span.start + (x + 4) = omega arith in
      spans_joined coloring (span.start + span.first) (span.start + x) (span.start + x + 4) olds colors news (omega (arith, low)) (omega arith) done
      (four_placed coloring (span.start + x) colors news [] many (color_lane stored rest) others)
      ∙ ap (λ n. map_from (spanned coloring (span.start + span.first) n) 0 olds) next

  -- the same of a tile's colour alone
  pub free_more : (t : Tile) (l : Level) → IsLevel l d s → IsTile t l.color l.depth l.rule
      → span.first ≤ x
      → colors ≡ map_from (spanned coloring (span.start + span.first) (span.start + x)) 0 olds
      → length news ≡ length colors
      → ((j : ℕ) → j < 4 → j < span.after - x → slice_index_or news (at j) [] ≡ word_bytes t.color)
      → ((j : ℕ) → j < 4 → span.after - x ≤ j → slice_index_or news (at j) [] ≡ slice_index_or colors (at j) [])
      → ((i : ℕ) → (nat_le (span.start + x) i && nat_lt i (span.start + x + 4)) ≡ false → slice_index_or news i [] ≡ slice_index_or colors i [])
      → news ≡ map_from (spanned coloring (span.start + span.first) (span.start + (x + 4))) 0 olds
  free_more t l level tile low done many stored rest others =
      let bytes : word_bytes t.color ≡ bytes_of l.color = ap bytes_of tile.color in
      colors_more low done many
      (λ j h less. stored j h less ∙ bytes ∙ opaque_color d s (x + j) span.y l.color (slice_index_or colors (at j) []) level.plain.opaque (level.paints (x + j) span.y))
      rest others

-- What one fragment does to one pixel: stencil test, depth test, blending and stores.
use Rattle.std.specs.Prelude.{ℕ, ◌+◌, ◌-◌, ◌*◌, ◌/◌, ◌%◌, ◌^◌, min, max, Bool, true, false, not, ◌||◌, ◌==◌, nat_le, nat_lt, if◌then◌else◌, [], ◌∷◌, ◌++◌, Option, Some, None, slice_index, bit_and, map}
use Rattle.gfx_model.specs.Number.{byte_product, is_bit_set}
use Rattle.gfx_model.specs.Vertex.{Color}
use Rattle.gfx_model.specs.Words.{write_mask, depth_test_of, color_source, color_destination, alpha_source, alpha_destination, color_equation, alpha_equation, writes_depth, is_blended, stencil_reference, stencil_mask, stencil_test_of, on_stencil_fail, on_depth_fail, on_pass}

-- the depth word is the depth plus 2^24 times the stencil; none where the target has no depth texture
pub record Pixel : Type 0 where
  pub color : Color
  pub depth : Option ℕ

-- a painted fragment
pub record Shaded : Type 0 where
  pub color : Color
  pub depth : ℕ

-- how a new value stands to the stored one by the number of the test
abbrev pub compares : ℕ → ℕ → ℕ → Bool
compares test new stored =
    if test == 1 then nat_lt new stored else
    (if test == 2 then nat_le new stored else
    (if test == 3 then new == stored else
    (if test == 4 then nat_le stored new else
    (if test == 5 then nat_lt stored new else
    (if test == 6 then not (new == stored) else
    (not (test == 7)))))))

-- the stencil after an operation: zero, keep, replace, and up and down by one, wrapping or not, and invert
abbrev pub stencil_after : ℕ → ℕ → ℕ → ℕ
stencil_after op stored reference =
    if op == 0 then 0 else
    (if op == 1 then stored else
    (if op == 2 then reference else
    (if op == 3 then (stored + 1) % 256 else
    (if op == 4 then min 255 (stored + 1) else
    (if op == 5 then (stored + 255) % 256 else
    (if op == 6 then stored - 1 else
    (255 - stored)))))))

-- ---- blending

-- a factor's value for one channel: s and d the channel of source and stored colour, sa and da their alphas
abbrev pub factor_value : ℕ → Bool → ℕ → ℕ → ℕ → ℕ → ℕ
factor_value factor is_alpha s d sa da =
    if factor == 1 then 0 else
    (if factor == 2 then 255 else
    (if factor == 3 then s else
    (if factor == 4 then 255 - s else
    (if factor == 5 then sa else
    (if factor == 6 then 255 - sa else
    (if factor == 7 then da else
    (if factor == 8 then 255 - da else
    (if factor == 9 then d else
    (if factor == 10 then 255 - d else
    (if is_alpha then 255 else min sa (255 - da)))))))))))

-- by the equation: the sum, a difference, the least or the greatest; the last two without factors
abbrev pub combine : ℕ → ℕ → ℕ → ℕ → ℕ → ℕ
combine equation s d scaled_s scaled_d =
    if equation == 0 then min 255 (scaled_s + scaled_d) else
    (if equation == 1 then scaled_s - scaled_d else
    (if equation == 2 then scaled_d - scaled_s else
    (if equation == 3 then min s d else max s d)))

-- one channel of the blended colour
abbrev pub blend_channel : ℕ → ℕ → ℕ → Bool → ℕ → ℕ → ℕ → ℕ → ℕ
blend_channel source destination equation is_alpha s d sa da =
    combine equation s d
    (byte_product s (factor_value source is_alpha s d sa da))
    (byte_product d (factor_value destination is_alpha s d sa da))

-- the source colour blended with the stored one where blending is on
abbrev pub blend : ℕ → Color → Color → Color
blend state source stored =
    let sa = slice_index source 3 in
    let da = slice_index stored 3 in
    if is_blended state
    then
    map (λ k. blend_channel (color_source state) (color_destination state) (color_equation state) false (slice_index source k) (slice_index stored k) sa da) (0 ∷ 1 ∷ 2 ∷ [])
    ++ blend_channel (alpha_source state) (alpha_destination state) (alpha_equation state) true sa da sa da ∷ []
    else source

-- the channels of the new colour whose write bit is set, and of the stored colour elsewhere
abbrev pub stored_channels : ℕ → Color → Color → Color
stored_channels mask new stored = map (λ k. if is_bit_set mask k then slice_index new k else slice_index stored k) (0 ∷ 1 ∷ 2 ∷ 3 ∷ [])

-- the colour after blending, in the channels that the write mask names; the others stay
abbrev pub stored_color : ℕ → Color → Color → Color
stored_color state source stored = stored_channels (write_mask state) (blend state source stored) stored

-- ---- the tests

-- without a stencil word the test passes and the stencil stays
abbrev pub passes_stencil : ℕ → ℕ → Bool
passes_stencil word stencil =
    (word == 0) || compares (stencil_test_of word) (bit_and (stencil_reference word) (stencil_mask word)) (bit_and stencil (stencil_mask word))

-- the stencil after an operation of a stencil word; without a stencil word it stays
abbrev pub stencil_by : ℕ → ℕ → ℕ → ℕ
stencil_by word op stencil = if word == 0 then stencil else stencil_after op stencil (stencil_reference word)

-- depth test 0 passes
abbrev pub passes_depth : ℕ → ℕ → ℕ → Bool
passes_depth test new stored = compares test new stored

-- the pixel of a target with a depth texture, by the stored depth and stencil
abbrev pub step_with_depth : Color → ℕ → ℕ → Shaded → ℕ → ℕ → Pixel
step_with_depth color depth stencil shaded state word =
    if not (passes_stencil word stencil)
    then record { color = color; depth = Some (depth + 2 ^ 24 * stencil_by word (on_stencil_fail word) stencil) }
    else (if not (passes_depth (depth_test_of state) shaded.depth depth)
    then record { color = color; depth = Some (depth + 2 ^ 24 * stencil_by word (on_depth_fail word) stencil) }
    else record {
      color = stored_color state shaded.color color;
      depth = Some ((if writes_depth state then shaded.depth else depth) + 2 ^ 24 * stencil_by word (on_pass word) stencil);
    })

-- the colour after a fragment by the depth word: a target without a depth texture passes each test and keeps neither
abbrev pub step_by_depth : Color → Option ℕ → Shaded → ℕ → ℕ → Pixel
step_by_depth color None shaded state word = record { color = stored_color state shaded.color color; depth = None }
step_by_depth color (Some d) shaded state word = step_with_depth color (d % 2 ^ 24) (d / 2 ^ 24) shaded state word

-- the pixel after a fragment
abbrev pub pixel_step : Pixel → Shaded → ℕ → ℕ → Pixel
pixel_step pixel shaded state word = step_by_depth pixel.color pixel.depth shaded state word

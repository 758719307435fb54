-- Which fragments come to the stores.
use Rattle.std.specs.Prelude.{ℕ, ◌/◌, ◌%◌, ◌^◌, Bool, true, ◌&&◌, Option, None, Some}
use Rattle.gfx_model.specs.Words.{depth_test_of}
use Rattle.gfx_model.specs.Pixel.{passes_stencil, passes_depth}

-- a fragment of a depth passes the stencil test and then the depth test; a target without depth passes each
abbrev pub passes_tests : Option ℕ → ℕ → ℕ → ℕ → Bool
passes_tests None depth state word = true
passes_tests (Some stored) depth state word = passes_stencil word (stored / 2 ^ 24) && passes_depth (depth_test_of state) depth (stored % 2 ^ 24)

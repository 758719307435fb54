-- Copies between textures.
use Rattle.std.specs.Prelude.{ℕ}
use Rattle.gfx_model.specs.Words.{Handle}
use Rattle.gfx_model.specs.World.{Blit}
use Rattle.c_calls.specs.declared.recording.Copied.{Copied}

-- a blit of these textures
abbrev pub blit_of : ℕ → (to from : Handle) → Copied → Blit
blit_of view to from at = record { view = view; destination = to; dx = at.dx; dy = at.dy; source = from; sx = at.sx; sy = at.sy; w = at.w; h = at.h }

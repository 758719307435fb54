use Rattle.std.proofs.Common.{ℕ, Option, option_map, option_and_then, sym, ◌∙◌}
use Rattle.gfx_model.specs.Words.{Handle}
use Rattle.gfx_model.specs.Recorder as calls
use Rattle.scene_model.specs.Scene as model
use Rattle.scene_model.specs.Fold.{blit_call}
use Rattle.block_recording.proofs.LineLaws.{answered, thing_of}
use Rattle.block_recording.proofs.lines.blit.Goals as goal

-- the call of the line by what its names stand for
abbrev call_of : ℕ → ℕ → ℕ → ℕ → ℕ → ℕ → ℕ → Option Handle → Option Handle → Option calls.EncoderCall
call_of v dx dy sx sy w h d s = option_and_then (λ dst. option_map (λ src. blit_call v dx dy sx sy w h dst src) s) d

pub returns : goal.returns
returns g c =
    let old = c.args.encoder.now in
    let a = c.args in
    let d : Handle = c.in-Some.dst in
    let s : Handle = c.in-Some-named.src in
    rw c.dropped_by.ensures (answered a.names.now (model.blit_line a.view a.dst a.dx a.dy a.src a.sx a.sy a.w a.h) old c.blit.new.self (blit_call a.view a.dx a.dy a.sx a.sy a.w a.h d s) c.requires
    (λ p k.
    let t = thing_of a.names.now old.seat a.dst d (sym c.named.ensures ∙ c.in-Some.is) p k in
    let u = thing_of a.names.now old.seat a.src s (sym c.named-2.ensures ∙ c.in-Some-named.is) p k in
    ((λ i. call_of a.view a.dx a.dy a.sx a.sy a.w a.h (t.0 i) (u.0 i)), (t.1, (u.1, tt))))
    _ c.blit.ensures)

use Rattle.std.proofs.Common.{option_map, ap, sym, ◌∙◌}
use Rattle.gfx_model.specs.Words.{Handle}
use Rattle.gfx_model.specs.Recorder as calls
use Rattle.scene_model.specs.Scene as model
use Rattle.block_recording.proofs.LineLaws.{answered, thing_of}
use Rattle.block_recording.proofs.lines.submit.Goals as goal

pub returns-in-Some : goal.returns-in-Some
returns-in-Some g c =
    let old = c.args.encoder.now in
    let h : Handle = c.in-Some.program in
    rw c.dropped_by.ensures (answered c.args.names.now (model.submit_line c.args.view c.args.program c.args.depth c.args.flags) old c.submit.new.self (calls.submit c.args.view h c.args.depth c.args.flags) c.requires
    (λ p s. let t = thing_of c.args.names.now old.seat c.args.program h (sym c.named.ensures ∙ c.in-Some.is) p s in (ap (option_map (λ (x : Handle). calls.submit c.args.view x c.args.depth c.args.flags)) t.0, (t.1, tt)))
    _ c.submit.ensures)

use Rattle.std.proofs.Common.{Option, Some, option_map, ap, sym, ◌∙◌}
use Rattle.gfx_model.specs.Words.{Handle}
use Rattle.gfx_model.specs.Recorder as calls
use Rattle.scene_model.specs.Scene as model
use Rattle.block_recording.proofs.LineLaws.{answered, thing_of}
use Rattle.block_recording.proofs.lines.put_on.Goals as goal

pub returns-in-Some : goal.returns-in-Some
returns-in-Some g c =
    let old = c.args.encoder.now in
    let h : Handle = c.in-Some.texture in
    rw c.dropped_by.ensures (answered c.args.names.now (model.bind_line c.args.stage (Some c.args.texture)) old c.set_texture.new.self (calls.set_texture c.args.stage (Some h)) c.requires
    (λ p s. let t = thing_of c.args.names.now old.seat c.args.texture h (sym c.named.ensures ∙ c.in-Some.is) p s in (ap (λ (o : Option Handle). option_map (calls.set_texture c.args.stage) (option_map (λ (x : Handle). Some x) o)) t.0, (t.1, tt)))
    _ c.set_texture.ensures)

use Rattle.std.proofs.Common.{option_map, ap, sym, ◌∙◌}
use Rattle.gfx_model.specs.Words.{Handle}
use Rattle.gfx_model.specs.Recorder as calls
use Rattle.scene_model.specs.Scene as model
use Rattle.block_recording.proofs.LineLaws.{answered, thing_of}
use Rattle.block_recording.proofs.lines.set_transient_vertices.Goals as goal

pub returns-in-Some : goal.returns-in-Some
returns-in-Some g c =
    let old = c.args.encoder.now in
    let h : Handle = c.in-Some.layout in
    rw c.dropped_by.ensures (answered c.args.names.now (model.transient_vertices_line c.args.layout c.args.bytes.now) old c.set_transient_vertices.new.self (calls.set_transient_vertices h c.args.bytes.now) c.requires
    (λ p s. let t = thing_of c.args.names.now old.seat c.args.layout h (sym c.named.ensures ∙ c.in-Some.is) p s in (ap (option_map (λ (x : Handle). calls.set_transient_vertices x c.args.bytes.now)) t.0, (t.1, tt)))
    _ c.set_transient_vertices.ensures)

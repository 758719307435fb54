use Rattle.std.proofs.Common.{option_map, ap, sym, ◌∙◌}
use Rattle.gfx_model.specs.Words.{Handle}
use Rattle.gfx_model.specs.Recorder as calls
use Rattle.gfx_words.specs.Kinds.{value_seen}
use Rattle.scene_model.specs.Scene as model
use Rattle.block_recording.proofs.LineLaws.{answered, thing_of}
use Rattle.block_recording.proofs.lines.set_uniform.Goals as goal

pub returns-in-Some : goal.returns-in-Some
returns-in-Some g c =
    let old = c.args.encoder.now in
    let h : Handle = c.in-Some.uniform in
    rw c.dropped_by.ensures (answered c.args.names.now (model.set_line c.args.uniform (value_seen c.args.value)) old c.set_uniform.new.self (calls.set_uniform h (value_seen c.args.value)) c.requires
    (λ p s. let t = thing_of c.args.names.now old.seat c.args.uniform h (sym c.named.ensures ∙ c.in-Some.is) p s in (ap (option_map (λ (x : Handle). calls.set_uniform x (value_seen c.args.value))) t.0, (t.1, tt)))
    _ c.set_uniform.ensures)

use Rattle.std.proofs.Common.{ap, sym, ◌∙◌}
use Rattle.std.specs.Prelude.{option_map}
use Rattle.gfx_words.specs.Seen.{uniform_seen}
use Rattle.store_model.specs.Buffers.{UniformSlot}
use Rattle.view_drawing.proofs.uniforms.newest_value.Goals as goal

pub returns-in-Some : goal.returns-in-Some
returns-in-Some c =
    c.value_of.ensures ∙ sym (ap (option_map (λ (s : UniformSlot). s.value)) (c.newest_law.ensures.found c.args.name.now (uniform_seen c.args.kind) c.args.buffers.now.uniforms c.in-Some.index c.in-Some.ensures))

pub returns-in-None : goal.returns-in-None
returns-in-None c =
    sym (ap (option_map (λ (s : UniformSlot). s.value)) (c.newest_law.ensures.none c.args.name.now (uniform_seen c.args.kind) c.args.buffers.now.uniforms c.in-None.ensures))

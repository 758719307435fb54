use Rattle.gfx_words.specs.Seen.{uniform_seen}
use Rattle.buffer_store.specs.Search.{IsFound}
use Rattle.buffer_store.proofs.uniform.newest.Given as goal

abbrev pub invariant-loop-index : goal.invariant-loop-index
invariant-loop-index l = IsFound l.name (uniform_seen l.kind) l.uniforms l.index l.best

-- What is left behind a sink that was lent.
use denote.RattleType.{RattleType}
use Rattle.std.specs.Borrow.{Lends, MutBor, Fml}
use Rattle.render_core.specs.declared.renderer.Renderer.{Renderer}
use Rattle.render_core.specs.contracts.renderer.Renderer.{the_row}

-- a renderer with another sink
abbrev pub with_sink : {P : Type 0} → Renderer P → P → Renderer P
with_sink r sink = record r { sink = sink }

-- the renderer ends with the sink that stands last behind the reference, and all else as it was
abbrev pub LendsSink : (P : RattleType) → MutBor (Renderer P.Denot) → MutBor P.Denot → Fml
LendsSink P r sink = Lends (the_row P) P r sink (with_sink r.now)

use Rattle.std.proofs.Common.{IfSome, refl, ap, subst}
use Rattle.std.proofs.Math.Logic.{∥∥₁_map}
use Rattle.store_laws.specs.ByIndex.{Stores}
use Rattle.render_stores.specs.Seen.{stores_seen}
use Rattle.target_scenes.specs.Finding.{IsFoundIn}
use Rattle.target_scenes.proofs.Targeters.{trace-finds, found-if}
use Rattle.target_scenes.proofs.targeter.Targeter.trace.Goals as goal

pub returns-clause-finds : goal.returns-clause-finds
returns-clause-finds c = λ frames s.
    let h : Stores = stores_seen c.args.renderer.canvas.stores in
    let found =
    subst (λ (u : Stores). IfSome c.trace_one.result (λ b. IsFoundIn c.args.self.now.asked.spot u c.args.frame.now b)) (ap stores_seen c.into_stores-stores.ensures) c.trace_one.ensures in
    ∥∥₁_map s (λ k.
    trace-finds c.args.self.now _ h frames c.args.frame.now c.requires.here refl c.requires.taken (k.before c.requires.none)
    (λ b e. found-if c.args.self.now.asked.spot h c.args.frame.now c.trace_one.result b found e))

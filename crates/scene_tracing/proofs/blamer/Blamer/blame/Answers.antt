use Rattle.std.proofs.Common.{IfSome, refl, ap, subst}
use Rattle.std.proofs.Math.Logic.{∥∥₁_map}
use Rattle.store_laws.specs.ByIndex.{Stores}
use Rattle.render_stores.specs.Seen.{stores_seen}
use Rattle.scene_tracing.specs.Blaming.{IsBlamedIn}
use Rattle.scene_tracing.proofs.Blamers.{blame-blames, blamed-if}
use Rattle.scene_tracing.proofs.blamer.Blamer.blame.Goals as goal

pub returns-clause-blames : goal.returns-clause-blames
returns-clause-blames c = λ frames s.
    let h : Stores = stores_seen c.args.renderer.canvas.stores in
    let found =
    subst (λ (u : Stores). IfSome c.blame_one.result (λ b. IsBlamedIn u c.args.frame.now b)) (ap stores_seen c.into_stores-stores.ensures) c.blame_one.ensures in
    ∥∥₁_map s (λ k.
    blame-blames c.args.self.now _ h frames c.args.frame.now c.requires.here refl c.requires.taken (k.before c.requires.none)
    (λ b e. blamed-if h c.args.frame.now c.blame_one.result b found e))

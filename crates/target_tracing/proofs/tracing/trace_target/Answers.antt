use Rattle.std.proofs.Common.{◌≡◌, sym, ap, ◌∙◌}
use Rattle.render_core.specs.Seen.{frame_seen}
use Rattle.render_stores.specs.Payloads.{payloads_seen}
use Rattle.render_stores.specs.Seen.{stores_seen}
use Rattle.store_laws.specs.ByIndex.{Stores, all_commanded}
use Rattle.trace_laws.specs.ByIndex.{begun_in}
use Rattle.target_laws.specs.Targets.{has_pixel}
use Rattle.target_tracing.specs.Surfaces.{surface_in}
use Rattle.target_tracing.proofs.Whole.{found-history}
use Rattle.target_tracing.proofs.tracing.trace_target.Goals as goal

pub returns-then-not-has_spot-clause-history : goal.returns-then-not-has_spot-clause-history
returns-then-not-has_spot-clause-history g c =
    let a = c.args in
    let begun : stores_seen c.execute_all.new.stores ≡ begun_in (stores_seen a.stores.now) (frame_seen a.frame.now) =
    c.in_ok-execute_all.ensures.done ∙ ap (λ p. all_commanded (payloads_seen p) (stores_seen a.stores.now) a.frame.now.pre) c.deref.ensures.value in
    sym (ap (λ (u : Stores). has_pixel (surface_in u.textures a.spot.target.index) a.spot.x a.spot.y) begun) ∙ sym c.has_spot.ensures.has ∙ c.if-not-has_spot.true

pub returns-clause-history : goal.returns-clause-history
returns-clause-history g c =
    let a = c.args in
    let h : Stores = stores_seen a.stores.now in
    let inner = c.in-Some.ensures in
    found-history a.frame.now h (stores_seen c.execute_all.new.stores) (stores_seen c.has_spot.new.stores) a.spot.target _ a.spot.x a.spot.y _ _ c.in_ok-history.history
    (c.in_ok-execute_all.ensures.done ∙ ap (λ p. all_commanded (payloads_seen p) h a.frame.now.pre) c.deref.ensures.value) c.has_spot.ensures.same
    (sym c.has_spot.ensures.has ∙ c.if-not-has_spot.false) inner.0 inner.1 inner.2 c.in_ok-history.ensures.before c.in_ok-history.ensures.made

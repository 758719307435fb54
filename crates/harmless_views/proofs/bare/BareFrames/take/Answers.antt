use Rattle.std.proofs.Common.{map, ap, subst, ◌∙◌}
use Rattle.store_laws.specs.ByIndex.{Stores, all_commanded}
use Rattle.render_stores.specs.Payloads.{payloads_seen}
use Rattle.shared_keys.specs.Marks.{shared_seen}
use Rattle.render_stores.specs.Seen.{stores_seen}
use Rattle.render_core.specs.Seen.{recordings_of}
use Rattle.harmless_views.specs.Left.{HasLeft}
use Rattle.harmless_views.proofs.bare.BareFrames.take.Goals as goal

pub returns-clause-left : goal.returns-clause-left
returns-clause-left c =
    let f = c.args.frame.now in
    subst (λ (h : Stores). HasLeft h f.views (recordings_of f) (map shared_seen c.in_ok-left.left.items))
    (c.in_ok-execute_all.ensures.done ∙ ap (λ ps. all_commanded (payloads_seen ps) (stores_seen c.args.self.now.stores) f.pre) c.deref.ensures.value) c.in_ok-left.ensures

use Rattle.std.proofs.Common.{◌++◌, List, map, ap, ◌∙◌}
use Rattle.render_stores.specs.Seen.{stores_seen}
use Rattle.store_laws.specs.ByIndex.{Stores}
use Rattle.trace_lines.specs.Seen.{doer_seen}
use Rattle.frame_steps.specs.Steps.{deeds_of_doers}
use Rattle.target_tracing.specs.Seen.{target_made_seen}
use Rattle.target_tracing.specs.Tracing.{history_of_these}
use Rattle.target_tracing.specs.declared.made.TargetMade.{TargetMade}
use Rattle.target_tracing.proofs.Whole.{whole-history}
use Rattle.target_tracing.proofs.tracing.trace_inside.Goals as goal

pub returns-clause-made : goal.returns-clause-made
returns-clause-made g c =
    let a = c.args in
    let t = a.spot.now.target in
    let h : Stores = stores_seen a.stores.now in
    let read : Stores = stores_seen c.pixel_at-before.new.stores in
    let doers = c.as_slice.result.now in
    (c.in_ok-trace_each.ensures ∙ ap (λ (ms : List TargetMade). map target_made_seen ms ++ history_of_these t a.spot.now.x a.spot.now.y 0 read (deeds_of_doers a.frame.now doers)) c.new-made.ensures.items)
    ∙ ap (λ u. history_of_these t a.spot.now.x a.spot.now.y 0 u (deeds_of_doers a.frame.now doers)) c.pixel_at-before.ensures.same
    ∙ whole-history a.frame.now doers c.done_law.ensures c.tell_facts.ensures (ap (map doer_seen) c.as_slice.ensures.value ∙ c.in_ok-doers.ensures) t a.spot.now.x a.spot.now.y h

use Rattle.std.proofs.Common.{◌∙◌, ◌≤◌, ℕ, ap, map, subst}
use Rattle.std.proofs.lemmas.Result.{on_ok_weaker}
use Rattle.gfx_model.specs.Views.{view_at, view_count}
use Rattle.frame_record.specs.Seen.{recordings_seen}
use Rattle.render_stores.specs.Seen.{stores_seen}
use Rattle.trace_lines.specs.Seen.{doer_seen}
use Rattle.target_tracing.specs.Seen.{target_made_seen}
use Rattle.target_tracing.proofs.Doings.{adds-nowhere}
use Rattle.target_tracing.proofs.tracing.trace_doer.Goals as goal

pub trace_in-requires-clause-own : goal.trace_in-requires-clause-own
trace_in-requires-clause-own g c = c.in-Some.ensures.1 ∙ ap (view_at c.args.frame.now.views) c.view_of.ensures

pub returns-in-None : goal.returns-in-None
returns-in-None g c =
    let a = c.args in
    on_ok_weaker c.do_deed.result
    (λ done. adds-nowhere a.frame.now.views (recordings_seen a.frame.now.recordings.items) a.spot.now.target a.spot.now.x a.spot.now.y a.number (stores_seen a.stores.now) (doer_seen a.doer) (stores_seen c.do_deed.new.stores)
    (map target_made_seen a.made.now.items) (subst (λ (v : ℕ). view_count a.frame.now.views ≤ v) c.view_of.ensures c.in-None.ensures) done)
    c.do_deed.ensures

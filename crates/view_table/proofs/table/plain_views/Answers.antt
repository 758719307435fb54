use Rattle.std.proofs.Common.{ap, ◌∙◌, map}
use Rattle.std.proofs.lemmas.Result.{IfOk-weaker}
use Rattle.gfx_model.specs.Views.{plain_view}
use Rattle.view_table.specs.Seen.{view_seen}
use Rattle.view_table.proofs.Kept.{map-replicate, to_back}
use Rattle.view_table.proofs.table.plain_views.Goals as goal

pub returns : goal.returns
returns c =
    IfOk-weaker c.vec.result _ _ (λ v same. ap (map view_seen) (same (λ y e. e)) ∙ map-replicate view_seen c.args.count _ plain_view (ap to_back c.plain.ensures)) c.vec.ensures.items_if_clones_equal

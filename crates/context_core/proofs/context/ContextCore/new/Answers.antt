use Rattle.hold_table.specs.Seats.{api_view}
use Rattle.context_core.specs.Gathered.{anything}
use Rattle.context_core.proofs.Openings.{kept_new_at}
use Rattle.context_core.proofs.context.ContextCore.new.Goals as goal

pub invariant_of-result : goal.invariant_of-result
invariant_of-result c =
    let p = c.in-Ok.ensures in
    let l = c.requires.latency in
    (p.2, c.requires.views, kept_new_at anything c.args.start c.in-Ok.book (api_view c.args.seat) c.in-Ok.gathered.items _ p.0 c.requires.seat p.1 c.requires.frame c.requires.serial l.0 l.1)

use Rattle.std.proofs.Common.{map, sym, subst}
use Rattle.load_text.specs.Seen.{block_seen}
use Rattle.res_lock.specs.Seats.{pass_view}
use Rattle.load_running.specs.Runs.{HasJoined}
use Rattle.load_running.proofs.JoinLaws.{joined_more}
use Rattle.load_running.proofs.callers.joined.Goals as goal

pub returns-clause-joined : goal.returns-clause-joined
returns-clause-joined g c =
    let blocks = map block_seen c.args.blocks.now in
    subst (λ w. HasJoined c.args.caller c.args.count blocks w (pass_view c.join.new.pass)) (sym c.both.ensures)
    (joined_more c.args.caller c.args.count blocks c.args.first.is_whole c.args.other.is_whole (pass_view c.args.first.pass) (pass_view c.args.other.pass) (pass_view c.join.new.pass)
    c.requires.first c.requires.other c.join.ensures.first.0 c.join.ensures.own c.join.ensures.others)

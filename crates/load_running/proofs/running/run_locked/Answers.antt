use Rattle.std.proofs.Common.{◌≡◌, true, map, sym, subst}
use Rattle.load_text.specs.Seen.{block_seen}
use Rattle.res_lock.specs.Histories.{IsLegal}
use Rattle.res_lock.specs.Seats.{pass_view}
use Rattle.res_lock.specs.Seen.{entries_seen}
use Rattle.load_running.specs.Runs.{HasJoined}
use Rattle.load_running.proofs.JoinLaws.{history_of}
use Rattle.load_running.proofs.running.run_locked.Goals as goal

pub returns-then-is_whole : goal.returns-then-is_whole
returns-then-is_whole g c =
    let blocks = map block_seen c.args.blocks.now in
    let v = pass_view c.run_blocks-pass.result.pass in
    let es = entries_seen c.close-context.result.1.items in
    history_of c.callers_of-count.result blocks v es
    (subst (λ w. HasJoined 1 c.callers_of-count.result blocks w v) c.if-is_whole.true c.run_blocks-pass.ensures.joined)
    c.close-context.ensures.whole (subst (λ s. IsLegal s es) c.requires.start c.close-context.ensures.legal) c.callers_of-count.ensures.none c.close-context.ensures.beyond

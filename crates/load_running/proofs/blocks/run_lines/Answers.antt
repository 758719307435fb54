use Rattle.std.proofs.Common.{◌≡◌, ◌≤◌, [], length, map, drop, refl, sym, subst, arith}
use Rattle.std.proofs.lemmas.List.{append-nil, drop_all}
use Rattle.load_text.specs.Seen.{line_seen}
use Rattle.res_lock.specs.Histories.{part_of}
use Rattle.res_lock.specs.Seats.{pass_view, caller_of}
use Rattle.load_running.specs.BlockCalls.{AreCallsFrom}
use Rattle.load_running.proofs.blocks.run_lines.Goals as goal

pub returns-clause-calls : goal.returns-clause-calls
returns-clause-calls g c =
    let n = c.loop-line.line-index in
    let lines = c.args.lines.now in
    let all : length lines ≤ n = omega (arith, c.loop-line-test.false) in
    let part = part_of (caller_of c.args.pass.now) (pass_view c.loop-line.pass).seen in
    subst (λ es. AreCallsFrom [] (map line_seen lines) es) (append-nil part)
    (c.loop-line.invariant.calls [] (subst (λ ls. AreCallsFrom c.loop-line.things.items (map line_seen ls) []) (sym (drop_all n lines all)) refl))

use Rattle.std.proofs.Common.{rules, ◌<◌, ◌≤◌, ◌+◌, ℕ, List, ap, ◌∙◌, sym, subst, map, drop, filter, arith, slice_index_or}
use Rattle.std.proofs.lemmas.List.{get_or_default}
use Rattle.std.specs.List.{AllByRecursion}
use Rattle.gfx_model.specs.Resources.{is_over, pushed_on}
use Rattle.schedule_model.specs.Held.{count_of}
use Rattle.resource_laws.specs.Lawful.{count_where, waits_at}
use Rattle.resource_book.specs.Stacks.{waiting_seen}
use Rattle.resource_book.proofs.ReclaimLaws.{rest_waits, not_free, turned, any, count_some, none_left}
use Rattle.resource_book.proofs.stacks.give_back_all.Goals as goal

pub give_back-requires : goal.give_back-requires
give_back-requires c over =
    let i = c.loop-i.invariant in
    let rest = rest_waits c.args.waiting.now c.loop-i.i (slice_index_or c.args.waiting.now c.loop-i.i (record { index = 0; death = 0 })) (search rules) (get_or_default c.args.waiting.now c.loop-i.i (record { index = 0; death = 0 }) (slice_index_or c.args.waiting.now c.loop-i.i (record { index = 0; death = 0 })) c.loop-i-test.true) in
    let below = subst (AllByRecursion (λ w. w.0 < c.loop-i.free.limit)) rest i.below in
    let once = subst (λ (ws : List (ℕ × ℕ)). count_of (slice_index_or c.args.waiting.now c.loop-i.i (record { index = 0; death = 0 })).index c.loop-i.free.free + count_where (waits_at (slice_index_or c.args.waiting.now c.loop-i.i (record { index = 0; death = 0 })).index any) ws ≤ 1) rest (i.once (slice_index_or c.args.waiting.now c.loop-i.i (record { index = 0; death = 0 })).index below.0) in
    (below.0, let z = not_free c.loop-i.free.free (waiting_seen (slice_index_or c.args.waiting.now c.loop-i.i (record { index = 0; death = 0 }))) (map waiting_seen (drop (c.loop-i.i + 1) c.args.waiting.now)) once in λ k. absurd (omega (arith, z, count_some c.loop-i.free.free k.0 (slice_index_or c.args.waiting.now c.loop-i.i (record { index = 0; death = 0 })).index k.1 k.2)))

pub loop-i-preserved : goal.loop-i-preserved
loop-i-preserved c =
    let i = c.loop-i.invariant in
    let rest = rest_waits c.args.waiting.now c.loop-i.i (slice_index_or c.args.waiting.now c.loop-i.i (record { index = 0; death = 0 })) (search rules) (get_or_default c.args.waiting.now c.loop-i.i (record { index = 0; death = 0 }) (slice_index_or c.args.waiting.now c.loop-i.i (record { index = 0; death = 0 })) c.loop-i-test.true) in
    let t = turned (is_over c.args.latency c.args.frame) c.loop-i.free c.give_back.new.free (waiting_seen (slice_index_or c.args.waiting.now c.loop-i.i (record { index = 0; death = 0 }))) (map waiting_seen (drop (c.loop-i.i + 1) c.args.waiting.now)) c.give_back.ensures
    (λ index lt. subst (λ (ws : List (ℕ × ℕ)). count_of index c.loop-i.free.free + count_where (waits_at index any) ws ≤ 1) rest (i.once index lt)) in
    record {
      limit = t.limit ∙ i.limit;
      once = t.once;
      below = subst (λ (n : ℕ). AllByRecursion (λ w. w.0 < n) (map waiting_seen (drop (c.loop-i.i + 1) c.args.waiting.now))) (sym t.limit) (subst (AllByRecursion (λ w. w.0 < c.loop-i.free.limit)) rest i.below).1;
      pushed = t.pushed ∙ ap (λ ws. pushed_on (map (λ w. w.0) (filter (λ w. is_over c.args.latency c.args.frame w.1) ws)) c.loop-i.free.free) (sym rest) ∙ i.pushed;
    }

pub returns-clause-free : goal.returns-clause-free
returns-clause-free c =
    let i = c.loop-i.invariant in
    let gone = none_left c.args.waiting.now c.loop-i.i (search rules) in
    sym (ap (λ ws. pushed_on (map (λ w. w.0) (filter (λ w. is_over c.args.latency c.args.frame w.1) ws)) c.loop-i.free.free) gone) ∙ i.pushed

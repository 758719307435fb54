use Rattle.std.proofs.Common.{◌≡◌, ◌+◌, map, arith, ◌∙◌}
use Rattle.gfx_query.specs.Counting.{fresh}
use Rattle.gfx_query.proofs.Counts.{fresh_stand}
use Rattle.gfx_query.proofs.counting.count_draw.Goals as goal

pub returns-clause-words : goal.returns-clause-words
returns-clause-words c = (c.count_instances-passed.ensures.counted 0 (map fresh c.args.words.now) (fresh_stand c.args.words.now)).words_are

pub returns-clause-count : goal.returns-clause-count
returns-clause-count c =
    let none : c.count_instances-passed.result ≡ 0 + c.count_instances-passed.result = omega arith in
    none ∙ (c.count_instances-passed.ensures.counted 0 (map fresh c.args.words.now) (fresh_stand c.args.words.now)).passed_is

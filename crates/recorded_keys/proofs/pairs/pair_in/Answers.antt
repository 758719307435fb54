use Rattle.std.proofs.Common.{sym}
use Rattle.shared_keys.specs.Marks.{shared_seen}
use Rattle.recorded_keys.proofs.PairLaws.{no-first, no-second, taken-pair}
use Rattle.recorded_keys.proofs.pairs.pair_in.Goals as goal

pub returns-in_default : goal.returns-in_default
returns-in_default c = λ p v h all. no-first p c.args.recordings.now (shared_seen c.args.shared.now) h (sym c.in_default.ensures.value)

pub returns-in_default-place_of : goal.returns-in_default-place_of
returns-in_default-place_of c = λ p v h all. no-second p c.args.recordings.now (shared_seen c.args.shared.now) h (sym c.in_default-place_of.ensures.value)

pub returns : goal.returns
returns c = λ p v h all.
    taken-pair p c.args.recordings.now (shared_seen c.args.shared.now) c.args.views.now c.in-Some.first c.in-Some-place_of.second c.index-recordings-first.result c.index-recordings-second.result _ v h all
    c.in-Some.ensures.value c.in-Some-place_of.ensures.value c.index-recordings-first.is c.index-recordings-second.is c.in_ok-pair.ensures

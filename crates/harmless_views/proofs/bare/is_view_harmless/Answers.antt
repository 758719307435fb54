use Rattle.std.proofs.Common.{arith}
use Rattle.std.proofs.lemmas.Result.{IfOk-weaker}
use Rattle.render_stores.specs.Seen.{stores_seen}
use Rattle.render_core.specs.Seen.{journal_of, recordings_of}
use Rattle.harmless_views.proofs.Seeing.{judged-there, matters-there}
use Rattle.harmless_views.proofs.bare.is_view_harmless.Goals as goal

pub returns-in-Some-clause-judged : goal.returns-in-Some-clause-judged
returns-in-Some-clause-judged c =
    let f = c.args.frame.now in
    IfOk-weaker c.is_harmless.result _ _ (λ harmless judged is. judged-there (stores_seen c.args.stores.now) f.views c.args.marks.now (recordings_of f) (journal_of f) c.args.number _ c.in-Some.ensures.1 (judged is)) c.is_harmless.ensures.judged

pub returns-in-Some-clause-matters : goal.returns-in-Some-clause-matters
returns-in-Some-clause-matters c =
    let f = c.args.frame.now in
    IfOk-weaker c.is_harmless.result _ _ (λ harmless matters is. matters-there (stores_seen c.args.stores.now) f.views c.args.marks.now (recordings_of f) (journal_of f) c.args.number _ c.in-Some.ensures.1 (matters is)) c.is_harmless.ensures.matters

pub returns-in-None-clause-matters : goal.returns-in-None-clause-matters
returns-in-None-clause-matters c = λ is low there. absurd (omega (arith, low, c.in-None.ensures))

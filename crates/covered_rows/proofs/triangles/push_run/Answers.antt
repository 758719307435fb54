use Rattle.covered_rows.proofs.Covered.{keeps-more, has-more, adds-one}
use Rattle.covered_rows.proofs.triangles.push_run.Goals as goal

pub returns-in_ok-push-clause-keeps : goal.returns-in_ok-push-clause-keeps
returns-in_ok-push-clause-keeps c = keeps-more c.args.runs.now.items c.push.new.self.items c.args.run c.in_ok-push.ensures.items

pub returns-in_ok-push-clause-has : goal.returns-in_ok-push-clause-has
returns-in_ok-push-clause-has c = λ x col. has-more c.args.runs.now.items c.push.new.self.items c.args.run c.in_ok-push.ensures.items

pub returns-in_ok-push-clause-adds : goal.returns-in_ok-push-clause-adds
returns-in_ok-push-clause-adds c = adds-one c.args.runs.now.items c.push.new.self.items c.args.run c.in_ok-push.ensures.items c.if-run.true

use Rattle.std.proofs.Common.{sym, ◌∙◌}
use Rattle.diff_running.proofs.Ends.{complete, refused}
use Rattle.diff_running.proofs.diffing.diff.Goals as goal

pub returns-clause-refused : goal.returns-clause-refused
returns-clause-refused g c none no_tell = refused c.asked_by-asked.result c.run_asked.result _ _ _ _ _ _ _ _ _ c.run_asked.ensures.ended (c.asked_by-asked.ensures ∙ none) no_tell

pub returns-clause-complete : goal.returns-clause-complete
returns-clause-complete g c a bytes wanted taken told called no_read no_put no_tell =
    complete c.asked_by-asked.result c.run_asked.result a _ _ _ _ _ _ _ _ _ bytes wanted c.run_asked.ensures.ended (c.asked_by-asked.ensures ∙ taken) told called no_read no_put no_tell

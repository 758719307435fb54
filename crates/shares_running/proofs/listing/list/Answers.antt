use Rattle.std.proofs.Common.{[], ◌∷◌, map, sym, ap, subst, ◌∙◌}
use Rattle.std.proofs.lemmas.List.{map-append}
use Rattle.shared_keys.specs.Lines.{shared_views}
use Rattle.shared_keys.specs.Marks.{shared_seen}
use Rattle.recorded_keys.specs.Recorded.{ArePlanned}
use Rattle.shares_running.specs.Listed.{lists_seen}
use Rattle.shares_running.proofs.Lists.{list_more}
use Rattle.shares_running.proofs.listing.list.Goals as goal

pub returns : goal.returns
returns c = λ frames listed.
    list_more shared_views (lists_seen c.args.lists.now.items) (lists_seen c.push.new.self.items) (map shared_seen c.in_ok-views.views.items) frames c.args.frame.now
    (λ s k p entries at has. c.in_ok-views.ensures s k p at has.views (subst (ArePlanned p) (sym c.as_slice.ensures.value) (c.planned_law.ensures p c.args.frame.now.recordings.items has.gathered)))
    (ap lists_seen c.in_ok-push.ensures.items ∙ map-append (λ v. map shared_seen v.items) c.args.lists.now.items (c.in_ok-views.views ∷ []))
    listed

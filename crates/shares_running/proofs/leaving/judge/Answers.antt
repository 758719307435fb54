use Rattle.std.proofs.Common.{[], ◌∷◌, map, ap, ◌∙◌}
use Rattle.std.proofs.Math.Logic.{∥∥₁_map}
use Rattle.std.proofs.lemmas.List.{map-append}
use Rattle.render_stores.specs.Seen.{stores_seen}
use Rattle.shared_keys.specs.Marks.{shared_seen}
use Rattle.shares_running.specs.Listed.{lists_seen}
use Rattle.shares_running.proofs.Judged.{judges-more}
use Rattle.shares_running.proofs.leaving.judge.Goals as goal

pub returns : goal.returns
returns c = λ width height given judges.
    ∥∥₁_map judges (λ before.
    judges-more width height (stores_seen c.args.frames.now.stores) (stores_seen c.take.new.self.stores) (lists_seen c.args.lists.now.items) (lists_seen c.push.new.self.items) given c.args.frame.now (map shared_seen c.in_ok-left.left.items)
    c.in_ok-left.ensures.stores (ap lists_seen c.in_ok-push.ensures.items ∙ map-append (λ v. map shared_seen v.items) c.args.lists.now.items (c.in_ok-left.left ∷ [])) c.in_ok-left.ensures.left before)

use Rattle.std.proofs.Common.{rules, ◌≡◌, ℕ, List, replicate, sym, subst, None}
use Rattle.atomic_table.specs.Table.{opening}
use Rattle.frame_swap.specs.Views.{first_view}
use Rattle.frame_swap.specs.Rule.{IsHeld}
use Rattle.frame_swap.proofs.Openings.{opens}
use Rattle.frame_keeping.proofs.keeping.KeepingLink.new.Goals as goal

pub vacant-requires : goal.vacant-requires
vacant-requires c =
    let words : c.as_slice.result.now ≡ replicate c.args.latency 0 = search rules in
    subst (λ (ws : List ℕ). IsHeld c.args.latency (opening ws (replicate c.args.latency None) first_view)) (sym words) (opens c.args.latency (search rules))

use Rattle.std.proofs.Common.{map, refl, ap, ◌∙◌, arith}
use Rattle.std.proofs.lemmas.List.{map_push}
use Rattle.gfx_query.specs.Seen.{step_seen}
use Rattle.gfx_query.proofs.Lines.{last_set}
use Rattle.gfx_query.proofs.reading.add_step.Goals as goal

pub returns-in_ok-push-in-Some : goal.returns-in_ok-push-in-Some
returns-in_ok-push-in-Some c =
    last_set _ _ c.args.frames.now.items _ _ c.in-Some.frame.now (omega (arith, c.args.frames.now.ok.0, c.in-Some.ensures.variant.0 refl)) c.in-Some.ensures.value
    (ap (map step_seen) c.in_ok-push-in-Some.ensures.items ∙ map_push step_seen c.in-Some.frame.now.items c.args.step)

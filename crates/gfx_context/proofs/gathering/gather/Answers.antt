use Rattle.std.proofs.Common.{ℕ, sym, subst}
use Rattle.hold_table.specs.Seats.{enc_view}
use Rattle.hold_table.specs.declared.table.EncSeat.{EncSeat}
use Rattle.draw_encoder.specs.Bundles.{BelongTogether}
use Rattle.draw_encoder.specs.declared.items.Recording.{Recording}
use Rattle.context_core.specs.Ended.{Gathers}
use Rattle.gfx_context.proofs.Gathers.{one_more}
use Rattle.gfx_context.proofs.gathering.gather.Goals as goal

pub gather-requires-clause-together : goal.gather-requires-clause-together
gather-requires-clause-together g c =
    let p = c.part-recording in
    subst (λ (n : ℕ). BelongTogether n p.result.0 p.result.1) (sym c.requires.views) p.ensures.together

pub returns-clause-gathers : goal.returns-clause-gathers
returns-clause-gathers g c = subst (λ (b : Recording × EncSeat). Gathers b.0 (enc_view b.1) c.args.core.now c.gather.new.self) c.part-recording.ensures.same c.gather.ensures

pub returns-clause-admitted : goal.returns-clause-admitted
returns-clause-admitted g c =
    let p = c.part-recording in
    one_more g.C.Naming.admits p.result.0 (enc_view p.result.1) c.args.core.now c.gather.new.self c.gather.ensures c.requires.admitted p.ensures.admitted

use Rattle.std.proofs.Common.{◌≡◌, ℕ, refl, sym, subst}
use Rattle.hold_table.specs.Seats.{enc_view}
use Rattle.hold_table.specs.declared.table.EncSeat.{EncSeat}
use Rattle.draw_encoder.specs.Bundles.{BelongTogether}
use Rattle.context_core.specs.Ended as cores
use Rattle.c_calls.specs.Rendered.{rendering_of}
use Rattle.c_calls.specs.Views.{ContextView}
use Rattle.c_calls.proofs.On.{on_gathers}
use Rattle.c_calls.proofs.Told.{context_with}
use Rattle.c_calls.proofs.context.Context.gather.Goals as goal

pub gather-requires-clause-together : goal.gather-requires-clause-together
gather-requires-clause-together c =
    let p = c.part-recording in
    subst (λ (n : ℕ). BelongTogether n p.result.0 p.result.1) (sym c.self.invariant.0.views_are) p.ensures.together

pub invariant_of-self : goal.invariant_of-self
invariant_of-self c = (on_gathers c.self.invariant.0 c.gather.new.self c.part-recording.result.0 (enc_view c.part-recording.result.1) c.gather.ensures, c.self.invariant.1)

pub returns-clause-gathers : goal.returns-clause-gathers
returns-clause-gathers c =
    let r = c.part-recording.result.0 in (
      r,
      c.part-recording.ensures.recording,
      subst (λ (v : ContextView). cores.Gathers r (enc_view c.args.letter.1) v.core c.gather.new.self) c.self.view_is
          (subst (λ (s : EncSeat). cores.Gathers r (enc_view s) c.self.inside.core c.gather.new.self) c.part-recording.ensures.seat c.gather.ensures),
    )

pub returns-clause-same : goal.returns-clause-same
returns-clause-same c = subst (λ (v : ContextView). (context_with c.self.inside.things.rows.items (rendering_of c.self.inside.renderer) c.self.inside.standing c.self.inside.renderer.sink.capacity) c.gather.new.self ≡ record v { core = c.gather.new.self }) c.self.view_is refl

use Rattle.std.proofs.Common.{ap, ◌∙◌, sym, subst}
use Rattle.gfx_model.specs.Words.{place_of_handle}
use Rattle.hold_table.specs.Views.{SeatView}
use Rattle.hold_table.specs.Seats.{enc_view}
use Rattle.draw_encoder.specs.Encoders.{IsOf}
use Rattle.draw_encoder.specs.Calls.{EncoderView}
use Rattle.draw_encoder.proofs.NameLaws.{of_asks, Named, name_told}
use Rattle.draw_encoder.proofs.recorder.Recorder.name.Goals as goal

pub invariant_of-self : goal.invariant_of-self
invariant_of-self c =
    let k = c.self.invariant in
    let told = c.name.ensures.asked in
    let seat = told.1.0 in (
      k.0 ∙ ap (λ v. v.encoder) (sym seat),
      subst (λ (v : SeatView). IsOf v c.self.inside.tape) (sym seat) (of_asks (place_of_handle c.args.h) told.0 (enc_view c.self.inside.seat) c.self.inside.tape k.1),
    )

pub returns-clause-asked : goal.returns-clause-asked
returns-clause-asked c = subst (λ (e : EncoderView). Named e (enc_view c.name.new.enc) c.args.h c.name.result) (ap (λ v. v.state) c.self.view_is)
    (name_told (record { recorder = c.self.inside.tape.recorder; seat = enc_view c.self.inside.seat }) (enc_view c.name.new.enc) c.args.h c.name.result c.self.invariant.1.frame c.name.ensures.asked)

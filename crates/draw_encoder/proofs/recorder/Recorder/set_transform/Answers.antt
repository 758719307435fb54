use Rattle.std.proofs.Common.{[], ap, ◌∙◌, sym, refl, subst}
use Rattle.gfx_model.specs.Recorder as calls
use Rattle.fix_math.specs.Seen.{affine_seen}
use Rattle.hold_table.specs.Seats.{enc_view}
use Rattle.draw_encoder.specs.Names.{HasNamed}
use Rattle.draw_encoder.specs.Calls.{EncoderView}
use Rattle.draw_encoder.proofs.NameLaws.{FitsCall, of_call}
use Rattle.draw_encoder.proofs.Exits.{none_left, accepted}
use Rattle.draw_encoder.proofs.recorder.Recorder.set_transform.Goals as goal

pub returns-clause-answer : goal.returns-clause-answer
returns-clause-answer c =
    let now = ap (λ v. v.state.recorder) c.self.view_is in
    accepted _ _ _ ([]) none_left tt
    (ap (λ t. t.recorder) c.set_transform.ensures ∙ ap (λ r. calls.after r (calls.set_transform (affine_seen c.args.model))) now) (ap (λ v. v.state.seat) c.self.view_is)

pub invariant_of-self : goal.invariant_of-self
invariant_of-self c =
    let k = c.self.invariant in
    let P : EncoderView → Type 0 = λ v. FitsCall (HasNamed v.seat) v.recorder (calls.set_transform (affine_seen c.args.model)) in
    let fits : P (record { recorder = c.self.inside.tape.recorder; seat = enc_view c.self.inside.seat }) = subst P (ap (λ v. v.state) (sym c.self.view_is)) tt in
    (k.0, of_call _ _ k.1 (calls.set_transform (affine_seen c.args.model)) _ c.set_transform.ensures refl fits)

use Rattle.std.proofs.Common.{[], ap, ◌∙◌, sym, refl, subst}
use Rattle.gfx_model.specs.Recorder as calls
use Rattle.hold_table.specs.Seats.{enc_view}
use Rattle.draw_encoder.specs.Names.{HasNamed}
use Rattle.draw_encoder.specs.Calls.{EncoderView}
use Rattle.draw_encoder.proofs.NameLaws.{FitsCall, of_call}
use Rattle.draw_encoder.proofs.Exits.{none_left, over, stop, refused, accepted}
use Rattle.draw_encoder.proofs.recorder.Recorder.set_transient_indices.Goals as goal

pub returns-then-lacks_bytes-clause-answer : goal.returns-then-lacks_bytes-clause-answer
returns-then-lacks_bytes-clause-answer c =
    refused _ _ _ ([]) _ _ refl (stop _ _ _ refl (sym c.lacks_bytes.ensures ∙ c.if-lacks_bytes.true)) tt refl refl

pub returns-clause-answer : goal.returns-clause-answer
returns-clause-answer c =
    let now = ap (λ v. v.state.recorder) c.self.view_is in
    accepted _ _ _ ([]) (over _ _ _ _ _ refl (sym c.lacks_bytes.ensures ∙ c.if-lacks_bytes.false) none_left) tt
    (ap (λ t. t.recorder) c.set_transient_indices.ensures ∙ ap (λ r. calls.after r (calls.set_transient_indices c.args.bytes.now)) now) (ap (λ v. v.state.seat) c.self.view_is)

pub invariant_of-self : goal.invariant_of-self
invariant_of-self c =
    let k = c.self.invariant in
    let P : EncoderView → Type 0 = λ v. FitsCall (HasNamed v.seat) v.recorder (calls.set_transient_indices c.args.bytes.now) in
    let fits : P (record { recorder = c.self.inside.tape.recorder; seat = enc_view c.self.inside.seat }) = subst P (ap (λ v. v.state) (sym c.self.view_is)) tt in
    (k.0, of_call _ _ k.1 (calls.set_transient_indices c.args.bytes.now) _ c.set_transient_indices.ensures refl fits)

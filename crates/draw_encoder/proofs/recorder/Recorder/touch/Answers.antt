use Rattle.std.proofs.Common.{[], ap, ◌∙◌, sym, refl, subst}
use Rattle.gfx_model.specs.Recorder as calls
use Rattle.hold_table.specs.Views.{drawn}
use Rattle.hold_table.specs.Seats.{enc_view}
use Rattle.draw_encoder.specs.Names.{HasNamed}
use Rattle.draw_encoder.specs.Calls.{EncoderView}
use Rattle.draw_encoder.proofs.NameLaws.{FitsCall, of_item}
use Rattle.draw_encoder.proofs.Exits.{none_left, over, stop, below_count, refused, accepted}
use Rattle.draw_encoder.proofs.recorder.Recorder.touch.Goals as goal

pub returns-then-lacks_view-clause-answer : goal.returns-then-lacks_view-clause-answer
returns-then-lacks_view-clause-answer c =
    refused _ _ _ ([]) _ _ refl (stop _ _ _ refl (sym c.lacks_view.ensures ∙ c.if-lacks_view.true)) tt refl refl

pub returns-then-lacks_room-clause-answer : goal.returns-then-lacks_room-clause-answer
returns-then-lacks_room-clause-answer c =
    refused _ _ _ ([]) _ _ refl (over _ _ _ _ _ refl (sym c.lacks_view.ensures ∙ c.if-lacks_view.false) (stop _ _ _ refl (sym c.lacks_room.ensures ∙ c.if-lacks_room.true))) tt refl refl

pub returns-clause-answer : goal.returns-clause-answer
returns-clause-answer c =
    let now = ap (λ v. v.state.recorder) c.self.view_is in
    accepted _ _ _ ([]) (over _ _ _ _ _ refl (sym c.lacks_view.ensures ∙ c.if-lacks_view.false) (over _ _ _ _ _ refl (sym c.lacks_room.ensures ∙ c.if-lacks_room.false) none_left)) tt
    (ap (λ t. t.recorder) c.touch.ensures ∙ ap (λ r. calls.after r (calls.touch c.args.view)) now) (c.draw_number-number.result, c.draw_number-number.ensures.drawn ∙ ap (drawn c.draw_number-number.result) (ap (λ v. v.state.seat) c.self.view_is))

pub invariant_of-self : goal.invariant_of-self
invariant_of-self c =
    let k = c.self.invariant in
    let P : EncoderView → Type 0 = λ v. FitsCall (HasNamed v.seat) v.recorder (calls.touch c.args.view) in
    let fits : P (record { recorder = c.self.inside.tape.recorder; seat = enc_view c.self.inside.seat }) = subst P (ap (λ v. v.state) (sym c.self.view_is)) (below_count c.args.self.now.state.recorder c.args.self.now.state.recorder c.args.view refl (sym c.lacks_view.ensures ∙ c.if-lacks_view.false)) in
    let seat = c.draw_number-number.ensures.drawn in
    (k.0 ∙ ap (λ v. v.encoder) (sym seat), of_item _ _ k.1 _ (calls.touch c.args.view) _ _ _ c.touch.ensures seat c.draw_number-number.ensures.above refl fits)

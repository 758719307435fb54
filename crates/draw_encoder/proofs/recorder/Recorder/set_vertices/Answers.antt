use Rattle.std.proofs.Common.{[], ◌∷◌, not, Err, ap, ◌∙◌, sym, refl, subst}
use Rattle.gfx_model.specs.Recorder as calls
use Rattle.gfx_words.specs.declared.refusals.Refusal.TheVariants as refusals
use Rattle.hold_table.specs.Seats.{enc_view}
use Rattle.draw_encoder.specs.Names.{HasNamed}
use Rattle.draw_encoder.specs.Calls.{EncoderView, Answers}
use Rattle.draw_encoder.proofs.NameLaws.{FitsCall, of_call}
use Rattle.draw_encoder.proofs.Exits.{none_left, over, over_word, stop, stop_word, not_false, handed_on, refused, accepted}
use Rattle.draw_encoder.proofs.recorder.Recorder.set_vertices.Goals as goal

pub returns-then-is_not_of-clause-answer : goal.returns-then-is_not_of-clause-answer
returns-then-is_not_of-clause-answer c =
    refused _ _ _ ([]) _ _ refl (stop _ _ _ refl (sym c.is_not_of.ensures ∙ c.if-is_not_of.true)) tt refl refl

pub returns-in_err-name-clause-answer : goal.returns-in_err-name-clause-answer
returns-in_err-name-clause-answer c =
    let told1 = c.in_err-name.ensures.asked in
    subst (Answers c.args.self.now.state c.name.new.self.state (calls.set_vertices c.args.buffer c.args.first c.args.count)) (sym (handed_on _ _ c.from_residual.ensures.1 ∙ ap Err told1.2.1))
    (refused _ _ _ (told1.0 ∷ []) (refusals.Stale told1.0) _ refl (over _ _ _ _ _ refl (sym c.is_not_of.ensures ∙ c.if-is_not_of.false) (stop_word _ _ _ (ap not told1.2.0))) (told1.1.1, tt) c.name.ensures.same told1.1.0)

pub returns-clause-answer : goal.returns-clause-answer
returns-clause-answer c =
    let told1 = c.in_ok-name.ensures.asked in
    let now = ap (λ v. v.state.recorder) c.self.view_is ∙ c.name.ensures.same in
    accepted _ _ _ (told1.0 ∷ []) (over _ _ _ _ _ refl (sym c.is_not_of.ensures ∙ c.if-is_not_of.false) (over_word _ _ _ _ _ (ap not told1.2.0) none_left)) (told1.1.1, tt)
    (ap (λ t. t.recorder) c.set_vertices.ensures ∙ ap (λ r. calls.after r (calls.set_vertices c.args.buffer c.args.first c.args.count)) now) (ap (λ v. v.state.seat) c.self.view_is ∙ told1.1.0)

pub invariant_of-self : goal.invariant_of-self
invariant_of-self c =
    let told1 = c.in_ok-name.ensures.asked in
    let k = c.self.invariant in
    let P : EncoderView → Type 0 = λ v. FitsCall (HasNamed v.seat) v.recorder (calls.set_vertices c.args.buffer c.args.first c.args.count) in
    let fits : P (record { recorder = c.self.inside.tape.recorder; seat = enc_view c.self.inside.seat }) = subst P (ap (λ v. v.state) (sym c.self.view_is)) (told1.2.1, not_false _ (sym c.is_not_of.ensures ∙ c.if-is_not_of.false)) in
    (k.0, of_call _ _ k.1 (calls.set_vertices c.args.buffer c.args.first c.args.count) _ c.set_vertices.ensures refl fits)

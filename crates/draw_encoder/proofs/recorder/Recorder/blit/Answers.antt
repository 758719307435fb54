use Rattle.std.proofs.Common.{[], ◌∷◌, not, Err, ap, ◌∙◌, sym, refl, subst}
use Rattle.gfx_model.specs.Words.{place_of_handle}
use Rattle.gfx_model.specs.Recorder as calls
use Rattle.gfx_words.specs.declared.refusals.Refusal.TheVariants as refusals
use Rattle.hold_table.specs.Views.{asks, drawn}
use Rattle.hold_table.specs.Seats.{enc_view}
use Rattle.draw_encoder.specs.Names.{HasNamed}
use Rattle.draw_encoder.specs.Seen.{copy_seen}
use Rattle.draw_encoder.specs.Calls.{EncoderView, Answers}
use Rattle.draw_encoder.proofs.NameLaws.{FitsCall, of_item, named_again, still_named, is_usable_of}
use Rattle.draw_encoder.proofs.Exits.{none_left, over, over_word, stop, stop_word, not_false, below_count, handed_on, refused, accepted}
use Rattle.draw_encoder.proofs.recorder.Recorder.blit.Goals as goal

pub returns-then-lacks_view-clause-answer : goal.returns-then-lacks_view-clause-answer
returns-then-lacks_view-clause-answer c =
    refused _ _ _ ([]) _ _ refl (stop _ _ _ refl (sym c.lacks_view.ensures ∙ c.if-lacks_view.true)) tt refl refl

pub returns-then-differ_in_format-clause-answer : goal.returns-then-differ_in_format-clause-answer
returns-then-differ_in_format-clause-answer c =
    refused _ _ _ ([]) _ _ refl (over _ _ _ _ _ refl (sym c.lacks_view.ensures ∙ c.if-lacks_view.false) (stop _ _ _ refl (sym c.differ_in_format.ensures ∙ c.if-differ_in_format.true))) tt refl refl

pub returns-in_err-name-clause-answer : goal.returns-in_err-name-clause-answer
returns-in_err-name-clause-answer c =
    let told1 = c.in_err-name.ensures.asked in
    subst (Answers c.args.self.now.state c.name.new.self.state (calls.blit (copy_seen c.args.view c.args.copy))) (sym (handed_on _ _ c.from_residual.ensures.1 ∙ ap Err told1.2.1))
    (refused _ _ _ (told1.0 ∷ []) (refusals.Stale told1.0) _ refl (over _ _ _ _ _ refl (sym c.lacks_view.ensures ∙ c.if-lacks_view.false) (over _ _ _ _ _ refl (sym c.differ_in_format.ensures ∙ c.if-differ_in_format.false) (stop_word _ _ _ (ap not told1.2.0)))) (told1.1.1, tt) c.name.ensures.same told1.1.0)

pub returns-in_err-name-2-clause-answer : goal.returns-in_err-name-2-clause-answer
returns-in_err-name-2-clause-answer c =
    let told1 = c.in_ok-name.ensures.asked in
    let told2 = c.in_err-name-2.ensures.asked in
    let again = named_again c.args.self.now.state.seat c.name.new.self.state.seat (place_of_handle c.args.copy.dst) told1.0 (place_of_handle c.args.copy.src) c.name-2.new.self.state.seat told2.0 told1.1.0 told2.1 in
    let usable2 = ap (λ r. is_usable_of r told2.0 c.args.copy.src) (sym c.name.ensures.same) ∙ told2.2.0 in
    subst (Answers c.args.self.now.state c.name-2.new.self.state (calls.blit (copy_seen c.args.view c.args.copy))) (sym (handed_on _ _ c.from_residual-in_err-name-2.ensures.1 ∙ ap Err told2.2.1))
    (refused _ _ _ (told1.0 ∷ told2.0 ∷ []) (refusals.Stale told2.0) _ refl (over _ _ _ _ _ refl (sym c.lacks_view.ensures ∙ c.if-lacks_view.false) (over _ _ _ _ _ refl (sym c.differ_in_format.ensures ∙ c.if-differ_in_format.false) (over_word _ _ _ _ _ (ap not told1.2.0) (stop_word _ _ _ (ap not usable2))))) (told1.1.1, (again, tt)) (c.name-2.ensures.same ∙ c.name.ensures.same) (told2.1.0 ∙ ap (asks (place_of_handle c.args.copy.src) told2.0) told1.1.0))

pub returns-then-is_no_blit_destination-clause-answer : goal.returns-then-is_no_blit_destination-clause-answer
returns-then-is_no_blit_destination-clause-answer c =
    let told1 = c.in_ok-name.ensures.asked in
    let told2 = c.in_ok-name-2.ensures.asked in
    let again = named_again c.args.self.now.state.seat c.name.new.self.state.seat (place_of_handle c.args.copy.dst) told1.0 (place_of_handle c.args.copy.src) c.name-2.new.self.state.seat told2.0 told1.1.0 told2.1 in
    let usable2 = ap (λ r. is_usable_of r told2.0 c.args.copy.src) (sym c.name.ensures.same) ∙ told2.2.0 in
    refused _ _ _ (told1.0 ∷ told2.0 ∷ []) _ _ refl (over _ _ _ _ _ refl (sym c.lacks_view.ensures ∙ c.if-lacks_view.false) (over _ _ _ _ _ refl (sym c.differ_in_format.ensures ∙ c.if-differ_in_format.false) (over_word _ _ _ _ _ (ap not told1.2.0) (over_word _ _ _ _ _ (ap not usable2) (stop _ _ _ refl (sym c.is_no_blit_destination.ensures ∙ c.if-is_no_blit_destination.true)))))) (told1.1.1, (again, tt)) (c.name-2.ensures.same ∙ c.name.ensures.same) (told2.1.0 ∙ ap (asks (place_of_handle c.args.copy.src) told2.0) told1.1.0)

pub returns-then-lacks_room-clause-answer : goal.returns-then-lacks_room-clause-answer
returns-then-lacks_room-clause-answer c =
    let told1 = c.in_ok-name.ensures.asked in
    let told2 = c.in_ok-name-2.ensures.asked in
    let again = named_again c.args.self.now.state.seat c.name.new.self.state.seat (place_of_handle c.args.copy.dst) told1.0 (place_of_handle c.args.copy.src) c.name-2.new.self.state.seat told2.0 told1.1.0 told2.1 in
    let usable2 = ap (λ r. is_usable_of r told2.0 c.args.copy.src) (sym c.name.ensures.same) ∙ told2.2.0 in
    refused _ _ _ (told1.0 ∷ told2.0 ∷ []) _ _ refl (over _ _ _ _ _ refl (sym c.lacks_view.ensures ∙ c.if-lacks_view.false) (over _ _ _ _ _ refl (sym c.differ_in_format.ensures ∙ c.if-differ_in_format.false) (over_word _ _ _ _ _ (ap not told1.2.0) (over_word _ _ _ _ _ (ap not usable2) (over _ _ _ _ _ refl (sym c.is_no_blit_destination.ensures ∙ c.if-is_no_blit_destination.false) (stop _ _ _ refl (ap (λ r. (calls.lacks_room r).0) (sym (c.name-2.ensures.same ∙ c.name.ensures.same)) ∙ sym c.lacks_room.ensures ∙ c.if-lacks_room.true))))))) (told1.1.1, (again, tt)) (c.name-2.ensures.same ∙ c.name.ensures.same) (told2.1.0 ∙ ap (asks (place_of_handle c.args.copy.src) told2.0) told1.1.0)

pub returns-clause-answer : goal.returns-clause-answer
returns-clause-answer c =
    let told1 = c.in_ok-name.ensures.asked in
    let told2 = c.in_ok-name-2.ensures.asked in
    let again = named_again c.args.self.now.state.seat c.name.new.self.state.seat (place_of_handle c.args.copy.dst) told1.0 (place_of_handle c.args.copy.src) c.name-2.new.self.state.seat told2.0 told1.1.0 told2.1 in
    let usable2 = ap (λ r. is_usable_of r told2.0 c.args.copy.src) (sym c.name.ensures.same) ∙ told2.2.0 in
    let now = ap (λ v. v.state.recorder) c.self.view_is ∙ c.name-2.ensures.same ∙ c.name.ensures.same in
    accepted _ _ _ (told1.0 ∷ told2.0 ∷ []) (over _ _ _ _ _ refl (sym c.lacks_view.ensures ∙ c.if-lacks_view.false) (over _ _ _ _ _ refl (sym c.differ_in_format.ensures ∙ c.if-differ_in_format.false) (over_word _ _ _ _ _ (ap not told1.2.0) (over_word _ _ _ _ _ (ap not usable2) (over _ _ _ _ _ refl (sym c.is_no_blit_destination.ensures ∙ c.if-is_no_blit_destination.false) (over _ _ _ _ _ refl (ap (λ r. (calls.lacks_room r).0) (sym (c.name-2.ensures.same ∙ c.name.ensures.same)) ∙ sym c.lacks_room.ensures ∙ c.if-lacks_room.false) none_left)))))) (told1.1.1, (again, tt))
    (ap (λ t. t.recorder) c.blit.ensures ∙ ap (λ r. calls.after r (calls.blit (copy_seen c.args.view c.args.copy))) now) (c.draw_number-number.result, c.draw_number-number.ensures.drawn ∙ ap (drawn c.draw_number-number.result) (ap (λ v. v.state.seat) c.self.view_is ∙ (told2.1.0 ∙ ap (asks (place_of_handle c.args.copy.src) told2.0) told1.1.0)))

pub invariant_of-self : goal.invariant_of-self
invariant_of-self c =
    let told1 = c.in_ok-name.ensures.asked in
    let told2 = c.in_ok-name-2.ensures.asked in
    let again = named_again c.args.self.now.state.seat c.name.new.self.state.seat (place_of_handle c.args.copy.dst) told1.0 (place_of_handle c.args.copy.src) c.name-2.new.self.state.seat told2.0 told1.1.0 told2.1 in
    let usable2 = ap (λ r. is_usable_of r told2.0 c.args.copy.src) (sym c.name.ensures.same) ∙ told2.2.0 in
    let k = c.self.invariant in
    let named_before = still_named c.name.new.self.state.seat c.name-2.new.self.state.seat (place_of_handle c.args.copy.src) told2.0 c.args.copy.dst told2.1.0 told1.2.1 in
    let P : EncoderView → Type 0 = λ v. FitsCall (HasNamed v.seat) v.recorder (calls.blit (copy_seen c.args.view c.args.copy)) in
    let fits : P (record { recorder = c.self.inside.tape.recorder; seat = enc_view c.self.inside.seat }) = subst P (ap (λ v. v.state) (sym c.self.view_is)) (below_count c.args.self.now.state.recorder c.name-2.new.self.state.recorder c.args.view (c.name-2.ensures.same ∙ c.name.ensures.same) (sym c.lacks_view.ensures ∙ c.if-lacks_view.false), named_before, told2.2.1, not_false (calls.same_formats (calls.format_of c.args.copy.dst) (calls.format_of c.args.copy.src)) (sym c.differ_in_format.ensures ∙ c.if-differ_in_format.false), not_false (calls.is_blit_destination_in c.args.copy.dst.info) (sym c.is_no_blit_destination.ensures ∙ c.if-is_no_blit_destination.false)) in
    let seat = c.draw_number-number.ensures.drawn in
    (k.0 ∙ ap (λ v. v.encoder) (sym seat), of_item _ _ k.1 _ (calls.blit (copy_seen c.args.view c.args.copy)) _ _ _ c.blit.ensures seat c.draw_number-number.ensures.above refl fits)

-- A call is answered by the end of the context exactly behind the entry that ended it.
use Rattle.std.proofs.Common.{◌≡◌, inl, inr, ⊎_elim, ℕ, Bool, true, false, List, [], ◌∷◌, ◌++◌, sym, refl, ap, ◌∙◌, subst, Option, Some, None}
use Rattle.gfx_model.specs.Resources as model
use Rattle.gfx_model.specs.Resources.{refusal_of, effect}
use Rattle.gfx_model.specs.FrameCalls.{CallState, begin_encoder, end_frame, frame_refusal}
use Rattle.frame_record.specs.declared.frame.Outcome.{Outcome}
use Rattle.res_lock.specs.Histories.{LockCall, on_things, ends_frame, begins, Reply, made, done, given, begun, refused, ending, ended, LockEntry, told_of, IsToldOrRefused, IsFrameReply, IsRunningReply, IsReplyWhere, accepted, after_reply, after_entry, HasReplies}
use Rattle.res_lock.specs.Laws.{IsEndingOf, HasEnding, EndedLaw}

-- ---- a running context

-- what an accepted call tells is no end
abbrev IsNoEnd : Reply → Type 0
IsNoEnd reply = (number : ℕ) → reply ≡ ended number → ⊥

no_end_told : (o : Option model.Refusal) (told reply : Reply) → IsNoEnd told → IsToldOrRefused o told reply → IsNoEnd reply
no_end_told None told reply no_end is number e = no_end number (sym is ∙ e)
no_end_told (Some x) told reply no_end is number e = let both : refused is.0 ≡ ended number = sym is.1 ∙ e in cc both

no_end_frame : (o : Option model.Refusal) (k : ℕ) (reply : Reply) → IsFrameReply o k reply → IsNoEnd reply
no_end_frame None k reply is number e = ⊎_elim
    (λ (g : reply ≡ given k). let both : given k ≡ ended number = sym g ∙ e in cc both)
    (λ g. let both : ending k g.0 ≡ ended number = sym g.1 ∙ e in cc both)
    is
no_end_frame (Some x) k reply is number e = let both : refused is.0 ≡ ended number = sym is.1 ∙ e in cc both

no_end_made : (o : Option _) → IsNoEnd (told_of o)
no_end_made None number e = cc e
no_end_made (Some h) number e = cc e

no_end : (s : CallState) (call : LockCall) (reply : Reply) → IsRunningReply s call reply → IsNoEnd reply
no_end s (on_things c) reply is = no_end_told (refusal_of s.resources c) (told_of (effect s.resources c).made) reply (no_end_made (effect s.resources c).made) is
no_end s ends_frame reply is = no_end_frame (frame_refusal s end_frame) s.resources.frame reply is
no_end s (begins room) reply is = no_end_told (frame_refusal s (begin_encoder room)) (begun s.encoders) reply (λ number e. cc e) is

-- a running context that a call ends has the frame's number
ending_told : (o : Option model.Refusal) (told : Reply) (k : ℕ) (outcome : Outcome) → ((n : ℕ) (x : Outcome) → told ≡ ending n x → ⊥) → IsToldOrRefused o told (ending k outcome) → ⊥
ending_told None told k outcome never is = never k outcome (sym is)
ending_told (Some x) told k outcome never is = let both : ending k outcome ≡ refused is.0 = is.1 in cc both

ending_frame : (o : Option model.Refusal) (n k : ℕ) (outcome : Outcome) → IsFrameReply o n (ending k outcome) → k ≡ n
ending_frame None n k outcome is = ⊎_elim
    (λ (g : ending k outcome ≡ given n). cc g)
    (λ g. let both : ending k outcome ≡ ending n g.0 = g.1 in cc both)
    is
ending_frame (Some x) n k outcome is = let both : ending k outcome ≡ refused is.0 = is.1 in cc both

not_ending_made : (o : Option _) (n : ℕ) (x : Outcome) → told_of o ≡ ending n x → ⊥
not_ending_made None n x e = cc e
not_ending_made (Some h) n x e = cc e

ending_is : (s : CallState) (call : LockCall) (k : ℕ) (outcome : Outcome) → IsRunningReply s call (ending k outcome) → k ≡ s.resources.frame
ending_is s (on_things c) k outcome is = absurd (ending_told (refusal_of s.resources c) (told_of (effect s.resources c).made) k outcome (not_ending_made (effect s.resources c).made) is)
ending_is s ends_frame k outcome is = ending_frame (frame_refusal s end_frame) s.resources.frame k outcome is
ending_is s (begins room) k outcome is = absurd (ending_told (frame_refusal s (begin_encoder room)) (begun s.encoders) k outcome (λ n x e. cc e) is)

accepted_runs : (s : CallState) (call : LockCall) → (accepted s call).is_ended ≡ s.is_ended
accepted_runs s (on_things c) = refl
accepted_runs s ends_frame = refl
accepted_runs s (begins room) = refl

-- ---- an ended context

-- behind an end each reply names it, and no entry ends the context again
ended_all : (s : CallState) (before : List LockEntry) (e : LockEntry) → s.is_ended ≡ true → HasReplies s (before ++ e ∷ []) → (e.reply ≡ ended s.resources.frame) × ((number : ℕ) → HasEnding number before → ⊥)
ended_all s [] e over h = (subst (λ (b : Bool). IsReplyWhere b s e.call e.reply) over h.0, λ number none. none)
ended_all s (x ∷ xs) e over h =
    let is : x.reply ≡ ended s.resources.frame = subst (λ (b : Bool). IsReplyWhere b s x.call x.reply) over h.0 in
    let same : after_entry s x ≡ s = ap (after_reply s x.call) is in
    let rest = ended_all s xs e over (subst (λ (t : CallState). HasReplies t (xs ++ e ∷ [])) same h.1) in (
      rest.0,
      λ number has. ⊎_elim
          (λ g. let both : ended s.resources.frame ≡ ending number g.0 = sym is ∙ g.1 in cc both)
          (rest.1 number)
          has,
    )

-- ---- the law

abbrev Both : List LockEntry → LockEntry → ℕ → Type 0
Both before e number = (e.reply ≡ ended number → HasEnding number before) × (HasEnding number before → e.reply ≡ ended number)

pub ended_law : EndedLaw
ended_law s [] e number runs h = ((λ is. no_end s e.call e.reply (subst (λ (b : Bool). IsReplyWhere b s e.call e.reply) runs h.0) number is), λ none. absurd none)
ended_law s (x ∷ xs) e number runs h = by (λ still. ended_law (after_entry s x) xs e number still h.1) x.reply refl
  where
    -- the entry before does not end the context
    goes_on : ((after_entry s x).is_ended ≡ false → Both xs e number) → (after_entry s x).is_ended ≡ false → (IsEndingOf number x.reply → ⊥) → Both (x ∷ xs) e number
    goes_on rest still none =
        let r = rest still in (
          λ is. inr (r.0 is),
          λ has. ⊎_elim (λ g. absurd (none g)) r.1 has,
        )

    still_runs : (reply : Reply) → x.reply ≡ reply → after_reply s x.call reply ≡ accepted s x.call → (after_entry s x).is_ended ≡ false
    still_runs reply e same = ap (λ r. (after_reply s x.call r).is_ended) e ∙ (ap (λ (t : CallState). t.is_ended) same ∙ (accepted_runs s x.call ∙ runs))

    by : ((after_entry s x).is_ended ≡ false → Both xs e number) → (reply : Reply) → x.reply ≡ reply → Both (x ∷ xs) e number
    by rest (made handle) is = goes_on rest (still_runs (made handle) is refl) (λ g. let both : made handle ≡ ending number g.0 = sym is ∙ g.1 in cc both)
    by rest done is = goes_on rest (still_runs done is refl) (λ g. let both : done ≡ ending number g.0 = sym is ∙ g.1 in cc both)
    by rest (given k) is = goes_on rest (still_runs (given k) is refl) (λ g. let both : given k ≡ ending number g.0 = sym is ∙ g.1 in cc both)
    by rest (begun k) is = goes_on rest (still_runs (begun k) is refl) (λ g. let both : begun k ≡ ending number g.0 = sym is ∙ g.1 in cc both)
    by rest (refused r) is = goes_on rest (ap (λ y. (after_reply s x.call y).is_ended) is ∙ runs) (λ g. let both : refused r ≡ ending number g.0 = sym is ∙ g.1 in cc both)
    by rest (ended k) is = absurd (no_end s x.call x.reply (subst (λ (b : Bool). IsReplyWhere b s x.call x.reply) runs h.0) k is)
    by rest (ending k outcome) is =
        let running : IsRunningReply s x.call (ending k outcome) = subst (λ y. IsRunningReply s x.call y) is (subst (λ (b : Bool). IsReplyWhere b s x.call x.reply) runs h.0) in
        let named : k ≡ s.resources.frame = ending_is s x.call k outcome running in
        let over : (after_entry s x).is_ended ≡ true = ap (λ y. (after_reply s x.call y).is_ended) is in
        let frame : (after_entry s x).resources.frame ≡ s.resources.frame = ap (λ y. (after_reply s x.call y).resources.frame) is in
        let r = ended_all (after_entry s x) xs e over h.1 in
        let told : e.reply ≡ ended k = r.0 ∙ ap ended (frame ∙ sym named) in (
          λ e_is. let both : ended k ≡ ended number = sym told ∙ e_is in let same : k ≡ number = cc both in inl (outcome, is ∙ ap (λ (n : ℕ). ending n outcome) same),
          λ has. ⊎_elim
              (λ g. let both : ending k outcome ≡ ending number g.0 = sym is ∙ g.1 in let same : k ≡ number = cc both in told ∙ ap ended same)
              (λ g. absurd (r.1 number g))
              has,
        )

-- The state behind the lock is kept where a frame ends and where an encoder begins.
use Rattle.std.proofs.Common.{◌≡◌, inl, inr, ℕ, ◌+◌, ◌-◌, ◌==◌, ◌||◌, Bool, true, false, if◌then◌else◌, List, [], ◌∷◌, ◌++◌, sym, refl, ap, ◌∙◌, subst, Option, Some, None, MatchOption, Result, Ok, Err, ◌≤◌, arith, cond, eq-eqb}
use Rattle.std.proofs.lemmas.Option.{none-some}
use Rattle.gfx_model.specs.World.{Item}
use Rattle.gfx_model.specs.Recorder.{Room}
use Rattle.gfx_model.specs.Resources as model
use Rattle.gfx_model.specs.Resources.{start_frame}
use Rattle.gfx_model.specs.FrameCalls as frames
use Rattle.gfx_model.specs.FrameCalls.{CallState, Begun, begin_encoder, end_frame, frame_refusal, frame_effect, backs_at_end, is_given}
use Rattle.gfx_words.specs.declared.refusals.Refusal.{Refusal}
use Rattle.gfx_words.specs.Seen.{refusal_seen}
use Rattle.resource_laws.specs.Bare.{bare_of}
use Rattle.resource_laws.proofs.RunLaws.{bare_started}
use Rattle.resource_book.specs.Written.{BookView}
use Rattle.resource_book.specs.Works.{with_nothing_written}
use Rattle.resource_book.specs.Answered.{IsFirstRefusalOrOutOfMemory}
use Rattle.hold_table.specs.Views.{SeatView, fresh, joined_with}
use Rattle.draw_encoder.specs.declared.items.Recording.{Recording}
use Rattle.draw_encoder.specs.Calls.{EncoderView}
use Rattle.gfx_context.specs.States.{ContextView, state_of}
use Rattle.gfx_context.specs.Kept.{IsContext, IsTied}
use Rattle.gfx_context.specs.Calls as context_calls
use Rattle.gfx_context.specs.Ended.{Gathers, is_shown, is_shown_outcome, started, MakesWay, GivesWhere, Ends, CollectsAndEnds}
use Rattle.gfx_context.specs.declared.report.BackNote.{BackNote}
use Rattle.gfx_context.specs.declared.report.FrameReport.{FrameReport}
use Rattle.res_lock.specs.Histories.{LockCall, ends_frame, begins, Reply, given, begun, refused, ending, LockEntry, IsToldOrRefused, IsFrameReply, IsRunningReply, after_reply, state_after}
use Rattle.res_lock.specs.Written.{written_where, book_after}
use Rattle.res_lock.specs.Seats.{pass_view}
use Rattle.res_lock.specs.Called.{entry_of, reply_of, Begins}
use Rattle.res_lock.specs.Locked.{log_entries, bared, End, end_where, end_in, CameWith, EndedAs, IsKept, IsReport, Adds}
use Rattle.res_lock.specs.declared.log.Log.{Log}
use Rattle.res_lock.specs.declared.table.ResPass.{ResPass}
use Rattle.res_lock.proofs.KeptLaws.{Both, runs_on, entry_kept, running, Refuses, Refused, refused_by}

-- ---- the end of a frame, over states of the calls

or_true : (b : Bool) → (b || true) ≡ true
or_true true = refl
or_true false = refl

-- the reply is the definition's, and the state is that after it
pub record Follows (s : CallState) (call : LockCall) (reply : Reply) (y : CallState) : Type 0 where
  pub replies : IsRunningReply s call reply
  pub state : y ≡ bared (after_reply s call reply)

module _ (s x y : CallState) (same : x ≡ bared s) where
  frame_refusal_is : frame_refusal x end_frame ≡ frame_refusal s end_frame
  frame_refusal_is = ap (λ (z : CallState). frame_refusal z end_frame) same

  frame_is : x.resources.frame ≡ s.resources.frame
  frame_is = ap (λ (z : CallState). z.resources.frame) same

  not_refused : (number : ℕ) (reply : Reply) → frame_refusal x end_frame ≡ None → IsFrameReply None number reply → IsFrameReply (frame_refusal s end_frame) number reply
  not_refused number reply e is = subst (λ (o : Option model.Refusal). IsFrameReply o number reply) (sym (sym frame_refusal_is ∙ e)) is

  given_state : y ≡ frames.given x → y ≡ bared (frames.given s)
  given_state e = e ∙ (ap frames.given same ∙ ap (λ r. record (frames.given s) { resources = r }) (bare_started s.resources (s.resources.frame + 1)))

  ended_state : y ≡ frames.ended x → y ≡ bared (frames.ended s)
  ended_state e = e ∙ ap frames.ended same

  or_false : (a b : Bool) → (a || b) ≡ false → b ≡ false
  or_false true b e = cc e
  or_false false b e = e

  pub report_follows : (is_in : Bool) (back : Option BackNote) (number : ℕ) → number ≡ x.resources.frame → frame_refusal x end_frame ≡ None → is_in ≡ is_given (is_shown back) x → y ≡ (frame_effect (is_shown back) x end_frame).after
      → Follows s ends_frame (reply_of is_in number back) y
  report_follows true back number is accepted e state = record {
    replies = not_refused s.resources.frame (given number) accepted (inl (ap given (is ∙ frame_is)));
    state = given_state (state ∙ ap (λ (b : Bool). if b then frames.given x else frames.ended x) (sym e));
  }
  report_follows false None number is accepted e state = let no_way : false ≡ true = e ∙ or_true (backs_at_end x == 0) in cc no_way
  report_follows false (Some note) number is accepted e state = record {
    replies = not_refused s.resources.frame (ending number note.outcome) accepted (inr (note.outcome, ap (λ (n : ℕ). ending n note.outcome) (is ∙ frame_is), or_false (backs_at_end x == 0) (is_shown_outcome note.outcome) (sym e)));
    state = ended_state (state ∙ ap (λ (b : Bool). if b then frames.given x else frames.ended x) (sym e));
  }

-- ---- what is written

end_as : {L : Type 0} (b : BookView) (c d : ContextView L) → c.book ≡ b → (report : FrameReport) → Ends report c d → d.book ≡ written_where b ends_frame (reply_of report.given report.number report.back)
end_as b c d has report m = by report.given report.back m.given m.gives
  where
    by : (is_in : Bool) (back : Option BackNote) → is_in ≡ is_given (is_shown back) (state_of c) → GivesWhere is_in c d → d.book ≡ written_where b ends_frame (reply_of is_in report.number back)
    by true back is g = ap (λ v. v.book) g.same ∙ ap started has
    by false None is g = let no_way : false ≡ true = is ∙ or_true (backs_at_end (state_of c) == 0) in cc no_way
    by false (Some note) is g = ap (λ v. v.book) g ∙ ap with_nothing_written has

-- ---- how a context was ended

-- where the oldest frame came back, one fewer is out
ended_out : (x : CallState) → 1 ≤ x.resources.latency → x.out ≡ x.resources.latency → (frames.ended x).out + 1 ≡ x.out
ended_out x some full =
    let one : backs_at_end x ≡ 1 = ap (λ (b : Bool). if b then 1 else 0) (eq-eqb x.out x.resources.latency full) in
    omega arith

end_told : {L : Type 0} (s : CallState) (o : Option End) (c d : ContextView L) → c.is_ended ≡ false → EndedAs o c → 1 ≤ c.book.resources.latency → c.out ≡ s.out → (report : FrameReport) → Ends report c d → EndedAs (end_where s o (reply_of report.given report.number report.back)) d
end_told s o c d runs told some out report m = by report.given report.back m.given m.gives m.back m.state
  where
    by : (is_in : Bool) (back : Option BackNote) → is_in ≡ is_given (is_shown back) (state_of c) → GivesWhere is_in c d → MakesWay back c d.back → state_of d ≡ (frame_effect (is_shown back) (state_of c) end_frame).after → EndedAs (end_where s o (reply_of is_in report.number back)) d
    by true back is g way state = runs_on o c d runs (ap (λ (z : CallState). z.is_ended) (state ∙ ap (λ (t : Bool). if t then frames.given (state_of c) else frames.ended (state_of c)) (sym is)) ∙ runs) told
    by false None is g way state = let no_way : false ≡ true = is ∙ or_true (backs_at_end (state_of c) == 0) in cc no_way
    by false (Some note) is g way state =
        let left : d.out ≡ (frames.ended (state_of c)).out = ap (λ (z : CallState). z.out) (state ∙ ap (λ (t : Bool). if t then frames.given (state_of c) else frames.ended (state_of c)) (sym is)) in
        let fewer : d.out + 1 ≡ s.out = ap (λ (n : ℕ). n + 1) left ∙ (ended_out (state_of c) some way.0 ∙ out) in
        let came : CameWith note.outcome d.back = record { before = c.back; newest = way.1.rendered; last = way.1.oldest.back; same = sym (ap (λ (n : BackNote). n.outcome) way.1.note) } in
        (ap (λ v. v.is_ended) g, (came, fewer))

-- ---- bundles are gathered

ended_still : {L : Type 0} (o : Option End) (c : ContextView L) (seat : SeatView) (rs : List Recording) → EndedAs o c → EndedAs o (record c { seat = seat; gathered = rs })
ended_still None c seat rs e = e
ended_still (Some x) c seat rs e = e

-- the history tells nothing of it
with_gathers : {L : Type 0} (start : CallState) (book : BookView) (c : ContextView L) (h : List LockEntry) → IsKept start book (record { context = c; history = h }) → (seat : SeatView) (rs : List Recording) (d : ContextView L) → d ≡ record c { seat = seat; gathered = rs }
    → IsKept start book (record { context = d; history = h })
with_gathers start book c h k seat rs d after = subst (λ (x : ContextView _). IsKept start book (record { context = x; history = h })) (sym after) (record {
  legal = k.legal;
  same = k.same;
  written = k.written;
  told = ended_still (end_in start h) c seat rs k.told;
})

pub gathered_kept : {L : Type 0} (start : CallState) (book : BookView) (c : ContextView L) (h : List LockEntry) → IsKept start book (record { context = c; history = h }) → (r : Recording) (seat : SeatView) (d : ContextView L) → Gathers r seat c d
    → IsKept start book (record { context = d; history = h })
gathered_kept start book c h k r seat d g = with_gathers start book c h k (joined_with c.seat seat) (c.gathered ++ r ∷ []) d g.after

-- ---- entries

module _ {L : Type 0} {book : BookView} (start : CallState) (c : ContextView L) (h : List LockEntry) (k : IsKept start book (record { context = c; history = h })) (old new : Log) (p q : ResPass) (log_same : log_entries old ≡ h) where
  pub framed_kept : {admits : ℕ → ℕ → List Item → ℕ → Type 0} {views : ℕ} → c.is_ended ≡ false → 1 ≤ c.book.resources.latency → (report : FrameReport) (d : ContextView L) (reply : Reply) → reply ≡ reply_of report.given report.number report.back
      → CollectsAndEnds admits views (Ok report) c d → Adds ends_frame reply old new p q → Both start book d ends_frame (reply_of report.given report.number report.back) new p q h
  framed_kept runs some report d reply told m a =
      let told_as : Reply = reply_of report.given report.number report.back in
      let mid : ContextView L = m.collected in
      let going : mid.is_ended ≡ false = ap (λ v. v.is_ended) m.collects.same ∙ runs in
      let kept : IsKept start book (record { context = mid; history = h }) = with_gathers start book c h k mid.seat mid.gathered mid m.collects.same in
      let f = report_follows (state_after start h) (state_of mid) (state_of d) kept.same report.given report.back report.number m.ends.number m.ends.accepted m.ends.given m.ends.state in
      entry_kept start c h k old new p q log_same d ends_frame told_as (subst (λ (x : Reply). Adds ends_frame x old new p q) told a) (running start c h k old new p q log_same runs ends_frame told_as f.replies) f.state
      (end_as (book_after book h) mid d kept.written report m.ends)
      (end_told (state_after start h) (end_in start h) mid d going kept.told (subst (λ v. 1 ≤ v.book.resources.latency) (sym m.collects.same) some) (ap (λ (z : CallState). z.out) kept.same) report m.ends)

  pub reported : {admits : ℕ → ℕ → List Item → ℕ → Type 0} {views : ℕ} → c.is_ended ≡ false → IsContext admits views c → (report : FrameReport) (d : ContextView L) (reply : Reply) → reply ≡ reply_of report.given report.number report.back
      → CollectsAndEnds admits views (Ok report) c d → Adds ends_frame reply old new p q → IsReport L admits views start book report (pass_view q).seen
  reported runs keeps report d reply told m a =
      let b = framed_kept runs keeps.latency.0 report d reply told m a in
      let seen : (pass_view q).seen ≡ log_entries new = ap (λ u. u.seen) a.view in
      record {
        before = h;
        entry = entry_of ends_frame reply p;
        last = seen ∙ (a.entries ∙ ap (λ l. l ++ entry_of ends_frame reply p ∷ []) log_same);
        old = c;
        new = d;
        kept_before = k;
        runs = runs;
        keeps = keeps;
        ends = m;
        kept = subst (λ l. IsKept start book (record { context = d; history = l })) (sym seen) b.kept;
      }

  -- a frame that is refused: its bundles stand as collected
  pub frame_refused : {admits : ℕ → ℕ → List Item → ℕ → Type 0} {views : ℕ} → c.is_ended ≡ false → (r : Refusal) (d : ContextView L) → CollectsAndEnds admits views (Err r) c d → Refuses start c h k old new p q log_same ends_frame r (refusal_seen r)
      → Refused start c h k old new p q log_same d ends_frame r (refusal_seen r)
  frame_refused runs r d m a = let b = by (refusal_seen r) refl m.ends.0 a in record { kept = b.kept; answer = b.answer }
    where
      mid : ContextView L
      mid = m.collected

      held : IsKept start book (record { context = mid; history = h })
      held = with_gathers start book c h k mid.seat mid.gathered mid m.collects.same

      s : CallState
      s = state_after start h

      is_refused : (x : model.Refusal) → refusal_seen r ≡ Some x → frame_refusal (state_of mid) end_frame ≡ Some x → IsFrameReply (frame_refusal s end_frame) s.resources.frame (refused r)
      is_refused x seen first = subst (λ (o : Option model.Refusal). IsFrameReply o s.resources.frame (refused r)) (sym first ∙ ap (λ (z : CallState). frame_refusal z end_frame) held.same) (r, refl, seen)

      by : (o : Option model.Refusal) → refusal_seen r ≡ o → MatchOption o (frame_refusal (state_of mid) end_frame ≡ None) (λ x. frame_refusal (state_of mid) end_frame ≡ Some x) → Refuses start mid h held old new p q log_same ends_frame r o → Refused start mid h held old new p q log_same d ends_frame r o
      by None seen first a = refused_by start mid h held old new p q log_same d m.ends.1 ends_frame r None (λ x e. absurd (none-some x e)) a
      by (Some x) seen first a = refused_by start mid h held old new p q log_same d m.ends.1 ends_frame r (Some x) (λ y e. running start mid h held old new p q log_same (ap (λ v. v.is_ended) m.collects.same ∙ runs) ends_frame (refused r) (is_refused x seen first)) a

  begin_refusal_is : (room : Room) → frame_refusal (state_of c) (begin_encoder room) ≡ frame_refusal (state_after start h) (begin_encoder room)
  begin_refusal_is room = ap (λ (z : CallState). frame_refusal z (begin_encoder room)) k.same

  number_is : (a b : Begun) → Some a ≡ Some b → a.encoder ≡ b.encoder
  number_is a b e = cc e

  -- what an encoder that begins tells
  pub record Begun_kept (d : ContextView L) (room : Room) (e : EncoderView) : Type 0 where
    pub kept : IsKept start book (record { context = d; history = log_entries new })
    pub begins_here : Begins start room e p q

  pub begun_kept : {admits : ℕ → ℕ → List Item → ℕ → Type 0} {views : ℕ} → IsContext admits views c → c.is_ended ≡ false → (room : Room) (e : EncoderView) (number : ℕ) (d : ContextView L) → number ≡ e.seat.encoder → context_calls.Begins room e c d → Adds (begins room) (begun number) old new p q → Begun_kept d room e
  begun_kept keeps runs room e number d is m a =
      let s : CallState = state_after start h in
      let made : (frame_effect true s (begin_encoder room)).made ≡ Some (record { encoder = e.seat.encoder; recorder = e.recorder }) = sym (ap (λ (z : CallState). (frame_effect true z (begin_encoder room)).made) k.same) ∙ m.made in
      let named : s.encoders ≡ e.seat.encoder = number_is _ _ made in
      let reply : IsToldOrRefused (frame_refusal s (begin_encoder room)) (begun s.encoders) (begun e.seat.encoder) = subst (λ (o : Option model.Refusal). IsToldOrRefused o (begun s.encoders) (begun e.seat.encoder)) (sym (sym (begin_refusal_is room) ∙ m.accepted)) (ap begun (sym named)) in
      let state : state_of d ≡ bared (frame_effect true s (begin_encoder room)).after = m.state ∙ ap (λ (z : CallState). record z { encoders = z.encoders + 1 }) k.same in
      let b = entry_kept start c h k old new p q log_same d (begins room) (begun e.seat.encoder) (subst (λ (n : ℕ). Adds (begins room) (begun n) old new p q) is a) (running start c h k old new p q log_same runs (begins room) (begun e.seat.encoder) reply) state
      (ap (λ v. v.book) m.after ∙ k.written)
      (runs_on (end_in start h) c d runs (ap (λ v. v.is_ended) m.after ∙ runs) k.told) in
      let frame : e.seat.frame ≡ s.resources.frame = ap (λ (v : SeatView). v.frame) m.seat ∙ (sym keeps.tied.frame ∙ ap (λ (z : CallState). z.resources.frame) k.same) in
      record {
        kept = b.kept;
        begins_here = record {
          calls = b.calls;
          encoder = subst (λ l. (frame_effect true (state_after start l) (begin_encoder room)).made ≡ Some (record { encoder = e.seat.encoder; recorder = e.recorder })) (sym b.before_is) made;
          frame = frame ∙ ap (λ l. (state_after start l).resources.frame) (sym b.before_is);
          seat = (
            c.seat,
            m.seat ∙ ap (λ (n : ℕ). fresh n c.seat) (sym (ap (λ (v : SeatView). v.encoder) m.seat)),
            subst (λ (r : model.Resources). IsTied r c.seat) (ap (λ (z : CallState). z.resources) k.same ∙ ap (λ l. bare_of (state_after start l).resources) (sym b.before_is)) keeps.tied,
          );
        };
      }

  pub begin_refused : c.is_ended ≡ false → (room : Room) (r : Refusal) (d : ContextView L) → IsFirstRefusalOrOutOfMemory (frame_refusal (state_of c) (begin_encoder room)) r × (d ≡ c) → Refuses start c h k old new p q log_same (begins room) r (refusal_seen r) → Refused start c h k old new p q log_same d (begins room) r (refusal_seen r)
  begin_refused runs room r d m a = by (refusal_seen r) refl m.0 a
    where
      by : (o : Option model.Refusal) → refusal_seen r ≡ o → MatchOption o (frame_refusal (state_of c) (begin_encoder room) ≡ None) (λ x. frame_refusal (state_of c) (begin_encoder room) ≡ Some x) → Refuses start c h k old new p q log_same (begins room) r o → Refused start c h k old new p q log_same d (begins room) r o
      by None seen first a = refused_by start c h k old new p q log_same d m.1 (begins room) r None (λ x e. absurd (none-some x e)) a
      by (Some x) seen first a = refused_by start c h k old new p q log_same d m.1 (begins room) r (Some x) (λ y e. running start c h k old new p q log_same runs (begins room) (refused r) (subst (λ (o : Option model.Refusal). IsToldOrRefused o (begun (state_after start h).encoders) (refused r)) (sym (sym (begin_refusal_is room) ∙ first)) (r, refl, seen))) a

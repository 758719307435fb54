-- The end of a frame, from its parts.
use Rattle.std.proofs.Common.{◌≡◌, ℕ, suc, ◌+◌, ◌-◌, ◌==◌, nat_le, Bool, true, false, ◌||◌, List, [], ◌∷◌, ◌++◌, map, Option, Some, None, MatchOption, if◌then◌else◌, refl, sym, ap, ◌∙◌, subst, arith, eq-eqb, ne_eqb}
use Rattle.std.proofs.lemmas.Option.{none-some}
use Rattle.gfx_model.specs.Frames.{collected}
use Rattle.gfx_model.specs.Resources as model
use Rattle.gfx_model.specs.FrameCalls.{greatest_frame, end_frame, frame_refusal, backs_at_end, is_given, given, ended}
use Rattle.resource_book.specs.Works.{with_nothing_written}
use Rattle.frame_record.specs.declared.frame.RenderedFrame.{RenderedFrame}
use Rattle.frame_record.specs.Seen.{entry_seen, recordings_seen}
use Rattle.gfx_context.specs.declared.report.BackNote.{BackNote}
use Rattle.gfx_context.specs.declared.report.FrameReport.{FrameReport}
use Rattle.context_core.specs.declared.ending.Prepared.{Prepared}
use Rattle.context_core.specs.Ended.{IsPrepared, started}
use Rattle.context_core.specs.Ended as cores
use Rattle.context_core.specs.States.{CoreView}
use Rattle.frame_record.specs.declared.frame.Frame.{Frame}
use Rattle.resource_book.specs.declared.frames.Work.{Work}
use Rattle.context_core.specs.Gathered.{dropped_in}
use Rattle.gfx_context.specs.States.{ContextView, context_of, state_of}
use Rattle.gfx_context.specs.Ended.{is_shown, MakesWay, FinishesWhere, with_written, GivesWhere, Ends}
use Rattle.gfx_context.proofs.Entries.{length_journal}

-- what is known of the report before a frame is given or not
pub record IsReport {L : Type 0} (report : FrameReport) (old : ContextView L) : Type 0 where
  pub number : report.number ≡ old.book.resources.frame
  pub journal : map entry_seen report.journal.items ≡ collected (recordings_seen old.gathered)
  pub dropped : report.dropped ≡ dropped_in old.gathered
  pub given : report.given ≡ is_shown report.back

-- the state before a frame is given or not
abbrev pub made_way : {L : Type 0} → (old : ContextView L) (out : ℕ) (back : List RenderedFrame) (link : L) → ContextView L
made_way old out back link = record old { book = with_nothing_written old.book; out = out; back = back; link = link }

abbrev pub IsLess : Option BackNote → (out old : ℕ) → Type 0
IsLess note out old = MatchOption note (out ≡ old) (λ n. out + 1 ≡ old)

module _ {L : Type 0} (old : ContextView L) (out : ℕ) (back : List RenderedFrame) (link : L) where
  backs : (note : Option BackNote) → MakesWay note old back → IsLess note out old.out → out + backs_at_end (state_of old) ≡ old.out
  backs None w l = (let n : backs_at_end (state_of old) ≡ 0 = ap (λ (b : Bool). if b then 1 else 0) (ne_eqb old.out old.book.resources.latency (λ e. let lt = w.0 in omega arith)) in omega arith)
  backs (Some n) w l = (let n : backs_at_end (state_of old) ≡ suc 0 = ap (λ (b : Bool). if b then 1 else 0) (eq-eqb old.out old.book.resources.latency w.0) in omega arith)

  not_shown : (note : Option BackNote) → MakesWay note old back → is_shown note ≡ false → backs_at_end (state_of old) ≡ suc 0
  not_shown None w f = absurd cc
  not_shown (Some n) w f = ap (λ (b : Bool). if b then 1 else 0) (eq-eqb old.out old.book.resources.latency w.0)

  or_true : (b : Bool) → b || true ≡ true
  or_true true = refl
  or_true false = refl

  given_where : (note : Option BackNote) → MakesWay note old back → (b : Bool) → is_shown note ≡ b → is_given (is_shown note) (state_of old) ≡ b
  given_where o w true s = ap (λ (b : Bool). (backs_at_end (state_of old) == 0) || b) s ∙ or_true (backs_at_end (state_of old) == 0)
  given_where o w false s = (λ j. (not_shown o w s j == 0) || s j)

  accepts : nat_le greatest_frame old.book.resources.frame ≡ false → frame_refusal (state_of old) end_frame ≡ None
  accepts f = ap (λ (b : Bool). if b then Some model.frames_spent else None) f

  module _ (report : FrameReport) (r : IsReport report old) (spent : nat_le greatest_frame old.book.resources.frame ≡ false) (way : MakesWay report.back old back) (less : IsLess report.back out old.out) where
    pub ends_given : (p : Prepared) (new : ContextView L) → IsPrepared old.book old.gathered p → report.given ≡ true → FinishesWhere true p.work (made_way old out back link) new → Ends report old new
    ends_given p new prep told w =
        let shown : is_shown report.back ≡ true = sym r.given ∙ told in
        let is = given_where report.back way true shown in
        let b = backs report.back way less in
        let more = w.1 in
        let count : new.out ≡ old.out + 1 - backs_at_end (state_of old) = omega arith in
        let g = w.0 in
        let f = g.is_of in
        record {
          accepted = accepts spent;
          number = r.number;
          journal = r.journal;
          many = length_journal report.journal.items old.gathered r.journal;
          dropped = r.dropped;
          back = subst (MakesWay report.back old) (sym w.2) way;
          given = told ∙ sym is;
          state = ap state_of g.same ∙ (λ j. record (given (state_of old)) { out = count j }) ∙ ap (λ (b : Bool). if b then given (state_of old) else ended (state_of old)) (sym is);
          gives = subst (λ (b : Bool). GivesWhere b old new) (sym told) (record {
            frame = g.frame;
            given = g.given;
            is_of = record {
              number = f.number;
              views = f.views;
              pre = f.pre ∙ prep.work.pre;
              post = f.post ∙ prep.work.post;
              payloads = f.payloads ∙ prep.work.payloads;
              recordings = f.recordings;
              journal = f.journal;
            };
            drawn = g.drawn;
            numbered = g.numbered;
            seat = g.seat;
            same = g.same;
          });
        }

    pub ends_not_given : report.given ≡ false → Ends report old (record (made_way old out back link) { is_ended = true })
    ends_not_given told =
        let shown : is_shown report.back ≡ false = sym r.given ∙ told in
        let is = given_where report.back way false shown in
        let b = backs report.back way less in
        let count : out ≡ old.out - backs_at_end (state_of old) = omega arith in
        record {
          accepted = accepts spent;
          number = r.number;
          journal = r.journal;
          many = length_journal report.journal.items old.gathered r.journal;
          dropped = r.dropped;
          back = way;
          given = told ∙ sym is;
          state = (λ j. record (ended (state_of old)) { out = count j }) ∙ ap (λ (b : Bool). if b then given (state_of old) else ended (state_of old)) (sym is);
          gives = subst (λ (b : Bool). GivesWhere b old (record (made_way old out back link) { is_ended = true })) (sym told) refl;
        }

-- the parts of the end of a frame: the work is taken, way is made, and the frame is given or not
module _ {L : Type 0} (v one two three : ContextView L) (p : Prepared) (report : FrameReport) (r : IsReport report v) (spent : nat_le greatest_frame v.book.resources.frame ≡ false)
    (after : one ≡ record v { book = with_nothing_written v.book }) (prep : IsPrepared v.book v.gathered p) (way : MakesWay report.back one two.back) (less : IsLess report.back two.out one.out)
    (same : two ≡ record one { out = two.out; back = two.back; link = two.link }) where
  two_is : two ≡ made_way v two.out two.back two.link
  two_is = same ∙ (λ j. record (after j) { out = two.out; back = two.back; link = two.link })

  way_is : MakesWay report.back v two.back
  way_is = subst (λ (x : ContextView L). MakesWay report.back x two.back) after way

  less_is : IsLess report.back two.out v.out
  less_is = subst (λ (x : ContextView L). IsLess report.back two.out x.out) after less

  ends_by : (given : Bool) → report.given ≡ given → FinishesWhere given p.work two three → Ends report v three
  ends_by true e f = ends_given v two.out two.back two.link report r spent way_is less_is p three prep e (subst (λ (t : ContextView L). FinishesWhere true p.work t three) two_is f)
  ends_by false e f = subst (Ends report v) (sym (f ∙ ap (λ (t : ContextView L). record t { is_ended = true }) two_is)) (ends_not_given v two.out two.back two.link report r spent way_is less_is e)

  pub ends_told : FinishesWhere report.given p.work two three → (old : ContextView L) → v ≡ old → Ends report old three
  ends_told f old e = subst (λ (o : ContextView L). Ends report o three) e (ends_by report.given refl f)

refused_by : (b : Bool) → (if b then Some model.frames_spent else None) ≡ None → b ≡ false
refused_by true e = absurd (none-some model.frames_spent (sym e))
refused_by false e = refl

-- an end that is not refused
pub not_spent : {L : Type 0} (v : ContextView L) → frame_refusal (state_of v) end_frame ≡ None → nat_le greatest_frame v.book.resources.frame ≡ false
not_spent v e = refused_by (nat_le greatest_frame v.book.resources.frame) e

-- ---- whether the core made a frame

pub made_none : (given : Bool) (work : Work) (o : Option Frame) (a b : CoreView) → o ≡ None → cores.Finishes given work o a b → (given ≡ false) × (b ≡ cores.ended_core a)
made_none given work o a b is f = subst (λ (x : Option Frame). cores.Finishes given work x a b) is f

pub made_some : (given : Bool) (work : Work) (o : Option Frame) (frame : Frame) (a b : CoreView) → o ≡ Some frame → cores.Finishes given work o a b → (given ≡ true) × cores.MakesFrame work frame a b
made_some given work o frame a b is f = subst (λ (x : Option Frame). cores.Finishes given work x a b) is f

module _ {L : Type 0} (given : Bool) (work : Work) (a b : CoreView) (old : ContextView L) where
  -- the context is ended
  pub finishes_none : (gone : List Frame) (back : List RenderedFrame) (link : L) → (given ≡ false) × (b ≡ cores.ended_core a) → context_of a.state gone back link ≡ old → FinishesWhere given work old (context_of b.state gone back link)
  finishes_none gone back link f e = subst (λ (x : Bool). FinishesWhere x work old (context_of b.state gone back link)) (sym f.0)
      (ap (λ (c : CoreView). context_of c.state gone back link) f.1 ∙ ap (λ (o : ContextView L). record o { is_ended = true }) e)

  -- the frame that the core made is given
  pub finishes_some : (frame : Frame) (gone now : List Frame) (back new : List RenderedFrame) (link later : L) → (given ≡ true) × cores.Gives work frame a b → now ≡ gone ++ frame ∷ [] → new ≡ back → context_of a.state gone back link ≡ old
      → FinishesWhere given work old (context_of b.state now new later)
  finishes_some frame gone now back new link later f is same e = subst (λ (x : Bool). FinishesWhere x work old (context_of b.state now new later)) (sym f.0)
      (subst (λ (o : ContextView L). FinishesWhere true work o (context_of b.state now new later)) e (
        record {
          frame = frame;
          given = is;
          is_of = f.1.is_of;
          drawn = f.1.numbers;
          numbered = f.1.numbered;
          seat = f.1.seat;
          same = ap (λ (c : CoreView). context_of c.state now new later) f.1.same ∙ out;
        },
        ap (λ (c : CoreView). c.state.out) f.1.same,
        same,
      )) where
        out : context_of (record a.state { book = started a.state.book; seat = b.state.seat; begun = 0; gathered = []; last = cores.gathering_of a.state; is_given = false; out = a.state.out + 1 }) now new later
            ≡ record (with_written work (context_of a.state gone back link)) { book = started a.state.book; seat = b.state.seat; begun = 0; gathered = []; last = cores.gathering_of a.state; out = b.state.out; given = now; back = new; link = later }
        out = λ j. context_of (record a.state { book = started a.state.book; seat = b.state.seat; begun = 0; gathered = []; last = cores.gathering_of a.state; is_given = false; out = sym (ap (λ (c : CoreView). c.state.out) f.1.same) j }) now new later

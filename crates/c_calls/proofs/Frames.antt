-- The end of a frame, step by step.
use Rattle.std.proofs.Common.{◌≡◌, ℕ, ◌+◌, ◌-◌, ◌<◌, ◌≤◌, ◌==◌, inr, Bool, true, false, if◌then◌else◌, List, [], ◌∷◌, map, length, drop, ◌++◌, Option, Some, None, Result, Ok, Err, refl, sym, ap, ◌∙◌, subst, arith}
use Rattle.std.proofs.lemmas.Bool.{eqb-true}
use Rattle.std.proofs.lemmas.List.{length-map}
use Rattle.gfx_model.specs.Frames.{collected}
use Rattle.gfx_model.specs.FrameCalls.{end_frame, frame_refusal}
use Rattle.gfx_model.specs.Views.{view_count}
use Rattle.gfx_model.specs.Resources.{with_live_target}
use Rattle.atomic_table.specs.Seated.{TableId}
use Rattle.resource_book.specs.declared.frames.Work.{Work}
use Rattle.frame_record.specs.declared.frame.Frame.{Frame}
use Rattle.frame_record.specs.declared.frame.Outcome.{Outcome}
use Rattle.frame_record.specs.declared.frame.Outcome.TheVariants as outcomes
use Rattle.frame_record.specs.declared.frame.RenderedFrame.{RenderedFrame}
use Rattle.frame_record.specs.Seen.{entry_seen, recordings_seen}
use Rattle.context_core.specs.Ended.{IsReady, Finishes, Gives}
use Rattle.context_core.specs.Ended as cores
use Rattle.context_core.specs.States.{CoreView, state_of, frames_end}
use Rattle.context_core.specs.declared.ending.Prepared.{Prepared}
use Rattle.render_core.specs.Outcomes.{is_shown}
use Rattle.render_core.specs.Rendered.{Rendering}
use Rattle.render_core.specs.Shown.{HeldAfter}
use Rattle.c_words.specs.declared.faults.Fault.{Fault}
use Rattle.c_calls.specs.declared.frame.Framed.{Framed}
use Rattle.c_calls.specs.Calls.{is_over}
use Rattle.c_calls.specs.Standings.{is_open, stands}
use Rattle.c_calls.specs.Frames.{Shows, HandsOut, Delivers, IsDelivered, IsMade, IsTold, Tells, FramesSeen, FramesUnseen, FramesInto, came_back, emptied, picture_of}
use Rattle.c_calls.specs.Views.{ContextView, IsOn}

-- ---- what the preparation told holds still

module _ (p : Prepared) (mid now : CoreView) (r : IsReady p mid now) where
  pub none_off : now.state.seat.off ≡ []
  none_off = ap (λ (c : CoreView). c.state.seat.off) r.after ∙ r.none_off

  pub accepted : frame_refusal (state_of now.state) end_frame ≡ None
  accepted = subst (λ (c : CoreView). frame_refusal (state_of c.state) end_frame ≡ None) (sym r.after) r.accepted

  pub taken : (now.state.book.pre ≡ []) × (now.state.book.post ≡ []) × (now.state.book.payloads ≡ [])
  taken = (ap (λ (c : CoreView). c.state.book.pre) r.after, ap (λ (c : CoreView). c.state.book.post) r.after, ap (λ (c : CoreView). c.state.book.payloads) r.after)

  pub same_views : p.work.views ≡ now.state.book.resources.views
  same_views = r.prepared.work.views ∙ sym (ap (λ (c : CoreView). c.state.book.resources.views) r.after)

  pub same_journal : map entry_seen p.journal.items ≡ collected (recordings_seen now.state.gathered)
  same_journal = r.prepared.journal ∙ sym (ap (λ (c : CoreView). collected (recordings_seen c.state.gathered)) r.after)

-- ---- the core makes a frame

pub made_some : (work : Work) (o : Option Frame) (f : Frame) (a b : CoreView) → o ≡ Some f → Finishes true work o a b → cores.MakesFrame work f a b
made_some work o f a b is m = (subst (λ (x : Option Frame). Finishes true work x a b) is m).1

pub made_none : (work : Work) (o : Option Frame) (a b : CoreView) → o ≡ None → Finishes true work o a b → ⊥
made_none work o a b is m = absurd (cc (subst (λ (x : Option Frame). Finishes true work x a b) is m).0)

module _ (work : Work) (f : Frame) (now made : CoreView) (none : now.state.out ≡ 0) (g : Gives work f now made) where
  pub one_out : made.state.out ≡ now.state.out + 1
  one_out = ap (λ (c : CoreView). c.state.out) g.same

  pub some_out : 0 < made.state.out
  some_out = let n = one_out in omega (arith, n)

  -- it is the oldest that is out, since no other is
  pub is_oldest : f.number + made.state.out ≡ frames_end made.state
  is_oldest =
      let n = one_out in
      let number = g.is_of.number in
      let next : made.state.book.resources.frame ≡ now.state.book.resources.frame + 1 = ap (λ (c : CoreView). c.state.book.resources.frame) g.same in
      let oldest : f.number + made.state.out ≡ made.state.book.resources.frame = omega (arith, n, number, next, none) in
      oldest ∙ sym (ap (λ (b : Bool). if b then made.state.book.resources.frame + 1 else made.state.book.resources.frame) (ap (λ (c : CoreView). c.state.is_given) g.same))

  none_left : made.state.out - 1 ≡ 0
  none_left = let n = one_out in omega (arith, n, none)

  -- the frame came back at once
  pub back : (new : CoreView) → new ≡ record made { state = record made.state { out = made.state.out - 1 } } → new ≡ came_back made
  back new e = e ∙ (λ j. record made { state = record made.state { out = none_left j } })

module _ {t : TableId} {now : CoreView} (o : IsOn t now) (work : Work) (f : Frame) (made new : CoreView) (g : Gives work f now made) (e : new ≡ came_back made) where
  pub on_finished : IsOn t new
  on_finished = record {
    table_is = ap (λ (c : CoreView). c.table) e ∙ ap (λ (c : CoreView). c.table) g.same ∙ o.table_is;
    views_are = ap (λ (c : CoreView). view_count c.state.book.resources.views) e ∙ ap (λ (c : CoreView). view_count c.state.book.resources.views) g.same
        ∙ length-map now.state.book.resources.views.settings (with_live_target now.state.book.resources) ∙ o.views_are;
    none_out = ap (λ (c : CoreView). c.state.out) e;
    none_given = ap (λ (c : CoreView). c.state.is_given) e ∙ ap (λ (c : CoreView). c.state.is_given) g.same;
    runs = ap (λ (c : CoreView). c.state.is_ended) e ∙ ap (λ (c : CoreView). c.state.is_ended) g.same ∙ o.runs;
  }

-- ---- a frame is rendered

-- what was shown is all that the emptied sink holds
pub shown_held : (o : Outcome) (text : List ℕ) (held : Option (List ℕ)) → is_shown o ≡ true → HeldAfter o text (Some []) held → held ≡ Some text
shown_held outcomes.Shown text held s h = h
shown_held outcomes.PictureFault text held s h = absurd (cc s)
shown_held outcomes.OutOfMemory text held s h = absurd (cc s)
shown_held outcomes.Skipped text held s h = absurd (cc s)

-- a context is open after a frame only where that was shown
shown_where_open : (b : Bool) → is_open (stands b) ≡ true → b ≡ true
shown_where_open true e = refl
shown_where_open false e = e

-- the picture is handed out
pub handed : (f : Frame) (old new : ContextView) (n : ℕ) (before after : List ℕ) → Shows f old new → is_open new.standing ≡ true → HandsOut new.renderer.held n before after
    → (n ≡ length (picture_of new)) × (n ≤ length before) × (after ≡ picture_of new ++ drop n before)
handed f old new n before after s shown out =
    let r : RenderedFrame = s.0 in
    let is : is_shown r.outcome ≡ true = shown_where_open (is_shown r.outcome) (sym (ap (λ (c : ContextView). is_open c.standing) s.3) ∙ shown) in
    subst (λ (h : Option (List ℕ)). HandsOut h n before after) (shown_held r.outcome (picture_of new) new.renderer.held is s.2.held) out

-- the room of a sink stays
pub same_most : (a b : ℕ) → Some a ≡ Some b → a ≡ b
same_most a b e = cc e

-- a renderer with an empty sink is as emptied
pub emptied_is : (a old : Rendering) → a.stores ≡ old.stores → a.outcomes ≡ old.outcomes → a.held ≡ Some [] → a.tally ≡ old.tally → a.faults ≡ 0 → a.sure ≡ old.sure → a ≡ emptied old
emptied_is a old stores outcomes held tally faults sure j = record { stores = stores j; outcomes = outcomes j; held = held j; tally = tally j; faults = faults j; sure = sure j }

-- ---- a frame ends

-- a frame that was made and rendered is delivered, or not
module _ (frame : Frame) (dropped : ℕ) (before after : List ℕ) (old mid new : ContextView) (runs : is_over old ≡ false) (enough : old.most ≤ length before) (made : IsMade frame dropped old mid) where
  pub delivered_told : (result : Result Framed Fault) → Delivers result frame dropped before after mid new → FramesSeen result before after old new
  delivered_told (Ok framed) d = record {
    runs = runs;
    room = enough;
    mid = mid;
    frame = frame;
    made = subst (λ (n : ℕ). IsMade frame n old mid) (sym d.dropped_is) made;
    delivered = subst (λ (n : ℕ). IsDelivered framed frame n before after mid new) (sym d.dropped_is) d;
  }
  delivered_told (Err f) d = inr (enough, inr (record { mid = mid; frame = frame; dropped = dropped; made = made; not_shown = d }))

  -- its buffer is as long as a picture can be
  pub enough_still : Shows frame mid new → new.most ≤ length before
  enough_still s = subst (λ (n : ℕ). n ≤ length before) (sym (ap (λ (c : ContextView). c.most) s.3 ∙ ap (λ (c : ContextView). c.most) made.after)) enough

-- and without a buffer
module _ (frame : Frame) (dropped : ℕ) (old mid new : ContextView) (runs : is_over old ≡ false) (made : IsMade frame dropped old mid) where
  pub told_unseen : (result : Result Framed Fault) → Tells result frame dropped mid new → FramesUnseen result old new
  told_unseen (Ok framed) t = record {
    runs = runs;
    mid = mid;
    frame = frame;
    made = subst (λ (n : ℕ). IsMade frame n old mid) (sym t.dropped_is) made;
    told = subst (λ (n : ℕ). IsTold framed frame n mid new) (sym t.dropped_is) t;
  }
  told_unseen (Err f) t = inr (record { mid = mid; frame = frame; dropped = dropped; made = made; not_shown = t })

-- a buffer without a byte, and one with some
pub into_none : (result : Result Framed Fault) (before : List ℕ) (old new : ContextView) → (length before == 0) ≡ true → FramesUnseen result old new → FramesInto result before before old new
into_none result [] old new e u = (u, refl)
into_none result (b ∷ bs) old new e u = let none = eqb-true (length (b ∷ bs)) 0 e in absurd (omega (arith, none))

pub into_some : (result : Result Framed Fault) (before after : List ℕ) (old new : ContextView) → (length before == 0) ≡ false → FramesSeen result before after old new → FramesInto result before after old new
into_some result [] after old new e s = absurd (cc e)
into_some result (b ∷ bs) after old new e s = s

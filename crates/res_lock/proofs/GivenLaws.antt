-- What was given is what the history tells as given.
use Rattle.std.proofs.Common.{◌≡◌, ℕ, ◌||◌, ◌==◌, Bool, true, false, List, [], ◌∷◌, ◌++◌, sym, refl, ap, ◌∙◌, subst, append_assoc, Option, Some, None, MatchOption, Result, Ok, Err}
use Rattle.std.proofs.lemmas.List.{append-nil, map-append}
use Rattle.std.specs.List.{AllByRecursion}
use Rattle.gfx_model.specs.World.{Item}
use Rattle.gfx_model.specs.Words.{Handle}
use Rattle.gfx_model.specs.Resources as model
use Rattle.gfx_model.specs.FrameCalls.{CallState, backs_at_end, is_given}
use Rattle.gfx_words.specs.declared.refusals.Refusal.{Refusal}
use Rattle.gfx_words.specs.Seen.{refusal_seen}
use Rattle.hold_table.specs.Views.{SeatView}
use Rattle.resource_book.specs.Written.{BookView}
use Rattle.draw_encoder.specs.declared.items.Recording.{Recording}
use Rattle.frame_record.specs.declared.frame.Frame.{Frame}
use Rattle.context_core.specs.Ended as cores
use Rattle.gfx_context.specs.Gathered.{AreOfFrame}
use Rattle.gfx_context.specs.States.{ContextView, state_of}
use Rattle.gfx_context.specs.Kept.{IsContext}
use Rattle.gfx_context.specs.Ended.{Gathers, GivesWhere, CollectsAndEnds, is_shown}
use Rattle.gfx_context.specs.declared.report.BackNote.{BackNote}
use Rattle.gfx_context.specs.declared.report.FrameReport.{FrameReport}
use Rattle.res_lock.specs.Histories.{LockCall, on_things, ends_frame, begins, Reply, made, done, given, refused, ending, LockEntry, state_after}
use Rattle.res_lock.specs.Written.{book_after}
use Rattle.res_lock.specs.Called.{entry_of, CreatesBy, ChangesBy, reply_of}
use Rattle.res_lock.specs.Locked.{log_entries, IsKept, Adds}
use Rattle.res_lock.specs.Given.{told_given, given_in, IsGivenIn, HasGiven}
use Rattle.res_lock.specs.declared.log.Log.{Log}
use Rattle.res_lock.specs.declared.table.ResPass.{ResPass}

given_snoc : (es : List LockEntry) (e : LockEntry) → given_in (es ++ e ∷ []) ≡ given_in es ++ told_given e.reply
given_snoc [] e = append-nil (told_given e.reply)
given_snoc (x ∷ es) e = ap (λ l. told_given x.reply ++ l) (given_snoc es e) ∙ sym (append_assoc (told_given x.reply) (given_in es) (told_given e.reply))

module _ (admits : ℕ → ℕ → List Item → ℕ → Type 0) (views : ℕ) (start : CallState) (book : BookView) (first : List Frame) where
  -- a frame that was given stays so
  later_in : (h : List LockEntry) (e : LockEntry) (f : Frame) → IsGivenIn admits views start book h f → IsGivenIn admits views start book (h ++ e ∷ []) f
  later_in h e f m = record {
    before = m.before;
    entry = m.entry;
    later = m.later ++ e ∷ [];
    at = ap (λ l. l ++ e ∷ []) m.at ∙ append_assoc m.before (m.entry ∷ m.later) (e ∷ []);
    told = m.told;
    gathered = m.gathered;
    places = m.places;
    recordings = m.recordings;
    is_of = m.is_of;
  }

  all_later : (h : List LockEntry) (e : LockEntry) (fs : List Frame) → AllByRecursion (IsGivenIn admits views start book h) fs → AllByRecursion (IsGivenIn admits views start book (h ++ e ∷ [])) fs
  all_later h e [] a = tt
  all_later h e (f ∷ fs) a = (later_in h e f a.0, all_later h e fs a.1)

  all_snoc : (h : List LockEntry) (fs : List Frame) (f : Frame) → AllByRecursion (IsGivenIn admits views start book h) fs → IsGivenIn admits views start book h f → AllByRecursion (IsGivenIn admits views start book h) (fs ++ f ∷ [])
  all_snoc h [] f a m = (m, tt)
  all_snoc h (x ∷ fs) f a m = (a.0, all_snoc h fs f a.1 m)

  module _ {L : Type 0} where
    abbrev Given : ContextView L → List LockEntry → Type 0
    Given c h = HasGiven admits views start book first (record { context = c; history = h })

    moved : (c : ContextView L) (h hs : List LockEntry) → hs ≡ h → Given c h → Given c hs
    moved c h hs is g = subst (λ (l : List LockEntry). Given c l) (sym is) g

    -- before the first entry
    pub opening_given : (c : ContextView L) (hs : List LockEntry) → c.given ≡ first → hs ≡ [] → Given c hs
    opening_given c hs is none = moved c [] hs none (record { frames = []; given_is = is ∙ sym (append-nil first); numbers = refl; each = tt })

    -- what was given is no other, and the history is the same
    pub same_given : (c d : ContextView L) (h : List LockEntry) → Given c h → d.given ≡ c.given → Given d h
    same_given c d h g same = record { frames = g.frames; given_is = same ∙ g.given_is; numbers = g.numbers; each = g.each }

    -- an entry more, by which no frame is given
    none_given : (c d : ContextView L) (h : List LockEntry) (e : LockEntry) → Given c h → d.given ≡ c.given → told_given e.reply ≡ [] → Given d (h ++ e ∷ [])
    none_given c d h e g same none = record {
      frames = g.frames;
      given_is = same ∙ g.given_is;
      numbers = g.numbers ∙ sym (given_snoc h e ∙ (ap (λ l. given_in h ++ l) none ∙ append-nil (given_in h)));
      each = all_later h e g.frames g.each;
    }

    -- an entry more, by which a frame is given
    one_given : (c d : ContextView L) (h : List LockEntry) (e : LockEntry) (f : Frame) → Given c h → d.given ≡ c.given ++ f ∷ [] → IsGivenIn admits views start book (h ++ e ∷ []) f → told_given e.reply ≡ f.number ∷ [] → Given d (h ++ e ∷ [])
    one_given c d h e f g more m one = record {
      frames = g.frames ++ f ∷ [];
      given_is = more ∙ (ap (λ l. l ++ f ∷ []) g.given_is ∙ append_assoc first g.frames (f ∷ []));
      numbers = map-append (λ (x : Frame). x.number) g.frames (f ∷ []) ∙ ((λ j. g.numbers j ++ sym one j) ∙ sym (given_snoc h e));
      each = all_snoc (h ++ e ∷ []) g.frames f (all_later h e g.frames g.each) m;
    }

    module _ (c : ContextView L) (h : List LockEntry) (g : Given c h) (old new : Log) (p q : ResPass) (log_same : log_entries old ≡ h) where
      entries_are : (call : LockCall) (reply : Reply) → Adds call reply old new p q → log_entries new ≡ h ++ entry_of call reply p ∷ []
      entries_are call reply a = a.entries ∙ ap (λ l. l ++ entry_of call reply p ∷ []) log_same

      -- a reply that tells no frame
      pub still_given : (d : ContextView L) (call : LockCall) (reply : Reply) → Adds call reply old new p q → d.given ≡ c.given → told_given reply ≡ [] → Given d (log_entries new)
      still_given d call reply a same none = moved d _ _ (entries_are call reply a) (none_given c d h (entry_of call reply p) g same none)

      pub made_given : (call : LockCall) (handle : Handle) (d : ContextView L) → CreatesBy call (Ok handle) c d → Adds call (made handle) old new p q → Given d (log_entries new)
      made_given (on_things call) handle d m a = still_given d (on_things call) (made handle) a m.given_same refl
      made_given ends_frame handle d m a = absurd m
      made_given (begins room) handle d m a = absurd m

      pub done_given : (call : LockCall) (u : Unit {0}) (d : ContextView L) → ChangesBy call (Ok u) c d → Adds call done old new p q → Given d (log_entries new)
      done_given (on_things call) u d m a = still_given d (on_things call) done a m.given_same refl
      done_given ends_frame u d m a = absurd m
      done_given (begins room) u d m a = absurd m

      -- a refused call, which is not entered where there was no memory
      pub refused_given : (d : ContextView L) → d ≡ c → (call : LockCall) (r : Refusal) (o : Option model.Refusal) → MatchOption o ((new ≡ old) × (q ≡ p)) (λ x. Adds call (refused r) old new p q) → Given d (log_entries new)
      refused_given d is call r None a = moved d h (log_entries new) (ap log_entries a.0 ∙ log_same) (same_given c d h g (ap (λ v. v.given) is))
      refused_given d is call r (Some x) a = still_given d call (refused r) a (ap (λ v. v.given) is) refl

      pub create_not_given : (call : LockCall) (r : Refusal) (d : ContextView L) → CreatesBy call (Err r) c d → MatchOption (refusal_seen r) ((new ≡ old) × (q ≡ p)) (λ x. Adds call (refused r) old new p q) → Given d (log_entries new)
      create_not_given (on_things call) r d m a = refused_given d m.1 (on_things call) r (refusal_seen r) a
      create_not_given ends_frame r d m a = absurd m
      create_not_given (begins room) r d m a = absurd m

      pub change_not_given : (call : LockCall) (r : Refusal) (d : ContextView L) → ChangesBy call (Err r) c d → MatchOption (refusal_seen r) ((new ≡ old) × (q ≡ p)) (λ x. Adds call (refused r) old new p q) → Given d (log_entries new)
      change_not_given (on_things call) r d m a = refused_given d m.1 (on_things call) r (refusal_seen r) a
      change_not_given ends_frame r d m a = absurd m
      change_not_given (begins room) r d m a = absurd m

      -- ---- the end of a frame

      module _ (k : IsKept start book (record { context = c; history = h })) (runs : c.is_ended ≡ false) (keeps : IsContext admits views c) where
        or_true : (b : Bool) → (b || true) ≡ true
        or_true true = refl
        or_true false = refl

        by_report : (report : FrameReport) (d : ContextView L) → CollectsAndEnds admits views (Ok report) c d → Adds ends_frame (reply_of report.given report.number report.back) old new p q → Given d (log_entries new)
        by_report report d m a = by report.given report.back m.ends.given m.ends.gives a
          where
            before_same : m.collected.given ≡ c.given
            before_same = ap (λ v. v.given) m.collects.same

            by : (is_in : Bool) (back : Option BackNote) → is_in ≡ is_given (is_shown back) (state_of m.collected) → GivesWhere is_in m.collected d → Adds ends_frame (reply_of is_in report.number back) old new p q → Given d (log_entries new)
            by true back is gives a =
                let e : LockEntry = entry_of ends_frame (given report.number) p in
                let same_book : m.collected.book ≡ c.book = ap (λ v. v.book) m.collects.same in
                let written : m.collected.book ≡ book_after book h = same_book ∙ k.written in
                let number : report.number ≡ gives.frame.number = m.ends.number ∙ sym gives.is_of.number in
                let frame : c.seat.frame ≡ gives.frame.number = sym keeps.tied.frame ∙ (ap (λ (b : BookView). b.resources.frame) (sym same_book) ∙ sym gives.is_of.number) in
                let begun : c.begun ≡ (state_after start h).encoders = ap (λ (z : CallState). z.encoders) k.same in
                let at : IsGivenIn admits views start book (h ++ e ∷ []) gives.frame = record {
                  before = h;
                  entry = e;
                  later = [];
                  at = refl;
                  told = ap given number;
                  gathered = m.collected.gathered;
                  places = c.seat.places;
                  recordings = subst (λ (x : ℕ × ℕ). AreOfFrame admits views x.0 c.seat.places x.1 m.collected.gathered) (λ j. (frame j, begun j)) m.collects.recordings;
                  is_of = subst (λ (b : BookView). cores.IsFrameOf b m.collected.gathered gives.frame) written gives.is_of;
                } in
                moved d _ _ (entries_are ends_frame (given report.number) a)
                (one_given c d h e gives.frame g (gives.given ∙ ap (λ l. l ++ gives.frame ∷ []) before_same) at (ap (λ (n : ℕ). n ∷ []) number))
            by false None is gives a = let no_way : false ≡ true = is ∙ or_true (backs_at_end (state_of m.collected) == 0) in cc no_way
            by false (Some note) is gives a = still_given d ends_frame (ending report.number note.outcome) a (ap (λ v. v.given) gives ∙ before_same) refl

        pub framed_given : (report : FrameReport) (d : ContextView L) (reply : Reply) → reply ≡ reply_of report.given report.number report.back → CollectsAndEnds admits views (Ok report) c d → Adds ends_frame reply old new p q → Given d (log_entries new)
        framed_given report d reply told m a = by_report report d m (subst (λ (x : Reply). Adds ends_frame x old new p q) told a)

        -- a refused frame, which gives none
        pub not_framed_given : (r : Refusal) (d : ContextView L) → CollectsAndEnds admits views (Err r) c d → MatchOption (refusal_seen r) ((new ≡ old) × (q ≡ p)) (λ x. Adds ends_frame (refused r) old new p q) → Given d (log_entries new)
        not_framed_given r d m a = by (refusal_seen r) a
          where
            same : d.given ≡ c.given
            same = ap (λ v. v.given) m.ends.1 ∙ ap (λ v. v.given) m.collects.same

            by : (o : Option model.Refusal) → MatchOption o ((new ≡ old) × (q ≡ p)) (λ x. Adds ends_frame (refused r) old new p q) → Given d (log_entries new)
            by None a = moved d h (log_entries new) (ap log_entries a.0 ∙ log_same) (same_given c d h g same)
            by (Some x) a = still_given d ends_frame (refused r) a same refl

    -- a bundle is gathered
    pub gathered_given : (c d : ContextView L) (h : List LockEntry) → Given c h → (r : Recording) (seat : SeatView) → Gathers r seat c d → Given d h
    gathered_given c d h g r seat m = same_given c d h g (ap (λ v. v.given) m.after)

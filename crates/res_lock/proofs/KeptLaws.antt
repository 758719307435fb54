-- The state behind the lock is kept by each kind of entry.
use Rattle.std.proofs.Common.{◌≡◌, ℕ, Bool, true, false, List, [], ◌∷◌, ◌++◌, length, map, sym, refl, ap, ◌∙◌, subst, Option, Some, None, MatchOption, Ok, Err}
use Rattle.std.specs.Bool.{⊤}
use Rattle.std.proofs.lemmas.Option.{none-some}
use Rattle.gfx_model.specs.Words.{Handle}
use Rattle.gfx_model.specs.Resources as model
use Rattle.gfx_model.specs.Resources.{ResourceCall, refusal_of, effect, start_frame}
use Rattle.gfx_model.specs.FrameCalls.{CallState}
use Rattle.gfx_words.specs.declared.refusals.Refusal.{Refusal}
use Rattle.gfx_words.specs.Seen.{refusal_seen}
use Rattle.resource_laws.specs.Bare.{bare, bare_of}
use Rattle.resource_laws.proofs.RunLaws.{bare_law}
use Rattle.resource_book.specs.Written.{BookView, after_in}
use Rattle.gfx_context.specs.States.{ContextView, state_of}
use Rattle.res_lock.specs.Histories.{LockCall, on_things, ends_frame, begins, Reply, made, done, refused, ended, LockEntry, told_of, IsToldOrRefused, IsRunningReply, IsReplyWhere, IsReply, after_reply, state_after, part_of, IsLegal}
use Rattle.res_lock.specs.Written.{written_where, book_after}
use Rattle.res_lock.specs.Seats.{pass_view, caller_of, made_by}
use Rattle.res_lock.specs.Called.{entry_of, Does, CreatesBy, ChangesBy, Calls, Stays}
use Rattle.res_lock.specs.Locked.{log_entries, LockView, IsOpening, bared, End, end_where, end_in, EndedAs, IsKept, Adds}
use Rattle.res_lock.specs.declared.log.Log.{Log}
use Rattle.res_lock.specs.declared.table.ResPass.{ResPass}
use Rattle.res_lock.proofs.PartLaws.{part-append, part_own}
use Rattle.res_lock.proofs.HistoryLaws.{after_snoc, book_snoc, end_snoc, legal_snoc}

-- ---- an entry more

-- a context that runs on, where no end is told
pub runs_on : {L : Type 0} (o : Option End) (c d : ContextView L) → c.is_ended ≡ false → d.is_ended ≡ false → EndedAs o c → EndedAs o d
runs_on None c d runs still is = still
runs_on (Some e) c d runs still is = let both : false ≡ true = sym runs ∙ is.0 in cc both

-- the state is kept, and the pass has learnt of its call
pub record Both {L : Type 0} (start : CallState) (book : BookView) (context : ContextView L) (call : LockCall) (reply : Reply) (log : Log) (p q : ResPass) (h : List LockEntry) : Type 0 where
  pub kept : IsKept start book (record { context = context; history = log_entries log })
  pub calls : Calls start call reply p q
  pub before_is : calls.before ≡ h

module _ {L : Type 0} {book : BookView} (start : CallState) (c : ContextView L) (h : List LockEntry) (k : IsKept start book (record { context = c; history = h })) (old new : Log) (p q : ResPass) (same : log_entries old ≡ h) where
  pub entry_kept : (d : ContextView L) (call : LockCall) (reply : Reply) → Adds call reply old new p q → IsReply (state_after start h) call reply → state_of d ≡ bared (after_reply (state_after start h) call reply)
      → d.book ≡ written_where (book_after book h) call reply → EndedAs (end_where (state_after start h) (end_in start h) reply) d → Both start book d call reply new p q h
  entry_kept d call reply a is state held told =
      let e : LockEntry = entry_of call reply p in
      let own : part_of (caller_of p) (log_entries old) ≡ part_of (caller_of p) (pass_view p).seen = a.on.1 (caller_of p) p.is_caller in
      let ordinal : e.ordinal ≡ length (part_of e.caller h) = p.made_is ∙ ap length (sym own ∙ ap (part_of (caller_of p)) same) in
      let legal : IsLegal start (h ++ e ∷ []) = legal_snoc start h e k.legal is ordinal in
      let entries : log_entries new ≡ h ++ e ∷ [] = a.entries ∙ ap (λ l. l ++ e ∷ []) same in
      record {
        kept = record {
          legal = subst (IsLegal start) (sym entries) legal;
          same = state ∙ ap bared (sym (ap (state_after start) entries ∙ after_snoc start h e));
          written = held ∙ sym (ap (book_after book) entries ∙ book_snoc book h e);
          told = subst (λ (o : Option End). EndedAs o d) (sym (ap (end_in start) entries ∙ end_snoc start None h e)) told;
        };
        calls = record {
          before = log_entries old;
          on = a.on;
          view = a.view ∙ ap (λ l. record (pass_view p) { seen = l }) a.entries;
          made = a.made;
          legal = subst (IsLegal start) (sym (ap (λ u. u.seen) a.view ∙ entries)) legal;
          part = ap (λ u. part_of (caller_of p) u.seen) a.view ∙ (ap (part_of (caller_of p)) a.entries ∙ (part-append (caller_of p) (log_entries old) (e ∷ []) ∙ (λ j. own j ++ part_own (caller_of p) e refl j)));
        };
        before_is = same;
      }

  -- ---- what the context's state says of the history's

  frame_is : c.book.resources.frame ≡ (state_after start h).resources.frame
  frame_is = ap (λ (x : CallState). x.resources.frame) k.same

  ended_is : c.is_ended ≡ (state_after start h).is_ended
  ended_is = ap (λ (x : CallState). x.is_ended) k.same

  pub running : c.is_ended ≡ false → (call : LockCall) (reply : Reply) → IsRunningReply (state_after start h) call reply → IsReply (state_after start h) call reply
  running runs call reply is = subst (λ (b : Bool). IsReplyWhere b (state_after start h) call reply) (sym runs ∙ ended_is) is

  refusal_is : (call : ResourceCall) → refusal_of c.book.resources call ≡ refusal_of (state_after start h).resources call
  refusal_is call = ap (λ (x : CallState). refusal_of x.resources call) k.same ∙ (bare_law (state_after start h).resources call).0

  -- the context stays as it was
  stays_as : (d : ContextView L) → d ≡ c → d.book ≡ book_after book h
  stays_as d is = ap (λ (u : ContextView L). u.book) is ∙ k.written

  -- no end is told by a call that changes no more than what was written
  still_told : (d : ContextView L) → c.is_ended ≡ false → d.is_ended ≡ c.is_ended → EndedAs (end_in start h) d
  still_told d runs same_end = runs_on (end_in start h) c d runs (same_end ∙ runs) k.told

  -- ---- a context that is ended

  pub ended_kept : c.is_ended ≡ true → (call : LockCall) (frame : ℕ) → frame ≡ c.book.resources.frame → Adds call (ended frame) old new p q → Both start book c call (ended frame) new p q h
  ended_kept over call frame is a = entry_kept c call (ended frame) a (subst (λ (b : Bool). IsReplyWhere b (state_after start h) call (ended frame)) (sym over ∙ ended_is) (ap ended (is ∙ frame_is))) k.same (stays_as c refl) k.told

  -- ---- calls on things and views

  -- the reply to an accepted call
  told : (o : Option model.Refusal) (x y : Reply) → o ≡ None → y ≡ x → IsToldOrRefused o x y
  told o x y e is = subst (λ (z : Option model.Refusal). IsToldOrRefused z x y) (sym e) is

  -- the state after an accepted call
  done_state : (d : ContextView L) (call : ResourceCall) (handle : Option Handle) → Does call handle c d → state_of d ≡ bared (record (state_after start h) { resources = (effect (state_after start h).resources call).after })
  done_state d call handle m =
      let s : CallState = state_after start h in
      let step : CallState → CallState = λ x. record x { resources = bare_of (effect x.resources call).after } in
      m.state ∙ (ap step k.same ∙ ap (λ r. record s { resources = r }) (bare_law s.resources call).1.after)

  made_is : (call : ResourceCall) (handle : Option Handle) (d : ContextView L) → Does call handle c d → (effect (state_after start h).resources call).made ≡ handle
  made_is call handle d m = sym (ap (λ (x : CallState). (effect x.resources call).made) k.same ∙ (bare_law (state_after start h).resources call).1.made) ∙ m.made_is

  accepted_is : (call : ResourceCall) (handle : Option Handle) (d : ContextView L) → c.is_ended ≡ false → (reply : Reply) → told_of handle ≡ reply → Does call handle c d → IsReply (state_after start h) (on_things call) reply
  accepted_is call handle d runs reply tells m = running runs (on_things call) reply (told _ _ _ (sym (refusal_is call) ∙ m.accepted) (sym (ap told_of (made_is call handle d m) ∙ tells)))

  done_as : (d : ContextView L) (call : ResourceCall) (handle : Option Handle) → Does call handle c d → d.book ≡ after_in call handle (book_after book h)
  done_as d call handle m = m.book ∙ ap (after_in call handle) k.written

  pub made_kept : c.is_ended ≡ false → (call : LockCall) (handle : Handle) (d : ContextView L) → CreatesBy call (Ok handle) c d → Adds call (made handle) old new p q → Both start book d call (made handle) new p q h
  made_kept runs (on_things call) handle d m a = entry_kept d (on_things call) (made handle) a (accepted_is call (Some handle) d runs (made handle) refl m) (done_state d call (Some handle) m) (done_as d call (Some handle) m)
      (still_told d runs (ap (λ (x : CallState). x.is_ended) m.state))
  made_kept runs ends_frame handle d m a = absurd m
  made_kept runs (begins room) handle d m a = absurd m

  pub done_kept : c.is_ended ≡ false → (call : LockCall) (u : Unit {0}) (d : ContextView L) → ChangesBy call (Ok u) c d → Adds call done old new p q → Both start book d call done new p q h
  done_kept runs (on_things call) u d m a = entry_kept d (on_things call) done a (accepted_is call None d runs done refl m) (done_state d call None m) (done_as d call None m)
      (still_told d runs (ap (λ (x : CallState). x.is_ended) m.state))
  done_kept runs ends_frame u d m a = absurd m
  done_kept runs (begins room) u d m a = absurd m

  -- ---- refused calls

  -- nothing is appended where there was no memory
  abbrev pub Refuses : LockCall → Refusal → Option model.Refusal → Type 0
  Refuses call r o = MatchOption o ((new ≡ old) × (q ≡ p)) (λ x. Adds call (refused r) old new p q)

  -- what is kept and learnt then
  pub record Refused (d : ContextView L) (call : LockCall) (r : Refusal) (o : Option model.Refusal) : Type 0 where
    pub kept : IsKept start book (record { context = d; history = log_entries new })
    pub answer : MatchOption o (Stays p q) (λ x. Calls start call (refused r) p q)

  pub refused_by : (d : ContextView L) → d ≡ c → (call : LockCall) (r : Refusal) (o : Option model.Refusal) → ((x : model.Refusal) → o ≡ Some x → IsReply (state_after start h) call (refused r)) → Refuses call r o → Refused d call r o
  refused_by d is call r None legal a = record {
    kept = stays;
    answer = record { view = ap pass_view a.1; made = ap made_by a.1 };
  }
    where
      stays : IsKept start book (record { context = d; history = log_entries new })
      stays = subst (λ (v : LockView L). IsKept start book v) (λ j. record { context = sym is j; history = (sym same ∙ ap log_entries (sym a.0)) j }) k
  refused_by d is call r (Some x) legal a =
      let b = entry_kept d call (refused r) a (legal x refl) (ap state_of is ∙ k.same) (stays_as d is)
      (subst (λ (u : ContextView L). EndedAs (end_in start h) u) (sym is) k.told) in
      record { kept = b.kept; answer = b.calls }

  refused_thing : c.is_ended ≡ false → (d : ContextView L) → d ≡ c → (call : ResourceCall) (r : Refusal) (o : Option model.Refusal) → refusal_seen r ≡ o → MatchOption o ⊤ (λ x. refusal_of c.book.resources call ≡ Some x) → Refuses (on_things call) r o → Refused d (on_things call) r o
  refused_thing runs d is call r None seen first a = refused_by d is (on_things call) r None (λ x e. absurd (none-some x e)) a
  refused_thing runs d is call r (Some x) seen first a = refused_by d is (on_things call) r (Some x) (λ y e. running runs (on_things call) (refused r) (subst (λ (z : Option model.Refusal). IsToldOrRefused z (told_of (effect (state_after start h).resources call).made) (refused r)) (sym (sym (refusal_is call) ∙ first)) (r, refl, seen))) a

  pub create_refused : c.is_ended ≡ false → (call : LockCall) (r : Refusal) (d : ContextView L) → CreatesBy call (Err r) c d → Refuses call r (refusal_seen r) → Refused d call r (refusal_seen r)
  create_refused runs (on_things call) r d m a = refused_thing runs d m.1 call r (refusal_seen r) refl m.0 a
  create_refused runs ends_frame r d m a = absurd m
  create_refused runs (begins room) r d m a = absurd m

  pub change_refused : c.is_ended ≡ false → (call : LockCall) (r : Refusal) (d : ContextView L) → ChangesBy call (Err r) c d → Refuses call r (refusal_seen r) → Refused d call r (refusal_seen r)
  change_refused runs (on_things call) r d m a = refused_thing runs d m.1 call r (refusal_seen r) refl m.0 a
  change_refused runs ends_frame r d m a = absurd m
  change_refused runs (begins room) r d m a = absurd m

-- ---- before the first entry

-- a context of which nothing was called
pub opening_kept : {L : Type 0} (start : CallState) (book : BookView) (c : ContextView L) (h : List LockEntry) → state_of c ≡ start → IsOpening start → c.book ≡ book → h ≡ [] → IsKept start book (record { context = c; history = h })
opening_kept start book c h is opens has none = subst (λ (l : List LockEntry). IsKept start book (record { context = c; history = l })) (sym none) (record {
  legal = record { replies = tt; ordered = λ caller. refl };
  same = is ∙ ap (λ r. record start { resources = r }) bared_is;
  written = has;
  told = ap (λ (x : CallState). x.is_ended) is ∙ opens.runs;
})
  where
    bared_is : start.resources ≡ bare_of start.resources
    bared_is = ap (λ ts. record start.resources { things = ts }) opens.nothing ∙ sym (ap (λ ts. record start.resources { things = map bare ts }) opens.nothing)

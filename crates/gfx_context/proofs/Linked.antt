-- What a context keeps beside its core, call by call.
use Rattle.std.proofs.Common.{◌≡◌, ℕ, suc, ◌+◌, ◌-◌, ◌<◌, Bool, true, false, not, nat_lt, if◌then◌else◌, List, [], ◌∷◌, ◌++◌, None, Result, Ok, Err, refl, sym, ap, ◌∙◌, subst, arith}
use Rattle.std.specs.Prelude.{⊤}
use Rattle.std.specs.List.{find}
use Rattle.std.proofs.lemmas.List.{length-map}
use Rattle.atomic_table.specs.Seated.{TableId}
use Rattle.gfx_model.specs.Words.{Handle, place_of_handle}
use Rattle.gfx_model.specs.World.{Item, Change}
use Rattle.gfx_model.specs.Views.{Views, view_count}
use Rattle.gfx_model.specs.Resources.{Resources, ResourceCall, effect, destroy, references_of, is_at, start_frame, with_live_target}
use Rattle.schedule_model.specs.Machine.{Place, dying}
use Rattle.hold_table.specs.Views.{SeatView, placed}
use Rattle.gfx_words.specs.declared.refusals.Refusal.{Refusal}
use Rattle.draw_encoder.specs.declared.items.Recording.{Recording}
use Rattle.draw_encoder.specs.Bundles.{items_of}
use Rattle.frame_record.specs.declared.frame.Frame.{Frame}
use Rattle.frame_record.specs.declared.frame.RenderedFrame.{RenderedFrame}
use Rattle.frame_record.specs.Links.{CameBack}
use Rattle.resource_book.specs.Written.{BookView, after_in}
use Rattle.resource_book.specs.declared.frames.Work.{Work}
use Rattle.context_core.specs.Gathered.{anything, IsCollected, AreCollected, AreGathered, with_gathered}
use Rattle.context_core.specs.Kept.{AreTargets, IsCore, KeepsUsable, KeepsOut}
use Rattle.context_core.specs.Calls.{IsPlacedBy, Creates, Updates, Changes, Destroys, with_lent}
use Rattle.context_core.specs.Ended.{Gives, ended_core}
use Rattle.context_core.specs.States.{CoreView, own}
use Rattle.resource_book.proofs.SameLaws.{same_law}
use Rattle.context_core.proofs.Ends.{as_gathered}
use Rattle.gfx_context.specs.Kept.{AreOut, AreAdmitted, IsLinked, IsContext}
use Rattle.gfx_context.specs.States.{context_of}
use Rattle.gfx_context.proofs.OutStays.{out_stays}
use Rattle.gfx_context.proofs.Outs.{out_back, out_given}

-- ---- what is admitted

module _ (admits : ℕ → ℕ → List Item → ℕ → Type 0) (views frame : ℕ) (places : List Place) where
  also_admitted : (r : Recording) → IsCollected anything views frame places r → admits r.encoder r.frame (items_of r) r.dropped → IsCollected admits views frame places r
  also_admitted r c a = record {
    admitted = subst (λ (n : ℕ). admits r.encoder n (items_of r) r.dropped) c.frame_is a;
    frame_is = c.frame_is;
    few = c.few;
    ascends = c.ascends;
    within = c.within;
    items = c.items;
    uniforms = c.uniforms;
  }

  pub all_admitted : (rs : List Recording) → AreCollected anything views frame places rs → AreAdmitted admits rs → AreCollected admits views frame places rs
  all_admitted [] c a = tt
  all_admitted (r ∷ rs) c a = (also_admitted r c.0 a.0, all_admitted rs c.1 a.1)

pub gathered_admitted : (admits : ℕ → ℕ → List Item → ℕ → Type 0) (n views : ℕ) (seat : SeatView) (begun : ℕ) (rs : List Recording) → n ≡ views → AreGathered anything n seat begun rs → AreAdmitted admits rs → AreGathered admits views seat begun rs
gathered_admitted admits n views seat begun rs e h a =
    let g : AreGathered anything views seat begun rs = subst (λ (m : ℕ). AreGathered anything m seat begun rs) e h in
    record {
      count = g.count;
      once = g.once;
      joined = g.joined;
      numbers = g.numbers;
      apart = g.apart;
      most = g.most;
      collected = all_admitted admits views seat.frame seat.places rs g.collected a;
    }

-- ---- calls

-- no create and no destroy changes the frame that the seat knows
placed_frame : (cs : List Change) (h : Handle) (old new : SeatView) → IsPlacedBy cs h old new → new.frame ≡ old.frame
placed_frame [] h old new p = ap (λ (v : SeatView). v.frame) p
placed_frame (c ∷ cs) h old new p = ap (λ (v : SeatView). v.frame) p.1

died_frame : (b : Bool) (h : Handle) (v : SeatView) → (if b then placed (place_of_handle h) (dying h.serial v.frame) v else v).frame ≡ v.frame
died_frame true h v = refl
died_frame false h v = refl

module _ {T : TableId} {admits : ℕ → ℕ → List Item → ℕ → Type 0} {views latency : ℕ} {a : CoreView} {given : List Frame} {back : List RenderedFrame} (l : IsLinked T admits views latency a given back) (b : CoreView) where
  -- what was gathered and the frames that are out stay
  moved : b.table ≡ a.table → view_count b.state.book.resources.views ≡ view_count a.state.book.resources.views → b.state.book.resources.latency ≡ a.state.book.resources.latency → b.state.gathered ≡ a.state.gathered → b.state.is_given ≡ a.state.is_given → b.state.out ≡ a.state.out
      → b.state.seat.frame ≡ a.state.seat.frame → KeepsUsable a.state b.state → IsLinked T admits views latency b given back
  moved table vs late gathered flag out frame stays = record {
    table_is = table ∙ l.table_is;
    views_are = vs ∙ l.views_are;
    latency_is = l.latency_is ∙ sym late;
    not_given = flag ∙ l.not_given;
    admitted = subst (λ (rs : List Recording). AreAdmitted admits rs) (sym gathered) l.admitted;
    frames = subst (λ (p : ℕ × ℕ). AreOut admits views b.state.seat.places p.0 p.1 given back) (λ j. (sym frame j, sym out j))
        (out_stays admits views a.state.seat.places b.state.seat.places a.state.seat.frame a.state.out given back (λ n lt le. stays n (omega (arith, lt))) l.frames);
  }

  pub same_as : b ≡ a → IsLinked T admits views latency b given back
  same_as e = subst (λ (c : CoreView). IsLinked T admits views latency c given back) (sym e) l

  -- the book alone changes
  booked : (n : BookView) → view_count n.resources.views ≡ view_count a.state.book.resources.views → n.resources.latency ≡ a.state.book.resources.latency → b ≡ record a { state = record a.state { book = n } } → IsLinked T admits views latency b given back
  booked n vs late e = subst (λ (c : CoreView). IsLinked T admits views latency c given back) (sym e) (record {
    table_is = l.table_is;
    views_are = vs ∙ l.views_are;
    latency_is = l.latency_is ∙ sym late;
    not_given = l.not_given;
    admitted = l.admitted;
    frames = l.frames;
  })

  pub linked_creates : (call : ResourceCall) (result : Result Handle Refusal) → Creates own result call a b → KeepsUsable a.state b.state → IsLinked T admits views latency b given back
  linked_creates call (Ok h) m stays =
      let same = same_law a.state.book.resources call in
      moved (ap (λ (c : CoreView). c.table) m.after) (ap (λ (c : CoreView). view_count c.state.book.resources.views) m.after ∙ same.0) (ap (λ (c : CoreView). c.state.book.resources.latency) m.after ∙ same.1)
      (ap (λ (c : CoreView). c.state.gathered) m.after) (ap (λ (c : CoreView). c.state.is_given) m.after) (ap (λ (c : CoreView). c.state.out) m.after) (placed_frame (effect a.state.book.resources call).changes h a.state.seat b.state.seat m.placed) stays
  linked_creates call (Err r) m stays = same_as m.1

  pub linked_destroys : (h : Handle) (result : Result (Unit {0}) Refusal) → Destroys own result h a b → KeepsUsable a.state b.state → IsLinked T admits views latency b given back
  linked_destroys h (Ok u) m stays =
      let same = same_law a.state.book.resources (destroy h) in
      moved (ap (λ (c : CoreView). c.table) m.1) (ap (λ (c : CoreView). view_count c.state.book.resources.views) m.1 ∙ same.0) (ap (λ (c : CoreView). c.state.book.resources.latency) m.1 ∙ same.1)
      (ap (λ (c : CoreView). c.state.gathered) m.1) (ap (λ (c : CoreView). c.state.is_given) m.1) (ap (λ (c : CoreView). c.state.out) m.1)
      (ap (λ (c : CoreView). c.state.seat.frame) m.1 ∙ died_frame (not (nat_lt 1 (references_of (find (is_at h.kind h.index) a.state.book.resources.things)))) h a.state.seat) stays
  linked_destroys h (Err r) m stays = same_as m.1

  pub linked_updates : (call : ResourceCall) (result : Result (Unit {0}) Refusal) → Updates own result call a b → IsLinked T admits views latency b given back
  linked_updates call (Ok u) m = let same = same_law a.state.book.resources call in booked (after_in call None a.state.book) same.0 same.1 m.1
  linked_updates call (Err r) m = same_as m.1

  pub linked_changes : (call : ResourceCall) (result : Result (Unit {0}) Refusal) → Changes own result call a b → IsLinked T admits views latency b given back
  linked_changes call (Ok u) m = let same = same_law a.state.book.resources call in booked (after_in call None a.state.book) same.0 same.1 m.1
  linked_changes call (Err r) m = same_as m.1

  -- a seat is lent
  pub linked_lent : b ≡ record a { state = with_lent a.state } → IsLinked T admits views latency b given back
  linked_lent e = subst (λ (c : CoreView). IsLinked T admits views latency c given back) (sym e) (record { table_is = l.table_is; views_are = l.views_are; latency_is = l.latency_is; not_given = l.not_given; admitted = l.admitted; frames = l.frames })

  -- bundles are collected
  pub linked_collected : b ≡ record a { state = record a.state { seat = b.state.seat; gathered = b.state.gathered } } → b.state.seat ≡ with_gathered b.state.seat a.state.seat → AreAdmitted admits b.state.gathered → IsLinked T admits views latency b given back
  linked_collected e seat admitted = record {
    table_is = ap (λ (c : CoreView). c.table) e ∙ l.table_is;
    views_are = ap (λ (c : CoreView). view_count c.state.book.resources.views) e ∙ l.views_are;
    latency_is = l.latency_is ∙ sym (ap (λ (c : CoreView). c.state.book.resources.latency) e);
    not_given = ap (λ (c : CoreView). c.state.is_given) e ∙ l.not_given;
    admitted = admitted;
    frames = subst (λ (p : SeatView × ℕ). AreOut admits views p.0.places p.0.frame p.1 given back) (λ j. (sym seat j, sym (ap (λ (c : CoreView). c.state.out) e) j)) l.frames;
  }

  -- a frame comes back
  pub linked_back : (now : List Frame) (new : List RenderedFrame) (r : RenderedFrame) (late : ℕ) → late ≡ latency → 0 < a.state.out → b ≡ record a { state = record a.state { out = a.state.out - 1 } } → now ≡ given → CameBack given back new r
      → IsLinked T admits views late b now new
  linked_back now new r late same some e is c = subst (λ (x : CoreView). IsLinked T admits views late x now new) (sym e) (record {
    table_is = l.table_is;
    views_are = l.views_are;
    latency_is = same ∙ l.latency_is;
    not_given = l.not_given;
    admitted = l.admitted;
    frames = subst (λ (fs : List Frame). AreOut admits views a.state.seat.places a.state.seat.frame (a.state.out - 1) fs new) (sym is)
        (out_back admits views a.state.seat.places a.state.seat.frame given back a.state.out (a.state.out - 1) new r l.frames (omega (arith, some)) c);
  })

  -- no frame follows
  pub linked_ended : b ≡ ended_core a → IsLinked T admits views latency b given back
  linked_ended e = subst (λ (c : CoreView). IsLinked T admits views latency c given back) (sym e) (record { table_is = l.table_is; views_are = l.views_are; latency_is = l.latency_is; not_given = l.not_given; admitted = l.admitted; frames = l.frames })

  -- a frame is given
  pub linked_given : IsCore anything (view_count a.state.book.resources.views) ⊤ a.state → (work : Work) (f : Frame) → Gives work f a b → KeepsOut a.state b.state → a.state.out < a.state.book.resources.latency
      → (now : List Frame) (new : List RenderedFrame) (late : ℕ) → now ≡ given ++ f ∷ [] → new ≡ back → late ≡ latency → IsLinked T admits views late b now new
  linked_given k work f g stays few now new late is same lates =
      let book : b.state.book.resources ≡ start_frame (a.state.book.resources.frame + 1) a.state.book.resources = ap (λ (c : CoreView). c.state.book.resources) g.same in
      let frame : b.state.seat.frame ≡ suc a.state.seat.frame = ap (λ (s : SeatView). s.frame) g.seat in
      let out : b.state.out ≡ a.state.out + 1 = ap (λ (c : CoreView). c.state.out) g.same in
      let gathered = gathered_admitted admits (view_count a.state.book.resources.views) views a.state.seat a.state.begun a.state.gathered l.views_are
      (as_gathered anything (view_count a.state.book.resources.views) a.state.seat a.state.begun a.state.gathered a.state.is_given l.not_given k.gathered) l.admitted in
      let more : AreOut admits views a.state.seat.places (suc a.state.seat.frame) (a.state.out + 1) now back = out_given admits views a.state.seat.places a.state.seat.frame given back a.state.out now f l.frames is (g.is_of.number ∙ k.tied.frame)
      (subst (λ (rs : List Recording). AreCollected admits views a.state.seat.frame a.state.seat.places rs) (sym g.is_of.recordings) gathered.collected)
      (subst (λ (vs : Views). AreTargets a.state.seat.frame a.state.seat.places vs.settings) (sym g.is_of.views) k.targets) in
      record {
        table_is = ap (λ (c : CoreView). c.table) g.same ∙ l.table_is;
        views_are = ap (λ (r : Resources). view_count r.views) book ∙ length-map a.state.book.resources.views.settings (with_live_target a.state.book.resources) ∙ l.views_are;
        latency_is = lates ∙ l.latency_is ∙ sym (ap (λ (r : Resources). r.latency) book);
        not_given = ap (λ (c : CoreView). c.state.is_given) g.same;
        admitted = subst (λ (rs : List Recording). AreAdmitted admits rs) (sym (ap (λ (c : CoreView). c.state.gathered) g.same)) tt;
        frames = subst (λ (p : ℕ × ℕ × List RenderedFrame). AreOut admits views b.state.seat.places p.0 p.1 now p.2) (λ j. (sym frame j, sym out j, sym same j))
            (out_stays admits views a.state.seat.places b.state.seat.places (suc a.state.seat.frame) (a.state.out + 1) now back (λ n lt le. stays n (omega (arith, le, few))) more);
      }

-- ---- what is known of a context

module _ {L : Type 0} {T : TableId} {admits : ℕ → ℕ → List Item → ℕ → Type 0} {views latency : ℕ} {c : CoreView} {given : List Frame} {back : List RenderedFrame} (l : IsLinked T admits views latency c given back)
    (k : IsCore anything (view_count c.state.book.resources.views) ⊤ c.state) (link : L) where
  pub is_context : IsContext admits views (context_of c.state given back link)
  is_context = record {
    tied = k.tied;
    newest = k.newest;
    targets = k.targets;
    counted = l.views_are;
    latency = k.latency;
    few = k.few;
    encoders = k.encoders;
    gathered = gathered_admitted admits (view_count c.state.book.resources.views) views c.state.seat c.state.begun c.state.gathered l.views_are
        (as_gathered anything (view_count c.state.book.resources.views) c.state.seat c.state.begun c.state.gathered c.state.is_given l.not_given k.gathered) l.admitted;
    frames = l.frames;
  }

-- What a core keeps where recordings are gathered, a frame is given and the next one starts.
use Rattle.std.proofs.Common.{◌≡◌, ℕ, Bool, true, false, None, Some, suc, ◌+◌, ◌<◌, ◌≤◌, List, [], map, length, refl, sym, ap, ◌∙◌, subst, arith, if◌then◌else◌, nat_lt, nat_le}
use Rattle.std.specs.Prelude.{⊤}
use Rattle.std.proofs.lemmas.Bool.{false_from_ne_true, ltb-true, leb-true, le-leb, true≢false}
use Rattle.std.proofs.lemmas.Option.{none-some}
use Rattle.std.proofs.lemmas.List.{length-map}
use Rattle.atomic_table.specs.Seated.{TableId}
use Rattle.gfx_model.specs.Views.{View, view_count}
use Rattle.gfx_model.specs.World.{Item}
use Rattle.gfx_model.specs.Frames.{collected}
use Rattle.gfx_model.specs.Resources as model
use Rattle.gfx_model.specs.FrameCalls.{greatest_frame, end_frame, frame_refusal}
use Rattle.schedule_model.specs.Held.{count_of}
use Rattle.hold_table.specs.Views.{SeatView, advanced, once_between}
use Rattle.draw_encoder.specs.declared.items.Recording.{Recording}
use Rattle.frame_record.specs.declared.frame.Frame.{Frame}
use Rattle.frame_record.specs.Seen.{entry_seen, recordings_seen}
use Rattle.resource_laws.specs.Lawful.{IsLawful}
use Rattle.cmd_buffer.specs.Payloads.{payloads_seen}
use Rattle.resource_book.specs.Written.{BookView}
use Rattle.resource_book.specs.declared.frames.Work.{Work}
use Rattle.context_core.specs.Places.{Stays}
use Rattle.context_core.specs.Gathered.{AreGathered, IsGivenAway, HasGathered, once_below, with_gathered}
use Rattle.context_core.specs.Kept.{IsTied, IsNext, AreTargets, IsCore, KeepsOut}
use Rattle.context_core.specs.States.{CoreState, CoreView, Gathering, state_of, core_of}
use Rattle.context_core.specs.Ended.{AreNumbered, started, gathering_of, MakesFrame, StartsNext, Gives}
use Rattle.context_core.proofs.Targets.{live_targets}
use Rattle.context_core.proofs.Stays.{targets_stay}

-- no encoder of a frame that has begun none
pub none_begun : (e : ℕ) → once_below 0 e ≡ 0
none_begun e = ap (λ (b : Bool). if b then 1 else 0) (false_from_ne_true (nat_lt e 0) (λ t. absurd (let lt = ltb-true e 0 t in omega arith)))

-- ---- what was gathered before the frame is given

module _ (admits : ℕ → ℕ → List Item → ℕ → Type 0) (views : ℕ) (seat : SeatView) (begun : ℕ) (rs : List Recording) where
  pub as_gathered : (given : Bool) → given ≡ false → HasGathered given admits views seat begun rs → AreGathered admits views seat begun rs
  as_gathered false e g = g
  as_gathered true e g = absurd cc

  pub has_gathered : (given : Bool) → given ≡ false → AreGathered admits views seat begun rs → HasGathered given admits views seat begun rs
  has_gathered false e g = g
  has_gathered true e g = absurd cc

  pub as_given : (given : Bool) → given ≡ true → HasGathered given admits views seat begun rs → IsGivenAway seat rs
  as_given true e g = g
  as_given false e g = absurd cc

  -- while an encoder is off the frame is not given
  pub off_not_given : (given : Bool) (e : ℕ) → HasGathered given admits views seat begun rs → count_of e seat.off ≡ 1 → given ≡ false
  off_not_given false e g one = refl
  off_not_given true e g one = absurd (let none = ap (count_of e) g.none_off in omega (arith, one, none))

tied_seat : (r : model.Resources) (s v : SeatView) → s ≡ with_gathered s v → IsTied r v → IsTied r s
tied_seat r s v e t = subst (IsTied r) (sym e) (record { placed = t.placed; many = t.many; older = t.older; frame = t.frame; most = t.most })

pub kept_gathered : (admits : ℕ → ℕ → List Item → ℕ → Type 0) (views : ℕ) (v : CoreState) → IsCore admits views ⊤ v → (s : SeatView) (rs : List Recording) → s ≡ with_gathered s v.seat → HasGathered v.is_given admits views s v.begun rs
    → IsCore admits views ⊤ (record v { seat = s; gathered = rs })
kept_gathered admits views v k s rs e g = record {
  tied = tied_seat v.book.resources s v.seat e k.tied;
  newest = subst (λ (x : SeatView). IsNext v.book.resources.next_serial x.greatest v.first) (sym e) k.newest;
  targets = subst (λ (x : SeatView). AreTargets x.frame x.places v.book.resources.views.settings) (sym e) k.targets;
  counted = k.counted;
  latency = k.latency;
  few = k.few;
  encoders = k.encoders;
  gathered = g;
  frames = tt;
}

-- ---- the greatest number

refused_by : (b : Bool) → (if b then Some model.frames_spent else None) ≡ None → b ≡ false
refused_by true e = absurd (none-some model.frames_spent (sym e))
refused_by false e = refl

-- an end that is not refused is not that of the last frame
pub not_last : (v : CoreState) → frame_refusal (state_of v) end_frame ≡ None → v.book.resources.frame < 1073741823
not_last v e = by_test (nat_lt v.book.resources.frame 1073741823) refl where
  by_test : (b : Bool) → nat_lt v.book.resources.frame 1073741823 ≡ b → v.book.resources.frame < 1073741823
  by_test true t = ltb-true v.book.resources.frame 1073741823 t
  by_test false f = absurd (true≢false (sym (le-leb greatest_frame v.book.resources.frame (Rattle.std.proofs.lemmas.Bool.ltb-false v.book.resources.frame 1073741823 f)) ∙ refused_by (nat_le greatest_frame v.book.resources.frame) e))

-- ---- a frame is given

module _ (admits : ℕ → ℕ → List Item → ℕ → Type 0) (views : ℕ) (v : CoreState) (k : IsCore admits views ⊤ v) (rs : List Recording) (empty : rs ≡ []) where
  pub kept_given : (made : Gathering) → v.seat.off ≡ [] → v.book.resources.frame < 1073741823 → v.out < v.book.resources.latency
      → IsCore admits views ⊤ (record v { gathered = rs; last = made; is_given = true; out = v.out + 1 })
  kept_given made none last few = record {
    tied = k.tied;
    newest = k.newest;
    targets = k.targets;
    counted = k.counted;
    latency = k.latency;
    few = omega (arith, few);
    encoders = k.encoders;
    gathered = record { none_off = none; none_left = empty; not_last = (let e = k.tied.frame in omega (arith, last, e)) };
    frames = tt;
  }

  -- the frame is of the work and of what was gathered
  pub makes_work : (t : TableId) (f : Frame) (work : Work) → AreGathered admits views v.seat v.begun v.gathered → f.number ≡ v.book.resources.frame → f.views ≡ v.book.resources.views → f.pre ≡ work.pre → f.post ≡ work.post → f.payloads ≡ work.payloads
      → f.recordings.items ≡ v.gathered → map entry_seen f.journal.items ≡ collected (recordings_seen v.gathered) → (old : CoreView) → core_of t v ≡ old
      → (made : Gathering) → made ≡ gathering_of v → MakesFrame work f old (core_of t (record v { gathered = rs; last = made; is_given = true; out = v.out + 1 }))
  makes_work t f work g number vs pre post payloads recordings journal old e made is =
      subst (λ (o : CoreView). MakesFrame work f o (core_of t (record v { gathered = rs; last = made; is_given = true; out = v.out + 1 }))) e (record {
        is_of = record {
          number = number;
          views = vs;
          pre = pre;
          post = post;
          payloads = ap (λ x. payloads_seen x.items) payloads;
          recordings = recordings;
          journal = journal;
        };
        numbers = g.numbers;
        same = (λ j. core_of t (record v { gathered = empty j; last = is j; is_given = true; out = v.out + 1 }));
      })

-- ---- the next frame starts

module _ (admits : ℕ → ℕ → List Item → ℕ → Type 0) (views : ℕ) (v : CoreState) (k : IsCore admits views ⊤ v) (b : BookView) (s : SeatView)
    (book : b ≡ record v.book { resources = model.start_frame (v.book.resources.frame + 1) v.book.resources }) (seat : s ≡ record (advanced s.base v.seat) { places = s.places }) where
  resources : b.resources ≡ model.start_frame (v.book.resources.frame + 1) v.book.resources
  resources = ap (λ (x : BookView). x.resources) book

  none_gathered : v.seat.off ≡ [] → AreGathered admits views s 0 []
  none_gathered none =
      let off : s.off ≡ [] = ap (λ (x : SeatView). x.off) seat ∙ none in
      let numbers : s.numbers ≡ [] = ap (λ (x : SeatView). x.numbers) seat in
      let joined : s.joined ≡ 0 = ap (λ (x : SeatView). x.joined) seat in
      record {
        count = (let a = ap length off in omega arith);
        once = (λ e. let a = ap (count_of e) off in let d = none_begun e in omega arith);
        joined = omega (arith, joined);
        numbers = numbers;
        apart = (λ n. let a = ap (count_of n) numbers in omega arith);
        most = (let a = ap length numbers in omega arith);
        collected = tt;
      }

  targets_next : IsLawful v.book.resources → s.frame ≡ suc v.seat.frame → Stays (suc v.seat.frame) v.seat.places s.places → AreTargets s.frame s.places b.resources.views.settings
  targets_next l frame stays =
      subst (λ (p : ℕ × List View). AreTargets p.0 s.places p.1) (λ j. (sym frame j, sym (ap (λ (r : model.Resources). r.views.settings) resources) j))
      (targets_stay (suc v.seat.frame) v.seat.places s.places stays (map (model.with_live_target v.book.resources) v.book.resources.views.settings)
      (live_targets v.book.resources l v.seat.places k.tied.placed v.seat.frame (suc v.seat.frame) v.book.resources.views.settings k.targets))

  pub kept_next : IsLawful v.book.resources → IsGivenAway v.seat v.gathered → IsTied b.resources s → ((n : ℕ) → v.book.resources.frame + 1 ≤ n + v.book.resources.latency → Stays n v.seat.places s.places)
      → IsCore admits views ⊤ (record v { book = b; seat = s; begun = 0; is_given = false })
  kept_next l given tied stays =
      let latency : b.resources.latency ≡ v.book.resources.latency = ap (λ (r : model.Resources). r.latency) resources in
      let frame : s.frame ≡ suc v.seat.frame = ap (λ (x : SeatView). x.frame) seat in
      record {
        tied = tied;
        newest = subst (λ (p : ℕ × ℕ). IsNext p.0 p.1 v.first) (λ j. (sym (ap (λ (r : model.Resources). r.next_serial) resources) j, sym (ap (λ (x : SeatView). x.greatest) seat) j)) k.newest;
        targets = targets_next l frame (stays (suc v.seat.frame) (let e = k.tied.frame in let some = k.latency.0 in omega (arith, e, some)));
        counted = ap (λ (r : model.Resources). view_count r.views) resources ∙ length-map v.book.resources.views.settings (model.with_live_target v.book.resources) ∙ k.counted;
        latency = (subst (λ (n : ℕ). 1 ≤ n) (sym latency) k.latency.0, subst (λ (n : ℕ). n ≤ 3) (sym latency) k.latency.1);
        few = subst (λ (n : ℕ). v.out ≤ n) (sym latency) k.few;
        encoders = omega arith;
        gathered = subst (AreGathered admits views s 0) (sym given.none_left) (none_gathered given.none_off);
        frames = tt;
      }

  pub starts_told : (t u : TableId) → u ≡ t → ((n : ℕ) → count_of n v.seat.numbers ≡ once_between v.seat.base s.base n) → v.seat.base + length v.seat.numbers ≡ s.base → (old : CoreView) → core_of t v ≡ old
      → StartsNext old (core_of u (record v { book = b; seat = s; begun = 0; is_given = false }))
  starts_told t u same once counted old e =
      subst (λ (o : CoreView). StartsNext o (core_of u (record v { book = b; seat = s; begun = 0; is_given = false }))) e (record {
        numbered = record { once = once; counted = counted };
        seat = seat;
        same = (λ j. core_of (same j) (record v { book = book j; seat = s; begun = 0; is_given = false }));
      })

  pub usable_next : (t : TableId) → ((n : ℕ) → v.book.resources.frame + 1 ≤ n + v.book.resources.latency → Stays n v.seat.places s.places) → (old : CoreView) → core_of t v ≡ old
      → KeepsOut old.state (record v { book = b; seat = s; begun = 0; is_given = false })
  usable_next t stays old e = subst (λ (o : CoreView). KeepsOut o.state (record v { book = b; seat = s; begun = 0; is_given = false })) e
      (λ n le. stays n (let same = k.tied.frame in omega (arith, le, same)))

-- ---- both together

module _ (work : Work) (f : Frame) (a b c : CoreView) (m : MakesFrame work f a b) (s : StartsNext b c) where
  next_of : StartsNext (record a { state = record a.state { gathered = []; last = gathering_of a.state; is_given = true; out = a.state.out + 1 } }) c
  next_of = subst (λ (x : CoreView). StartsNext x c) m.same s

  -- a frame is made and the next one starts
  pub gives_both : (a.state.book.pre ≡ []) × (a.state.book.post ≡ []) × (a.state.book.payloads ≡ []) → Gives work f a c
  gives_both taken =
      let book : record a.state.book { resources = model.start_frame (a.state.book.resources.frame + 1) a.state.book.resources } ≡ started a.state.book =
      (λ j. record { resources = model.start_frame (a.state.book.resources.frame + 1) a.state.book.resources; pre = taken.0 j; post = taken.1 j; payloads = taken.2 j }) in
      record {
        is_of = m.is_of;
        numbers = m.numbers;
        numbered = subst (AreNumbered a.state.seat.base c.state.seat.base) m.numbers next_of.numbered;
        seat = next_of.seat;
        same = next_of.same ∙ (λ j. record a { state = record a.state { book = book j; seat = c.state.seat; begun = 0; gathered = []; last = gathering_of a.state; is_given = false; out = a.state.out + 1 } });
      }

  -- what could be named in a frame that may be out can be named still
  pub keeps_both : KeepsOut b.state c.state → KeepsOut a.state c.state
  keeps_both = subst (λ (x : CoreView). KeepsOut x.state c.state) m.same

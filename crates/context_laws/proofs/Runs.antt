-- The calls of a core, step by step.
use Rattle.std.proofs.Common.{◌≡◌, ◌≢◌, ℕ, zero, suc, ◌+◌, ◌-◌, ◌*◌, ◌<◌, ◌≤◌, ◌==◌, ◌&&◌, Bool, true, false, not, nat_lt, nat_le, if◌then◌else◌, List, [], ◌∷◌, ◌++◌, map, length, Option, Some, None, Ok, IsTrue, refl, sym, ap, ◌∙◌, subst, arith, inl, inr, length-append}
use mathlib.Core.Option.{some}
use lib.ListN.{get_elem?}
use Rattle.std.specs.Prelude.{slice_get, ◌⊎◌}
use Rattle.std.specs.List.{find, list_all}
use Rattle.std.proofs.lemmas.Bool.{leb-true, leb-false}
use Rattle.atomic_table.specs.Seated.{TableId}
use Rattle.atomic_table.specs.Table.{Step}
use Rattle.gfx_model.specs.Words.{Kind, Handle, plain, greatest, first_place, place_of_handle}
use Rattle.gfx_model.specs.World.{Change, layout_content}
use Rattle.gfx_model.specs.Recorder.{Room}
use Rattle.gfx_model.specs.Views.{View}
use Rattle.gfx_model.specs.FrameCalls.{begin_encoder, frame_refusal, frame_refusals}
use Rattle.gfx_model.specs.Resources.{Thing as Held, Resources, ResourceCall, Effect, create_layout, create_vertex_buffer, create_index_buffer, create_texture, create_frame_buffer, create_program, create_uniform, update_buffer, update_texture, change_view, set_view_target, set_view_order, named_uniform, destroy as destroy_call, no_layout, no_change, on_thing, with_references, die, refusals, refusal_of, effect, references_of, is_at, is_live_handle, is_kept_thing, is_kept_death, is_over}
use Rattle.gfx_model.proofs.Apart.{place_below}
use Rattle.resource_laws.specs.Lawful.{IsLawful}
use Rattle.resource_laws.proofs.CallLaws.{all_passed}
use Rattle.resource_laws.proofs.LiveLaws.{live_found, all_found}
use Rattle.resource_laws.proofs.LawfulLaws.{top_below}
use Rattle.resource_book.proofs.SameLaws.{same_law}
use Rattle.schedule_model.specs.Machine.{Place, free, live, dying, place_at, place_count, has_usable, is_usable, Thing, State, Event, create, destroy, reclaim, begin, cancel, gather, take_back, give, advance, take_frame, return_frame, Outcome, step, when, out, opening, fresh, with_begun, without_begun, gathered_after, with_greatest, with_place, death_of, given_after, is_below, is_free, is_empty, has_no_work, with_taken, with_returned, with_back}
use Rattle.schedule_model.specs.Machine as machine
use Rattle.hold_table.specs.Views.{SeatView, lent, gathered, joined_with, created, placed, advanced}
use Rattle.hold_table.specs.Views as seats
use Rattle.hold_table.specs.Rule.{IsHeld}
use Rattle.hold_table.specs.Words.{word_of}
use Rattle.hold_table.specs.Events.{Table, Stages, begun_as, cancelled, gathered_of, StandsFor, OfSteps, OfTables, SplitIs, JoinIs, UnbegunIs, LearnIs, AdvanceIs, CreateIs, DestroyIs, ReclaimIs, HandoverIs, NewIsOpening}
use Rattle.frame_swap.specs.Rule as swap_rule
use Rattle.frame_swap.specs.Events as rings
use Rattle.context_core.specs.Kept.{IsCore, IsTarget, AreTargets}
use Rattle.context_core.specs.Gathered.{anything}
use Rattle.context_core.specs.Places.{place_of, place_by}
use Rattle.context_core.specs.Calls.{IsPlacedBy, Lends, IsLentLast, Makes, with_lent, destroyed}
use Rattle.context_core.specs.Ended.{Gathers, MakesFrame}
use Rattle.context_core.specs.States.{CoreState, CoreView, own, core_of, state_of, opened_core}
use Rattle.context_core.proofs.Created.{IsMake, make_layout, make_vertices, make_indices, make_texture, make_target, make_program, serial_is_new, place_was_free}
use Rattle.context_core.proofs.Uniforms.{IsReferred, uniform_by}
use Rattle.context_core.proofs.Died.{place_is_live}
use Rattle.context_core.proofs.Targets.{index_below}
use Rattle.context_core.proofs.Ends.{as_given}
use Rattle.context_laws.specs.Runs as runs
use Rattle.context_laws.specs.Runs.{with_target, targets_in, StandsForOne, IsEvent, IsKept, OfCores}
use Rattle.context_laws.proofs.Basics.{when_some, map_some, then_some, ring_as, stands_as, no_work, back_most, out_more, out_less}

module _ {first : ℕ} {s : Table} (h : IsHeld first s) (v : CoreState) (me : h.me ≡ v.seat) where
  -- the first seat is the API's
  is_api : v.seat.role ≡ seats.api
  is_api = ap (λ (w : SeatView). w.role) (sym me) ∙ h.kept.is_api

-- ---- encoders begin and come back

few_begun : (v : CoreState) (room : Room) → frame_refusal (state_of v) (begin_encoder room) ≡ None → v.begun < 8
few_begun v room e = leb-false 8 v.begun (all_passed (frame_refusals (state_of v) (begin_encoder room)) e).1.0

pub lend : OfSteps SplitIs → OfCores runs.LendIs
lend split first s t h k x ring v m one kept table room l new lends still cuts seat =
    let is = split v.book.resources.latency first s t h k x m one.hold v.begun 0 v.seat (is_api h v one.seat) (let few = few_begun v room lends.accepted in let same = one.begun in omega (arith, few, same)) (one.given ∙ still) cuts in
    let same = when_some (nat_lt m.begun 8 && not m.is_given) (with_begun m) is.0 is.1 in
    subst (λ (c : CoreView). IsEvent k (begun_as (length s.views) x) ring c.state m begin) (sym lends.after) (record {
      after = is.0;
      allowed = is.1;
      stands = stands_as k (begun_as (length s.views) x) ring (with_lent v) (with_begun m) is.0 same (seat ∙ ap (λ (c : CoreView). c.state.seat) lends.after) is.2 (ring_as ring m (with_begun m) refl refl refl refl one.handed) one.rule
          one.given (let b = one.begun in omega (arith, b)) one.out;
    })

pub give_up : OfSteps UnbegunIs → OfSteps LearnIs → OfCores runs.GiveUpIs
give_up unbegun learn first s t h k x ring v m one kept i other w before mid at r j last found takes plays seat =
    let numbers : w.numbers ≡ [] = ap (λ (y : SeatView). y.numbers) last.fresh_still in
    let asked : w.asked ≡ [] = ap (λ (y : SeatView). y.asked) last.fresh_still in
    let is = unbegun v.book.resources.latency first s mid h j x m one.hold i 0 other v.seat w (is_api h v one.seat) found numbers asked takes in
    let learnt = learn v.book.resources.latency first mid t j k (cancelled i x) is.0 is.2 0 (gathered v.seat w) at r (is_api h v one.seat) plays in
    let got = then_some (λ (e : machine.Recorder). when (is_empty e.named && is_empty e.numbers) (without_begun i m)) (slice_get m.recorders i) is.0 is.1 in
    let same = when_some (is_empty got.0.named && is_empty got.0.numbers) (without_begun i m) is.0 got.1 in
    let latency : v.book.resources.latency ≡ before.book.resources.latency = ap (λ (c : CoreState). c.book.resources.latency) last.same_still in
    record {
      after = is.0;
      allowed = subst (λ (n : ℕ). step n m (cancel i) ≡ Some is.0) latency is.1;
      stands = stands_as k (cancelled i x) ring before (without_begun i m) is.0 same seat learnt (ring_as ring m (without_begun i m) refl refl refl refl one.handed) (subst (λ (n : ℕ). swap_rule.IsHeld n ring) latency one.rule)
          (one.given ∙ ap (λ (c : CoreState). c.is_given) last.same_still) (let b = one.begun in let e = ap (λ (c : CoreState). c.begun) last.same_still in omega (arith, b, e)) (one.out ∙ ap (λ (c : CoreState). c.out) last.same_still);
    }

pub gathers : OfSteps JoinIs → OfSteps LearnIs → OfCores runs.GatherIs
gathers join learn first s t h k x ring v m one kept table i other w r new mid at n j does found takes plays seat =
    let is = join v.book.resources.latency first s mid h j x m one.hold i 0 other v.seat w (is_api h v one.seat) found takes in
    let learnt = learn v.book.resources.latency first mid t j k (gathered_of i x) is.0 is.2 0 (gathered v.seat w) at n (is_api h v one.seat) plays in
    let got = map_some (λ (e : machine.Recorder). gathered_after i e m) (slice_get m.collected i) is.0 is.1 in
    let p : State = gathered_after i got.0 m in
    let after : CoreState = record v { seat = joined_with v.seat w; gathered = v.gathered ++ r ∷ [] } in
    subst (λ (c : CoreView). IsEvent k (gathered_of i x) ring c.state m (gather i)) (sym does.after) (record {
      after = is.0;
      allowed = is.1;
      stands = stands_as k (gathered_of i x) ring after p is.0 got.1 (seat ∙ ap (λ (c : CoreView). c.state.seat) does.after) learnt (ring_as ring m p refl refl refl refl one.handed) one.rule one.given one.begun one.out;
    })

-- ---- things are made and die

none_made : {h : Handle} {X : Type 0} → None ≡ Some h → X
none_made e = absurd cc

module _ (r : Resources) (h : Handle) (c : Change) (cs : List Change) where
  -- a call that gives a handle and changes something makes a thing
  make_of : (call : ResourceCall) → refusal_of r call ≡ None → (effect r call).made ≡ Some h → (effect r call).changes ≡ c ∷ cs → IsMake r (effect r call) h
  make_of (create_layout l) e m n = make_layout r h l e m
  make_of (create_vertex_buffer l bytes) e m n = make_vertices r h l bytes e m
  make_of (create_index_buffer bytes) e m n = make_indices r h bytes e m
  make_of (create_texture width height f d source) e m n = make_texture r h width height f d source e m
  make_of (create_frame_buffer color depth) e m n = make_target r h color depth e m
  make_of (create_program k) e m n = make_program r h k e m
  make_of (create_uniform name k) e m n = by_which (uniform_by r name k h (named_uniform r name) (all_passed (refusals r (create_uniform name k)) e).1 m) where
    by_which : IsMake r (effect r (create_uniform name k)) h ⊎ IsReferred r (effect r (create_uniform name k)) → IsMake r (effect r (create_uniform name k)) h
    by_which (inl i) = i
    by_which (inr i) = absurd (cc (sym i.changes ∙ n))
  make_of (update_buffer b o bytes) e m n = none_made m
  make_of (update_texture t rect bytes) e m n = none_made m
  make_of (destroy_call g) e m n = by_test (nat_lt 1 (references_of (find (is_at g.kind g.index) r.things))) m where
    by_test : (b : Bool) → (if b then no_change (on_thing (with_references (λ k. k - 1)) g.serial r) else no_change (die g r)).made ≡ Some h → IsMake r (effect r (destroy_call g)) h
    by_test true made = none_made made
    by_test false made = none_made made
  make_of (change_view v c) e m n = none_made m
  make_of (set_view_target v t) e m n = none_made m
  make_of (set_view_order ids) e m n = none_made m

placed_by : (cs : List Change) (c : Change) (ds : List Change) (h : Handle) (old new : SeatView) → cs ≡ c ∷ ds → IsPlacedBy cs h old new → (place_at old.places (place_of_handle h) ≡ free) × (new ≡ created (place_of_handle h) h.serial old)
placed_by cs c ds h old new e p = subst (λ xs. IsPlacedBy xs h old new) e p

pub makes : OfSteps CreateIs → OfCores runs.MakeIs
makes creates first s t h k x ring v m one kept table call handle new c cs at r does changes still word is_live plays seat =
    let made = make_of v.book.resources handle c cs call does.accepted does.made changes in
    let place = placed_by (effect v.book.resources call).changes c cs handle v.seat new.state.seat changes does.placed in
    let below : place_of_handle handle < place_count = subst (λ (g : Handle). place_of_handle g < 3776) (sym made.handle) (place_below made.kind _ (top_below made.kind plain (layout_content no_layout) v.book.resources kept.lawful made.some made.serial tt)) in
    let is = creates v.book.resources.latency first s t h k x m one.hold 0 (place_of_handle handle) handle.serial v.seat at r (is_api h v one.seat) word is_live below place.0 (serial_is_new made v.seat kept.core.tied) (one.given ∙ still) plays in
    let p : State = with_greatest handle.serial (with_place (place_of_handle handle) (live handle.serial) m) in
    let same = when_some (is_below (place_of_handle handle) (length m.places) && is_free (place_at m.places (place_of_handle handle)) && nat_lt m.greatest handle.serial && not m.is_given) p is.0 is.1 in
    let latency : v.book.resources.latency ≡ new.state.book.resources.latency = sym (ap (λ (y : CoreView). y.state.book.resources.latency) does.after ∙ (same_law v.book.resources call).1) in
    record {
      after = is.0;
      allowed = subst (λ (n : ℕ). step n m (create (place_of_handle handle) handle.serial) ≡ Some is.0) latency is.1;
      stands = stands_as k x ring new.state p is.0 same seat is.2 (ring_as ring m p refl refl refl refl one.handed) (subst (λ (n : ℕ). swap_rule.IsHeld n ring) latency one.rule)
          (one.given ∙ sym (ap (λ (y : CoreView). y.state.is_given) does.after)) (one.begun ∙ sym (ap (λ (y : CoreView). y.state.begun) does.after)) (one.out ∙ sym (ap (λ (y : CoreView). y.state.out) does.after));
    }

not_false : (b : Bool) → not b ≡ false → b ≡ true
not_false true e = refl
not_false false e = absurd cc

-- an accepted destroy is of a live thing
live_before : (r : Resources) (h : Handle) → refusal_of r (destroy_call h) ≡ None → is_live_handle r h ≡ true
live_before r h e = not_false (is_live_handle r h) (all_passed (refusals r (destroy_call h)) e).0

pub dies : OfSteps DestroyIs → OfCores runs.DieIs
dies destroys first s t h k x ring v m one kept table handle new at r does single still word is_dying plays seat =
    let res = v.book.resources in
    let found = live_found res handle kept.lawful (live_before res handle does.0) in
    let thing : Held = found.0 in
    let fits : thing.handle.index < greatest thing.handle.kind = all_found (λ u. u.handle.index < greatest u.handle.kind) (is_at handle.kind handle.index) res.things thing kept.lawful.fits found.1 in
    let here = place_is_live res v.seat handle thing kept.lawful kept.core.tied (index_below res.things handle thing found.1 fits) (record { found = found.1; serial = found.2; lives = found.3 }) in
    let is = destroys res.latency first s t h k x m one.hold 0 (place_of_handle handle) handle.serial v.seat at r (is_api h v one.seat) word is_dying here (one.given ∙ still) plays in
    let there : place_at m.places (place_of_handle handle) ≡ live handle.serial = ap (λ ps. place_at ps (place_of_handle handle)) (one.hold.places ∙ ap (λ (w : SeatView). w.places) one.seat) ∙ here in
    let p : State = with_place (place_of_handle handle) (dying handle.serial m.frame) m in
    let same = when_some (not m.is_given) p is.0 (ap (λ y. death_of (place_of_handle handle) m.frame m y) (sym there) ∙ is.1) in
    let latency : res.latency ≡ new.state.book.resources.latency = sym (ap (λ (y : CoreView). y.state.book.resources.latency) does.1 ∙ (same_law res (destroy_call handle)).1) in
    record {
      after = is.0;
      allowed = subst (λ (n : ℕ). step n m (destroy (place_of_handle handle)) ≡ Some is.0) latency is.1;
      stands = stands_as k x ring new.state p is.0 same seat is.2 (ring_as ring m p refl refl refl refl one.handed) (subst (λ (n : ℕ). swap_rule.IsHeld n ring) latency one.rule)
          (one.given ∙ sym (ap (λ (y : CoreView). y.state.is_given) does.1)) (one.begun ∙ sym (ap (λ (y : CoreView). y.state.begun) does.1)) (one.out ∙ sym (ap (λ (y : CoreView). y.state.out) does.1));
    }

-- ---- a frame is given

-- the frame buffers of views are in their places
usable_targets : (m : State) (frame : ℕ) (places : List Place) → m.frame ≡ frame → m.places ≡ places → (vs : List View) → AreTargets frame places vs → list_all (is_usable m m.frame) (targets_in vs) ≡ true
usable_targets m frame places ef ep [] a = refl
usable_targets m frame places ef ep (view ∷ vs) a = one_target view.target a.0 (usable_targets m frame places ef ep vs a.1) where
  one_target : (o : Option Handle) → IsTarget frame places o → list_all (is_usable m m.frame) (targets_in vs) ≡ true → list_all (is_usable m m.frame) (with_target o (targets_in vs)) ≡ true
  one_target None t rest = rest
  one_target (Some h) t rest =
      let here : is_usable m m.frame (record { place = place_of_handle h; serial = h.serial }) ≡ true = (λ j. has_usable (ef j) h.serial (place_at (ep j) (place_of_handle h))) ∙ t.1 in
      (λ j. here j && rest j)

pub gives : OfTables HandoverIs → rings.OfSteps rings.GiveIs → OfCores runs.GiveIs
gives handover gave first s t h k x ring v m one kept table work frame new u id end at r others does still none rule side plays =
    let number : frame.number ≡ m.frame = does.is_of.number ∙ kept.core.tied.frame ∙ sym (one.hold.frame ∙ ap (λ (w : SeatView). w.frame) one.seat) in
    let idle = no_work h x m one.hold (ap (λ (w : SeatView). w.off) one.seat ∙ none) in
    let usable = usable_targets m v.seat.frame v.seat.places (one.hold.frame ∙ ap (λ (w : SeatView). w.frame) one.seat) (one.hold.places ∙ ap (λ (w : SeatView). w.places) one.seat) v.book.resources.views.settings kept.core.targets in
    let targets : List Thing = targets_in v.book.resources.views.settings in
    let is = gave v.book.resources.latency ring u m one.rule rule one.handed id end at r frame others targets side number idle (one.given ∙ still) usable plays in
    let p : State = given_after targets m in
    let same = when_some (has_no_work m && not m.is_given && nat_lt (length (out m)) v.book.resources.latency && list_all (is_usable m m.frame) targets) p is.0 is.1 in
    subst (λ (c : CoreView). IsEvent h x u c.state m (give targets)) (sym does.same) (record {
      after = is.0;
      allowed = is.1;
      stands = record {
        seat = one.seat;
        hold = (handover v.book.resources.latency first s h x m one.hold is.0).0 targets is.1;
        handed = is.2;
        rule = rule;
        given = ap (λ (y : State). y.is_given) (sym same);
        begun = ap (λ (y : State). y.begun) (sym same) ∙ one.begun;
        out = ap (λ (y : State). length (out y)) (sym same) ∙ out_more m p (back_most ring m one.handed) refl (length-append m.given _) ∙ (let o = one.out in omega (arith, o));
      };
    })

-- ---- the next frame starts

pub advances : OfSteps AdvanceIs → OfCores runs.AdvanceIs
advances advanced_is first s t h k x ring v m one kept at r given plays seat =
    let off = (as_given anything kept.views v.seat v.begun v.gathered v.is_given given kept.core.gathered).none_off in
    let is = advanced_is v.book.resources.latency first s t h k x m one.hold 0 v.seat at r (is_api h v one.seat) off (one.given ∙ given) plays in
    let same = when_some m.is_given (machine.advanced m) is.0 is.1 in (
      is.0,
      is.1,
      is.2,
      subst (λ (y : State). rings.StandsFor ring y) same (ring_as ring m (machine.advanced m) refl refl refl refl one.handed),
      ap (λ (y : State). y.is_given) (sym same),
      ap (λ (y : State). y.begun) (sym same),
      ap (λ (y : State). length (out y)) (sym same) ∙ one.out,
    )

-- a thing that is not kept died so long ago that its death is over
over_place : (o : Option ℕ) (serial latency frame : ℕ) → is_kept_death latency frame o ≡ false → (d : ℕ) × (place_by serial o ≡ dying serial d) × (d + 1 + latency ≤ frame)
over_place None serial latency frame e = absurd cc
over_place (Some d) serial latency frame e = (d, refl, leb-true (d + 1 + latency) frame (not_true (is_over latency frame d) e)) where
  not_true : (b : Bool) → not b ≡ false → b ≡ true
  not_true true e = refl
  not_true false e = absurd cc

pub reclaims : OfSteps ReclaimIs → runs.ReclaimIs
reclaims freed first s t h k x m v st kept kind index thing at r lt found gone frame place word plays =
    let over = over_place thing.death thing.handle.serial v.book.resources.latency (v.book.resources.frame + 1) gone in
    let here : place_at h.me.places (first_place kind + index) ≡ dying thing.handle.serial over.0 = place ∙ kept.core.tied.placed kind index lt ∙ ap place_of found ∙ over.1 in
    let same = kept.core.tied.frame in
    let long = over.2 in
    freed v.book.resources.latency first s t h k x m st 0 (first_place kind + index) thing.handle.serial over.0 h.me at r h.kept.is_api word here (omega (arith, frame, same, long)) plays

-- ---- frames come back, and are rendered

pub backs : OfTables HandoverIs → OfCores runs.BackIs
backs handover first s t h k x ring v m one kept u rule less is =
    let got = map_some (with_back m) (slice_get m.returned (length m.back)) is.0 is.1 in
    let p : State = with_back m got.0 in
    record {
      after = is.0;
      allowed = is.1;
      stands = record {
        seat = one.seat;
        hold = (handover v.book.resources.latency first s h x m one.hold is.0).1 is.1;
        handed = is.2;
        rule = rule;
        given = ap (λ (y : State). y.is_given) (sym got.1) ∙ one.given;
        begun = ap (λ (y : State). y.begun) (sym got.1) ∙ one.begun;
        out = ap (λ (y : State). length (out y)) (sym got.1) ∙ out_less m p (length-append m.back _) refl ∙ ap (λ (n : ℕ). n - 1) one.out;
      };
    }

pub hands : OfTables HandoverIs → OfCores runs.HandIs
hands handover first s t h k x ring v m one kept u rule = (taken, returned) where
  taken : rings.IsEvent v.book.resources.latency u m take_frame → IsEvent h x u v m take_frame
  taken is =
      let got = map_some (with_taken m) (slice_get m.given (length m.taken)) is.0 is.1 in
      record {
        after = is.0;
        allowed = is.1;
        stands = stands_as h x u v (with_taken m got.0) is.0 got.1 one.seat ((handover v.book.resources.latency first s h x m one.hold is.0).2 is.1) (subst (λ (y : State). rings.StandsFor u y) (sym got.1) is.2) rule one.given one.begun one.out;
      }

  returned : (o : Outcome) → rings.IsEvent v.book.resources.latency u m (return_frame o) → IsEvent h x u v m (return_frame o)
  returned o is =
      let got = map_some (with_returned o m) (slice_get m.taken (length m.returned)) is.0 is.1 in
      record {
        after = is.0;
        allowed = is.1;
        stands = stands_as h x u v (with_returned o m got.0) is.0 got.1 one.seat ((handover v.book.resources.latency first s h x m one.hold is.0).3 o is.1) (subst (λ (y : State). rings.StandsFor u y) (sym got.1) is.2) rule one.given one.begun one.out;
      }

same_view : (v w : SeatView) → some v ≡ some w → v ≡ w
same_view v w e = cc e

-- the API's seat of a new table
first_seat : {f : ℕ} {s : Table} (h : IsHeld f s) → s.views ≡ seats.first_view f ∷ [] → h.me ≡ seats.first_view f
first_seat {f} {s} h views = same_view h.me (seats.first_view f) (sym h.kept.at_api ∙ ap (λ vs. get_elem? vs 0) views)

pub opens : NewIsOpening → rings.NewIsOpening → runs.NewIs
opens new_hold new_ring start s h ring views rule rings_views = record {
  seat = first_seat h views;
  hold = new_hold start.frame s h views;
  handed = new_ring start.latency start.frame ring rings_views;
  rule = rule;
  given = refl;
  begun = refl;
  out = refl;
}

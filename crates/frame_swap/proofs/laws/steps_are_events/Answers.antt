use Rattle.std.proofs.Common.{◌≡◌, ◌≢◌, ℕ, true, List, [], ◌∷◌, ◌++◌, set, slice_index, sym, refl, ap, ◌∙◌, subst, ⊎_elim}
use Rattle.atomic_table.specs.Table.{Step, stepped}
use Rattle.atomic_table.proofs.Lists.{set_else}
use mathlib.Core.Option.{some}
use mathlib.Core.Logic.{dite}
use native.Mathlib.Decide.{ℕ_discrete}
use lib.ListN.{get_elem?}
use Rattle.schedule_model.specs.Machine.{given_after}
use Rattle.frame_swap.specs.Views.{api, render, SwapView, Slot, Mine, first_view, spent_view, claimed_one, gave, took, saw, gave_back, came, stopped, missed, parted, render_view, united}
use Rattle.frame_swap.specs.Rule.{IsHeld}
use Rattle.frame_swap.specs.Events.{Table, is_same, Ends, Stands, IsPlayed}
use Rattle.frame_swap.proofs.Steps.{api_at}
use Rattle.frame_swap.proofs.Parts.{each_stands}
use Rattle.frame_swap.proofs.Events.{api_next, render_next, whole_other, whole_next, split_ends, join_ends, Lengths, same_lengths, lengths, nothing_happens, give_event, take_event, return_event, back_event}
use Rattle.frame_swap.proofs.laws.steps_are_events.Goals as goal

-- the API's seat is the first, and its view is the API's
own : (latency : ℕ) (s : Table) (h : IsHeld latency s) (me other : SwapView) (id : ℕ) (v : SwapView) → Ends s.views me other → get_elem? s.views id ≡ some v → v.side ≡ api → (id ≡ 0) × (v ≡ me)
own latency s h me other id v e at side = let one = api_at h.ring.kept id v at side in (one.0, one.1 ∙ sym (api_at h.ring.kept 0 me e.first e.is_api).1)

-- the views after a step by which the API's view becomes f of it
after_own : (s t : Table) (f : SwapView → SwapView) (me v w : SwapView) (id : ℕ) → t.views ≡ set s.views id w → w ≡ f v → id ≡ 0 → v ≡ me → t.views ≡ set s.views 0 (f me)
after_own s t f me v w id views is zeroth same = views ∙ ap (λ (y : SwapView). set s.views id y) is ∙ (λ j. set s.views (zeroth j) (f (same j)))

ends_after : (s t : Table) (views : List SwapView) (me other : SwapView) → t.views ≡ views → Ends views me other → Ends t.views me other
ends_after s t views me other e x = subst (λ (vs : List SwapView). Ends vs me other) (sym e) x

pub returns-clause-give : goal.returns-clause-give
returns-clause-give c latency s t m h k x id v at r f others targets side number work free usable p =
    let me = x.0 in
    let other = x.1 in
    let e = x.2 in
    let o = own latency s h me other id v e p.was side in
    let views = after_own s t (gave f) me v p.w id (ap (λ (u : Table). u.views) p.after) (ap (λ (y : Mine). y.0) (p.told f others refl)) o.0 o.1 in
    let next = api_next s.views me (gave f me) other e e.is_api refl refl refl in
    let ends = ends_after s t (set s.views 0 (gave f me)) (gave f me) next.next views next.ends in
    let event = give_event latency me other next.next m f targets (lengths h.ring me other e) (lengths k.ring (gave f me) next.next ends) next.taken next.returned number work free usable x.3 in
    (given_after targets m, event.0, (gave f me, next.next, ends, event.1))

pub returns-clause-take : goal.returns-clause-take
returns-clause-take c latency s t m h k x id v hand at r side p =
    let me = x.0 in
    let other = x.1 in
    let e = x.2 in
    let views = ap (λ (u : Table). u.views) p.after in (
      (λ one.
          let told = p.told.0 one in
          let is : p.w ≡ took told.0 v = ap (λ (y : Mine). y.0) told.1 in
          let n = render_next h.ring me other v (took told.0 v) id e p.was side side in
          let ends = ends_after s t (set s.views id (took told.0 v)) me (took told.0 v) (views ∙ ap (λ (y : SwapView). set s.views id y) is) n.1 in
          let ends' = subst (λ (y : SwapView). Ends t.views me (took told.0 y)) n.0 ends in
          let event = take_event latency me other m told.0 (lengths k.ring me (took told.0 other) ends') x.3 in
          (event.0, event.1, (me, took told.0 other, ends', event.2))),
      (λ not_one. dite (ℕ_discrete r 4)
          (λ (four : r ≡ 4).
          let is : p.w ≡ saw v = ap (λ (y : Mine). y.0) (p.told.1 four) in
          let n = render_next h.ring me other v (saw v) id e p.was side side in
          let ends = ends_after s t (set s.views id (saw v)) me (saw v) (views ∙ ap (λ (y : SwapView). set s.views id y) is) n.1 in
          (me, saw v, ends, nothing_happens me me other (saw v) m refl refl (ap (λ (y : SwapView). y.taken) n.0) (ap (λ (y : SwapView). y.returned) n.0) x.3))
          (λ (not_four : r ≢ 4).
          let is : p.w ≡ missed v = ap (λ (y : Mine). y.0) (p.told.2 not_one not_four).1 in
          let n = render_next h.ring me other v (missed v) id e p.was side side in
          let ends = ends_after s t (set s.views id (missed v)) me (missed v) (views ∙ ap (λ (y : SwapView). set s.views id y) is) n.1 in
          (me, missed v, ends, nothing_happens me me other (missed v) m refl refl (ap (λ (y : SwapView). y.taken) n.0) (ap (λ (y : SwapView). y.returned) n.0) x.3))),
    )

pub returns-clause-give_back : goal.returns-clause-give_back
returns-clause-give_back c latency s t m h k x id v at r b others side p =
    ⊎_elim
    (λ (is_render : v.side ≡ render).
    let n = render_next h.ring me other v (gave_back b v) id e p.was is_render is_render in
    let ends = ends_after s t (set s.views id (gave_back b v)) me (gave_back b v) (views ∙ ap (λ (y : SwapView). set s.views id y) is) n.1 in
    let ends' = subst (λ (y : SwapView). Ends t.views me (gave_back b y)) n.0 ends in
    let event = return_event latency me other m b (lengths h.ring me other e) (lengths k.ring me (gave_back b other) ends') x.3 in
    (event.0, event.1, (me, gave_back b other, ends', event.2)))
    (λ (whole : (v.side ≡ api) × (v.is_whole ≡ true)).
    let o = own latency s h me other id v e p.was whole.0 in
    let all : me.is_whole ≡ true = ap (λ (y : SwapView). y.is_whole) (sym o.1) ∙ whole.1 in
    let same = whole_other h.ring me other e all in
    let after = after_own s t (gave_back b) me v p.w id views is o.0 o.1 in
    let ends = ends_after s t (set s.views 0 (gave_back b me)) (gave_back b me) (gave_back b me) after (whole_next s.views me (gave_back b me) e.first e.is_api all) in
    let long = same_lengths me (gave_back b me) (gave_back b me) refl refl (lengths k.ring (gave_back b me) (gave_back b me) ends) in
    let old = subst (λ (y : SwapView). Lengths latency me y) same (lengths h.ring me other e) in
    let event = return_event latency me me m b old long (subst (λ (y : SwapView). Stands me y m) same x.3) in
    (event.0, event.1, (gave_back b me, gave_back b me, ends, nothing_happens me (gave_back b me) (gave_back b me) (gave_back b me) event.0 refl refl refl refl event.2)))
    side
  where
    me : SwapView
    me = x.0

    other : SwapView
    other = x.1

    e : Ends s.views me other
    e = x.2

    is : p.w ≡ gave_back b v
    is = ap (λ (y : Mine). y.0) (p.told b others refl)

    views : t.views ≡ set s.views id p.w
    views = ap (λ (u : Table). u.views) p.after

pub returns-clause-take_back : goal.returns-clause-take_back
returns-clause-take_back c latency s t m h k x id v hand at r side p =
    let me = x.0 in
    let other = x.1 in
    let e = x.2 in
    let o = own latency s h me other id v e p.was side in
    let views = ap (λ (u : Table). u.views) p.after in (
      (λ three.
          let told = p.told.0 three in
          let b = told.0 in
          let after = after_own s t (came b) me v p.w id views (ap (λ (y : Mine). y.0) told.1) o.0 o.1 in
          let next = api_next s.views me (came b me) other e e.is_api refl refl refl in
          let ends = ends_after s t (set s.views 0 (came b me)) (came b me) next.next after next.ends in
          let event = back_event latency me other next.next m b (lengths k.ring (came b me) next.next ends) next.taken next.returned x.3 in
          (event.0, event.1, (came b me, next.next, ends, event.2))),
      (λ not_three.
          let after = after_own s t missed me v p.w id views (ap (λ (y : Mine). y.0) (p.told.1 not_three).1) o.0 o.1 in
          let next = api_next s.views me (missed me) other e e.is_api refl refl refl in
          let ends = ends_after s t (set s.views 0 (missed me)) (missed me) next.next after next.ends in
          (missed me, next.next, ends, nothing_happens me (missed me) other next.next m refl refl next.taken next.returned x.3)),
    )

pub returns-clause-take_here : goal.returns-clause-take_here
returns-clause-take_here c latency s t m h k x id v hand at r f side whole last p =
    let me = x.0 in
    let other = x.1 in
    let e = x.2 in
    let o = own latency s h me other id v e p.was side in
    let all : me.is_whole ≡ true = ap (λ (y : SwapView). y.is_whole) (sym o.1) ∙ whole in
    let same = whole_other h.ring me other e all in
    let after = after_own s t (took f) me v p.w id (ap (λ (u : Table). u.views) p.after) (ap (λ (y : Mine). y.0) (p.told f last)) o.0 o.1 in
    let ends = ends_after s t (set s.views 0 (took f me)) (took f me) (took f me) after (whole_next s.views me (took f me) e.first e.is_api all) in
    let long = same_lengths me (took f me) (took f me) refl refl (lengths k.ring (took f me) (took f me) ends) in
    let event = take_event latency me me m f long (subst (λ (y : SwapView). Stands me y m) same x.3) in
    (event.0, event.1, (took f me, took f me, ends, nothing_happens me (took f me) (took f me) (took f me) event.0 refl refl refl refl event.2))

pub returns-clause-back_here : goal.returns-clause-back_here
returns-clause-back_here c latency s t m h k x id v hand at r side p =
    let me = x.0 in
    let other = x.1 in
    let e = x.2 in
    let o = own latency s h me other id v e p.was side in
    let told = p.told in
    let b = told.0 in
    let after = after_own s t (came b) me v p.w id (ap (λ (u : Table). u.views) p.after) (ap (λ (y : Mine). y.0) told.1) o.0 o.1 in
    let next = api_next s.views me (came b me) other e e.is_api refl refl refl in
    let ends = ends_after s t (set s.views 0 (came b me)) (came b me) next.next after next.ends in
    let event = back_event latency me other next.next m b (lengths k.ring (came b me) next.next ends) next.taken next.returned x.3 in
    (event.0, event.1, (came b me, next.next, ends, event.2))

pub returns-clause-split : goal.returns-clause-split
returns-clause-split c latency s t m h k x id v side whole p =
    let me = x.0 in
    let other = x.1 in
    let e = x.2 in
    let o = own latency s h me other id v e p.was side in
    let same = whole_other h.ring me other e (ap (λ (y : SwapView). y.is_whole) (sym o.1) ∙ whole) in
    let after : t.views ≡ set s.views 0 (parted me) ++ render_view me ∷ [] = ap (λ (u : Table). u.views) p.after ∙ (λ j. set s.views (o.0 j) (parted (o.1 j)) ++ render_view (o.1 j) ∷ []) in
    let ends = ends_after s t (set s.views 0 (parted me) ++ render_view me ∷ []) (parted me) (render_view me) after (split_ends s.views me e.first e.is_api) in
    (parted me, render_view me, ends, nothing_happens me (parted me) other (render_view me) m refl refl (ap (λ (y : SwapView). y.taken) (sym same)) (ap (λ (y : SwapView). y.returned) (sym same)) x.3)

pub returns-clause-join : goal.returns-clause-join
returns-clause-join c latency s t m h k x id beside v w side is_render p =
    let me = x.0 in
    let other = x.1 in
    let e = x.2 in
    let o = own latency s h me other id v e p.was side in
    let same : w ≡ other = (render_next h.ring me other w w beside e p.there is_render is_render).0 in
    let after : t.views ≡ set (set s.views 0 (united me w)) beside spent_view = ap (λ (u : Table). u.views) p.after ∙ (λ j. set (set s.views (o.0 j) (united (o.1 j) w)) beside spent_view) in
    let ends = ends_after s t (set (set s.views 0 (united me w)) beside spent_view) (united me w) (united me w) after (join_ends s.views me w beside e.first e.is_api (λ (z : beside ≡ 0). p.apart (z ∙ sym o.0))) in
    (united me w, united me w, ends, nothing_happens me (united me w) other (united me w) m refl refl (ap (λ (y : SwapView). y.taken) same) (ap (λ (y : SwapView). y.returned) same) x.3)

pub returns-clause-learn : goal.returns-clause-learn
returns-clause-learn c latency s t m h k x id v hand at r side p =
    let me = x.0 in
    let other = x.1 in
    let e = x.2 in
    let o = own latency s h me other id v e p.was side in
    let after = after_own s t (λ y. y) me v p.w id (ap (λ (u : Table). u.views) p.after) (ap (λ (y : Mine). y.0) p.told.0) o.0 o.1 in
    let next = api_next s.views me me other e e.is_api refl refl refl in
    let ends = ends_after s t (set s.views 0 me) me next.next after next.ends in
    (me, next.next, ends, nothing_happens me me other next.next m refl refl next.taken next.returned x.3)

pub returns-clause-each : goal.returns-clause-each
returns-clause-each c latency s h = let e = each_stands h.ring in (e.0, (e.1, e.2, e.3, e.4))

played : (then : Step Slot → Mine → ℕ → Mine → Type 0) → IsPlayed then
played then latency slots id v hand at f tells allows s h long was small =
    let a = allows s h long was small in
    (stepped s at.word (f (slice_index s.words at.word)) id hand a.0 a.1, a.3, record { was = was; written = f (slice_index s.words at.word); act = a.1; w = a.0; after = refl; told = a.4 })

pub returns-clause-played : goal.returns-clause-played
returns-clause-played c = (
  played _,
  played _,
  played _,
  played _,
  played _,
  played _,
  played _,
  played _,
  played _,
  (λ latency id v splits s h was. (_, splits s h was, record { was = was; after = refl })),
  (λ latency id v other w joins s h was apart there. (_, joins s h was apart (set_else s.views id other (united v w) apart ∙ there), record { was = was; apart = apart; there = there; after = refl })),
)

pub returns-clause-claim : goal.returns-clause-claim
returns-clause-claim c latency s t m h k x id v hand at r side p =
    let me = x.0 in
    let other = x.1 in
    let e = x.2 in
    let o = own latency s h me other id v e p.was side in
    let after = after_own s t claimed_one me v p.w id (ap (λ (u : Table). u.views) p.after) (ap (λ (y : Mine). y.0) p.told) o.0 o.1 in
    let next = api_next s.views me (claimed_one me) other e e.is_api refl refl refl in
    let ends = ends_after s t (set s.views 0 (claimed_one me)) (claimed_one me) next.next after next.ends in
    (claimed_one me, next.next, ends, nothing_happens me (claimed_one me) other next.next m refl refl next.taken next.returned x.3)

pub returns-clause-stop : goal.returns-clause-stop
returns-clause-stop c latency s t m h k x id v hand at r side p =
    let me = x.0 in
    let other = x.1 in
    let e = x.2 in
    let o = own latency s h me other id v e p.was side in
    let after = after_own s t stopped me v p.w id (ap (λ (u : Table). u.views) p.after) (ap (λ (y : Mine). y.0) p.told) o.0 o.1 in
    let next = api_next s.views me (stopped me) other e e.is_api refl refl refl in
    let ends = ends_after s t (set s.views 0 (stopped me)) (stopped me) next.next after next.ends in
    (stopped me, next.next, ends, nothing_happens me (stopped me) other next.next m refl refl next.taken next.returned x.3)

pub returns-clause-new_table : goal.returns-clause-new_table
returns-clause-new_table c latency first s e =
    let ends : Ends (first_view ∷ []) first_view first_view = record { first = refl; is_api = refl; second = is_same refl refl } in
    (first_view, first_view, subst (λ (vs : List SwapView). Ends vs first_view first_view) (sym e) ends, record { given = refl; taken = refl; returned = refl; outcomes = refl; back = refl })

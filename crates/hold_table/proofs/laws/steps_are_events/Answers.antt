use Rattle.std.proofs.Common.{◌≡◌, ℕ, ◌+◌, ◌<◌, ◌≤◌, [], ◌∷◌, ◌++◌, set, slice_index, length, sym, refl, ap, ◌∙◌, subst, arith}
use mathlib.Core.Option.{some}
use Rattle.atomic_table.specs.Table.{Step, stepped}
use lib.ListN.{get_elem?}
use Rattle.schedule_model.specs.Machine.{free, dying, place_at}
use Rattle.hold_table.specs.Words.{word_of}
use Rattle.hold_table.specs.Rule.{IsHeld}
use Rattle.hold_table.specs.Views.{api, SeatView, spent_view, Mine, lent, fresh, gathered, learnt, advanced, drawn, asks, created, placed}
use Rattle.hold_table.specs.Events.{Table, IsPlayed}
use Rattle.hold_table.proofs.Keeps.{api_at}
use Rattle.hold_table.proofs.PlaceLaws.{word_at}
use Rattle.hold_table.proofs.Events.{split_event, join_event, unbegun_event, learn_none, draw_event, advance_event, ask_none, name_event, create_event, destroy_event, reclaim_event, end_event, collect_event}
use Rattle.atomic_table.proofs.Lists.{set_else}
use Rattle.hold_table.proofs.Each.{each_stands}
use Rattle.hold_table.proofs.laws.steps_are_events.Goals as goal

-- the API's seat is the first, and its view is the API's
abbrev Own : (first : ℕ) (s : Table) → IsHeld first s → ℕ → SeatView → Type 0
Own first s h id v = (id ≡ 0) × (v ≡ h.me)

own : (first : ℕ) (s : Table) (h : IsHeld first s) (id : ℕ) (v : SeatView) → get_elem? s.views id ≡ some v → v.role ≡ api → Own first s h id v
own first s h id v at is = api_at first h.me h.counter s.views h.kept id v at is

-- the views after a step by which the view of a seat becomes f of it
views_after : (s t : Table) (id : ℕ) (w : SeatView) → t.views ≡ set s.views id w → (w' : SeatView) → w ≡ w' → t.views ≡ set s.views id w'
views_after s t id w e w' is = e ∙ ap (λ (y : SeatView). set s.views id y) is

own_views : (f : SeatView → SeatView) (first : ℕ) (s t : Table) (h : IsHeld first s) (id : ℕ) (v : SeatView) → Own first s h id v → t.views ≡ set s.views id (f v) → t.views ≡ set s.views 0 (f h.me)
own_views f first s t h id v o e = e ∙ (λ j. set s.views (o.0 j) (f (o.1 j)))

pub returns-clause-split : goal.returns-clause-split
returns-clause-split c latency first s t h k x m st e id v is few not_given p =
    let o = own first s h id v p.was is in
    split_event latency first h.me k.me h.counter k.counter s.views t.views h.kept k.kept x m st e few not_given (ap (λ (u : Table). u.views) p.after ∙ (λ j. set s.views (o.0 j) (lent e (o.1 j)) ++ fresh e (o.1 j) ∷ []))

pub returns-clause-join : goal.returns-clause-join
returns-clause-join c latency first s t h k x m st i id other v w is found p =
    let o = own first s h id v p.was is in
    join_event latency first h.me k.me h.counter k.counter s.views t.views h.kept k.kept x m st i other w found (λ (z : other ≡ 0). p.apart (z ∙ sym o.0)) p.there (ap (λ (u : Table). u.views) p.after ∙ (λ j. set (set s.views (o.0 j) (gathered (o.1 j) w)) other spent_view))

pub returns-clause-unbegun : goal.returns-clause-unbegun
returns-clause-unbegun c latency first s t h k x m st i id other v w is found no_numbers no_asked p =
    let o = own first s h id v p.was is in
    unbegun_event latency first h.me k.me h.counter k.counter s.views t.views h.kept k.kept x m st i other w found no_numbers no_asked (λ (z : other ≡ 0). p.apart (z ∙ sym o.0)) p.there (ap (λ (u : Table). u.views) p.after ∙ (λ j. set (set s.views (o.0 j) (gathered (o.1 j) w)) other spent_view))

pub returns-clause-learn : goal.returns-clause-learn
returns-clause-learn c latency first s t h k x m st id v at r is p =
    let o = own first s h id v p.was is in
    let after = views_after s t id p.w (ap (λ (u : Table). u.views) p.after) (learnt v) (ap (λ (y : Mine). y.0) p.told.0) in
    learn_none latency first h.me k.me h.counter k.counter s.views t.views h.kept k.kept x m st (own_views learnt first s t h id v o after)

pub returns-clause-draw : goal.returns-clause-draw
returns-clause-draw c latency first s t h k x m st i id v at r found p =
    let after = views_after s t id p.w (ap (λ (u : Table). u.views) p.after) (drawn r v) (ap (λ (y : Mine). y.0) p.told.0) in
    draw_event latency first h.me k.me h.counter k.counter s.views t.views h.kept k.kept x m st i id r v found p.was after

pub returns-clause-advance : goal.returns-clause-advance
returns-clause-advance c latency first s t h k x m st id v at r is off given p =
    let o = own first s h id v p.was is in
    let after = views_after s t id p.w (ap (λ (u : Table). u.views) p.after) (advanced r v) (ap (λ (y : Mine). y.0) p.told.0) in
    advance_event latency first h.me k.me h.counter k.counter s.views t.views h.kept k.kept x m st r (ap (λ (u : SeatView). u.off) (sym o.1) ∙ off) (ap (λ (u : SeatView). u.base + length u.numbers) (sym o.1) ∙ p.told.2) given (own_views (advanced r) first s t h id v o after)

pub returns-clause-ask : goal.returns-clause-ask
returns-clause-ask c latency first s t h k x m st i id q v at r found word load p serial =
    let told = p.told q word in
    let after = views_after s t id p.w (ap (λ (u : Table). u.views) p.after) (asks q r v) (ap (λ (y : Mine). y.0) told.0) in
    let is : r ≡ word_of (place_at h.me.places q) = load ∙ (λ j. slice_index (h.words j) (word j)) ∙ word_at h.me.places q in (
      (λ usable. name_event latency first h.me k.me h.counter k.counter s.views t.views h.kept k.kept x m st i id q r serial v found p.was is usable after),
      (λ _. ask_none latency first h.me k.me h.counter k.counter s.views t.views h.kept k.kept x m st i id q r v found p.was after),
    )

pub returns-clause-create : goal.returns-clause-create
returns-clause-create c latency first s t h k x m st id q serial v at r is word value near is_free new not_given p =
    let o = own first s h id v p.was is in
    let after = views_after s t id p.w (ap (λ (u : Table). u.views) p.after) (created q serial v) (ap (λ (y : Mine). y.0) (p.told q serial word value)) in
    let many = h.many in
    create_event latency first h.me k.me h.counter k.counter s.views t.views h.kept k.kept x m st q serial (omega arith) (ap (λ (u : SeatView). place_at u.places q) (sym o.1) ∙ is_free) (subst (λ (u : SeatView). u.greatest < serial) o.1 new) not_given (own_views (created q serial) first s t h id v o after)

pub returns-clause-destroy : goal.returns-clause-destroy
returns-clause-destroy c latency first s t h k x m st id q serial v at r is word value is_live not_given p =
    let o = own first s h id v p.was is in
    let after = views_after s t id p.w (ap (λ (u : Table). u.views) p.after) (placed q (dying serial v.frame) v) (ap (λ (y : Mine). y.0) (p.told q serial word value)) in
    destroy_event latency first h.me k.me h.counter k.counter s.views t.views h.kept k.kept x m st q serial (ap (λ (u : SeatView). place_at u.places q) (sym o.1) ∙ is_live) not_given (own_views (λ u. placed q (dying serial u.frame) u) first s t h id v o after)

pub returns-clause-reclaim : goal.returns-clause-reclaim
returns-clause-reclaim c latency first s t h k x m st id q serial death v at r is word is_dying over p =
    let o = own first s h id v p.was is in
    let after = views_after s t id p.w (ap (λ (u : Table). u.views) p.after) (placed q free v) (ap (λ (y : Mine). y.0) (p.told q word)) in
    reclaim_event latency first h.me k.me h.counter k.counter s.views t.views h.kept k.kept x m st q serial death (ap (λ (u : SeatView). place_at u.places q) (sym o.1) ∙ is_dying) (subst (λ (u : SeatView). death + 1 + latency ≤ u.frame) o.1 over) (own_views (placed q free) first s t h id v o after)

pub returns-clause-end : goal.returns-clause-end
returns-clause-end c latency first s h x m st = end_event latency h.me h.counter s.views x m st

pub returns-clause-collect : goal.returns-clause-collect
returns-clause-collect c latency first s h x m st = collect_event latency h.me h.counter s.views x m st

played : (then : Step (Unit {0}) → Mine → ℕ → Mine → Type 0) → IsPlayed then
played then first slots id v hand at f tells allows s h long was small =
    let a = allows s h long was small in
    (stepped s at.word (f (slice_index s.words at.word)) id hand a.0 a.1, a.3, record { was = was; hand = hand; written = f (slice_index s.words at.word); act = a.1; w = a.0; after = refl; told = a.4 })

pub returns-clause-played : goal.returns-clause-played
returns-clause-played c = (
  played _,
  played _,
  played _,
  played _,
  played _,
  played _,
  played _,
  (λ first id v other w joins s h was apart there. (_, joins s h was apart (set_else s.views id other (gathered v w) apart ∙ there), record { was = was; apart = apart; there = there; after = refl })),
  (λ e first id v splits s h was. (_, splits s h was, record { was = was; after = refl })),
)

pub returns-clause-each : goal.returns-clause-each
returns-clause-each c first s h = each_stands first h.me h.counter s.views h.kept

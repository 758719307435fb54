use Rattle.std.proofs.Common.{◌≡◌, List, [], ◌∷◌, ◌++◌, set, slice_get, Some, ℕ, sym, refl, ap, ◌∙◌, subst}
use Rattle.std.proofs.lemmas.List.{map-append}
use Rattle.schedule_model.specs.Machine.{without}
use Rattle.draw_encoder.specs.Posts.{Posted, seat_of, seats_in, IsBalanced}
use Rattle.draw_encoder.specs.QueueEvents.{Queue}
use Rattle.draw_encoder.proofs.Balance.{begins}
use Rattle.draw_encoder.proofs.laws.queue_steps_are_events.Goals as goal

pub returns-clause-new : goal.returns-clause-new
returns-clause-new c first s h is = record { table = c.steps_are_events.ensures.new_table first s h is; queue = refl }

pub returns-clause-new_queue : goal.returns-clause-new_queue
returns-clause-new_queue c = begins

pub returns-clause-push : goal.returns-clause-push
returns-clause-push c latency first s h q x m st i pass v b r found p =
    let e = c.steps_are_events.ensures.end latency first s h x m st.table i (seat_of b) found in
    let behind : seats_in r.items ≡ seats_in q.items ++ seat_of b ∷ [] = ap (λ (u : Queue). seats_in u.items) p.after ∙ map-append seat_of q.items (b ∷ []) in
    (e.0, e.1, record { table = e.2; queue = ap (λ (l : List ℕ). l ++ seat_of b ∷ []) st.queue ∙ sym behind })

pub returns-clause-pop : goal.returns-clause-pop
returns-clause-pop c latency first s h q x m st pass v b r p =
    let waits : x.waiting ≡ seat_of b ∷ seats_in r.items = st.queue ∙ ap seats_in p.first in
    let found : slice_get x.waiting 0 ≡ Some (seat_of b) = ap (λ (l : List ℕ). slice_get l 0) waits in
    let e = c.steps_are_events.ensures.collect latency first s h x m st.table 0 (seat_of b) found in
    (e.0, e.1, record { table = e.2; queue = ap (λ (l : List ℕ). without l 0) waits })

pub returns-clause-pass : goal.returns-clause-pass
returns-clause-pass c latency first s h q x m st = record { table = st.table; queue = st.queue }

pub returns-clause-table : goal.returns-clause-table
returns-clause-table c first s t h k q x y m n st after same = record { table = after; queue = same ∙ st.queue }

pub returns-clause-pushed : goal.returns-clause-pushed
returns-clause-pushed c room pass v b allows q kept few was =
    let a = allows q.items q.views few kept was in
    (record { items = q.items ++ b ∷ []; views = set q.views pass a.0 }, a.1, record { was = was; w = a.0; after = refl; told = a.2 })

pub returns-clause-popped : goal.returns-clause-popped
returns-clause-popped c pass v allows q b rest is kept was =
    let a = allows b rest q.views (subst (λ (l : List Posted). IsBalanced l q.views) is kept) was in
    (record { items = rest; views = set q.views pass a.0 }, a.1, record { was = was; first = is; w = a.0; views = refl; told = a.2 })

pub returns-clause-admitted : goal.returns-clause-admitted
returns-clause-admitted c allows q kept = allows q.items q.views kept

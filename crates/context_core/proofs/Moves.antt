-- What a context keeps where places and the state of the calls change.
use Rattle.std.proofs.Common.{◌≡◌, ℕ, ◌≤◌, Bool, true, false, List, sym, ◌∙◌, subst, arith}
use Rattle.std.specs.Prelude.{⊤}
use Rattle.gfx_model.specs.Views.{view_count}
use Rattle.gfx_model.specs.World.{Item}
use Rattle.schedule_model.specs.Machine.{Place}
use Rattle.hold_table.specs.Views.{SeatView}
use Rattle.draw_encoder.specs.declared.items.Recording.{Recording}
use Rattle.resource_book.specs.Written.{BookView}
use Rattle.context_core.specs.Gathered.{AreGathered, HasGathered}
use Rattle.context_core.specs.Kept.{IsTied, IsNext, AreTargets, IsCore}
use Rattle.context_core.specs.States.{CoreState}
use Rattle.context_core.specs.Places.{Stays}
use Rattle.context_core.proofs.Stays.{all_stay}

module _ (admits : ℕ → ℕ → List Item → ℕ → Type 0) (views : ℕ) where
  pub gathered_stays : (seat : SeatView) (begun : ℕ) (rs : List Recording) (places : List Place) (greatest : ℕ) → Stays seat.frame seat.places places → AreGathered admits views seat begun rs
      → AreGathered admits views (record seat { places = places; greatest = greatest }) begun rs
  gathered_stays seat begun rs places greatest s g = record {
    count = g.count;
    once = g.once;
    joined = g.joined;
    numbers = g.numbers;
    apart = g.apart;
    most = g.most;
    collected = all_stay admits views seat.places places seat.frame s rs g.collected;
  }

  pub has_stays : (given : Bool) (seat : SeatView) (begun : ℕ) (rs : List Recording) (places : List Place) (greatest : ℕ) → Stays seat.frame seat.places places → HasGathered given admits views seat begun rs
      → HasGathered given admits views (record seat { places = places; greatest = greatest }) begun rs
  has_stays false seat begun rs places greatest s g = gathered_stays seat begun rs places greatest s g
  has_stays true seat begun rs places greatest s g = record { none_off = g.none_off; none_left = g.none_left; not_last = g.not_last }

  -- the places change, and what can be named stays so; the book changes, and agrees with the places
  pub kept_moved : (v : CoreState) → IsCore admits views ⊤ v → (b : BookView) (places : List Place) (greatest : ℕ) → ((n : ℕ) → n ≤ v.seat.frame → Stays n v.seat.places places)
      → IsTied b.resources (record v.seat { places = places; greatest = greatest }) → IsNext b.resources.next_serial greatest v.first → view_count b.resources.views ≡ view_count v.book.resources.views → b.resources.latency ≡ v.book.resources.latency
      → AreTargets v.seat.frame places b.resources.views.settings → IsCore admits views ⊤ (record v { book = b; seat = record v.seat { places = places; greatest = greatest } })
  kept_moved v k b places greatest s tied next vs latency targets = record {
    tied = tied;
    newest = next;
    targets = targets;
    counted = vs ∙ k.counted;
    latency = (subst (λ (n : ℕ). 1 ≤ n) (sym latency) k.latency.0, subst (λ (n : ℕ). n ≤ 3) (sym latency) k.latency.1);
    few = subst (λ (n : ℕ). v.out ≤ n) (sym latency) k.few;
    encoders = k.encoders;
    gathered = has_stays v.is_given v.seat v.begun v.gathered places greatest (s v.seat.frame (omega arith)) k.gathered;
    frames = tt;
  }

  -- the book alone changes
  pub kept_same : (v : CoreState) → IsCore admits views ⊤ v → (b : BookView) → IsTied b.resources v.seat → b.resources.next_serial ≡ v.book.resources.next_serial → view_count b.resources.views ≡ view_count v.book.resources.views
      → b.resources.latency ≡ v.book.resources.latency → AreTargets v.seat.frame v.seat.places b.resources.views.settings → IsCore admits views ⊤ (record v { book = b })
  kept_same v k b tied next vs latency targets =
      kept_moved v k b v.seat.places v.seat.greatest (λ n le h u. u) tied (subst (λ (n : ℕ). IsNext n v.seat.greatest v.first) (sym next) k.newest) vs latency targets

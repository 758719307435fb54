-- What a new context keeps.
use Rattle.std.proofs.Common.{◌≡◌, ℕ, zero, suc, ◌+◌, ◌≤◌, List, [], replicate, inr, refl, sym, subst, arith}
use Rattle.std.specs.Prelude.{⊤}
use Rattle.std.proofs.lemmas.List.{length-replicate}
use Rattle.gfx_model.specs.Words.{first_place}
use Rattle.gfx_model.specs.Views.{plain_view}
use Rattle.gfx_model.specs.World.{Item}
use Rattle.schedule_model.specs.Machine.{free, place_at, place_count}
use Rattle.hold_table.specs.Views.{SeatView, first_view}
use Rattle.resource_book.specs.declared.opening.Start.{Start}
use Rattle.resource_book.specs.Written.{BookView}
use Rattle.draw_encoder.specs.declared.items.Recording.{Recording}
use Rattle.resource_book.specs.Opened.{opened}
use Rattle.context_core.specs.Kept.{IsCore}
use Rattle.context_core.specs.States.{Gathering, opened_core}
use Rattle.context_core.proofs.Ends.{none_begun}
use Rattle.context_core.proofs.Targets.{new_targets}

all_free : (n p : ℕ) → place_at (replicate n free) p ≡ free
all_free zero p = refl
all_free (suc n) zero = refl
all_free (suc n) (suc p) = all_free n p

pub kept_new : (admits : ℕ → ℕ → List Item → ℕ → Type 0) (start : Start) → start.frame ≤ 1073741823 → 1 ≤ start.serial → 1 ≤ start.latency → start.latency ≤ 3 → IsCore admits start.views ⊤ (opened_core start)
kept_new admits start frame serial some few = record {
  tied = record {
    placed = (λ k index lt. all_free place_count (first_place k + index));
    many = length-replicate place_count free;
    older = omega (arith, serial);
    frame = refl;
    most = frame;
  };
  newest = inr (refl, refl);
  targets = new_targets start.frame (first_view start.frame).places start.views;
  counted = length-replicate start.views plain_view;
  latency = (some, few);
  few = omega arith;
  encoders = omega arith;
  gathered = record {
    count = refl;
    once = (λ e. sym (none_begun e));
    joined = omega arith;
    numbers = refl;
    apart = (λ n. omega arith);
    most = omega arith;
    collected = tt;
  };
  frames = tt;
}

pub kept_new_at : (admits : ℕ → ℕ → List Item → ℕ → Type 0) (start : Start) (b : BookView) (s : SeatView) (rs : List Recording) (made : Gathering) → b ≡ opened start → s ≡ first_view start.frame → rs ≡ []
    → start.frame ≤ 1073741823 → 1 ≤ start.serial → 1 ≤ start.latency → start.latency ≤ 3 → IsCore admits start.views ⊤ (record (opened_core start) { book = b; seat = s; gathered = rs; last = made })
kept_new_at admits start b s rs made be se re frame serial some few =
    subst (λ (p : BookView × SeatView × List Recording). IsCore admits start.views ⊤ (record (opened_core start) { book = p.0; seat = p.1; gathered = p.2; last = made })) (λ j. (sym be j, sym se j, sym re j))
    (with_last (kept_new admits start frame serial some few))
  where
    with_last : IsCore admits start.views ⊤ (opened_core start) → IsCore admits start.views ⊤ (record (opened_core start) { last = made })
    with_last k = record { tied = k.tied; newest = k.newest; targets = k.targets; counted = k.counted; latency = k.latency; few = k.few; encoders = k.encoders; gathered = k.gathered; frames = k.frames }

-- A new core is on its table, and a new renderer has drawn nothing.
use Rattle.std.proofs.Common.{◌≡◌, ℕ, ◌+◌, ◌*◌, List, [], Some, None, sym, ap, ◌∙◌}
use Rattle.std.proofs.lemmas.List.{length-replicate}
use Rattle.gfx_model.specs.Views.{view_count, plain_view}
use Rattle.gfx_model.specs.World.{first_world}
use Rattle.atomic_table.specs.Seated.{TableId}
use Rattle.store_laws.specs.ByIndex.{first_stores}
use Rattle.resource_book.specs.declared.opening.Start.{Start}
use Rattle.context_core.specs.States.{CoreView, opened_core}
use Rattle.render_core.specs.Rendered.{Rendering}
use Rattle.c_calls.specs.Calls.{first_rendering}
use Rattle.c_calls.specs.Views.{IsOn}

abbrev start : Start
start = record { frame = 0; serial = 1; views = 512; latency = 1 }

pub on_opened : (t s : TableId) (c : CoreView) → c ≡ record { table = s; state = opened_core start } → s ≡ t → IsOn t c
on_opened t s c e same = record {
  table_is = ap (λ (x : CoreView). x.table) e ∙ same;
  views_are = ap (λ (x : CoreView). view_count x.state.book.resources.views) e ∙ length-replicate 512 plain_view;
  none_out = ap (λ (x : CoreView). x.state.out) e;
  none_given = ap (λ (x : CoreView). x.state.is_given) e;
  runs = ap (λ (x : CoreView). x.state.is_ended) e;
}

module _ (width height : ℕ) (r : Rendering) where
  -- a new renderer with an empty sink
  pub first_is : (text : List ℕ) (faults capacity : ℕ)
      → r ≡ record { stores = first_stores (first_world width height).back; outcomes = []; held = Some text; tally = None; faults = faults; sure = Some capacity }
      → text ≡ [] → capacity ≡ 3 * (width * height) + 17 → faults ≡ 0 → r ≡ first_rendering width height
  first_is text faults capacity e empty room none =
      e ∙ (λ j. record { stores = first_stores (first_world width height).back; outcomes = []; held = Some (empty j); tally = None; faults = none j; sure = Some (room j) })

  same_number : (a b : ℕ) → Some a ≡ Some b → a ≡ b
  same_number a b e = cc e

  -- its sink takes as much as a picture has at most
  pub most_is : (capacity : ℕ) → r.sure ≡ Some capacity → r ≡ first_rendering width height → capacity ≡ 3 * (width * height) + 17
  most_is capacity s e = same_number capacity (3 * (width * height) + 17) (sym s ∙ ap (λ (x : Rendering). x.sure) e)

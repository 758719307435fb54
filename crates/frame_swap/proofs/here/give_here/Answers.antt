use Rattle.std.proofs.Common.{rules, ◌≡◌, ℕ, ◌%◌, ◌∷◌, length, Some, None, sym, ap, ◌∙◌}
use Rattle.atomic_table.specs.Table.{rest}
use Rattle.frame_swap.specs.declared.content.Content.{Content}
use Rattle.frame_swap.specs.declared.content.Content.TheVariants.{Given, Back}
use Rattle.frame_record.specs.Links.{frames_of}
use Rattle.frame_swap.specs.Views.{SwapView, Mine, gave, took}
use Rattle.frame_swap.proofs.Steps.{gives_keep}
use Rattle.frame_swap.proofs.WholeSeat.{takes_here, same_count, last_given}
use Rattle.frame_swap.proofs.Slots.{headed, value_is}
use Rattle.frame_swap.proofs.here.give_here.Goals as goal

pub store-requires : goal.store-requires
store-requires c =
    let now = c.fill.ensures.me in
    let r = c.requires in
    (search rules, search rules, gives_keep _ _ _ _ _ c.args.frame _ (ap (λ (m : Mine). m.0.side) now ∙ r.is_api.0) (ap (λ (m : Mine). m.0.claimed) now ∙ r.is_api.2) (search rules) (search rules) (ap (λ (m : Mine). m.1) now))

pub store-requires-2 : goal.store-requires-2
store-requires-2 c =
    let now = c.fill.ensures.me in
    let after = c.store.ensures.2 c.args.frame _ (ap (λ (m : Mine). m.1) now) in
    let view = ap (λ (m : Mine). m.0) after ∙ ap (λ (m : Mine). gave c.args.frame m.0) now in
    let r = c.requires in (
      search rules,
      search rules,
      takes_here _ _ _ _ _ c.args.frame (ap (λ (v : SwapView). v.side) view ∙ r.is_api.0) (ap (λ (v : SwapView). v.is_whole) view ∙ r.is_api.1) (last_given c.args.frame _ _ r.rendered.0 view)
          (ap (λ (v : SwapView). v.taken) view ∙ r.rendered.0 ∙ r.rendered.1 ∙ ap (λ (v : SwapView). frames_of v.returned) (sym view))
          (r.place ∙ ap (λ (x : ℕ). x % c.args.table.now.shared.key) (same_count _ _ r.rendered.1) ∙ ap (λ (v : SwapView). length v.returned % c.args.table.now.shared.key) (sym view)),
    )

pub empty-requires : goal.empty-requires
empty-requires c =
    let now = c.fill.ensures.me in
    let after = c.store.ensures.2 c.args.frame _ (ap (λ (m : Mine). m.1) now) in
    let view = ap (λ (m : Mine). m.0) after ∙ ap (λ (m : Mine). gave c.args.frame m.0) now in
    let taken = c.store-2.ensures.2 c.args.frame (last_given c.args.frame _ _ c.requires.rendered.0 view) in
    record { seated = search rules; slot = (Given c.args.frame, headed _ _ _ _ (ap (λ (m : Mine). m.1) taken)) }

pub unreachable-requires : goal.unreachable-requires
unreachable-requires c =
    let now = c.fill.ensures.me in
    let after = c.store.ensures.2 c.args.frame _ (ap (λ (m : Mine). m.1) now) in
    let view = ap (λ (m : Mine). m.0) after ∙ ap (λ (m : Mine). gave c.args.frame m.0) now in
    let taken = c.store-2.ensures.2 c.args.frame (last_given c.args.frame _ _ c.requires.rendered.0 view) in
    let same : Some (Given c.args.frame) ≡ Some (Back c.in-Back.field-0) = value_is _ _ _ _ _ _ (ap (λ (m : Mine). m.1) taken) c.empty.ensures.value ∙ ap (λ (x : Content). Some x) c.in-Back.is in
    absurd (cc same)

pub returns : goal.returns
returns c =
    let now = c.fill.ensures.me in
    let after = c.store.ensures.2 c.args.frame _ (ap (λ (m : Mine). m.1) now) in
    let view = ap (λ (m : Mine). m.0) after ∙ ap (λ (m : Mine). gave c.args.frame m.0) now in
    let taken = c.store-2.ensures.2 c.args.frame (last_given c.args.frame _ _ c.requires.rendered.0 view) in
    let same : Some (Given c.args.frame) ≡ Some (Given c.in-Given.taken) = value_is _ _ _ _ _ _ (ap (λ (m : Mine). m.1) taken) c.empty.ensures.value ∙ ap (λ (x : Content). Some x) c.in-Given.is in
    record {
      same = (search rules, cc same);
      me =
          c.empty.ensures.me
          ∙ ap (λ (m : Mine). (m.0, (c.args.place, None) ∷ rest m.1)) taken
          ∙ ap (λ (m : Mine). (took c.args.frame m.0, (c.args.place, None) ∷ m.1)) after
          ∙ ap (λ (m : Mine). (took c.args.frame (gave c.args.frame m.0), (c.args.place, None) ∷ rest c.args.seat.now.me.1)) now;
    }

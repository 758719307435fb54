use Rattle.std.proofs.Common.{rules, ◌≡◌, ◌%◌, ◌∷◌, [], ◌++◌, length, sym, ap, ◌∙◌, subst}
use Rattle.atomic_table.specs.Table.{rest}
use Rattle.frame_record.specs.Links.{frames_of}
use Rattle.frame_swap.specs.Views.{SwapView, Mine, gave_back}
use Rattle.frame_swap.proofs.WholeSeat.{returns_here}
use Rattle.frame_swap.proofs.here.return_here.Goals as goal

pub store-requires : goal.store-requires
store-requires c =
    let now = c.fill.ensures.me in
    let view = ap (λ (m : Mine). m.0) now in
    let r = c.requires in
    let last = subst (λ (v : SwapView). v.taken ≡ frames_of v.returned ++ c.args.back.frame ∷ []) (sym view) r.unchanged in (
      search rules,
      search rules,
      returns_here _ _ _ _ _ c.args.back _ (ap (λ (v : SwapView). v.side) view ∙ r.is_api.0) (ap (λ (v : SwapView). v.is_whole) view ∙ r.is_api.1) last
          (r.place ∙ ap (λ (v : SwapView). length v.returned % c.args.table.now.shared.key) (sym view)) (ap (λ (m : Mine). m.1) now),
    )

pub returns-clause-me : goal.returns-clause-me
returns-clause-me c =
    let now = c.fill.ensures.me in
    c.store.ensures.2 c.args.back _ (ap (λ (m : Mine). m.1) now) ∙ ap (λ (m : Mine). (gave_back c.args.back m.0, rest c.args.seat.now.me.1)) now

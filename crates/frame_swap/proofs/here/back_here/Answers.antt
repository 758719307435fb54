use Rattle.std.proofs.Common.{rules, ◌≡◌, ℕ, suc, ◌∷◌, [], ◌++◌, length, Some, None, ap, ◌∙◌}
use Rattle.atomic_table.specs.Table.{rest, turned}
use lib.ListN.{drop}
use Rattle.frame_record.specs.declared.frame.RenderedFrame.{RenderedFrame}
use Rattle.frame_swap.specs.declared.content.Content.{Content}
use Rattle.frame_swap.specs.declared.content.Content.TheVariants.{Given, Back}
use Rattle.frame_record.specs.Links.{frames_of}
use Rattle.frame_swap.specs.Views.{Mine, came}
use Rattle.frame_swap.proofs.WholeSeat.{comes_here}
use Rattle.frame_swap.proofs.Slots.{headed, value_is, one_more}
use Rattle.frame_swap.proofs.here.back_here.Goals as goal

pub store-requires : goal.store-requires
store-requires c = let r = c.requires in (search rules, search rules, comes_here _ _ _ _ _ r.is_api.0 r.is_api.1 r.is_api.2 r.some_out r.place)

pub empty-found-requires : goal.empty-found-requires
empty-found-requires c = let h = c.store.ensures.2 in record { seated = search rules; slot = (Back h.0, headed _ _ _ _ (ap (λ (m : Mine). m.1) h.1)) }

pub unreachable-requires : goal.unreachable-requires
unreachable-requires c =
    let h = c.store.ensures.2 in
    let same : Some (Back h.0) ≡ Some (Given c.in-Given.field-0) = value_is _ _ _ _ _ _ (ap (λ (m : Mine). m.1) h.1) c.empty-found.ensures.value ∙ ap (λ (x : Content). Some x) c.in-Given.is in
    absurd (cc same)

pub returns : goal.returns
returns c =
    let h = c.store.ensures.2 in
    let r = c.in-Back.rendered in
    let v = c.args.seat.now.me.0 in
    let same : Some (Back h.0) ≡ Some (Back r) = value_is _ _ _ _ _ _ (ap (λ (m : Mine). m.1) h.1) c.empty-found.ensures.value ∙ ap (λ (x : Content). Some x) c.in-Back.is in
    let it : h.0 ≡ r = cc same in
    record {
      same = search rules;
      me =
          c.turn.ensures.2
          ∙ ap (λ (m : Mine). (m.0, turned m.1)) c.empty-found.ensures.me
          ∙ ap (λ (m : Mine). (m.0, rest m.1 ++ (c.args.place, None) ∷ [])) h.1
          ∙ ap (λ (x : RenderedFrame). (came x v, c.args.seat.now.me.1 ++ (c.args.place, None) ∷ [])) it;
      oldest = h.3 ∙ ap (λ (x : RenderedFrame). frames_of v.back ++ x.frame ∷ drop (suc (length v.back)) v.given) it ∙ ap (λ (k : ℕ). frames_of v.back ++ r.frame ∷ drop k v.given) (one_more v.back r);
      outcome = h.2 ∙ ap (λ (x : RenderedFrame). v.back ++ x ∷ drop (suc (length v.back)) v.returned) it ∙ ap (λ (k : ℕ). v.back ++ r ∷ drop k v.returned) (one_more v.back r);
    }

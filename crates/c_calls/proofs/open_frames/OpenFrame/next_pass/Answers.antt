use Rattle.std.proofs.Common.{refl, sym, ap, ◌∙◌, subst, Some}
use Rattle.c_calls.specs.Bands.{BeginsPass, values_of}
use Rattle.c_calls.specs.Begun.{OpenView, frame_in, opening_in}
use Rattle.c_calls.specs.declared.objects.Object.TheVariants.{Drawing}
use Rattle.c_calls.specs.declared.open_frames.Place.{Place}
use Rattle.c_calls.proofs.InPasses.{comes_same, open_moved}
use Rattle.c_calls.proofs.open_frames.OpenFrame.next_pass.Goals as goal

pub invariant_of-result : goal.invariant_of-result
invariant_of-result c =
    let place = c.self.inside.place in
    let next = c.lend_next-place in
    let same = comes_same c.in-Between.begun next.result.0 next.result.1 (values_of next.new.bands) next.ensures in
    (open_moved next.result.0 place (same.0 ∙ sym (ap frame_in c.in-Between.is)) (same.1 ∙ sym (ap opening_in c.in-Between.is)) c.self.invariant.0, c.self.invariant.1)

pub returns-in-Between : goal.returns-in-Between
returns-in-Between c =
    let i = c.self.inside in
    let next = c.lend_next-place in
    let seen : OpenView = record { from = i.kept.from.value; place = i.place } in
    let new : OpenView = record { from = i.kept.from.value; place = next.result.0 } in
    let before = values_of c.args.bands.now in
    let after = values_of next.new.bands in
    subst (λ (o : OpenView). BeginsPass o o.place (Some (Drawing new)) 0 before after c.args.count.now next.result.1) c.self.view_is
    (subst (λ (p : Place). BeginsPass seen p (Some (Drawing new)) 0 before after c.args.count.now next.result.1) (sym c.in-Between.is) (refl, next.result.0, refl, next.ensures))

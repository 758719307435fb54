use Rattle.std.proofs.Common.{sym, ap, ◌∙◌, arith}
use Rattle.gfx_model.proofs.PartlyMapped.{partly-set, partly-done}
use Rattle.c_calls.specs.Bands.{values_of, without_band}
use Rattle.c_calls.proofs.Handles.{each_mapped, values_at, values_length, values_set}
use Rattle.c_calls.proofs.bands.let_go_all.Goals as goal

pub loop-at-preserved : goal.loop-at-preserved
loop-at-preserved c =
    let l = c.loop-at in
    let d = c.index-bands-at.result in
    let lt = c.loop-at-test.true in
    let long = values_length c.args.bands.now in
    values_set l.bands l.at c.let_go.new.slot
    ∙ partly-set (λ k v. without_band v) l.at (values_of c.args.bands.now) (values_of l.bands) c.let_go.new.slot.value d.value l.invariant
    (c.let_go.ensures ∙ ap without_band (sym (values_at l.bands l.at d))) (omega (arith, lt, long))

pub returns : goal.returns
returns c =
    let l = c.loop-at in
    let long = values_length c.args.bands.now in
    partly-done (λ k v. without_band v) l.at (values_of c.args.bands.now) (values_of l.bands) l.invariant (omega (arith, c.loop-at-test.false, l.auto.at-end, long))
    ∙ each_mapped without_band 0 (values_of c.args.bands.now)

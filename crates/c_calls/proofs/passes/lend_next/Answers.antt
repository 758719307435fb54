use Rattle.std.proofs.Common.{◌≡◌, ℕ, ◌<◌, ◌∙◌, subst, arith}
use Rattle.render_core.specs.Begun.{IsBefore}
use Rattle.render_core.specs.declared.stages.Stage.{Stage}
use Rattle.c_calls.specs.Bands.{AreLent, AreNull, ComesNext, values_of}
use Rattle.c_calls.specs.declared.open_frames.Place.{Place}
use Rattle.c_calls.specs.declared.open_frames.Place.TheVariants.{Within}
use Rattle.c_calls.proofs.InPasses.{before_later, comes_on}
use Rattle.c_calls.proofs.passes.lend_next.Goals as goal

pub loop-preserved : goal.loop-preserved
loop-preserved c =
    let l = c.loop in
    let lent = c.in-Within.lent in
    let vs = values_of c.lend_one-place.new.bands in
    let count = c.lend_one-place.result.1 in
    let m : ComesNext l.begun (Within lent) count vs = subst (λ (p : Place). ComesNext l.begun p count vs) c.in-Within.is c.lend_one-place.ensures in
    let none : count ≡ 0 = omega (arith, c.if-count-gt0.false) in
    let null : AreNull vs = (subst (λ (n : ℕ). AreLent n vs) none m.3).none in
    let e = c.in-Ok.ensures in
    let ended : (n : ℕ) → IsBefore c.in-Ok.next.stage n → lent.entered < n = λ n b. subst (λ (s : Stage). IsBefore s n) e.ended b in (
      e.same.0 ∙ m.0 ∙ l.invariant.0,
      e.same.1 ∙ m.1 ∙ l.invariant.1,
      (λ n b. l.invariant.2 n (before_later l.begun.stage lent.entered n m.2 (ended n b))),
      null,
    )

pub returns : goal.returns
returns c =
    let l = c.loop in
    comes_on c.args.begun l.begun l.invariant.0 l.invariant.1 l.invariant.2 c.lend_one.result.0 c.lend_one.result.1 (values_of c.lend_one.new.bands) c.lend_one.ensures

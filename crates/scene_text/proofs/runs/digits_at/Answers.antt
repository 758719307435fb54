use Rattle.std.proofs.Common.{◌≡◌, ◌+◌, ◌-◌, ◌*◌, get_or, refl, sym, subst, ◌∙◌, ap, arith}
use Rattle.scene_text.specs.Runs.{AreDigits}
use Rattle.scene_text.proofs.RunLines.{digits_none, digits_more}
use Rattle.scene_text.proofs.runs.digits_at.Goals as goal

pub loop-place-init : goal.loop-place-init
loop-place-init c = record {
  found = λ le. digits_none c.args.bytes.now c.args.from c.requires;
  most = omega arith;
  within = c.requires;
}

pub loop-place-preserved : goal.loop-place-preserved
loop-place-preserved c =
    let bytes = c.args.bytes.now in
    let l = c.loop-place in
    let digit = get_or bytes l.place 0 in
    let e : c.from.result ≡ digit - 48 = c.from.ensures ∙ c.saturating_sub.ensures in
    record {
      found = λ le.
          let same = c.capped-value.ensures.same le in
          let old = l.invariant.found (omega (arith, le, same)) in
          subst (AreDigits bytes c.args.from (l.place + 1)) (sym (same ∙ ap (λ d. l.value * 10 + d) e)) (digits_more bytes c.args.from l.place l.value digit old c.loop-place-test.true refl (sym c.if-not-is_digit.ensures));
      most = c.capped-value.ensures.most;
      within = omega (arith, c.loop-place-test.true);
    }

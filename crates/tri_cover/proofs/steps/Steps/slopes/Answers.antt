use Rattle.std.proofs.Common.{rules, ◌≡◌, ◌^◌, ℤ, pos, ◌+ℤ◌, ◌*ℤ◌, FitsSigned, w64, arith, ap, ◌∙◌}
use Rattle.std.proofs.lemmas.Int.{ints, to_z-of_z}
use lib.IntN.{*ℤ-zero}
use Rattle.tri_cover.specs.Slope.{IsSlope}
use Rattle.tri_cover.proofs.Lines.{ramp_is, start_is}
use Rattle.tri_cover.proofs.steps.Steps.slopes.Goals as goal

with_zero : (a b c v w z : ℤ) → z ≡ b *ℤ v +ℤ c *ℤ w → z ≡ a *ℤ pos 0 +ℤ b *ℤ v +ℤ c *ℤ w
with_zero a b c v w z h = omega (arith, ints, h, *ℤ-zero a)

pub returns-clause-ramp : goal.returns-clause-ramp
returns-clause-ramp c t s x y near =
    let i = c.args.self.now in
    let a = i.at in
    let r = i.right in
    let d = i.down in
    let v = c.args.v in
    let w = c.args.w in
    let fv : FitsSigned w64 c.args.v = c.ranges.v in
    let fw : FitsSigned w64 c.args.w = c.ranges.w in
    let f1 : FitsSigned w64 c.in_ok-at.at = search rules in
    let f2 : FitsSigned w64 c.in_ok-right.right = search rules in
    let f3 : FitsSigned w64 c.in_ok-down.down = search rules in
    let z1 : c.in_ok-at.at ≡ a.a *ℤ pos 0 +ℤ a.b *ℤ v +ℤ a.c *ℤ w = with_zero a.a a.b a.c v w c.in_ok-at.at (simp to_z-of_z at c.in_ok-at.ensures.value) in
    let z2 : c.in_ok-right.right ≡ r.a *ℤ pos 0 +ℤ r.b *ℤ v +ℤ r.c *ℤ w = with_zero r.a r.b r.c v w c.in_ok-right.right (simp to_z-of_z at c.in_ok-right.ensures.value) in
    let z3 : c.in_ok-down.down ≡ d.a *ℤ pos 0 +ℤ d.b *ℤ v +ℤ d.c *ℤ w = with_zero d.a d.b d.c v w c.in_ok-down.down (simp to_z-of_z at c.in_ok-down.ensures.value) in
    let sa : IsSlope (a.a *ℤ pos 0 +ℤ a.b *ℤ v +ℤ a.c *ℤ w) c.slope-at.result i.inverse.divisor (2 ^ c.args.bits) = rw z1 at (simp to_z-of_z at c.slope-at.ensures) in
    let sb : IsSlope (r.a *ℤ pos 0 +ℤ r.b *ℤ v +ℤ r.c *ℤ w) c.slope-right.result i.inverse.divisor (2 ^ c.args.bits) = rw z2 at (simp to_z-of_z at c.slope-right.ensures) in
    let sc : IsSlope (d.a *ℤ pos 0 +ℤ d.b *ℤ v +ℤ d.c *ℤ w) c.slope-down.result i.inverse.divisor (2 ^ c.args.bits) = rw z3 at (simp to_z-of_z at c.slope-down.ensures) in
    let st = start_is c.slope-at.result c.slope-right.result c.slope-down.result i.x i.y i.most in
    ramp_is t (pos 0) v w i.inverse.divisor (2 ^ c.args.bits) i.most i.x i.y x y a.a a.b a.c r.a r.b r.c d.a d.b d.c _ c.slope-at.result
    s.divisor i.inverse.positive s.at_a s.at_b s.at_c s.right_a s.right_b s.right_c s.down_a s.down_b s.down_c sa sb sc near
    (c.is_fine.ensures.exact c.if-not-is_fine.false)
    (st.0, ap (λ n. pos n +ℤ st.0 *ℤ pos (2 ^ 64)) c.started.ensures ∙ st.1)

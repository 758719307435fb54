use Rattle.std.proofs.Common.{◌≡◌, ◌+◌, [], ◌∷◌, ap, ◌∙◌, arith}
use Rattle.std.proofs.lemmas.Int.{to_z-of_z}
use Rattle.gfx_model.specs.Number.{i32_at}
use Rattle.gfx_query.proofs.placing.transform_at.Goals as goal

pub returns : goal.returns
returns c =
    let first : c.args.at ≡ c.args.at + 0 = omega arith in
    let start : c.i32_at.result ≡ i32_at c.args.bytes.now (c.args.at + 0) = c.i32_at.ensures.value ∙ ap (i32_at c.args.bytes.now) first in
    c.transform.ensures
    ∙ (λ i. to_z-of_z _ _ c.i32_at.ensures.fits i ∷ to_z-of_z _ _ c.i32_at-2.ensures.fits i ∷ to_z-of_z _ _ c.i32_at-3.ensures.fits i ∷ to_z-of_z _ _ c.i32_at-4.ensures.fits i ∷ to_z-of_z _ _ c.i32_at-5.ensures.fits i ∷ to_z-of_z _ _ c.i32_at-6.ensures.fits i ∷ to_z-of_z _ _ c.i32_at-7.ensures.fits i ∷ to_z-of_z _ _ c.i32_at-8.ensures.fits i ∷ to_z-of_z _ _ c.i32_at-9.ensures.fits i ∷ to_z-of_z _ _ c.i32_at-10.ensures.fits i ∷ to_z-of_z _ _ c.i32_at-11.ensures.fits i ∷ to_z-of_z _ _ c.i32_at-12.ensures.fits i ∷ [])
    ∙ (λ i. start i ∷ c.i32_at-2.ensures.value i ∷ c.i32_at-3.ensures.value i ∷ c.i32_at-4.ensures.value i ∷ c.i32_at-5.ensures.value i ∷ c.i32_at-6.ensures.value i ∷ c.i32_at-7.ensures.value i ∷ c.i32_at-8.ensures.value i ∷ c.i32_at-9.ensures.value i ∷ c.i32_at-10.ensures.value i ∷ c.i32_at-11.ensures.value i ∷ c.i32_at-12.ensures.value i ∷ [])

use Rattle.std.proofs.Common.{◌≡◌, length, ap, ◌∙◌, arith}
use Rattle.scene_model.specs.Field.{split_at}
use Rattle.scene_model.specs.Grammar.{field}
use Rattle.text_fields.specs.Fields.{texts}
use Rattle.gfx_query.proofs.Lines.{parts_short}
use Rattle.gfx_query.proofs.stages.Reading.after_text.Goals as goal

pub after_fields-requires : goal.after_fields-requires
after_fields-requires c = λ k.
    let same : texts c.deref.result.now ≡ split_at 32 c.args.line.now = ap texts c.deref.ensures.value ∙ c.in_ok-split_fields.ensures in
    let short : length (field (texts c.deref.result.now) k) ≡ length (field (split_at 32 c.args.line.now) k) = ap (λ fs. length (field fs k)) same in
    omega (arith, short, parts_short 32 c.args.line.now k, c.requires)

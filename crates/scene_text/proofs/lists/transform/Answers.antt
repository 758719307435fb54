use Rattle.std.proofs.Common.{◌≡◌, ◌+◌, length, ap, sym, ◌∙◌, arith}
use Rattle.std.proofs.lemmas.Int.{to_z-of_z}
use Rattle.std.proofs.lemmas.List.{take_more_set, length-map}
use Rattle.scene_model.specs.Field.{i32_number}
use Rattle.text_fields.specs.Fields.{texts}
use Rattle.scene_text.proofs.Pairs.{number_more, all_read}
use Rattle.scene_text.proofs.lists.transform.Goals as goal

pub loop-place-preserved : goal.loop-place-preserved
loop-place-preserved c =
    let n : length (texts c.args.fields.now) ≡ c.args.from + 12 = length-map c.args.fields.now _ ∙ c.requires in
    let k : c.args.from + (c.loop-place.place + 1) ≡ c.args.from + c.loop-place.place + 1 = omega arith in
    record {
      numbers =
          rw (k, c.put.ensures, to_z-of_z _ _ (c.in_ok-number.ensures.fits), take_more_set c.loop-place.m c.loop-place.place c.in_ok-number.number (omega (arith, c.loop-place.invariant.length, c.loop-place-test.true)))
          (c.loop-place.invariant.numbers ∙ number_more i32_number _ (texts c.args.fields.now) (c.args.from + c.loop-place.place) c.in_ok-number.number (omega (arith, n, c.loop-place-test.true)) (ap i32_number (sym c.field.ensures) ∙ c.in_ok-number.ensures.value));
      length = c.put.array_long;
    }

pub returns : goal.returns
returns c =
    let n : length (texts c.args.fields.now) ≡ c.args.from + 12 = length-map c.args.fields.now _ ∙ c.requires in
    c.loop-place.invariant.numbers ∙ all_read i32_number c.loop-place.m c.loop-place.place (texts c.args.fields.now) (c.args.from + c.loop-place.place) (omega (arith, c.loop-place.invariant.length)) (omega (arith, n))

use Rattle.std.proofs.Common.{◌≡◌, [], ◌∷◌, ◌++◌, refl, sym, ap, ◌∙◌, Some}
use Rattle.std.proofs.lemmas.List.{take_all}
use Rattle.c_words.specs.Layouts.{parts_of}
use Rattle.c_words.proofs.LayoutParts.{parts_more, none_at}
use Rattle.c_words.proofs.layouts.layout_of.Goals as goal

pub loop-part-init : goal.loop-part-init
loop-part-init c = ([], refl, c.new-builder.ensures)

pub loop-part-preserved : goal.loop-part-preserved
loop-part-preserved c =
    let i = c.loop-part.invariant in
    let added = c.in-Some.ensures in (
      i.0 ++ added.0 ∷ [],
      parts_more c.args.parts.now c.loop-part.part-index record { attribute = 0; component = 0; count = 0 } i.0 added.0 c.loop-part-test.true i.1 added.1,
      added.2 i.0 i.2,
    )

pub returns-in-None : goal.returns-in-None
returns-in-None c =
    let none = none_at c.args.parts.now c.loop-part.part-index record { attribute = 0; component = 0; count = 0 } c.loop-part-test.true c.in-None.ensures in
    rw none refl

pub returns : goal.returns
returns c =
    let i = c.loop-part.invariant in
    let all : parts_of c.args.parts.now ≡ Some i.0 = sym (ap parts_of (take_all c.loop-part.part-index c.args.parts.now c.loop-part-test.false)) ∙ i.1 in
    rw all (c.finished.ensures i.0 i.2)

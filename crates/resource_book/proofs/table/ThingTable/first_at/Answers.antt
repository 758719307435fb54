use Rattle.std.proofs.Common.{◌≡◌, ◌+◌, ap, ◌∙◌, None, arith, slice_index_or}
use Rattle.std.proofs.lemmas.List.{get_or_default}
use Rattle.gfx_model.specs.Words.{first_place}
use Rattle.gfx_model.specs.Resources.{is_at}
use Rattle.gfx_words.specs.Kinds.{kind_seen}
use Rattle.resource_book.specs.Tables.{TableView, number_of}
use Rattle.gfx_model.proofs.Apart.{place_below}
use Rattle.resource_book.proofs.table.ThingTable.first_at.Goals as goal

pub returns : goal.returns
returns c =
    let k = kind_seen c.args.kind in
    let place : c.first_place.result + c.args.index ≡ first_place k + c.args.index = ap (λ n. n + c.args.index) c.first_place.ensures in
    c.index.ensures
    ∙ get_or_default c.self.inside.numbers.items (c.first_place.result + c.args.index) c.index.result.now None (omega (arith, place, c.self.invariant.placed.many, place_below k c.args.index c.requires))
    ∙ ap (λ n. slice_index_or c.self.inside.numbers.items n None) place
    ∙ c.self.invariant.placed.stands k c.args.index c.requires
    ∙ ap (λ (t : TableView). number_of (is_at k c.args.index) t.things) c.self.view_is

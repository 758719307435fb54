use Rattle.std.proofs.Common.{◌≡◌, true, sym, ◌∙◌}
use Rattle.scene_model.specs.Field.{is_name}
use Rattle.load_text.proofs.Found.{place_found}
use Rattle.load_text.proofs.names.Names.place_of.Goals as goal

pub returns : goal.returns
returns c =
    let n : is_name c.args.field.now ≡ true = sym c.if-not-is_name.ensures in
    rw (← c.self.view_is) (c.get_index_of.ensures.index ∙ sym (place_found c.args.field.now c.self.inside.bound.keys n))

use Rattle.std.proofs.Common.{◌≡◌, ◌++◌, ◌∷◌, [], true, cond, bytes_eq, ap, sym, ◌∙◌}
use Rattle.std.specs.List.{list_any}
use Rattle.scene_model.specs.Field.{is_name}
use Rattle.load_text.proofs.Found.{bind_bound, bind_new}
use Rattle.load_text.proofs.names.Names.bind.Goals as goal

pub returns-in-Some : goal.returns-in-Some
returns-in-Some c =
    let n : is_name c.args.field.now ≡ true = sym c.if-not-is_name.ensures in
    rw (← c.self.view_is) (bind_bound c.args.field.now c.self.inside.bound.keys c.in-Some.field-0 n (sym c.in-Some.ensures.index))

pub returns-in_ok-insert-in-None : goal.returns-in_ok-insert-in-None
returns-in_ok-insert-in-None c =
    let n : is_name c.args.field.now ≡ true = sym c.if-not-is_name.ensures in
    let ks = c.self.inside.bound.keys in
    let t = c.in_ok-name-in-None.name in
    rw (← c.self.view_is) (bind_new c.args.field.now t ks c.insert.new.self.keys n (sym c.in-None.ensures.index) c.in_ok-name-in-None.ensures.items
    (c.in_ok-insert-in-None.ensures.keys ∙ ap (λ b. cond b ks (ks ++ t ∷ [])) (ap (λ w. list_any (λ k. bytes_eq w k.items) ks) c.in_ok-name-in-None.ensures.items ∙ sym c.in-None.ensures.found)))

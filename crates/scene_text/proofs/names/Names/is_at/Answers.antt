use Rattle.std.proofs.Common.{◌≡◌, true, bytes_eq, ap, sym, ◌∙◌}
use Rattle.scene_text.proofs.Found.{used_found, placed}
use Rattle.scene_text.proofs.names.Names.is_at.Goals as goal

pub returns-in-Some : goal.returns-in-Some
returns-in-Some c = λ yes name.
    let f = c.args.field.now in
    let es = c.self.inside.bound.entries in
    let same : bytes_eq f c.in-Some.text.now.items ≡ true = ap (bytes_eq f) (sym c.deref.ensures.value) ∙ sym c.is.ensures ∙ yes in
    rw (← c.self.view_is) (used_found f es c.args.place name (placed f es c.args.place c.in-Some.text.now c.in-Some.field-0-1.now c.len-count.ensures.unique (sym c.in-Some.ensures.entry) same))

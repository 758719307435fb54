use Rattle.std.proofs.Common.{rules, ◌≡◌, length, ◌++◌, take, drop, refl, ap, ◌∙◌}
use Rattle.fix_math.specs.Lending.{refilled}
use Rattle.fix_math.proofs.picture.TexelList.as_mut_slice.Goals as goal

pub returns : goal.returns
returns c =
    let same : c.self.inside.items.items ≡ c.args.self.now = c.self.view_is in
    let len : c.self.inside.items.len ≡ length c.self.inside.items.items = search rules in
    ((refl, λ w. ap (λ n. take n (w ++ drop (length w) c.self.inside.items.items)) len ∙ ap (λ s. refilled s w) same), record { writes_back = tt; value = c.as_mut_slice.ensures.value ∙ same })

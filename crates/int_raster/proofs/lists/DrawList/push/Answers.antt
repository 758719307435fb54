use Rattle.std.proofs.Common.{rules, ◌≡◌, ◌+◌, ◌++◌, ◌∷◌, [], length, map, take, refl, ap, sym, subst, ◌∙◌, arith}
use Rattle.std.proofs.lemmas.List.{length-append, take_at}
use Rattle.int_raster.specs.Listing.{listed_with, listed_seen, AreWithin, AreInRows}
use Rattle.int_raster.specs.declared.listed.Listed.{Listed}
use Rattle.int_raster.proofs.Grown.{rows_more, seen_more, within_more}
use Rattle.int_raster.proofs.lists.DrawList.push.Goals as goal

pub returns-then-is_ok-clause-ok : goal.returns-then-is_ok-clause-ok
returns-then-is_ok-clause-ok c =
    let d = c.args.draw in
    let l : Listed = record { cut = d.cut; state = d.state; front = d.front; back = d.back; paint = d.paint; first = c.len-first.result; after = c.saturating_add-after.result; top = c.covered_rows-top.result.0; bottom = c.covered_rows-top.result.1 } in
    let ds = c.self.inside.draws.items in
    let ts = c.self.inside.triangles.items in
    let us = c.args.triangles.now in
    let pushed : c.push.new.self.items ≡ ds ++ l ∷ [] = search rules in
    let grown : c.extend_from_slice.new.self.items ≡ ts ++ us = search rules in
    (λ i. map (listed_seen (grown i)) (pushed i))
    ∙ seen_more ds ts us l c.self.inside.within (search rules) (omega (arith, c.len-first.ensures))
    ∙ ap (λ xs. xs ++ listed_with l us ∷ []) c.self.view_is

pub invariant_of-self-inside-then-is_ok : goal.invariant_of-self-inside-then-is_ok
invariant_of-self-inside-then-is_ok c =
    let d = c.args.draw in
    let l : Listed = record { cut = d.cut; state = d.state; front = d.front; back = d.back; paint = d.paint; first = c.len-first.result; after = c.saturating_add-after.result; top = c.covered_rows-top.result.0; bottom = c.covered_rows-top.result.1 } in
    let ds = c.self.inside.draws.items in
    let ts = c.self.inside.triangles.items in
    let us = c.args.triangles.now in
    let pushed : c.push.new.self.items ≡ ds ++ l ∷ [] = search rules in
    let grown : c.extend_from_slice.new.self.items ≡ ts ++ us = search rules in
    let first : l.first ≡ length ts = search rules in
    let after : l.after ≡ length ts + length us = omega (arith, c.len-first.ensures) in
    let long : length c.extend_from_slice.new.self.items ≡ length ts + length us = ap length grown ∙ length-append ts us in
    let within : AreWithin (ds ++ l ∷ []) (length c.extend_from_slice.new.self.items) = within_more ds l (length ts) (length c.extend_from_slice.new.self.items) c.self.inside.within (omega (arith, long)) (omega (arith, first, after)) (omega (arith, after, long)) in
    let rows : AreInRows (ds ++ l ∷ []) (ts ++ us) = rows_more ds ts us l c.self.inside.within c.self.inside.rows first after c.covered_rows-top.ensures in
    (subst (λ xs. AreWithin xs (length c.extend_from_slice.new.self.items)) (sym pushed) within, (subst (λ xs. AreInRows xs c.extend_from_slice.new.self.items) (sym pushed) (subst (λ xs. AreInRows (ds ++ l ∷ []) xs) (sym grown) rows), tt))

pub invariant_of-self-inside-2 : goal.invariant_of-self-inside-2
invariant_of-self-inside-2 c =
    let ds = c.self.inside.draws.items in
    let ts = c.self.inside.triangles.items in
    let draws : c.push.new.self.items ≡ ds = search rules in
    let us = c.args.triangles.now in
    let first : c.len-first.result ≡ length ts = search rules in
    let grown : c.extend_from_slice.new.self.items ≡ ts ++ us = search rules in
    let triangles : c.truncate.new.self.items ≡ ts = c.truncate.ensures.items ∙ (λ i. take (first i) (grown i)) ∙ take_at ts us (length ts) refl in (
      subst (λ xs. AreWithin xs (length c.truncate.new.self.items)) (sym draws) (subst (λ xs. AreWithin ds (length xs)) (sym triangles) c.self.inside.within),
      (subst (λ xs. AreInRows xs c.truncate.new.self.items) (sym draws) (subst (λ xs. AreInRows ds xs) (sym triangles) c.self.inside.rows), tt),
    )

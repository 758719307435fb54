use Rattle.std.proofs.Common.{rules, ◌≡◌, ◌*◌, All, length, ap, sym, ◌∙◌}
use Rattle.int_raster.proofs.Stacks.{flat_joined}
use Rattle.pass_bands.specs.Drawn.{work_seen}
use Rattle.pass_bands.proofs.RowLaws.{AreParts, IsFlatOf, lower_length, homes_flat, home_flat}
use Rattle.pass_bands.proofs.ends.+end_flat.Goals as goal

pub put_flat-requires-clause-whole : goal.put_flat-requires-clause-whole
put_flat-requires-clause-whole t c =
    let rows = c.args.rows.now in
    let above = c.cut.result.0 in
    let below = c.cut.result.1 in
    let a = c.split_at_mut-upper.result.0.now in
    let long : length a ≡ rows.width * above.count = search rules in
    lower_length rows.width above.count below.count rows.count a c.split_at_mut-upper.result.1.now c.args.colors.now (sym c.split_at_mut-upper.ensures.value) c.requires.whole c.cut.ensures.all long
    ∙ ap (λ v. v * below.count) (sym c.cut.ensures.widths.1)

pub put_flat-requires-clause-rowed : goal.put_flat-requires-clause-rowed
put_flat-requires-clause-rowed t c =
    let rows = c.args.rows.now in
    let above = c.cut.result.0 in
    let below = c.cut.result.1 in
    let a = c.split_at_mut-upper.result.0.now in
    let long : length a ≡ rows.width * above.count = search rules in
    let parts : AreParts rows above below = record { widths = c.cut.ensures.widths; first = c.cut.ensures.first; next = c.cut.ensures.next; all = c.cut.ensures.all } in
    home_flat c.args.work.now rows above below c.args.colors.now a c.split_at_mut-upper.result.1.now c.args.homes.now.items c.pop.new.self.items c.pop.result c.in-Some.home parts (sym c.split_at_mut-upper.ensures.value) long c.pop.ensures.items c.in-Some.is c.requires.homes

pub end_flat-requires : goal.end_flat-requires
end_flat-requires t c =
    let rows = c.args.rows.now in
    let above = c.cut.result.0 in
    let below = c.cut.result.1 in
    let a = c.split_at_mut-upper.result.0.now in
    let long : length a ≡ rows.width * above.count = search rules in
    let parts : AreParts rows above below = record { widths = c.cut.ensures.widths; first = c.cut.ensures.first; next = c.cut.ensures.next; all = c.cut.ensures.all } in
    let homes : All (IsFlatOf c.args.work.now above a) c.pop.new.self.items =
    homes_flat c.args.work.now rows above below c.args.colors.now a c.split_at_mut-upper.result.1.now c.args.homes.now.items c.pop.new.self.items c.pop.result parts (sym c.split_at_mut-upper.ensures.value) long c.pop.ensures.items c.requires.homes in
    search (rules, homes)

pub returns-in-Some : goal.returns-in-Some
returns-in-Some t c =
    let rows = c.args.rows.now in
    let above = c.cut.result.0 in
    let below = c.cut.result.1 in
    let a = c.split_at_mut-upper.result.0.now in
    let long : length a ≡ rows.width * above.count = search rules in
    flat_joined rows.width rows.top above.count above.width below.width above.top below.top a c.split_at_mut-upper.result.1.now c.args.colors.now (work_seen c.args.work.now) {x = c.end_flat.new.colors} {y = c.put_flat.new.colors}
    c.end_flat.ensures c.put_flat.ensures c.cut.ensures.widths.0 c.cut.ensures.widths.1 c.cut.ensures.first c.cut.ensures.next (sym c.split_at_mut-upper.ensures.value) rows.wide long

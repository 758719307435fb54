use Rattle.std.proofs.Common.{rules, ◌≡◌, ◌*◌, All, length, ap, sym, ◌∙◌}
use Rattle.int_raster.specs.Bands.{deep}
use Rattle.int_raster.proofs.Stacks.{deep_joined}
use Rattle.pass_bands.specs.Drawn.{work_seen}
use Rattle.pass_bands.proofs.RowLaws.{AreParts, IsDeepOf, lower_length, homes_deep, home_deep}
use Rattle.pass_bands.proofs.ends.+end_deep.Goals as goal

pub put_deep-requires-clause-whole : goal.put_deep-requires-clause-whole
put_deep-requires-clause-whole t c =
    let rows = c.args.rows.now in
    let above = c.cut.result.0 in
    let below = c.cut.result.1 in
    let a = c.split_at_mut-upper.result.0.now in
    let long : length a ≡ rows.width * above.count = search rules in
    lower_length rows.width above.count below.count rows.count a c.split_at_mut-upper.result.1.now c.args.colors.now (sym c.split_at_mut-upper.ensures.value) c.requires.whole c.cut.ensures.all long
    ∙ ap (λ v. v * below.count) (sym c.cut.ensures.widths.1)

pub put_deep-requires-clause-rowed : goal.put_deep-requires-clause-rowed
put_deep-requires-clause-rowed t c =
    let rows = c.args.rows.now in
    let above = c.cut.result.0 in
    let below = c.cut.result.1 in
    let a = c.split_at_mut-upper.result.0.now in
    let z = c.split_at_mut-near.result.0.now in
    let long : length a ≡ rows.width * above.count = search rules in
    let far : length z ≡ rows.width * above.count = search rules in
    let parts : AreParts rows above below = record { widths = c.cut.ensures.widths; first = c.cut.ensures.first; next = c.cut.ensures.next; all = c.cut.ensures.all } in
    home_deep c.args.work.now rows above below c.args.colors.now c.args.depths.now a c.split_at_mut-upper.result.1.now z c.split_at_mut-near.result.1.now c.args.homes.now.items c.pop.new.self.items c.pop.result c.in-Some.home parts (sym c.split_at_mut-upper.ensures.value) (sym c.split_at_mut-near.ensures.value) long far c.pop.ensures.items c.in-Some.is c.requires.homes

pub end_deep-requires : goal.end_deep-requires
end_deep-requires t c =
    let rows = c.args.rows.now in
    let above = c.cut.result.0 in
    let below = c.cut.result.1 in
    let a = c.split_at_mut-upper.result.0.now in
    let z = c.split_at_mut-near.result.0.now in
    let long : length a ≡ rows.width * above.count = search rules in
    let far : length z ≡ rows.width * above.count = search rules in
    let parts : AreParts rows above below = record { widths = c.cut.ensures.widths; first = c.cut.ensures.first; next = c.cut.ensures.next; all = c.cut.ensures.all } in
    let homes : All (IsDeepOf c.args.work.now above a z) c.pop.new.self.items =
    homes_deep c.args.work.now rows above below c.args.colors.now c.args.depths.now a c.split_at_mut-upper.result.1.now z c.split_at_mut-near.result.1.now c.args.homes.now.items c.pop.new.self.items c.pop.result parts (sym c.split_at_mut-upper.ensures.value) (sym c.split_at_mut-near.ensures.value) long far c.pop.ensures.items c.requires.homes in
    search (rules, homes)

pub returns-in-Some : goal.returns-in-Some
returns-in-Some t c =
    let rows = c.args.rows.now in
    let above = c.cut.result.0 in
    let below = c.cut.result.1 in
    let a = c.split_at_mut-upper.result.0.now in
    let z = c.split_at_mut-near.result.0.now in
    let long : length a ≡ rows.width * above.count = search rules in
    let same : length z ≡ length a = search rules in
    deep_joined rows.width rows.top above.count above.width below.width above.top below.top (deep a z) (deep c.split_at_mut-upper.result.1.now c.split_at_mut-near.result.1.now) c.args.colors.now c.args.depths.now (work_seen c.args.work.now) {x = c.end_deep.new.colors} {y = c.put_deep.new.colors} {z = c.end_deep.new.depths} {q = c.put_deep.new.depths}
    c.end_deep.ensures c.put_deep.ensures c.cut.ensures.widths.0 c.cut.ensures.widths.1 c.cut.ensures.first c.cut.ensures.next (sym c.split_at_mut-upper.ensures.value) (sym c.split_at_mut-near.ensures.value) rows.wide long same

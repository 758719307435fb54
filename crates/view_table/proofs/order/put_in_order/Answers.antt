use Rattle.std.proofs.Common.{◌≡◌, ◌++◌, length, take, ap, ◌∙◌}
use Rattle.view_table.specs.Order.{unnamed}
use Rattle.view_table.proofs.Filled.{Names, room_of, listed_le, filled, filled_below, filled_without, filled_positions}
use Rattle.view_table.proofs.order.put_in_order.Goals as goal

pub put_listed-requires : goal.put_listed-requires
put_listed-requires c = listed_le (length c.args.sequence.now) c.args.ids.now c.requires.once c.requires.below

pub put_others-requires-clause-room : goal.put_others-requires-clause-room
put_others-requires-clause-room c =
    let k : Names (length c.args.sequence.now) c.args.named.now c.args.ids.now = record { long = c.requires.tests; below = c.requires.below; once = c.requires.once; names = c.requires.named } in
    rw c.put_listed.auto.sequence (room_of (length c.args.sequence.now) c.args.named.now c.args.ids.now k)

pub put_positions-requires-clause-below : goal.put_positions-requires-clause-below
put_positions-requires-clause-below c =
    let k : Names (length c.args.sequence.now) c.args.named.now c.args.ids.now = record { long = c.requires.tests; below = c.requires.below; once = c.requires.once; names = c.requires.named } in
    let same : length c.put_listed.new.sequence ≡ length c.args.sequence.now = c.put_listed.auto.sequence in
    let others : c.put_others.new.sequence ≡ take (length c.args.ids.now) c.put_listed.new.sequence ++ unnamed c.args.named.now (length c.args.sequence.now)
    = c.put_others.ensures ∙ ap (λ n. take (length c.args.ids.now) c.put_listed.new.sequence ++ unnamed c.args.named.now n) same in
    filled_below (length c.args.sequence.now) c.args.ids.now c.put_others.new.sequence c.requires.below c.requires.once
    (filled (length c.args.sequence.now) c.args.named.now c.args.ids.now c.put_listed.new.sequence c.put_others.new.sequence k c.put_listed.ensures others)

pub put_positions-requires-clause-distinct : goal.put_positions-requires-clause-distinct
put_positions-requires-clause-distinct c =
    let k : Names (length c.args.sequence.now) c.args.named.now c.args.ids.now = record { long = c.requires.tests; below = c.requires.below; once = c.requires.once; names = c.requires.named } in
    let same : length c.put_listed.new.sequence ≡ length c.args.sequence.now = c.put_listed.auto.sequence in
    let others : c.put_others.new.sequence ≡ take (length c.args.ids.now) c.put_listed.new.sequence ++ unnamed c.args.named.now (length c.args.sequence.now)
    = c.put_others.ensures ∙ ap (λ n. take (length c.args.ids.now) c.put_listed.new.sequence ++ unnamed c.args.named.now n) same in
    filled_without (length c.args.sequence.now) c.args.ids.now c.put_others.new.sequence c.requires.once
    (filled (length c.args.sequence.now) c.args.named.now c.args.ids.now c.put_listed.new.sequence c.put_others.new.sequence k c.put_listed.ensures others)

pub returns-clause-sequence : goal.returns-clause-sequence
returns-clause-sequence c =
    let k : Names (length c.args.sequence.now) c.args.named.now c.args.ids.now = record { long = c.requires.tests; below = c.requires.below; once = c.requires.once; names = c.requires.named } in
    let same : length c.put_listed.new.sequence ≡ length c.args.sequence.now = c.put_listed.auto.sequence in
    let others : c.put_others.new.sequence ≡ take (length c.args.ids.now) c.put_listed.new.sequence ++ unnamed c.args.named.now (length c.args.sequence.now)
    = c.put_others.ensures ∙ ap (λ n. take (length c.args.ids.now) c.put_listed.new.sequence ++ unnamed c.args.named.now n) same in
    filled (length c.args.sequence.now) c.args.named.now c.args.ids.now c.put_listed.new.sequence c.put_others.new.sequence k c.put_listed.ensures others

pub returns-clause-positions : goal.returns-clause-positions
returns-clause-positions c =
    let k : Names (length c.args.sequence.now) c.args.named.now c.args.ids.now = record { long = c.requires.tests; below = c.requires.below; once = c.requires.once; names = c.requires.named } in
    let same : length c.put_listed.new.sequence ≡ length c.args.sequence.now = c.put_listed.auto.sequence in
    let others : c.put_others.new.sequence ≡ take (length c.args.ids.now) c.put_listed.new.sequence ++ unnamed c.args.named.now (length c.args.sequence.now)
    = c.put_others.ensures ∙ ap (λ n. take (length c.args.ids.now) c.put_listed.new.sequence ++ unnamed c.args.named.now n) same in
    filled_positions (length c.args.sequence.now) c.args.ids.now c.put_others.new.sequence c.put_positions.new.positions c.requires.below c.requires.once
    (filled (length c.args.sequence.now) c.args.named.now c.args.ids.now c.put_listed.new.sequence c.put_others.new.sequence k c.put_listed.ensures others)
    c.put_positions.ensures

use Rattle.std.proofs.Common.{rules, ℕ, ◌<◌, get_or}
use Rattle.pixel_ops.proofs.Pairs.{odd_is}
use Rattle.pixel_ops.proofs.blending.odd_channels.Goals as goal

pub returns : goal.returns
returns c =
    let color = c.args.color in
    let small : (i : ℕ) → get_or color i 0 < 256 = search rules in
    odd_is (get_or color 0 0) (get_or color 1 0) (get_or color 2 0) (get_or color 3 0) c.from_le_bytes.result c.lower_bytes.result (small 0) (small 1) (small 2) (small 3) c.from_le_bytes.ensures c.lower_bytes.ensures

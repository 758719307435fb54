use Rattle.std.proofs.Common.{refl}
use Rattle.vertex_layout.specs.Placed.{placed_seen}
use Rattle.vertex_layout.proofs.FetchLaws.{bytes_end}
use Rattle.vertex_layout.proofs.fetch.color_in.Goals as goal

pub four_bytes-requires-clause-within : goal.four_bytes-requires-clause-within
four_bytes-requires-clause-within c = bytes_end (placed_seen c.args.placed.now) c.args.at _ (c.if-is_four_bytes.ensures.kind refl) (c.if-is_four_bytes.ensures.four refl) c.requires

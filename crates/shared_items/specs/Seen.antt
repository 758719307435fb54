-- Pairs of the code.
use Rattle.std.specs.Prelude.{ℕ}
use Rattle.gfx_model.specs.Frames.{Entry}
use Rattle.shared_items.specs.declared.pairs.ItemPair.{ItemPair}

abbrev pub first_seen : ItemPair → Entry
first_seen p = record { encoder = p.first; ordinal = p.first_item }

abbrev pub second_seen : ItemPair → Entry
second_seen p = record { encoder = p.second; ordinal = p.second_item }

-- a pair with its view
abbrev pub pair_seen : ItemPair → ℕ × (Entry × Entry)
pair_seen p = (p.view, (first_seen p, second_seen p))

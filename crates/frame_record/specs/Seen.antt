-- Recordings and entries as the definitions see them.
use Rattle.std.specs.Prelude.{List, map}
use Rattle.gfx_model.specs.Frames as model
use Rattle.gfx_model.specs.World.{Numbered}
use Rattle.draw_encoder.specs.declared.items.Item.{Item}
use Rattle.draw_encoder.specs.declared.items.Recording.{Recording}
use Rattle.draw_encoder.specs.Seen.{item_seen, number_of}
pub use Rattle.gfx_words.specs.Seen.{entry_seen}

-- an item of a recording with the number that it drew
abbrev pub numbered_seen : Recording → Item → Numbered
numbered_seen r i = record { number = number_of i; item = item_seen r.bytes r.uniforms i }

-- a recording: its encoder, and its items with their numbers
abbrev pub recorded_seen : Recording → model.Recorded
recorded_seen r = record { encoder = r.encoder; items = map (numbered_seen r) r.items }

-- recordings in order
abbrev pub recordings_seen : List Recording → List model.Recorded
recordings_seen rs = map recorded_seen rs

-- A thing, where one is needed as the value past an end.
use Rattle.std.proofs.Common.{None}
use Rattle.gfx_model.specs.Words.{layout_kind, plain, solid}
use Rattle.gfx_model.specs.World.{program_content}
use Rattle.gfx_model.specs.Resources.{Thing}

abbrev pub no_thing : Thing
no_thing = record { handle = record { kind = layout_kind; index = 0; serial = 0; info = plain }; birth = 0; death = None; content = program_content solid; references = 0 }

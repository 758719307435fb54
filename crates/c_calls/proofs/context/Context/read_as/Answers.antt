use Rattle.std.proofs.Common.{subst}
use Rattle.store_laws.specs.ByIndex.{Stores}
use Rattle.pixel_reading.specs.Reads.{Reads}
use Rattle.c_calls.proofs.context.Context.read_as.Goals as goal

pub returns : goal.returns
returns c = subst (λ (s : Stores). Reads c.read_pixels.result s c.args.texture c.args.pixels c.args.stride c.args.buffer.now c.read_pixels.new.buffer) c.stores.ensures c.read_pixels.ensures

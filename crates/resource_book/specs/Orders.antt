-- What is written for the renderer before a frame's draws, and the room for more.
use Rattle.std.specs.Prelude.{ℕ, List, ◌<◌, ◌≤◌, vec_len, vec_capacity}
use Rattle.cmd_buffer.specs.Payloads.{payloads_seen}
use Rattle.resource_book.specs.declared.orders.Orders.{Orders}

-- the payloads, by their numbers
abbrev pub orders_sent : Orders → List (List ℕ)
orders_sent o = payloads_seen o.payloads.items

-- there is room for one command of so many bytes and one payload more
pub record HasRoom (bytes : ℕ) (o : Orders) : Type 0 where
  pub command : bytes ≤ o.commands.spare
  pub payload : vec_len o.payloads < vec_capacity o.payloads
  pub number : vec_len o.payloads < 4294967295

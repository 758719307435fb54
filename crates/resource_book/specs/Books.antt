-- A book as the definitions see it.
use Rattle.std.specs.Prelude.{◌≤◌, ◌+◌, ◌*◌, length}
use Rattle.gfx_model.specs.Resources.{is_live}
use Rattle.resource_laws.specs.Lawful.{IsLawful, count_where}
use Rattle.resource_book.specs.declared.book.Book.TheInside.{Inside}
use Rattle.resource_book.specs.Orders.{orders_sent}
use Rattle.resource_book.specs.Shelves.{resources_of, HasLimits}
use Rattle.resource_book.specs.Works.{destroy_bytes}
use Rattle.resource_book.specs.Written.{BookView}

-- the state of the calls, and what they wrote
abbrev pub view_of : Inside → BookView
view_of b = record {
  resources = resources_of b.shelf;
  pre = b.orders.commands.commands;
  post = b.post.commands;
  payloads = orders_sent b.orders;
}

-- what every book keeps: the limits of the kinds; that the state is lawful; and room for the destroys of all things
pub record IsBook (b : Inside) : Type 0 where
  pub limits : HasLimits b.shelf
  pub lawful : IsLawful (resources_of b.shelf)
  pub frame : b.shelf.frame ≤ 1073741823
  -- no more were destroyed in this frame than do not live
  pub destroys : length b.post.commands + count_where is_live (resources_of b.shelf).things ≤ length (resources_of b.shelf).things
  pub room : destroy_bytes ≤ b.post.spare + 4 * length b.post.commands

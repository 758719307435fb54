-- A shelf as the definitions' state, with contents left out.
use Rattle.std.specs.Prelude.{◌≡◌, map}
use Rattle.gfx_model.specs.Words.{all_kinds, greatest}
use Rattle.gfx_model.specs.Resources.{Resources}
use Rattle.resource_book.specs.declared.shelf.Shelf.{Shelf}
use Rattle.resource_book.specs.Stacks.{book_seen}

-- the state that a shelf is
abbrev pub resources_of : Shelf → Resources
resources_of s = record {
  latency = s.latency;
  frame = s.frame;
  books = map book_seen s.stacks;
  things = s.table.things;
  next_serial = s.next_serial;
  views = s.views;
}

-- the stack of each kind has its greatest number of indices
abbrev pub HasLimits : Shelf → Type 0
HasLimits s = map (λ b. b.limit) s.stacks ≡ map greatest all_kinds

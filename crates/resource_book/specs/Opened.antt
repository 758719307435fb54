-- The first state of the calls.
use Rattle.std.specs.Prelude.{[]}
use Rattle.std.specs.List.{range_with_len}
use Rattle.gfx_model.specs.Words.{Kind, greatest}
use Rattle.gfx_model.specs.Resources.{opening}
use Rattle.resource_book.specs.declared.opening.Start.{Start}
use Rattle.resource_book.specs.Stacks.{StackView}
use Rattle.resource_book.specs.Written.{BookView}

-- all indices of a kind can be given
abbrev pub new_stack : Kind → StackView
new_stack k = record { limit = greatest k; free = range_with_len 0 (greatest k); waiting = [] }

-- nothing is made, and nothing is written
abbrev pub opened : Start → BookView
opened s = record { resources = opening s.views s.latency s.frame s.serial; pre = []; post = []; payloads = [] }

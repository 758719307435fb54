use Rattle.std.proofs.Common.{ap, sym, ◌∙◌, map}
use Rattle.resource_book.specs.Shelves.{resources_of}
use Rattle.resource_book.specs.Stacks.{StackView, book_seen}
use Rattle.resource_book.proofs.Starts.{reclaims, books_started, limits_started, targets_live}
use Rattle.gfx_model.specs.Resources.{is_kept_thing}
use Rattle.resource_book.proofs.Overs.{all_stay}
use Rattle.resource_book.proofs.Rooms.{things_fit}
use Rattle.resource_book.proofs.shelf.Shelf.start_frame.Goals as goal

pub reclaim_all-requires : goal.reclaim_all-requires
reclaim_all-requires c = reclaims c.args.self.now c.requires.limits c.requires.lawful

pub returns-then-not-keeps_all-clause-limits : goal.returns-then-not-keeps_all-clause-limits
returns-then-not-keeps_all-clause-limits c = ap (map (λ (s : StackView). s.limit)) c.reclaim_all.ensures ∙ limits_started c.args.self.now.latency c.args.frame c.args.self.now.stacks ∙ c.requires.limits

pub returns-then-not-keeps_all-clause-after : goal.returns-then-not-keeps_all-clause-after
returns-then-not-keeps_all-clause-after c = λ j. record {
  latency = c.args.self.now.latency;
  frame = c.args.frame;
  books = (ap (map book_seen) c.reclaim_all.ensures ∙ books_started c.args.self.now.latency c.args.frame c.args.self.now.stacks) j;
  things = c.start_frame.ensures j;
  next_serial = c.args.self.now.next_serial;
  views = (c.keep_targets.ensures ∙ targets_live (resources_of c.args.self.now) c.args.self.now.views) j;
}

pub returns-else-not-keeps_all-clause-limits : goal.returns-else-not-keeps_all-clause-limits
returns-else-not-keeps_all-clause-limits c = ap (map (λ (s : StackView). s.limit)) c.reclaim_all.ensures ∙ limits_started c.args.self.now.latency c.args.frame c.args.self.now.stacks ∙ c.requires.limits

pub returns-else-not-keeps_all-clause-after : goal.returns-else-not-keeps_all-clause-after
returns-else-not-keeps_all-clause-after c = λ j. record {
  latency = c.args.self.now.latency;
  frame = c.args.frame;
  books = (ap (map book_seen) c.reclaim_all.ensures ∙ books_started c.args.self.now.latency c.args.frame c.args.self.now.stacks) j;
  things = sym (all_stay (is_kept_thing c.args.self.now.latency c.args.frame) c.args.self.now.table.things (sym c.keeps_all-keeps_all.ensures ∙ c.if-not-keeps_all.false)) j;
  next_serial = c.args.self.now.next_serial;
  views = (c.keep_targets.ensures ∙ targets_live (resources_of c.args.self.now) c.args.self.now.views) j;
}

pub start_frame-requires : goal.start_frame-requires
start_frame-requires c = things_fit (resources_of c.args.self.now) c.requires.lawful

use Rattle.std.proofs.Common.{rules, map}
use Rattle.resource_book.specs.Stacks.{book_seen}
use Rattle.resource_book.proofs.Openings.{opened_kept}
use Rattle.resource_book.proofs.book.Book.new.Goals as goal

pub invariant_of-result : goal.invariant_of-result
invariant_of-result c = opened_kept _ c.args.start (λ j. record {
  resources = record {
    latency = c.args.start.latency;
    frame = c.args.start.frame;
    books = map book_seen (c.in_ok-stacks.ensures j);
    things = c.in_ok-table.ensures j;
    next_serial = c.args.start.serial;
    views = c.in_ok-views.ensures j;
  };
  pre = c.new-3.ensures.commands j;
  post = c.in_ok-post.ensures.0 j;
  payloads = c.new-3.ensures.payloads j;
}) c.in_ok-stacks.ensures c.in_ok-post.ensures.1 c.requires.frame (search rules)

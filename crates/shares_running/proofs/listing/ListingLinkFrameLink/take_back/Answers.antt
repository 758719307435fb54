use Rattle.std.proofs.Common.{List, sym, subst}
use Rattle.frame_record.specs.declared.frame.Frame.{Frame}
use Rattle.shares_running.specs.Listed.{lists_seen, AreListed}
use Rattle.shares_running.proofs.listing.ListingLinkFrameLink.take_back.Goals as goal

pub invariant_of-self : goal.invariant_of-self
invariant_of-self c = record {
  listed = λ whole. subst (λ (fs : List Frame). AreListed (lists_seen c.args.self.now.lists.items) fs) (sym c.take_back.ensures.given) (c.args.self.now.listed whole);
}

use Rattle.std.proofs.Common.{rules, refl}
use Rattle.gfx_model.specs.Resources.{is_over}
use Rattle.resource_book.proofs.KeepLaws.{kept_next, rest_next}
use Rattle.resource_book.proofs.stacks.keep_later.Goals as goal

pub loop-i-preserved : goal.loop-i-preserved
loop-i-preserved c =
    let i = c.loop-i.invariant in
    record {
      few = search rules;
      long = search rules;
      kept = kept_next (λ w. is_over c.args.latency c.args.frame w.1) c.loop-i.waiting.items c.args.waiting.now.items c.loop-i.later c.loop-i.i c.index-w.result.now i.few (search rules) i.long i.kept i.rest c.index-w.ensures
          (is_over c.args.latency c.args.frame c.index-w.result.now.death) refl c.next_place-later.result c.next_place-later.ensures;
      rest = rest_next (λ w. is_over c.args.latency c.args.frame w.1) c.loop-i.waiting.items c.args.waiting.now.items c.loop-i.later c.loop-i.i c.index-w.result.now i.few (search rules) i.long i.kept i.rest c.index-w.ensures;
    }

use Rattle.tri_cover.proofs.Shortened.{four_on}
use Rattle.tri_cover.proofs.quads.next_fours.Goals as goal

pub returns : goal.returns
returns c =
    let s = c.args.shorts.now in
    let k = c.args.k in
    let h = c.requires.here in
    let b = c.requires.by in
    record {
      left = four_on s.left c.args.here.now.left c.args.by.now.left c.sums.result k h.left b.left c.sums.ensures;
      other_left = four_on s.other_left c.args.here.now.other_left c.args.by.now.other_left c.sums-2.result k h.other_left b.other_left c.sums-2.ensures;
      right = four_on s.right c.args.here.now.right c.args.by.now.right c.sums-3.result k h.right b.right c.sums-3.ensures;
      other_right = four_on s.other_right c.args.here.now.other_right c.args.by.now.other_right c.sums-4.result k h.other_right b.other_right c.sums-4.ensures;
    }

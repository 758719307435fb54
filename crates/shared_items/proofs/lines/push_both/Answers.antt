use Rattle.std.proofs.Common.{◌≡◌, List, ℕ, ◌++◌, ◌∙◌}
use Rattle.gfx_model.specs.Frames.{Entry}
use Rattle.shared_items.specs.Items.{view_of_pair}
use Rattle.shared_keys.specs.Lines.{shared_line}
use Rattle.shared_items.specs.Lines.{numbers_seen, number_in, numbered_pair}
use Rattle.shared_items.specs.Seen.{pair_seen}
use Rattle.shared_items.proofs.Joined.{two_more, one_line}
use Rattle.shared_items.proofs.lines.push_both.Goals as goal

pub returns : goal.returns
returns c =
    let p : ℕ × (Entry × Entry) = pair_seen c.args.pair.now in
    let line : List ℕ = shared_line c.args.frame (view_of_pair p) in
    let old : List ℕ = c.args.lines.now.items in
    let first : c.number_of-first_line.result ≡ number_in (numbers_seen c.args.numbers.now) p.1.0.encoder p.1.0.ordinal = c.number_of-first_line.ensures in
    let second : c.number_of-second_line.result ≡ number_in (numbers_seen c.args.numbers.now) p.1.1.encoder p.1.1.ordinal = c.number_of-second_line.ensures in
    two_more old line (numbered_pair c.args.frame p c.number_of-first_line.result c.number_of-second_line.result) _ _
    (one_line old line _ c.in_ok-push_lines.ensures) c.in_ok-push_pair.ensures
    ∙ (λ i. old ++ (line ++ numbered_pair c.args.frame p (first i) (second i)))

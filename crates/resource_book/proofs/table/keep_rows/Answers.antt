use Rattle.std.proofs.Common.{rules, ap, ◌∙◌}
use Rattle.std.proofs.lemmas.Fn.{filter_same}
use Rattle.gfx_model.specs.Resources.{is_kept_thing}
use Rattle.resource_book.specs.Seen.{row_seen, rows_seen}
use Rattle.resource_book.proofs.Starts.{kept_rows}
use Rattle.resource_book.proofs.table.keep_rows.Goals as goal

pub returns : goal.returns
returns c = ap rows_seen (filter_same _ (λ r. is_kept_thing c.args.latency c.args.frame (row_seen r)) _ (λ x b f' k. search rules) _ _ c.retain.ensures.filtered)
    ∙ kept_rows (is_kept_thing c.args.latency c.args.frame) c.args.rows.now.items

use Rattle.std.proofs.Common.{sym, subst, ◌∙◌}
use Rattle.scene_model.specs.Field.{split_at}
use Rattle.item_lines.specs.Merging.{Ascend}
use Rattle.item_lines.proofs.PlaceLaws.{ascend-from}
use Rattle.item_lines.proofs.items.scene_items.Goals as goal

pub accepted_items-requires-clause-ascend : goal.accepted_items-requires-clause-ascend
accepted_items-requires-clause-ascend c = subst Ascend (sym (c.deref-2.ensures.value ∙ c.in_ok-numbers.ensures)) (ascend-from 1 (split_at 10 c.args.bytes.now))

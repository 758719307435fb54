use Rattle.std.proofs.Common.{◌∙◌, ap, sym, nat_lt}
use Rattle.std.proofs.lemmas.List.{length-map}
use Rattle.gfx_query.specs.Text.{when}
use Rattle.gfx_query.specs.Seen.{frame_seen}
use Rattle.gfx_query.proofs.reading.has_room.Goals as goal

pub returns : goal.returns
returns c = c.when.ensures ∙ ap (λ n. when (nat_lt n 1024)) (sym (length-map c.args.frames.now frame_seen))

use Rattle.std.proofs.lemmas.Result.{on_ok_weaker}
use Rattle.view_table.specs.Seen.{view_seen}
use Rattle.render_stores.specs.Seen.{stores_seen}
use Rattle.view_drawing.specs.Entries.{blits_of}
use Rattle.view_drawing.proofs.Copies.{blits_copied}
use Rattle.view_drawing.proofs.deeds.copy_blits.Goals as goal

pub returns : goal.returns
returns c =
    on_ok_weaker c.blit_all.result
    (λ e. blits_copied (view_seen c.args.view.now) (stores_seen c.args.stores.now) (blits_of c.args.frame.now c.args.blits.now) c.blit_all.new.textures e)
    c.blit_all.ensures.copied

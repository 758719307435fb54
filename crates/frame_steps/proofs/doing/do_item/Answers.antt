use Rattle.std.proofs.Common.{◌≡◌, ◌∙◌, sym, ap}
use Rattle.std.proofs.lemmas.Result.{on_ok_weaker}
use Rattle.gfx_model.specs.Frames.{item_of_entry}
use Rattle.frame_record.specs.Seen.{entry_seen, recordings_seen}
use Rattle.view_table.specs.Seen.{view_seen}
use Rattle.render_stores.specs.Seen.{stores_seen}
use Rattle.frame_steps.proofs.Dones.{plain-one, blit-one, draw-one}
use Rattle.frame_steps.proofs.doing.do_item.Goals as goal

pub do_draws-requires : goal.do_draws-requires
do_draws-requires g c =
    plain-one (item_of_entry (recordings_seen c.args.frame.now.recordings.items) (entry_seen c.args.entry)) (sym c.has_blit.ensures ∙ c.if-has_blit.false)

pub returns-then-has_blit : goal.returns-then-has_blit
returns-then-has_blit g c =
    on_ok_weaker c.copy_blits.result
    (λ e. e ∙ blit-one (view_seen c.args.view.now) (stores_seen c.args.stores.now) (item_of_entry (recordings_seen c.args.frame.now.recordings.items) (entry_seen c.args.entry)) (sym c.has_blit.ensures ∙ c.if-has_blit.true))
    c.copy_blits.ensures

pub returns : goal.returns
returns g c =
    on_ok_weaker c.do_draws.result
    (λ e. e ∙ draw-one (view_seen c.args.view.now) (stores_seen c.args.stores.now) (item_of_entry (recordings_seen c.args.frame.now.recordings.items) (entry_seen c.args.entry)))
    c.do_draws.ensures

use Rattle.std.proofs.Common.{◌∙◌}
use Rattle.render_core.specs.Seen.{frame_seen}
use Rattle.render_core.specs.Needs.{FitsText}
use Rattle.render_core.proofs.Sides.{fits_next}
use Rattle.render_core.proofs.renderer.Canvas.draw_rest.Goals as goal

pub write-requires-clause-width : goal.write-requires-clause-width
write-requires-clause-width g c =
    let first = c.args.opening.now.value.canvas in
    (fits_next first c.end.new.self (frame_seen c.args.frame.now) c.in_ok-end.ensures.stores (c.end.ensures.text ∙ c.requires.text) c.requires.fits).0

pub write-requires-clause-height : goal.write-requires-clause-height
write-requires-clause-height g c =
    let first = c.args.opening.now.value.canvas in
    (fits_next first c.end.new.self (frame_seen c.args.frame.now) c.in_ok-end.ensures.stores (c.end.ensures.text ∙ c.requires.text) c.requires.fits).1

pub returns-clause-fits : goal.returns-clause-fits
returns-clause-fits g c =
    let first = c.args.opening.now.value.canvas in
    let fits : FitsText c.end.new.self = fits_next first c.end.new.self (frame_seen c.args.frame.now) c.in_ok-end.ensures.stores (c.end.ensures.text ∙ c.requires.text) c.requires.fits in
    (c.write.ensures.sides.0 ∙ fits.0, c.write.ensures.sides.1 ∙ fits.1)

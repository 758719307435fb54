use Rattle.std.proofs.Common.{take}
use Rattle.std.specs.Prelude.{option_map, option_and_then}
use Rattle.frame_record.specs.Seen.{entry_seen, recordings_seen}
use Rattle.view_drawing.specs.Entered.{blit_in}
use Rattle.view_drawing.specs.Entries.{blit_of, blits_of, found_seen}
use Rattle.view_drawing.proofs.Entries.{blits_more}
use Rattle.view_drawing.proofs.Folds.{fold_more, on_err_holds}
use Rattle.view_drawing.proofs.Needs.{stops_at_blit}
use Rattle.view_drawing.proofs.blits.blit_all.Goals as goal

pub returns-in_err-blit_found-clause-begun : goal.returns-in_err-blit_found-clause-begun
returns-in_err-blit_found-clause-begun c =
    on_err_holds c.from_residual.result
    (stops_at_blit (recordings_seen c.args.frame.now.recordings.items) (λ p. entry_seen p.entry) c.args.blits.now c.loop-one.one-index record { position = 0; entry = record { encoder = 0; ordinal = 0 } } (option_map found_seen c.item.result)
    c.args.textures.now c.loop-one.textures c.blit_found.new.textures c.loop-one-test.true c.item.ensures.content c.in_err-blit_found.ensures.needs c.in_err-blit_found.ensures.kept c.loop-one.invariant)

pub loop-one-preserved : goal.loop-one-preserved
loop-one-preserved c =
    let f = c.args.frame.now in
    let i = c.loop-one.one-index in
    let found = option_map found_seen c.item.result in
    fold_more blit_in c.args.textures.now c.loop-one.textures c.blit_found.new.textures (blits_of f (take i c.args.blits.now)) _ (option_and_then blit_of found)
    (blits_more (recordings_seen f.recordings.items) (λ p. entry_seen p.entry) c.args.blits.now i record { position = 0; entry = record { encoder = 0; ordinal = 0 } } c.loop-one-test.true found c.item.ensures.content)
    c.loop-one.invariant c.in_ok-blit_found.ensures.copied

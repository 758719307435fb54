use Rattle.std.proofs.Common.{◌+◌, map, sym, subst, arith}
use Rattle.std.proofs.lemmas.List.{take_rest, length-drop}
use Rattle.scene_text.specs.Seen.{encoder_line_seen, frame_seen}
use Rattle.scene_text.specs.Runs.{IsFirstLine, AreRead, with_frames}
use Rattle.scene_text.proofs.RunLines.{run_step}
use Rattle.scene_text.proofs.runs.read_run.Goals as goal

pub loop-line-preserved : goal.loop-line-preserved
loop-line-preserved c =
    let l = c.loop-line in
    let bytes = c.args.bytes.now in
    let names = c.args.names.now in
    let end = c.in-Some.end in
    let line = encoder_line_seen c.in-Some.line in
    let found = subst (λ b. IsFirstLine names b end line) (take_rest bytes l.place) c.in-Some.ensures in
    record {
      within = omega (arith, found.within, length-drop l.place bytes, l.invariant.within);
      few = omega (arith, l.invariant.few);
      read = λ r s m f. subst (λ fs. AreRead bytes (l.place + (end + 1)) (l.lines + 1) r (with_frames fs r)) (sym c.in_ok-add_encoder_line.ensures) (run_step names bytes l.place l.lines end r (with_frames (map frame_seen l.frames.items) r) line (l.invariant.read r s m f) s m found);
    }

use Rattle.std.proofs.Common.{◌+◌, ◌-◌, length, take, drop, sym, arith}
use Rattle.std.proofs.lemmas.List.{take_rest, length-drop}
use Rattle.scene_text.specs.SeenReading.{reading_seen}
use Rattle.scene_model.specs.Grammar.{whole_language}
use Rattle.scene_text.proofs.Lines.{line_less}
use Rattle.scene_text.proofs.Fronts.{front_more, front_stops, front_ends}
use Rattle.scene_text.proofs.front.read_to_done.Goals as goal

pub loop-n-preserved : goal.loop-n-preserved
loop-n-preserved c =
    let s = c.in-Some.ensures.cases in
    record {
      left =
          rw (take_rest c.loop-n.rest.now (c.in-Some.n + 1))
          (front_more whole_language c.loop-n.line (length c.args.bytes.now) (reading_seen c.loop-n.reading) (reading_seen c.after_line.new.self) c.in-Some.n c.loop-n.rest.now _ (sym c.loop-n-test.ensures) s.0 c.loop-n.invariant.rest c.loop-n.invariant.left s.1 c.in-Ok.ensures);
      line = line_less c.loop-n.line c.in-Some.n c.loop-n.rest.now _ s.0 c.loop-n.invariant.line;
      rest = rw (take_rest c.loop-n.rest.now (c.in-Some.n + 1)) (omega (arith, length-drop (c.in-Some.n + 1) c.loop-n.rest.now, c.loop-n.invariant.rest));
    }

pub returns-in-Err : goal.returns-in-Err
returns-in-Err c = record {
  exact = rw c.at.ensures (front_stops whole_language c.in-Err.fault c.loop-n.line (length c.args.bytes.now - length c.loop-n.rest.now) (reading_seen c.loop-n.reading) (take c.in-Some.n c.loop-n.rest.now) c.loop-n.rest.now (drop (c.in-Some.n + 1) c.loop-n.rest.now) _ (sym c.loop-n-test.ensures) c.loop-n.invariant.left c.in-Some.ensures.cases.1 c.in-Err.ensures);
  within = tt;
}

pub returns : goal.returns
returns c = record {
  exact = front_ends whole_language c.loop-n.line (length c.args.bytes.now - length c.loop-n.rest.now) (reading_seen c.loop-n.reading) c.loop-n.rest.now _ _ (sym c.loop-n-test.ensures) c.loop-n.invariant.left c.in_ok-scene-2.ensures;
  within = omega arith;
}

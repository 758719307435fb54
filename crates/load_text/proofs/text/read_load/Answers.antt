use Rattle.std.proofs.Common.{◌≡◌, ◌+◌, take, drop, None, Some, subst}
use Rattle.std.proofs.lemmas.List.{take_rest}
use Rattle.load_text.specs.Text.{after_line, load_of}
use Rattle.load_text.specs.SeenReading.{reading_seen, Reads}
use Rattle.load_text.proofs.Lines.{line_more, line_stops, line_less}
use Rattle.load_text.proofs.text.read_load.Goals as goal

pub returns-then-not-stands : goal.returns-then-not-stands
returns-then-not-stands c =
    let r = reading_seen c.loop-n.reading in
    let p = take c.in-Some.n c.loop-n.rest.now in
    let fails : after_line r p ≡ None = subst (λ b. Reads b (reading_seen c.after_line.new.self) (after_line r p)) c.if-not-stands.true c.in_ok-stands.ensures in
    line_stops c.loop-n.line r p c.loop-n.rest.now (drop (c.in-Some.n + 1) c.loop-n.rest.now) (load_of c.args.bytes.now) c.loop-n.invariant.left c.in-Some.ensures.cases.1 fails

pub loop-n-preserved : goal.loop-n-preserved
loop-n-preserved c =
    let s = c.in-Some.ensures.cases in
    let r = reading_seen c.loop-n.reading in
    let q = reading_seen c.after_line.new.self in
    let p = take c.in-Some.n c.loop-n.rest.now in
    let stands : after_line r p ≡ Some q = subst (λ b. Reads b q (after_line r p)) c.if-not-stands.false c.in_ok-stands.ensures in
    record {
      left = rw (take_rest c.loop-n.rest.now (c.in-Some.n + 1)) (line_more c.loop-n.line r q p c.loop-n.rest.now (drop (c.in-Some.n + 1) c.loop-n.rest.now) (load_of c.args.bytes.now) c.loop-n.invariant.left s.1 stands);
      line = line_less c.loop-n.line c.in-Some.n c.loop-n.rest.now _ s.0 c.loop-n.invariant.line;
    }

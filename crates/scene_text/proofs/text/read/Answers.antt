use Rattle.std.proofs.Common.{ℕ, ◌≤◌, length, List, Result, Ok, Err, ◌+◌, ◌-◌, take, drop, ap, subst, sym, ◌∙◌, arith}
use Rattle.std.specs.Prelude.{IfOk}
use Rattle.std.proofs.lemmas.List.{take_rest, length-drop}
use Rattle.scene_model.specs.Field.{split_at}
use Rattle.scene_model.specs.Grammar.{scene_of, read_pieces, whole_language}
use Rattle.scene_text.specs.declared.scene.Scene.{Scene}
use Rattle.scene_text.specs.declared.fault.SceneFault.{SceneFault}
use Rattle.spelling_model.specs.Readable.{IsReadable}
use Rattle.scene_text.specs.Bounds.{IsBounded}
use Rattle.scene_text.specs.Reads.{Reads}
use Rattle.scene_text.specs.Seen.{scene_seen}
use Rattle.scene_text.specs.SeenReading.{reading_seen}
use Rattle.scene_text.proofs.Bounded.{bounded}
use Rattle.scene_text.proofs.Lines.{line_more, line_stops, line_less}
use Rattle.scene_text.proofs.text.read.Goals as goal

-- what is read as the definition says keeps the bounds of each scene that is read
read_bounded : (result : Result Scene SceneFault) (bytes : List ℕ) → length bytes ≤ 4294967294 → Reads result (scene_of whole_language bytes) → IfOk result (λ s. IsBounded (scene_seen s))
read_bounded (Ok scene) bytes le e = (bounded bytes (scene_seen scene) le e).1
read_bounded (Err fault) bytes le e = tt

-- and is readable
read_readable : (result : Result Scene SceneFault) (bytes : List ℕ) → length bytes ≤ 4294967294 → Reads result (scene_of whole_language bytes) → IfOk result (λ s. IsReadable (scene_seen s))
read_readable (Ok scene) bytes le e = (bounded bytes (scene_seen scene) le e).0
read_readable (Err fault) bytes le e = tt

pub returns-in-Err : goal.returns-in-Err
returns-in-Err c = record {
  exact = rw c.at.ensures (line_stops whole_language c.in-Err.fault c.loop-fields.line (reading_seen c.loop-fields.reading) (take c.in-Some.found.end c.loop-fields.rest.now) c.loop-fields.rest.now (drop (c.in-Some.found.end + 1) c.loop-fields.rest.now) _ c.loop-fields.invariant.left (rw c.in-Some.is at c.in_ok-found.ensures.cases).1 c.in-Err.ensures);
  readable = tt;
  bounds = tt;
}

pub returns-clause-readable : goal.returns-clause-readable
returns-clause-readable c =
    let last = (rw c.in_default.is at c.in_ok-found.ensures.cases) in
    let whole = sym (ap (read_pieces whole_language c.loop-fields.line (Ok (reading_seen c.loop-fields.reading))) last) ∙ c.loop-fields.invariant.left in
    read_readable c.at_last_piece.result c.args.bytes.now c.requires (subst (Reads c.at_last_piece.result) whole c.at_last_piece.ensures)

pub returns-clause-bounds : goal.returns-clause-bounds
returns-clause-bounds c =
    let last = (rw c.in_default.is at c.in_ok-found.ensures.cases) in
    let whole = sym (ap (read_pieces whole_language c.loop-fields.line (Ok (reading_seen c.loop-fields.reading))) last) ∙ c.loop-fields.invariant.left in
    read_bounded c.at_last_piece.result c.args.bytes.now c.requires (subst (Reads c.at_last_piece.result) whole c.at_last_piece.ensures)

pub loop-fields-preserved : goal.loop-fields-preserved
loop-fields-preserved c =
    let l = c.loop-fields in
    let s = (rw c.in-Some.is at c.in_ok-found.ensures.cases) in
    let n = c.in-Some.found.end + 1 in
    let left = take (length l.rest.now - n) (drop n l.rest.now) in
    let next = reading_seen c.after_next.new.self in
    let last = reading_seen c.after_run.new.self in
    let run = c.in_ok-run.run' in
    let read = c.in_ok-run.ensures.read in
    let few = c.in_ok-run.ensures.few in
    record {
      left =
          ap (λ t. read_pieces whole_language (l.line + 1 + run.lines) (Ok last) (split_at 10 t)) (take_rest left run.bytes)
          ∙ sym (read.same (l.line + 1))
          ∙ ap (λ t. read_pieces whole_language (l.line + 1) (Ok next) (split_at 10 t)) (take_rest l.rest.now n)
          ∙ line_more whole_language l.line (reading_seen l.reading) next (take c.in-Some.found.end l.rest.now) l.rest.now (drop n l.rest.now) _ l.invariant.left s.1 c.in-Ok.ensures;
      line = omega (arith, line_less l.line c.in-Some.found.end l.rest.now _ s.0 l.invariant.line, few.0, few.1, ap length (take_rest left run.bytes), length-drop run.bytes left);
    }

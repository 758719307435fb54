use Rattle.std.proofs.Common.{◌≡◌, ◌≤◌, ℕ, List, Result, Ok, Err, ◌+◌, length, take, drop, ap, subst, sym, ◌∙◌, arith}
use Rattle.std.specs.Prelude.{IfOk}
use Rattle.std.specs.List.{AllByRecursion}
use Rattle.std.proofs.lemmas.List.{take_rest, length-drop, length-take-le}
use Rattle.scene_model.specs.JournalText.{journal_pieces, journal_of}
use Rattle.scene_model.specs.TextLaws.{IsSpellable}
use Rattle.scene_text.specs.declared.journal.Journal.{Journal}
use Rattle.scene_text.specs.declared.journal.JournalFault.{JournalFault}
use Rattle.scene_text.specs.Seen.{journal_seen}
use Rattle.scene_text.specs.Journals.{ReadsJournal, entry_count, behind_frames, frames_read}
use Rattle.scene_text.proofs.JournalLines.{journal_step, journal_short, journal_small}
use Rattle.scene_text.proofs.journal_reading.read_journal.Goals as goal

-- what is read as the definition says has few entries
read_few : (result : Result Journal JournalFault) (bytes : List ℕ) (n : ℕ) → ReadsJournal result (journal_of bytes n) → IfOk result (λ j. entry_count (journal_seen j) ≤ length bytes)
read_few (Ok journal) bytes n e = journal_short bytes n (journal_seen journal) e
read_few (Err fault) bytes n e = tt

-- and its entries are in their ranges
read_small : (result : Result Journal JournalFault) (bytes : List ℕ) (n : ℕ) → ReadsJournal result (journal_of bytes n) → IfOk result (λ j. AllByRecursion (AllByRecursion IsSpellable) (journal_seen j))
read_small (Ok journal) bytes n e = journal_small bytes n (journal_seen journal) e
read_small (Err fault) bytes n e = tt

pub loop-n-preserved : goal.loop-n-preserved
loop-n-preserved c =
    let s = c.in-Some.ensures.cases in
    rw (take_rest c.loop-n.rest.now (c.in-Some.n + 1))
    (record {
      left = sym (journal_step {A = Unit {0}} (Ok tt) (frames_read c.loop-n.reading) c.loop-n.reading.place c.loop-n.reading.left c.loop-n.rest.now (take c.in-Some.n c.loop-n.rest.now) (drop (c.in-Some.n + 1) c.loop-n.rest.now) _
          (λ ps. behind_frames (frames_read c.after_line.new.self) c.after_line.new.self.place (journal_pieces ps c.after_line.new.self.left))
          c.loop-n.invariant.left s.1 c.in-Ok.ensures.after);
      place = omega (arith, length-drop (c.in-Some.n + 1) c.loop-n.rest.now, length-take-le c.in-Some.n c.loop-n.rest.now (omega (arith, s.0)), c.after_line.ensures.place, c.loop-n.invariant.place, s.0);
    })

pub returns-in-Err : goal.returns-in-Err
returns-in-Err c =
    let s = c.in-Some.ensures.cases in
    record {
      exact = journal_step {A = Unit {0}} (Err c.in-Err.fault) (frames_read c.loop-n.reading) c.loop-n.reading.place c.loop-n.reading.left c.loop-n.rest.now (take c.in-Some.n c.loop-n.rest.now) (drop (c.in-Some.n + 1) c.loop-n.rest.now) _
          (λ ps. behind_frames (frames_read c.after_line.new.self) c.after_line.new.self.place (journal_pieces ps c.after_line.new.self.left))
          c.loop-n.invariant.left s.1 c.in-Err.ensures.after;
      few = tt;
      spellable = tt;
    }

pub returns-clause-few : goal.returns-clause-few
returns-clause-few c =
    let whole = sym (ap (λ ps. behind_frames (frames_read c.loop-n.reading) c.loop-n.reading.place (journal_pieces ps c.loop-n.reading.left)) c.in_default.ensures.cases) ∙ c.loop-n.invariant.left in
    read_few c.at_last_piece.result c.args.bytes.now c.args.frames (subst (ReadsJournal c.at_last_piece.result) whole c.at_last_piece.ensures)

pub returns-clause-spellable : goal.returns-clause-spellable
returns-clause-spellable c =
    let whole = sym (ap (λ ps. behind_frames (frames_read c.loop-n.reading) c.loop-n.reading.place (journal_pieces ps c.loop-n.reading.left)) c.in_default.ensures.cases) ∙ c.loop-n.invariant.left in
    read_small c.at_last_piece.result c.args.bytes.now c.args.frames (subst (ReadsJournal c.at_last_piece.result) whole c.at_last_piece.ensures)

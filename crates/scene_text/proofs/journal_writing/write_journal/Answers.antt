use Rattle.std.proofs.Common.{◌≡◌, map, ap, ◌∙◌}
use Rattle.scene_model.specs.Output.{journal_text}
use Rattle.scene_model.proofs.JournalLaws.{journal-text-law}
use Rattle.scene_text.specs.Seen.{entry_seen, journal_seen}
use Rattle.scene_text.proofs.journal_writing.write_journal.Goals as goal

the_text : (c : goal.In_ok-put_frames) → c.put_frames.new.text.items ≡ journal_text (journal_seen c.args.journal.now)
the_text c = rw c.new-text.ensures.items at c.in_ok-put_frames.ensures ∙ ap (λ fs. journal_text (map (map entry_seen) fs)) c.as_slice.ensures

pub returns-clause-again : goal.returns-clause-again
returns-clause-again c spellable = rw (the_text c) (journal-text-law (journal_seen c.args.journal.now) spellable)

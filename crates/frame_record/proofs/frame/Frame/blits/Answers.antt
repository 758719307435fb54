use Rattle.std.proofs.Common.{◌≡◌, List, ap, ◌∙◌, map}
use Rattle.std.proofs.lemmas.Result.{on_ok_weaker}
use Rattle.gfx_model.specs.World.{sorted_by_key}
use Rattle.draw_encoder.specs.declared.items.Recording.{Recording}
use Rattle.gfx_words.specs.declared.journal.JournalEntry.{JournalEntry}
use Rattle.frame_record.specs.Placed.{placed_of, blit_entries}
use Rattle.frame_record.specs.Seen.{entry_seen, recordings_seen}
use Rattle.frame_record.proofs.PlaceLaws.{places_ascend, places_placed}
use Rattle.frame_record.proofs.frame.Frame.blits.Goals as goal

pub returns-clause-sorted : goal.returns-clause-sorted
returns-clause-sorted c =
    let views = c.args.self.now.views in
    on_ok_weaker c.sort.result
    (λ e. e
    ∙ ap sorted_by_key (c.in_ok-with_positions.ensures
    ∙ ap (λ (rs : List Recording). blit_entries views (recordings_seen rs) (map entry_seen c.deref-2.result.now)) c.deref.ensures.value
    ∙ ap (λ (es : List JournalEntry). blit_entries views (recordings_seen c.args.self.now.recordings.items) (map entry_seen es)) c.deref-2.ensures.value))
    c.sort.ensures

pub returns-clause-ascend : goal.returns-clause-ascend
returns-clause-ascend c = on_ok_weaker c.sort.result (λ e. places_ascend (map placed_of c.with_positions.new.room.items) c.sort.new.all.items e) c.sort.ensures

pub returns-clause-placed : goal.returns-clause-placed
returns-clause-placed c =
    let views = c.args.self.now.views in
    on_ok_weaker c.sort.result
    (λ e. places_placed views (recordings_seen c.args.self.now.recordings.items) (map entry_seen c.args.self.now.journal.items) c.sort.new.all.items
    (e
    ∙ ap sorted_by_key (c.in_ok-with_positions.ensures
    ∙ ap (λ (rs : List Recording). blit_entries views (recordings_seen rs) (map entry_seen c.deref-2.result.now)) c.deref.ensures.value
    ∙ ap (λ (es : List JournalEntry). blit_entries views (recordings_seen c.args.self.now.recordings.items) (map entry_seen es)) c.deref-2.ensures.value)))
    c.sort.ensures

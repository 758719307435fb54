use Rattle.std.proofs.Common.{sym, ap, subst, ◌∙◌, List}
use Rattle.std.specs.List.{AllByRecursion}
use Rattle.gfx_model.specs.Frames.{collected, NumbersAscend}
use Rattle.draw_encoder.specs.declared.items.Recording.{Recording}
use Rattle.frame_record.specs.Kept.{IsCollectable}
use Rattle.frame_record.specs.Seen.{recordings_seen}
use Rattle.test_frames.proofs.Fours.{few_numbers, apart, collectable}
use Rattle.test_frames.proofs.frame_swap_field_tests.full_frame.Goals as goal

pub collect-requires : goal.collect-requires
collect-requires c = subst IsCollectable (sym c.deref.ensures.value) (collectable c.in_ok-recordings.recordings.items c.in_ok-recordings.ensures.numbers)

pub new-requires : goal.new-requires
new-requires c =
    let rs = c.in_ok-recordings.recordings.items in
    let numbers = c.in_ok-recordings.ensures.numbers in
    record {
      few = few_numbers rs numbers;
      apart = apart rs numbers;
      own = c.in_ok-recordings.ensures.own;
      ascend = subst (λ (xs : List Recording). AllByRecursion (λ r. NumbersAscend 0 r.items) (recordings_seen xs)) c.deref.ensures.value c.in_ok-journal.ensures.ascend;
      journal = c.in_ok-journal.ensures.journal ∙ ap (λ (xs : List Recording). collected (recordings_seen xs)) c.deref.ensures.value;
    }

-- What frames keep of their recordings.
use Rattle.std.specs.Prelude.{ℕ, ◌≡◌, ◌≤◌, ◌*◌, List, length, map}
use Rattle.std.specs.List.{flat_map, AllByRecursion}
use Rattle.gfx_model.specs.FrameCalls.{most_encoders, most_items}
use Rattle.gfx_model.specs.Frames.{collected, AreOfOwnEncoders, NumbersAscend}
use Rattle.schedule_model.specs.Held.{Ascends, count_of}
use Rattle.draw_encoder.specs.declared.items.Recording.{Recording}
use Rattle.draw_encoder.specs.Seen.{numbers_of}
use Rattle.gfx_words.specs.declared.journal.JournalEntry.{JournalEntry}
use Rattle.frame_record.specs.Seen.{entry_seen, recordings_seen}

-- how many items a frame can have
abbrev pub most_frame_items : ℕ
most_frame_items = most_encoders * most_items

-- the numbers of all items
abbrev pub numbers_in : List Recording → List ℕ
numbers_in rs = flat_map (λ r. numbers_of r.items) rs

-- there are few items, no two of one number; each recording is of an encoder of its own, its numbers ascend, and the entries are the journal of all
pub record IsKept (rs : List Recording) (entries : List JournalEntry) : Type 0 where
  pub few : length (numbers_in rs) ≤ most_frame_items
  pub apart : (n : ℕ) → count_of n (numbers_in rs) ≤ 1
  pub own : AreOfOwnEncoders (recordings_seen rs)
  pub ascend : AllByRecursion (λ r. NumbersAscend 0 r.items) (recordings_seen rs)
  pub journal : map entry_seen entries ≡ collected (recordings_seen rs)

-- recordings whose journal can be collected: there are few items, and each recording's numbers ascend
pub record IsCollectable (rs : List Recording) : Type 0 where
  pub few : length (numbers_in rs) ≤ most_frame_items
  pub ascends : AllByRecursion (λ r. Ascends (numbers_of r.items)) rs

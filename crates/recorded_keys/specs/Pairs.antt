-- The pairs of items by what encoders recorded.
use Rattle.std.specs.Prelude.{ℕ, ◌==◌, Bool, false, List, map, length, Option, Some, None, option_map, slice_get, if◌then◌else◌}
use Rattle.std.specs.List.{find, range_with_len}
use Rattle.gfx_model.specs.Frames.{Entry}
use Rattle.gfx_model.specs.Views.{Views}
use Rattle.gfx_model.specs.World.{Item}
use Rattle.shared_keys.specs.declared.marks.Mark.{Mark}
use Rattle.shared_keys.specs.Marks.{can_clash, mark_of}
use Rattle.shared_items.specs.Items.{least_items, pair_of}
use Rattle.shared_items.specs.Marked.{clash_at}
use Rattle.draw_encoder.specs.declared.items.Recording.{Recording}
use Rattle.draw_encoder.specs.Bundles.{items_of}

-- the mark of an encoder's item; none where it clashes with nothing
abbrev pub clash_mark : Views → (encoder : ℕ) → Item → Option Mark
clash_mark vs e i = if can_clash i then Some (mark_of vs (record { encoder = e; item = i })) else None

-- whether there is a recording, and it is an encoder's
abbrev pub is_recorded_by : (encoder : ℕ) → Option Recording → Bool
is_recorded_by e None = false
is_recorded_by e (Some r) = r.encoder == e

-- the place of an encoder's first recording
abbrev pub found_place : List Recording → (encoder : ℕ) → Option ℕ
found_place rs e = find (λ n. is_recorded_by e (slice_get rs n)) (range_with_len 0 (length rs))

-- a view with two encoders, with the least pair of their items by the items' marks
abbrev pub pair_by_marks : ℕ × (ℕ × ℕ) → (lefts rights : List (Option Mark)) → Option (ℕ × (Entry × Entry))
pair_by_marks x lefts rights = option_map (pair_of x) (least_items (clash_at x.0 lefts rights) (length lefts) (length rights))

-- the same by two recordings
abbrev pub recorded_pair : Views → ℕ × (ℕ × ℕ) → (first second : Recording) → Option (ℕ × (Entry × Entry))
recorded_pair vs x r q = pair_by_marks x (map (clash_mark vs r.encoder) (items_of r)) (map (clash_mark vs q.encoder) (items_of q))

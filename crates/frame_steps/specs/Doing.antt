-- What a frame's doers do.
use Rattle.std.specs.Prelude.{◌≡◌, ℕ, nat_lt, if◌then◌else◌, List, map, Option, Some, None, option_map}
use Rattle.gfx_model.specs.Frames.{Entry, Recorded, item_of_entry}
use Rattle.gfx_model.specs.Views.{Views, view_count, view_at}
use Rattle.store_laws.specs.ByIndex.{Stores}
use Rattle.frame_record.specs.declared.frame.Frame.{Frame}
use Rattle.view_table.specs.Order.{IsViewTable}
use Rattle.render_core.specs.Seen.{recordings_of, frame_seen, journal_of}
use Rattle.trace_laws.specs.ByIndex.{stores_after, deeds_in}
use Rattle.trace_laws.specs.Deeds.{Deed, clear_deed, item_deed}
use Rattle.trace_laws.specs.Doers.{Doer, clear_doer, item_doer, doers_in}

-- what is done in a view, if there is such a view
abbrev pub in_view : Views → ℕ → Option Deed → Option Deed
in_view vs v o = if nat_lt v (view_count vs) then o else None

-- the deed of a doer by a frame's views and recordings, if there is one
abbrev pub deed_by : Views → List Recorded → Doer → Option Deed
deed_by vs rs (clear_doer v) = in_view vs v (Some (clear_deed (view_at vs v)))
deed_by vs rs (item_doer v n) = in_view vs v (option_map (item_deed (view_at vs v)) (item_of_entry rs n))

-- the same of a frame
abbrev pub deed_of_frame : Frame → Doer → Option Deed
deed_of_frame f d = deed_by f.views (recordings_of f) d

-- the stores after a deed, if there is one
abbrev pub stores_after_some : Stores → Option Deed → Stores
stores_after_some h None = h
stores_after_some h (Some d) = stores_after h d

-- a frame's doers do its deeds, one each, in their order
abbrev pub DoneLaw : Type 0
DoneLaw = (f : Frame) → IsViewTable f.views → map (deed_of_frame f) (doers_in f.views (recordings_of f) (journal_of f)) ≡ map Some (deeds_in (frame_seen f))

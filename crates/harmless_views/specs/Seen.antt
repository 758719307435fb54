-- What a view is looked at with, as the definitions see it.
use Rattle.std.specs.Prelude.{ℕ, ◌<◌, List}
use Rattle.gfx_model.specs.Frames.{Entry, Recorded}
use Rattle.gfx_model.specs.Views.{Views, view_at, view_count}
use Rattle.store_laws.specs.ByIndex.{Stores}
use Rattle.shared_keys.specs.declared.marks.Mark.{Mark}
use Rattle.view_table.specs.Seen.{view_seen}
use Rattle.render_stores.specs.Seen.{stores_seen}
use Rattle.render_core.specs.Seen.{recordings_of, journal_of}
use Rattle.harmless_views.specs.declared.scope.Scope.{Scope}
use Rattle.harmless_views.specs.Checked.{Looked, AllThere, Matters}
use Rattle.harmless_views.specs.Left.{IsJudged}

-- a scope
abbrev pub looked : Scope → Looked
looked c = record { stores = stores_seen c.stores.now; views = c.frame.now.views; view = view_seen c.view.now; number = c.number; marks = c.marks.now }

-- what encoders recorded in a scope's frame
abbrev pub recorded_in : Scope → List Recorded
recorded_in c = recordings_of c.frame.now

-- the entries of a scope's frame
abbrev pub entries_in : Scope → List Entry
entries_in c = journal_of c.frame.now

-- a view of a table, by its number
abbrev pub looked_at : Stores → Views → (number : ℕ) → List Mark → Looked
looked_at h vs v marks = record { stores = h; views = vs; view = view_at vs v; number = v; marks = marks }

-- the same view is judged
abbrev pub ViewJudged : Stores → Views → List Mark → List Recorded → List Entry → (number : ℕ) → Type 0
ViewJudged h vs marks rs entries v = IsJudged (looked_at h vs v marks) rs entries

-- why it is kept, where it is there and so are the items
abbrev pub ViewMatters : Stores → Views → List Mark → List Recorded → List Entry → (number : ℕ) → Type 0
ViewMatters h vs marks rs entries v = v < view_count vs → AllThere (looked_at h vs v marks) rs entries → Matters (looked_at h vs v marks) rs entries

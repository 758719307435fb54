use Rattle.std.proofs.Common.{inl, refl, []}
use Rattle.gfx_model.specs.Views.{fewest_views}
use Rattle.hold_table.specs.Seats as seats
use Rattle.res_lock.specs.Seats.{table_of}
use Rattle.load_running.specs.LoadHistories.{load_start, load_book}
use Rattle.load_running.proofs.running.run_load.Given as goal

-- the hold table that was just made, every list of items, and 256 views
abbrev pub ghosts-run_tables-C-Naming : goal.ghosts-run_tables-C-Naming
ghosts-run_tables-C-Naming g a = record { table = seats.table_of a.hold; admits = λ encoder frame items dropped. Unit {0}; views = fewest_views; counted = inl refl }

-- the history's table that was just made, and a load's first state
abbrev pub ghosts-run_tables-H-HistoryNaming : goal.ghosts-run_tables-H-HistoryNaming
ghosts-run_tables-H-HistoryNaming g a = record { table = table_of a.table; start = load_start; book = load_book; given = [] }

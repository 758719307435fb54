use Rattle.std.proofs.Common.{inl, refl, []}
use Rattle.gfx_model.specs.Resources.{opening}
use Rattle.gfx_model.specs.FrameCalls.{opened}
use Rattle.gfx_model.specs.Views.{fewest_views}
use Rattle.gfx_context.specs.States.{no_book}
use Rattle.test_context.proofs.res_lock_tests.told.Given as goal

-- the tables that were just made; anything is admitted
abbrev pub ghosts-by_case-C-Naming : goal.ghosts-by_case-C-Naming
ghosts-by_case-C-Naming g a = record { table = a.hold.table.shared.table_id; admits = λ e f items d. Unit {0}; views = fewest_views; counted = inl refl }

abbrev pub ghosts-by_case-H-HistoryNaming : goal.ghosts-by_case-H-HistoryNaming
ghosts-by_case-H-HistoryNaming g a = record { table = a.table.log.table.shared.table_id; start = opened (opening 256 1 0 1); book = record no_book { resources = opening 256 1 0 1 }; given = [] }

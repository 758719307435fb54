use Rattle.std.proofs.Common.{inl, refl}
use Rattle.gfx_model.specs.Views.{fewest_views}
use Rattle.test_frames.proofs.block_recording_tests.told.Given as goal

-- the table that was just made; anything is admitted
abbrev pub ghosts-played : goal.ghosts-played
ghosts-played g a = record { table = a.table.table.shared.table_id; admits = λ e f items d. Unit {0}; views = fewest_views; counted = inl refl }

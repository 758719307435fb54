-- When two outcomes of a run are the same.
use Rattle.std.specs.Prelude.{◌≡◌}
use Rattle.worked_cases.specs.declared.judging.Outcome.{Outcome}

-- how they ended, the number of frames, the pictures and the notes are equal
abbrev pub AreSame : Outcome → Outcome → Type 0
AreSame a b = (a.ending ≡ b.ending) × (a.frames ≡ b.frames) × (a.pictures.now ≡ b.pictures.now) × (a.notes.now ≡ b.notes.now)

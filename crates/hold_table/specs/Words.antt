-- Place words as states of places.
use Rattle.std.specs.Prelude.{ℕ, ◌≤◌}
use Rattle.gfx_model.specs.Words.{free_word, live_word, dying_word}
use Rattle.schedule_model.specs.Machine.{Place, free, live, dying}

-- the word of a place
abbrev pub word_of : Place → ℕ
word_of free = free_word
word_of (live serial) = live_word serial
word_of (dying serial death) = dying_word serial death

-- the serial of a place, 0 where it is free
abbrev pub serial_of : Place → ℕ
serial_of free = 0
serial_of (live serial) = serial
serial_of (dying serial death) = serial

-- the place has a serial up to the greatest, or none
abbrev pub IsUpTo : ℕ → Place → Type 0
IsUpTo greatest x = serial_of x ≤ greatest

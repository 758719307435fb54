-- Place words as the definitions spell them, and back.
use Rattle.std.specs.Prelude.{ℕ, ◌<◌, ◌^◌}
use Rattle.gfx_model.specs.Words.{free_word, live_word, dying_word}
use Rattle.gfx_words.specs.declared.places.PlaceWord.{PlaceWord}
use Rattle.gfx_words.specs.declared.places.PlaceWord.TheVariants.{Free, Live, Dying}

-- the word that spells what a place holds
abbrev pub place_word : PlaceWord → ℕ
place_word Free = free_word
place_word (Live serial) = live_word serial
place_word (Dying serial death) = dying_word serial death

-- a serial has 32 bits and a frame of death 30
abbrev pub IsPlaceWord : PlaceWord → Type 0
IsPlaceWord Free = Unit {0}
IsPlaceWord (Live serial) = serial < 2 ^ 32
IsPlaceWord (Dying serial death) = (serial < 2 ^ 32) × (death < 2 ^ 30)

-- The words of lines, in the parts in which they are looked up.
use Rattle.std.specs.Prelude.{ℕ, List, Option, take, drop}
use Rattle.scene_model.specs.Field.{Read, find_word}
use Rattle.scene_model.specs.Grammar.{Word, words, whole_language, Field, field, Reading, after_fields}

-- the word that a first field is
unfoldable pub word_of : List ℕ → Option Word
word_of f = find_word words f

-- the state after the fields of a line
unfoldable pub after_parts : Reading → List Field → Read Reading
after_parts r fs = after_fields whole_language r fs (word_of (field fs 0))

-- the words of the order of lines
abbrev pub order_words : List (List ℕ × Word)
order_words = take 10 words

-- the words of resource and view lines
abbrev pub resource_words : List (List ℕ × Word)
resource_words = take 12 (drop 10 words)

-- the words of encoder lines
abbrev pub encoder_words : List (List ℕ × Word)
encoder_words = drop 22 words

-- The handles that were given, by their words.
use Rattle.std.specs.Prelude.{ℕ, ◌/◌, ◌^◌, ◌==◌, if◌then◌else◌, List, Option, Some, None, option_map, slice_index_or}
use Rattle.gfx_model.specs.Words.{Handle}
use Rattle.gfx_words.specs.Names.{handle_word}

-- the row of a word: the upper half of its bits, which the words of one kind and index share
abbrev pub row_of_word : ℕ → ℕ
row_of_word word = word / 2 ^ 32

-- what a row has, where it is of this word
abbrev pub with_word : ℕ → Option Handle → Option Handle
with_word word None = None
with_word word (Some h) = if handle_word h == word then Some h else None

-- the handle of a word, where it was given last in its row
abbrev pub named : List (Option Handle) → ℕ → Option Handle
named rows word = with_word word (slice_index_or rows (row_of_word word) None)

-- 0 names none, and another word a handle that was given
abbrev pub named_or_none : List (Option Handle) → ℕ → Option (Option Handle)
named_or_none rows word = if word == 0 then Some None else option_map Some (named rows word)

-- The notes of a history.
use Rattle.std.specs.Prelude.{ℕ, List, [], ◌∷◌, ◌++◌, Option, Some, None, option_map, codes, decimal}
use Rattle.gfx_words.specs.Seen.{refusal_number}
use Rattle.res_lock.specs.Histories.{Reply, made, done, given, refused, LockEntry}

-- how a reply is noted; a frame that was not given has no note, nor has what is called after it, nor has an encoder
abbrev pub reply_note : Reply → Option (List ℕ)
reply_note (made h) = Some (codes " index " ++ (decimal h.index ++ (codes " serial " ++ decimal h.serial)))
reply_note done = Some (codes " done")
reply_note (given k) = Some (codes " frame " ++ decimal k)
reply_note (refused r) = Some (codes " refused " ++ decimal (refusal_number r))
reply_note _ = None

-- the line of a caller's call
abbrev pub call_note : (caller ordinal : ℕ) → List ℕ → List ℕ
call_note caller ordinal reply = decimal caller ++ (codes ":" ++ (decimal ordinal ++ (reply ++ codes "\n")))

-- the line of an entry
abbrev pub entry_note : LockEntry → Option (List ℕ)
entry_note e = option_map (call_note e.caller e.ordinal) (reply_note e.reply)

-- a line in front of others, where there are both
abbrev pub with_note : Option (List ℕ) → Option (List ℕ) → Option (List ℕ)
with_note None rest = None
with_note (Some line) rest = option_map (λ lines. line ++ lines) rest

-- the lines of a history, where each entry has one
abbrev pub notes_of : List LockEntry → Option (List ℕ)
notes_of [] = Some []
notes_of (e ∷ es) = with_note (entry_note e) (notes_of es)

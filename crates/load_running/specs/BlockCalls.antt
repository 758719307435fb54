-- The calls of a block, by what its create lines made.
use Rattle.std.specs.Prelude.{◌≡◌, ℕ, List, [], ◌∷◌, ◌++◌, Option, Some, None, option_map, slice_index_or}
use Rattle.gfx_model.specs.Words.{Handle}
use Rattle.gfx_model.specs.Resources.{create_program, create_uniform, destroy}
use Rattle.load_text.specs.Loads.{BlockLine, program_line, uniform_line, destroy_line, frame_line}
use Rattle.res_lock.specs.Histories.{LockCall, on_things, ends_frame, Reply, made, done, LockEntry}

-- the thing that a reply gives
abbrev pub thing_in : Reply → Option Handle
thing_in (made h) = Some h
thing_in _ = None

-- the thing that a create line made, if it made one
abbrev pub thing_of : List (Option Handle) → ℕ → Option Handle
thing_of things n = slice_index_or things n None

-- the call of a line, where the create lines before it made these things; what was not made is not destroyed
abbrev pub call_of : List (Option Handle) → BlockLine → Option LockCall
call_of things (program_line kind) = Some (on_things (create_program kind))
call_of things (uniform_line name kind) = Some (on_things (create_uniform name kind))
call_of things (destroy_line n) = option_map (λ h. on_things (destroy h)) (thing_of things n)
call_of things frame_line = Some ends_frame

-- what the create lines made, behind a line that was answered so
abbrev pub things_after : List (Option Handle) → BlockLine → Reply → List (Option Handle)
things_after things (program_line kind) reply = things ++ thing_in reply ∷ []
things_after things (uniform_line name kind) reply = things ++ thing_in reply ∷ []
things_after things (destroy_line n) reply = things
things_after things frame_line reply = things

-- the first entry is the call, and the others follow by its reply; where there is no call, all follow
abbrev pub IsCallThen : (Reply → List LockEntry → Type 0) → Option LockCall → List LockEntry → Type 0
IsCallThen follow None es = follow done es
IsCallThen follow (Some call) [] = ⊥
IsCallThen follow (Some call) (e ∷ es) = (e.call ≡ call) × follow e.reply es

-- the entries are the calls of the lines, each once, in their order, where the create lines before them made these things
abbrev pub AreCallsFrom : List (Option Handle) → List BlockLine → List LockEntry → Type 0
AreCallsFrom things [] es = es ≡ []
AreCallsFrom things (l ∷ lines) es = IsCallThen (λ reply rest. AreCallsFrom (things_after things l reply) lines rest) (call_of things l) es

-- the entries are the calls of a block's lines
abbrev pub AreCallsOf : List BlockLine → List LockEntry → Type 0
AreCallsOf lines es = AreCallsFrom [] lines es

-- What an encoder has recorded so far, and how calls change it.
use Rattle.std.specs.Prelude.{◌≡◌, ℕ, ◌≤◌, List, [], ◌∷◌, ◌++◌, length}
use Rattle.std.specs.List.{AllByRecursion}
use Rattle.gfx_model.specs.FrameCalls.{most_items}
use Rattle.gfx_model.specs.World.{UniformSet}
use Rattle.gfx_model.specs.Recorder.{Recorder, EncoderCall, Room as ModelRoom, begun, after, discarded, with_current}
use Rattle.draw_encoder.specs.declared.items.Recording.{Recording}
use Rattle.draw_encoder.specs.Seen.{items_seen, uniforms_seen, numbers_of, HasRangesWithin}

-- the state of the definitions, all uniform values that were set, and the items' draw numbers in order
pub record TapeView : Type 0 where
  pub recorder : Recorder
  pub sets : List UniformSet
  pub numbers : List ℕ

-- nothing is recorded yet
abbrev pub new_tape : (frame views : ℕ) → ModelRoom → TapeView
new_tape frame views room = record { recorder = begun frame views room; sets = []; numbers = [] }

-- an accepted call that adds no item and no uniform value
abbrev pub with_call : EncoderCall → TapeView → TapeView
with_call c t = record t { recorder = after t.recorder c }

-- the parts of the state that flags name are as at the begin
abbrev pub without : ℕ → TapeView → TapeView
without flags t = record t { recorder = with_current (discarded flags t.recorder.current) t.recorder }

-- an accepted call that sets a uniform value
abbrev pub with_set : UniformSet → EncoderCall → TapeView → TapeView
with_set s c t = record t { recorder = after t.recorder c; sets = t.sets ++ s ∷ [] }

-- an accepted call that adds an item with a draw number
abbrev pub with_item : ℕ → EncoderCall → TapeView → TapeView
with_item n c t = record t { recorder = after t.recorder c; numbers = t.numbers ++ n ∷ [] }

-- a recording has what was recorded, in plain data, and each range of it lies within its bytes or values
pub record IsRecordingOf (t : TapeView) (r : Recording) : Type 0 where
  pub frame : r.frame ≡ t.recorder.frame
  pub items : items_seen r.bytes r.uniforms r.items ≡ t.recorder.items
  pub sets : uniforms_seen r.uniforms ≡ t.sets
  pub numbers : numbers_of r.items ≡ t.numbers
  pub few : length r.items ≤ most_items
  pub within : AllByRecursion (HasRangesWithin (length r.bytes) (length r.uniforms)) r.items

-- A job as contracts see it, before its lines are recorded and on the way.
use Rattle.std.specs.Prelude.{◌≡◌, ℕ, ◌+◌, ◌≤◌, Bool, true, false, List, [], length, Option, Some, None}
use Rattle.gfx_model.specs.Words.{Handle}
use Rattle.gfx_model.specs.World.{Item}
use Rattle.scene_model.specs.Scene.{EncoderLine}
use Rattle.scene_model.specs.Fold.{Progress}
use Rattle.draw_encoder.specs.Calls.{EncoderView}
use Rattle.block_recording.specs.Lines.{StandFor, recorded, recorded_on}

-- an encoder, the lines that it is to record, and the handles for their names
pub record JobView : Type 0 where
  pub encoder : EncoderView
  pub lines : List EncoderLine
  pub names : List (Option Handle)

-- the names and the seat stand for a state of the definition, by which what the encoder will record is admitted
pub record IsReady (admits : ℕ → ℕ → List Item → ℕ → Type 0) (j : JobView) : Type 0 where
  pub few : length j.lines ≤ 4294967295
  pub frame : j.encoder.recorder.frame ≡ j.encoder.seat.frame
  pub state : Progress
  pub stand : StandFor j.names j.encoder.seat state
  pub admitted : admits j.encoder.seat.encoder j.encoder.seat.frame (recorded state j.encoder.recorder j.lines).recorder.items (recorded state j.encoder.recorder j.lines).dropped

-- ---- on the way

-- a job of which some lines were recorded: its encoder, how many of them were dropped, the lines that are left, and the handles for their names
pub record StepsView : Type 0 where
  pub encoder : EncoderView
  pub dropped : ℕ
  pub lines : List EncoderLine
  pub names : List (Option Handle)

-- the names and the seat stand for a state of the definition, by which what the encoder will have recorded after the lines that are left is admitted
pub record IsOnTheWay (admits : ℕ → ℕ → List Item → ℕ → Type 0) (s : StepsView) : Type 0 where
  pub few : s.dropped + length s.lines ≤ 4294967295
  pub frame : s.encoder.recorder.frame ≡ s.encoder.seat.frame
  pub state : Progress
  pub stand : StandFor s.names s.encoder.seat state
  pub admitted : admits s.encoder.seat.encoder s.encoder.seat.frame (recorded_on state s.encoder.recorder s.dropped s.lines).recorder.items (recorded_on state s.encoder.recorder s.dropped s.lines).dropped

-- how many items an encoder on the way has put down
abbrev pub items_down : StepsView → ℕ
items_down s = length s.encoder.recorder.items

-- a line was recorded, and it put an item down or not; or none was left
abbrev pub IsStep : Option Bool → (old new : StepsView) → Type 0
IsStep (Some true) old new = (items_down new ≡ items_down old + 1) × (length old.lines ≡ length new.lines + 1)
IsStep (Some false) old new = (items_down new ≡ items_down old) × (length old.lines ≡ length new.lines + 1)
IsStep None old new = (new ≡ old) × (old.lines ≡ [])

-- lines were recorded up to one that put an item down; or none of those that were left did
abbrev pub IsNextItem : Bool → (old new : StepsView) → Type 0
IsNextItem true old new = items_down new ≡ items_down old + 1
IsNextItem false old new = (items_down new ≡ items_down old) × (new.lines ≡ [])

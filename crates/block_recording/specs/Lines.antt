-- What a line of a block does on an encoder.
use Rattle.std.specs.Prelude.{◌≡◌, ℕ, ◌+◌, ◌≤◌, Bool, true, false, List, fold, Option, Some, None, slice_index_or, Result, Ok, Err}
use Rattle.gfx_model.specs.Words.{Handle, place_of_handle}
use Rattle.gfx_model.specs.Resources.{Resources, word_of}
use Rattle.gfx_model.specs.Recorder.{Recorder}
use Rattle.gfx_words.specs.declared.refusals.Refusal.{Refusal}
use Rattle.schedule_model.specs.Machine.{place_at}
use Rattle.hold_table.specs.Words as places
use Rattle.hold_table.specs.Views.{SeatView}
use Rattle.draw_encoder.specs.Begins.{IsGivenBefore}
use Rattle.draw_encoder.specs.Calls.{EncoderView}
use Rattle.scene_model.specs.Scene.{Name, EncoderLine, submit_line, touch_line, blit_line}
use Rattle.scene_model.specs.Fold.{Progress, Recording, thing_named, after_encoder_line}

-- ---- what names and places stand for

-- the handle that a list has for a name; none where the name stands for nothing
abbrev pub handle_of : List (Option Handle) → Name → Option Handle
handle_of names n = slice_index_or names n None

-- the handle was given before the seat began, and its place was then what the things say
pub record WasPlaced (v : SeatView) (r : Resources) (h : Handle) : Type 0 where
  pub given : IsGivenBefore v h
  pub word : word_of r h ≡ places.word_of (place_at v.places (place_of_handle h))

-- the list has for each name what the name stands for in a state of the definition, and the seat began with the places of its things
pub record StandFor (names : List (Option Handle)) (v : SeatView) (p : Progress) : Type 0 where
  pub named : (n : Name) → handle_of names n ≡ thing_named p.bindings n
  pub placed : (n : Name) (h : Handle) → thing_named p.bindings n ≡ Some h → WasPlaced v p.resources h

-- ---- lines

-- the lines that put an item down
abbrev pub is_item_line : EncoderLine → Bool
is_item_line (submit_line view program depth flags) = true
is_item_line (touch_line view) = true
is_item_line (blit_line view destination dx dy source sx sy w h) = true
is_item_line _ = false

-- an encoder, and how many of its lines were dropped
abbrev pub counted : Recorder → ℕ → Recording
counted e dropped = record { recorder = e; dropped = dropped }

-- how many lines an answer drops
abbrev pub dropped_by : Result (Unit {0}) Refusal → ℕ
dropped_by (Ok _) = 0
dropped_by (Err r) = 1

-- a seat keeps its encoder number, its frame, and what it began with
pub record IsSeatOf (v w : SeatView) : Type 0 where
  pub encoder : w.encoder ≡ v.encoder
  pub frame : w.frame ≡ v.frame
  pub places : w.places ≡ v.places
  pub greatest : w.greatest ≡ v.greatest

-- a line is accepted, or it is dropped and counted, as the definition says by each state that the names and the seat stand for
pub record IsLineDone (names : List (Option Handle)) (line : EncoderLine) (old new : EncoderView) (dropped : ℕ) : Type 0 where
  pub after : (p : Progress) (d : ℕ) → StandFor names old.seat p → after_encoder_line p (counted old.recorder d) line ≡ counted new.recorder (d + dropped)
  pub seat : IsSeatOf old.seat new.seat
  pub frame : new.recorder.frame ≡ old.recorder.frame
  pub one : dropped ≤ 1

-- what lines record on an encoder of which some lines were dropped before, and how many were dropped then, by a state of the definition
abbrev pub recorded_on : Progress → Recorder → ℕ → List EncoderLine → Recording
recorded_on p e dropped lines = fold (after_encoder_line p) (counted e dropped) lines

-- the same of an encoder of which no line was dropped
abbrev pub recorded : Progress → Recorder → List EncoderLine → Recording
recorded p e lines = recorded_on p e 0 lines

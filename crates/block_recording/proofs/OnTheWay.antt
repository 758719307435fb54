-- A line more on the way of a job.
use Rattle.std.proofs.Common.{◌≡◌, ℕ, ◌+◌, ◌<◌, List, ◌∷◌, length, map, drop, get_or, Option, ap, sym, ◌∙◌, arith, fold, drop-cons, add-one}
use Rattle.gfx_model.specs.Words.{Handle}
use Rattle.gfx_model.specs.World.{Item}
use Rattle.draw_encoder.specs.Calls.{EncoderView}
use Rattle.scene_model.specs.Scene.{EncoderLine}
use Rattle.scene_model.specs.Fold.{Recording, after_encoder_line}
use Rattle.scene_text.specs.declared.scene.EncLine.{EncLine}
use Rattle.scene_text.specs.Seen.{encoder_line_seen}
use Rattle.block_recording.specs.Lines.{IsLineDone, recorded_on}
use Rattle.block_recording.specs.Jobs.{JobView, IsReady, StepsView, IsOnTheWay}
use Rattle.block_recording.proofs.LineLaws.{stand_on}

-- the lines from a place on are the line there and those behind it
pub lines_left : (lines : List EncLine) (i : ℕ) (x : EncLine) → i < length lines → x ≡ get_or lines i x → map encoder_line_seen (drop i lines) ≡ encoder_line_seen x ∷ map encoder_line_seen (drop (i + 1) lines)
lines_left lines i x lt is =
    ap (map encoder_line_seen) (drop-cons lines i x lt)
    ∙ ap (λ (n : ℕ). encoder_line_seen (get_or lines i x) ∷ map encoder_line_seen (drop n lines)) (sym (add-one i))
    ∙ ap (λ (y : EncLine). encoder_line_seen y ∷ map encoder_line_seen (drop (i + 1) lines)) (sym is)

-- an encoder, how many of its lines were dropped, the lines that are left, and the handles
abbrev pub on_way : EncoderView → ℕ → List EncoderLine → List (Option Handle) → StepsView
on_way e dropped lines names = record { encoder = e; dropped = dropped; lines = lines; names = names }

module _ (admits : ℕ → ℕ → List Item → ℕ → Type 0) where
  -- a job is ready: none of its lines was recorded
  pub ready_to_go : (j : JobView) → IsReady admits j → IsOnTheWay admits (on_way j.encoder 0 j.lines j.names)
  ready_to_go j r = record { few = (let few = r.few in omega arith); frame = r.frame; state = r.state; stand = r.stand; admitted = r.admitted }

  -- a line was recorded
  pub line_more : (names : List (Option Handle)) (line : EncoderLine) (rest : List EncoderLine) (old new : EncoderView) (dropped more : ℕ)
      → IsLineDone names line old new more → IsOnTheWay admits (on_way old dropped (line ∷ rest) names) → IsOnTheWay admits (on_way new (dropped + more) rest names)
  line_more names line rest old new dropped more done was =
      let after : recorded_on was.state new.recorder (dropped + more) rest ≡ recorded_on was.state old.recorder dropped (line ∷ rest) =
      ap (λ (r : Recording). fold (after_encoder_line was.state) r rest) (sym (done.after was.state dropped was.stand)) in
      record {
        few = (let one = done.one in let few = was.few in omega arith);
        frame = done.frame ∙ was.frame ∙ sym done.seat.frame;
        state = was.state;
        stand = stand_on names old.seat new.seat was.state done.seat was.stand;
        admitted = rw (done.seat.encoder, done.seat.frame, after) was.admitted;
      }

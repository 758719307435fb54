-- What its recorder answers, an encoder answers.
use Rattle.std.proofs.Common.{◌≡◌, ℕ, List, Option, Result, Ok, ap, ◌∙◌, subst}
use Rattle.gfx_model.specs.Words.{Handle}
use Rattle.gfx_model.specs.Recorder.{EncoderCall}
use Rattle.gfx_words.specs.declared.refusals.Refusal.{Refusal}
use Rattle.atomic_table.specs.Seated.{TableId}
use Rattle.draw_encoder.specs.Calls.{Answers, Discards, RecorderView}
use Rattle.draw_encoder.proofs.NameLaws.{views_stay}
use Rattle.c_words.specs.declared.faults.Fault.{Fault}
use Rattle.c_calls.specs.Calls.{Records, DiscardsHere}
use Rattle.c_words.specs.Statuses.{told_of}
use Rattle.c_calls.specs.Views.{EncoderView}

-- a recorder of this table, of a frame with 512 views
abbrev IsRecorderOn : TableId → RecorderView → Type 0
IsRecorderOn t r = (r.table ≡ t) × (r.state.recorder.view_count ≡ 512)

module _ (a b : RecorderView) (call : EncoderCall) (r : Result (Unit {0}) Refusal) (m : Answers a.state b.state call r) (same : b.table ≡ a.table) where
  pub recorder_on : (t : TableId) → IsRecorderOn t a → IsRecorderOn t b
  recorder_on t on = (same ∙ on.0, views_stay a.state b.state call r m ∙ on.1)

  pub records_told : (rows : List (Option Handle)) (result : Result (Unit {0}) Fault) → result ≡ told_of r → (old : EncoderView) → record { recorder = a; rows = rows } ≡ old → Records result call old (record { recorder = b; rows = rows })
  records_told rows result is old e =
      subst (λ (o : EncoderView). Records result call o (record { recorder = b; rows = rows })) e (r, is, m, (λ j. record { recorder = record { table = same j; state = b.state }; rows = rows }))

-- and what it resets is reset
module _ (a b : RecorderView) (flags : ℕ) (m : Discards a.state b.state flags) (same : b.table ≡ a.table) where
  pub discard_on : (t : TableId) → IsRecorderOn t a → IsRecorderOn t b
  discard_on t on = (same ∙ on.0, ap (λ s. s.recorder.view_count) m ∙ on.1)

  pub discard_told : (rows : List (Option Handle)) (result : Result (Unit {0}) Fault) → result ≡ Ok (tt {0}) → (old : EncoderView) → record { recorder = a; rows = rows } ≡ old → DiscardsHere result flags old (record { recorder = b; rows = rows })
  discard_told rows result is old e =
      subst (λ (o : EncoderView). DiscardsHere result flags o (record { recorder = b; rows = rows })) e (is, m, (λ j. record { recorder = record { table = same j; state = b.state }; rows = rows }))

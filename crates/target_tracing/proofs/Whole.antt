-- The history of a whole frame.
use Rattle.std.proofs.Common.{◌≡◌, ◌∙◌, ℕ, true, List, [], ◌∷◌, map, Some, refl, sym, ap}
use Rattle.gfx_model.specs.Words.{Handle}
use Rattle.store_laws.specs.ByIndex.{Stores}
use Rattle.frame_record.specs.declared.frame.Frame.{Frame}
use Rattle.view_table.specs.Order.{IsViewTable}
use Rattle.render_core.specs.Seen.{frame_seen, recordings_of, journal_of}
use Rattle.trace_laws.specs.ByIndex.{begun_in, deeds_in}
use Rattle.trace_laws.specs.Doers.{doers_in}
use Rattle.trace_lines.specs.declared.doers.Doer.{Doer}
use Rattle.trace_lines.specs.Seen.{doer_seen}
use Rattle.frame_steps.specs.Doing.{deed_of_frame, DoneLaw}
use Rattle.frame_steps.specs.Steps.{deeds_of_doers}
use Rattle.pixel_ops.specs.Seen.{pixel_seen}
use Rattle.target_laws.specs.Targets.{has_pixel}
use Rattle.target_laws.specs.ByIndex.{target_pixel_in, target_history_in}
use Rattle.target_tracing.specs.Surfaces.{surface_in}
use Rattle.target_tracing.specs.Seen.{target_made_seen}
use Rattle.target_tracing.specs.Tracing.{history_of_these, IsTargetHistory}
use Rattle.target_tracing.specs.declared.made.TargetHistory.{TargetHistory}
use Rattle.target_tracing.proofs.Loops.{history-each}

module _ (f : Frame) (ds : List Doer) (done : DoneLaw) (table : IsViewTable f.views) (own : map doer_seen ds ≡ doers_in f.views (recordings_of f) (journal_of f)) (t : Handle) (x y : ℕ) where
  both : (es : List Doer) → deeds_of_doers f es ≡ map (deed_of_frame f) (map doer_seen es)
  both [] = refl
  both (e ∷ es) = ap (λ os. deed_of_frame f (doer_seen e) ∷ os) (both es)

  pub whole-history : (h : Stores) → history_of_these t x y 0 h (deeds_of_doers f ds) ≡ target_history_in t x y 0 h (deeds_in (frame_seen f))
  whole-history h = ap (history_of_these t x y 0 h) (both ds ∙ ap (map (deed_of_frame f)) own ∙ done f table) ∙ history-each t x y 0 h (deeds_in (frame_seen f))

-- of a frame buffer that has the pixel, from the first deed on
pub found-history : (f : Frame) (h begun read : Stores) (t u : Handle) (x y a b : ℕ) (it : TargetHistory) → begun ≡ begun_in h (frame_seen f) → read ≡ begun → has_pixel (surface_in begun.textures t.index) x y ≡ true → u ≡ t → a ≡ x → b ≡ y
    → pixel_seen it.before ≡ target_pixel_in read u a b → map target_made_seen it.made.items ≡ target_history_in u a b 0 read (deeds_in (frame_seen f)) → IsTargetHistory t x y (begun_in h (frame_seen f)) (frame_seen f) (Some it)
found-history f h begun read t u x y a b it is same has target column row before made =
    let here : read ≡ begun_in h (frame_seen f) = same ∙ is in (
      sym (ap (λ (v : Stores). has_pixel (surface_in v.textures t.index) x y) is) ∙ has,
      before ∙ (λ i. target_pixel_in (here i) (target i) (column i) (row i)),
      made ∙ (λ i. target_history_in (target i) (column i) (row i) 0 (here i) (deeds_in (frame_seen f))),
    )

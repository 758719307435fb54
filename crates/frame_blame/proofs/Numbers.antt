-- The numbers of a picture's pixels.
use Rattle.std.proofs.Common.{◌≡◌, ◌∙◌, ℕ, ◌+◌, ◌<◌, List, [], ◌∷◌, map, length, slice_index_or, refl, ap}
use Rattle.std.specs.Prelude.{◌*◌, ◌^◌}
use Rattle.std.specs.List.{AllByRecursion}
use Rattle.gfx_model.specs.World.{pixels_of}
use Rattle.store_laws.specs.ByIndex.{Stores}
use Rattle.frame_record.specs.declared.frame.Frame.{Frame}
use Rattle.view_table.specs.Order.{IsViewTable}
use Rattle.render_core.specs.Seen.{frame_seen, recordings_of, journal_of}
use Rattle.trace_laws.specs.ByIndex.{begun_in, deeds_in, history_in}
use Rattle.trace_laws.specs.Doers.{doers_in}
use Rattle.trace_laws.specs.History.{Made, no_pixel, pixel_at}
use Rattle.trace_lines.specs.declared.doers.Doer.{Doer}
use Rattle.trace_lines.specs.Seen.{doer_seen}
use Rattle.frame_steps.specs.Doing.{deed_of_frame, DoneLaw}
use Rattle.frame_steps.specs.Steps.{deeds_of_doers}
use Rattle.frame_blame.specs.Blame.{AreNumbers, blame_in}
use Rattle.frame_blame.specs.Done.{history_of_these}
use Rattle.frame_blame.specs.Marks.{Changes, marked, marked_by, mark_at, new_mark, no_mark}
use Rattle.frame_blame.specs.declared.marks.Mark.{Mark}
use Rattle.frame_blame.proofs.Blames.{marks-blame, got-map, length-mapped}
use Rattle.frame_blame.proofs.DoneDeeds.{history-each}

module _ (f : Frame) (ds : List Doer) (done : DoneLaw) (table : IsViewTable f.views) (own : map doer_seen ds ≡ doers_in f.views (recordings_of f) (journal_of f)) where
  both : (es : List Doer) → deeds_of_doers f es ≡ map (deed_of_frame f) (map doer_seen es)
  both [] = refl
  both (e ∷ es) = ap (λ os. deed_of_frame f (doer_seen e) ∷ os) (both es)

  whole-history : (x y : ℕ) (h : Stores) → history_of_these x y 0 h (deeds_of_doers f ds) ≡ history_in x y 0 h (deeds_in (frame_seen f))
  whole-history x y h = ap (history_of_these x y 0 h) (both ds ∙ ap (map (deed_of_frame f)) own ∙ done f table) ∙ history-each x y 0 h (deeds_in (frame_seen f))

  -- the deeds of the marks are the numbers
  pub are-numbers : (h begun : Stores) (start end : List Mark) (numbers : List ℕ) → begun ≡ begun_in h (frame_seen f)
      → start ≡ map new_mark (pixels_of h.back) → length end ≡ h.back.color.width * h.back.color.height
      → Changes h.back.color.width h.back.color.height (marked_by (λ x y. history_of_these x y 0 begun (deeds_of_doers f ds))) start end
      → numbers ≡ map (λ (m : Mark). m.deed) end → AllByRecursion (λ n. n < 2 ^ 24) numbers
      → AreNumbers h.back.color.width h.back.color.height (blame_in h (frame_seen f)) numbers
  are-numbers h begun start end numbers is first many painted told small = record {
    many = ap length told ∙ length-mapped (λ (m : Mark). m.deed) end ∙ many;
    each = λ x y hx hy.
        let w : ℕ = h.back.color.width in
        let i : ℕ = y * w + x in
        let history : List Made = history_in x y 0 (begun_in h (frame_seen f)) (deeds_in (frame_seen f)) in
        ap (λ ns. slice_index_or ns i 0) told
        ∙ got-map (λ (m : Mark). m.deed) end i no_mark
        ∙ ap (λ (m : Mark). m.deed) (painted.each x y hx hy)
        ∙ ap (λ (ms : List Mark). (marked (mark_at w ms x y) (history_of_these x y 0 begun (deeds_of_doers f ds))).deed) first
        ∙ ap (λ u. (marked (mark_at w (map new_mark (pixels_of h.back)) x y) (history_of_these x y 0 u (deeds_of_doers f ds))).deed) is
        ∙ ap (λ (ms : List Made). (marked (mark_at w (map new_mark (pixels_of h.back)) x y) ms).deed) (whole-history x y (begun_in h (frame_seen f)))
        ∙ ap (λ (m : Mark). (marked m history).deed) (got-map new_mark (pixels_of h.back) i no_pixel)
        ∙ marks-blame (pixel_at h.back x y) 0 history;
    small = small;
  }

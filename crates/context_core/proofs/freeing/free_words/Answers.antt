use Rattle.std.proofs.Common.{◌≡◌, ap, ◌∙◌, sym, if◌then◌else◌, Bool, true, false, refl, ℕ}
use Rattle.gfx_model.specs.Words.{place_of_handle}
use Rattle.gfx_model.specs.Resources.{is_kept_thing}
use Rattle.schedule_model.specs.Machine.{Place, free}
use Rattle.hold_table.specs.Seats.{api_view}
use Rattle.hold_table.specs.Views.{SeatView, placed}
use Rattle.resource_book.specs.Seen.{row_seen}
use Rattle.context_core.proofs.Dropped.{place_here, placed_next}
use Rattle.context_core.proofs.freeing.free_words.Goals as goal

pub free_word-requires-clause-place : goal.free_word-requires-clause-place
free_word-requires-clause-place c =
    place_here (is_kept_thing c.args.latency c.args.frame) c.args.rows.now c.loop-row.row-index c.row-item.result c.loop-row-test.true c.row-item.is (api_view c.loop-row.api).places c.loop-row.invariant.many c.loop-row.invariant.placed c.requires.fits c.requires.alone

places_if : (b : Bool) (v : SeatView) (p : ℕ) (x : Place) → (if b then v else placed p x v).places ≡ (if b then v.places else (placed p x v).places)
places_if true v p x = refl
places_if false v p x = refl

same_if : (b : Bool) (v w o : SeatView) (p : ℕ) (x : Place) → w ≡ (if b then v else placed p x v) → v ≡ record o { places = v.places } → w ≡ record o { places = w.places }
same_if true v w o p x e s = e ∙ s ∙ (λ j. record o { places = (sym e j).places })
same_if false v w o p x e s = e ∙ (λ j. placed p x (s j)) ∙ (λ j. record o { places = (sym e j).places })

pub loop-row-preserved : goal.loop-row-preserved
loop-row-preserved c =
    let keep = is_kept_thing c.args.latency c.args.frame (row_seen c.row-item.result) in
    let api = c.free_word.ensures.api in
    record {
      table = c.free_word.ensures.table ∙ c.loop-row.invariant.table;
      many = c.free_word.new.api.many;
      placed = placed_next (is_kept_thing c.args.latency c.args.frame) c.args.rows.now c.loop-row.row-index c.row-item.result c.loop-row-test.true c.row-item.is (api_view c.loop-row.api).places c.loop-row.invariant.many c.loop-row.invariant.placed c.requires.fits c.requires.alone
          (api_view c.free_word.new.api).places (ap (λ v. v.places) api ∙ places_if keep (api_view c.loop-row.api) (place_of_handle c.row-item.result.handle) free);
      stays = λ n le h u. c.free_word.ensures.stays n le h (c.loop-row.invariant.stays n le h u);
      same = same_if keep (api_view c.loop-row.api) (api_view c.free_word.new.api) (api_view c.args.api.now) (place_of_handle c.row-item.result.handle) free api c.loop-row.invariant.same;
    }

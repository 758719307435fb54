-- The recordings of a frame's encoders are what the frame's plan has.
use Rattle.std.proofs.Common.{◌≡◌, ℕ, ◌+◌, nat_lt, Bool, true, ◌&&◌, List, [], ◌∷◌, map, length, Some, refl, sym, ap, subst, ◌∙◌, slice_get, slice_index_or}
use Rattle.std.specs.Prelude.{filter, flat_map, sum_by}
use Rattle.std.specs.List.{AllByRecursion}
use Rattle.std.proofs.lemmas.Bool.{lt-ltb}
use Rattle.std.proofs.lemmas.List.{length-append, length-map}
use Rattle.std.proofs.lemmas.List.FromFn.{length-map-range_with_len}
use Rattle.std.proofs.lemmas.List.Sums.{sum_by-cons}
use Rattle.gfx_model.specs.Words.{Handle, program_kind, is_kind}
use Rattle.gfx_model.specs.Views.{Views, view_count}
use Rattle.gfx_model.specs.World as world
use Rattle.gfx_model.specs.World.{draw_item, touch_item, blit_item, sorted_by_key}
use Rattle.gfx_model.specs.Frames.{Entry, numbered_entries, collected}
use Rattle.gfx_model.proofs.FrameLaws.{sorted_length}
use Rattle.schedule_model.specs.Held.{count_of, Ascends}
use Rattle.schedule_model.specs.Machine.{Place}
use Rattle.scene_model.specs.Scene.{Scene, SceneFrame, views_of}
use Rattle.scene_model.specs.Fold.{Progress, Accepted, FramePlan, accepted, accepted_in, accepted_of, nothing_accepted, recording_of, plan_of, plans}
use Rattle.scene_model.specs.Journal.{item_count}
use Rattle.scene_laws.specs.Gathered.{HasPlanned, IsDrawn, IsGathered}
use Rattle.scene_laws.specs.Laws.{GatheredLaw}
use Rattle.draw_encoder.specs.declared.items.Item.{Item}
use Rattle.draw_encoder.specs.declared.items.Recording.{Recording}
use Rattle.draw_encoder.specs.Bundles.{items_of}
use Rattle.draw_encoder.specs.Names.{FitsItem}
use Rattle.draw_encoder.specs.Seen.{item_seen, items_seen, numbers_of}
use Rattle.frame_record.specs.Seen.{numbered_seen, recorded_seen, recordings_seen}
use Rattle.frame_record.proofs.EntryLaws.{length_entries}
use Rattle.frame_record.proofs.KeptLaws.{all_ascend}
use Rattle.gfx_context.specs.Gathered.{encoders_in, dropped_in, IsCollected, AreOfFrame}
use Rattle.gfx_context.specs.Places.{IsUsable}
use Rattle.block_recording.specs.Promised.{IsAccepted}
use Rattle.context_frames.specs.Laws.{RecordedLaw}
use Rattle.context_frames.specs.Recorded.{IsRecorded}
use Rattle.context_frames.proofs.Totals.{sum_once}

-- ---- recordings as the definitions see them

encoders_seen : (rs : List Recording) → map (λ r. r.encoder) (recordings_seen rs) ≡ encoders_in rs
encoders_seen [] = refl
encoders_seen (r ∷ rs) = ap (λ es. r.encoder ∷ es) (encoders_seen rs)

items_numbered : (r : Recording) (items : List Item) → map (λ i. i.item) (map (numbered_seen r) items) ≡ items_seen r.bytes r.uniforms items
items_numbered r [] = refl
items_numbered r (i ∷ items) = ap (λ is. item_seen r.bytes r.uniforms i ∷ is) (items_numbered r items)

-- ---- how many entries

all_kept : {A : Type 0} (xs : List A) → filter (λ x. true) xs ≡ xs
all_kept [] = refl
all_kept (x ∷ xs) = ap (λ ys. x ∷ ys) (all_kept xs)

length_sorted : (xs : List (ℕ × Entry)) → length (sorted_by_key xs) ≡ length xs
length_sorted xs = ap length (sym (all_kept (sorted_by_key xs))) ∙ sorted_length (λ x. true) xs ∙ ap length (all_kept xs)

length_flat : (rs : List Recording) → length (flat_map numbered_entries (recordings_seen rs)) ≡ sum_by (λ r. length (items_of r)) rs
length_flat [] = refl
length_flat (r ∷ rs) =
    length-append (numbered_entries (recorded_seen r)) (flat_map numbered_entries (recordings_seen rs))
    ∙ (λ j. (length_entries r ∙ sym (length-map r.items (item_seen r.bytes r.uniforms))) j + length_flat rs j)
    ∙ sym (sum_by-cons (λ (r : Recording). length (items_of r)) r rs)

-- the journal has an entry for each item
length_collected : (rs : List Recording) → length (collected (recordings_seen rs)) ≡ sum_by (λ r. length (items_of r)) rs
length_collected rs =
    let all : List (ℕ × Entry) = flat_map numbered_entries (recordings_seen rs) in
    length-map (sorted_by_key all) (λ (x : ℕ × Entry). x.1) ∙ length_sorted all ∙ length_flat rs

count_items : (all : List Accepted) → sum_by (λ a. length a.items) all ≡ item_count all
count_items [] = refl
count_items (a ∷ rest) = sum_by-cons (λ (a : Accepted). length a.items) a rest ∙ ap (λ n. length a.items + n) (count_items rest)

-- ---- items whose views are there

both_true : (a b : Bool) → a ≡ true → b ≡ true → (a && b) ≡ true
both_true a b p q = (λ j. p j && q j)

module _ (Named : Handle → Type 0) (vs : Views) where
  drawn_item : (i : world.Item) → FitsItem Named (view_count vs) i → IsDrawn vs i
  drawn_item (draw_item d) fits = both_true (nat_lt d.view (view_count vs)) (is_kind d.program.kind program_kind) (lt-ltb d.view (view_count vs) fits.0) fits.1.1
  drawn_item (touch_item t) fits = lt-ltb t.view (view_count vs) fits.0
  drawn_item (blit_item b) fits = refl

  drawn_items : (r : Recording) (items : List Item) → AllByRecursion (FitsItem Named (view_count vs)) (items_seen r.bytes r.uniforms items) → AllByRecursion (λ i. IsDrawn vs i.item) (map (numbered_seen r) items)
  drawn_items r [] fit = tt
  drawn_items r (i ∷ items) fit = (drawn_item (item_seen r.bytes r.uniforms i) fit.0, drawn_items r items fit.1)

-- ---- recordings of a frame of a scene

module _ (s : Scene) (k : ℕ) (plan : FramePlan) (planned : slice_get (plans s) k ≡ Some plan) (counted : view_count plan.views ≡ views_of s) (places : List Place) where
  abbrev Collected : Recording → Type 0
  Collected r = IsCollected (IsAccepted s) (views_of s) k places r

  -- what the plan has of an encoder
  abbrev plan_at : ℕ → Accepted
  plan_at e = slice_index_or plan.encoders e nothing_accepted

  accepted_is : (e : ℕ) → accepted s k e ≡ plan_at e
  accepted_is e = ap (accepted_in e) planned

  items_are : (r : Recording) → Collected r → items_of r ≡ (plan_at r.encoder).items
  items_are r c = c.admitted.0 ∙ ap (λ a. a.items) (accepted_is r.encoder)

  dropped_are : (r : Recording) → Collected r → r.dropped ≡ (plan_at r.encoder).dropped
  dropped_are r c = c.admitted.1 ∙ ap (λ a. a.dropped) (accepted_is r.encoder)

  all_planned : (rs : List Recording) → AllByRecursion Collected rs → AllByRecursion (HasPlanned plan) (recordings_seen rs)
  all_planned [] all = tt
  all_planned (r ∷ rs) all = (items_numbered r r.items ∙ items_are r all.0, all_planned rs all.1)

  all_drawn : (rs : List Recording) → AllByRecursion Collected rs → AllByRecursion (λ r. AllByRecursion (λ i. IsDrawn plan.views i.item) r.items) (recordings_seen rs)
  all_drawn [] all = tt
  all_drawn (r ∷ rs) all =
      (drawn_items (IsUsable k places) plan.views r r.items (subst (λ (n : ℕ). AllByRecursion (FitsItem (IsUsable k places) n) (items_of r)) (sym counted) all.0.items), all_drawn rs all.1)

  all_ascending : (rs : List Recording) → AllByRecursion Collected rs → AllByRecursion (λ r. Ascends (numbers_of r.items)) rs
  all_ascending [] all = tt
  all_ascending (r ∷ rs) all = (all.0.ascends, all_ascending rs all.1)

  module _ (rs : List Recording) (are : AreOfFrame (IsAccepted s) (views_of s) k places (length plan.encoders) rs) where
    pub gathered : IsGathered plan (recordings_seen rs)
    gathered = record {
      once = λ e. ap (count_of e) (encoders_seen rs) ∙ are.once e;
      planned = all_planned rs are.collected;
      ascend = all_ascend rs (all_ascending rs are.collected);
      drawn = all_drawn rs are.collected;
    }

  -- a sum over recordings is one over the numbers of their encoders
  dropped_sum : (rs : List Recording) → AllByRecursion Collected rs → dropped_in rs ≡ sum_by (λ e. (plan_at e).dropped) (encoders_in rs)
  dropped_sum [] all = refl
  dropped_sum (r ∷ rs) all =
      sum_by-cons (λ (r : Recording). r.dropped) r rs
      ∙ (λ j. dropped_are r all.0 j + dropped_sum rs all.1 j)
      ∙ sym (sum_by-cons (λ e. (plan_at e).dropped) r.encoder (encoders_in rs))

  items_sum : (rs : List Recording) → AllByRecursion Collected rs → sum_by (λ r. length (items_of r)) rs ≡ sum_by (λ e. length (plan_at e).items) (encoders_in rs)
  items_sum [] all = refl
  items_sum (r ∷ rs) all =
      sum_by-cons (λ (r : Recording). length (items_of r)) r rs
      ∙ (λ j. length (items_are r all.0 j) + items_sum rs all.1 j)
      ∙ sym (sum_by-cons (λ e. length (plan_at e).items) r.encoder (encoders_in rs))

  recorded : GatheredLaw → (rs : List Recording) → AreOfFrame (IsAccepted s) (views_of s) k places (length plan.encoders) rs → IsRecorded plan rs
  recorded law rs are =
      let has = law plan (recordings_seen rs) (gathered rs are) in
      record {
        lawful = has.lawful;
        items = length_collected rs ∙ items_sum rs are.collected ∙ sum_once Accepted (λ a. length a.items) nothing_accepted plan.encoders (encoders_in rs) are.once ∙ count_items plan.encoders;
        dropped = dropped_sum rs are.collected ∙ sum_once Accepted (λ a. a.dropped) nothing_accepted plan.encoders (encoders_in rs) are.once;
      }

-- a frame's plan has each encoder of the scene
pub of_plan : (s : Scene) (k : ℕ) (f : SceneFrame) (gone : List ℕ) (before all : Progress) (places : List Place) (rs : List Recording) → AreOfFrame (IsAccepted s) (views_of s) k places s.encoders rs
    → AreOfFrame (IsAccepted s) (views_of s) k places (length (plan_of s k f gone before all).encoders) rs
of_plan s k f gone before all places rs are =
    subst (λ (n : ℕ). AreOfFrame (IsAccepted s) (views_of s) k places n rs) (sym (length-map-range_with_len (λ e. accepted_of (recording_of s k before f e)) 0 s.encoders)) are

pub all_recorded : GatheredLaw → RecordedLaw
all_recorded law s k f gone before all places rs planned counted are =
    recorded s k (plan_of s k f gone before all) planned counted places law rs (of_plan s k f gone before all places rs are)

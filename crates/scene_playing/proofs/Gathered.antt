-- The recordings of a frame's encoders have what the frame's plan has, and so have the frames of a scene that were given.
use Rattle.std.proofs.Common.{◌≡◌, ℕ, suc, ◌+◌, nat_lt, Bool, true, ◌&&◌, List, [], ◌∷◌, ◌++◌, map, length, Some, refl, sym, ap, subst, ◌∙◌, arith, slice_get, slice_index_or}
use Rattle.std.specs.List.{AllByRecursion}
use Rattle.std.proofs.lemmas.Bool.{lt-ltb}
use Rattle.std.proofs.lemmas.List.FromFn.{length-map-range_with_len}
use Rattle.std.proofs.lemmas.Option.{same_Some, none-some}
use Rattle.gfx_model.specs.Words.{Handle, program_kind, is_kind}
use Rattle.gfx_model.specs.Views.{Views, view_count}
use Rattle.gfx_model.specs.World as world
use Rattle.gfx_model.specs.World.{draw_item, touch_item, blit_item}
use Rattle.schedule_model.specs.Held.{count_of, Ascends}
use Rattle.schedule_model.specs.Machine.{Place}
use Rattle.scene_model.specs.Scene.{Scene, SceneFrame, views_of}
use Rattle.scene_model.specs.Fold.{Progress, Accepted, FramePlan, accepted_in, accepted_of, nothing_accepted, recording_of, plan_of, plans}
use Rattle.scene_model.specs.Journal.{Entry, Journal}
use Rattle.scene_laws.specs.Gathered.{HasPlanned, IsDrawn, IsGathered}
use Rattle.draw_encoder.specs.declared.items.Item.{Item}
use Rattle.draw_encoder.specs.declared.items.Recording.{Recording}
use Rattle.draw_encoder.specs.Bundles.{items_of}
use Rattle.draw_encoder.specs.Names.{FitsItem}
use Rattle.draw_encoder.specs.Seen.{item_seen, items_seen, numbers_of}
use Rattle.frame_record.specs.declared.frame.Frame.{Frame}
use Rattle.frame_record.specs.Seen.{numbered_seen, recorded_seen, recordings_seen}
use Rattle.frame_record.proofs.KeptLaws.{all_ascend}
use Rattle.gfx_context.specs.Gathered.{encoders_in, IsCollected, AreOfFrame}
use Rattle.gfx_context.specs.Places.{IsUsable}
use Rattle.block_recording.specs.Promised.{IsAccepted}
use Rattle.scene_playing.specs.Given.{HasPlan, HavePlans}

-- ---- recordings as the definitions see them

encoders_seen : (rs : List Recording) → map (λ r. r.encoder) (recordings_seen rs) ≡ encoders_in rs
encoders_seen [] = refl
encoders_seen (r ∷ rs) = ap (λ es. r.encoder ∷ es) (encoders_seen rs)

items_numbered : (r : Recording) (items : List Item) → map (λ i. i.item) (map (numbered_seen r) items) ≡ items_seen r.bytes r.uniforms items
items_numbered r [] = refl
items_numbered r (i ∷ items) = ap (λ is. item_seen r.bytes r.uniforms i ∷ is) (items_numbered r items)

-- ---- items whose views are there

both_true : (a b : Bool) → a ≡ true → b ≡ true → (a && b) ≡ true
both_true a b p q = (λ j. p j && q j)

module _ (Named : Handle → Type 0) (vs : Views) where
  drawn_item : (i : world.Item) → FitsItem Named (view_count vs) i → IsDrawn vs i
  drawn_item (draw_item d) fits = both_true (nat_lt d.view (view_count vs)) (is_kind d.program.kind program_kind) (lt-ltb d.view (view_count vs) fits.0) fits.1.1
  drawn_item (touch_item t) fits = lt-ltb t.view (view_count vs) fits.0
  drawn_item (blit_item b) fits = refl

  drawn_items : (r : Recording) (items : List Item) → AllByRecursion (FitsItem Named (view_count vs)) (items_seen r.bytes r.uniforms items) → AllByRecursion (λ i. IsDrawn vs i.item) (map (numbered_seen r) items)
  drawn_items r [] fit = tt
  drawn_items r (i ∷ items) fit = (drawn_item (item_seen r.bytes r.uniforms i) fit.0, drawn_items r items fit.1)

-- ---- recordings of a frame of a scene

module _ (s : Scene) (k : ℕ) (plan : FramePlan) (planned : slice_get (plans s) k ≡ Some plan) (counted : view_count plan.views ≡ views_of s) (places : List Place) where
  abbrev Collected : Recording → Type 0
  Collected r = IsCollected (IsAccepted s) (views_of s) k places r

  items_are : (r : Recording) → Collected r → items_of r ≡ (slice_index_or plan.encoders r.encoder nothing_accepted).items
  items_are r c = c.admitted.0 ∙ ap (λ a. a.items) (ap (accepted_in r.encoder) planned)

  all_planned : (rs : List Recording) → AllByRecursion Collected rs → AllByRecursion (HasPlanned plan) (recordings_seen rs)
  all_planned [] all = tt
  all_planned (r ∷ rs) all = (items_numbered r r.items ∙ items_are r all.0, all_planned rs all.1)

  all_drawn : (rs : List Recording) → AllByRecursion Collected rs → AllByRecursion (λ r. AllByRecursion (λ i. IsDrawn plan.views i.item) r.items) (recordings_seen rs)
  all_drawn [] all = tt
  all_drawn (r ∷ rs) all =
      (drawn_items (IsUsable k places) plan.views r r.items (subst (λ (n : ℕ). AllByRecursion (FitsItem (IsUsable k places) n) (items_of r)) (sym counted) all.0.items), all_drawn rs all.1)

  all_ascending : (rs : List Recording) → AllByRecursion Collected rs → AllByRecursion (λ r. Ascends (numbers_of r.items)) rs
  all_ascending [] all = tt
  all_ascending (r ∷ rs) all = (all.0.ascends, all_ascending rs all.1)

  -- each encoder of the frame has one recording, of what the plan has of it
  pub gathered : (rs : List Recording) → AreOfFrame (IsAccepted s) (views_of s) k places (length plan.encoders) rs → IsGathered plan (recordings_seen rs)
  gathered rs are = record {
    once = λ e. ap (count_of e) (encoders_seen rs) ∙ are.once e;
    planned = all_planned rs are.collected;
    ascend = all_ascend rs (all_ascending rs are.collected);
    drawn = all_drawn rs are.collected;
  }

-- a frame's plan has each encoder of the scene
pub of_plan : (s : Scene) (k : ℕ) (f : SceneFrame) (gone : List ℕ) (before all : Progress) (places : List Place) (rs : List Recording) → AreOfFrame (IsAccepted s) (views_of s) k places s.encoders rs
    → AreOfFrame (IsAccepted s) (views_of s) k places (length (plan_of s k f gone before all).encoders) rs
of_plan s k f gone before all places rs are =
    subst (λ (n : ℕ). AreOfFrame (IsAccepted s) (views_of s) k places n rs) (sym (length-map-range_with_len (λ e. accepted_of (recording_of s k before f e)) 0 s.encoders)) are

-- ---- frames that were given

-- one frame more ended, and was not given
pub entries_more : (ps : List FramePlan) (j : Journal) (fs : List Frame) (e : List Entry) → HavePlans ps j fs → HavePlans ps (j ++ e ∷ []) fs
entries_more ps j [] e h = tt
entries_more [] j (f ∷ fs) e h = absurd h
entries_more (p ∷ ps) [] (f ∷ fs) e h = absurd h
entries_more (p ∷ ps) (x ∷ j) (f ∷ fs) e h = (h.0, entries_more ps j fs e h.1)

-- one frame more was given
pub plans_more : (ps : List FramePlan) (j : Journal) (fs : List Frame) (p : FramePlan) (e : List Entry) (f : Frame)
    → HavePlans ps j fs → length j ≡ length fs → slice_get ps (length fs) ≡ Some p → HasPlan p e f → HavePlans ps (j ++ e ∷ []) (fs ++ f ∷ [])
plans_more [] j [] p e f h same at has = absurd (none-some p at)
plans_more (q ∷ ps) [] [] p e f h same at has = (subst (λ (x : FramePlan). HasPlan x e f) (sym (same_Some q p at)) has, tt)
plans_more (q ∷ ps) (x ∷ j) [] p e f h same at has = absurd (omega (arith, same))
plans_more [] j (g ∷ fs) p e f h same at has = absurd h
plans_more (q ∷ ps) [] (g ∷ fs) p e f h same at has = absurd h
plans_more (q ∷ ps) (x ∷ j) (g ∷ fs) p e f h same at has = (h.0, plans_more ps j fs p e f h.1 (omega (arith, same)) at has)

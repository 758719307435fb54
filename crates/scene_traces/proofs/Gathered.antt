-- Whose the deeds of gathered recordings are.
use Rattle.std.proofs.Common.{◌≡◌, ◌∙◌, List, [], ◌∷◌, ◌++◌, map, filter, Option, Some, None, refl, sym, ap, false}
use Rattle.std.specs.Prelude.{flat_map, filter_map, option_map, option_and_then, unwrap_or}
use Rattle.std.specs.List.{list_any, cons_option}
use Rattle.gfx_model.specs.Number.{map_from}
use Rattle.gfx_model.specs.Views.{view_order}
use Rattle.gfx_model.specs.World.{Item, is_blit, is_of_view, sorted_by_key}
use Rattle.gfx_model.specs.Frames.{Entry, Recorded, item_of_entry, with_key}
use Rattle.scene_model.specs.Fold.{FramePlan}
use Rattle.scene_model.specs.Journal.{item_of}
use Rattle.scene_model.specs.Recordings.{AreRecordings}
use Rattle.scene_model.proofs.RecordingLaws.{same_items}
use Rattle.scene_laws.proofs.Gathering.{are_recordings}
use Rattle.trace_laws.specs.Doers.{Doer, clear_doer, item_doer, recorded_of, doers, doers_in}
use Rattle.trace_laws.proofs.Doing.{entry-same}
use Rattle.scene_traces.specs.Traced.{GatheredDoersLaw}

one-same : {A : Type 0} (a b : Option A) → cons_option a [] ≡ cons_option b [] → a ≡ b
one-same None None is = refl
one-same None (Some b) is = cc is
one-same (Some a) None is = cc is
one-same (Some a) (Some b) is = cc is

entries-same : (p : FramePlan) (rs : List Recorded) → AreRecordings p rs → (n : Entry) → item_of_entry rs n ≡ item_of p.encoders n
entries-same p rs are n = sym (one-same (item_of p.encoders n) (item_of_entry rs n) (same_items p rs (n ∷ []) are))

-- the doers by the items of entries, as the draws and touches are ordered and as the rest is told
abbrev by-items : FramePlan → List Entry → (drawn other : Entry → Option Item) → List Doer
by-items p entries drawn other =
    flat_map (λ v. clear_doer v ∷ map (item_doer v) (filter (λ n. unwrap_or (option_map (is_of_view v) (other n)) false)
    (filter (λ n. unwrap_or (option_map is_blit (other n)) false) entries
    ++ map (λ x. x.1) (sorted_by_key (filter_map (λ o. o) (map_from (λ place n. option_and_then (with_key p.views place n) (drawn n)) 0 entries))))))
    (filter (λ v. list_any (is_of_view v) (filter_map other entries)) (view_order p.views))

pub gathered-doers-law : GatheredDoersLaw
gathered-doers-law p rs entries gathered =
    let own : item_of_entry rs ≡ item_of p.encoders = λ i n. entries-same p rs (are_recordings p rs gathered) n i in
    let recorded : item_of_entry (recorded_of p.encoders) ≡ item_of p.encoders = λ i n. entry-same p.encoders n i in
    ap (λ (f : Entry → Option Item). by-items p entries f f) own ∙ ap (λ (f : Entry → Option Item). by-items p entries f (item_of p.encoders)) (sym recorded)

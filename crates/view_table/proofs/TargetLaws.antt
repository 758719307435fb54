-- Views whose targets are taken away one after the other.
use Rattle.std.proofs.Common.{◌≡◌, ◌<◌, ◌+◌, ℕ, Bool, List, [], ◌∷◌, map, length, slice_index_or, slice_set, refl, sym, ap, ◌∙◌, arith}
use Rattle.std.proofs.lemmas.List.{length-map, map-set, get_or-map}
use Rattle.gfx_model.specs.Number.{map_from}
use Rattle.gfx_model.specs.Views as model
use Rattle.gfx_model.specs.Words.{Handle}
use Rattle.gfx_model.proofs.PartlyMapped.{partly, partly-set, partly-done}
use Rattle.view_table.specs.declared.views.View.{View}
use Rattle.view_table.specs.Seen.{view_seen}
use Rattle.view_table.specs.Targets.{with_target_kept, with_targets_kept}

-- one view by its place and by the test
abbrev pub keep_one : (Handle → Bool) → ℕ → model.View → model.View
keep_one test k v = with_target_kept test v

-- the first views have kept what the test lets them keep
abbrev pub kept_upto : (Handle → Bool) → ℕ → List model.View → List model.View
kept_upto test n vs = partly (keep_one test) 0 n vs

same_map : (test : Handle → Bool) (n : ℕ) (vs : List model.View) → map_from (keep_one test) n vs ≡ map (with_target_kept test) vs
same_map test n [] = refl
same_map test n (v ∷ vs) = ap (λ rest. with_target_kept test v ∷ rest) (same_map test (n + 1) vs)

pub keep_more : (test : Handle → Bool) (old new : List View) (at : ℕ) (v d : View) → map view_seen new ≡ kept_upto test at (map view_seen old)
    → view_seen v ≡ with_target_kept test (view_seen (slice_index_or new at d)) → length new ≡ length old → at < length old
    → map view_seen (slice_set new at v) ≡ kept_upto test (at + 1) (map view_seen old)
keep_more test old new at v d e h long b =
    map-set view_seen new at v
    ∙ partly-set (keep_one test) at (map view_seen old) (map view_seen new) (view_seen v) (view_seen d) e
    (h ∙ ap (with_target_kept test) (sym (get_or-map view_seen new at d (view_seen d) (omega (arith, b, long))))) (omega (arith, b, length-map old view_seen))

pub keep_done : (test : Handle → Bool) (old new : List View) (at : ℕ) → map view_seen new ≡ kept_upto test at (map view_seen old) → at ≡ length old
    → map view_seen new ≡ map (with_target_kept test) (map view_seen old)
keep_done test old new at e h =
    partly-done (keep_one test) at (map view_seen old) (map view_seen new) e (h ∙ sym (length-map old view_seen)) ∙ same_map test 0 (map view_seen old)

abbrev settings_with : List ℕ → List model.View → model.Views
settings_with order vs = record { settings = vs; order = order }

pub table_kept : (test : Handle → Bool) (items new : List View) (order : List ℕ) (now : model.Views) → record { settings = map view_seen items; order = order } ≡ now
    → map view_seen new ≡ map (with_target_kept test) (map view_seen items) → record { settings = map view_seen new; order = order } ≡ with_targets_kept test now
table_kept test items new order now e h = ap (settings_with order) h ∙ ap (with_targets_kept test) e

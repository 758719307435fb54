-- What is gathered of a frame's encoders is what the frame's plan has of them.
use Rattle.std.proofs.Common.{◌≡◌, ℕ, zero, suc, ◌+◌, ◌<◌, ◌≤◌, ◌==◌, Bool, true, false, if◌then◌else◌, inl, inr, List, [], ◌∷◌, map, length, Some, refl, ap, ◌∙◌, arith, slice_get, slice_index_or}
use Rattle.std.specs.List.{AllByRecursion}
use Rattle.std.proofs.lemmas.Bool.{eqb-true, lt-ltb}
use Rattle.std.proofs.lemmas.Option.{none-some}
use Rattle.schedule_model.specs.Held.{count_of}
use Rattle.scene_model.specs.Fold.{FramePlan, nothing_accepted}
use Rattle.scene_laws.specs.Gathered.{HasPlanned}
use Rattle.scene_laws.proofs.Gathering.{are_recordings}
use Rattle.shared_keys.specs.Members.{In}
use Rattle.draw_encoder.specs.declared.items.Item.{Item}
use Rattle.draw_encoder.specs.declared.items.Recording.{Recording}
use Rattle.draw_encoder.specs.Seen.{item_seen, items_seen}
use Rattle.frame_record.specs.Seen.{numbered_seen, recordings_seen}
use Rattle.recorded_keys.specs.Recorded.{HasPlan}
use Rattle.recorded_keys.specs.Laws.{PlannedLaw}

at_place : {A : Type 0} (xs : List A) (i : ℕ) (d : A) → i < length xs → slice_get xs i ≡ Some (slice_index_or xs i d)
at_place [] i d lt = absurd (omega (arith, lt))
at_place (x ∷ xs) zero d lt = refl
at_place (x ∷ xs) (suc i) d lt = at_place xs i d (omega (arith, lt))

place_below : {A : Type 0} (xs : List A) (i : ℕ) (x : A) → slice_get xs i ≡ Some x → i < length xs
place_below [] i x at = absurd (none-some x at)
place_below (y ∷ xs) zero x at = omega arith
place_below (y ∷ xs) (suc i) x at = let lt = place_below xs i x at in omega (arith, lt)

items_numbered : (r : Recording) (items : List Item) → items_seen r.bytes r.uniforms items ≡ map (λ i. i.item) (map (numbered_seen r) items)
items_numbered r [] = refl
items_numbered r (i ∷ items) = ap (λ is. item_seen r.bytes r.uniforms i ∷ is) (items_numbered r items)

each_planned : (p : FramePlan) (rs : List Recording) → AllByRecursion (λ r. r.encoder < length p.encoders) (recordings_seen rs) → AllByRecursion (HasPlanned p) (recordings_seen rs) → AllByRecursion (HasPlan p) rs
each_planned p [] below has = tt
each_planned p (r ∷ rs) below has =
    ((slice_index_or p.encoders r.encoder nothing_accepted, at_place p.encoders r.encoder nothing_accepted below.0, items_numbered r r.items ∙ has.0), each_planned p rs below.1 has.1)

-- an encoder that is counted has a recording
abbrev encoders : List Recording → List ℕ
encoders rs = map (λ r. r.encoder) (recordings_seen rs)

recorded : (e : ℕ) (rs : List Recording) → 1 ≤ count_of e (encoders rs) → (r : Recording) × In r rs × (r.encoder ≡ e)
recorded e [] c = absurd (omega (arith, c))
recorded e (r ∷ rs) c = step (r.encoder == e) refl c (recorded e rs)
  where
    step : (b : Bool) → (r.encoder == e) ≡ b → 1 ≤ (if b then 1 else 0) + count_of e (encoders rs) → (1 ≤ count_of e (encoders rs) → (x : Recording) × In x rs × (x.encoder ≡ e)) → (x : Recording) × In x (r ∷ rs) × (x.encoder ≡ e)
    step true is q rest = (r, inl refl, eqb-true r.encoder e is)
    step false is q rest = let found = rest (omega (arith, q)) in (found.0, inr found.1, found.2)

pub planned : PlannedLaw
planned p rs g = record {
  each = each_planned p rs (are_recordings p (recordings_seen rs) g).below g.planned;
  all = λ e a at. recorded e rs
      (let is = g.once e ∙ ap (λ b. if b then 1 else 0) (lt-ltb e (length p.encoders) (place_below p.encoders e a at)) in omega (arith, is));
}

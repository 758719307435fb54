-- What the frames of a scene leave in a sink, that were played and rendered.
use Rattle.std.proofs.Common.{◌≡◌, ℕ, ◌≤◌, ◌<◌, Bool, true, false, List, map, length, take, inl, inr, refl, sym, ap, subst, ◌∙◌, arith}
use Rattle.std.specs.List.{flat_map}
use Rattle.std.specs.Coded.{Coded-set, coded_option, coded_ℕ, le_prop}
use Rattle.std.proofs.Math.Logic.{∥∥₁_elim}
use Rattle.std.proofs.lemmas.Bool.{cases_lt}
use Rattle.std.proofs.lemmas.List.{take_all, take-take, length-map}
use Rattle.io_edge.specs.Edge.{with_back}
use Rattle.gfx_model.specs.Raster.{Texels}
use Rattle.scene_model.specs.Scene.{Scene}
use Rattle.scene_model.specs.Fold.{plans}
use Rattle.scene_model.specs.Journal.{Journal, pictures}
use Rattle.scene_model.specs.Output.{picture_text, pictures_text}
use Rattle.spelling_model.specs.Readable.{IsReadable}
use Rattle.scene_text.specs.Bounds.{IsBounded}
use Rattle.scene_progress.specs.Notes.{noted_of}
use Rattle.frame_record.specs.declared.frame.Frame.{Frame}
use Rattle.frame_record.specs.declared.frame.Outcome.{Outcome}
use Rattle.frame_record.specs.declared.frame.Outcome.TheVariants as outcomes
use Rattle.frame_record.specs.declared.frame.RenderedFrame.{RenderedFrame}
use Rattle.render_core.specs.Ended.{HasTexts, pictures_seen, counted_with}
use Rattle.render_core.specs.Outcomes.{has_ended}
use Rattle.io_whole.specs.Whole.{HasFront}
use Rattle.render_core.specs.Rendered.{Rendering}
use Rattle.scene_playing.specs.Frames.{AreEnded}
use Rattle.scene_showing.specs.Rendered.{IsNew, AreShown}
use Rattle.scene_showing.specs.Showing.{end_of, IsShowing, IsCounted}
use Rattle.scene_showing.proofs.Pictures.{Laws, pictures_are, texts_counted, front_of_all}

-- what is in the sink, and what it counted
abbrev pub Leaves : Outcome → Bool → Scene → Journal → (notes : List (ℕ × ℕ)) → (old new : Rendering) → Type 0
Leaves outcome is_whole s journal notes old new =
    IsShowing (end_of outcome is_whole) s journal old.held new.held old.faults new.faults × IsCounted (end_of outcome is_whole) s journal notes old.tally new.tally

-- the first frames of a scene, with the pictures that they have
record Firsts (s : Scene) (given : List Frame) (back : List RenderedFrame) (journal : Journal) (old : Rendering) : Type 0 where
  bounded : IsBounded s
  pictures_are : pictures_seen old.stores back ≡ take (length given) (pictures s journal)
  same_count : length back ≡ length given

-- ---- all was shown

leaves_all : Laws → (s : Scene) (given : List Frame) (back : List RenderedFrame) (journal : Journal) (notes : List (ℕ × ℕ)) (old new : Rendering)
    → AreEnded s given journal notes true → Firsts s given back journal old → HasTexts outcomes.Shown old back new → Leaves outcomes.Shown true s journal notes old new
leaves_all laws s given back journal notes old new e first has =
    let many = laws.lawful_count s journal e.lawful in
    let whole = e.whole refl in
    let few = e.few.0 in
    let some = first.bounded.some_frame in
    let long : length journal ≡ length s.frames = omega arith in
    let count = laws.picture_count s journal many in
    let plan_count = laws.plan_count s in
    let all : pictures_seen old.stores back ≡ pictures s journal = first.pictures_are ∙ take_all (length given) (pictures s journal) (omega arith) in
    let texts : flat_map picture_text (pictures_seen old.stores back) ≡ pictures_text s journal = ap (flat_map picture_text) all in
    let noted : notes ≡ map noted_of (plans s) = e.noted ∙ ap (map noted_of) (take_all (length journal) (plans s) (omega arith)) in (
      ((e.lawful, long), has.0 ∙ ap (with_back old.held) texts),
      (noted, has.1 ∙ ap (counted_with old.tally) texts ∙ texts_counted old.tally (pictures s journal) (omega arith)),
    )

-- ---- by how the frames ended

-- the texts of the first pictures of the first frames
first_texts : (s : Scene) (given : List Frame) (back : List RenderedFrame) (journal : Journal) (old new : Rendering) (j : ℕ)
    → Firsts s given back journal old → j ≤ length given → new.held ≡ with_back old.held (flat_map picture_text (take j (pictures_seen old.stores back)))
    → new.held ≡ with_back old.held (flat_map picture_text (take j (pictures s journal)))
first_texts s given back journal old new j first le held =
    held ∙ ap (λ (ps : List Texels). with_back old.held (flat_map picture_text ps)) (ap (take j) first.pictures_are ∙ take-take j (length given) (pictures s journal) le)

-- where not all were given, fewer were
not_all : (k n : ℕ) {j : ℕ} → k ≤ j → j ≤ n → (k ≡ n → false ≡ true) → k < n
not_all k n le many all = elim (cases_lt k n) [ inl lt ↦ lt | inr ge ↦ let e : k ≡ n = omega (arith, le, many, ge) in let bad = all e in cc ]

leaves : Laws → (s : Scene) (given : List Frame) (back : List RenderedFrame) (journal : Journal) (notes : List (ℕ × ℕ)) (outcome : Outcome) (is_whole : Bool) (old new : Rendering)
    → AreEnded s given journal notes is_whole → Firsts s given back journal old → HasTexts outcome old back new → Leaves outcome is_whole s journal notes old new
leaves laws s given back journal notes outcomes.Shown true old new e first has = leaves_all laws s given back journal notes old new e first has
leaves laws s given back journal notes outcomes.Shown false old new e first has =
    let many = laws.lawful_count s journal e.lawful in
    let fewer : length given < length s.frames = not_all (length given) (length s.frames) e.few.0 many e.given_all in
    ((e.lawful, (length given, fewer, e.few.0, has.0 ∙ ap (λ (ps : List Texels). with_back old.held (flat_map picture_text ps)) first.pictures_are)), e.noted)
leaves laws s given back journal notes outcomes.PictureFault is_whole old new e first has =
    let front = subst (λ (ps : List Texels). HasFront old.held (flat_map picture_text ps) new.held) first.pictures_are has.0 in
    ((e.lawful, front_of_all old.held new.held (pictures s journal) (length given) front, has.1), e.noted)
leaves laws s given back journal notes outcomes.OutOfMemory is_whole old new e first has =
    let few = e.few.0 in
    let same = first.same_count in
    let lt = has.1 in
    let many = laws.lawful_count s journal e.lawful in
    ((e.lawful, (has.0, omega (arith, few, same, lt, many), omega (arith, few, same, lt), first_texts s given back journal old new has.0 first (omega (arith, same, lt)) has.2)), e.noted)
leaves laws s given back journal notes outcomes.Skipped is_whole old new e first has = absurd has

-- what is left, with the sink's faults, which are no fewer, and of what it is sure
pub shows : Laws → (s : Scene) → IsReadable s → IsBounded s → (journal : Journal) (notes : List (ℕ × ℕ)) (outcome : Outcome) (is_whole : Bool) (old new : Rendering)
    → IsNew s old → AreShown s old journal notes outcome is_whole new → Leaves outcome is_whole s journal notes old new × (new.sure ≡ old.sure) × (old.faults ≤ new.faults)
shows laws s readable bounded journal notes outcome is_whole old new fresh shown =
    let given = shown.given in
    let back = shown.back in
    let played = shown.played in
    let e = played.ended in
    let none : has_ended old.outcomes ≡ false = ap has_ended fresh.outcomes in
    let has : HasTexts outcome old back new = subst (λ (o : Outcome). HasTexts o old back new) (sym played.outcome_is) (laws.texts old new back shown.frames none) in
    let first : Firsts s given back journal old = record {
      bounded = bounded;
      pictures_are = pictures_are laws s journal given back old.stores readable e.seen played.all_back fresh.stores;
      same_count = sym (ap length played.all_back ∙ length-map back (λ (r : RenderedFrame). r.frame));
    } in (
      leaves laws s given back journal notes outcome is_whole old new e first has,
      ∥∥₁_elim shown.frames (Coded-set (coded_option coded_ℕ) new.sure old.sure) (λ k. (laws.kept old new back k).1),
      ∥∥₁_elim shown.frames le_prop (λ k. (laws.kept old new back k).0),
    )

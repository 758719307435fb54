-- Runs whose scene was shown.
use Rattle.std.proofs.Common.{◌≡◌, ◌∙◌, ◌≤◌, ◌+◌, ◌%◌, ◌^◌, ℕ, Bool, false, if◌then◌else◌, List, [], ◌∷◌, ◌++◌, length, map, take, Some, Option, refl, sym, ap, ap₂, subst, inl, inr, arith, sum_by}
use Rattle.std.specs.Prelude.{flat_map, sum}
use Rattle.std.proofs.lemmas.List.{length-map, take_all}
use Rattle.std.proofs.lemmas.List.Sums.{sum-map}
use Rattle.io_edge.specs.Edge.{with_back, counted}
use Rattle.scene_model.specs.Scene.{Scene}
use Rattle.scene_model.specs.Fold.{FramePlan, plans}
use Rattle.scene_model.specs.Journal.{Journal, IsLawful, IsLawfulFront, serial}
use Rattle.scene_model.specs.Journal as journals
use Rattle.scene_model.specs.Generated.{generated}
use Rattle.scene_model.specs.Output.{frame_items, journal_text, make_note, picture_text, pictures_text}
use Rattle.scene_model.specs.Run.{Run, shown}
use Rattle.scene_model.proofs.PlansFit.{order-law}
use Rattle.scene_progress.specs.Notes.{noted_of}
use Rattle.scene_progress.proofs.Journals.{picture_count, report_is}
use Rattle.scene_progress.proofs.Reached.{plan_count}
use Rattle.command_line_model.specs.Taken.{Mode, play, replay, make, Command}
use Rattle.scene_showing.specs.Showing.{HasFewer, HasFirst, IsCounted, IsShowing}
use Rattle.scene_showing.specs.declared.showing.End.{End}
use Rattle.scene_showing.specs.declared.showing.End.TheVariants as ends
use Rattle.scene_player.specs.declared.status.Status.{Status}
use Rattle.scene_player.specs.declared.status.Status.TheVariants as status
use Rattle.io_whole.specs.Runs.{Putting, HasPutFront, IsUntouched}
use Rattle.scene_player.specs.Noted.{IsNoted, items_of, made_line, notes_text}
use Rattle.scene_player.specs.Ended.{answer_of, HasPutFirst, IsAnswered, IsCutOff, IsSceneOf, IsShown, IsStarved, ReadsAndShows}
use Rattle.scene_player.specs.Parts.{making_command}
use Rattle.io_whole.proofs.Pieces.{with_back-nothing}
use Rattle.scene_player.proofs.Serial.{serial-is-lawful}

-- where no key is shared, the pictures are those of one thread
one-thread : (s : Scene) (j : Journal) → IsLawful s j → journals.shares_key s ≡ false → journals.pictures s j ≡ journals.pictures s (serial s)
one-thread s j lawful apart = order-law s j (serial s) apart lawful (serial-is-lawful s)

-- all pictures are the first of them
all-first : (s : Scene) (j : Journal) (old new : Option (List ℕ)) → IsLawful s j → new ≡ with_back old (pictures_text s j) → HasFirst s j old new
all-first s j old new lawful e =
    let few : length j ≤ length s.frames = omega (arith, lawful.1) in
    let all : take (length j) (journals.pictures s j) ≡ journals.pictures s j = take_all (length j) (journals.pictures s j) (omega (arith, picture_count s j few)) in
    (length j, omega arith, e ∙ ap (λ ps. with_back old (flat_map picture_text ps)) (sym all))

-- the first, and not all, are the first
fewer-first : (s : Scene) (j : Journal) (old new : Option (List ℕ)) → HasFewer s j old new → HasFirst s j old new
fewer-first s j old new h = (h.0, h.2, h.3)

-- ---- `play` and `replay`

put-first : (m : Mode) (s : Scene) (j : Journal) (p : Putting) → ReadsAndShows m → HasFirst s j p.before p.after → HasPutFirst m s j p
put-first play s j p shows h = h
put-first replay s j p shows h = h
put-first make s j p shows h = absurd shows

-- the definition shows a scene by the journal that `by` makes of the one that the run returns
module _ (c : Command) (bytes : List ℕ) (s : Scene) (by : Journal → Journal) (j : Journal) (frames : List (ℕ × ℕ)) (pictures noted : Putting)
    (shows : ReadsAndShows c.mode) (is : IsSceneOf c bytes s) (answer : answer_of c bytes j ≡ shown c.journal s (by j)) where
  whole : IsLawful s j → pictures.after ≡ with_back pictures.before (pictures_text s j) → by j ≡ j → IsShown c bytes j pictures
  whole lawful put same = record {
    scene = s;
    is = is;
    lawful = lawful;
    done = ap (λ (r : Run). r.ending) answer;
    drawn = ap (λ (r : Run). r.journal) answer ∙ same;
    put = put ∙ ap (with_back pictures.before) (ap (pictures_text s) (sym same) ∙ ap (λ (r : Run). r.pictures) (sym answer));
    one_thread = one-thread s j lawful;
  }

  text : frames ≡ map noted_of (plans s) → by j ≡ j → notes_text frames j c.journal ≡ (answer_of c bytes j).noted
  text e same =
      ap₂ (λ ns i. notes_text ns i c.journal) e (sym same)
      ∙ ap (λ t. t ++ (if c.journal then journal_text (by j) else [])) (report_is s)
      ∙ ap (λ (r : Run). r.noted) (sym answer)

  starved : IsLawfulFront s j → HasFirst s j pictures.before pictures.after → j ≡ take (length j) (by j) → IsUntouched noted → IsStarved c bytes j pictures noted
  starved lawful first front none = record {
    scene = s;
    is = is;
    lawful = lawful;
    done = ap (λ (r : Run). r.ending) answer;
    drawn = front ∙ ap (take (length j)) (ap (λ (r : Run). r.journal) (sym answer));
    put = put-first c.mode s j pictures shows first;
    no_note = none;
  }

  cut-off : IsShowing ends.PictureFault s j pictures.before pictures.after pictures.faults_before pictures.faults_after → j ≡ take (length j) (by j) → IsUntouched noted → IsCutOff c bytes j pictures noted
  cut-off h front none = record {
    scene = s;
    is = is;
    shows = shows;
    lawful = h.0;
    done = ap (λ (r : Run). r.ending) answer;
    drawn = front ∙ ap (take (length j)) (ap (λ (r : Run). r.journal) (sym answer));
    put = h.1;
    no_note = none;
    failed = h.2;
  }

  pub shows-scene : (st : Status) (e : End) (old_tally new_tally : Option (ℕ × ℕ)) → IsShowing e s j pictures.before pictures.after pictures.faults_before pictures.faults_after
      → IsCounted e s j frames old_tally new_tally
      → (e ≡ ends.Done → by j ≡ j) → j ≡ take (length j) (by j)
      → IsNoted st e (notes_text frames j c.journal) noted → IsAnswered st c bytes j pictures noted
  shows-scene status.Done ends.Done old_tally new_tally h k same front n = (whole h.0 h.1 (same refl), n.1 ∙ ap (with_back noted.before) (text k.0 (same refl)))
  shows-scene status.NoteFault ends.Done old_tally new_tally h k same front n = (whole h.0 h.1 (same refl), subst (λ t. HasPutFront t noted) (text k.0 (same refl)) n.1, n.2)
  shows-scene status.OutOfMemory ends.Done old_tally new_tally h k same front n = inr (starved h.0.0 (all-first s j _ _ h.0 h.1) front n.1)
  shows-scene status.OutOfMemory ends.OutOfMemory old_tally new_tally h k same front n = inr (starved h.0 (fewer-first s j _ _ h.1) front n.1)
  shows-scene status.OutOfMemory ends.PictureFault old_tally new_tally h k same front n = absurd (n.0 refl)
  shows-scene status.PictureFault ends.PictureFault old_tally new_tally h k same front n = cut-off h front n.1
  shows-scene status.PictureFault ends.Done old_tally new_tally h k same front n = let bad = n.0 in cc
  shows-scene status.PictureFault ends.OutOfMemory old_tally new_tally h k same front n = let bad = n.0 in cc
  shows-scene status.Done ends.PictureFault old_tally new_tally h k same front n = let bad = n.0 in cc
  shows-scene status.Done ends.OutOfMemory old_tally new_tally h k same front n = let bad = n.0 in cc
  shows-scene status.NoteFault ends.PictureFault old_tally new_tally h k same front n = let bad = n.0 in cc
  shows-scene status.NoteFault ends.OutOfMemory old_tally new_tally h k same front n = let bad = n.0 in cc
  shows-scene status.Usage e old_tally new_tally h k same front n = absurd n
  shows-scene (status.Scene line cause) e old_tally new_tally h k same front n = absurd n
  shows-scene status.ReadFault e old_tally new_tally h k same front n = absurd n
  shows-scene status.TooLong e old_tally new_tally h k same front n = absurd n
  shows-scene (status.Journal place) e old_tally new_tally h k same front n = absurd n

-- ---- `make`

items-are : (ps : List FramePlan) → items_of (map noted_of ps) ≡ sum_by frame_items ps
items-are ps = sym (sum-map (λ (n : ℕ × ℕ). n.0) (map noted_of ps)) ∙ ap sum (map-map ps) ∙ sum-map frame_items ps
  where
    map-map : (ps : List FramePlan) → map (λ (n : ℕ × ℕ). n.0) (map noted_of ps) ≡ map frame_items ps
    map-map [] = refl
    map-map (p ∷ ps) = ap (λ (xs : List ℕ). frame_items p ∷ xs) (map-map ps)

module _ (with_journal : Bool) (count : ℕ) (j : Journal) (frames : List (ℕ × ℕ)) (lines bytes sum_of : ℕ) (pictures noted : Putting) (lines_are : lines ≡ length frames) (untouched : IsUntouched pictures) where
  abbrev s : Scene
  s = generated count

  abbrev c : Command
  c = making_command with_journal count

  drawn-whole : IsLawful s j → IsShown c [] j pictures
  drawn-whole lawful = record {
    scene = s;
    is = refl;
    lawful = lawful;
    done = refl;
    drawn = refl;
    put = untouched ∙ with_back-nothing pictures.before;
    one_thread = one-thread s j lawful;
  }

  line : frames ≡ map noted_of (plans s) → Some (bytes, sum_of) ≡ counted (Some (0, 0)) (pictures_text s j) → made_line lines (items_of frames) sum_of ≡ make_note s j
  line e tally =
      let many : lines ≡ length s.frames = lines_are ∙ ap length e ∙ length-map (plans s) noted_of ∙ plan_count s in
      let items : items_of frames ≡ sum_by frame_items (plans s) = ap items_of e ∙ items-are (plans s) in
      let both : ◌≡◌ {A = ℕ × ℕ} (bytes, sum_of) ((0 + length (pictures_text s j)) % 2 ^ 64, (0 + sum (pictures_text s j)) % 2 ^ 32) = cc in
      let none : 0 + sum (pictures_text s j) ≡ sum (pictures_text s j) = omega arith in
      let total : sum_of ≡ sum (pictures_text s j) % 2 ^ 32 = ap (λ p. p.1) both ∙ ap (λ k. k % 2 ^ 32) none in
      ap₂ (λ f i. made_line f i sum_of) many items ∙ ap (made_line (length s.frames) (sum_by frame_items (plans s))) total

  starved-made : IsLawfulFront s j → IsUntouched noted → IsStarved c [] j pictures noted
  starved-made lawful none = record {
    scene = s;
    is = refl;
    lawful = lawful;
    done = refl;
    drawn = sym (take_all (length j) j (omega arith));
    put = untouched;
    no_note = none;
  }

  pub makes-scene : (st : Status) (e : End) (old new : Option (List ℕ)) → IsShowing e s j old new 0 0 → IsCounted e s j frames (Some (0, 0)) (Some (bytes, sum_of))
      → IsNoted st e (made_line lines (items_of frames) sum_of) noted → IsAnswered st c [] j pictures noted
  makes-scene status.Done ends.Done old new h k n = (drawn-whole h.0, n.1 ∙ ap (with_back noted.before) (line k.0 k.1))
  makes-scene status.NoteFault ends.Done old new h k n = (drawn-whole h.0, subst (λ t. HasPutFront t noted) (line k.0 k.1) n.1, n.2)
  makes-scene status.OutOfMemory ends.Done old new h k n = inr (starved-made h.0.0 n.1)
  makes-scene status.OutOfMemory ends.OutOfMemory old new h k n = inr (starved-made h.0 n.1)
  makes-scene status.OutOfMemory ends.PictureFault old new h k n = absurd (n.0 refl)
  makes-scene status.PictureFault ends.PictureFault old new h k n = elim h.2 [ inl less ↦ absurd (omega arith) | inr last ↦ absurd (omega arith) ]
  makes-scene status.PictureFault ends.Done old new h k n = let bad = n.0 in cc
  makes-scene status.PictureFault ends.OutOfMemory old new h k n = let bad = n.0 in cc
  makes-scene status.Done ends.PictureFault old new h k n = let bad = n.0 in cc
  makes-scene status.Done ends.OutOfMemory old new h k n = let bad = n.0 in cc
  makes-scene status.NoteFault ends.PictureFault old new h k n = let bad = n.0 in cc
  makes-scene status.NoteFault ends.OutOfMemory old new h k n = let bad = n.0 in cc
  makes-scene status.Usage e old new h k n = absurd n
  makes-scene (status.Scene line cause) e old new h k n = absurd n
  makes-scene status.ReadFault e old new h k n = absurd n
  makes-scene status.TooLong e old new h k n = absurd n
  makes-scene (status.Journal place) e old new h k n = absurd n

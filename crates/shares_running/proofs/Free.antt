-- Runs that put no line.
use Rattle.std.proofs.Common.{◌≡◌, ◌↔◌, ℕ, ◌+◌, false, List, [], ◌∷◌, ◌++◌, length, map, Option, Some, None, Result, Ok, refl, ap, sym, ◌∙◌, subst, arith}
use Rattle.std.proofs.lemmas.List.{append-nil, length-append, nil_from_length}
use Rattle.std.proofs.lemmas.Option.{same_Some, none-some}
use Rattle.io_edge.specs.Edge.{with_back}
use Rattle.scene_model.specs.Scene.{Scene}
use Rattle.scene_model.specs.Grammar.{Fault, whole_language, scene_of}
use Rattle.scene_model.specs.Journal.{Journal, IsLawful, shares_key, pictures}
use Rattle.gfx_model.specs.Frames.{Entry}
use Rattle.scene_model.specs.Fold.{FramePlan, plans}
use Rattle.shared_keys.specs.Lines.{shared_views, frame_lines, lines_from, shared_lines}
use Rattle.shared_items.specs.Items.{frame_pairs, view_of_pair}
use Rattle.shared_items.specs.Laws.{PairsLaw}
use Rattle.shared_items.specs.Lines.{paired_lines}
use Rattle.item_lines.specs.Items.{item_lines}
use Rattle.shares_running.specs.Lines.{pairs_from, IsText}
use Rattle.std.proofs.Math.Logic.{∥∥₁_elim}
use Rattle.std.specs.Coded.{codes}
use Rattle.bare_worlds.specs.Laws.{HarmlessLaw}
use Rattle.shares_running.proofs.Judged.{left-free as left_free}
use Rattle.shares_running.specs.declared.words.Job.{Job}
use Rattle.shares_running.specs.declared.words.Job.TheVariants as jobs
use Rattle.shared_keys.specs.Laws.{NoLineLaw, FreeLaw}
use Rattle.shares_running.specs.Ended.{Ended, Ends}
use Rattle.shares_running.specs.declared.status.SharesStatus.{SharesStatus}
use Rattle.shares_running.specs.declared.status.SharesStatus.TheVariants as status
use Rattle.shares_running.proofs.Ends.{read_told}

abbrev scene_in : Scene → Result Scene Fault → Scene
scene_in d (Ok s) = s
scene_in d (Result.Err fault) = d

-- what was put of the scene that was told
record HasPut (job : Job) (bytes : List ℕ) (s : Scene) (old new : Option (List ℕ)) : Type 0 where
  text : List ℕ
  is : IsText job bytes s text
  put : new ≡ with_back old text

put_of : (job : Job) (before after old new : Option (List ℕ)) (rf pf : Type 0) (bytes : List ℕ) (s : Scene) → Ended job status.Done before after old new rf pf → before ≡ Some bytes → scene_of whole_language bytes ≡ Ok s → HasPut job bytes s old new
put_of job before after old new rf pf bytes s (b, t, x, r, i, p) told is =
    let told_same : b ≡ bytes = read_told bytes b before after told r.read in
    let same : t ≡ s = ap (scene_in s) (sym r.is ∙ ap (scene_of whole_language) told_same ∙ is) in
    record { text = x; is = subst (λ (u : Scene). IsText job bytes u x) same (subst (λ (z : List ℕ). IsText job z t x) told_same i); put = p }

nothing_more : (text lines : List ℕ) → text ++ lines ≡ text → lines ≡ []
nothing_more text lines e = let l = length-append text lines in let n = ap length e in nil_from_length lines (omega (arith, l, n))

-- nothing was put exactly where there is no line
no_line : (old new : Option (List ℕ)) (text lines : List ℕ) → new ≡ with_back old lines → old ≡ Some text → (new ≡ Some text) ↔ (lines ≡ [])
no_line old new text lines put was =
    let now : new ≡ Some (text ++ lines) = put ∙ ap (λ o. with_back o lines) was in
    ((λ e. nothing_more text lines (same_Some (text ++ lines) text (sym now ∙ e))), (λ e. now ∙ ap (λ ls. Some (text ++ ls)) e ∙ ap Some (append-nil text)))

-- ---- the lines of pairs

silent_from : PairsLaw → (bytes : List ℕ) (s : Scene) (k : ℕ) (ps : List FramePlan) → (pairs_from bytes s k (map frame_pairs ps) ≡ []) ↔ (lines_from k ps ≡ [])
silent_from law bytes s k [] = ((λ e. refl), (λ e. refl))
silent_from law bytes s k (p ∷ ps) = go (silent_from law bytes s (k + 1) ps) (frame_pairs p) (shared_views p) (law p)
  where
    go : ((pairs_from bytes s (k + 1) (map frame_pairs ps) ≡ []) ↔ (lines_from (k + 1) ps ≡ [])) → (pairs : List (ℕ × (Entry × Entry))) (views : List (ℕ × (ℕ × ℕ))) → map view_of_pair pairs ≡ views
        → (paired_lines k (item_lines bytes s k) pairs ++ pairs_from bytes s (k + 1) (map frame_pairs ps) ≡ []) ↔ (frame_lines k views ++ lines_from (k + 1) ps ≡ [])
    go rest [] [] e = rest
    go rest [] (v ∷ vs) e = absurd (cc e)
    go rest (x ∷ xs) [] e = absurd (cc e)
    go rest (x ∷ xs) (v ∷ vs) e = ((λ h. absurd (cc h)), (λ h. absurd (cc h)))

-- the lines of shared views, and of pairs, are none exactly where no view is shared
text_silent : PairsLaw → (job : Job) → (job ≡ jobs.Harmless → ⊥) → (bytes : List ℕ) (s : Scene) (text : List ℕ) → IsText job bytes s text → (text ≡ []) ↔ (shared_lines s ≡ [])
text_silent law jobs.Views other bytes s text is = ((λ e. sym is ∙ e), (λ e. is ∙ e))
text_silent law jobs.Pairs other bytes s text is = let same = silent_from law bytes s 0 (plans s) in ((λ e. same.0 (sym is ∙ e)), (λ e. is ∙ same.1 e))
text_silent law jobs.Harmless other bytes s text is = absurd (other refl)

abbrev OnePicture : Scene → Type 0
OnePicture s = (j k : Journal) → IsLawful s j → IsLawful s k → pictures s j ≡ pictures s k

-- where a job has no line, any two lawful journals give the same pictures
text_free : PairsLaw → FreeLaw → HarmlessLaw → (job : Job) (bytes : List ℕ) (s : Scene) (text : List ℕ) → IsText job bytes s text → text ≡ [] → OnePicture s
text_free pairs law harmless jobs.Views bytes s text is none j k lj lk = law s j k (sym is ∙ none) lj lk
text_free pairs law harmless jobs.Pairs bytes s text is none j k lj lk = law s j k ((silent_from pairs bytes s 0 (plans s)).0 (sym is ∙ none)) lj lk
text_free pairs law harmless jobs.Harmless bytes s text is none j k lj lk =
    ∥∥₁_elim is (hlevel codes) (λ found. left_free harmless s found.0 j k found.1.0 (sym found.1.1 ∙ none) lj lk)

-- ---- runs that were done

module _ (st : SharesStatus) (before after old new : Option (List ℕ)) (rf pf : Type 0) (bytes text : List ℕ) (s : Scene)
    (told : before ≡ Some bytes) (is : scene_of whole_language bytes ≡ Ok s) (was : old ≡ Some text) (done : st ≡ status.Done) (pairs : PairsLaw) where
  was_put : (job : Job) → Ended job st before after old new rf pf → HasPut job bytes s old new
  was_put job ended = put_of job before after old new rf pf bytes s (subst (λ (x : SharesStatus). Ended job x before after old new rf pf) done ended) told is

  -- nothing was put exactly where there is no line
  none-put : (job : Job) (h : HasPut job bytes s old new) → (new ≡ Some text) ↔ (h.text ≡ [])
  none-put job h = no_line old new text h.text h.put was

  -- nothing was put exactly where no key is shared, but where harmless views are left out
  pub silent : (job : Job) → (job ≡ jobs.Harmless → ⊥) → Ended job st before after old new rf pf → NoLineLaw → (new ≡ Some text) ↔ (shares_key s ≡ false)
  silent job other ended law =
      let h = was_put job ended in
      let put = none-put job h in
      let same = text_silent pairs job other bytes s h.text h.is in
      let shared = law s in
      ((λ e. shared.0 (same.0 (put.0 e))), (λ e. put.1 (same.1 (shared.1 e))))

  free_job : (job : Job) → Ended job st before after old new rf pf → FreeLaw → HarmlessLaw → new ≡ Some text → OnePicture s
  free_job job ended law harmless same = let h = was_put job ended in text_free pairs law harmless job bytes s h.text h.is ((none-put job h).0 same)

  -- where nothing was put, any two lawful journals give the same pictures
  pub free : (o : Option Job) → Ends o st before after old new rf pf → FreeLaw → HarmlessLaw → new ≡ Some text → OnePicture s
  free None ended law harmless same = absurd (cc (sym done ∙ ended.0))
  free (Some job) ended law harmless same = free_job job ended law harmless same

-- the end of a job
pub job_ended : (o : Option Job) (job : Job) (st : SharesStatus) (before after old new : Option (List ℕ)) (rf pf : Type 0) → o ≡ Some job → Ends o st before after old new rf pf → Ended job st before after old new rf pf
job_ended None job st before after old new rf pf is ended = absurd (none-some job is)
job_ended (Some j) job st before after old new rf pf is ended = subst (λ (z : Job). Ended z st before after old new rf pf) (same_Some j job is) ended

-- Frames of a scene that ended one after another.
use Rattle.std.proofs.Common.{◌≡◌, ℕ, zero, suc, ◌+◌, ◌<◌, ◌≤◌, Bool, true, false, List, [], ◌∷◌, ◌++◌, map, length, take, Option, Some, None, MatchOption, option_map, slice_index_or, refl, sym, ap, ◌∙◌, subst, arith}
use Rattle.std.proofs.lemmas.Option.{slice_get-map, slice_get_read, slice_get_within}
use Rattle.std.proofs.lemmas.List.{length-append, map-append, take_all, take-append-le}
use Rattle.std.specs.List.{slice_get}
use Rattle.gfx_model.specs.Words.{Handle}
use Rattle.scene_model.specs.Scene.{SceneFrame, Scene}
use Rattle.scene_model.specs.Fold.{FramePlan, plans}
use Rattle.scene_model.specs.Journal.{Entry, Journal, IsLawfulFront}
use Rattle.scene_laws.specs.SceneFrames.{scene_frames, frame_data}
use Rattle.scene_progress.specs.Progress.{start_of}
use Rattle.scene_progress.specs.Notes.{noted_of}
use Rattle.scene_progress.specs.Laws.{FramesMoreLaw, LawfulMoreLaw, NotedMoreLaw, NoFramesLaw, NoneLawfulLaw}
use Rattle.frame_record.specs.declared.frame.Frame.{Frame}
use Rattle.frame_record.specs.declared.frame.Outcome.{Outcome}
use Rattle.frame_record.specs.declared.frame.Outcome.TheVariants as outcomes
use Rattle.frame_record.specs.declared.frame.RenderedFrame.{RenderedFrame}
use Rattle.gfx_context.specs.declared.report.BackNote.{BackNote}
use Rattle.gfx_context.specs.Ended.{note_of, notes_of, IsBack, MakesWay}
use Rattle.gfx_context.specs.States.{ContextView}
use Rattle.render_core.specs.Seen.{frame_seen}
use Rattle.render_core.specs.Ended.{outcome_then, first_outcome}
use Rattle.scene_text.specs.Seen as text
use Rattle.scene_text.specs.declared.scene.SceneFrame as code
use Rattle.scene_playing.specs.Recording.{IsAt}
use Rattle.scene_playing.specs.Steps.{IsGiven, FrameEnds, first_after}
use Rattle.frame_record.specs.Links.{frames_of}
use Rattle.scene_playing.specs.Frames.{AreEnded, ArePlayed}
use Rattle.scene_playing.specs.Given.{HavePlans}
use Rattle.scene_playing.proofs.Gathered.{entries_more, plans_more}

-- the first k frames of a scene ended, and all were given
pub record AreGiven (s : Scene) (k : ℕ) (given : List Frame) (journal : Journal) (notes : List (ℕ × ℕ)) : Type 0 where
  pub lawful : IsLawfulFront s journal
  pub many : length journal ≡ k
  pub noted : notes ≡ map noted_of (take k (plans s))
  pub all : length given ≡ k
  pub seen : map frame_seen given ≡ scene_frames s journal
  pub gathered : HavePlans (plans s) journal given

pub none_given : (s : Scene) → NoneLawfulLaw → NoFramesLaw → AreGiven s 0 [] [] []
none_given s lawful frames = record { lawful = lawful s; many = refl; noted = refl; all = refl; seen = sym (frames s); gathered = tt }

module _ (s : Scene) (frames : FramesMoreLaw) (lawful : LawfulMoreLaw) (notes_more : NotedMoreLaw) where
  -- one frame more ended and was given
  pub one_more : {L : Type 0} (k : ℕ) (f : SceneFrame) (e : List Entry) (note : ℕ × ℕ) (handles : List (Option Handle)) (old new : ContextView L) (j : Journal) (notes : List (ℕ × ℕ))
      → AreGiven s k old.given j notes → slice_get s.frames k ≡ Some f → FrameEnds s k f e note true handles old new → AreGiven s (k + 1) new.given (j ++ e ∷ []) (notes ++ note ∷ [])
  one_more k f e note handles old new j notes a there ends = record {
    lawful = lawful s k ends.plan j e ends.planned a.many a.lawful ends.lawful;
    many = length-append j (e ∷ []) ∙ ap (λ n. n + 1) a.many;
    noted = ap (λ (ns : List _). ns ++ note ∷ []) a.noted ∙ ap (λ n. map noted_of (take k (plans s)) ++ n ∷ []) ends.noted ∙ sym (notes_more s k ends.plan ends.planned);
    all = ap length ends.gives.given ∙ length-append old.given (ends.gives.frame ∷ []) ∙ ap (λ n. n + 1) a.all;
    seen = ap (map frame_seen) ends.gives.given ∙ map-append frame_seen old.given (ends.gives.frame ∷ [])
        ∙ ap (λ fs. fs ++ frame_seen ends.gives.frame ∷ []) a.seen ∙ ap (λ d. scene_frames s j ++ d ∷ []) ends.gives.seen ∙ sym (frames s k f j e there a.many);
    gathered = subst (λ (fs : List Frame). HavePlans (plans s) (j ++ e ∷ []) fs) (sym ends.gives.given)
        (plans_more (plans s) j old.given ends.plan e ends.gives.frame a.gathered (a.many ∙ sym a.all) (ap (slice_get (plans s)) a.all ∙ ends.planned) ends.gives.gathered);
  }

  -- one frame more ended and was not given
  pub stopped : {L : Type 0} (k : ℕ) (f : SceneFrame) (e : List Entry) (note : ℕ × ℕ) (handles : List (Option Handle)) (old new : ContextView L) (j : Journal) (notes : List (ℕ × ℕ))
      → AreGiven s k old.given j notes → slice_get s.frames k ≡ Some f → FrameEnds s k f e note false handles old new → AreEnded s new.given (j ++ e ∷ []) (notes ++ note ∷ []) false
  stopped k f e note handles old new j notes a there ends =
      let many : length (j ++ e ∷ []) ≡ k + 1 = length-append j (e ∷ []) ∙ ap (λ n. n + 1) a.many in
      let all : length new.given ≡ k = ap length ends.gives ∙ a.all in
      let front : take (length new.given) (j ++ e ∷ []) ≡ j = ap (λ n. take n (j ++ e ∷ [])) (all ∙ sym a.many) ∙ take-append-le (length j) j (e ∷ []) (omega arith) ∙ take_all (length j) j (omega arith) in
      record {
        lawful = lawful s k ends.plan j e ends.planned a.many a.lawful ends.lawful;
        noted = ap (λ (ns : List _). ns ++ note ∷ []) a.noted ∙ ap (λ n. map noted_of (take k (plans s)) ++ n ∷ []) ends.noted ∙ sym (notes_more s k ends.plan ends.planned)
            ∙ ap (λ n. map noted_of (take n (plans s))) (sym many);
        few = (omega (arith, many, all), omega (arith, many, all));
        seen = ap (map frame_seen) ends.gives ∙ a.seen ∙ ap (scene_frames s) (sym front);
        gathered = subst (λ (fs : List Frame). HavePlans (plans s) (j ++ e ∷ []) fs) (sym ends.gives) (entries_more (plans s) j old.given e a.gathered);
        whole = λ z. absurd cc;
        given_all = λ z. let one_more_there = slice_get_within s.frames k f there in absurd (omega (arith, z, all, one_more_there));
      }

-- the frames ended so far, where no other does
pub so_far : (s : Scene) (k : ℕ) (given : List Frame) (j : Journal) (notes : List (ℕ × ℕ)) (is_whole : Bool) → (is_whole ≡ true → k ≡ length s.frames) → (k ≡ length s.frames → is_whole ≡ true) → AreGiven s k given j notes → AreEnded s given j notes is_whole
so_far s k given j notes is_whole whole given_all a =
    let same : length given ≡ length j = a.all ∙ sym a.many in
    record {
      lawful = a.lawful;
      noted = a.noted ∙ ap (λ n. map noted_of (take n (plans s))) (sym a.many);
      few = (omega (arith, same), omega (arith, same));
      seen = a.seen ∙ ap (scene_frames s) (sym (ap (λ n. take n j) same ∙ take_all (length j) j (omega arith)));
      gathered = a.gathered;
      whole = λ e. a.all ∙ whole e;
      given_all = λ e. given_all (sym a.all ∙ e);
    }

-- ---- outcomes

then_shown : (o : Outcome) → outcome_then o outcomes.Shown ≡ o
then_shown outcomes.Shown = refl
then_shown outcomes.PictureFault = refl
then_shown outcomes.OutOfMemory = refl
then_shown outcomes.Skipped = refl

then_then : (o p q : Outcome) → outcome_then (outcome_then o p) q ≡ outcome_then o (outcome_then p q)
then_then outcomes.Shown p q = refl
then_then outcomes.PictureFault p q = refl
then_then outcomes.OutOfMemory p q = refl
then_then outcomes.Skipped p q = refl

first_append : (xs ys : List RenderedFrame) → first_outcome (xs ++ ys) ≡ outcome_then (first_outcome xs) (first_outcome ys)
first_append [] ys = refl
first_append (x ∷ xs) ys = ap (outcome_then x.outcome) (first_append xs ys) ∙ sym (then_then x.outcome (first_outcome xs) (first_outcome ys))

first_more : (xs : List RenderedFrame) (r : RenderedFrame) → first_outcome (xs ++ r ∷ []) ≡ outcome_then (first_outcome xs) r.outcome
first_more xs r = first_append xs (r ∷ []) ∙ ap (outcome_then (first_outcome xs)) (then_shown r.outcome)

-- when a frame came back, or none
pub outcome_after : {L : Type 0} (note : Option BackNote) (old : ContextView L) (back : List RenderedFrame) → MakesWay note old back → first_outcome back ≡ first_after (first_outcome old.back) note
outcome_after None old back m = ap first_outcome m.1
outcome_after (Some n) old back m =
    let b : IsBack n old.given old.back back = m.1 in
    ap first_outcome b.oldest.back ∙ first_more old.back b.rendered ∙ ap (λ (x : BackNote). outcome_then (first_outcome old.back) x.outcome) (sym b.note)

-- when all that were out came back, at most three, as their notes stand in three places
abbrev after_notes : Outcome → List (Option BackNote) → Outcome
after_notes o notes = first_after (first_after (first_after o (slice_index_or notes 0 None)) (slice_index_or notes 1 None)) (slice_index_or notes 2 None)

notes_told : (o : Outcome) (came : List RenderedFrame) → length came ≤ 3 → after_notes o (notes_of came) ≡ outcome_then o (first_outcome came)
notes_told o [] few = sym (then_shown o)
notes_told o (a ∷ []) few = sym (ap (outcome_then o) (then_shown a.outcome))
notes_told o (a ∷ b ∷ []) few = then_then o a.outcome b.outcome ∙ sym (ap (λ x. outcome_then o (outcome_then a.outcome x)) (then_shown b.outcome))
notes_told o (a ∷ b ∷ c ∷ []) few =
    then_then (outcome_then o a.outcome) b.outcome c.outcome ∙ then_then o a.outcome (outcome_then b.outcome c.outcome)
    ∙ sym (ap (λ x. outcome_then o (outcome_then a.outcome (outcome_then b.outcome x))) (then_shown c.outcome))
notes_told o (a ∷ b ∷ c ∷ d ∷ rest) few = absurd (omega (arith, few))

pub outcome_closed : (o : Outcome) (notes : List (Option BackNote)) (back came all : List RenderedFrame) → length came ≤ 3 → o ≡ first_outcome back → all ≡ back ++ came → notes ≡ notes_of came → after_notes o notes ≡ first_outcome all
outcome_closed o notes back came all few told is e =
    ap (after_notes o) e ∙ notes_told o came few ∙ ap (λ x. outcome_then x (first_outcome came)) told ∙ sym (ap first_outcome is ∙ first_append back came)

-- ---- where no frame was played

none_at_all : (s : Scene) → NoneLawfulLaw → NoFramesLaw → 1 ≤ length s.frames → ArePlayed s [] [] [] [] outcomes.Shown false
none_at_all s lawful frames some = record {
  ended = so_far s 0 [] [] [] false (λ z. absurd cc) (λ e. absurd (omega (arith, e, some))) (none_given s lawful frames);
  all_back = refl;
  outcome_is = refl;
}

pub none_played : (s : Scene) → NoneLawfulLaw → NoFramesLaw → 1 ≤ length s.frames → (given : List Frame) (back : List RenderedFrame) (j : Journal) (notes : List (ℕ × ℕ)) → given ≡ [] → back ≡ [] → j ≡ [] → notes ≡ []
    → ArePlayed s given back j notes outcomes.Shown false
none_played s lawful frames some given back j notes g b e n =
    subst (λ (x : List Frame). ArePlayed s x back j notes outcomes.Shown false) (sym g)
    (subst (λ (x : List RenderedFrame). ArePlayed s [] x j notes outcomes.Shown false) (sym b)
    (subst (λ (x : Journal). ArePlayed s [] [] x notes outcomes.Shown false) (sym e)
    (subst (λ (x : List (ℕ × ℕ)). ArePlayed s [] [] [] x outcomes.Shown false) (sym n) (none_at_all s lawful frames some))))

-- ---- all that were out came back

pub played_when_back : (s : Scene) (given given_now : List Frame) (back : List RenderedFrame) (j journal : Journal) (notes : List (ℕ × ℕ)) (outcome : Outcome) (is_whole : Bool)
    → AreEnded s given j notes is_whole → given_now ≡ given → given_now ≡ frames_of back → journal ≡ j → outcome ≡ first_outcome back → ArePlayed s given_now back journal notes outcome is_whole
played_when_back s given given_now back j journal notes outcome is_whole ended same all told is = record {
  ended = subst (λ (g : List Frame). AreEnded s g journal notes is_whole) (sym same) (subst (λ (x : Journal). AreEnded s given x notes is_whole) (sym told) ended);
  all_back = all;
  outcome_is = is;
}

-- ---- as the loop over frames has it

pub none_yet : (s : Scene) → NoneLawfulLaw → NoFramesLaw → (given : List Frame) (j : Journal) (notes : List (ℕ × ℕ)) → given ≡ [] → j ≡ [] → notes ≡ [] → AreGiven s 0 given j notes
none_yet s lawful frames given j notes g e n =
    subst (λ (x : List Frame). AreGiven s 0 x j notes) (sym g)
    (subst (λ (x : Journal). AreGiven s 0 [] x notes) (sym e)
    (subst (λ (x : List (ℕ × ℕ)). AreGiven s 0 [] [] x) (sym n) (none_given s lawful frames)))

-- the lists with one more, as they are seen
pub one_seen : {A B : Type 0} (v : A → B) (old new : List A) (x : A) → new ≡ old ++ x ∷ [] → map v new ≡ map v old ++ v x ∷ []
one_seen v old new x e = ap (map v) e ∙ map-append v old (x ∷ [])

module _ {L : Type 0} (s : Scene) (frames : FramesMoreLaw) (lawful : LawfulMoreLaw) (notes_more : NotedMoreLaw) (n k : ℕ) (f : SceneFrame) (e : List Entry) (note : ℕ × ℕ) (handles : List (Option Handle)) (old new : ContextView L)
    (j all : Journal) (notes told : List (ℕ × ℕ)) (is : n ≡ k) (given : AreGiven s k old.given j notes) (lists : all ≡ j ++ e ∷ []) (noted : told ≡ notes ++ note ∷ []) where
  pub stopped_now : (b : Bool) → b ≡ false → slice_get s.frames k ≡ Some f → FrameEnds s n f e note b handles old new → AreEnded s new.given all told false
  stopped_now b off there ends =
      subst (λ (x : Journal). AreEnded s new.given x told false) (sym lists)
      (subst (λ (x : List (ℕ × ℕ)). AreEnded s new.given (j ++ e ∷ []) x false) (sym noted)
      (stopped s frames lawful notes_more k f e note handles old new j notes given there
      (subst (λ (m : ℕ). FrameEnds s m f e note false handles old new) is (subst (λ (t : Bool). FrameEnds s n f e note t handles old new) off ends))))

  pub more_now : (b : Bool) → b ≡ true → slice_get s.frames k ≡ Some f → FrameEnds s n f e note b handles old new → IsAt s (k + 1) handles new × AreGiven s (k + 1) new.given all told
  more_now b on there ends =
      let here : FrameEnds s k f e note true handles old new = subst (λ (m : ℕ). FrameEnds s m f e note true handles old new) is (subst (λ (t : Bool). FrameEnds s n f e note t handles old new) on ends) in (
        here.gives.next,
        subst (λ (x : Journal). AreGiven s (k + 1) new.given x told) (sym lists)
            (subst (λ (x : List (ℕ × ℕ)). AreGiven s (k + 1) new.given (j ++ e ∷ []) x) (sym noted) (one_more s frames lawful notes_more k f e note handles old new j notes given there here)),
      )

-- the frame at an index of a scene's code is the definition's
pub frame_at : (items frames : List code.SceneFrame) (i : ℕ) (x : code.SceneFrame) → items ≡ frames → i < length items → x ≡ slice_index_or items i x → slice_get (map text.frame_seen frames) i ≡ Some (text.frame_seen x)
frame_at items frames i x same lt is =
    slice_get-map text.frame_seen frames i ∙ ap (option_map text.frame_seen) (subst (λ (xs : List code.SceneFrame). slice_get xs i ≡ Some x) same (slice_get_read items (length items) i x refl lt is))

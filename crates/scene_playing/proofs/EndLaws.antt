-- A frame whose lines were played and whose encoders were begun ends as the definition's.
use Rattle.std.proofs.Common.{◌≡◌, ℕ, ◌+◌, Bool, true, false, List, [], ◌∷◌, ◌++◌, map, length, Option, Some, None, refl, sym, ap, ◌∙◌, subst, arith}
use Rattle.std.proofs.lemmas.List.{length-map}
use Rattle.std.specs.List.{AllByRecursion, slice_get}
use Rattle.gfx_model.specs.Words.{Handle}
use Rattle.gfx_model.specs.World.{Item}
use Rattle.gfx_model.specs.Views.{view_count}
use Rattle.gfx_model.specs.Frames.{Entry, collected}
use Rattle.gfx_model.specs.Resources.{Resources, start_frame}
use Rattle.schedule_model.specs.Machine.{Place}
use Rattle.resource_laws.specs.Bare.{bare_of}
use Rattle.resource_laws.specs.Laws.{BareStartLaw}
use Rattle.scene_model.specs.Scene.{SceneFrame, Scene, views_of}
use Rattle.scene_model.specs.Fold.{Progress, FramePlan, plan_of, plans, at_start}
use Rattle.scene_model.specs.Journal.{IsLawfulFrame}
use Rattle.scene_model.specs.Output.{frame_items, frame_dropped}
use Rattle.scene_laws.specs.Gathered.{IsGathered}
use Rattle.scene_laws.specs.SceneFrames.{frame_data, written_by}
use Rattle.scene_progress.specs.Progress.{progress_before, start_of, before_of, all_of}
use Rattle.scene_progress.specs.Notes.{noted_of}
use Rattle.scene_progress.specs.Laws.{NextLaw}
use Rattle.scene_lines.specs.Names.{AreNamed}
use Rattle.scene_lines.specs.Played.{StandsFor}
use Rattle.resource_book.specs.Laws.{bared}
use Rattle.draw_encoder.specs.declared.items.Recording.{Recording}
use Rattle.frame_record.specs.declared.frame.Frame.{Frame}
use Rattle.frame_record.specs.Seen.{entry_seen, recordings_seen}
use Rattle.gfx_context.specs.declared.report.FrameReport.{FrameReport}
use Rattle.gfx_context.specs.Gathered.{IsCollected, AreOfFrame, dropped_in}
use Rattle.gfx_context.specs.Kept.{IsContext}
use Rattle.gfx_context.specs.Ended.{Collects, Ends, Gives, GivesWhere, started, MakesWay}
use Rattle.gfx_context.specs.States.{ContextView}
use Rattle.block_recording.specs.Promised.{IsAccepted}
use Rattle.render_core.specs.Seen.{frame_seen}
use Rattle.context_frames.specs.Laws.{RecordedLaw, GivenFrameLaw}
use Rattle.context_frames.specs.Recorded.{IsRecorded}
use Rattle.scene_playing.specs.Recording.{IsAt, IsRecorded as IsPlayed}
use Rattle.scene_playing.specs.Steps.{IsGiven, IsGivenWhere, FrameEnds}
use Rattle.scene_playing.proofs.Gathered.{gathered, of_plan}

-- ---- what was recorded

module _ (admits : ℕ → ℕ → List Item → ℕ → Type 0) (s : Scene) (admitted : (e n : ℕ) (items : List Item) (d : ℕ) → admits e n items d → IsAccepted s e n items d) where
  is_collected : (views k : ℕ) (places : List Place) (r : Recording) → IsCollected admits views k places r → IsCollected (IsAccepted s) views k places r
  is_collected views k places r c = record {
    admitted = admitted r.encoder k _ r.dropped c.admitted;
    frame_is = c.frame_is;
    few = c.few;
    ascends = c.ascends;
    within = c.within;
    items = c.items;
    uniforms = c.uniforms;
  }

  are_collected : (views k : ℕ) (places : List Place) (rs : List Recording) → AllByRecursion (IsCollected admits views k places) rs → AllByRecursion (IsCollected (IsAccepted s) views k places) rs
  are_collected views k places [] a = tt
  are_collected views k places (r ∷ rs) a = (is_collected views k places r a.0, are_collected views k places rs a.1)

  pub of_frame : (views k : ℕ) (places : List Place) (begun : ℕ) (rs : List Recording) → AreOfFrame admits views k places begun rs → AreOfFrame (IsAccepted s) views k places begun rs
  of_frame views k places begun rs a = record { once = a.once; collected = are_collected views k places rs a.collected }

-- ---- the start of the next frame

-- the context is at the start of the next frame, when what was written is given up and the next frame starts
pub at_next : {L : Type 0} (next : NextLaw) (start : BareStartLaw) (s : Scene) (k : ℕ) (f : SceneFrame) (handles : List (Option Handle)) (old new : ContextView L)
    → slice_get s.frames k ≡ Some f → old.book.resources.frame ≡ k → StandsFor (written_by s.names (start_of s k) f) (all_of s k f) old.book handles → old.first ≡ 1 → length handles ≡ length s.names
    → new.book ≡ started old.book → new.begun ≡ 0 → new.is_ended ≡ false → new.first ≡ old.first → IsAt s (k + 1) handles new
at_next next start s k f handles old new there number stands first many book begun running same =
    let step : progress_before s (k + 1) ≡ all_of s k f = next s k f there in
    let is : start_of s (k + 1) ≡ at_start (k + 1) (all_of s k f) = ap (at_start (k + 1)) step in
    let old_is : old.book.resources ≡ bare_of (all_of s k f).resources = ap (λ b. b.resources) stands.book_is ∙ ap bare_of stands.resources in
    let resources : start_frame (old.book.resources.frame + 1) old.book.resources ≡ bare_of (start_of s (k + 1)).resources =
    ap (λ n. start_frame (n + 1) old.book.resources) number ∙ ap (start_frame (k + 1)) old_is ∙ start (all_of s k f).resources (k + 1) ∙ ap (λ (p : Progress). bare_of p.resources) (sym is) in
    record {
      stands = record {
        resources = refl;
        changes = refl;
        book_is = book ∙ ap (λ (r : Resources). record { resources = r; pre = []; post = []; payloads = [] }) resources;
        named = subst (λ (p : Progress). AreNamed handles p.bindings) (sym is) stands.named;
      };
      none_begun = begun;
      running = running;
      first = same ∙ first;
      many = many;
    }

-- ---- the end of a frame

-- what was given and came back before the bundles were collected
makes_way : {L : Type 0} (admits : ℕ → ℕ → List Item → ℕ → Type 0) (views : ℕ) (old mid new : ContextView L) (report : FrameReport) → Collects admits views old mid → MakesWay report.back mid new.back → MakesWay report.back old new.back
makes_way admits views old mid new report c m = subst (λ v. MakesWay report.back v new.back) c.same m

module _ {L : Type 0} (admits : ℕ → ℕ → List Item → ℕ → Type 0) (s : Scene) (k : ℕ) (f : SceneFrame) (handles : List (Option Handle)) (old mid new : ContextView L) (report : FrameReport) (dropped : ℕ)
    (admitted : (e n : ℕ) (items : List Item) (d : ℕ) → admits e n items d → IsAccepted s e n items d)
    (next : NextLaw) (start : BareStartLaw) (recorded : RecordedLaw) (seen : GivenFrameLaw L)
    (gone : List ℕ) (planned : slice_get (plans s) k ≡ Some (plan_of s k f gone (before_of s k f) (all_of s k f)))
    (kept : IsContext admits (views_of s) old) (number : old.book.resources.frame ≡ k) (played : IsPlayed s k f handles old) (counted : dropped ≡ (all_of s k f).dropped)
    (collects : Collects admits (views_of s) old mid) (ends : Ends report mid new) where
  abbrev pub plan : FramePlan
  plan = plan_of s k f gone (before_of s k f) (all_of s k f)

  views : view_count (all_of s k f).resources.views ≡ views_of s
  views = sym (ap (λ (r : Resources). view_count r.views) (ap (λ b. b.resources) played.stands.book_is ∙ ap bare_of played.stands.resources)) ∙ kept.counted

  frame_of : AreOfFrame (IsAccepted s) (views_of s) k old.seat.places s.encoders mid.gathered
  frame_of = of_frame admits s admitted (views_of s) k old.seat.places s.encoders mid.gathered
      (subst (λ n. AreOfFrame admits (views_of s) k old.seat.places n mid.gathered) played.begun
      (subst (λ n. AreOfFrame admits (views_of s) n old.seat.places old.begun mid.gathered) (sym kept.tied.frame ∙ number) collects.recordings))

  is : IsRecorded plan mid.gathered
  is = recorded s k f gone (before_of s k f) (all_of s k f) old.seat.places mid.gathered planned views frame_of

  abbrev pub entries : List Entry
  entries = map entry_seen report.journal.items

  stands : StandsFor (written_by s.names (start_of s k) f) (all_of s k f) mid.book handles
  stands = subst (λ v. StandsFor (written_by s.names (start_of s k) f) (all_of s k f) v.book handles) (sym collects.same) played.stands

  gives : (b : Bool) → GivesWhere b mid new → IsGivenWhere b s k f plan entries handles old new
  gives true g = record {
    frame = g.frame;
    given = g.given ∙ ap (λ fs. fs ++ g.frame ∷ []) (ap (λ v. v.given) collects.same);
    seen = seen s k f gone (start_of s k) old.seat.places mid g.frame (written_by s.names (start_of s k) f) handles planned refl stands frame_of views g.is_of
        ∙ ap (frame_data s k (start_of s k) f) (sym ends.journal);
    gathered = record {
      gathered = subst (λ (rs : List Recording). IsGathered plan (recordings_seen rs)) (sym g.is_of.recordings) (gathered s k plan planned views old.seat.places mid.gathered (of_plan s k f gone (before_of s k f) (all_of s k f) old.seat.places mid.gathered frame_of));
      views = g.is_of.views ∙ ap (λ b. b.resources.views) stands.book_is ∙ ap (λ r. r.views) stands.resources;
      journal = g.is_of.journal ∙ sym ends.journal;
    };
    next = at_next next start s k f handles old new played.there number played.stands played.first played.many
        (ap (λ v. v.book) g.same ∙ ap (λ v. started v.book) collects.same) (ap (λ v. v.begun) g.same) (ap (λ v. v.is_ended) g.same ∙ ap (λ v. v.is_ended) collects.same ∙ played.running) (ap (λ v. v.first) g.same ∙ ap (λ v. v.first) collects.same);
  }
  gives false e = ap (λ v. v.given) e ∙ ap (λ v. v.given) collects.same

  items : length report.journal.items ≡ frame_items plan
  items = sym (length-map report.journal.items entry_seen) ∙ ap length ends.journal ∙ is.items

  dropped_all : report.dropped + dropped ≡ frame_dropped plan
  dropped_all = let a = ends.dropped ∙ is.dropped in omega (arith, a, counted)

  -- the frame ends as the definition's
  pub frame_ends : FrameEnds s k f entries (length report.journal.items, report.dropped + dropped) report.given handles old new
  frame_ends = record {
    plan = plan;
    planned = planned;
    lawful = subst (IsLawfulFrame plan) (sym ends.journal) is.lawful;
    noted = ap (λ n. (n, report.dropped + dropped)) items ∙ ap (λ n. (frame_items plan, n)) dropped_all;
    gives = gives report.given ends.gives;
  }

  -- the frame that came back is the oldest that was out
  pub frame_back : MakesWay report.back old new.back
  frame_back = makes_way admits (views_of s) old mid new report collects ends.back

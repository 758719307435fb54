-- The lines of a frame, from its start to its end.
use Rattle.std.proofs.Common.{◌≡◌, ℕ, ◌+◌, ◌<◌, ◌≤◌, ◌^◌, zero, suc, Bool, true, false, List, [], ◌∷◌, ◌++◌, map, length, fold, Option, Some, None, Result, Ok, Err, MatchResult, refl, sym, ap, ◌∙◌, subst, arith}
use Rattle.std.proofs.lemmas.List.Sums.{fold-append}
use Rattle.std.proofs.lemmas.Option.{same_Some, none-some}
use Rattle.std.specs.List.{AllByRecursion, slice_get}
use Rattle.gfx_model.specs.Words.{Handle}
use Rattle.call_laws.specs.Calls.{Written, after_call, nothing_written}
use Rattle.spelling_model.specs.Readable.{IsReadable}
use Rattle.scene_model.specs.Scene.{SceneFrame, Scene}
use Rattle.scene_model.specs.Fold.{Progress, FramePlan}
use Rattle.scene_laws.specs.SceneFrames.{calls_of, written_by}
use Rattle.scene_progress.specs.Progress.{start_of, before_of, all_of}
use Rattle.scene_progress.proofs.Given.{Keeps, in_frame, lines_keep}
use Rattle.scene_lines.specs.Names.{LineHasPlace, FrameHasPlaces, PlacesLaw}
use Rattle.scene_lines.specs.Played.{StandsFor, LinesPlayed}
use Rattle.gfx_context.specs.States.{ContextView, untouched}
use Rattle.scene_model.specs.Journal.{Entry}
use Rattle.gfx_words.specs.Seen.{entry_seen}
use Rattle.render_core.specs.Ended.{first_outcome}
use Rattle.scene_playing.specs.declared.frame.EndedFrame.{EndedFrame}
use Rattle.scene_playing.specs.Frames.{note_seen}
use Rattle.scene_playing.specs.Recording.{IsAt, written_before, IsRecording, IsRecorded, HasBegun}
use Rattle.scene_playing.specs.Steps.{IsGivenWhere, FrameEnds, first_after}

-- ---- the frame's number

-- the frame of what stands for a state is the state's
number_of : {L : Type 0} (w : Written) (p : Progress) (handles : List (Option Handle)) (c : ContextView L) → StandsFor w p c.book handles → c.book.resources.frame ≡ p.resources.frame
number_of w p handles c stands = ap (λ b. b.resources.frame) stands.book_is ∙ ap (λ r. r.frame) stands.resources

pub number_at : {L : Type 0} (s : Scene) (k : ℕ) (handles : List (Option Handle)) (c : ContextView L) → IsAt s k handles c → c.book.resources.frame ≡ k
number_at s k handles c at = number_of (nothing_written (start_of s k).resources) (start_of s k) handles c at.stands

pub number_recording : {L : Type 0} (s : Scene) (k : ℕ) (f : SceneFrame) (names : List (Option Handle)) (c : ContextView L) → IsRecording s k f names c → c.book.resources.frame ≡ k
number_recording s k f names c r = number_of (written_before s k f) (before_of s k f) names c r.stands ∙ (in_frame s k f).frame

pub number_recorded : {L : Type 0} (s : Scene) (k : ℕ) (f : SceneFrame) (names : List (Option Handle)) (c : ContextView L) → IsRecorded s k f names c → c.book.resources.frame ≡ k
number_recorded s k f names c r = number_of (written_by s.names (start_of s k) f) (all_of s k f) names c r.stands ∙ (lines_keep k s.names (before_of s k f) f.beside (in_frame s k f)).frame

-- ---- places of names

all_at : {A : Type 0} (P : A → Type 0) (xs : List A) (k : ℕ) (x : A) → AllByRecursion P xs → slice_get xs k ≡ Some x → P x
all_at P xs k x all is = by xs k all is where
  by : (xs : List _) (k : ℕ) → AllByRecursion P xs → slice_get xs k ≡ Some x → P x
  by [] k a e = absurd (none-some x e)
  by (y ∷ ys) zero a e = subst P (same_Some y x e) a.0
  by (y ∷ ys) (suc n) a e = by ys n a.1 e

pub places_in : (places : PlacesLaw) (s : Scene) (k : ℕ) (f : SceneFrame) → IsReadable s → slice_get s.frames k ≡ Some f → FrameHasPlaces (length s.names) f
places_in places s k f readable there = all_at (FrameHasPlaces (length s.names)) s.frames k f (places s readable) there

-- ---- from the start to the blocks

none_before : (n m : ℕ) → m ≡ 0 + n → m ≡ n
none_before n m e = omega (arith, e)

-- after the lines before the blocks the context records the frame
pub recording_after : {L : Type 0} (s : Scene) (k : ℕ) (f : SceneFrame) (dropped : ℕ) (before after : List (Option Handle)) (old new : ContextView L)
    → IsAt s k before old → slice_get s.frames k ≡ Some f → LinesPlayed s.names f.before dropped old.book new.book before after → untouched new ≡ untouched old
    → IsRecording s k f after new × ((before_of s k f).dropped ≡ dropped) × (new.begun ≡ 0) × (length after ≡ length s.names)
recording_after s k f dropped before after old new at there played same = (
  record {
    there = there;
    stands = played.stands (nothing_written (start_of s k).resources) (start_of s k) at.stands;
    running = ap (λ v. v.is_ended) same ∙ at.running;
    first = ap (λ v. v.first) same ∙ at.first;
  },
  none_before dropped (before_of s k f).dropped (played.dropped_are (nothing_written (start_of s k).resources) (start_of s k) at.stands),
  ap (λ v. v.begun) same ∙ at.none_begun,
  played.many ∙ at.many,
)

-- ---- from the blocks to the end

-- after the lines beside the blocks all was recorded
pub recorded_after : {L : Type 0} (s : Scene) (k : ℕ) (f : SceneFrame) (dropped : ℕ) (before after : List (Option Handle)) (old mid new : ContextView L)
    → IsRecording s k f before old → HasBegun s.encoders old mid → LinesPlayed s.names f.beside dropped mid.book new.book before after → untouched new ≡ untouched mid → length before ≡ length s.names
    → IsRecorded s k f after new × ((all_of s k f).dropped ≡ (before_of s k f).dropped + dropped)
recorded_after s k f dropped before after old mid new recording begun played same many =
    let book : mid.book ≡ old.book = ap (λ v. v.book) begun.same in
    let stands : StandsFor (written_before s k f) (before_of s k f) mid.book before = subst (λ b. StandsFor (written_before s k f) (before_of s k f) b before) (sym book) recording.stands in (
      record {
        there = recording.there;
        stands = subst (λ (w : Written). StandsFor w (all_of s k f) new.book after)
            (sym (fold-append after_call (nothing_written (start_of s k).resources) (calls_of s.names (start_of s k) f.before) (calls_of s.names (before_of s k f) f.beside)))
            (played.stands (written_before s k f) (before_of s k f) stands);
        begun = ap (λ v. v.begun) same ∙ begun.begun;
        running = ap (λ v. v.is_ended) same ∙ ap (λ v. v.is_ended) begun.same ∙ recording.running;
        first = ap (λ v. v.first) same ∙ ap (λ v. v.first) begun.same ∙ recording.first;
        many = played.many ∙ many;
      },
      played.dropped_are (written_before s k f) (before_of s k f) stands,
    )

-- ---- by the number that the context has

pub recording_now : {L : Type 0} (s : Scene) (k : ℕ) (f : SceneFrame) (names others : List (Option Handle)) (c : ContextView L) → others ≡ names → IsRecording s k f names c → IsRecording s c.book.resources.frame f others c
recording_now s k f names others c same r =
    subst (λ n. IsRecording s n f others c) (sym (number_recording s k f names c r)) (subst (λ ns. IsRecording s k f ns c) (sym same) r)

pub recorded_now : {L : Type 0} (s : Scene) (k : ℕ) (f : SceneFrame) (handles : List (Option Handle)) (c : ContextView L) → IsRecorded s k f handles c → IsRecorded s c.book.resources.frame f handles c
recorded_now s k f handles c r = subst (λ n. IsRecorded s n f handles c) (sym (number_recorded s k f handles c r)) r

-- the lines that a frame dropped before its blocks and beside them
pub dropped_now : {L : Type 0} (s : Scene) (k : ℕ) (f : SceneFrame) (handles : List (Option Handle)) (c : ContextView L) (before beside : ℕ) → IsRecorded s k f handles c → (before_of s k f).dropped ≡ before → (all_of s k f).dropped ≡ (before_of s k f).dropped + beside
    → before + beside ≡ (all_of s c.book.resources.frame f).dropped
dropped_now s k f handles c before beside r first all =
    sym (all ∙ ap (λ n. n + beside) first) ∙ ap (λ n. (all_of s n f).dropped) (sym (number_recorded s k f handles c r))

-- ---- what ended since the frame's start

gives_since : {L : Type 0} (s : Scene) (k : ℕ) (f : SceneFrame) (p : FramePlan) (e : List Entry) (b : Bool) (handles : List (Option Handle)) (old mid new : ContextView L) → mid.given ≡ old.given → IsGivenWhere b s k f p e handles mid new → IsGivenWhere b s k f p e handles old new
gives_since s k f p e true handles old mid new same g = record { frame = g.frame; given = g.given ∙ ap (λ fs. fs ++ g.frame ∷ []) same; seen = g.seen; gathered = g.gathered; next = g.next }
gives_since s k f p e false handles old mid new same g = g ∙ same

ends_since : {L : Type 0} (s : Scene) (n k : ℕ) (f : SceneFrame) (e : List Entry) (note : ℕ × ℕ) (b : Bool) (handles : List (Option Handle)) (old mid new : ContextView L) → n ≡ k → mid.given ≡ old.given
    → FrameEnds s n f e note b handles mid new → FrameEnds s k f e note b handles old new
ends_since s n k f e note b handles old mid new is same ends = subst (λ (m : ℕ). FrameEnds s m f e note b handles old new) is (record {
  plan = ends.plan;
  planned = ends.planned;
  lawful = ends.lawful;
  noted = ends.noted;
  gives = gives_since s n f ends.plan e b handles old mid new same ends.gives;
})

pub ended_since : {L E : Type 0} (r : Result EndedFrame E) (s : Scene) (n k : ℕ) (f : SceneFrame) (handles : List (Option Handle)) (old mid new : ContextView L) → n ≡ k → mid.given ≡ old.given
    → MatchResult r (λ e. FrameEnds s n f (map entry_seen e.journal.items) (note_seen e.note) e.given handles mid new) (λ _. new.given ≡ mid.given)
    → MatchResult r (λ e. FrameEnds s k f (map entry_seen e.journal.items) (note_seen e.note) e.given handles old new) (λ _. new.given ≡ old.given)
ended_since (Ok e) s n k f handles old mid new is same m = ends_since s n k f (map entry_seen e.journal.items) (note_seen e.note) e.given handles old mid new is same m
ended_since (Err x) s n k f handles old mid new is same m = m ∙ same

pub back_since : {L E : Type 0} (r : Result EndedFrame E) (old mid new : ContextView L) → mid.back ≡ old.back
    → MatchResult r (λ e. first_outcome new.back ≡ first_after (first_outcome mid.back) e.back) (λ _. new.back ≡ mid.back)
    → MatchResult r (λ e. first_outcome new.back ≡ first_after (first_outcome old.back) e.back) (λ _. new.back ≡ old.back)
back_since (Ok e) old mid new same m = m ∙ ap (λ rs. first_after (first_outcome rs) e.back) same
back_since (Err x) old mid new same m = m ∙ same

-- what the lines and the blocks leave as it was
pub rest_kept : {L : Type 0} (n : ℕ) (old first mid last : ContextView L) → untouched first ≡ untouched old → HasBegun n first mid → untouched last ≡ untouched mid
    → (last.given ≡ old.given) × (last.back ≡ old.back) × (last.link ≡ old.link)
rest_kept n old first mid last before begun beside = (
  ap (λ v. v.given) beside ∙ ap (λ v. v.given) begun.same ∙ ap (λ v. v.given) before,
  ap (λ v. v.back) beside ∙ ap (λ v. v.back) begun.same ∙ ap (λ v. v.back) before,
  ap (λ v. v.link) beside ∙ ap (λ v. v.link) begun.same ∙ ap (λ v. v.link) before,
)

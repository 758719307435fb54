-- Frames that were judged one after another.
use Rattle.std.proofs.Common.{◌≡◌, ℕ, zero, suc, ◌+◌, ◌<◌, ◌≤◌, List, [], ◌∷◌, ◌++◌, map, fold, flat_map, length, drop, Option, Some, None, option_map, replicate, slice_get, slice_index_or, refl, ap, sym, subst, ◌∙◌, arith}
use Rattle.std.specs.List.{AllByRecursion}
use Rattle.gfx_model.specs.Words.{Handle}
use Rattle.gfx_model.specs.Resources.{Resources, start_frame}
use Rattle.resource_laws.specs.Bare.{bare_of}
use Rattle.resource_laws.specs.Laws.{BareStartLaw}
use Rattle.call_laws.specs.Calls.{Written, after_call}
use Rattle.gfx_model.specs.Resources.{opening}
use Rattle.gfx_model.specs.Recorder.{Room}
use Rattle.std.proofs.lemmas.List.{length-replicate}
use Rattle.scene_text.specs.declared.scene.SceneName.{SceneName}
use Rattle.scene_text.specs.declared.scene.ResLine.{ResLine}
use Rattle.scene_text.specs.declared.scene.EncBlock.{EncBlock}
use Rattle.scene_text.specs.Seen.{name_seen, resource_line_seen, block_seen}
use Rattle.scene_model.specs.Scene.{Block, SceneFrame, Scene, views_of, latency_of}
use Rattle.scene_model.specs.Fold.{Progress, after_lines, at_start, first_progress, thing_named}
use Rattle.scene_laws.specs.SceneFrames.{calls_of}
use Rattle.resource_book.specs.Written.{BookView}
use Rattle.resource_book.specs.Works.{with_nothing_written}
use Rattle.resource_book.specs.Laws.{bared}
use Rattle.scene_lines.specs.Names.{FrameHasPlaces, handle_of}
use Rattle.scene_lines.specs.Played.{StandsFor}
use Rattle.scene_progress.specs.Progress.{progress_before, start_of, before_of, all_of}
use Rattle.scene_progress.proofs.Given.{before_keeps}
use Rattle.scene_progress.proofs.Reached.{first, next}
use Rattle.dropped_lines.specs.Verdicts.{Verdict, resource_verdicts, encoder_verdicts, block_verdicts, frame_verdicts, verdicts_from, verdicts}
use Rattle.dropped_lines.specs.Dropped as model
use Rattle.scene_lines.specs.declared.reasons.Reason.{Reason}
use Rattle.scene_lines.specs.Reasons.{told}
use Rattle.dropped_lines.specs.Reasons as reasons
use Rattle.scene_check.specs.declared.found.DroppedLine.{DroppedLine}
use Rattle.scene_check.specs.Found.{FoundView, with_reason, noted, noted_all, line_told}
use Rattle.scene_check.specs.Frames.{fresh, LinesJudged, BlocksJudged}
use Rattle.scene_check.specs.Scenes.{IsReached}
use Rattle.scene_check.specs.Checkers.{lines_from}
use Rattle.scene_check.proofs.FrameLaws.{noted_append}

-- ---- a frame

pub earlier : (s : Scene) (k : ℕ) (book : BookView) (handles : List (Option Handle)) → IsReached s k book handles → book.resources.frame ≤ k
earlier s k book handles r =
    let same : book.resources.frame ≡ (progress_before s k).resources.frame = ap (λ (v : BookView). v.resources.frame) r.stands.book_is ∙ ap (λ (x : Resources). x.frame) r.stands.resources in
    let keeps = before_keeps s k in
    let below = keeps.frame in
    omega (arith, same, below)

pub frame_at : (P : SceneFrame → Type 0) (fs : List SceneFrame) (k : ℕ) (f : SceneFrame) → AllByRecursion P fs → slice_get fs k ≡ Some f → P f
frame_at P [] k f all e = absurd (cc e)
frame_at P (g ∷ fs) zero f all e = let same : g ≡ f = cc e in subst P same all.0
frame_at P (g ∷ fs) (suc k) f all e = frame_at P fs k f all.1 e

started_stands : (s : Scene) (k : ℕ) (old started : BookView) (before : List (Option Handle)) → BareStartLaw → (r : IsReached s k old before) → started ≡ record old { resources = start_frame k old.resources }
    → StandsFor (record r.written { resources = start_frame k r.written.resources; changes = [] }) (start_of s k) started before
started_stands s k old started before bare_start r e = record {
  resources = ap (start_frame k) r.stands.resources;
  changes = refl;
  book_is =
      e ∙ ap (λ (v : BookView). let q : BookView = record v { resources = start_frame k v.resources } in q) r.stands.book_is
      ∙ ap (λ (x : Resources). let q : BookView = record { resources = x; pre = r.written.pre; post = r.written.post; payloads = r.written.payloads } in q) (bare_start r.written.resources k);
  named = r.stands.named;
}

pub frame_reached : (s : Scene) (k : ℕ) (f : SceneFrame) (old started mid last new : BookView) (before between after : List (Option Handle)) (found a b now : FoundView)
    → BareStartLaw → IsReached s k old before → slice_get s.frames k ≡ Some f → started ≡ record old { resources = start_frame k old.resources }
    → LinesJudged s.names k f.before started mid before between found a → LinesJudged s.names k f.beside mid last between after b now → new ≡ with_nothing_written last
    → IsReached s (k + 1) new after
frame_reached s k f old started mid last new before between after found a b now bare_start r is e lines beside taken =
    let w : Written = record r.written { resources = start_frame k r.written.resources; changes = [] } in
    let p : Progress = start_of s k in
    let q : Progress = before_of s k f in
    let x : Written = fold after_call w (calls_of s.names p f.before) in
    let y : Written = fold after_call x (calls_of s.names q f.beside) in
    let stands : StandsFor y (all_of s k f) last after = beside.stands x q (lines.stands w p (started_stands s k old started before bare_start r e)) in
    record {
      written = record y { pre = []; post = []; payloads = [] };
      stands = subst (λ (u : Progress). StandsFor (record y { pre = []; post = []; payloads = [] }) u new after) (sym (next s k f is)) (record {
        resources = stands.resources;
        changes = stands.changes;
        book_is = taken ∙ ap with_nothing_written stands.book_is;
        named = stands.named;
      });
      nothing = ap (λ (v : BookView). v.post) taken;
      many = beside.many ∙ lines.many ∙ r.many;
    }

pub frame_judged : (s : Scene) (k : ℕ) (f : SceneFrame) (old started mid last : BookView) (before between after : List (Option Handle)) (found a b now : FoundView)
    → BareStartLaw → IsReached s k old before → started ≡ record old { resources = start_frame k old.resources }
    → LinesJudged s.names k f.before started mid before between found a → BlocksJudged k (views_of s) s.room mid between f.blocks a b → LinesJudged s.names k f.beside mid last between after b now
    → now ≡ noted_all found (frame_verdicts s k (start_of s k) (before_of s k f) f)
frame_judged s k f old started mid last before between after found a b now bare_start r e lines blocks beside =
    let w : Written = record r.written { resources = start_frame k r.written.resources; changes = [] } in
    let p : Progress = start_of s k in
    let q : Progress = before_of s k f in
    let x : Written = fold after_call w (calls_of s.names p f.before) in
    let here = started_stands s k old started before bare_start r e in
    let there = lines.stands w p here in
    let front = resource_verdicts s.names k p f.before in
    let middle = flat_map (block_verdicts s k q) f.blocks in
    let back = resource_verdicts s.names k q f.beside in
    beside.noted x q there ∙ ap (λ v. noted_all v back) (blocks x q there ∙ ap (λ v. noted_all v middle) (lines.noted w p here))
    ∙ sym (noted_append (noted_all found front) middle back) ∙ sym (noted_append found front (middle ++ back))

-- ---- all frames

pub got : {A B : Type 0} (f : A → B) (xs : List A) (i : ℕ) (x : A) → i < length xs → x ≡ slice_index_or xs i x → slice_get (map f xs) i ≡ Some (f x)
got f [] i x lt e = absurd (omega (arith, lt))
got f (y ∷ ys) zero x lt e = ap (λ z. Some (f z)) (sym e)
got f (y ∷ ys) (suc i) x lt e = got f ys i x (omega (arith, lt)) e

next_from : (s : Scene) (k : ℕ) (p : Progress) (fs : List SceneFrame) (i : ℕ) (f : SceneFrame) → slice_get fs i ≡ Some f → drop i fs ≡ f ∷ drop (i + 1) fs
next_from s k p [] i f e = absurd (cc e)
next_from s k p (g ∷ fs) zero f e = let same : g ≡ f = cc e in ap (λ x. x ∷ fs) same
next_from s k p (g ∷ fs) (suc i) f e = let at : suc i + 1 ≡ suc (i + 1) = omega arith in next_from s k p fs i f e ∙ ap (λ n. f ∷ drop n (g ∷ fs)) (sym at)

-- ---- what is found

pub found_lines : (vs : List Verdict) (ns : List ℕ) (ls : List DroppedLine) → (noted_all (record { left = ns; lines = ls }) vs).lines ≡ ls ++ map line_told (model.dropped_with ns vs)
found_lines [] [] ls = sym (Rattle.std.proofs.lemmas.List.append-nil ls)
found_lines [] (n ∷ ns) ls = sym (Rattle.std.proofs.lemmas.List.append-nil ls)
found_lines (v ∷ vs) [] ls = found_lines vs [] ls ∙ ap (λ t. ls ++ map line_told t) (none_with vs)
  where
    none_with : (us : List Verdict) → model.dropped_with [] us ≡ []
    none_with [] = refl
    none_with (u ∷ us) = refl
found_lines (v ∷ vs) (n ∷ ns) ls = step v.reason (λ ms. found_lines vs ns ms)
  where
    step : (o : Option reasons.Reason) → ((ms : List DroppedLine) → (noted_all (record { left = ns; lines = ms }) vs).lines ≡ ms ++ map line_told (model.dropped_with ns vs))
        → (noted_all (with_reason v.frame v.encoder n ns ls (option_map told o)) vs).lines ≡ ls ++ map line_told (model.with_line n v o (model.dropped_with ns vs))
    step None go = go ls
    step (Some r) go =
        let d : DroppedLine = record { line = n; frame = v.frame; encoder = v.encoder; reason = told r } in
        go (ls ++ d ∷ []) ∙ Rattle.std.proofs.lemmas.List.append_assoc ls (d ∷ []) (map line_told (model.dropped_with ns vs))

-- a frame's dropped lines stand in front of those of the frames behind it
pub frame_told : (s : Scene) (k : ℕ) (f : SceneFrame) (left : List ℕ) (found : FoundView) → slice_get s.frames k ≡ Some f → found ≡ noted_all (record { left = left; lines = [] }) (frame_verdicts s k (start_of s k) (before_of s k f) f)
    → lines_from s k left ≡ found.lines ++ lines_from s (k + 1) found.left
frame_told s k f left found is judged =
    let mine = frame_verdicts s k (start_of s k) (before_of s k f) f in
    let later : List Verdict = verdicts_from s (k + 1) (progress_before s (k + 1)) (drop (k + 1) s.frames) in
    let start : FoundView = record { left = left; lines = [] } in
    let all : verdicts_from s k (progress_before s k) (drop k s.frames) ≡ mine ++ later =
    ap (λ fs. verdicts_from s k (progress_before s k) fs) (next_from s k (progress_before s k) s.frames k f is) ∙ ap (λ p. mine ++ verdicts_from s (k + 1) p (drop (k + 1) s.frames)) (sym (next s k f is)) in
    sym (found_lines (verdicts_from s k (progress_before s k) (drop k s.frames)) left []) ∙ ap (λ vs. (noted_all start vs).lines) all
    ∙ ap (λ (v : FoundView). v.lines) (noted_append start mine later) ∙ ap (λ v. (noted_all v later).lines) (sym judged) ∙ found_lines later found.left found.lines

-- the dropped lines of all frames
pub lines_first : (s : Scene) (left : List ℕ) → lines_from s 0 left ≡ map line_told (model.dropped_with left (verdicts s))
lines_first s left = ap (λ p. map line_told (model.dropped_with left (verdicts_from s 0 p s.frames))) (first s)

-- behind the last frame there are none
pub lines_none : (s : Scene) (k : ℕ) (left : List ℕ) → drop k s.frames ≡ [] → lines_from s k left ≡ []
lines_none s k left e = ap (λ fs. map line_told (model.dropped_with left (verdicts_from s k (progress_before s k) fs))) e ∙ ap (map line_told) (none_with left)
  where
    none_with : (ns : List ℕ) → model.dropped_with ns [] ≡ []
    none_with [] = refl
    none_with (n ∷ ns) = refl

-- ---- the beginning

none_named : (many n : ℕ) → handle_of (replicate many None) n ≡ None
none_named zero n = refl
none_named (suc m) zero = refl
none_named (suc m) (suc n) = none_named m n

pub first_reached : (s : Scene) (book : BookView) (handles : List (Option Handle)) → book ≡ record { resources = opening (views_of s) (latency_of s) 0 1; pre = []; post = []; payloads = [] } → handles ≡ replicate (length s.names) None
    → IsReached s 0 book handles
first_reached s book handles opened empty =
    let w : Written = record { resources = opening (views_of s) (latency_of s) 0 1; changes = []; pre = []; post = []; payloads = []; dying = [] } in
    record {
      written = w;
      stands = subst (λ (p : Progress). StandsFor w p book handles) (sym (first s)) (record { resources = refl; changes = refl; book_is = opened; named = λ n. ap (λ hs. handle_of hs n) empty ∙ none_named (length s.names) n });
      nothing = ap (λ (v : BookView). v.post) opened;
      many = ap length empty ∙ length-replicate (length s.names) None;
    }

-- ---- parts of the code's frame

pub lines_as : (k : ℕ) (names own_names : List SceneName) (lines own_lines : List ResLine) (old new : BookView) (before after : List (Option Handle)) (found now : FoundView) → names ≡ own_names → lines ≡ own_lines
    → LinesJudged (map name_seen names) k (map resource_line_seen lines) old new before after found now → LinesJudged (map name_seen own_names) k (map resource_line_seen own_lines) old new before after found now
lines_as k names own_names lines own_lines old new before after found now e f j =
    subst (λ (ns : List SceneName). LinesJudged (map name_seen ns) k (map resource_line_seen own_lines) old new before after found now) e
    (subst (λ (ls : List ResLine). LinesJudged (map name_seen names) k (map resource_line_seen ls) old new before after found now) f j)

pub blocks_as : (k views own_views : ℕ) (room : Room) (book : BookView) (handles : List (Option Handle)) (blocks own_blocks : List EncBlock) (found now : FoundView) → views ≡ own_views → blocks ≡ own_blocks
    → BlocksJudged k views room book handles (map block_seen blocks) found now → BlocksJudged k own_views room book handles (map block_seen own_blocks) found now
blocks_as k views own_views room book handles blocks own_blocks found now e f j w p s =
    j w p s ∙ ap (λ bs. noted_all found (flat_map (λ (b : Block). encoder_verdicts k b.encoder p (fresh k views room) b.lines) (map block_seen bs))) f
    ∙ ap (λ n. noted_all found (flat_map (λ (b : Block). encoder_verdicts k b.encoder p (fresh k n room) b.lines) (map block_seen own_blocks))) e

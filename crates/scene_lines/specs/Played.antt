-- What a line of the API thread does.
use Rattle.std.specs.Prelude.{◌≡◌, ℕ, ◌+◌, Bool, true, false, List, length, take, fold, Option, Some, None, Result, Ok, Err, MatchResult, is_some, option_map, slice_get}
use Rattle.gfx_model.specs.Words.{Handle}
use Rattle.gfx_model.specs.Resources.{ResourceCall, refusal_of, effect}
use Rattle.gfx_words.specs.declared.refusals.Refusal as code
use Rattle.gfx_words.specs.Seen.{refusal_seen}
use Rattle.call_laws.specs.Calls.{Written, after_call}
use Rattle.scene_model.specs.Scene.{Name, ResourceLine, destroy_line, view_line, target_line, order_line}
use Rattle.scene_model.specs.Fold.{Bindings, resource_call, created_name, Progress, after_lines}
use Rattle.resource_book.specs.Written.{BookView, after_in}
use Rattle.resource_book.specs.Laws.{bared}
use Rattle.scene_laws.specs.SceneFrames.{calls_of}
use Rattle.dropped_lines.specs.Reasons.{without_call}
use Rattle.scene_lines.specs.declared.reasons.Reason.{Reason}
use Rattle.scene_lines.specs.Reasons.{told_refusal, told}
use Rattle.scene_lines.specs.Names.{AreNamed, with_bound}

-- ---- one line, as the code answers it

-- a refusal of the definitions
abbrev pub IsRefusal : code.Refusal → Type 0
IsRefusal r = is_some (refusal_seen r) ≡ true

-- a refused line is dropped; without memory, which is no refusal of the definitions, there is no answer
abbrev pub IsDropping : {E : Type 0} → Result (Option Reason) E → code.Refusal → Type 0
IsDropping (Ok dropped) r = (dropped ≡ option_map told_refusal (refusal_seen r)) × IsRefusal r
IsDropping (Err _) r = refusal_seen r ≡ None

-- an accepted create binds the name, a refused one is dropped
abbrev pub IsBound : {E : Type 0} → Name → Result Handle code.Refusal → Result (Option Reason) E → (before after : List (Option Handle)) → Type 0
IsBound n (Ok h) (Ok dropped) before after = (dropped ≡ None) × (after ≡ with_bound (Some n) (Some h) before)
IsBound n (Ok h) (Err _) before after = ⊥
IsBound n (Err r) result before after = IsDropping result r × (after ≡ before)

-- an accepted call is done, a refused one is dropped
abbrev pub IsDone : {E : Type 0} → Result (Unit {0}) code.Refusal → Result (Option Reason) E → Type 0
IsDone (Ok _) (Ok dropped) = dropped ≡ None
IsDone (Ok _) (Err _) = ⊥
IsDone (Err r) result = IsDropping result r

-- an accepted call: its effect without contents, and the name that it binds
pub record IsAccepted (c : ResourceCall) (bound : Option Name) (old new : BookView) (before after : List (Option Handle)) : Type 0 where
  pub passes : refusal_of old.resources c ≡ None
  pub made : Option Handle
  pub is_made : (effect old.resources c).made ≡ made
  pub effected : new ≡ after_in c made old
  pub names : after ≡ with_bound bound made before

-- nothing has changed
abbrev pub IsSame : (old new : BookView) → (before after : List (Option Handle)) → Type 0
IsSame old new before after = (new ≡ old) × (after ≡ before)

-- a call, if there is one, is dropped where it is refused, with its refusal's reason, and else done; without a call the line is dropped for a reason of its own
abbrev pub IsCalled : (dropped : Option Reason) → Option ResourceCall → (without : Reason) → Option Name → (old new : BookView) → (before after : List (Option Handle)) → Type 0
IsCalled (Some r) None without bound old new before after = (r ≡ without) × IsSame old new before after
IsCalled (Some r) (Some c) without bound old new before after = (Some r ≡ option_map told_refusal (refusal_of old.resources c)) × IsSame old new before after
IsCalled None None without bound old new before after = ⊥
IsCalled None (Some c) without bound old new before after = IsAccepted c bound old new before after

-- the same of the call that a line has by what its names stand for
abbrev pub LineCalled : (dropped : Option Reason) → (names : List (List ℕ)) → ResourceLine → (old new : BookView) → (before after : List (Option Handle)) → Type 0
LineCalled dropped names line old new before after =
    (bs : Bindings) → AreNamed before bs → IsCalled dropped (resource_call bs names line) (told (without_call line)) (created_name line) old new before after

-- the lines whose calls take memory: those that create and those that write contents
abbrev pub takes_memory : ResourceLine → Bool
takes_memory (destroy_line name) = false
takes_memory (view_line view c) = false
takes_memory (target_line view target) = false
takes_memory (order_line views) = false
takes_memory _ = true

-- a line is done or dropped; without memory, which only some lines take, nothing has changed
abbrev pub LineAnswered : {E : Type 0} → Result (Option Reason) E → (names : List (List ℕ)) → ResourceLine → (old new : BookView) → (before after : List (Option Handle)) → Type 0
LineAnswered result names line old new before after =
    MatchResult result (λ dropped. LineCalled dropped names line old new before after) (λ _. (takes_memory line ≡ true) × IsSame old new before after)

-- ---- lines, as the definition has them

-- how many lines a line drops
abbrev pub one_if : Option Reason → ℕ
one_if (Some r) = 1
one_if None = 0

-- what the calls wrote, the definition's state of the lines, and what the code has of both
pub record StandsFor (w : Written) (p : Progress) (book : BookView) (handles : List (Option Handle)) : Type 0 where
  pub resources : w.resources ≡ p.resources
  pub changes : w.changes ≡ p.changes
  pub book_is : book ≡ bared w
  pub named : AreNamed handles p.bindings

-- lines were played: what stood for a state of the definition stands for the state after them, and so many of them were dropped
pub record LinesPlayed (names : List (List ℕ)) (lines : List ResourceLine) (dropped : ℕ) (old new : BookView) (before after : List (Option Handle)) : Type 0 where
  pub stands : (w : Written) (p : Progress) → StandsFor w p old before → StandsFor (fold after_call w (calls_of names p lines)) (after_lines names p lines) new after
  pub dropped_are : (w : Written) (p : Progress) → StandsFor w p old before → (after_lines names p lines).dropped ≡ p.dropped + dropped
  pub many : length after ≡ length before

-- without memory, lines were played up to one that takes some and was not
pub record FrontPlayed (names : List (List ℕ)) (lines : List ResourceLine) (old new : BookView) (before after : List (Option Handle)) : Type 0 where
  pub count : ℕ
  pub stopped : (line : ResourceLine) × (slice_get lines count ≡ Some line) × (takes_memory line ≡ true)
  pub dropped : ℕ
  pub played : LinesPlayed names (take count lines) dropped old new before after

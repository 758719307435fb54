-- What is known after a run, for each status with which it may end.
use Rattle.std.specs.Prelude.{◌≡◌, ◌==◌, ◌⊎◌, ℕ, List, ◌++◌, filter, flat_map, length, slice_get, Option, Some, Ok, Err}
use Rattle.io_edge.specs.Edge.{with_back}
use Rattle.scene_model.specs.Scene.{Scene}
use Rattle.scene_model.specs.Grammar.{Fault, whole_language, scene_of}
use Rattle.scene_model.specs.Fold.{FramePlan, plans}
use Rattle.scene_model.specs.Output.{frame_dropped, length_line}
use Rattle.dropped_lines.specs.Dropped.{Dropped, dropped_line, dropped_text}
use Rattle.io_whole.specs.Whole.{HasMoreThan, HasFront}
use Rattle.io_whole.specs.Whole.{longest, IsRead}
use Rattle.check_running.specs.Refusals.{told_fault}
use Rattle.check_running.specs.declared.status.CheckStatus.{CheckStatus}
use Rattle.check_running.specs.declared.status.CheckStatus.TheVariants as status

-- the source was read to its end, and its bytes are a scene
pub record IsScene (bytes : List ℕ) (s : Scene) (before after : Option (List ℕ)) : Type 0 where
  pub read : IsRead bytes before after
  pub is : scene_of whole_language bytes ≡ Ok s

-- the source was read to its end, and its bytes are no scene
pub record IsNoScene (bytes : List ℕ) (fault : Fault) (before after : Option (List ℕ)) : Type 0 where
  pub read : IsRead bytes before after
  pub is : scene_of whole_language bytes ≡ Err fault

-- the note of a text that is no scene, or too long
abbrev pub IsNote : List ℕ → (before after : Option (List ℕ)) → Type 0
IsNote note before after =
    ((bytes : List ℕ) × (fault : Fault) × IsNoScene bytes fault before after × (note ≡ told_fault bytes fault)) ⊎ (HasMoreThan longest before × (note ≡ length_line))

-- nothing was put, or a front of the lines of the scene that was read
abbrev pub IsCut : (before after old new : Option (List ℕ)) → Type 0
IsCut before after old new = (new ≡ old) ⊎ ((bytes : List ℕ) × (s : Scene) × IsScene bytes s before after × HasFront old (dropped_text bytes s) new)

-- before and after: what the source has left; old and new: what the lines hold; told and said: what the notes hold; the last three: a read failed, a put of lines failed, a put of notes failed
abbrev pub Ended : CheckStatus → (before after old new told said : Option (List ℕ)) → Type 0 → Type 0 → Type 0 → Type 0
Ended status.Done before after old new told said read_failed put_failed tell_failed =
    (bytes : List ℕ) × (s : Scene) × IsScene bytes s before after × (new ≡ with_back old (dropped_text bytes s)) × (said ≡ told)
Ended (status.Scene line cause) before after old new told said read_failed put_failed tell_failed =
    (bytes : List ℕ) × IsNoScene bytes (record { line = line; cause = cause }) before after × (new ≡ old) × (said ≡ with_back told (told_fault bytes (record { line = line; cause = cause })))
Ended status.ReadFault before after old new told said read_failed put_failed tell_failed = read_failed × (new ≡ old) × (said ≡ told)
Ended status.LineFault before after old new told said read_failed put_failed tell_failed =
    (bytes : List ℕ) × (s : Scene) × IsScene bytes s before after × HasFront old (dropped_text bytes s) new × put_failed × (said ≡ told)
Ended status.NoteFault before after old new told said read_failed put_failed tell_failed =
    (note : List ℕ) × IsNote note before after × HasFront told note said × tell_failed × (new ≡ old)
Ended status.TooLong before after old new told said read_failed put_failed tell_failed = HasMoreThan longest before × (new ≡ old) × (said ≡ with_back told length_line)
Ended status.OutOfMemory before after old new told said read_failed put_failed tell_failed = IsCut before after old new × (said ≡ told)

-- the run ends so, or for want of memory
abbrev pub EndsAs : CheckStatus → CheckStatus → Type 0
EndsAs wanted st = (st ≡ wanted) ⊎ (st ≡ status.OutOfMemory)

-- lines were put behind a text, and of each frame as many as its note says that it dropped
pub record HasCounted (s : Scene) (text : List ℕ) (new : Option (List ℕ)) : Type 0 where
  pub lines : List Dropped
  pub put : new ≡ Some (text ++ flat_map dropped_line lines)
  pub many : (k : ℕ) (p : FramePlan) → slice_get (plans s) k ≡ Some p → length (filter (λ d. d.frame == k) lines) ≡ frame_dropped p

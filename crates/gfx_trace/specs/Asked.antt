-- What an input asks for: a scene, and the journal by which its items are drawn.
use Rattle.std.specs.Prelude.{ℕ, List, [], length, drop, Option, Some, None, Result, Ok, Err}
use Rattle.scene_model.specs.Scene.{Scene}
use Rattle.scene_model.specs.Grammar.{Fault, whole_language, scene_of, front_of}
use Rattle.scene_model.specs.Fold.{plans}
use Rattle.scene_model.specs.Journal.{Journal, fault_place, serial}
use Rattle.scene_model.specs.JournalText.{journal_of}

-- a scene and a lawful journal, the fault of the scene's text, or the place of the journal's first fault
pub data Asked : Type 0 where
  scene_by : Scene → Journal → Asked
  no_scene : Fault → Asked
  no_journal : (place : ℕ) → Asked

-- a journal that was read is taken where it has no fault
abbrev pub unless_fault : Scene → Journal → Option ℕ → Asked
unless_fault s j None = scene_by s j
unless_fault s j (Some place) = no_journal place

-- the journal's text is judged first, and the journal next
abbrev pub by_journal : Scene → Result Journal ℕ → Asked
by_journal s (Ok j) = unless_fault s j (fault_place (plans s) j)
by_journal s (Err place) = no_journal place

-- the journal's text follows the scene's
abbrev pub behind_front : List ℕ → Result (Scene × ℕ) Fault → Asked
behind_front bytes (Ok front) = by_journal front.0 (journal_of (drop front.1 bytes) (length front.0.frames))
behind_front bytes (Err fault) = no_scene fault

-- a scene alone is drawn by its journal of one thread
abbrev pub alone_or_front : List ℕ → Result Scene Fault → Asked
alone_or_front bytes (Ok s) = scene_by s (serial s)
alone_or_front bytes (Err fault) = behind_front bytes (front_of whole_language bytes)

-- what the bytes ask for: a scene alone, or one with a journal behind it
abbrev pub asked_of : List ℕ → Asked
asked_of bytes = alone_or_front bytes (scene_of whole_language bytes)

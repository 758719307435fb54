-- The histories of a load.
use Rattle.std.specs.Prelude.{◌≡◌, ℕ, List, Some}
use Rattle.gfx_model.specs.Resources.{opening}
use Rattle.gfx_model.specs.FrameCalls.{CallState, opened}
use Rattle.resource_book.specs.Written.{BookView}
use Rattle.gfx_context.specs.States.{no_book}
use Rattle.load_text.specs.Loads.{Block, lines_of}
use Rattle.res_lock.specs.Histories.{LockEntry, part_of, IsLegal}
use Rattle.load_running.specs.BlockCalls.{AreCallsOf}
use Rattle.load_running.specs.Notes.{notes_of}

-- a load begins without things, with 256 views, frame 0 and serial 1; one frame may be out
abbrev pub load_start : CallState
load_start = opened (opening 256 1 0 1)

-- nothing is written before its first call
abbrev pub load_book : BookView
load_book = record no_book { resources = load_start.resources }

-- a legal history in which the calls of each block stand once, in their order, and no others
pub record IsHistoryOf (blocks : List Block) (es : List LockEntry) : Type 0 where
  pub legal : IsLegal load_start es
  pub calls : (caller : ℕ) → AreCallsOf (lines_of caller blocks) (part_of caller es)

-- a text is the notes of such a history
pub record AreNotesOf (blocks : List Block) (text : List ℕ) : Type 0 where
  pub history : List LockEntry
  pub is_of : IsHistoryOf blocks history
  pub noted : notes_of history ≡ Some text

-- What the calls of a history write for the renderer.
use Rattle.std.specs.Prelude.{List, [], ◌∷◌, Option, Some, None}
use Rattle.gfx_model.specs.Words.{Handle}
use Rattle.resource_book.specs.Written.{BookView, after_in}
use Rattle.resource_book.specs.Works.{with_nothing_written}
use Rattle.gfx_context.specs.Ended.{started}
use Rattle.res_lock.specs.Histories.{LockCall, on_things, ends_frame, begins, Reply, made, done, given, begun, refused, ending, ended, LockEntry}

-- what is written behind an accepted call, and the handle that it made
abbrev pub written_by : LockCall → Option Handle → BookView → BookView
written_by (on_things call) handle b = after_in call handle b
written_by ends_frame handle b = b
written_by (begins room) handle b = b

-- what is written behind a call that was answered so; where its frame was given, the next one starts with nothing written, and where it was not, what was
-- written is given up
abbrev pub written_where : BookView → LockCall → Reply → BookView
written_where b call (made handle) = written_by call (Some handle) b
written_where b call done = written_by call None b
written_where b call (given number) = started b
written_where b call (begun number) = b
written_where b call (refused r) = b
written_where b call (ending number outcome) = with_nothing_written b
written_where b call (ended number) = b

-- what is written in the last frame behind a history, with the state of the calls without contents
abbrev pub book_after : BookView → List LockEntry → BookView
book_after b [] = b
book_after b (e ∷ es) = book_after (written_where b e.call e.reply) es

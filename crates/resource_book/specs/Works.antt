-- What the calls of a frame wrote, as it is taken for the renderer.
use Rattle.std.specs.Prelude.{ℕ, ◌≡◌, []}
use Rattle.cmd_buffer.specs.Payloads.{payloads_seen}
use Rattle.resource_book.specs.declared.frames.Work.{Work}
use Rattle.resource_book.specs.Written.{BookView}

-- the work is all that was written, and the views as they are
pub record IsWork (v : BookView) (w : Work) : Type 0 where
  pub views : w.views ≡ v.resources.views
  pub pre : w.pre ≡ v.pre
  pub post : w.post ≡ v.post
  pub payloads : payloads_seen w.payloads.items ≡ v.payloads

-- nothing is written, and the state of the calls is as it was
abbrev pub with_nothing_written : BookView → BookView
with_nothing_written v = record v { pre = []; post = []; payloads = [] }

-- how many bytes the destroys of all things take, with one more and the end
abbrev pub destroy_bytes : ℕ
destroy_bytes = 15109

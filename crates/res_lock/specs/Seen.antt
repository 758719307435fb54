-- The crate's types as the definitions see them.
use Rattle.std.specs.Prelude.{ℕ, List, map}
use Rattle.gfx_model.specs.Resources as model
use Rattle.fix_math.specs.Seen.{rect_seen, affine_seen}
use Rattle.gfx_words.specs.Seen.{room_seen, own_source_seen, refusal_number}
use Rattle.gfx_words.specs.Kinds.{format_seen, program_seen, uniform_seen, mode_seen}
use Rattle.res_lock.specs.Histories.{LockCall, on_things, ends_frame, begins, Reply, made, done, given, begun, refused, ending, ended, LockEntry}
use Rattle.res_lock.specs.declared.entry.ResCall.{ResCall}
use Rattle.res_lock.specs.declared.entry.ResCall.TheVariants as calls
use Rattle.res_lock.specs.declared.entry.ResReply.{ResReply}
use Rattle.res_lock.specs.declared.entry.ResReply.TheVariants as replies
use Rattle.res_lock.specs.declared.entry.Entry.{Entry}
use Rattle.res_lock.specs.declared.entry.LockRefusal.{LockRefusal}
use Rattle.res_lock.specs.declared.entry.LockRefusal.TheVariants as lock_refusals

-- a call with the same arguments
abbrev pub call_seen : ResCall → LockCall
call_seen (calls.CreateLayout layout) = on_things (model.create_layout layout)
call_seen (calls.CreateVertexBuffer layout bytes) = on_things (model.create_vertex_buffer layout bytes.items)
call_seen (calls.CreateIndexBuffer bytes) = on_things (model.create_index_buffer bytes.items)
call_seen (calls.CreateTexture width height format blit_dst source) = on_things (model.create_texture width height (format_seen format) blit_dst (own_source_seen source))
call_seen (calls.CreateFrameBuffer color depth) = on_things (model.create_frame_buffer color depth)
call_seen (calls.CreateProgram kind) = on_things (model.create_program (program_seen kind))
call_seen (calls.CreateUniform name kind) = on_things (model.create_uniform name.items (uniform_seen kind))
call_seen (calls.UpdateBuffer buffer offset bytes) = on_things (model.update_buffer buffer offset bytes.items)
call_seen (calls.UpdateTexture texture rect bytes) = on_things (model.update_texture texture (rect_seen rect) bytes.items)
call_seen (calls.Destroy thing) = on_things (model.destroy thing)
call_seen (calls.ViewRect view rect) = on_things (model.set_view_rect view (rect_seen rect))
call_seen (calls.ViewScissor view rect) = on_things (model.set_view_scissor view (rect_seen rect))
call_seen (calls.ViewClear view flags color depth stencil) = on_things (model.set_view_clear view (record { flags = flags; color = color; depth = depth; stencil = stencil }))
call_seen (calls.ViewMode view mode) = on_things (model.set_view_mode view (mode_seen mode))
call_seen (calls.ViewTransform view transform) = on_things (model.set_view_transform view (affine_seen transform))
call_seen (calls.ViewTarget view target) = on_things (model.set_view_target view target)
call_seen (calls.ViewOrder ids) = on_things (model.set_view_order ids.items)
call_seen (calls.ViewReset view) = on_things (model.reset_view view)
call_seen calls.Frame = ends_frame
call_seen (calls.Begin room) = begins (room_seen room)

-- a reply that tells the same
abbrev pub reply_seen : ResReply → Reply
reply_seen (replies.Made handle) = made handle
reply_seen replies.Unit = done
reply_seen (replies.Frame number) = given number
reply_seen (replies.Begun number) = begun number
reply_seen (replies.Refused refusal) = refused refusal
reply_seen (replies.Ending frame outcome) = ending frame outcome
reply_seen (replies.Ended frame) = ended frame

-- an entry of the same caller, ordinal, call and reply
abbrev pub entry_seen : Entry → LockEntry
entry_seen e = record { caller = e.caller; ordinal = e.ordinal; call = call_seen e.call; reply = reply_seen e.reply }

-- entries one by one
abbrev pub entries_seen : List Entry → List LockEntry
entries_seen es = map entry_seen es

-- the number that stands for a refusal
abbrev pub lock_refusal_number : LockRefusal → ℕ
lock_refusal_number (lock_refusals.Refused r) = refusal_number r
lock_refusal_number (lock_refusals.Ended frame) = 18

-- The crate's types as the definitions see them.
use Rattle.std.specs.Prelude.{ℕ, ◌≡◌, Option, Some, None, Result, Err, MatchOption}
use Rattle.gfx_model.specs.Resources as model
use Rattle.gfx_model.specs.Recorder as recorder
use Rattle.gfx_model.specs.Frames as frames
use Rattle.gfx_words.specs.declared.rooms.Room.{Room}
use Rattle.gfx_words.specs.declared.sources.TexSource.{TexSource}
use Rattle.gfx_words.specs.declared.sources.TexSource.TheVariants as sources
use Rattle.gfx_words.specs.declared.journal.JournalEntry.{JournalEntry}
use Rattle.gfx_words.specs.declared.refusals.Refusal.{Refusal}
use Rattle.gfx_words.specs.declared.refusals.Refusal.TheVariants as refusals
pub use Rattle.gfx_words.specs.Kinds.{kind_seen, format_seen, program_seen, uniform_seen, value_seen, mode_seen, info_seen}

-- a room with as many items, bytes and uniform values
abbrev pub room_seen : Room → recorder.Room
room_seen r = record { items = r.items; bytes = r.bytes; uniforms = r.uniforms }

-- what a texture is made from
abbrev pub own_source_seen : TexSource → model.TexelSource
own_source_seen (sources.Fill color) = model.fill_source color
own_source_seen (sources.Bytes bytes) = model.bytes_source bytes.items

-- an entry of the same encoder and ordinal
abbrev pub entry_seen : JournalEntry → frames.Entry
entry_seen e = record { encoder = e.encoder; ordinal = e.ordinal }

-- the refusal of the definitions; want of memory is none of theirs
abbrev pub refusal_seen : Refusal → Option model.Refusal
refusal_seen refusals.Full = Some model.full
refusal_seen (refusals.Stale word) = Some (model.stale word)
refusal_seen refusals.BadRange = Some model.bad_range
refusal_seen refusals.BadSize = Some model.bad_size
refusal_seen refusals.NotBlitDst = Some model.not_blit_destination
refusal_seen refusals.WrongKind = Some model.wrong_kind
refusal_seen (refusals.Attached holder) = Some (model.attached holder)
refusal_seen refusals.RoomFull = Some model.room_full
refusal_seen refusals.BytesFull = Some model.bytes_full
refusal_seen refusals.BadView = Some model.bad_view
refusal_seen refusals.NoEncoder = Some model.no_encoder
refusal_seen refusals.SerialsSpent = Some model.serials_spent
refusal_seen refusals.FramesSpent = Some model.frames_spent
refusal_seen refusals.TexelsFull = Some model.texels_full
refusal_seen refusals.BadState = Some model.bad_state
refusal_seen refusals.OutOfMemory = None

-- the number that stands for a refusal
abbrev pub refusal_number : Refusal → ℕ
refusal_number refusals.Full = 1
refusal_number (refusals.Stale word) = 2
refusal_number refusals.BadRange = 3
refusal_number refusals.BadSize = 4
refusal_number refusals.NotBlitDst = 5
refusal_number refusals.WrongKind = 6
refusal_number (refusals.Attached holder) = 7
refusal_number refusals.RoomFull = 8
refusal_number refusals.BytesFull = 9
refusal_number refusals.BadView = 10
refusal_number refusals.NoEncoder = 11
refusal_number refusals.SerialsSpent = 12
refusal_number refusals.FramesSpent = 13
refusal_number refusals.TexelsFull = 14
refusal_number refusals.BadState = 16
refusal_number refusals.OutOfMemory = 17

-- a call of the definitions is refused as the code says; a call that takes no memory never answers want of memory
abbrev pub IsRefused : {A : Type 0} → Result A model.Refusal → Refusal → Type 0
IsRefused answer r = MatchOption (refusal_seen r) ⊥ (λ x. answer ≡ Err x)

-- the first refusal of a list of tests is the code's
abbrev pub IsFirstRefusal : Option model.Refusal → Refusal → Type 0
IsFirstRefusal first r = MatchOption (refusal_seen r) ⊥ (λ x. first ≡ Some x)

-- The code's reasons.
use Rattle.std.specs.Prelude.{◌≡◌, ℕ, List, MatchOption, codes}
use Rattle.gfx_model.specs.Resources as model
use Rattle.gfx_words.specs.declared.refusals.Refusal as words
use Rattle.gfx_words.specs.Seen.{refusal_seen}
use Rattle.dropped_lines.specs.Reasons as drops
use Rattle.scene_lines.specs.declared.reasons.Reason.{Reason}
use Rattle.scene_lines.specs.declared.reasons.Reason.TheVariants as reasons

-- the reason that the code tells of a refusal
abbrev pub told_refusal : model.Refusal → Reason
told_refusal model.full = reasons.Full
told_refusal (model.stale word) = reasons.Stale
told_refusal model.bad_range = reasons.BadRange
told_refusal model.bad_size = reasons.BadSize
told_refusal model.not_blit_destination = reasons.NotBlitDst
told_refusal model.wrong_kind = reasons.WrongKind
told_refusal (model.attached holder) = reasons.Attached
told_refusal model.room_full = reasons.RoomFull
told_refusal model.bytes_full = reasons.BytesFull
told_refusal model.bad_view = reasons.BadView
told_refusal model.no_encoder = reasons.NoEncoder
told_refusal model.serials_spent = reasons.SerialsSpent
told_refusal model.frames_spent = reasons.FramesSpent
told_refusal model.texels_full = reasons.TexelsFull
told_refusal model.bad_state = reasons.BadState

-- the reason that the code tells of a reason
abbrev pub told : drops.Reason → Reason
told drops.unnamed = reasons.Unnamed
told drops.no_layout = reasons.NoLayout
told (drops.refused r) = told_refusal r

-- the code's refusal is one of the definitions, of which it tells the reason
abbrev pub IsTold : words.Refusal → Reason → Type 0
IsTold refusal r = MatchOption (refusal_seen refusal) ⊥ (λ x. r ≡ told_refusal x)

-- the word of a reason
abbrev pub word_of : Reason → List ℕ
word_of reasons.Unnamed = codes "Unnamed"
word_of reasons.NoLayout = codes "NoLayout"
word_of reasons.Full = codes "Full"
word_of reasons.Stale = codes "Stale"
word_of reasons.BadRange = codes "BadRange"
word_of reasons.BadSize = codes "BadSize"
word_of reasons.NotBlitDst = codes "NotBlitDst"
word_of reasons.WrongKind = codes "WrongKind"
word_of reasons.Attached = codes "Attached"
word_of reasons.RoomFull = codes "RoomFull"
word_of reasons.BytesFull = codes "BytesFull"
word_of reasons.BadView = codes "BadView"
word_of reasons.NoEncoder = codes "NoEncoder"
word_of reasons.SerialsSpent = codes "SerialsSpent"
word_of reasons.FramesSpent = codes "FramesSpent"
word_of reasons.TexelsFull = codes "TexelsFull"
word_of reasons.BadState = codes "BadState"

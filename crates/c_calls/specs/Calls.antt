-- How the calls of a context and of an encoder are answered.
use Rattle.std.specs.Prelude.{◌≡◌, ℕ, ◌+◌, ◌*◌, ◌⊎◌, ◌&&◌, nat_le, not, Bool, true, false, List, [], replicate, length, slice_set, Option, Some, None, Result, Ok, Err, MatchResult, MatchOption, ⊤}
use Rattle.gfx_model.specs.Words.{Handle, Format}
use Rattle.gfx_model.specs.World.{first_world}
use Rattle.gfx_model.specs.Recorder.{EncoderCall, Room}
use Rattle.gfx_model.specs.Resources as model
use Rattle.gfx_model.specs.Resources.{ResourceCall, create_layout, create_texture, bytes_source, is_size, source_fits}
use Rattle.gfx_model.specs.Vertex.{LayoutPart, layout_of_parts}
use Rattle.gfx_model.specs.FrameCalls.{begin_encoder, frame_refusal}
use Rattle.gfx_words.specs.declared.refusals.Refusal.{Refusal}
use Rattle.gfx_words.specs.declared.refusals.Refusal.TheVariants as refusals
use Rattle.gfx_words.specs.Names.{handle_word}
use Rattle.gfx_words.specs.Seen.{refusal_seen}
use Rattle.hold_table.specs.Views.{SeatView}
use Rattle.draw_encoder.specs.Calls.{Answers, Discards, RecorderView}
use Rattle.draw_encoder.specs.declared.items.Recording.{Recording}
use Rattle.resource_book.specs.Answered.{IsFirstRefusalOrOutOfMemory}
use Rattle.context_core.specs.Calls.{Creates, Updates, Changes, Destroys, Begins}
use Rattle.context_core.specs.Ended as cores
use Rattle.context_core.specs.States.{CoreView, own, opened_core, state_of}
use Rattle.render_core.specs.Rendered.{Rendering}
use Rattle.store_laws.specs.ByIndex.{first_stores}
use Rattle.c_words.specs.declared.faults.Fault.{Fault}
use Rattle.c_words.specs.declared.faults.Fault.TheVariants as faults
use Rattle.c_words.specs.Statuses.{told_of}
use Rattle.c_words.specs.Things.{row_of_word, named, named_or_none}
use Rattle.c_calls.specs.declared.standing.Standing.TheVariants.{Open}
use Rattle.c_calls.specs.Standings.{is_open}
use Rattle.c_calls.specs.Views.{ContextView, EncoderView}

-- ---- a context begins

-- a renderer that has drawn nothing, on a picture of these sides
abbrev pub first_rendering : (width height : ℕ) → Rendering
first_rendering width height = record {
  stores = first_stores (first_world width height).back;
  outcomes = [];
  held = Some [];
  tally = None;
  faults = 0;
  sure = Some (3 * (width * height) + 17);
}

-- whether a picture can have a side of so many pixels
abbrev pub is_side : ℕ → Bool
is_side n = nat_le 1 n && nat_le n 2048

-- nothing is made, begun or drawn
pub record IsOpened (width height : ℕ) (c : ContextView) : Type 0 where
  pub sides : is_side width && is_side height ≡ true
  pub state : c.core.state ≡ opened_core (record { frame = 0; serial = 1; views = 512; latency = 1 })
  pub rows : c.rows ≡ replicate 7168 None
  pub renderer : c.renderer ≡ first_rendering width height
  pub standing : c.standing ≡ Open
  pub most : c.most ≡ 3 * (width * height) + 17

-- why a context is not made: a side is none; or memory is wanting, which may come before
abbrev pub IsNotOpened : Fault → (width height : ℕ) → Type 0
IsNotOpened (faults.Refused refusals.BadSize) width height = is_side width && is_side height ≡ false
IsNotOpened (faults.Refused refusals.OutOfMemory) width height = ⊤
IsNotOpened _ width height = ⊥

-- a context is made, or not
abbrev pub OpensHere : Result ContextView Fault → (width height : ℕ) → Type 0
OpensHere result width height = MatchResult result (IsOpened width height) (λ f. IsNotOpened f width height)

-- no encoder begins and no frame ends any more
abbrev pub is_over : ContextView → Bool
is_over c = not (is_open c.standing)

-- ---- calls on things and views

-- the handles after a create
abbrev pub given : Result Handle Refusal → CoreView → ContextView → ContextView
given (Ok h) core old = record old { core = core; rows = slice_set old.rows (row_of_word (handle_word h)) (Some h) }
given (Err r) core old = record old { core = core }

-- a create is the core's, and its handle is kept for its place
abbrev pub CreatesHere : Result Handle Fault → ResourceCall → (old new : ContextView) → Type 0
CreatesHere result call old new = (r : Result Handle Refusal) × (result ≡ told_of r) × Creates own r call old.core new.core × (new ≡ given r new.core old)

-- an update is the core's
abbrev pub UpdatesHere : Result (Unit {0}) Fault → ResourceCall → (old new : ContextView) → Type 0
UpdatesHere result call old new = (r : Result (Unit {0}) Refusal) × (result ≡ told_of r) × Updates own r call old.core new.core × (new ≡ record old { core = new.core })

-- a setting of a view is the core's
abbrev pub ChangesHere : Result (Unit {0}) Fault → ResourceCall → (old new : ContextView) → Type 0
ChangesHere result call old new = (r : Result (Unit {0}) Refusal) × (result ≡ told_of r) × Changes own r call old.core new.core × (new ≡ record old { core = new.core })

-- a destroy is the core's
abbrev pub DestroysHere : Result (Unit {0}) Fault → Handle → (old new : ContextView) → Type 0
DestroysHere result h old new = (r : Result (Unit {0}) Refusal) × (result ≡ told_of r) × Destroys own r h old.core new.core × (new ≡ record old { core = new.core })

-- a call on the thing that a word names is that of the handle that was given for it; where none was, it answers so and changes nothing
abbrev pub OnThing : {X V : Type 0} → List (Option Handle) → ℕ → Result X Fault → (old new : V) → (Handle → Type 0) → Type 0
OnThing rows word result old new says = MatchOption (named rows word) ((result ≡ Err faults.Unknown) × (new ≡ old)) says

-- the same where 0 names none
abbrev pub OnMaybe : {X V : Type 0} → List (Option Handle) → ℕ → Result X Fault → (old new : V) → (Option Handle → Type 0) → Type 0
OnMaybe rows word result old new says = MatchOption (named_or_none rows word) ((result ≡ Err faults.Unknown) × (new ≡ old)) says

-- whether a texture can have these sides and these bytes
abbrev pub fits_texture : (width height : ℕ) → List ℕ → Bool
fits_texture width height bytes = is_size width && is_size height && source_fits width height (bytes_source bytes)

-- a create of a texture of bytes, which are copied: where its sides and its bytes fit, memory may be wanting for the copy
abbrev pub CreatesTexture : Result Handle Fault → (width height : ℕ) → Format → Bool → List ℕ → (old new : ContextView) → Type 0
CreatesTexture result width height format blit_destination bytes old new =
    CreatesHere result (create_texture width height format blit_destination (bytes_source bytes)) old new
    ⊎ ((fits_texture width height bytes ≡ true) × (result ≡ Err (faults.Refused refusals.OutOfMemory)) × (new ≡ old))

-- a create of the layout that parts make, or why they make none
abbrev pub MakesLayout : Option (List LayoutPart) → Result Handle Fault → (old new : ContextView) → Type 0
MakesLayout None result old new = (result ≡ Err faults.BadValue) × (new ≡ old)
MakesLayout (Some parts) result old new =
    MatchOption (layout_of_parts parts)
    ((result ≡ Err (faults.Refused refusals.BadSize)) × (new ≡ old))
    (λ layout. CreatesHere result (create_layout layout) old new)

-- ---- calls of an encoder

-- a record call is the recorder's
abbrev pub Records : Result (Unit {0}) Fault → EncoderCall → (old new : EncoderView) → Type 0
Records result call old new = (r : Result (Unit {0}) Refusal) × (result ≡ told_of r) × Answers old.recorder.state new.recorder.state call r × (new ≡ record old { recorder = record old.recorder { state = new.recorder.state } })

-- the parts of the state for the next draw that flags name are as at the begin
abbrev pub DiscardsHere : Result (Unit {0}) Fault → (flags : ℕ) → (old new : EncoderView) → Type 0
DiscardsHere result flags old new = (result ≡ Ok (tt {0})) × Discards old.recorder.state new.recorder.state flags × (new ≡ record old { recorder = record old.recorder { state = new.recorder.state } })

-- ---- encoders begin and come back

-- a begin of a recorder is the core's, of a frame with 512 views
abbrev pub BeginsRecorder : Result RecorderView Refusal → Room → (old new : ContextView) → Type 0
BeginsRecorder result room old new =
    MatchResult result
    (λ r. Begins own room r.state old.core new.core × (r.table ≡ old.core.table) × (r.state.recorder.view_count ≡ 512) × (new ≡ record old { core = new.core }))
    (λ e. IsFirstRefusalOrOutOfMemory (frame_refusal (state_of old.core.state) (begin_encoder room)) e × (new ≡ old))

-- a begin of an encoder, which knows these handles
abbrev pub BeginsEncoder : Result EncoderView Refusal → List (Option Handle) → Room → (old new : ContextView) → Type 0
BeginsEncoder result rows room old new =
    MatchResult result
    (λ e. Begins own room e.recorder.state old.core new.core × (e.recorder.table ≡ old.core.table) × (e.rows ≡ rows) × (new ≡ record old { core = new.core }))
    (λ r. IsFirstRefusalOrOutOfMemory (frame_refusal (state_of old.core.state) (begin_encoder room)) r × (new ≡ old))

-- the first refusal of the core's tests, or want of memory, which may come before them
abbrev pub IsFirstRefusalOrWant : Option model.Refusal → Refusal → Type 0
IsFirstRefusalOrWant first r = MatchOption (refusal_seen r) ⊤ (λ x. first ≡ Some x)

-- why none begins: the context is over; or the core refuses
abbrev pub IsNotBegun : Fault → Room → ContextView → Type 0
IsNotBegun faults.Ended room old = is_over old ≡ true
IsNotBegun (faults.Refused r) room old = (is_over old ≡ false) × IsFirstRefusalOrWant (frame_refusal (state_of old.core.state) (begin_encoder room)) r
IsNotBegun _ room old = ⊥

-- a begin is the core's, and the encoder knows the handles that were given before
abbrev pub BeginsHere : Result EncoderView Fault → Room → (old new : ContextView) → Type 0
BeginsHere result room old new =
    MatchResult result
    (λ e. (is_over old ≡ false) × Begins own room e.recorder.state old.core new.core × (e.recorder.table ≡ old.core.table) × (e.rows ≡ old.rows) × (new ≡ record old { core = new.core }))
    (λ f. IsNotBegun f room old × (new ≡ old))

-- what has come is gathered by the core, one recording after another, each with its seat
pub data Gathers (old : CoreView) : CoreView → Type 0 where
  gathers_none : Gathers old old
  gathers_more : {mid new : CoreView} (r : Recording) (seat : SeatView) → Gathers old mid → cores.Gathers r seat mid new → Gathers old new

-- what has come is gathered, and the answer is how many have not come
abbrev pub Collects : ℕ → (old new : ContextView) → Type 0
Collects off old new = Gathers old.core new.core × (off ≡ length new.core.state.seat.off) × (new ≡ record old { core = new.core })

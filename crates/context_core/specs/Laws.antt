-- What the frames of a context have that is asked of a frame where it is drawn.
use Rattle.std.specs.Prelude.{◌≡◌, ℕ, ◌<◌, ◌==◌, List, Option, Some, None, IfSome, IsTrue, ⊤}
use Rattle.std.specs.List.{AllByRecursion, find}
use Rattle.gfx_model.specs.Words.{Handle, texture_kind, is_kind, greatest}
use Rattle.gfx_model.specs.World.{Item, Content, frame_buffer_content}
use Rattle.gfx_model.specs.Views.{View}
use Rattle.schedule_model.specs.Machine.{Place}
use Rattle.gfx_model.specs.Resources.{Thing, Resources, is_at}
use Rattle.resource_laws.specs.Bare.{bare_of}
use Rattle.resource_laws.specs.Lawful.{IsLawful}
use Rattle.call_laws.specs.Context.{HasItem, HasTargets}
use Rattle.draw_encoder.specs.declared.items.Recording.{Recording}
use Rattle.draw_encoder.specs.Names.{FitsItem}
use Rattle.context_core.specs.Places.{IsUsable, Stays}
use Rattle.context_core.specs.Gathered.{anything, AreCollected}
use Rattle.hold_table.specs.Views.{SeatView}
use Rattle.context_core.specs.Kept.{IsTied, AreTargets}

-- a handle as the context gave it: the thing at its place with its serial has this very handle
abbrev pub IsOwn : Resources → Handle → Type 0
IsOwn r h = (h.index < greatest h.kind) × ((t : Thing) → find (is_at h.kind h.index) r.things ≡ Some t → t.handle.serial ≡ h.serial → t.handle ≡ h)

-- what encoders recorded in the frame names things that live or die in it, where its handles are ones that the context gave. The state is the
-- definition's with contents
abbrev pub ItemsLaw : Type 0
ItemsLaw = (views : ℕ) (seat : SeatView) (r : Resources) → IsTied (bare_of r) seat → IsLawful r → (items : List Item)
    → AllByRecursion (FitsItem (IsUsable seat.frame seat.places) views) items → AllByRecursion (FitsItem (IsOwn r) views) items → AllByRecursion (HasItem r) items

-- the same of a view's target
abbrev pub OwnTarget : Resources → Option Handle → Type 0
OwnTarget r None = ⊤
OwnTarget r (Some h) = IsOwn r h

-- the targets of the frame's views are frame buffers that live or die in it, where their handles are ones that the context gave
abbrev pub TargetsLaw : Type 0
TargetsLaw = (seat : SeatView) (r : Resources) → IsTied (bare_of r) seat → IsLawful r → AreTargets seat.frame seat.places r.views.settings
    → AllByRecursion (λ view. OwnTarget r view.target) r.views.settings → HasTargets r r.views

-- a thing is the texture of a serial, and can be named in a frame
pub record IsUsableTexture (frame : ℕ) (places : List Place) (things : List Thing) (serial : ℕ) (t : Thing) : Type 0 where
  pub found : find (λ u. u.handle.serial == serial) things ≡ Some t
  pub kind : IsTrue (is_kind t.handle.kind texture_kind)
  pub usable : IsUsable frame places t.handle

-- the texture of a serial can be named in a frame
abbrev pub HasUsableTexture : ℕ → List Place → List Thing → ℕ → Type 0
HasUsableTexture frame places things serial = (t : Thing) × IsUsableTexture frame places things serial t

-- the textures that a content holds can be named in a frame
abbrev pub HoldsUsable : ℕ → List Place → List Thing → Content → Type 0
HoldsUsable frame places things (frame_buffer_content color depth) = HasUsableTexture frame places things color × IfSome depth (HasUsableTexture frame places things)
HoldsUsable frame places things _ = ⊤

-- in each frame in which a frame buffer can be named, its textures can be named too: so the textures of the targets of a frame that is out
-- are in their places, where the targets are
abbrev pub AttachedLaw : Type 0
AttachedLaw = (seat : SeatView) (r : Resources) → IsTied (bare_of r) seat → IsLawful r → (frame : ℕ) (h : Handle) (t : Thing) → find (is_at h.kind h.index) r.things ≡ Some t
    → IsUsable frame seat.places h → HoldsUsable frame seat.places r.things t.content

-- where what could be named in a frame can be named still, recordings of the frame were collected so still, and the targets of its views are so still: so
-- whoever keeps frames that are out keeps what they name, by the clause `stays` of each call. What an encoder admitted hangs on no place
abbrev pub StaysLaw : Type 0
StaysLaw = (views frame : ℕ) (old new : List Place) → Stays frame old new
    → ((rs : List Recording) → AreCollected anything views frame old rs → AreCollected anything views frame new rs) × ((vs : List View) → AreTargets frame old vs → AreTargets frame new vs)

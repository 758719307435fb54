-- Laws of the state of the calls.
use Rattle.std.specs.Prelude.{◌≡◌, ℕ, ◌+◌, ◌<◌, ◌≤◌, true, nat_lt, length, if◌then◌else◌, List, [], ◌∷◌, ◌++◌, map, filter, Some, None, MatchOption}
use Rattle.std.specs.List.{find}
use Rattle.gfx_model.specs.Words.{Kind, all_kinds, greatest, Handle, is_kind}
use Rattle.gfx_model.specs.Resources.{Thing, Resources, ResourceCall, create_uniform, destroy, named_uniform, Effect, effect, refusal_of, opening, start_frame, is_at, is_live_handle, references_of, book_of, greatest_serial}
use Rattle.resource_laws.specs.Bare.{bare_of}
use Rattle.resource_laws.specs.Lawful.{IsLawful}

-- ---- contents are not read

-- two effects differ in contents of the state alone
pub record IsSameEffect (e f : Effect) : Type 0 where
  pub made : e.made ≡ f.made
  pub changes : e.changes ≡ f.changes
  pub after : bare_of e.after ≡ bare_of f.after

-- without contents each call is refused for the same, and does the same but for contents
abbrev pub BareLaw : Type 0
BareLaw = (r : Resources) (c : ResourceCall) → (refusal_of (bare_of r) c ≡ refusal_of r c) × IsSameEffect (effect (bare_of r) c) (effect r c)

-- the start of a frame does the same without contents
abbrev pub BareStartLaw : Type 0
BareStartLaw = (r : Resources) (frame : ℕ) → start_frame frame (bare_of r) ≡ bare_of (start_frame frame r)

-- ---- what every run keeps

-- the states that accepted calls and starts of frames lead to
pub data IsReached : Resources → Type 0 where
  opened : (views latency frame serial : ℕ) → serial ≤ greatest_serial + 1 → IsReached (opening views latency frame serial)
  called : {r : Resources} (c : ResourceCall) → IsReached r → refusal_of r c ≡ None → IsReached (effect r c).after
  started : {r : Resources} (frame : ℕ) → IsReached r → r.frame ≤ frame → IsReached (start_frame frame r)

-- an opening state is lawful
abbrev pub OpeningLaw : Type 0
OpeningLaw = (views latency frame serial : ℕ) → serial ≤ greatest_serial + 1 → IsLawful (opening views latency frame serial)

-- an accepted call keeps the state lawful
abbrev pub CallLaw : Type 0
CallLaw = (r : Resources) (c : ResourceCall) → IsLawful r → refusal_of r c ≡ None → IsLawful (effect r c).after

-- the start of a frame keeps the state lawful
abbrev pub StartLaw : Type 0
StartLaw = (r : Resources) (frame : ℕ) → IsLawful r → r.frame ≤ frame → IsLawful (start_frame frame r)

-- every state that a run reaches is lawful, with its contents and without
abbrev pub ReachedLaw : Type 0
ReachedLaw = (r : Resources) → IsReached r → IsLawful r × IsLawful (bare_of r)

-- ---- what a lawful state tells of handles

-- where a handle is accepted as live, the thing at its place has its serial and lives
abbrev pub LiveLaw : Type 0
LiveLaw = (r : Resources) (h : Handle) → IsLawful r → is_live_handle r h ≡ true
    → (t : Thing) × (find (is_at h.kind h.index) r.things ≡ Some t) × (t.handle.serial ≡ h.serial) × (t.death ≡ None)

-- ---- where a lawful state puts what is made

-- the handle's index is one of its kind, and no thing stands at its place
abbrev pub IsFree : Resources → Handle → Type 0
IsFree r h = (h.index < greatest h.kind) × (find (is_at h.kind h.index) r.things ≡ None)

-- a call gives a handle of a free place; or, for a name that a live uniform has, that uniform's handle
abbrev pub Gives : Resources → ResourceCall → Handle → Type 0
Gives r (create_uniform name k) h = MatchOption (named_uniform r name) (IsFree r h) (λ t. h ≡ t.handle)
Gives r c h = IsFree r h

-- what an accepted call gives stands at a free place
abbrev pub FreeLaw : Type 0
FreeLaw = (r : Resources) (c : ResourceCall) (h : Handle) → IsLawful r → refusal_of r c ≡ None → (effect r c).made ≡ Some h → Gives r c h

-- ---- the order of destroys

-- the handle of what an accepted call lets die
abbrev pub dead_by : Resources → ResourceCall → List Handle
dead_by r (destroy h) = if nat_lt 1 (references_of (find (is_at h.kind h.index) r.things)) then [] else h ∷ []
dead_by r _ = []

-- the handles of what accepted calls let die, in the order of the calls
abbrev pub dead_by_all : Resources → List ResourceCall → List Handle
dead_by_all r [] = []
dead_by_all r (c ∷ cs) = dead_by r c ++ dead_by_all (effect r c).after cs

-- the state after calls
abbrev pub after_all : Resources → List ResourceCall → Resources
after_all r [] = r
after_all r (c ∷ cs) = after_all (effect r c).after cs

-- calls add to the waiting indices of a kind those of its things that died, in the order of the calls;
-- in that order the indices go back on the stack at the start of a frame
abbrev pub DestroyOrderLaw : Type 0
DestroyOrderLaw = (r : Resources) (cs : List ResourceCall) (k : Kind) → length r.books ≡ length all_kinds
    → (book_of (after_all r cs) k).waiting ≡ (book_of r k).waiting ++ map (λ h. (h.index, r.frame)) (filter (λ h. is_kind h.kind k) (dead_by_all r cs))

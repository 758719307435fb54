-- How the calls are answered.
use Rattle.std.specs.Prelude.{◌≡◌, Bool, List, Option, Some, None, Result, MatchResult, MatchOption, not, nat_lt}
use Rattle.std.specs.List.{find}
use Rattle.gfx_model.specs.Resources.{Thing, Resources, ResourceCall, destroy, references_of, is_at, refusal_of, effect}
use Rattle.gfx_model.specs.Resources as model
use Rattle.gfx_model.specs.Words.{Handle}
use Rattle.gfx_words.specs.declared.refusals.Refusal.{Refusal}
use Rattle.gfx_words.specs.Seen.{refusal_seen, IsFirstRefusal}
use Rattle.resource_book.specs.Written.{BookView, after_in}

-- the first refusal of a list of tests is the code's; memory is wanting only where no test refuses
abbrev pub IsFirstRefusalOrOutOfMemory : Option model.Refusal → Refusal → Type 0
IsFirstRefusalOrOutOfMemory first r = MatchOption (refusal_seen r) (first ≡ None) (λ x. first ≡ Some x)

-- a create gives the definition's handle, and its effect without contents; a refused one changes nothing
abbrev pub Creates : Result Handle Refusal → ResourceCall → (old new : BookView) → Type 0
Creates result call old new =
    MatchResult result
    (λ h. (refusal_of old.resources call ≡ None) × ((effect old.resources call).made ≡ Some h) × (new ≡ after_in call (Some h) old))
    (λ r. IsFirstRefusalOrOutOfMemory (refusal_of old.resources call) r × (new ≡ old))

-- an update has the definition's effect; a refused one changes nothing
abbrev pub Updates : Result (Unit {0}) Refusal → ResourceCall → (old new : BookView) → Type 0
Updates result call old new =
    MatchResult result
    (λ _. (refusal_of old.resources call ≡ None) × (new ≡ after_in call None old))
    (λ r. IsFirstRefusalOrOutOfMemory (refusal_of old.resources call) r × (new ≡ old))

-- the same of a call that takes no memory, and so is refused exactly where the definition says
abbrev pub Changes : Result (Unit {0}) Refusal → ResourceCall → (old new : BookView) → Type 0
Changes result call old new =
    MatchResult result
    (λ _. (refusal_of old.resources call ≡ None) × (new ≡ after_in call None old))
    (λ r. IsFirstRefusal (refusal_of old.resources call) r × (new ≡ old))

-- a destroy takes no memory either, and tells whether the thing died
abbrev pub Destroys : Result Bool Refusal → Handle → (old new : BookView) → Type 0
Destroys result h old new =
    MatchResult result
    (λ died. (refusal_of old.resources (destroy h) ≡ None) × (died ≡ not (nat_lt 1 (references_of (find (is_at h.kind h.index) old.resources.things)))) × (new ≡ after_in (destroy h) None old))
    (λ r. IsFirstRefusal (refusal_of old.resources (destroy h)) r × (new ≡ old))

-- a thing is the live one of a handle
pub record HasLiveThing (h : Handle) (things : List Thing) (t : Thing) : Type 0 where
  pub found : find (is_at h.kind h.index) things ≡ Some t
  pub serial : t.handle.serial ≡ h.serial
  pub lives : t.death ≡ None

-- the handle's thing is live
abbrev pub HasLive : Handle → BookView → Type 0
HasLive h v = (t : Thing) × HasLiveThing h v.resources.things t

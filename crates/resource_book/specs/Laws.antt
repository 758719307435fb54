-- How the book stands to what the calls of a frame wrote, and to a world.
use Rattle.std.specs.Prelude.{◌≡◌, ℕ, List, None}
use Rattle.gfx_model.specs.Views.{view_count}
use Rattle.gfx_model.specs.World.{Content}
use Rattle.gfx_model.specs.Resources.{Resources, ResourceCall, refusal_of, effect}
use Rattle.call_laws.specs.Calls.{Written, after_call, Ties, GivesPlace, GivesFree}
use Rattle.resource_laws.specs.Bare.{bare_of}
use Rattle.resource_laws.specs.Lawful.{IsLawful}
use Rattle.resource_book.specs.Written.{BookView, after_in}

-- what calls wrote, without contents
abbrev pub bared : Written → BookView
bared v = record { resources = bare_of v.resources; pre = v.pre; post = v.post; payloads = v.payloads }

-- an accepted call more is the same with contents and without
abbrev pub WrittenLaw : Type 0
WrittenLaw = (v : Written) (call : ResourceCall) → bared (after_call v call) ≡ after_in call (effect v.resources call).made (bared v)

-- in a lawful state what a call makes has a free place among the things of the world that the state stands for
abbrev pub PlaceLaw : Type 0
PlaceLaw = (place : ℕ → ℕ) (r : Resources) (call : ResourceCall) (things : List (ℕ × Content)) → IsLawful r → Ties place r things → refusal_of r call ≡ None → GivesPlace place r call → GivesFree place r call things

-- no call changes how many views there are, how many frames may be out, or the number of the frame
abbrev pub SameLaw : Type 0
SameLaw = (r : Resources) (call : ResourceCall) → (view_count (effect r call).after.views ≡ view_count r.views) × ((effect r call).after.latency ≡ r.latency) × ((effect r call).after.frame ≡ r.frame)

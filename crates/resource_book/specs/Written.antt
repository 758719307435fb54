-- What the calls write for the renderer.
use Rattle.std.specs.Prelude.{ℕ, List, [], ◌∷◌, ◌++◌, length, Option}
use Rattle.gfx_model.specs.Words.{Handle}
use Rattle.gfx_model.specs.Commands.{Command}
use Rattle.gfx_model.specs.Resources.{Resources, ResourceCall, effect}
pub use Rattle.call_laws.specs.Calls.{flag_number, source_number, source_value, depth_word, written, source_payload, payload_for, where_changed, destroys_of}
use Rattle.resource_laws.specs.Bare.{bare_of}

-- the state of the calls without contents, and what they wrote in this frame
pub record BookView : Type 0 where
  pub resources : Resources
  pub pre : List Command
  pub post : List Command
  pub payloads : List (List ℕ)

-- more behind a list; nothing more leaves it as it is
abbrev pub add_all : {A : Type 0} → List A → List A → List A
add_all xs [] = xs
add_all xs (y ∷ ys) = xs ++ y ∷ ys

-- an accepted call more, and the handle that it made
abbrev pub after_in : ResourceCall → Option Handle → BookView → BookView
after_in call made v = record {
  resources = bare_of (effect v.resources call).after;
  pre = add_all v.pre (where_changed (effect v.resources call).changes (written call made (length v.payloads)));
  post = add_all v.post (destroys_of v.resources call);
  payloads = add_all v.payloads (where_changed (effect v.resources call).changes (payload_for call));
}

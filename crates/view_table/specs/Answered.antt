-- How calls on views are answered.
use Rattle.std.specs.Prelude.{ℕ, ◌≡◌, Bool, List, [], ◌∷◌, Option, None, Result, MatchResult}
use Rattle.gfx_model.specs.Resources.{Resources, ResourceCall, first_refusal, refusals, effect}
use Rattle.gfx_model.specs.Resources as model
use Rattle.gfx_model.specs.Views.{Views, set_view}
use Rattle.gfx_model.specs.Words.{Handle}
use Rattle.gfx_words.specs.declared.refusals.Refusal.{Refusal}
use Rattle.gfx_words.specs.Seen.{IsFirstRefusal}

-- the first test that holds refuses the call, and the views stay; where none holds they are changed
abbrev pub IsAnswered : Result (Unit {0}) Refusal → List (Bool × model.Refusal) → (old new changed : Views) → Type 0
IsAnswered result tests old new changed =
    MatchResult result
    (λ _. (first_refusal tests ≡ None) × (new ≡ changed))
    (λ r. IsFirstRefusal (first_refusal tests) r × (new ≡ old))

-- the state of the calls where there is nothing but views
abbrev pub views_alone : Views → Resources
views_alone vs = record { latency = 1; frame = 0; books = []; things = []; next_serial = 1; views = vs }

-- a call on views is answered as the definitions answer it
abbrev pub AnswersCall : Result (Unit {0}) Refusal → ResourceCall → (old new : Views) → Type 0
AnswersCall result call old new = IsAnswered result (refusals (views_alone old) call) old new (effect (views_alone old) call).after.views

-- a target is set wherever there is such a view; what the handle names is not asked here
abbrev pub AnswersTarget : Result (Unit {0}) Refusal → ℕ → Option Handle → (old new : Views) → Type 0
AnswersTarget result view target old new =
    IsAnswered result (model.is_no_view (views_alone old) view ∷ []) old new (set_view old view (λ v. record v { target = target }))

-- What its core answers, a context answers.
use Rattle.std.proofs.Common.{◌≡◌, ℕ, Bool, true, false, not, ◌+◌, ◌*◌, List, [], ◌∷◌, Option, Some, None, Result, Ok, Err, inl, refl, ap, sym, ◌∙◌, subst}
use Rattle.std.specs.Prelude.{slice_set, sum_by, nat_lt, MatchOption}
use Rattle.gfx_model.specs.Words.{Handle, Format, texture_kind}
use Rattle.gfx_model.specs.Resources as model
use Rattle.gfx_model.specs.Resources.{ResourceCall}
use Rattle.gfx_words.specs.Names.{handle_word}
use Rattle.gfx_words.specs.declared.refusals.Refusal.{Refusal}
use Rattle.gfx_words.specs.declared.refusals.Refusal.TheVariants as refusals
use Rattle.context_core.specs.Calls.{Creates, Updates, Changes, Destroys}
use Rattle.context_core.specs.States.{CoreView, own}
use Rattle.render_core.specs.Rendered.{Rendering}
use Rattle.c_words.specs.declared.faults.Fault.{Fault}
use Rattle.c_words.specs.declared.faults.Fault.TheVariants as faults
use Rattle.c_calls.specs.Calls.{CreatesHere, CreatesTexture, fits_texture, UpdatesHere, ChangesHere, DestroysHere, OnThing, OnMaybe, given}
use Rattle.c_words.specs.Statuses.{told_of}
use Rattle.c_words.specs.Things.{named, named_or_none, row_of_word}
use Rattle.c_calls.specs.declared.standing.Standing.{Standing}
use Rattle.c_calls.specs.Views.{ContextView}

-- ---- a call on a thing, of a context or an encoder

module _ {X V : Type 0} (rows : V → List (Option Handle)) (word : ℕ) (result : Result X Fault) (new : V) (says : Handle → (old : V) → Type 0) where
  abbrev Thing : Option Handle → V → Type 0
  Thing o old = MatchOption o ((result ≡ Err faults.Unknown) × (new ≡ old)) (λ h. says h old)

  pub on_thing : (now old : V) → now ≡ old → (h : Handle) → named (rows now) word ≡ Some h → says h now → OnThing (rows old) word result old new (λ h. says h old)
  on_thing now old e h g s = subst (λ (o : V). Thing (named (rows o) word) o) e (subst (λ (o : Option Handle). Thing o now) (sym g) s)

  pub on_nothing : (now old : V) → now ≡ old → named (rows now) word ≡ None → result ≡ Err faults.Unknown → new ≡ now → OnThing (rows old) word result old new (λ h. says h old)
  on_nothing now old e g is same = subst (λ (o : V). Thing (named (rows o) word) o) e (subst (λ (o : Option Handle). Thing o now) (sym g) (is, same))

module _ {X V : Type 0} (rows : V → List (Option Handle)) (word : ℕ) (result : Result X Fault) (new : V) (says : Option Handle → (old : V) → Type 0) where
  abbrev Maybe : Option (Option Handle) → V → Type 0
  Maybe o old = MatchOption o ((result ≡ Err faults.Unknown) × (new ≡ old)) (λ h. says h old)

  pub on_maybe : (now old : V) → now ≡ old → (h : Option Handle) → named_or_none (rows now) word ≡ Some h → says h now → OnMaybe (rows old) word result old new (λ o. says o old)
  on_maybe now old e h g s = subst (λ (o : V). Maybe (named_or_none (rows o) word) o) e (subst (λ (o : Option (Option Handle)). Maybe o now) (sym g) s)

  pub on_none : (now old : V) → now ≡ old → named_or_none (rows now) word ≡ None → result ≡ Err faults.Unknown → new ≡ now → OnMaybe (rows old) word result old new (λ o. says o old)
  on_none now old e g is same = subst (λ (o : V). Maybe (named_or_none (rows o) word) o) e (subst (λ (o : Option (Option Handle)). Maybe o now) (sym g) (is, same))

-- ---- the calls of a context

-- a context with a core
abbrev pub context_with : List (Option Handle) → Rendering → Standing → ℕ → CoreView → ContextView
context_with rows renderer standing most c = record { core = c; rows = rows; renderer = renderer; standing = standing; most = most }

module _ (rows : List (Option Handle)) (renderer : Rendering) (standing : Standing) (most : ℕ) (a b : CoreView) where
  abbrev with_core : CoreView → ContextView
  with_core c = context_with rows renderer standing most c

  pub changes_told : (call : ResourceCall) (result : Result (Unit {0}) Fault) (r : Result (Unit {0}) Refusal) → result ≡ told_of r → Changes own r call a b → (old : ContextView) → with_core a ≡ old → ChangesHere result call old (with_core b)
  changes_told call result r is m old e = subst (λ (o : ContextView). ChangesHere result call o (with_core b)) e (r, is, m, refl)

  pub updates_told : (call : ResourceCall) (result : Result (Unit {0}) Fault) (r : Result (Unit {0}) Refusal) → result ≡ told_of r → Updates own r call a b → (old : ContextView) → with_core a ≡ old → UpdatesHere result call old (with_core b)
  updates_told call result r is m old e = subst (λ (o : ContextView). UpdatesHere result call o (with_core b)) e (r, is, m, refl)

  pub destroys_told : (h : Handle) (result : Result (Unit {0}) Fault) (r : Result (Unit {0}) Refusal) → result ≡ told_of r → Destroys own r h a b → (old : ContextView) → with_core a ≡ old → DestroysHere result h old (with_core b)
  destroys_told h result r is m old e = subst (λ (o : ContextView). DestroysHere result h o (with_core b)) e (r, is, m, refl)

  -- a create, whose handle is kept
  pub creates_told : (call : ResourceCall) (result : Result Handle Fault) (r : Result Handle Refusal) (kept : ContextView) → result ≡ told_of r → Creates own r call a b → kept ≡ given r b (with_core b) → (old : ContextView) → with_core a ≡ old → CreatesHere result call old kept
  creates_told call result (Ok h) kept is m e old same = subst (λ (o : ContextView). CreatesHere result call o kept) same
      (Ok h, is, subst (λ (k : ContextView). Creates own (Ok h) call a k.core) (sym e) m, e ∙ (λ j. record { core = sym (ap (λ (k : ContextView). k.core) e) j; rows = slice_set rows (row_of_word (handle_word h)) (Some h); renderer = renderer; standing = standing; most = most }))
  creates_told call result (Err f) kept is m e old same = subst (λ (o : ContextView). CreatesHere result call o kept) same
      (Err f, is, subst (λ (k : ContextView). Creates own (Err f) call a k.core) (sym e) m, e ∙ (λ j. record { core = sym (ap (λ (k : ContextView). k.core) e) j; rows = rows; renderer = renderer; standing = standing; most = most }))

-- ---- a texture whose sides or bytes do not fit

first_is : (b : Bool) (r : model.Refusal) (rest : List (Bool × model.Refusal)) → b ≡ false → model.first_refusal ((not b, r) ∷ rest) ≡ Some r
first_is false r rest e = refl
first_is true r rest e = absurd (cc e)

pub wrong_texture : (width height : ℕ) (f : Format) (d : Bool) (bytes : List ℕ) (c : ContextView) → fits_texture width height bytes ≡ false → CreatesTexture (Err (faults.Refused refusals.BadSize)) width height f d bytes c c
wrong_texture width height f d bytes c e =
    let r = c.core.state.book.resources in
    let rest : List (Bool × model.Refusal) = model.lacks_index r texture_kind ∷ (nat_lt model.greatest_texels (sum_by (λ t. model.texel_count t.content) r.things + width * height), model.texels_full) ∷ model.lacks_serial r ∷ [] in
    inl (Err refusals.BadSize, refl, (first_is (fits_texture width height bytes) model.bad_size rest e, refl), refl)

-- How a run ends where the source told its bytes.
use Rattle.std.proofs.Common.{◌≡◌, ℕ, ◌+◌, ◌<◌, ◌≤◌, List, [], ◌++◌, length, Option, Some, None, Result, Ok, Err, inl, inr, refl, ap, sym, ◌∙◌, arith}
use Rattle.std.proofs.lemmas.List.{append-nil, length-append}
use Rattle.std.proofs.lemmas.Option.{none-some, same_Some}
use Rattle.io_edge.specs.Edge.{with_front, IsSpent}
use Rattle.scene_model.specs.Scene.{Scene}
use Rattle.scene_model.specs.Grammar.{Fault, whole_language, scene_of}
use Rattle.shares_running.specs.Lines.{IsText}
use Rattle.shares_running.specs.declared.words.Job.{Job}
use Rattle.io_whole.specs.Whole.{longest, IsRead, HasMoreThan}
use Rattle.shares_running.specs.Ended.{IsScene, Ended, EndsAs}
use Rattle.shares_running.specs.Putting.{IsNoted, IsPut}
use Rattle.shares_running.specs.declared.status.SharesStatus.{SharesStatus}
use Rattle.shares_running.specs.declared.status.SharesStatus.TheVariants as status

told_is : (bytes b : List ℕ) (after : Option (List ℕ)) → Some bytes ≡ with_front b after → IsSpent after → b ≡ bytes
told_is bytes b None e s = absurd (none-some bytes (sym e))
told_is bytes b (Some r) e s = sym (same_Some bytes (b ++ []) (e ∙ ap (λ x. Some (b ++ x)) s) ∙ append-nil b)

-- what was read is what was told
pub read_told : (bytes b : List ℕ) (before after : Option (List ℕ)) → before ≡ Some bytes → IsRead b before after → b ≡ bytes
read_told bytes b before after told r = told_is bytes b after (sym told ∙ r.given) r.ended

longer : (n : ℕ) (bytes b : List ℕ) (rest : Option (List ℕ)) → Some bytes ≡ with_front b rest → n < length b → n < length bytes
longer n bytes b None e lt = absurd (none-some bytes (sym e))
longer n bytes b (Some r) e lt = let long : length bytes ≡ length b + length r = ap length (same_Some bytes (b ++ r) e) ∙ length-append b r in omega (arith, long, lt)

many_told : (n : ℕ) (bytes : List ℕ) (before : Option (List ℕ)) → before ≡ Some bytes → HasMoreThan n before → n < length bytes
many_told n bytes before told h = longer n bytes h.bytes h.rest (sym told ∙ h.given) h.many

abbrev fault_in : Fault → Result Scene Fault → Fault
fault_in d (Ok s) = d
fault_in d (Err fault) = fault

-- a text of a kind that was put
pub put_noted : (Is : List ℕ → Type 0) (st : SharesStatus) (text : List ℕ) (old new : Option (List ℕ)) (pf : Type 0) → IsPut st text old new pf → Is text → IsNoted st Is old new pf
put_noted Is status.Done text old new pf h is = (text, is, h)
put_noted Is status.NoteFault text old new pf h is = (text, is, h.0, h.1)
put_noted Is status.Usage text old new pf h is = absurd h
put_noted Is (status.Scene line cause) text old new pf h is = absurd h
put_noted Is status.ReadFault text old new pf h is = absurd h
put_noted Is status.TooLong text old new pf h is = absurd h
put_noted Is status.OutOfMemory text old new pf h is = absurd h

-- the lines of a scene that was read
pub noted_ended : (job : Job) (st : SharesStatus) (bytes : List ℕ) (s : Scene) (before after old new : Option (List ℕ)) (rf pf : Type 0) → IsScene bytes s before after → IsNoted st (IsText job bytes s) old new pf → Ended job st before after old new rf pf
noted_ended job status.Done bytes s before after old new rf pf r h = (bytes, s, h.0, r, h.1, h.2)
noted_ended job (status.Scene line cause) bytes s before after old new rf pf r h = absurd h
noted_ended job status.ReadFault bytes s before after old new rf pf r h = absurd h
noted_ended job status.NoteFault bytes s before after old new rf pf r h = (bytes, s, h.0, r, h.1, h.2, h.3)
noted_ended job status.TooLong bytes s before after old new rf pf r h = absurd h
noted_ended job status.OutOfMemory bytes s before after old new rf pf r h = h
noted_ended job status.Usage bytes s before after old new rf pf r h = absurd h

few_told : (bytes b : List ℕ) (before after : Option (List ℕ)) → before ≡ Some bytes → IsRead b before after → longest < length bytes → ⊥
few_told bytes b before after told r many = let same : length b ≡ length bytes = ap length (read_told bytes b before after told r) in omega (arith, same, r.few, many)

pub too_long : (job : Job) (st : SharesStatus) (before after old new : Option (List ℕ)) (rf pf : Type 0) (bytes : List ℕ) → Ended job st before after old new rf pf → before ≡ Some bytes → longest < length bytes → (rf → ⊥) → EndsAs status.TooLong st
too_long job status.Done before after old new rf pf bytes (b, s, x, r, i, p) told many nf = absurd (few_told bytes b before after told r.read many)
too_long job (status.Scene line cause) before after old new rf pf bytes (b, r, e, u) told many nf = absurd (few_told bytes b before after told r many)
too_long job status.ReadFault before after old new rf pf bytes (f, u) told many nf = absurd (nf f)
too_long job status.NoteFault before after old new rf pf bytes (b, s, x, r, i, p, f) told many nf = absurd (few_told bytes b before after told r.read many)
too_long job status.TooLong before after old new rf pf bytes h told many nf = inl refl
too_long job status.OutOfMemory before after old new rf pf bytes h told many nf = inr refl
too_long job status.Usage before after old new rf pf bytes h told many nf = absurd h

abbrev read_scene : List ℕ → Result Scene Fault
read_scene bytes = scene_of whole_language bytes

pub refused : (job : Job) (st : SharesStatus) (before after old new : Option (List ℕ)) (rf pf : Type 0) (bytes : List ℕ) (fault : Fault) → Ended job st before after old new rf pf → before ≡ Some bytes → length bytes ≤ longest → read_scene bytes ≡ Err fault → (rf → ⊥)
    → EndsAs (status.Scene fault.line fault.cause) st
refused job status.Done before after old new rf pf bytes fault (b, s, x, r, i, p) told few is nf = absurd (cc (sym r.is ∙ ap read_scene (read_told bytes b before after told r.read) ∙ is))
refused job (status.Scene line cause) before after old new rf pf bytes fault (b, r, e, u) told few is nf =
    let found : Fault = record { line = line; cause = cause } in
    inl (ap (λ (x : Fault). status.Scene x.line x.cause) (ap (fault_in found) (sym e ∙ ap read_scene (read_told bytes b before after told r) ∙ is)))
refused job status.ReadFault before after old new rf pf bytes fault (f, u) told few is nf = absurd (nf f)
refused job status.NoteFault before after old new rf pf bytes fault (b, s, x, r, i, p, f) told few is nf = absurd (cc (sym r.is ∙ ap read_scene (read_told bytes b before after told r.read) ∙ is))
refused job status.TooLong before after old new rf pf bytes fault (h, u) told few is nf = let many = many_told longest bytes before told h in absurd (omega (arith, many, few))
refused job status.OutOfMemory before after old new rf pf bytes fault h told few is nf = inr refl
refused job status.Usage before after old new rf pf bytes fault h told few is nf = absurd h

pub complete : (job : Job) (st : SharesStatus) (before after old new : Option (List ℕ)) (rf pf : Type 0) (bytes : List ℕ) (s : Scene) → Ended job st before after old new rf pf → before ≡ Some bytes → length bytes ≤ longest → read_scene bytes ≡ Ok s → (rf → ⊥) → (pf → ⊥) → EndsAs status.Done st
complete job status.Done before after old new rf pf bytes s h told few is nf np = inl refl
complete job (status.Scene line cause) before after old new rf pf bytes s (b, r, e, u) told few is nf np = absurd (cc (sym e ∙ ap read_scene (read_told bytes b before after told r) ∙ is))
complete job status.ReadFault before after old new rf pf bytes s (f, u) told few is nf np = absurd (nf f)
complete job status.NoteFault before after old new rf pf bytes s (b, t, x, r, i, p, f) told few is nf np = absurd (np f)
complete job status.TooLong before after old new rf pf bytes s (h, u) told few is nf np = let many = many_told longest bytes before told h in absurd (omega (arith, many, few))
complete job status.OutOfMemory before after old new rf pf bytes s h told few is nf np = inr refl
complete job status.Usage before after old new rf pf bytes s h told few is nf np = absurd h

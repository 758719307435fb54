-- What each status says of what the source told.
use Rattle.std.proofs.Common.{inl, inr, arith, ◌≤◌, ◌<◌, ◌≡◌, ◌↔◌, ◌⊎◌, ℕ, ◌+◌, List, ◌++◌, length, Option, Some, None, Result, Ok, Err, refl, sym, ap, subst, ◌∙◌, [], ◌∷◌, append-nil}
use Rattle.std.specs.List.{AllByRecursion, flat_map}
use Rattle.std.proofs.lemmas.List.Concat.{flat_map-cons}
use Rattle.std.proofs.lemmas.List.{length-append, nil_from_length}
use Rattle.std.proofs.lemmas.Option.{same_Some, none-some}
use Rattle.io_edge.specs.Edge.{with_front, with_back, IsSpent}
use Rattle.scene_model.specs.Scene.{Scene}
use Rattle.scene_model.specs.Grammar.{Fault, whole_language, scene_of}
use Rattle.scene_model.specs.Fold.{plans}
use Rattle.scene_model.specs.Output.{frame_dropped, length_line}
use Rattle.dropped_lines.specs.Dropped.{Dropped, dropped_line, dropped_lines, dropped_text}
use Rattle.dropped_lines.specs.Laws.{CountLaw, SilentLaw}
use Rattle.io_whole.specs.Whole.{HasMoreThan, HasFront}
use Rattle.io_whole.specs.Whole.{longest, IsRead}
use Rattle.check_running.specs.Refusals.{told_fault}
use Rattle.check_running.specs.Putting.{IsPut, IsTold, whole, cut, none}
use Rattle.check_running.specs.Ended.{IsScene, IsNoScene, IsNote, Ended, EndsAs, HasCounted}
use Rattle.check_running.specs.declared.status.CheckStatus.{CheckStatus}
use Rattle.check_running.specs.declared.status.CheckStatus.TheVariants as status

-- ---- what a run is, from its parts

pub put_ended : (st : CheckStatus) (bytes : List ℕ) (s : Scene) (before after old new told : Option (List ℕ)) (rf pf nf : Type 0) → IsScene bytes s before after → IsPut st (dropped_text bytes s) old new pf → Ended st before after old new told told rf pf nf
put_ended status.Done bytes s before after old new told rf pf nf r h = (bytes, s, r, h, refl)
put_ended (status.Scene line cause) bytes s before after old new told rf pf nf r h = absurd h
put_ended status.ReadFault bytes s before after old new told rf pf nf r h = absurd h
put_ended status.LineFault bytes s before after old new told rf pf nf r h = (bytes, s, r, h.0, h.1, refl)
put_ended status.NoteFault bytes s before after old new told rf pf nf r h = absurd h
put_ended status.TooLong bytes s before after old new told rf pf nf r h = absurd h
put_ended status.OutOfMemory bytes s before after old new told rf pf nf r h = (inr (bytes, s, r, h), refl)

pub refused_ended : (st : CheckStatus) (bytes : List ℕ) (line cause : ℕ) (before after old told said : Option (List ℕ)) (rf pf nf : Type 0) → IsNoScene bytes (record { line = line; cause = cause }) before after
    → IsTold st (status.Scene line cause) (told_fault bytes (record { line = line; cause = cause })) told said nf → Ended st before after old old told said rf pf nf
refused_ended st bytes line cause before after old told said rf pf nf r (whole e p) = subst (λ (x : CheckStatus). Ended x before after old old told said rf pf nf) (sym e) (bytes, r, refl, p)
refused_ended st bytes line cause before after old told said rf pf nf r (cut e p f) =
    let d : Fault = record { line = line; cause = cause } in
    subst (λ (x : CheckStatus). Ended x before after old old told said rf pf nf) (sym e) (told_fault bytes d, inl (bytes, d, r, refl), p, f, refl)
refused_ended st bytes line cause before after old told said rf pf nf r (none e p) = subst (λ (x : CheckStatus). Ended x before after old old told said rf pf nf) (sym e) (inl refl, p)

pub long_ended : (st : CheckStatus) (before after old told said : Option (List ℕ)) (rf pf nf : Type 0) → HasMoreThan longest before → IsTold st status.TooLong length_line told said nf → Ended st before after old old told said rf pf nf
long_ended st before after old told said rf pf nf h (whole e p) = subst (λ (x : CheckStatus). Ended x before after old old told said rf pf nf) (sym e) (h, refl, p)
long_ended st before after old told said rf pf nf h (cut e p f) = subst (λ (x : CheckStatus). Ended x before after old old told said rf pf nf) (sym e) (length_line, inr (h, refl), p, f, refl)
long_ended st before after old told said rf pf nf h (none e p) = subst (λ (x : CheckStatus). Ended x before after old old told said rf pf nf) (sym e) (inl refl, p)

-- ---- what was read is what was told

told_is : (bytes b : List ℕ) (after : Option (List ℕ)) → Some bytes ≡ with_front b after → IsSpent after → b ≡ bytes
told_is bytes b None e s = absurd (none-some bytes (sym e))
told_is bytes b (Some r) e s = sym (same_Some bytes (b ++ []) (e ∙ ap (λ x. Some (b ++ x)) s) ∙ append-nil b)

read_told : (bytes b : List ℕ) (before after : Option (List ℕ)) → before ≡ Some bytes → IsRead b before after → b ≡ bytes
read_told bytes b before after told r = told_is bytes b after (sym told ∙ r.given) r.ended

longer : (n : ℕ) (bytes b : List ℕ) (rest : Option (List ℕ)) → Some bytes ≡ with_front b rest → n < length b → n < length bytes
longer n bytes b None e lt = absurd (none-some bytes (sym e))
longer n bytes b (Some r) e lt = let long : length bytes ≡ length b + length r = ap length (same_Some bytes (b ++ r) e) ∙ length-append b r in omega (arith, long, lt)

many_told : (n : ℕ) (bytes : List ℕ) (before : Option (List ℕ)) → before ≡ Some bytes → HasMoreThan n before → n < length bytes
many_told n bytes before told h = longer n bytes h.bytes h.rest (sym told ∙ h.given) h.many

few_told : (bytes b : List ℕ) (before after : Option (List ℕ)) → before ≡ Some bytes → IsRead b before after → longest < length bytes → ⊥
few_told bytes b before after told r many = let same : length b ≡ length bytes = ap length (read_told bytes b before after told r) in omega (arith, same, r.few, many)

abbrev read_scene : List ℕ → Result Scene Fault
read_scene bytes = scene_of whole_language bytes

abbrev fault_in : Fault → Result Scene Fault → Fault
fault_in d (Ok s) = d
fault_in d (Err fault) = fault

abbrev scene_in : Scene → Result Scene Fault → Scene
scene_in d (Ok s) = s
scene_in d (Err fault) = d

-- ---- how a run ends

pub too_long : (st : CheckStatus) (before after old new told said : Option (List ℕ)) (rf pf nf : Type 0) (bytes : List ℕ) → Ended st before after old new told said rf pf nf → before ≡ Some bytes → longest < length bytes → (rf → ⊥) → (nf → ⊥) → EndsAs status.TooLong st
too_long status.Done before after old new told said rf pf nf bytes (b, s, r, p, q) is many no_read no_tell = absurd (few_told bytes b before after is r.read many)
too_long (status.Scene line cause) before after old new told said rf pf nf bytes (b, r, u, p) is many no_read no_tell = absurd (few_told bytes b before after is r.read many)
too_long status.ReadFault before after old new told said rf pf nf bytes (f, u, p) is many no_read no_tell = absurd (no_read f)
too_long status.LineFault before after old new told said rf pf nf bytes (b, s, r, p, f, q) is many no_read no_tell = absurd (few_told bytes b before after is r.read many)
too_long status.NoteFault before after old new told said rf pf nf bytes (n, w, p, f, u) is many no_read no_tell = absurd (no_tell f)
too_long status.TooLong before after old new told said rf pf nf bytes h is many no_read no_tell = inl refl
too_long status.OutOfMemory before after old new told said rf pf nf bytes h is many no_read no_tell = inr refl

pub refused : (st : CheckStatus) (before after old new told said : Option (List ℕ)) (rf pf nf : Type 0) (bytes : List ℕ) (fault : Fault) → Ended st before after old new told said rf pf nf → before ≡ Some bytes → length bytes ≤ longest
    → read_scene bytes ≡ Err fault → (rf → ⊥) → (nf → ⊥) → EndsAs (status.Scene fault.line fault.cause) st
refused status.Done before after old new told said rf pf nf bytes fault (b, s, r, p, q) is few e no_read no_tell = absurd (cc (sym r.is ∙ ap read_scene (read_told bytes b before after is r.read) ∙ e))
refused (status.Scene line cause) before after old new told said rf pf nf bytes fault (b, r, u, p) is few e no_read no_tell =
    let found : Fault = record { line = line; cause = cause } in
    inl (ap (λ (x : Fault). status.Scene x.line x.cause) (ap (fault_in found) (sym r.is ∙ ap read_scene (read_told bytes b before after is r.read) ∙ e)))
refused status.ReadFault before after old new told said rf pf nf bytes fault (f, u, p) is few e no_read no_tell = absurd (no_read f)
refused status.LineFault before after old new told said rf pf nf bytes fault (b, s, r, p, f, q) is few e no_read no_tell = absurd (cc (sym r.is ∙ ap read_scene (read_told bytes b before after is r.read) ∙ e))
refused status.NoteFault before after old new told said rf pf nf bytes fault (n, w, p, f, u) is few e no_read no_tell = absurd (no_tell f)
refused status.TooLong before after old new told said rf pf nf bytes fault (h, u, p) is few e no_read no_tell = let many = many_told longest bytes before is h in absurd (omega (arith, many, few))
refused status.OutOfMemory before after old new told said rf pf nf bytes fault h is few e no_read no_tell = inr refl

-- a note is told of no scene
no_note : (before after : Option (List ℕ)) (bytes note : List ℕ) (s : Scene) → IsNote note before after → before ≡ Some bytes → length bytes ≤ longest → read_scene bytes ≡ Ok s → ⊥
no_note before after bytes note s (inl (b, fault, r, same)) is few e = cc (sym r.is ∙ ap read_scene (read_told bytes b before after is r.read) ∙ e)
no_note before after bytes note s (inr (h, same)) is few e = let many = many_told longest bytes before is h in omega (arith, many, few)

pub complete : (st : CheckStatus) (before after old new told said : Option (List ℕ)) (rf pf nf : Type 0) (bytes : List ℕ) (s : Scene) → Ended st before after old new told said rf pf nf → before ≡ Some bytes → length bytes ≤ longest
    → read_scene bytes ≡ Ok s → (rf → ⊥) → (pf → ⊥) → EndsAs status.Done st
complete status.Done before after old new told said rf pf nf bytes s h is few e no_read no_put = inl refl
complete (status.Scene line cause) before after old new told said rf pf nf bytes s (b, r, u, p) is few e no_read no_put = absurd (cc (sym r.is ∙ ap read_scene (read_told bytes b before after is r.read) ∙ e))
complete status.ReadFault before after old new told said rf pf nf bytes s (f, u, p) is few e no_read no_put = absurd (no_read f)
complete status.LineFault before after old new told said rf pf nf bytes s (b, t, r, p, f, q) is few e no_read no_put = absurd (no_put f)
complete status.NoteFault before after old new told said rf pf nf bytes s (n, w, p, f, u) is few e no_read no_put = absurd (no_note before after bytes n s w is few e)
complete status.TooLong before after old new told said rf pf nf bytes s (h, u, p) is few e no_read no_put = let many = many_told longest bytes before is h in absurd (omega (arith, many, few))
complete status.OutOfMemory before after old new told said rf pf nf bytes s h is few e no_read no_put = inr refl

-- ---- runs that put no line

put_of : (before after old new told said : Option (List ℕ)) (rf pf nf : Type 0) (bytes : List ℕ) (s : Scene) → Ended status.Done before after old new told said rf pf nf → before ≡ Some bytes → read_scene bytes ≡ Ok s → new ≡ with_back old (dropped_text bytes s)
put_of before after old new told said rf pf nf bytes s (b, t, r, p, q) is e =
    let same : b ≡ bytes = read_told bytes b before after is r.read in
    let scene : t ≡ s = ap (scene_in s) (sym r.is ∙ ap read_scene same ∙ e) in
    p ∙ ap (λ x. with_back old (dropped_text x t)) same ∙ ap (λ x. with_back old (dropped_text bytes x)) scene

nothing_more : (text lines : List ℕ) → text ++ lines ≡ text → lines ≡ []
nothing_more text lines e = let l = length-append text lines in let n = ap length e in nil_from_length lines (omega (arith, l, n))

-- nothing was put exactly where there is no text
no_text : (old new : Option (List ℕ)) (text lines : List ℕ) → new ≡ with_back old lines → old ≡ Some text → (new ≡ Some text) ↔ (lines ≡ [])
no_text old new text lines put was =
    let now : new ≡ Some (text ++ lines) = put ∙ ap (λ o. with_back o lines) was in
    ((λ e. nothing_more text lines (same_Some (text ++ lines) text (sym now ∙ e))), (λ e. now ∙ ap (λ ls. Some (text ++ ls)) e ∙ ap Some (append-nil text)))

-- a line has a text
none_told : (ds : List Dropped) → flat_map dropped_line ds ≡ [] → ds ≡ []
none_told [] e = refl
none_told (d ∷ ds) e = absurd (cc (sym (flat_map-cons dropped_line d ds) ∙ e))

pub silent : (st : CheckStatus) (before after old new told said : Option (List ℕ)) (rf pf nf : Type 0) (bytes text : List ℕ) (s : Scene) → Ended st before after old new told said rf pf nf → before ≡ Some bytes → read_scene bytes ≡ Ok s → old ≡ Some text → st ≡ status.Done
    → SilentLaw → (new ≡ Some text) ↔ AllByRecursion (λ p. frame_dropped p ≡ 0) (plans s)
silent st before after old new told said rf pf nf bytes text s ended is e was done law =
    let put = put_of before after old new told said rf pf nf bytes s (subst (λ (x : CheckStatus). Ended x before after old new told said rf pf nf) done ended) is e in
    let when = no_text old new text (dropped_text bytes s) put was in
    let quiet = law bytes s e in (
      (λ h. quiet.0 (none_told (dropped_lines bytes s) (when.0 h))),
      (λ h. when.1 (ap (flat_map dropped_line) (quiet.1 h))),
    )

-- ---- as many lines as the notes say

pub counted : (st : CheckStatus) (before after old new told said : Option (List ℕ)) (rf pf nf : Type 0) (bytes text : List ℕ) (s : Scene) → Ended st before after old new told said rf pf nf → before ≡ Some bytes → read_scene bytes ≡ Ok s → old ≡ Some text → st ≡ status.Done
    → CountLaw → HasCounted s text new
counted st before after old new told said rf pf nf bytes text s ended is e was done law = record {
  lines = dropped_lines bytes s;
  put = put_of before after old new told said rf pf nf bytes s (subst (λ (x : CheckStatus). Ended x before after old new told said rf pf nf) done ended) is e ∙ ap (λ o. with_back o (dropped_text bytes s)) was;
  many = law bytes s e;
}

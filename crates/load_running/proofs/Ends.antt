-- How a run ends where the source told its bytes.
use Rattle.std.proofs.Common.{◌≡◌, ℕ, ◌+◌, ◌<◌, ◌≤◌, List, [], ◌++◌, length, map, Option, Some, None, option_map, Result, Ok, Err, Vec, Global, inl, inr, refl, ap, sym, ◌∙◌, arith}
use Rattle.std.proofs.lemmas.List.{append-nil, length-append}
use Rattle.std.proofs.lemmas.Option.{none-some, same_Some}
use Rattle.io_edge.specs.Edge.{with_front, IsSpent}
use Rattle.load_text.specs.Loads.{Block}
use Rattle.load_text.specs.Text.{load_of}
use Rattle.load_text.specs.Seen.{block_seen}
use Rattle.load_text.specs.declared.load.Block as code
use Rattle.io_whole.specs.Whole.{longest, IsRead, HasMoreThan}
use Rattle.load_running.specs.Ended.{IsLoad, Ended, EndsAs}
use Rattle.std.specs.Option.{IfSome}
use Rattle.res_lock.specs.Histories.{LockEntry}
use Rattle.load_running.specs.Notes.{notes_of}
use Rattle.load_running.specs.LoadHistories.{IsHistoryOf, AreNotesOf}
use Rattle.load_running.specs.Putting.{IsNoted}
use Rattle.load_running.specs.declared.status.LoadStatus.{LoadStatus}
use Rattle.load_running.specs.declared.status.LoadStatus.TheVariants as status

told_is : (bytes b : List ℕ) (after : Option (List ℕ)) → Some bytes ≡ with_front b after → IsSpent after → b ≡ bytes
told_is bytes b None e s = absurd (none-some bytes (sym e))
told_is bytes b (Some r) e s = sym (same_Some bytes (b ++ []) (e ∙ ap (λ x. Some (b ++ x)) s) ∙ append-nil b)

-- what was read is what was told
read_told : (bytes b : List ℕ) (before after : Option (List ℕ)) → before ≡ Some bytes → IsRead b before after → b ≡ bytes
read_told bytes b before after told r = told_is bytes b after (sym told ∙ r.given) r.ended

longer : (n : ℕ) (bytes b : List ℕ) (rest : Option (List ℕ)) → Some bytes ≡ with_front b rest → n < length b → n < length bytes
longer n bytes b None e lt = absurd (none-some bytes (sym e))
longer n bytes b (Some r) e lt = let long : length bytes ≡ length b + length r = ap length (same_Some bytes (b ++ r) e) ∙ length-append b r in omega (arith, long, lt)

many_told : (n : ℕ) (bytes : List ℕ) (before : Option (List ℕ)) → before ≡ Some bytes → HasMoreThan n before → n < length bytes
many_told n bytes before told h = longer n bytes h.bytes h.rest (sym told ∙ h.given) h.many

abbrev line_in : ℕ → Result (List Block) ℕ → ℕ
line_in d (Ok blocks) = d
line_in d (Err line) = line

-- blocks that were read
abbrev pub ok_blocks : List code.Block → Result (List Block) ℕ
ok_blocks blocks = Ok (map block_seen blocks)

-- the notes of blocks that were read
pub noted_ended : (st : LoadStatus) (bytes : List ℕ) (blocks : List Block) (before after old new : Option (List ℕ)) (rf pf : Type 0) → IsLoad bytes blocks before after → IsNoted st blocks old new pf → Ended st before after old new rf pf
noted_ended status.Done bytes blocks before after old new rf pf r (text, n, e) = (bytes, blocks, text, r, n, e)
noted_ended (status.Text line) bytes blocks before after old new rf pf r h = absurd h
noted_ended status.ReadFault bytes blocks before after old new rf pf r h = absurd h
noted_ended status.NoteFault bytes blocks before after old new rf pf r (text, n, e, f) = (bytes, blocks, text, r, n, e, f)
noted_ended status.TooLong bytes blocks before after old new rf pf r h = absurd h
noted_ended status.OutOfMemory bytes blocks before after old new rf pf r h = h

-- the text of a history whose entries all have notes
pub noted_by : (blocks : List Block) (es : List LockEntry) (o : Option (Vec ℕ Global)) → IsHistoryOf blocks es → option_map (λ t. t.items) o ≡ notes_of es → IfSome o (λ t. AreNotesOf blocks t.items)
noted_by blocks es None h e = tt
noted_by blocks es (Some t) h e = record { history = es; is_of = h; noted = sym e }

few_told : (bytes b : List ℕ) (before after : Option (List ℕ)) → before ≡ Some bytes → IsRead b before after → longest < length bytes → ⊥
few_told bytes b before after told r many = let same : length b ≡ length bytes = ap length (read_told bytes b before after told r) in omega (arith, same, r.few, many)

pub too_long : (st : LoadStatus) (before after old new : Option (List ℕ)) (rf pf : Type 0) (bytes : List ℕ) → Ended st before after old new rf pf → before ≡ Some bytes → longest < length bytes → (rf → ⊥) → EndsAs status.TooLong st
too_long status.Done before after old new rf pf bytes (b, s, t, r, n, p) told many nf = absurd (few_told bytes b before after told r.read many)
too_long (status.Text line) before after old new rf pf bytes (b, r, e, u) told many nf = absurd (few_told bytes b before after told r many)
too_long status.ReadFault before after old new rf pf bytes (f, u) told many nf = absurd (nf f)
too_long status.NoteFault before after old new rf pf bytes (b, s, t, r, n, p, f) told many nf = absurd (few_told bytes b before after told r.read many)
too_long status.TooLong before after old new rf pf bytes h told many nf = inl refl
too_long status.OutOfMemory before after old new rf pf bytes h told many nf = inr refl

pub refused : (st : LoadStatus) (before after old new : Option (List ℕ)) (rf pf : Type 0) (bytes : List ℕ) (line : ℕ) → Ended st before after old new rf pf → before ≡ Some bytes → length bytes ≤ longest → load_of bytes ≡ Err line → (rf → ⊥) → EndsAs (status.Text line) st
refused status.Done before after old new rf pf bytes line (b, s, t, r, n, p) told few is nf = absurd (cc (sym r.is ∙ ap load_of (read_told bytes b before after told r.read) ∙ is))
refused (status.Text l) before after old new rf pf bytes line (b, r, e, u) told few is nf =
    inl (ap (λ n. status.Text n) (ap (line_in 0) (sym e ∙ ap load_of (read_told bytes b before after told r) ∙ is)))
refused status.ReadFault before after old new rf pf bytes line (f, u) told few is nf = absurd (nf f)
refused status.NoteFault before after old new rf pf bytes line (b, s, t, r, n, p, f) told few is nf = absurd (cc (sym r.is ∙ ap load_of (read_told bytes b before after told r.read) ∙ is))
refused status.TooLong before after old new rf pf bytes line (h, u) told few is nf = let many = many_told longest bytes before told h in absurd (omega (arith, many, few))
refused status.OutOfMemory before after old new rf pf bytes line h told few is nf = inr refl

pub complete : (st : LoadStatus) (before after old new : Option (List ℕ)) (rf pf : Type 0) (bytes : List ℕ) (blocks : List Block) → Ended st before after old new rf pf → before ≡ Some bytes → length bytes ≤ longest → load_of bytes ≡ Ok blocks → (rf → ⊥) → (pf → ⊥) → EndsAs status.Done st
complete status.Done before after old new rf pf bytes s h told few is nf np = inl refl
complete (status.Text l) before after old new rf pf bytes s (b, r, e, u) told few is nf np = absurd (cc (sym e ∙ ap load_of (read_told bytes b before after told r) ∙ is))
complete status.ReadFault before after old new rf pf bytes s (f, u) told few is nf np = absurd (nf f)
complete status.NoteFault before after old new rf pf bytes s (b, u, t, r, n, p, f) told few is nf np = absurd (np f)
complete status.TooLong before after old new rf pf bytes s (h, u) told few is nf np = let many = many_told longest bytes before told h in absurd (omega (arith, many, few))
complete status.OutOfMemory before after old new rf pf bytes s h told few is nf np = inr refl

-- What takes memory in a frame, and a frame without items.
use Rattle.std.proofs.Common.{◌≡◌, ℕ, zero, suc, ◌∙◌, ◌==◌, Bool, true, false, ◌||◌, List, [], ◌∷◌, filter, length, Some, Result, Ok, Err, refl, sym, ap}
use Rattle.std.specs.Prelude.{◌≢◌, OnErr}
use Rattle.std.specs.List.{list_any, slice_get}
use Rattle.std.proofs.lemmas.Bool.{eqb-true, eqb-false}
use Rattle.std.proofs.lemmas.List.{nil_from_length}
use Rattle.std.proofs.lemmas.Option.{same_Some, none-some}
use Rattle.gfx_model.specs.World.{is_of_view}
use Rattle.store_laws.specs.ByIndex.{Stores}
use Rattle.gfx_words.specs.declared.journal.JournalEntry.{JournalEntry}
use Rattle.gfx_model.specs.Commands.{Command}
use Rattle.render_stores.specs.Memory.{takes_memory, IsStopped}

or_here : (a b : Bool) → a ≡ true → a || b ≡ true
or_here true b h = refl
or_here false b h = absurd cc

or_behind : (a b : Bool) → b ≡ true → a || b ≡ true
or_behind true b h = refl
or_behind false b h = h

some_at : (cs : List Command) (k : ℕ) (c : Command) → slice_get cs k ≡ Some c → takes_memory c ≡ true → list_any takes_memory cs ≡ true
some_at [] k c there takes = absurd (none-some c there)
some_at (x ∷ cs) zero c there takes = or_here (takes_memory x) (list_any takes_memory cs) (ap takes_memory (same_Some x c there) ∙ takes)
some_at (x ∷ cs) (suc k) c there takes = or_behind (takes_memory x) (list_any takes_memory cs) (some_at cs k c there takes)

-- commands that stopped have one that takes memory
pub some_takes : {payloads : List (List ℕ)} {old new : Stores} (row : List Command) → IsStopped payloads row old new → list_any takes_memory row ≡ true
some_takes row s = some_at row s.before s.command s.there s.takes

-- no view has an item where there is none
pub none_entered : (vs : List ℕ) → filter (λ v. list_any (is_of_view v) []) vs ≡ []
none_entered [] = refl
none_entered (v ∷ vs) = none_entered vs

-- ---- whether there are entries

pub no_entry : (n : ℕ) (entries : List JournalEntry) (b : Bool) → n ≡ length entries → b ≡ (n == 0) → b ≡ true → entries ≡ []
no_entry n entries b many told is = nil_from_length entries (sym many ∙ eqb-true n 0 (sym told ∙ is))

pub some_entry : (n : ℕ) (entries : List JournalEntry) (b : Bool) → n ≡ length entries → b ≡ (n == 0) → b ≡ false → entries ≢ []
some_entry n entries b many told is none = eqb-false n 0 (sym told ∙ is) (many ∙ ap length none)

pub on_err_holds : {T E P : Type 0} (r : Result T E) → P → OnErr r P
on_err_holds (Ok x) h = tt
on_err_holds (Err x) h = h

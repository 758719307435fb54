-- A row of commands of which the first ones are executed.
use Rattle.std.proofs.Common.{◌≡◌, ◌≢◌, ℕ, zero, suc, true, List, [], ◌∷◌, ◌++◌, take, drop, Some, Result, Ok, Err, OnErr, refl, sym, ap, ◌∙◌}
use Rattle.std.specs.List.{slice_get}
use Rattle.std.proofs.lemmas.List.Sums.{fold-append}
use Rattle.gfx_model.specs.Commands.{Command}
use Rattle.store_laws.specs.ByIndex.{Stores, after_command, all_commanded}
use Rattle.render_stores.specs.Memory.{takes_memory, IsStopped}

-- the stores after the first commands of a row, and the commands that are left
abbrev pub HasBegun : List (List ℕ) → Stores → List Command → List Command → Stores → Type 0
HasBegun payloads first row rest now = (n : ℕ) × (rest ≡ drop n row) × (now ≡ all_commanded payloads first (take n row))

next_of : (n : ℕ) (xs : List Command) (x : Command) (rest : List Command) → drop n xs ≡ x ∷ rest → (rest ≡ drop (suc n) xs) × (take (suc n) xs ≡ take n xs ++ x ∷ [])
next_of zero [] x rest e = absurd (cc e)
next_of zero (y ∷ ys) x rest e = let tail : rest ≡ ys = cc e in let head : y ≡ x = cc e in (tail, ap (λ (z : Command). z ∷ []) head)
next_of (suc n) [] x rest e = absurd (cc e)
next_of (suc n) (y ∷ ys) x rest e = let r = next_of n ys x rest e in (r.0, ap (λ (zs : List Command). y ∷ zs) r.1)

all_of : (n : ℕ) (xs : List Command) → drop n xs ≡ [] → take n xs ≡ xs
all_of zero xs e = sym e
all_of (suc n) [] e = refl
all_of (suc n) (x ∷ xs) e = ap (λ (zs : List Command). x ∷ zs) (all_of n xs e)

pub begun_first : (payloads : List (List ℕ)) (row : List Command) (now : Stores) → HasBegun payloads now row row now
begun_first payloads row now = (0, refl, refl)

pub begun_more : (payloads : List (List ℕ)) (first : Stores) (row rest rest' : List Command) (now now' : Stores) (c : Command) → HasBegun payloads first row rest now
    → rest ≡ c ∷ rest' → now' ≡ after_command payloads now c → HasBegun payloads first row rest' now'
begun_more payloads first row rest rest' now now' c b e did =
    let next = next_of b.0 row c rest' (sym b.1 ∙ e) in (
      suc b.0,
      next.0,
      did
          ∙ ap (λ (h : Stores). after_command payloads h c) b.2
          ∙ sym (fold-append (after_command payloads) first (take b.0 row) (c ∷ []))
          ∙ ap (all_commanded payloads first) (sym next.1),
    )

pub begun_all : (payloads : List (List ℕ)) (first : Stores) (row rest : List Command) (now : Stores) → HasBegun payloads first row rest now → rest ≡ [] → now ≡ all_commanded payloads first row
begun_all payloads first row rest now b e = b.2 ∙ ap (all_commanded payloads first) (all_of b.0 row (sym b.1 ∙ e))

there_of : (n : ℕ) (xs : List Command) (x : Command) (rest : List Command) → drop n xs ≡ x ∷ rest → slice_get xs n ≡ Some x
there_of zero [] x rest e = absurd (cc e)
there_of zero (y ∷ ys) x rest e = let head : y ≡ x = cc e in ap Some head
there_of (suc n) [] x rest e = absurd (cc e)
there_of (suc n) (y ∷ ys) x rest e = there_of n ys x rest e

-- what holds, holds where there is an error
pub on_err_holds : {T E P : Type 0} (r : Result T E) → P → OnErr r P
on_err_holds (Ok x) p = tt
on_err_holds (Err e) p = p

-- the next command takes memory, and it was not there
pub begun_stopped : (payloads : List (List ℕ)) (first : Stores) (row rest rest' : List Command) (now now' : Stores) (c : Command) → HasBegun payloads first row rest now
    → rest ≡ c ∷ rest' → takes_memory c ≡ true → after_command payloads now c ≢ now → now' ≡ now → IsStopped payloads row first now'
begun_stopped payloads first row rest rest' now now' c b e takes changes kept = record {
  before = b.0;
  command = c;
  there = there_of b.0 row c rest' (sym b.1 ∙ e);
  takes = takes;
  changes = λ same. changes (ap (λ (h : Stores). after_command payloads h c) (sym kept) ∙ same ∙ kept);
  executed = kept ∙ b.2;
}

-- Notes that are put together line by line.
use Rattle.std.proofs.Common.{◌≡◌, ℕ, zero, suc, ◌+◌, ◌<◌, List, [], ◌∷◌, ◌++◌, length, map, drop, get_or, append_assoc, Option, Some, None, option_map, refl, ap, sym, ◌∙◌, arith}
use Rattle.std.proofs.lemmas.Option.{none-some}
use Rattle.res_lock.specs.Histories.{LockEntry}
use Rattle.load_running.specs.Notes.{entry_note, with_note, notes_of}

-- the list from a place on begins with the element there
pub drop_at : {A : Type 0} (xs : List A) (i : ℕ) (d : A) → i < length xs → drop i xs ≡ get_or xs i d ∷ drop (i + 1) xs
drop_at [] i d lt = absurd (omega (arith, lt))
drop_at (x ∷ xs) zero d lt = refl
drop_at (x ∷ xs) (suc i) d lt =
    let next : suc (i + 1) ≡ suc i + 1 = omega arith in
    drop_at xs i d (omega (arith, lt)) ∙ ap (λ n. get_or xs i d ∷ drop n (x ∷ xs)) next

-- one line more
pub note_more : (text new : List ℕ) (line rest : Option (List ℕ)) → option_map (λ l. text ++ l) line ≡ Some new → option_map (λ r. new ++ r) rest ≡ option_map (λ r. text ++ r) (with_note line rest)
note_more text new None rest e = absurd (none-some new e)
note_more text new (Some l) None e = refl
note_more text new (Some l) (Some r) e = ap (λ (o : Option (List ℕ)). joined o r) (sym e) ∙ ap Some (append_assoc text l r)
  where
    joined : Option (List ℕ) → List ℕ → Option (List ℕ)
    joined None r = None
    joined (Some xs) r = Some (xs ++ r)

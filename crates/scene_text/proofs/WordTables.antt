-- A word that a part of a table has is the whole table's.
use Rattle.std.proofs.Common.{◌≡◌, ℕ, Bool, true, false, cond, List, [], ◌∷◌, Some, bytes_eq, refl, ap, sym, ◌∙◌}
use Rattle.std.proofs.lemmas.Slice.Eq.{bytes_eq-Decides}
use Rattle.scene_model.specs.Field.{find_word}
use Rattle.scene_model.specs.Grammar.{Word}
use Rattle.scene_model.specs.Grammar.{words}
use Rattle.scene_text.specs.LineWords.{resource_words, encoder_words, word_of}

-- each word of a table has its meaning of the whole one
abbrev pub AreRows : List (List ℕ × Word) → List (List ℕ × Word) → Type 0
AreRows [] all = Unit {0}
AreRows (r ∷ rest) all = (find_word all r.0 ≡ Some r.1) × AreRows rest all

pub found_in : (sub all : List (List ℕ × Word)) (f : List ℕ) (w : Word) → AreRows sub all → find_word sub f ≡ Some w → find_word all f ≡ Some w
found_in [] all f w rows e = absurd (cc e)
found_in (r ∷ rest) all f w rows e = by (bytes_eq r.0 f) refl e (λ h. found_in rest all f w rows.1 h)
  where
    by : (b : Bool) → bytes_eq r.0 f ≡ b → cond b (Some r.1) (find_word rest f) ≡ Some w → (find_word rest f ≡ Some w → find_word all f ≡ Some w) → find_word all f ≡ Some w
    by true h e later = ap (find_word all) (sym ((bytes_eq-Decides r.0 f).0 h)) ∙ rows.0 ∙ e
    by false h e later = later e

encoder_rows : AreRows encoder_words words
encoder_rows = (refl, (refl, (refl, (refl, (refl, (refl, (refl, (refl, (refl, (refl, (refl, (refl, (refl, tt)))))))))))))

-- a word of an encoder line is that word
pub encoder_word_of : (f : List ℕ) (w : Word) → find_word encoder_words f ≡ Some w → word_of f ≡ Some w
unfolding word_of
encoder_word_of f w e = found_in encoder_words words f w encoder_rows e

resource_rows : AreRows resource_words words
resource_rows = (refl, (refl, (refl, (refl, (refl, (refl, (refl, (refl, (refl, (refl, (refl, (refl, tt))))))))))))

-- a word of a resource or view line is that word
pub resource_word_of : (f : List ℕ) (w : Word) → find_word resource_words f ≡ Some w → word_of f ≡ Some w
unfolding word_of
resource_word_of f w e = found_in resource_words words f w resource_rows e

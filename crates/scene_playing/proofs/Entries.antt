-- Entries of journals that are equal.
use Rattle.std.proofs.Common.{◌≡◌, ℕ, ◌==◌, ◌&&◌, Bool, true, false, refl, sym, ap, ◌∙◌, eq-eqb}
use Rattle.std.proofs.lemmas.Bool.{eqb-true}
use Rattle.std.specs.Bool.{Decides}
use Rattle.gfx_words.specs.declared.journal.JournalEntry.{JournalEntry}

pub both_true : (b c : Bool) → b && c ≡ true → (b ≡ true) × (c ≡ true)
both_true true true e = (refl, refl)
both_true true false e = absurd cc
both_true false c e = absurd cc

and_true : (b c : Bool) → b ≡ true → c ≡ true → b && c ≡ true
and_true true true d e = refl
and_true true false d e = absurd cc
and_true false c d e = absurd cc

-- two entries are compared by their encoders and ordinals
pub same_entry : (a b : JournalEntry) → Decides ((a.encoder == b.encoder) && (a.ordinal == b.ordinal)) (a ≡ b)
same_entry a b = (
  λ e. let p = both_true (a.encoder == b.encoder) (a.ordinal == b.ordinal) e in λ i. record { encoder = eqb-true a.encoder b.encoder p.0 i; ordinal = eqb-true a.ordinal b.ordinal p.1 i },
  λ e. and_true (a.encoder == b.encoder) (a.ordinal == b.ordinal) (eq-eqb a.encoder b.encoder (ap (λ x. x.encoder) e)) (eq-eqb a.ordinal b.ordinal (ap (λ x. x.ordinal) e)),
)

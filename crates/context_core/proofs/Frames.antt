-- What was gathered is a frame's.
use Rattle.std.proofs.Common.{◌≡◌, ◌≢◌, ℕ, suc, ◌≤◌, ◌==◌, Bool, true, false, if◌then◌else◌, nat_lt, List, [], ◌∷◌, map, length, refl, ap, subst, arith, eq-eqb}
use Rattle.std.specs.List.{AllByRecursion}
use Rattle.schedule_model.proofs.Lists.{all-map}
use Rattle.gfx_model.specs.Frames.{collected, AreOfOwnEncoders}
use Rattle.gfx_model.specs.World.{Item}
use Rattle.schedule_model.specs.Held.{count_of, Ascends}
use Rattle.hold_table.specs.Views.{SeatView}
use Rattle.draw_encoder.specs.declared.items.Recording.{Recording}
use Rattle.draw_encoder.specs.Seen.{numbers_of}
use Rattle.gfx_words.specs.declared.journal.JournalEntry.{JournalEntry}
use Rattle.frame_record.specs.Kept.{IsKept, IsCollectable}
use Rattle.frame_record.specs.Seen.{entry_seen, recordings_seen}
use Rattle.frame_record.proofs.KeptLaws.{all_ascend}
use Rattle.context_core.specs.Gathered.{encoders_in, once_below, IsCollected, AreGathered}

once_most : (begun e : ℕ) → once_below begun e ≤ 1
once_most begun e = by_test (nat_lt e begun) where
  by_test : (b : Bool) → (if b then 1 else 0) ≤ 1
  by_test true = omega arith
  by_test false = omega arith

none_equal : (e : ℕ) (rs : List Recording) → count_of e (encoders_in rs) ≡ 0 → AllByRecursion (λ x. x.encoder ≢ e) (recordings_seen rs)
none_equal e [] z = tt
none_equal e (r ∷ rs) z = (
  λ same. let one : (if r.encoder == e then 1 else 0) ≡ suc 0 = ap (λ (b : Bool). if b then 1 else 0) (eq-eqb r.encoder e same) in omega (arith, one, z),
  none_equal e rs (omega (arith, z)),
)

own_encoders : (rs : List Recording) → ((e : ℕ) → count_of e (encoders_in rs) ≤ 1) → AreOfOwnEncoders (recordings_seen rs)
own_encoders [] h = tt
own_encoders (r ∷ rs) h =
    let one : (if r.encoder == r.encoder then 1 else 0) ≡ suc 0 = ap (λ (b : Bool). if b then 1 else 0) (eq-eqb r.encoder r.encoder refl) in
    let le = h r.encoder in
    (none_equal r.encoder rs (omega (arith, one, le)), own_encoders rs (λ e. let l = h e in omega (arith, l)))

module _ (admits : ℕ → ℕ → List Item → ℕ → Type 0) (views : ℕ) (seat : SeatView) (begun : ℕ) (rs : List Recording) (g : AreGathered admits views seat begun rs) where
  all_ascends : AllByRecursion (λ r. Ascends (numbers_of r.items)) rs
  all_ascends = all-map (IsCollected admits views seat.frame seat.places) (λ r. Ascends (numbers_of r.items)) (λ r c. c.ascends) rs g.collected

  pub collectable : IsCollectable rs
  collectable = record { few = subst (λ (ns : List ℕ). length ns ≤ 65528) g.numbers g.most; ascends = all_ascends }

  pub kept_frame : (es : List JournalEntry) → map entry_seen es ≡ collected (recordings_seen rs) → IsKept rs es
  kept_frame es journal = record {
    few = subst (λ (ns : List ℕ). length ns ≤ 65528) g.numbers g.most;
    apart = subst (λ (ns : List ℕ). (n : ℕ) → count_of n ns ≤ 1) g.numbers g.apart;
    own = own_encoders rs (λ e. let a = g.once e in let b = once_most begun e in omega (arith, a, b));
    ascend = all_ascend rs all_ascends;
    journal = journal;
  }

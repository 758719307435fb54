-- The order that is asked of a play's items, from frame to frame.
use Rattle.std.proofs.Common.{◌≡◌, ℕ, ◌+◌, zero, suc, List, [], ◌∷◌, ◌++◌, map, length, take, Option, Some, None, Result, Ok, Err, IfOk, refl, sym, ap, ◌∙◌, subst, arith}
use Rattle.std.proofs.lemmas.List.{length-append}
use Rattle.std.proofs.lemmas.Option.{same_Some, none-some}
use Rattle.std.specs.List.{AllByRecursion, slice_get}
use Rattle.scene_model.specs.Scene.{Scene}
use Rattle.scene_model.specs.Fold.{plans}
use Rattle.scene_model.specs.Journal.{Entry, Journal, AreLawful, serial}
use Rattle.gfx_words.specs.Seen.{entry_seen}
use Rattle.scene_playing.specs.declared.frame.EndedFrame.{EndedFrame}
use Rattle.scene_playing.specs.Order.{Follows, Wanted, any_order, serial_order, given_order, wanted_here, StandByEncoder, Allows, Keeps}
use Rattle.scene_playing.proofs.Serials.{serial_front}

-- the order that was asked, by the number that the context has
pub allowed_since : {E : Type 0} (r : Result EndedFrame E) (w : Wanted) (n k : ℕ) → n ≡ k → IfOk r (λ e. Allows w n (map entry_seen e.journal.items)) → IfOk r (λ e. Allows w k (map entry_seen e.journal.items))
allowed_since (Ok e) w n k is a = subst (λ (m : ℕ). Allows w m (map entry_seen e.journal.items)) is a
allowed_since (Err x) w n k is a = tt

-- ---- with a frame more

one_behind : (n : ℕ) → suc n + 1 ≡ suc (n + 1)
one_behind n = omega arith

take_one_more : (x : List Entry) (xs : Journal) (n : ℕ) (e : List Entry) → take (n + 1) xs ≡ take n xs ++ e ∷ [] → take (suc n + 1) (x ∷ xs) ≡ take (suc n) (x ∷ xs) ++ e ∷ []
take_one_more x xs n e h = ap (λ m. take m (x ∷ xs)) (one_behind n) ∙ ap (λ ys. x ∷ ys) h

take_more : (read : Journal) (n : ℕ) (e : List Entry) → slice_get read n ≡ Some e → take (n + 1) read ≡ take n read ++ e ∷ []
take_more [] n e s = absurd (none-some e s)
take_more (x ∷ xs) zero e s = ap (λ y. y ∷ []) (same_Some x e s)
take_more (x ∷ xs) (suc n) e s = take_one_more x xs n e (take_more xs n e s)

all_stand_more : (j : Journal) (e : List Entry) → AllByRecursion StandByEncoder j → StandByEncoder e → AllByRecursion StandByEncoder (j ++ e ∷ [])
all_stand_more [] e all a = (a, tt)
all_stand_more (x ∷ xs) e all a = (all.0, all_stand_more xs e all.1 a)

pub keeps_more : (w : Wanted) (j all : Journal) (e : List Entry) (n k : ℕ) → n ≡ k → length j ≡ k → all ≡ j ++ e ∷ [] → Keeps w j → Allows w n e → Keeps w all
keeps_more any_order j all e n k is many told f a = tt
keeps_more serial_order j all e n k is many told f a = subst (λ (x : Journal). Keeps serial_order x) (sym told) (all_stand_more j e f a)
keeps_more (given_order read) j all e n k is many told f a =
    let at : slice_get read (length j) ≡ Some e = ap (slice_get read) (many ∙ sym is) ∙ a in
    let longer : length all ≡ length j + 1 = ap length told ∙ length-append j (e ∷ []) in
    told ∙ ap (λ xs. xs ++ e ∷ []) f ∙ sym (take_more read (length j) e at) ∙ ap (λ m. take m read) (sym longer)

pub none_keep : (w : Wanted) (j : Journal) → j ≡ [] → Keeps w j
none_keep w j none = subst (λ (x : Journal). Keeps w x) (sym none) (by w) where
  by : (w : Wanted) → Keeps w []
  by any_order = tt
  by serial_order = tt
  by (given_order read) = refl

-- ---- on one thread

-- the given journal is followed
pub follows_here : (o : Option Journal) (w : Wanted) (j : Journal) → w ≡ wanted_here o → Keeps w j → Follows o j
follows_here o w j is k = by o (subst (λ (x : Wanted). Keeps x j) is k) where
  by : (o : Option Journal) → Keeps (wanted_here o) j → Follows o j
  by None h = tt
  by (Some read) h = h

-- where none is given, the scene's journal of one thread is
pub serial_here : (s : Scene) (o : Option Journal) (w : Wanted) (j : Journal) → w ≡ wanted_here o → Keeps w j → AreLawful (plans s) j → o ≡ None → Follows (Some (serial s)) j
serial_here s o w j is k lawful none = serial_front (plans s) j lawful (subst (λ (x : Wanted). Keeps x j) (is ∙ ap wanted_here none) k)

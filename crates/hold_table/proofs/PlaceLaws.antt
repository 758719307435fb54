-- How a place changes, and what its word says.
use Rattle.std.proofs.Common.{◌≡◌, ◌≢◌, ℕ, zero, suc, ◌<◌, ◌≤◌, Bool, true, false, ◌&&◌, ◌||◌, ◌==◌, nat_le, List, [], ◌∷◌, ◌++◌, length, map, get_or, set, sym, refl, ap, ◌∙◌, subst, arith, inl, inr, ne_eqb, IsTrue}
use Rattle.gfx_model.specs.Words.{Handle, place_of_handle, live_word, dying_word, place_state, place_serial, place_death, is_usable_in}
use Rattle.schedule_model.specs.Machine.{Place, free, live, dying, place_at, has_usable}
use Rattle.schedule_model.specs.Held.{Follows, is_same, is_dying, is_new, IsNewer, IsNameable}
use Rattle.schedule_model.proofs.Lists.{all-map, all-snoc, both-true}
use Rattle.schedule_model.proofs.Places.{set-cases, stands-set, follow-set, follows-create, follows-destroy, follows-reclaim, usable-create, usable-destroy, usable-reclaim}
use Rattle.hold_table.specs.Words.{word_of, IsUpTo}
use Rattle.hold_table.specs.Views.{SeatView, Asked, Shown, IsThere, AllThere, IsNamedIn, IsOfFrame, AllShown, IsWordSince}

-- ---- words

-- what a word's parts say of a serial in a frame
abbrev judged : (frame n state serial death : ℕ) → Bool
judged frame n state serial death = ((state == 1) && (serial == n)) || ((state == 2) && (serial == n) && nat_le frame death)

or_false : (b : Bool) → (b || false) ≡ b
or_false true = refl
or_false false = refl

-- a place's word is usable where the place is
pub usable-word : (frame n : ℕ) (x : Place) → IsUpTo 4294967295 x → is_usable_in frame (word_of x) n ≡ has_usable frame n x
usable-word frame n free fits = refl
usable-word frame n (live s) fits =
    let state : place_state (live_word s) ≡ 1 = omega arith in
    let serial : place_serial (live_word s) ≡ s = omega arith in
    (λ j. judged frame n (state j) (serial j) (place_death (live_word s))) ∙ or_false (s == n)
usable-word frame n (dying s d) fits =
    let state : place_state (dying_word s d) ≡ 2 = omega arith in
    let serial : place_serial (dying_word s d) ≡ s = omega arith in
    let death : place_death (dying_word s d) ≡ d = omega arith in
    λ j. judged frame n (state j) (serial j) (death j)

-- the words of places, at one and with one changed
pub word_at : (places : List Place) (p : ℕ) → get_or (map word_of places) p 0 ≡ word_of (place_at places p)
word_at [] p = refl
word_at (x ∷ xs) zero = refl
word_at (x ∷ xs) (suc p) = word_at xs p

pub words_set : (places : List Place) (p : ℕ) (y : Place) → set (map word_of places) p (word_of y) ≡ map word_of (set places p y)
words_set [] p y = refl
words_set (x ∷ xs) zero y = refl
words_set (x ∷ xs) (suc p) y = ap (λ (l : List ℕ). word_of x ∷ l) (words_set xs p y)

-- a place that was set has the new state
pub place-set : (places : List Place) (p : ℕ) (y : Place) → p < length places → place_at (set places p y) p ≡ y
place-set [] p y near = absurd (omega arith)
place-set (x ∷ xs) zero y near = refl
place-set (x ∷ xs) (suc p) y near = place-set xs p y (omega arith)

-- and every other place stays
pub place-else : (places : List Place) (p q : ℕ) (y : Place) → q ≢ p → place_at (set places p y) q ≡ place_at places q
place-else [] p q y apart = refl
place-else (x ∷ xs) zero zero y apart = absurd (apart refl)
place-else (x ∷ xs) zero (suc q) y apart = refl
place-else (x ∷ xs) (suc p) zero y apart = refl
place-else (x ∷ xs) (suc p) (suc q) y apart = place-else xs p q y (λ (e : q ≡ p). apart (ap suc e))

-- ---- serials

pub up_to-le : (a b : ℕ) (x : Place) → a ≤ b → IsUpTo a x → IsUpTo b x
up_to-le a b x le h = omega arith

pub up_to-set : (a b p : ℕ) (y : Place) (places : List Place) → a ≤ b → IsUpTo b y → ((q : ℕ) → IsUpTo a (place_at places q)) → (q : ℕ) → IsUpTo b (place_at (set places p y) q)
up_to-set a b p y places le h all q = elim (set-cases places p q y) [
  | inl e ↦ let P : Place → Type 0 = λ z. IsUpTo b z in subst P (sym e.1) h
  | inr e ↦ let P : Place → Type 0 = λ z. IsUpTo b z in subst P (sym e) (up_to-le a b (place_at places q) le (all q))
]

-- ---- a place changes

-- a place that goes from x to y keeps what each recorder of the frame knows
pub record Moves (frame greatest : ℕ) (x y : Place) : Type 0 where
  pub follows : (g : ℕ) (old : Place) → g ≤ greatest → Follows frame g old x → Follows frame g old y
  pub usable : (n : ℕ) → has_usable frame n x ≡ true → has_usable frame n y ≡ true

pub creates : (frame greatest serial : ℕ) → greatest < serial → Moves frame greatest free (live serial)
creates frame greatest serial new = record {
  follows = λ g old le f. follows-create frame g serial old free (omega arith) refl f;
  usable = λ n h. usable-create frame n free (live serial) refl h;
}

pub destroys : (frame greatest serial : ℕ) → Moves frame greatest (live serial) (dying serial frame)
destroys frame greatest serial = record {
  follows = λ g old le f. follows-destroy frame g serial old (live serial) refl f;
  usable = λ n h. usable-destroy frame n serial frame (live serial) refl (omega arith) h;
}

pub reclaims : (frame greatest serial death : ℕ) → death < frame → Moves frame greatest (dying serial death) free
reclaims frame greatest serial death over = record {
  follows = λ g old le f. follows-reclaim frame g serial death old (dying serial death) refl over f;
  usable = λ n h. usable-reclaim frame n serial death (dying serial death) free refl over h;
}

-- all places follow after one has changed
pub follows_set : (frame greatest g p : ℕ) (y : Place) (olds places : List Place) → Moves frame greatest (place_at places p) y → g ≤ greatest
    → ((q : ℕ) → Follows frame g (place_at olds q) (place_at places q)) → (q : ℕ) → Follows frame g (place_at olds q) (place_at (set places p y) q)
follows_set frame greatest g p y olds places m le f = follow-set frame g olds places p y (m.follows g (place_at olds p) le) f

-- and what was asked is still there
pub there_set : (frame greatest p : ℕ) (y : Place) (places : List Place) → Moves frame greatest (place_at places p) y → (asked : List Asked) → AllThere frame places asked → AllThere frame (set places p y) asked
there_set frame greatest p y places m = all-map (IsThere frame places) (IsThere frame (set places p y)) (λ a h n u. stands-set places p y frame m.usable (record { place = a.place; serial = n }) (h n u))

pub shown_set : (frame greatest p : ℕ) (y : Place) (places : List Place) → Moves frame greatest (place_at places p) y → (shows : List Shown) → AllShown frame places shows → AllShown frame (set places p y) shows
shown_set frame greatest p y places m = all-map (IsOfFrame frame places) (IsOfFrame frame (set places p y)) (λ x h. (h.0, h.1, there_set frame greatest p y places m x.asked h.2, h.3))

-- a place that is asked now is there
pub there_snoc : (frame p : ℕ) (places : List Place) (asked : List Asked) → IsUpTo 4294967295 (place_at places p) → AllThere frame places asked
    → AllThere frame places (asked ++ record { place = p; word = word_of (place_at places p) } ∷ [])
there_snoc frame p places asked fits t =
    all-snoc (IsThere frame places) asked (record { place = p; word = word_of (place_at places p) }) t (λ n u. sym (usable-word frame n (place_at places p) fits) ∙ u)

-- a thing that was named is there
pub named_stands : (frame : ℕ) (places : List Place) (h : Handle) (asked : List Asked) → AllThere frame places asked → IsNamedIn frame h asked → IsTrue (has_usable frame h.serial (place_at places (place_of_handle h)))
named_stands frame places h [] t n = absurd n
named_stands frame places h (a ∷ rest) t n = elim n [
  | inl here ↦ subst (λ (p : ℕ). IsTrue (has_usable frame h.serial (place_at places p))) here.0 (t.0 h.serial here.1)
  | inr later ↦ named_stands frame places h rest t.1 later
]

-- ---- what a recorder learns of a place

-- a thing that was usable at the beginning is still usable
stays_usable : (frame greatest serial : ℕ) (old new : Place) → Follows frame greatest old new → has_usable frame serial old ≡ true → has_usable frame serial new ≡ true
stays_usable frame greatest serial old new (is_same e) h = ap (has_usable frame serial) e ∙ h
stays_usable frame greatest serial old new (is_dying d) h =
    let was : (d.0 == serial) ≡ true = ap (has_usable frame serial) (sym d.1) ∙ h in
    let le : nat_le frame frame ≡ true = grind arith in
    ap (has_usable frame serial) d.2 ∙ ap (λ b. b && nat_le frame frame) was ∙ le
stays_usable frame greatest serial old new (is_new never newer) h = absurd (never (nameable old h))
  where
    nameable : (x : Place) → has_usable frame serial x ≡ true → IsNameable frame x
    nameable free e = cc e
    nameable (live n) e = tt
    nameable (dying n death) e = let le : nat_le frame death ≡ true = (both-true (n == serial) (nat_le frame death) e).1 in grind (arith, le)

-- a thing of a serial given before the beginning that was not usable then is not usable
stays_refused : (frame greatest serial : ℕ) (old new : Place) → Follows frame greatest old new → serial ≤ greatest → has_usable frame serial old ≡ false → has_usable frame serial new ≡ false
stays_refused frame greatest serial old new (is_same e) le h = ap (has_usable frame serial) e ∙ h
stays_refused frame greatest serial old new (is_dying d) le h =
    let was : (d.0 == serial) ≡ false = ap (has_usable frame serial) (sym d.1) ∙ h in
    ap (has_usable frame serial) d.2 ∙ ap (λ b. b && nat_le frame frame) was
stays_refused frame greatest serial old new (is_new never newer) le h = other new newer
  where
    other : (x : Place) → IsNewer greatest x → has_usable frame serial x ≡ false
    other free g = refl
    other (live n) g = ne_eqb n serial (λ (e : n ≡ serial). omega arith)
    other (dying n death) g = ap (λ b. b && nat_le frame death) (ne_eqb n serial (λ (e : n ≡ serial). omega arith))

-- the same of the word that a load found
pub word-stays_usable : (v : SeatView) (p w serial : ℕ) → IsWordSince v p w → has_usable v.frame serial (place_at v.places p) ≡ true → is_usable_in v.frame w serial ≡ true
word-stays_usable v p w serial since h =
    ap (λ (n : ℕ). is_usable_in v.frame n serial) since.1 ∙ usable-word v.frame serial since.0 since.2 ∙ stays_usable v.frame v.greatest serial (place_at v.places p) since.0 since.3 h

pub word-stays_refused : (v : SeatView) (p w serial : ℕ) → IsWordSince v p w → serial ≤ v.greatest → has_usable v.frame serial (place_at v.places p) ≡ false → is_usable_in v.frame w serial ≡ false
word-stays_refused v p w serial since le h =
    ap (λ (n : ℕ). is_usable_in v.frame n serial) since.1 ∙ usable-word v.frame serial since.0 since.2 ∙ stays_refused v.frame v.greatest serial (place_at v.places p) since.0 since.3 le h

-- so a word is judged as the one at the beginning, where the serial was given before
pub word-judged : (v : SeatView) (p w serial : ℕ) → IsWordSince v p w → serial ≤ v.greatest → IsUpTo 4294967295 (place_at v.places p) → is_usable_in v.frame w serial ≡ is_usable_in v.frame (word_of (place_at v.places p)) serial
word-judged v p w serial since le fits = go (has_usable v.frame serial (place_at v.places p)) refl
  where
    begun : is_usable_in v.frame (word_of (place_at v.places p)) serial ≡ has_usable v.frame serial (place_at v.places p)
    begun = usable-word v.frame serial (place_at v.places p) fits

    go : (b : Bool) → has_usable v.frame serial (place_at v.places p) ≡ b → is_usable_in v.frame w serial ≡ is_usable_in v.frame (word_of (place_at v.places p)) serial
    go true e = word-stays_usable v p w serial since e ∙ sym (begun ∙ e)
    go false e = word-stays_refused v p w serial since le e ∙ sym (begun ∙ e)

-- what a test of a word said, told of the seat's frame and the handle's serial
pub told_of : (frame frame' w s s' : ℕ) (b x : Bool) → b ≡ is_usable_in frame w s → frame ≡ frame' → s ≡ s' → b ≡ x → is_usable_in frame' w s' ≡ x
told_of frame frame' w s s' b x e f g is = (λ j. is_usable_in (sym f j) w (sym g j)) ∙ sym e ∙ is

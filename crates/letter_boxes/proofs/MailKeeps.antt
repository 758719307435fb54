-- Each step keeps the rule of a letter box.
use Rattle.std.proofs.Common.{◌≡◌, ◌≢◌, ℕ, zero, suc, ◌+◌, ◌≤◌, true, All, List, [], ◌∷◌, ◌++◌, get_or, set, sym, refl, ap, ◌∙◌, subst, ⊎_elim, arith, Some, None, Option, is_some}
use mathlib.Core.Option.{none, some, some-injective, some-ne-none}
use mathlib.Core.Option as maybe
use lib.ListN.{get_elem?}
use Rattle.std.proofs.lemmas.Bool.{false≢true}
use Rattle.std.proofs.lemmas.List.Elements.{All-push}
use Rattle.std.proofs.lemmas.Option.{none-some}
use lib.Dec.{eqb}
use prog.Atomic.{either}
use Rattle.atomic_table.specs.Seated.{TableId}
use Rattle.atomic_table.specs.Table.{Act, step, rest, keeps, takes, gives, Valid, homes_after, carried_after, Allows, Enters as MayEnter}
use Rattle.atomic_table.proofs.Lists.{at_set, at_snoc}
use Rattle.hold_table.specs.declared.table.HoldTable.{HoldTable}
use Rattle.hold_table.specs.Seats.{table_of}
use Rattle.letter_boxes.specs.Mails.{MailView}
use Rattle.letter_boxes.specs.Letters.{Letter, IsOf}
use Rattle.letter_boxes.specs.Mail.{Mine, first_view, Phase, empty, busy, full, letter_code, code, home, holders, Fits, total, Kept, IsMail, carrying, holding, resting, Enters, Claims, Grabs, Finds, Rests}

abbrev Homes : Type 0
Homes = List (maybe.Option (Option Letter))

total_set : (l : List MailView) (i : ℕ) (v w : MailView) → get_elem? l i ≡ some v → total (set l i w) + v.holds ≡ total l + w.holds
total_set [] i v w e = absurd (some-ne-none v (sym e))
total_set (x ∷ xs) zero v w e = let is : x.holds ≡ v.holds = ap (λ (u : MailView). u.holds) (some-injective x v e) in omega arith
total_set (x ∷ xs) (suc i) v w e = let r = total_set xs i v w e in omega arith

total_snoc : (l : List MailView) (w : MailView) → total (l ++ w ∷ []) ≡ total l + w.holds
total_snoc [] w = omega arith
total_snoc (x ∷ xs) w = let r = total_snoc xs w in omega arith

total_at : (l : List MailView) (i : ℕ) (v : MailView) → get_elem? l i ≡ some v → v.holds ≤ total l
total_at [] i v e = absurd (some-ne-none v (sym e))
total_at (x ∷ xs) zero v e = let is : x.holds ≡ v.holds = ap (λ (u : MailView). u.holds) (some-injective x v e) in omega arith
total_at (x ∷ xs) (suc i) v e = let r = total_at xs i v e in omega arith

each_set : (t : TableId) (views : List MailView) (id : ℕ) (w : MailView) → ((i : ℕ) (v : MailView) → get_elem? views i ≡ some v → v.of ≡ t) → w.of ≡ t
    → (i : ℕ) (v : MailView) → get_elem? (set views id w) i ≡ some v → v.of ≡ t
each_set t views id w old new i v e = ⊎_elim
    (λ (h : (i ≡ id) × (w ≡ v)). ap (λ (u : MailView). u.of) (sym h.1) ∙ new)
    (λ (h : (i ≢ id) × (get_elem? views i ≡ some v)). old i v h.1)
    (at_set views id i w v e)

abbrev Done : HoldTable → List ℕ → Homes → List MailView → ℕ → Mine → (ℕ → ℕ) → (ℕ → Mine → Type 0) → Type 0
Done key ws hs vs id me f then = (w : MailView) × (a : Act (Option Letter)) × Valid hs me.1 a × IsMail key record { words = set ws 0 (f (get_or ws 0 0)); homes = homes_after hs me.1 a; views = set vs id w } × then (get_or ws 0 0) (w, carried_after me.1 a)

allows_from : (key : HoldTable) (slots id : ℕ) (me : Mine) (f : ℕ → ℕ) (then : ℕ → Mine → Type 0)
    → ((p : Phase) (views : List MailView) → Kept (table_of key) p views → get_elem? views id ≡ some me.0 → Done key (code p ∷ []) (home p ∷ []) views id me f then)
    → Allows (IsMail key) slots id me 0 f then
allows_from key slots id me f then h s r _ at _ =
    subst (λ (x : List ℕ × Homes). Done key x.0 x.1 s.views id me f then) (λ i. (sym r.words i, sym r.homes i)) (h r.phase s.views r.kept at)

-- the view of one seat changes, and with it the phase
moved : (t : TableId) (p q : Phase) (views : List MailView) (id : ℕ) (v w : MailView) → Kept t p views → get_elem? views id ≡ some v → w.of ≡ v.of → Fits t q
    → holders q + v.holds ≡ holders p + w.holds → Kept t q (set views id w)
moved t p q views id v w k at same fits counts = record {
  fits = fits;
  sum = let s = total_set views id v w at in let u = k.sum in omega arith;
  each = each_set t views id w k.each (same ∙ k.each id v at);
}

nothing : (key : HoldTable) (p : Phase) (views : List MailView) (id : ℕ) (me : Mine) → Kept (table_of key) p views → get_elem? views id ≡ some me.0
    → IsMail key record { words = code p ∷ []; homes = home p ∷ []; views = set views id me.0 }
nothing key p views id me k at = record { phase = p; words = refl; homes = refl; kept = moved (table_of key) p p views id me.0 me.0 k at refl k.fits refl }

enters_go : (key : HoldTable) (p : Phase) (views : List MailView) → Kept (table_of key) p views → Kept (table_of key) p (views ++ first_view key ∷ [])
enters_go key p views k = record {
  fits = k.fits;
  sum = let s = total_snoc views (first_view key) in let u = k.sum in omega arith;
  each = λ i v e. ⊎_elim (λ (h : get_elem? views i ≡ some v). k.each i v h) (λ (h : first_view key ≡ v). ap (λ (u : MailView). u.of) (sym h)) (at_snoc views (first_view key) v i e);
}

pub enters_keep : (key : HoldTable) (slots : ℕ) → MayEnter (IsMail key) slots 0 (λ n w. Enters (step slots 0 0 0 none) (first_view key, []) n (w, []))
enters_keep key slots s r _ _ = (first_view key, record { phase = r.phase; words = r.words; homes = r.homes; kept = enters_go key r.phase s.views r.kept }, refl)

pub claims_keep : (key : HoldTable) (slots id : ℕ) (me : Mine) → me.0.holds ≡ 0 → me.1 ≡ [] → Allows (IsMail key) slots id me 0 (λ n. either (eqb n 0) 1 n) (Claims (step slots 0 0 1 none) me)
claims_keep key slots id me none_held bare = allows_from key slots id me (λ n. either (eqb n 0) 1 n) (Claims (step slots 0 0 1 none) me) go
  where
    go : (p : Phase) (views : List MailView) → Kept (table_of key) p views → get_elem? views id ≡ some me.0 → Done key (code p ∷ []) (home p ∷ []) views id me (λ n. either (eqb n 0) 1 n) (Claims (step slots 0 0 1 none) me)
    go empty views k at = (
      holding me.0,
      takes 0 None,
      refl,
      record { phase = busy; words = refl; homes = refl; kept = moved (table_of key) empty busy views id me.0 (holding me.0) k at refl tt (omega (arith, none_held)) },
      ((λ e. λ i. (holding me.0, (0, None) ∷ bare i)), (λ ne. absurd (ne refl))),
    )
    go busy views k at = (me.0, keeps, tt, nothing key busy views id me k at, ((λ e. absurd (omega (arith, e))), (λ ne. refl)))
    go (full (Some x, s)) views k at = (me.0, keeps, tt, nothing key (full (Some x, s)) views id me k at, ((λ e. absurd (omega (arith, e))), (λ ne. refl)))
    go (full (None, s)) views k at = (me.0, keeps, tt, nothing key (full (None, s)) views id me k at, ((λ e. absurd (omega (arith, e))), (λ ne. refl)))

pub grabs_keep : (key : HoldTable) (slots id : ℕ) (me : Mine) → me.0.holds ≡ 0 → me.1 ≡ [] → Allows (IsMail key) slots id me 0 (λ n. either (eqb n 2) 1 n) (Grabs (step slots 0 2 1 none) me)
grabs_keep key slots id me none_held bare = allows_from key slots id me (λ n. either (eqb n 2) 1 n) (Grabs (step slots 0 2 1 none) me) go
  where
    go : (p : Phase) (views : List MailView) → Kept (table_of key) p views → get_elem? views id ≡ some me.0 → Done key (code p ∷ []) (home p ∷ []) views id me (λ n. either (eqb n 2) 1 n) (Grabs (step slots 0 2 1 none) me)
    go empty views k at = (me.0, keeps, tt, nothing key empty views id me k at, ((λ e. absurd (omega (arith, e))), (λ ne. refl)))
    go busy views k at = (me.0, keeps, tt, nothing key busy views id me k at, ((λ e. absurd (omega (arith, e))), (λ ne. refl)))
    go (full (Some x, s)) views k at = (
      holding me.0,
      takes 0 (Some (Some x, s)),
      refl,
      record { phase = busy; words = refl; homes = refl; kept = moved (table_of key) (full (Some x, s)) busy views id me.0 (holding me.0) k at refl tt (omega (arith, none_held)) },
      ((λ e. ((Some x, s), (λ i. (holding me.0, (0, Some (Some x, s)) ∷ bare i)), k.fits ∙ sym (k.each id me.0 at), refl)), (λ ne. absurd (ne refl))),
    )
    go (full (None, s)) views k at = (me.0, keeps, tt, nothing key (full (None, s)) views id me k at, ((λ e. absurd (omega (arith, e))), (λ ne. refl)))

pub finds_keep : (key : HoldTable) (slots id : ℕ) (me : Mine) → me.0.holds ≡ 0 → me.1 ≡ [] → Allows (IsMail key) slots id me 0 (λ n. either (eqb n 3) 1 n) (Finds (step slots 0 3 1 none) me)
finds_keep key slots id me none_held bare = allows_from key slots id me (λ n. either (eqb n 3) 1 n) (Finds (step slots 0 3 1 none) me) go
  where
    go : (p : Phase) (views : List MailView) → Kept (table_of key) p views → get_elem? views id ≡ some me.0 → Done key (code p ∷ []) (home p ∷ []) views id me (λ n. either (eqb n 3) 1 n) (Finds (step slots 0 3 1 none) me)
    go empty views k at = (me.0, keeps, tt, nothing key empty views id me k at, ((λ e. absurd (omega (arith, e))), (λ ne. refl)))
    go busy views k at = (me.0, keeps, tt, nothing key busy views id me k at, ((λ e. absurd (omega (arith, e))), (λ ne. refl)))
    go (full (Some x, s)) views k at = (me.0, keeps, tt, nothing key (full (Some x, s)) views id me k at, ((λ e. absurd (omega (arith, e))), (λ ne. refl)))
    go (full (None, s)) views k at = (
      holding me.0,
      takes 0 (Some (None, s)),
      refl,
      record { phase = busy; words = refl; homes = refl; kept = moved (table_of key) (full (None, s)) busy views id me.0 (holding me.0) k at refl tt (omega (arith, none_held)) },
      ((λ e. ((None, s), (λ i. (holding me.0, (0, Some (None, s)) ∷ bare i)), k.fits ∙ sym (k.each id me.0 at), refl)), (λ ne. absurd (ne refl))),
    )

-- the place is given back with what it now holds
abbrev after_rest : Option Letter → Phase
after_rest None = empty
after_rest (Some l) = full l

rests : (key : HoldTable) (slots id : ℕ) (me : Mine) (x : Option Letter) → me.0.holds ≡ 1 → me.1 ≡ carrying x → Fits me.0.of (after_rest x)
    → (n : ℕ) → n ≡ code (after_rest x) → (then : ℕ → Mine → Type 0) → ((r : ℕ) → then r (resting me.0, [])) → Allows (IsMail key) slots id me 0 (λ _. n) then
rests key slots id me x held has fits n is then told = allows_from key slots id me (λ _. n) then go
  where
    ended : (x : Option Letter) (c : List (ℕ × Option Letter)) → c ≡ carrying x → n ≡ code (after_rest x) → Fits me.0.of (after_rest x) → (views : List MailView) → Kept (table_of key) busy views → get_elem? views id ≡ some me.0
        → Done key (1 ∷ []) (none ∷ []) views id (me.0, c) (λ _. n) then
    ended None c has is fits views k at = subst (λ (y : List (ℕ × Option Letter) × ℕ). Done key (1 ∷ []) (none ∷ []) views id (me.0, y.0) (λ _. y.1) then) (λ i. (sym has i, sym is i))
        (resting me.0, gives, tt, record { phase = empty; words = refl; homes = refl; kept = moved (table_of key) busy empty views id me.0 (resting me.0) k at refl tt (omega (arith, held)) }, told 1)
    ended (Some l) c has is fits views k at = subst (λ (y : List (ℕ × Option Letter) × ℕ). Done key (1 ∷ []) (none ∷ []) views id (me.0, y.0) (λ _. y.1) then) (λ i. (sym has i, sym is i))
        (resting me.0, gives, tt, record { phase = full l; words = refl; homes = refl; kept = moved (table_of key) busy (full l) views id me.0 (resting me.0) k at refl (fits ∙ k.each id me.0 at) (omega (arith, held)) }, told 1)

    go : (p : Phase) (views : List MailView) → Kept (table_of key) p views → get_elem? views id ≡ some me.0 → Done key (code p ∷ []) (home p ∷ []) views id me (λ _. n) then
    go empty views k at = let one = total_at views id me.0 at in let none_out = k.sum in absurd (omega (arith, held))
    go busy views k at = ended x me.1 has is fits views k at
    go (full l) views k at = let one = total_at views id me.0 at in let none_out = k.sum in absurd (omega (arith, held))

pub posts_keep : (key : HoldTable) (slots id n : ℕ) (me : Mine) (l : Letter) → n ≡ letter_code l → me.0.holds ≡ 1 → me.1 ≡ carrying (Some l) → IsOf me.0.of l → Allows (IsMail key) slots id me 0 (λ _. n) (λ _. Rests (step slots 0 n 0 none) me n)
posts_keep key slots id n me l is held has fits = rests key slots id me (Some l) held has fits n is (λ _. Rests (step slots 0 n 0 none) me n) (λ r. refl)

pub clears_keep : (key : HoldTable) (slots id : ℕ) (me : Mine) → me.0.holds ≡ 1 → me.1 ≡ carrying None → Allows (IsMail key) slots id me 0 (λ _. 0) (λ _. Rests (step slots 0 0 0 none) me 0)
clears_keep key slots id me held has = rests key slots id me None held has tt 0 refl (λ _. Rests (step slots 0 0 0 none) me 0) (λ r. refl)

-- what was put into the place
pub filled : (old now : List (ℕ × Option Letter)) (y x : Option Letter) → old ≡ carrying y → now ≡ (0, x) ∷ rest old → now ≡ carrying x
filled old now y x e h = h ∙ (λ i. (0, x) ∷ rest (e i))

pub held_slot : (c : List (ℕ × Option Letter)) (x : Option Letter) → c ≡ carrying x → c ≡ (0, x) ∷ rest c
held_slot c x e = e ∙ (λ i. (0, x) ∷ rest (sym e i))

abbrev slot_value : List (ℕ × Option Letter) → Option Letter
slot_value [] = None
slot_value (x ∷ xs) = x.1

-- the value that was there is the one that the seat had
pub found : (c : List (ℕ × Option Letter)) (x y : Option Letter) → c ≡ carrying x → c ≡ (0, y) ∷ rest c → y ≡ x
found c x y e h = ap slot_value (sym h ∙ e)

-- the word of a letter says whether it has a recording
pub word_recorded : (l : Letter) → is_some l.0 ≡ true → 2 ≡ letter_code l
word_recorded (Some r, seat) e = refl
word_recorded (None, seat) e = absurd (false≢true e)

pub word_given_up : (l : Letter) → l.0 ≡ None → 3 ≡ letter_code l
word_given_up (Some r, seat) e = absurd (none-some _ (sym e))
word_given_up (None, seat) e = refl

pub recorded_word : (l : Letter) → letter_code l ≡ 2 → is_some l.0 ≡ true
recorded_word (Some r, seat) e = refl
recorded_word (None, seat) e = absurd (omega (arith, e))

pub given_up_word : (l : Letter) → letter_code l ≡ 3 → l.0 ≡ None
given_up_word (Some r, seat) e = absurd (omega (arith, e))
given_up_word (None, seat) e = refl

-- boxes of a table, and one more
pub all_pushed : {X : Type 0} → (xs ys : List X) (x : X) → ys ≡ xs ++ x ∷ [] → (f : X → HoldTable) (t : HoldTable) → All (λ b. table_of (f b) ≡ table_of t) xs → f x ≡ t → All (λ b. table_of (f b) ≡ table_of t) ys
all_pushed {X} xs ys x e f t each one = rw e (All-push (λ (b : X). table_of (f b) ≡ table_of t) xs x each (ap table_of one))

-- Each kind of step keeps the rule, and tells what it says.
use Rattle.std.proofs.Common.{◌≡◌, inr, ⊎_elim, ℕ, zero, suc, ◌+◌, ◌%◌, ◌^◌, ◌<◌, ◌≤◌, ◌==◌, Bool, true, false, if◌then◌else◌, IfSome, List, [], ◌∷◌, ◌++◌, length, get_or, set, sym, refl, ap, ◌∙◌, subst, arith, length-append, Option, Some, None}
use Rattle.std.proofs.lemmas.List.{append-nil}
use Rattle.std.proofs.lemmas.Bool.{cases_lt}
use mathlib.Core.Option.{none, some, some-injective, some-ne-none}
use mathlib.Core.Option as maybe
use lib.ListN.{get_elem?}
use Rattle.atomic_table.specs.Table.{State, Act, step, opening, keeps, Valid, homes_after, carried_after, Allows, Splits, Joins}
use Rattle.atomic_table.proofs.Lists.{set_again}
use Rattle.schedule_model.specs.Held.{count_of}
use Rattle.schedule_model.proofs.Lists.{count_of-append}
use Rattle.res_lock.specs.Histories.{LockEntry, part_of}
use Rattle.res_lock.specs.Views.{Heard, PassView, no_view, opening_view, written_in, split_from, split_off, hears, learnt, joined_with, without_pen, pen_view, pen_of, with_pen, appended, GoesOn, Mine, Looks, Learns, Appends}
use Rattle.res_lock.specs.Rule.{total, count_heard, has_caller, heard_length, caller_count, pen_count, has_pen, once_below, IsPass, Kept, IsHeld}
use Rattle.res_lock.proofs.PartLaws.{nil_of_parts, nil_of_same, part_none, part-append, part_own, goes_same}
use Rattle.res_lock.proofs.Totals.{total_set, below, not_below, count_here, next_below}
use Rattle.res_lock.proofs.Keeps.{first_at, split_kept, given_kept, learn_kept, append_kept, there_was, join_kept}

some_same : {A : Type 0} (x y : A) → Some x ≡ Some y → x ≡ y
some_same x y e = cc e

abbrev Homes : Type 0
Homes = List (maybe.Option (Unit {0}))

-- ---- a new table

pub opens : (key : Unit {0}) → IsHeld key (opening (0 ∷ []) [] opening_view)
opens key = record { log = []; next = 1; words = refl; kept = record { each = one_view; once = once; counted = omega arith; pens = omega arith; beyond = λ c le. refl } }
  where
    one_view : (i : ℕ) (v : PassView) → get_elem? (opening_view ∷ []) i ≡ some v → IsPass [] 1 i v
    one_view zero v e = subst (λ (u : PassView). IsPass [] 1 0 u) (some-injective opening_view v e) (record { sees = goes_same (0 ∷ []) []; hears = tt; writes = refl; first = inr (refl, refl) })
    one_view (suc i) v e = absurd (some-ne-none v (sym e))

    once : (c : ℕ) → total (has_caller c) (opening_view ∷ []) ≡ once_below 1 c
    once c = let n = next_below 0 c in let z = not_below 0 c (omega arith) in omega arith

-- ---- passes are split off and joined

pub splits_off : (key : Unit {0}) (id : ℕ) (v : PassView) → 0 < v.next → Splits (IsHeld key) id v (split_from v) (split_off v)
splits_off key id v some_next s r at = record { log = r.log; next = r.next + 1; words = r.words; kept = split_kept r.log r.next s.views r.kept id v at some_next }

pub gives_pen : (key : Unit {0}) (id : ℕ) (v : PassView) → Splits (IsHeld key) id v (without_pen v) (pen_of v)
gives_pen key id v s r at = record { log = r.log; next = r.next; words = r.words; kept = given_kept r.log r.next s.views r.kept id v at }

-- the other pass has no pen and has heard nothing, and so has not the first
pub hears_other : (key : Unit {0}) (id : ℕ) (v : PassView) (other : ℕ) (w : PassView) → v.heard ≡ None → w.heard ≡ None → w.pen ≡ None → Joins (IsHeld key) id v other w (hears v w) no_view
hears_other key id v other w deaf deaf_too no_pen s r at ne there =
    let k = r.kept in
    let was = there_was r.log r.next s.views k id other v w (hears v w) at ne there in
    let is = k.each id v at in
    let theirs = k.each other w was in
    let none : (c : ℕ) → count_heard c v.heard ≡ 0 = λ c. ap (count_heard c) deaf in
    let none_too : (c : ℕ) → count_heard c w.heard ≡ 0 = λ c. ap (count_heard c) deaf_too in
    let few : heard_length v.heard ≡ 0 = ap heard_length deaf in
    let few_too : heard_length w.heard ≡ 0 = ap heard_length deaf_too in
    let unpenned : has_pen w ≡ 0 = ap pen_count no_pen in
    record {
      log = r.log;
      next = r.next;
      words = r.words;
      kept = join_kept r.log r.next s.views k id other v w (hears v w) at ne there (record { sees = is.sees; hears = theirs.sees; writes = is.writes; first = is.first }) (λ c. let a = none c in let b = none_too c in omega arith) (omega arith) (omega arith);
    }

-- a pen has no caller and has heard nothing, and the pass has no pen
pub takes_pen : (key : Unit {0}) (id : ℕ) (v : PassView) (other : ℕ) (w : PassView) (log : List LockEntry) → v.pen ≡ None → w ≡ pen_view log → Joins (IsHeld key) id v other w (with_pen v w) no_view
takes_pen key id v other w log no_pen is_pen s r at ne there =
    let k = r.kept in
    let was = there_was r.log r.next s.views k id other v w (with_pen v w) at ne there in
    let is = k.each id v at in
    let theirs = k.each other w was in
    let none : (c : ℕ) → has_caller c w ≡ 0 = λ c. ap (has_caller c) is_pen in
    let few : caller_count w ≡ 0 = ap caller_count is_pen in
    let unpenned : has_pen v ≡ 0 = ap pen_count no_pen in
    record {
      log = r.log;
      next = r.next;
      words = r.words;
      kept = join_kept r.log r.next s.views k id other v w (with_pen v w) at ne there (record { sees = is.sees; hears = is.hears; writes = theirs.writes; first = is.first }) (λ c. let a = none c in omega arith) (omega arith) (omega arith);
    }

-- ---- steps on the word

-- what a step does, on a state whose word counts the history
abbrev Done : (key : Unit {0}) → List ℕ → Homes → List PassView → ℕ → Mine → (ℕ → ℕ) → (ℕ → Mine → Type 0) → Type 0
Done key ws hs vs id m f tells = (w : PassView) × (a : Act (Unit {0})) × Valid hs m.1 a × IsHeld key record { words = set ws 0 (f (get_or ws 0 0)); homes = homes_after hs m.1 a; views = set vs id w } × tells (get_or ws 0 0) (w, carried_after m.1 a)

allows_from : (key : Unit {0}) (slots id : ℕ) (m : Mine) (f : ℕ → ℕ) (tells : ℕ → Mine → Type 0)
    → ((log : List LockEntry) (next : ℕ) (hs : Homes) (views : List PassView) → Kept log next views → get_elem? views id ≡ some m.0 → Done key (length log ∷ []) hs views id m f tells)
    → Allows (IsHeld key) slots id m 0 f tells
allows_from key slots id m f tells h s r _ at _ =
    subst (λ (ws : List ℕ). Done key ws s.homes s.views id m f tells) (sym r.words) (h r.log r.next s.homes s.views r.kept at)

pub looks_keep : (key : Unit {0}) (slots id : ℕ) (m : Mine) → Allows (IsHeld key) slots id m 0 (λ n. n) (Looks (step slots 0 0 0 none) m)
looks_keep key slots id m = allows_from key slots id m (λ n. n) (Looks (step slots 0 0 0 none) m) go
  where
    go : (log : List LockEntry) (next : ℕ) (hs : Homes) (views : List PassView) → Kept log next views → get_elem? views id ≡ some m.0 → Done key (length log ∷ []) hs views id m (λ n. n) (Looks (step slots 0 0 0 none) m)
    go log next hs views k at = (
      m.0,
      keeps,
      tt,
      record { log = log; next = next; words = refl; kept = subst (Kept log next) (sym (set_again views id m.0 at)) k },
      (refl, λ some_next. part_none m.0.next m.0.seen log (k.each id m.0 at).sees.0 (k.beyond m.0.next (let e = (first_at log next views k id m.0 at some_next).1 in omega arith))),
    )

pub learns_keep : (key : Unit {0}) (slots id : ℕ) (m : Mine) (h : Heard) → m.0.heard ≡ Some h → Allows (IsHeld key) slots id m 0 (λ n. n) (Learns (step slots 0 0 0 none) m)
learns_keep key slots id m h is_heard = allows_from key slots id m (λ n. n) (Learns (step slots 0 0 0 none) m) go
  where
    go : (log : List LockEntry) (next : ℕ) (hs : Homes) (views : List PassView) → Kept log next views → get_elem? views id ≡ some m.0 → Done key (length log ∷ []) hs views id m (λ n. n) (Learns (step slots 0 0 0 none) m)
    go log next hs views k at = (
      learnt h m.0,
      keeps,
      tt,
      record { log = log; next = next; words = refl; kept = (learn_kept log next views k id m.0 at h is_heard).0 },
      λ x is. let same : h ≡ x = some_same h x (sym is_heard ∙ is) in ((λ j. (learnt (same j) m.0, m.1)), (learn_kept log next views k id m.0 at x is).1, (learn_kept log next views k id m.0 at x is).2),
    )

pub appends_keep : (key : Unit {0}) (slots id : ℕ) (m : Mine) (e : LockEntry) (xs : List LockEntry) → m.0.pen ≡ Some xs → 0 < count_of e.caller m.0.callers → length xs < 18446744073709551615
    → Allows (IsHeld key) slots id m 0 (λ n. (n + 1) % 2 ^ 64) (Appends e (step slots 0 1 0 none) m)
appends_keep key slots id m e xs is_pen mine few = allows_from key slots id m (λ n. (n + 1) % 2 ^ 64) (Appends e (step slots 0 1 0 none) m) go
  where
    go : (log : List LockEntry) (next : ℕ) (hs : Homes) (views : List PassView) → Kept log next views → get_elem? views id ≡ some m.0 → Done key (length log ∷ []) hs views id m (λ n. (n + 1) % 2 ^ 64) (Appends e (step slots 0 1 0 none) m)
    go log next hs views k at =
        let r = append_kept log next views k id m.0 at e xs is_pen mine in
        let same_length : length xs ≡ length log = ap length r.0 in
        let long = length-append log (e ∷ []) in
        let word : (length log + 1) % 18446744073709551616 ≡ length (log ++ e ∷ []) = omega arith in (
          appended e log m.0,
          keeps,
          tt,
          record { log = log ++ e ∷ []; next = next; words = ap (λ (n : ℕ). n ∷ []) word; kept = r.1 },
          λ x is. let same : log ≡ x = sym r.0 ∙ some_same xs x (sym is_pen ∙ is) in ((λ j. (appended e (same j) m.0, m.1)), subst (GoesOn m.0.callers m.0.seen) same r.2),
        )

-- the pen is taken over, an entry is appended, and the pen is given up
module _ (slots : ℕ) (v pw : PassView) (no_pen : v.pen ≡ None) (is_pen : pw ≡ pen_view (written_in pw.pen)) (e : LockEntry) where
  penned : pw.pen ≡ Some (written_in pw.pen)
  penned = ap (λ (u : PassView). u.pen) is_pen

  pub appends_after : (key : Unit {0}) (id : ℕ) (hand : List (ℕ × Unit {0})) (m : Mine) (c : ℕ) → m ≡ (with_pen v pw, hand) → e.caller ≡ c → 0 < count_of c v.callers → length (written_in pw.pen) < 18446744073709551615
      → Allows (IsHeld key) slots id m 0 (λ n. (n + 1) % 2 ^ 64) (Appends e (step slots 0 1 0 none) m)
  appends_after key id hand m c is own mine few = subst (λ (x : Mine). Allows (IsHeld key) slots id x 0 (λ n. (n + 1) % 2 ^ 64) (Appends e (step slots 0 1 0 none) x)) (sym is)
      (appends_keep key slots id (with_pen v pw, hand) e (written_in pw.pen) penned (subst (λ (x : ℕ). 0 < count_of x v.callers) (sym own) mine) few)

  -- what the pass and the new pen know then
  pub record Appended (hand : List (ℕ × Unit {0})) (m p : Mine) : Type 0 where
    pub view : m.0 ≡ record v { seen = written_in pw.pen ++ e ∷ [] }
    pub hand_is : m.1 ≡ hand
    pub pen : p.0 ≡ pen_view (written_in pw.pen ++ e ∷ [])
    pub no_hand : p.1 ≡ []
    pub on : GoesOn v.callers v.seen (written_in pw.pen)

  pub appended_after : (hand : List (ℕ × Unit {0})) (r : ℕ) (m n m' p : Mine) → m ≡ (with_pen v pw, hand) → Appends e (step slots 0 1 0 none) m r n → m' ≡ (without_pen n.0, n.1) → p ≡ (pen_of n.0, []) → Appended hand m' p
  appended_after hand r m n m' p is told given taken =
      let told_here : Appends e (step slots 0 1 0 none) (with_pen v pw, hand) r n = subst (λ (x : Mine). Appends e (step slots 0 1 0 none) x r n) is told in
      let here = told_here (written_in pw.pen) penned in
      record {
        view = ap (λ x. x.0) given ∙ (ap (λ (x : Mine). without_pen x.0) here.0 ∙ ap (λ o. record v { seen = written_in pw.pen ++ e ∷ []; pen = o }) (sym no_pen));
        hand_is = ap (λ x. x.1) given ∙ ap (λ (x : Mine). x.1) here.0;
        pen = ap (λ x. x.0) taken ∙ ap (λ (x : Mine). pen_of x.0) here.0;
        no_hand = ap (λ x. x.1) taken;
        on = here.1;
      }

-- a pen's view by the history that it stands for
pub pen_again : (w : PassView) (log : List LockEntry) → w ≡ pen_view log → w ≡ pen_view (written_in w.pen)
pen_again w log e = e ∙ ap (λ (u : PassView). pen_view (written_in u.pen)) (sym e)

-- one entry more of the caller
pub made_next : (callers : List ℕ) (seen log : List LockEntry) (e : LockEntry) (c : ℕ) → GoesOn callers seen log → 0 < count_of c callers → e.caller ≡ c → length (part_of c seen) + 1 ≡ length (part_of c (log ++ e ∷ []))
made_next callers seen log e c g mine own =
    let is : part_of c (log ++ e ∷ []) ≡ part_of c seen ++ e ∷ [] = part-append c log (e ∷ []) ∙ ((λ j. g.1 c mine j ++ part_own c e own j)) in
    let long = length-append (part_of c seen) (e ∷ []) in
    let same : length (part_of c (log ++ e ∷ [])) ≡ length (part_of c seen ++ e ∷ []) = ap length is in
    omega arith

-- ---- what a join tells

-- what was heard is learnt, and the passes' histories are beginnings of what is seen then
pub record Joined (v w : PassView) (hand : List (ℕ × Unit {0})) (m : Mine) : Type 0 where
  pub view : m.0 ≡ joined_with v w
  pub hand_is : m.1 ≡ hand
  pub own : GoesOn v.callers v.seen m.0.seen
  pub others : GoesOn w.callers w.seen m.0.seen

pub joined_after : (slots : ℕ) (v w : PassView) (hand : List (ℕ × Unit {0})) (r : ℕ) (m n : Mine) → m ≡ (hears v w, hand) → Learns (step slots 0 0 0 none) m r n → Joined v w hand n
joined_after slots v w hand r m n is told =
    let told_here : Learns (step slots 0 0 0 none) (hears v w, hand) r n = subst (λ (x : Mine). Learns (step slots 0 0 0 none) x r n) is told in
    let here = told_here (record { callers = w.callers; seen = w.seen }) refl in
    let view : n.0 ≡ joined_with v w = ap (λ x. x.0) here.0 in
    record {
      view = view;
      hand_is = ap (λ (x : Mine). x.1) here.0;
      own = subst (GoesOn v.callers v.seen) (sym (ap (λ (u : PassView). u.seen) view)) here.1;
      others = subst (GoesOn w.callers w.seen) (sym (ap (λ (u : PassView). u.seen) view)) here.2;
    }

-- the callers of a pass are among those of both
pub own_caller : (c : ℕ) (xs ys : List ℕ) → 0 < count_of c xs → 0 < count_of c (xs ++ ys)
own_caller c xs ys lt = let a = count_of-append c xs ys in omega arith

-- ---- the end

total_less : (f g : PassView → ℕ) (l : List PassView) → ((v : PassView) → f v ≤ g v) → total f l ≤ total g l
total_less f g [] h = omega arith
total_less f g (x ∷ xs) h = let r = total_less f g xs h in let here = h x in omega arith

count_most : (c : ℕ) (xs : List ℕ) → count_of c xs ≤ length xs
count_most c [] = omega arith
count_most c (x ∷ xs) = let r = count_most c xs in one (x == c) r
  where
    one : (b : Bool) → count_of c xs ≤ length xs → (if b then 1 else 0) + count_of c xs ≤ length (x ∷ xs)
    one true le = omega arith
    one false le = omega arith

heard_most : (c : ℕ) (o : Option Heard) → count_heard c o ≤ heard_length o
heard_most c None = omega arith
heard_most c (Some h) = count_most c h.callers

has_most : (c : ℕ) (v : PassView) → has_caller c v ≤ caller_count v
has_most c v = let a = count_most c v.callers in let b = heard_most c v.heard in omega arith

-- where a pass with the pen has every caller, it has seen the whole history
pub closes : (key : Unit {0}) (s : State (Unit {0}) PassView) → IsHeld key s → (id : ℕ) (v : PassView) (log : List LockEntry) → get_elem? s.views id ≡ some v → v.pen ≡ Some log → v.heard ≡ None → 0 < v.next → length v.callers ≡ v.next → log ≡ v.seen
closes key s r id v log at is_pen deaf some_next all =
    let k = r.kept in
    let is = k.each id v at in
    let same : log ≡ r.log = subst (λ (o : Option (List LockEntry)). IfSome o (λ x. x ≡ r.log)) is_pen is.writes in
    let here = first_at r.log r.next s.views k id v at some_next in
    let rest : List LockEntry = is.sees.0.0 in
    let silent : (c : ℕ) → part_of c rest ≡ [] = λ c. nil_of_same (part_of c v.seen) (part_of c rest) (sym (part-append c v.seen rest) ∙ (ap (part_of c) (sym is.sees.0.1) ∙ whole here.1 c)) in
    same ∙ (is.sees.0.1 ∙ (ap (λ l. v.seen ++ l) (nil_of_parts rest silent) ∙ append-nil v.seen))
  where
    no_other : v.next ≡ r.next → total caller_count (set s.views id no_view) ≡ 0
    no_other e =
        let t = total_set caller_count s.views id v no_view at in
        let c = r.kept.counted in
        let none : heard_length v.heard ≡ 0 = ap heard_length deaf in
        omega arith

    mine : v.next ≡ r.next → (c : ℕ) → c < r.next → 0 < count_of c v.callers
    mine e c lt =
        let t = total_set (has_caller c) s.views id v no_view at in
        let less = total_less (has_caller c) caller_count (set s.views id no_view) (has_most c) in
        let o = r.kept.once c in
        let b = below r.next c lt in
        let n = no_other e in
        let none : count_heard c v.heard ≡ 0 = ap (count_heard c) deaf in
        omega arith

    whole : v.next ≡ r.next → (c : ℕ) → part_of c r.log ≡ part_of c v.seen
    whole e c = ⊎_elim
        (λ (lt : c < r.next). (r.kept.each id v at).sees.1 c (mine e c lt))
        (λ (le : r.next ≤ c). let empty = r.kept.beyond c le in empty ∙ sym (part_none c v.seen r.log (r.kept.each id v at).sees.0 empty))
        (cases_lt c r.next)

-- the same where the pass has just taken the pen over
pub closes_with : (key : Unit {0}) (s : State (Unit {0}) PassView) → IsHeld key s → (id : ℕ) (v pw u : PassView) → u ≡ with_pen v pw → get_elem? s.views id ≡ some u → pw ≡ pen_view (written_in pw.pen) → v.heard ≡ None → 0 < v.next → length v.callers ≡ v.next → written_in pw.pen ≡ v.seen
closes_with key s r id v pw u is at is_pen deaf some_next all = closes key s r id (with_pen v pw) (written_in pw.pen) (at ∙ ap some is) (ap (λ (x : PassView). x.pen) is_pen) deaf some_next all

-- no caller from the next one on has an entry
pub closes_beyond : (key : Unit {0}) (s : State (Unit {0}) PassView) → IsHeld key s → (id : ℕ) (v pw u : PassView) → u ≡ with_pen v pw → get_elem? s.views id ≡ some u → 0 < v.next → (c : ℕ) → v.next ≤ c → part_of c v.seen ≡ []
closes_beyond key s r id v pw u is at some_next c le =
    let mine = at ∙ ap some is in
    let here = first_at r.log r.next s.views r.kept id (with_pen v pw) mine some_next in
    let same : v.next ≡ r.next = here.1 in
    part_none c v.seen r.log (r.kept.each id (with_pen v pw) mine).sees.0 (r.kept.beyond c (omega (arith, same, le)))

-- the pass of the next caller has it
pub new_caller : (c next : ℕ) → c ≡ next → 0 < count_of c (next ∷ [])
new_caller c next e = let h : count_of c (next ∷ []) ≡ 1 = ap (λ (n : ℕ). count_of c (n ∷ [])) (sym e) ∙ count_here c in omega arith

-- Each change of views keeps the rule.
use Rattle.std.proofs.Common.{◌≡◌, ◌≢◌, inl, inr, ◌⊎◌, ℕ, zero, suc, ◌+◌, ◌<◌, ◌≤◌, List, [], ◌∷◌, ◌++◌, length, set, sym, refl, ap, ◌∙◌, subst, arith, ⊎_elim, length-append, Option, Some, None, IfSome}
use mathlib.Core.Option.{some, some-injective, some-ne-none}
use mathlib.Core.Logic.{dite}
use native.Mathlib.Decide.{ℕ_discrete}
use lib.ListN.{get_elem?}
use Rattle.atomic_table.proofs.Lists.{at_set, set_else}
use Rattle.schedule_model.specs.Held.{count_of}
use Rattle.schedule_model.proofs.Lists.{count_of-append}
use Rattle.res_lock.specs.Histories.{LockEntry, part_of}
use Rattle.res_lock.specs.Views.{Heard, PassView, no_view, split_from, split_off, longer, learnt, without_pen, pen_of, appended, IsWholeIn, GoesOn}
use Rattle.res_lock.specs.Rule.{total, count_heard, has_caller, heard_length, caller_count, pen_count, has_pen, once_below, IsPass, Kept}
use Rattle.res_lock.proofs.PartLaws.{part-append, part_other, part_none, goes_same, goes_nothing, goes_between, goes_snoc, longer_between}
use Rattle.res_lock.proofs.Totals.{total_set, total_snoc, total_at, total_two, not_below, once_most, count_other, next_below}

-- ---- one view

abbrev EachIs : List LockEntry → ℕ → List PassView → Type 0
EachIs log next views = (i : ℕ) (v : PassView) → get_elem? views i ≡ some v → IsPass log next i v

-- what the rule says of each view, where one changes
each_set : (log : List LockEntry) (next : ℕ) (views : List PassView) (id : ℕ) (w : PassView) → ((i : ℕ) (v : PassView) → i ≢ id → get_elem? views i ≡ some v → IsPass log next i v) → IsPass log next id w → EachIs log next (set views id w)
each_set log next views id w old new i v e = ⊎_elim
    (λ (t : (i ≡ id) × (w ≡ v)). subst (λ (y : ℕ × PassView). IsPass log next y.0 y.1) (λ j. (sym t.0 j, t.1 j)) new)
    (λ (t : (i ≢ id) × (get_elem? views i ≡ some v)). old i v t.0 t.1)
    (at_set views id i w v e)

-- the views before the last, and the last
at_end : (l : List PassView) (a b : PassView) (j : ℕ) → get_elem? (l ++ a ∷ []) j ≡ some b → (get_elem? l j ≡ some b) ⊎ ((j ≡ length l) × (a ≡ b))
at_end [] a b zero e = inr (refl, some-injective a b e)
at_end [] a b (suc j) e = absurd (some-ne-none b (sym e))
at_end (x ∷ xs) a b zero e = inl e
at_end (x ∷ xs) a b (suc j) e = ⊎_elim (λ t. inl t) (λ t. inr (ap suc t.0, t.1)) (at_end xs a b j e)

each_snoc : (log : List LockEntry) (next : ℕ) (views : List PassView) (w : PassView) → EachIs log next views → IsPass log next (length views) w → EachIs log next (views ++ w ∷ [])
each_snoc log next views w old new i v e = ⊎_elim
    (λ (t : get_elem? views i ≡ some v). old i v t)
    (λ (t : (i ≡ length views) × (w ≡ v)). subst (λ (y : ℕ × PassView). IsPass log next y.0 y.1) (λ j. (sym t.0 j, t.1 j)) new)
    (at_end views w v i e)

-- a pass that is spent
spent_is : (log : List LockEntry) (next i : ℕ) → IsPass log next i no_view
spent_is log next i = record { sees = goes_nothing log; hears = tt; writes = tt; first = inl refl }

module _ (log : List LockEntry) (next : ℕ) (views : List PassView) (k : Kept log next views) (id : ℕ) (v : PassView) (at : get_elem? views id ≡ some v) where
  -- the first pass is the seat 0, and has the next caller's number
  pub first_at : 0 < v.next → (id ≡ 0) × (v.next ≡ next)
  first_at some_next = ⊎_elim (λ (z : v.next ≡ 0). absurd (omega arith)) (λ t. t) (k.each id v at).first

  -- a pass split off
  pub split_kept : 0 < v.next → Kept log (next + 1) (set views id (split_from v) ++ split_off v ∷ [])
  split_kept some_next =
      let here = first_at some_next in
      let is = k.each id v at in
      let none : part_of v.next log ≡ [] = k.beyond v.next (omega (arith, here.1)) in
      let others : (i : ℕ) (u : PassView) → i ≢ id → get_elem? views i ≡ some u → IsPass log (next + 1) i u = λ i u ne e.
      let was = k.each i u e in
      record {
        sees = was.sees;
        hears = was.hears;
        writes = was.writes;
        first = ⊎_elim (λ (z : u.next ≡ 0). inl z) (λ (t : (i ≡ 0) × (u.next ≡ next)). absurd (ne (t.0 ∙ sym here.0))) was.first;
      } in
      let left : IsPass log (next + 1) id (split_from v) = record { sees = is.sees; hears = is.hears; writes = is.writes; first = inr (here.0, ap (λ (n : ℕ). n + 1) here.1) } in
      let whole : IsWholeIn (v.next ∷ []) v.seen log = λ c one.
      let same : v.next ≡ c = own v.next c one in
      let empty : part_of c log ≡ [] = ap (λ (x : ℕ). part_of x log) (sym same) ∙ none in
      empty ∙ sym (part_none c v.seen log is.sees.0 empty) in
      let right : IsPass log (next + 1) (length (set views id (split_from v))) (split_off v) = record { sees = (is.sees.0, whole); hears = tt; writes = tt; first = inl refl } in
      record {
        each = each_snoc log (next + 1) (set views id (split_from v)) (split_off v) (each_set log (next + 1) views id (split_from v) others left) right;
        once = λ c.
            let s = total_set (has_caller c) views id v (split_from v) at in
            let t = total_snoc (has_caller c) (set views id (split_from v)) (split_off v) in
            let o = k.once c in
            let n : once_below next c + count_of c (v.next ∷ []) ≡ once_below (next + 1) c = ap (λ (x : ℕ). once_below next c + count_of c (x ∷ [])) here.1 ∙ next_below next c in
            omega arith;
        counted = let s = total_set caller_count views id v (split_from v) at in let t = total_snoc caller_count (set views id (split_from v)) (split_off v) in let c = k.counted in omega arith;
        pens = let s = total_set has_pen views id v (split_from v) at in let t = total_snoc has_pen (set views id (split_from v)) (split_off v) in let c = k.pens in omega arith;
        beyond = λ c le. k.beyond c (omega arith);
      }
    where
      own : (n c : ℕ) → 0 < count_of c (n ∷ []) → n ≡ c
      own n c one = dite (ℕ_discrete n c) (λ (same : n ≡ c). same) (λ (ne : n ≢ c). let z = count_other c n ne in absurd (omega arith))

  -- the pen goes to a pass of its own
  pub given_kept : Kept log next (set views id (without_pen v) ++ pen_of v ∷ [])
  given_kept =
      let is = k.each id v at in
      let left : IsPass log next id (without_pen v) = record { sees = is.sees; hears = is.hears; writes = tt; first = is.first } in
      let right : IsPass log next (length (set views id (without_pen v))) (pen_of v) = record { sees = goes_nothing log; hears = tt; writes = is.writes; first = inl refl } in
      record {
        each = each_snoc log next (set views id (without_pen v)) (pen_of v) (each_set log next views id (without_pen v) (λ i u ne e. k.each i u e) left) right;
        once = λ c. let s = total_set (has_caller c) views id v (without_pen v) at in let t = total_snoc (has_caller c) (set views id (without_pen v)) (pen_of v) in let o = k.once c in omega arith;
        counted = let s = total_set caller_count views id v (without_pen v) at in let t = total_snoc caller_count (set views id (without_pen v)) (pen_of v) in let c = k.counted in omega arith;
        pens = let s = total_set has_pen views id v (without_pen v) at in let t = total_snoc has_pen (set views id (without_pen v)) (pen_of v) in let c = k.pens in omega arith;
        beyond = k.beyond;
      }

  -- what was heard is learnt
  pub learn_kept : (h : Heard) → v.heard ≡ Some h → Kept log next (set views id (learnt h v)) × GoesOn v.callers v.seen (longer v.seen h.seen) × GoesOn h.callers h.seen (longer v.seen h.seen)
  learn_kept h is_heard =
      let is = k.each id v at in
      let heard : GoesOn h.callers h.seen log = subst (λ (o : Option Heard). IfSome o (λ x. GoesOn x.callers x.seen log)) is_heard is.hears in
      let p = longer_between v.seen h.seen log is.sees.0 heard.0 in
      let mine = goes_between v.callers v.seen (longer v.seen h.seen) log is.sees p.0 p.2 in
      let theirs = goes_between h.callers h.seen (longer v.seen h.seen) log heard p.1 p.2 in
      let whole : IsWholeIn (v.callers ++ h.callers) (longer v.seen h.seen) log = λ c one. ⊎_elim
      (λ (z : 0 < count_of c v.callers). mine.1.1 c z)
      (λ (z : 0 < count_of c h.callers). theirs.1.1 c z)
      (either_one (count_of c v.callers) (count_of c h.callers) (let a = count_of-append c v.callers h.callers in omega arith)) in
      let heard_count : (c : ℕ) → count_heard c v.heard ≡ count_of c h.callers = λ c. ap (count_heard c) is_heard in
      let heard_many : heard_length v.heard ≡ length h.callers = ap heard_length is_heard in (
        record {
          each = each_set log next views id (learnt h v) (λ i u ne e. k.each i u e) (record { sees = (p.2, whole); hears = tt; writes = is.writes; first = is.first });
          once = λ c. let s = total_set (has_caller c) views id v (learnt h v) at in let o = k.once c in let a = count_of-append c v.callers h.callers in let n = heard_count c in omega arith;
          counted = let s = total_set caller_count views id v (learnt h v) at in let c = k.counted in let a = length-append v.callers h.callers in omega arith;
          pens = let s = total_set has_pen views id v (learnt h v) at in let c = k.pens in omega arith;
          beyond = k.beyond;
        },
        mine.0,
        theirs.0,
      )
    where
      either_one : (a b : ℕ) → 0 < a + b → (0 < a) ⊎ (0 < b)
      either_one zero b lt = inr (omega arith)
      either_one (suc a) b lt = inl (omega arith)

  -- an entry of a caller of the pass is appended
  pub append_kept : (e : LockEntry) (xs : List LockEntry) → v.pen ≡ Some xs → 0 < count_of e.caller v.callers → (xs ≡ log) × Kept (log ++ e ∷ []) next (set views id (appended e log v)) × GoesOn v.callers v.seen log
  append_kept e xs is_pen mine =
      let is = k.each id v at in
      let same : xs ≡ log = subst (λ (o : Option (List LockEntry)). IfSome o (λ x. x ≡ log)) is_pen is.writes in
      let w : PassView = appended e log v in
      let mine_once : 1 ≤ has_caller e.caller v = omega arith in
      let total_once : total (has_caller e.caller) views ≤ 1 = let o = k.once e.caller in let m = once_most next e.caller in omega arith in
      let penned : has_pen v ≡ 1 = ap pen_count is_pen in
      let other : (i : ℕ) (u : PassView) → i ≢ id → get_elem? views i ≡ some u → IsPass (log ++ e ∷ []) next i u = λ i u ne there.
      let was = k.each i u there in
      let two = total_two (has_caller e.caller) views id i v u ne at there refl in
      let none : has_caller e.caller u ≡ 0 = omega arith in
      let pens = total_two has_pen views id i v u ne at there refl in
      let unpenned : has_pen u ≡ 0 = let one = k.pens in omega arith in
      record {
        sees = goes_snoc u.callers u.seen log e was.sees (omega arith);
        hears = heard_more u.heard (omega arith) was.hears;
        writes = none_written u.pen unpenned;
        first = was.first;
      } in (
        same,
        record {
          each = each_set (log ++ e ∷ []) next views id w other (record { sees = goes_same v.callers (log ++ e ∷ []); hears = heard_more v.heard (let one = total_at (has_caller e.caller) views id v at in omega arith) is.hears; writes = refl; first = is.first });
          once = λ c. let s = total_set (has_caller c) views id v w at in let o = k.once c in omega arith;
          counted = let s = total_set caller_count views id v w at in let c = k.counted in omega arith;
          pens = let s = total_set has_pen views id v w at in let c = k.pens in omega arith;
          beyond = λ c le.
              let above : e.caller ≢ c = λ (z : e.caller ≡ c). let o = k.once e.caller in let n = not_below next e.caller (omega (arith, z)) in let a = total_at (has_caller e.caller) views id v at in absurd (omega arith) in
              part-append c log (e ∷ []) ∙ (ap (λ l. part_of c log ++ l) (part_other c e above) ∙ ap (λ l. l ++ []) (k.beyond c le));
        },
        is.sees,
      )
    where
      heard_more : (o : Option Heard) → count_heard e.caller o ≡ 0 → IfSome o (λ h. GoesOn h.callers h.seen log) → IfSome o (λ h. GoesOn h.callers h.seen (log ++ e ∷ []))
      heard_more None none old = tt
      heard_more (Some h) none old = goes_snoc h.callers h.seen log e old none

      none_written : (o : Option (List LockEntry)) → pen_count o ≡ 0 → IfSome o (λ x. x ≡ log ++ e ∷ [])
      none_written None none = tt
      none_written (Some x) none = absurd (omega arith)

-- ---- joins

module _ (log : List LockEntry) (next : ℕ) (views : List PassView) (k : Kept log next views) (id other : ℕ) (v w : PassView) (both : PassView) (at : get_elem? views id ≡ some v) (ne : other ≢ id) (there : get_elem? (set views id both) other ≡ some w) where
  -- the joined pass as it was
  pub there_was : get_elem? views other ≡ some w
  there_was = sym (set_else views id other both ne) ∙ there

  -- one view takes in another, which is spent
  pub join_kept : IsPass log next id both → ((c : ℕ) → has_caller c both ≡ has_caller c v + has_caller c w) → caller_count both ≡ caller_count v + caller_count w → has_pen both ≡ has_pen v + has_pen w → Kept log next (set (set views id both) other no_view)
  join_kept is callers many pens = record {
    each = each_set log next (set views id both) other no_view (λ i u away e. each_set log next views id both (λ j x far h. k.each j x h) is i u e) (spent_is log next other);
    once = λ c. let s = total_set (has_caller c) views id v both at in let t = total_set (has_caller c) (set views id both) other w no_view there in let o = k.once c in let h = callers c in omega arith;
    counted = let s = total_set caller_count views id v both at in let t = total_set caller_count (set views id both) other w no_view there in let c = k.counted in omega arith;
    pens = let s = total_set has_pen views id v both at in let t = total_set has_pen (set views id both) other w no_view there in let c = k.pens in omega arith;
    beyond = k.beyond;
  }

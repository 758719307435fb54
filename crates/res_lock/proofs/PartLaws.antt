-- Beginnings of histories, and callers' parts of them.
use Rattle.std.proofs.Common.{◌≡◌, ◌≢◌, ℕ, ◌<◌, ◌≤◌, ◌==◌, Bool, true, false, cond, nat_le, List, [], ◌∷◌, ◌++◌, length, sym, refl, ap, ◌∙◌, arith, append_assoc, eq-eqb, ne_eqb}
use Rattle.std.proofs.lemmas.List.{append-nil}
use Rattle.std.proofs.lemmas.List.Elements.{filter-append}
use Rattle.schedule_model.specs.Held.{count_of, IsPrefix}
use Rattle.res_lock.specs.Histories.{LockEntry, part_of}
use Rattle.res_lock.specs.Views.{longer, IsWholeIn, GoesOn}

-- ---- beginnings

pub prefix_same : {A : Type 0} (xs : List A) → IsPrefix xs xs
prefix_same xs = ([], sym (append-nil xs))

pub prefix_nil : {A : Type 0} (xs : List A) → IsPrefix [] xs
prefix_nil xs = (xs, refl)

pub prefix_more : {A : Type 0} (xs ys zs : List A) → IsPrefix xs ys → IsPrefix ys zs → IsPrefix xs zs
prefix_more xs ys zs p q = (p.0 ++ q.0, q.1 ∙ (ap (λ l. l ++ q.0) p.1 ∙ append_assoc xs p.0 q.0))

pub prefix_snoc : {A : Type 0} (xs ys : List A) (y : A) → IsPrefix xs ys → IsPrefix xs (ys ++ y ∷ [])
prefix_snoc xs ys y p = (p.0 ++ y ∷ [], ap (λ l. l ++ y ∷ []) p.1 ∙ append_assoc xs p.0 (y ∷ []))

-- of two beginnings of a list the shorter begins the longer
pub prefix_shorter : {A : Type 0} (ys xs zs : List A) → IsPrefix ys zs → IsPrefix xs zs → length ys ≤ length xs → IsPrefix ys xs
prefix_shorter [] xs zs p q le = (xs, refl)
prefix_shorter (y ∷ ys) [] zs p q le = absurd (omega arith)
prefix_shorter (y ∷ ys) (x ∷ xs) zs p q le =
    let both : y ∷ (ys ++ p.0) ≡ x ∷ (xs ++ q.0) = sym p.1 ∙ q.1 in
    let head : x ≡ y = cc both in
    let tail : xs ++ q.0 ≡ ys ++ p.0 = cc both in
    let r = prefix_shorter ys xs (xs ++ q.0) (p.0, tail) (q.0, refl) (omega arith) in
    (r.0, λ j. head j ∷ r.1 j)

-- ---- parts

pub part-append : (c : ℕ) (xs ys : List LockEntry) → part_of c (xs ++ ys) ≡ part_of c xs ++ part_of c ys
part-append c xs ys = filter-append (λ (e : LockEntry). e.caller == c) xs ys

pub part_own : (c : ℕ) (e : LockEntry) → e.caller ≡ c → part_of c (e ∷ []) ≡ e ∷ []
part_own c e is = ap (λ (b : Bool). cond b (e ∷ []) []) (eq-eqb e.caller c is)

pub part_other : (c : ℕ) (e : LockEntry) → e.caller ≢ c → part_of c (e ∷ []) ≡ []
part_other c e ne = ap (λ (b : Bool). cond b (e ∷ []) []) (ne_eqb e.caller c ne)

pub nil_of_same : {A : Type 0} (xs ys : List A) → xs ++ ys ≡ xs → ys ≡ []
nil_of_same [] ys e = e
nil_of_same (x ∷ xs) ys e = let tail : xs ++ ys ≡ xs = cc e in nil_of_same xs ys tail

pub nil_first : {A : Type 0} (xs ys : List A) → xs ++ ys ≡ [] → xs ≡ []
nil_first [] ys e = refl
nil_first (x ∷ xs) ys e = cc e

-- a list of which no caller has a part is empty
pub nil_of_parts : (es : List LockEntry) → ((c : ℕ) → part_of c es ≡ []) → es ≡ []
nil_of_parts [] h = refl
nil_of_parts (e ∷ es) h =
    let here : part_of e.caller (e ∷ es) ≡ e ∷ part_of e.caller es = part-append e.caller (e ∷ []) es ∙ ap (λ l. l ++ part_of e.caller es) (part_own e.caller e refl) in
    let none : e ∷ part_of e.caller es ≡ [] = sym here ∙ h e.caller in
    cc none

-- a beginning has nothing of a caller that has nothing
pub part_none : (c : ℕ) (seen log : List LockEntry) → IsPrefix seen log → part_of c log ≡ [] → part_of c seen ≡ []
part_none c seen log p none = nil_first (part_of c seen) (part_of c p.0) (sym (part-append c seen p.0) ∙ (ap (part_of c) (sym p.1) ∙ none))

-- ---- going on

pub goes_same : (callers : List ℕ) (log : List LockEntry) → GoesOn callers log log
goes_same callers log = (prefix_same log, λ c here. refl)

pub goes_nothing : (log : List LockEntry) → GoesOn [] [] log
goes_nothing log = (prefix_nil log, λ c here. absurd (omega arith))

-- what lies between goes on as well
pub goes_between : (callers : List ℕ) (seen mid log : List LockEntry) → GoesOn callers seen log → IsPrefix seen mid → IsPrefix mid log → GoesOn callers seen mid × GoesOn callers mid log
goes_between callers seen mid log g p q = ((p, λ c here. sym (whole c here)), (q, λ c here. g.1 c here ∙ whole c here))
  where
    whole : (c : ℕ) → 0 < count_of c callers → part_of c seen ≡ part_of c mid
    whole c here =
        let mid_is : part_of c mid ≡ part_of c seen ++ part_of c p.0 = ap (part_of c) p.1 ∙ part-append c seen p.0 in
        let log_is : part_of c log ≡ (part_of c seen ++ part_of c p.0) ++ part_of c q.0 = ap (part_of c) q.1 ∙ (part-append c mid q.0 ∙ ap (λ l. l ++ part_of c q.0) mid_is) in
        let rest : part_of c seen ++ (part_of c p.0 ++ part_of c q.0) ≡ part_of c seen = sym (append_assoc (part_of c seen) (part_of c p.0) (part_of c q.0)) ∙ (sym log_is ∙ g.1 c here) in
        let none : part_of c p.0 ≡ [] = nil_first (part_of c p.0) (part_of c q.0) (nil_of_same (part_of c seen) (part_of c p.0 ++ part_of c q.0) rest) in
        sym (mid_is ∙ (ap (λ l. part_of c seen ++ l) none ∙ append-nil (part_of c seen)))

-- an entry of another caller behind it
pub goes_snoc : (callers : List ℕ) (seen log : List LockEntry) (e : LockEntry) → GoesOn callers seen log → count_of e.caller callers ≡ 0 → GoesOn callers seen (log ++ e ∷ [])
goes_snoc callers seen log e g none = (prefix_snoc seen log e g.0, whole)
  where
    whole : IsWholeIn callers seen (log ++ e ∷ [])
    whole c here =
        let ne : e.caller ≢ c = λ (same : e.caller ≡ c). let z : count_of c callers ≡ 0 = ap (λ (x : ℕ). count_of x callers) (sym same) ∙ none in omega arith in
        part-append c log (e ∷ []) ∙ (ap (λ l. part_of c log ++ l) (part_other c e ne) ∙ (append-nil (part_of c log) ∙ g.1 c here))

-- ---- the longer of two

longer_by : (b : Bool) (xs ys log : List LockEntry) → nat_le (length ys) (length xs) ≡ b → IsPrefix xs log → IsPrefix ys log → IsPrefix xs (longer xs ys) × IsPrefix ys (longer xs ys) × IsPrefix (longer xs ys) log
longer_by true xs ys log e p q = rw e (prefix_same xs, prefix_shorter ys xs log q p (grind (arith, e)), p)
longer_by false xs ys log e p q = rw e (prefix_shorter xs ys log p q (grind (arith, e)), prefix_same ys, q)

pub longer_between : (xs ys log : List LockEntry) → IsPrefix xs log → IsPrefix ys log → IsPrefix xs (longer xs ys) × IsPrefix ys (longer xs ys) × IsPrefix (longer xs ys) log
longer_between xs ys log p q = longer_by (nat_le (length ys) (length xs)) xs ys log refl p q

-- One entry more keeps a history legal.
use Rattle.std.proofs.Common.{◌≡◌, ◌≢◌, ℕ, zero, suc, ◌+◌, List, [], ◌∷◌, ◌++◌, length, Option, sym, refl, ap, ◌∙◌, subst, arith, length-append}
use Rattle.std.proofs.lemmas.List.{append-nil, map-append}
use Rattle.std.specs.List.{range_with_len}
use mathlib.Core.Logic.{dite}
use native.Mathlib.Decide.{ℕ_discrete}
use Rattle.gfx_model.specs.FrameCalls.{CallState}
use Rattle.resource_book.specs.Written.{BookView}
use Rattle.res_lock.specs.Written.{written_where, book_after}
use Rattle.res_lock.specs.Histories.{LockEntry, IsReply, after_entry, state_after, HasReplies, part_of, AreInOrder, IsLegal}
use Rattle.res_lock.specs.Locked.{End, end_where, end_after}
use Rattle.res_lock.proofs.PartLaws.{part-append, part_own, part_other}

pub after_snoc : (s : CallState) (es : List LockEntry) (e : LockEntry) → state_after s (es ++ e ∷ []) ≡ after_entry (state_after s es) e
after_snoc s [] e = refl
after_snoc s (x ∷ es) e = after_snoc (after_entry s x) es e

pub book_snoc : (b : BookView) (es : List LockEntry) (e : LockEntry) → book_after b (es ++ e ∷ []) ≡ written_where (book_after b es) e.call e.reply
book_snoc b [] e = refl
book_snoc b (x ∷ es) e = book_snoc (written_where b x.call x.reply) es e

pub end_snoc : (s : CallState) (told : Option End) (es : List LockEntry) (e : LockEntry) → end_after s told (es ++ e ∷ []) ≡ end_where (state_after s es) (end_after s told es) e.reply
end_snoc s told [] e = refl
end_snoc s told (x ∷ es) e = end_snoc (after_entry s x) (end_where s told x.reply) es e

pub replies_snoc : (s : CallState) (es : List LockEntry) (e : LockEntry) → HasReplies s es → IsReply (state_after s es) e.call e.reply → HasReplies s (es ++ e ∷ [])
replies_snoc s [] e h is = (is, tt)
replies_snoc s (x ∷ es) e h is = (h.0, replies_snoc (after_entry s x) es e h.1 is)

range_snoc : (a n : ℕ) → range_with_len a (suc n) ≡ range_with_len a n ++ (a + n) ∷ []
range_snoc a zero = let e : a ≡ a + 0 = omega arith in ap (λ (x : ℕ). x ∷ []) e
range_snoc a (suc n) =
    let e : (a + 1) + n ≡ a + suc n = omega arith in
    ap (λ l. a ∷ l) (range_snoc (a + 1) n ∙ ap (λ (x : ℕ). range_with_len (a + 1) n ++ x ∷ []) e)

-- the next ordinal
in_order_snoc : (es : List LockEntry) (e : LockEntry) → AreInOrder es → e.ordinal ≡ length es → AreInOrder (es ++ e ∷ [])
in_order_snoc es e h is =
    let long : length (es ++ e ∷ []) ≡ suc (length es) = let l = length-append es (e ∷ []) in omega arith in
    let last : e.ordinal ≡ 0 + length es = omega arith in
    map-append (λ (x : LockEntry). x.ordinal) es (e ∷ []) ∙ ((λ j. h j ++ last j ∷ []) ∙ (sym (range_snoc 0 (length es)) ∙ ap (range_with_len 0) (sym long)))

pub legal_snoc : (s : CallState) (es : List LockEntry) (e : LockEntry) → IsLegal s es → IsReply (state_after s es) e.call e.reply → e.ordinal ≡ length (part_of e.caller es) → IsLegal s (es ++ e ∷ [])
legal_snoc s es e h is ordinal = record { replies = replies_snoc s es e h.replies is; ordered = ordered }
  where
    ordered : (c : ℕ) → AreInOrder (part_of c (es ++ e ∷ []))
    ordered c = dite (ℕ_discrete e.caller c)
        (λ (own : e.caller ≡ c).
        let parts : part_of c (es ++ e ∷ []) ≡ part_of c es ++ e ∷ [] = part-append c es (e ∷ []) ∙ ap (λ l. part_of c es ++ l) (part_own c e own) in
        let next : e.ordinal ≡ length (part_of c es) = ordinal ∙ ap (λ (x : ℕ). length (part_of x es)) own in
        subst AreInOrder (sym parts) (in_order_snoc (part_of c es) e (h.ordered c) next))
        (λ (ne : e.caller ≢ c).
        let parts : part_of c (es ++ e ∷ []) ≡ part_of c es = part-append c es (e ∷ []) ∙ (ap (λ l. part_of c es ++ l) (part_other c e ne) ∙ append-nil (part_of c es)) in
        subst AreInOrder (sym parts) (h.ordered c))

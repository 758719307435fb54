-- Draws whose triangles stand in one list.
use Rattle.std.proofs.Common.{◌≡◌, ℕ, zero, suc, ◌+◌, ◌-◌, ◌≤◌, List, [], ◌∷◌, ◌++◌, length, take, drop, map, refl, ap, sym, subst, ◌∙◌, arith}
use Rattle.std.proofs.lemmas.List.{take-append-le, drop-append-le, length-drop, map-append, take_all}
use Rattle.std.proofs.Math.Seq.{drop-append_seam}
use Rattle.tri_cover.specs.declared.triangles.Setup.{Setup}
use Rattle.int_raster.specs.Listing.{own_triangles, listed_with, listed_seen, AreWithin, AreInRows}
use Rattle.int_raster.specs.Covered.{CoverRows}
use Rattle.int_raster.specs.declared.listed.Listed.{Listed}

-- triangles behind do not change a draw's own
own_same : (ts us : List Setup) (l : Listed) → l.first ≤ l.after → l.after ≤ length ts → own_triangles (ts ++ us) l ≡ own_triangles ts l
own_same ts us l a b =
    let long : l.after - l.first ≤ length (drop l.first ts) = rw (length-drop l.first ts) (omega (arith, a, b)) in
    ap (take (l.after - l.first)) (drop-append-le l.first ts us (omega (arith, a, b))) ∙ take-append-le (l.after - l.first) (drop l.first ts) us long

later : (l : Listed) (ls : List Listed) (n : ℕ) → AreWithin (l ∷ ls) n → AreWithin ls n
later l ls n h = λ i m b. h (suc i) m (omega (arith, b))

pub seen_same : (ls : List Listed) (ts us : List Setup) → AreWithin ls (length ts) → map (listed_seen (ts ++ us)) ls ≡ map (listed_seen ts) ls
seen_same [] ts us h = refl
seen_same (l ∷ ls) ts us h =
    let here = h 0 l (omega arith) in
    (λ i. listed_with l (own_same ts us l here.0 here.1 i) ∷ seen_same ls ts us (later l ls (length ts) h) i)

-- the triangles of a draw that stand behind all others
own_behind : (ts us : List Setup) (l : Listed) → l.first ≡ length ts → l.after ≡ length ts + length us → own_triangles (ts ++ us) l ≡ us
own_behind ts us l first after =
    let few : l.after - l.first ≡ length us = omega (arith, first, after) in
    (λ i. take (few i) (drop (first i) (ts ++ us))) ∙ ap (take (length us)) (drop-append_seam ts us) ∙ take_all (length us) us (omega arith)

-- a draw more at the end, with its triangles behind the others
pub seen_more : (ls : List Listed) (ts us : List Setup) (l : Listed) → AreWithin ls (length ts) → l.first ≡ length ts → l.after ≡ length ts + length us →
    map (listed_seen (ts ++ us)) (ls ++ l ∷ []) ≡ map (listed_seen ts) ls ++ listed_with l us ∷ []
seen_more ls ts us l h first after =
    map-append (listed_seen (ts ++ us)) ls (l ∷ []) ∙ (λ i. seen_same ls ts us h i ++ listed_with l (own_behind ts us l first after i) ∷ [])

pub within_more : (ls : List Listed) (l : Listed) (n m : ℕ) → AreWithin ls n → n ≤ m → l.first ≤ l.after → l.after ≤ m → AreWithin (ls ++ l ∷ []) m
within_more [] l n m h a b c zero d k = (b, c)
within_more [] l n m h a b c (suc i) d k = absurd (omega (arith, k))
within_more (x ∷ ls) l n m h a b c zero d k = let x_within = h 0 d (omega arith) in (x_within.0, omega (arith, x_within.1, a))
within_more (x ∷ ls) l n m h a b c (suc i) d k = within_more ls l n m (later x ls n h) a b c i d (omega (arith, k))

-- ---- the rows that draws may change

later_rows : (l : Listed) (ls : List Listed) (ts : List Setup) → AreInRows (l ∷ ls) ts → AreInRows ls ts
later_rows l ls ts h = λ i m b. h (suc i) m (omega (arith, b))

rows_same : (ls : List Listed) (ts us : List Setup) → AreWithin ls (length ts) → AreInRows ls ts → AreInRows ls (ts ++ us)
rows_same [] ts us w h i d k = absurd (omega (arith, k))
rows_same (l ∷ ls) ts us w h zero d k =
    let here = w 0 d (omega arith) in
    subst (λ os. CoverRows l.top l.bottom (length os) os) (sym (own_same ts us l here.0 here.1)) (h 0 d (omega arith))
rows_same (l ∷ ls) ts us w h (suc i) d k = rows_same ls ts us (later l ls (length ts) w) (later_rows l ls ts h) i d (omega (arith, k))

rows_end : (ls : List Listed) (l : Listed) (ts : List Setup) → AreInRows ls ts → CoverRows l.top l.bottom (length (own_triangles ts l)) (own_triangles ts l) → AreInRows (ls ++ l ∷ []) ts
rows_end [] l ts h c zero d k = c
rows_end [] l ts h c (suc i) d k = absurd (omega (arith, k))
rows_end (x ∷ ls) l ts h c zero d k = h 0 d (omega arith)
rows_end (x ∷ ls) l ts h c (suc i) d k = rows_end ls l ts (later_rows x ls ts h) c i d (omega (arith, k))

-- a draw more at the end, with the rows of its triangles
pub rows_more : (ls : List Listed) (ts us : List Setup) (l : Listed) → AreWithin ls (length ts) → AreInRows ls ts → l.first ≡ length ts → l.after ≡ length ts + length us → CoverRows l.top l.bottom (length us) us →
    AreInRows (ls ++ l ∷ []) (ts ++ us)
rows_more ls ts us l w h first after c =
    rows_end ls l (ts ++ us) (rows_same ls ts us w h) (subst (λ os. CoverRows l.top l.bottom (length os) os) (sym (own_behind ts us l first after)) c)

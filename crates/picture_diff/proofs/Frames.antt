-- The frames of two streams, one by one.
use Rattle.std.proofs.Common.{◌≡◌, ℕ, zero, suc, ◌+◌, ◌<◌, ◌≤◌, ◌/◌, ◌%◌, ◌&&◌, ◌==◌, not, ltb, eqb-true, Bool, true, false, cond, List, [], ◌∷◌, ◌++◌, length, get_or, take, drop, Option, Some, None, Result, Ok, Err, refl, ap, sym, subst, ◌∙◌, append_assoc, append-nil, arith, map}
use Rattle.std.specs.List.{AllByRecursion}
use Rattle.std.proofs.lemmas.Bool.{and_parts, ltb-true}
use Rattle.std.proofs.lemmas.List.{drop_more, drop_all, length-map, take-map, drop-map}
use Rattle.picture_diff.specs.Picture.{Picture, IsPicture, AreTextsOf}
use Rattle.picture_diff.specs.Difference.{difference}
use Rattle.picture_diff.specs.Frames.{are_halves, compared, first_half, have_other_sides, is_asked, judged, onto, second_half}
use Rattle.picture_diff.specs.Told.{Gives, Read, Told, picture_seen}
use Rattle.picture_diff.specs.declared.difference.Difference.{Difference}
use Rattle.picture_diff.specs.declared.fault.PictureFault.{PictureFault}
use Rattle.picture_diff.specs.declared.fault.PictureFault.TheVariants as faults
use Rattle.picture_diff.specs.declared.picture.Picture as code
use Rattle.picture_diff.proofs.Texts.{reading-same, not-broken}

pub onto-nothing : (r : Result (List Difference) PictureFault) → onto [] r ≡ r
onto-nothing (Ok ds) = refl
onto-nothing (Err fault) = refl

onto-onto : (xs ys : List Difference) (r : Result (List Difference) PictureFault) → onto xs (onto ys r) ≡ onto (xs ++ ys) r
onto-onto xs ys (Ok ds) = ap (λ (zs : List Difference). Ok zs) (sym (append_assoc xs ys ds))
onto-onto xs ys (Err fault) = refl

-- what is told of the frames from number k on
abbrev pub compared_from : (near k : ℕ) → (ones others : List code.Picture) → Result (List Difference) PictureFault
compared_from near k ones others = compared near k (map picture_seen (drop k ones)) (map picture_seen (drop k others))

one-more : (near k : ℕ) (ones others : List code.Picture) (d e : code.Picture) → k < length ones → k < length others
    → compared_from near k ones others ≡ compared near k (picture_seen (get_or ones k d) ∷ map picture_seen (drop (k + 1) ones)) (picture_seen (get_or others k e) ∷ map picture_seen (drop (k + 1) others))
one-more near k ones others d e one-long other-long = rw (drop_more ones k d one-long, drop_more others k e other-long) refl

pub compare-step : (near k : ℕ) (ones others : List code.Picture) (d e : code.Picture) (front : List Difference) (total : Result (List Difference) PictureFault) → k < length ones → k < length others
    → have_other_sides (picture_seen (get_or ones k d)) (picture_seen (get_or others k e)) ≡ false → onto front (compared_from near k ones others) ≡ total
    → onto (front ++ difference near (picture_seen (get_or ones k d)) (picture_seen (get_or others k e)) ∷ []) (compared_from near (k + 1) ones others) ≡ total
compare-step near k ones others d e front total one-long other-long same so_far =
    let p = picture_seen (get_or ones k d) in
    let q = picture_seen (get_or others k e) in
    let step : compared_from near k ones others ≡ onto (difference near p q ∷ []) (compared_from near (k + 1) ones others) = one-more near k ones others d e one-long other-long ∙ rw same refl in
    sym (onto-onto front (difference near p q ∷ []) (compared_from near (k + 1) ones others)) ∙ ap (onto front) (sym step) ∙ so_far

pub compare-stop : (near k : ℕ) (ones others : List code.Picture) (d e : code.Picture) (front : List Difference) (total : Result (List Difference) PictureFault) → k < length ones → k < length others
    → have_other_sides (picture_seen (get_or ones k d)) (picture_seen (get_or others k e)) ≡ true → onto front (compared_from near k ones others) ≡ total → total ≡ Err (faults.Sides k)
compare-stop near k ones others d e front total one-long other-long other so_far =
    let step : compared_from near k ones others ≡ Err (faults.Sides k) = one-more near k ones others d e one-long other-long ∙ rw other refl in
    sym so_far ∙ ap (onto front) step

pub compare-end : (near k : ℕ) (ones others : List code.Picture) (front : List Difference) (total : Result (List Difference) PictureFault) → length ones ≤ k
    → onto front (compared_from near k ones others) ≡ total → total ≡ Ok front
compare-end near k ones others front total end so_far =
    let none : compared_from near k ones others ≡ Ok [] = rw (drop_all k ones end) refl in
    sym so_far ∙ ap (onto front) none ∙ ap (λ (zs : List Difference). Ok zs) (append-nil front)

-- ---- what is known of a frame's pictures

pub all-at : (xs : List code.Picture) (i : ℕ) (d : code.Picture) → AllByRecursion IsPicture (map picture_seen xs) → i < length xs → IsPicture (picture_seen (get_or xs i d))
all-at [] i d all lt = absurd (omega (arith, lt))
all-at (x ∷ xs) zero d all lt = all.0
all-at (x ∷ xs) (suc i) d all lt = all-at xs i d all.1 (omega (arith, lt))

not-not : (b : Bool) → not b ≡ false → b ≡ true
not-not true h = refl
not-not false h = absurd (cc h)

pub same-sides : (p q : Picture) → have_other_sides p q ≡ false → (p.width ≡ q.width) × (p.height ≡ q.height)
same-sides p q h =
    let both = and_parts (p.width == q.width) (p.height == q.height) (not-not _ h) in
    (eqb-true p.width q.width both.0, eqb-true p.height q.height both.1)

pub all-take : (n : ℕ) (ps : List Picture) → AllByRecursion IsPicture ps → AllByRecursion IsPicture (take n ps)
all-take zero ps all = tt
all-take (suc n) [] all = tt
all-take (suc n) (p ∷ ps) all = (all.0, all-take n ps all.1)

pub all-drop : (n : ℕ) (ps : List Picture) → AllByRecursion IsPicture ps → AllByRecursion IsPicture (drop n ps)
all-drop zero ps all = all
all-drop (suc n) [] all = tt
all-drop (suc n) (p ∷ ps) all = all-drop n ps all.1

pub all-first : (n : ℕ) (xs : List code.Picture) → AllByRecursion IsPicture (map picture_seen xs) → AllByRecursion IsPicture (map picture_seen (take n xs))
all-first n xs all = subst (AllByRecursion IsPicture) (take-map picture_seen n xs) (all-take n (map picture_seen xs) all)

pub all-second : (n : ℕ) (xs : List code.Picture) → AllByRecursion IsPicture (map picture_seen xs) → AllByRecursion IsPicture (map picture_seen (drop n xs))
all-second n xs all = subst (AllByRecursion IsPicture) (drop-map picture_seen n xs) (all-drop n (map picture_seen xs) all)

-- two halves are equally long
pub halves-even : (asked : Option ℕ) (n : ℕ) → are_halves asked n ≡ true → (0 < n) × (n % 2 ≡ 0)
halves-even asked n h =
    let a = and_parts (ltb 0 n) ((n % 2 == 0) && is_asked asked (n / 2)) h in
    let b = and_parts (n % 2 == 0) (is_asked asked (n / 2)) a.1 in
    (ltb-true 0 n a.0, eqb-true (n % 2) 0 b.0)

pub judged-halves : (near : ℕ) (asked : Option ℕ) (xs : List code.Picture) → are_halves asked (length xs) ≡ true
    → judged near asked (map picture_seen xs) ≡ compared near 0 (map picture_seen (take (length xs / 2) xs)) (map picture_seen (drop (length xs / 2) xs))
judged-halves near asked xs h =
    let ps = map picture_seen xs in
    let n = length xs / 2 in
    let long : length ps ≡ length xs = length-map xs picture_seen in
    let test : are_halves asked (length ps) ≡ true = ap (are_halves asked) long ∙ h in
    ap (λ (b : Bool). cond b (compared near 0 (first_half ps) (second_half ps)) (Err (faults.Count (length ps)))) test
    ∙ ap (λ (k : ℕ). compared near 0 (take (k / 2) ps) (drop (k / 2) ps)) long
    ∙ (λ i. compared near 0 (take-map picture_seen n xs i) (drop-map picture_seen n xs i))

pub judged-none : (near : ℕ) (asked : Option ℕ) (xs : List code.Picture) → are_halves asked (length xs) ≡ false → judged near asked (map picture_seen xs) ≡ Err (faults.Count (length xs))
judged-none near asked xs h =
    let ps = map picture_seen xs in
    let long : length ps ≡ length xs = length-map xs picture_seen in
    let test : are_halves asked (length ps) ≡ false = ap (are_halves asked) long ∙ h in
    ap (λ (b : Bool). cond b (compared near 0 (first_half ps) (second_half ps)) (Err (faults.Count (length ps)))) test ∙ ap (λ (k : ℕ). Err (faults.Count k)) long

-- ---- the whole

pub told-judged : {X : Type 0} (near : ℕ) (asked : Option ℕ) (bytes : List ℕ) (view : X → List Difference) (r : Result X PictureFault) (ps : List Picture) → AreTextsOf bytes ps → Gives view r (judged near asked ps) → Told near asked bytes view r
told-judged near asked bytes view (Ok x) ps are h = (ps, are, h)
told-judged near asked bytes view (Err faults.OutOfMemory) ps are h = tt
told-judged near asked bytes view (Err (faults.NoPicture count at)) ps are h = absurd h
told-judged near asked bytes view (Err (faults.Count n)) ps are h = (ps, are, h)
told-judged near asked bytes view (Err (faults.Sides k)) ps are h = (ps, are, h)

pub told-unread : {X Y : Type 0} (near : ℕ) (asked : Option ℕ) (bytes : List ℕ) (view : X → List Difference) (pictures : Y → List Picture) (fault : PictureFault) → Read bytes pictures (Err fault) → Told near asked bytes view (Err fault)
told-unread near asked bytes view pictures faults.OutOfMemory h = tt
told-unread near asked bytes view pictures (faults.NoPicture count at) h = h
told-unread near asked bytes view pictures (faults.Count n) h = absurd h
told-unread near asked bytes view pictures (faults.Sides k) h = absurd h

pub told-only : {X : Type 0} (near : ℕ) (asked : Option ℕ) (bytes : List ℕ) (view : X → List Difference) (r : Result X PictureFault) (ps : List Picture) → Told near asked bytes view r → AreTextsOf bytes ps → Gives view r (judged near asked ps)
told-only near asked bytes view (Ok x) ps (qs, are, e) is = ap (judged near asked) (reading-same bytes ps qs is are) ∙ e
told-only near asked bytes view (Err faults.OutOfMemory) ps h is = tt
told-only near asked bytes view (Err (faults.NoPicture count at)) ps h is = not-broken bytes count at ps h is
told-only near asked bytes view (Err (faults.Count n)) ps (qs, are, e) is = ap (judged near asked) (reading-same bytes ps qs is are) ∙ e
told-only near asked bytes view (Err (faults.Sides k)) ps (qs, are, e) is = ap (judged near asked) (reading-same bytes ps qs is are) ∙ e

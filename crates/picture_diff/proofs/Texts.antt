-- What is read at the front is a picture's text, and a picture's text is read again.
use Rattle.std.proofs.Common.{◌≡◌, ℕ, ◌+◌, ◌-◌, ◌*◌, ◌<◌, ◌≤◌, Bool, true, false, cond, eqb, leb, ltb, List, [], ◌∷◌, ◌++◌, length, take, drop, lit<, Option, Some, None, refl, ap, sym, subst, ◌∙◌, append_assoc, append-nil, arith}
use Rattle.std.specs.Prelude.{bytes_eq, codes, decimal, flat_map}
use Rattle.std.specs.List.{AllByRecursion, prefix_len}
use Rattle.std.proofs.lemmas.Bool.{ltb-false, le-ltb, leb-true, le-leb}
use Rattle.std.proofs.lemmas.List.{take_at, drop_at, take-append-drop, length-append, length-take}
use Rattle.std.proofs.lemmas.List.Concat.{flat_map-append}
use Rattle.std.proofs.lemmas.Option.{same_Some, none-some}
use Rattle.std.proofs.lemmas.Slice.Eq.{bytes_eq-Decides}
use Rattle.frame_capture.specs.Film.{text_head}
use Rattle.picture_diff.specs.Picture.{Picture, IsSide, IsPicture, picture_text, AreTextsOf, HasNoPicture, IsBroken}
use Rattle.picture_diff.specs.Numbers.{is_digit, number}
use Rattle.picture_diff.specs.Reading.{◌>>=◌, behind, side_at, Head, head_at, cut, picture_at}
use Rattle.picture_diff.proofs.Digits.{decimal-digits, if_some, number_takes, number_again, prefix-all}

-- the value of a step that did not fail
bind_some : {A B : Type 0} (o : Option A) (f : A → Option B) (y : B) → (o >>= f) ≡ Some y → (x : A) × (o ≡ Some x) × (f x ≡ Some y)
bind_some (Some x) f y e = (x, refl, e)
bind_some None f y e = absurd (none-some y e)

if_none : {A : Type 0} (b : Bool) (o : Option A) (y : A) → cond b None o ≡ Some y → (b ≡ false) × (o ≡ Some y)
if_none true o y e = absurd (none-some y e)
if_none false o y e = (refl, e)

behind_takes : (word bytes rest : List ℕ) → behind word bytes ≡ Some rest → bytes ≡ word ++ rest
unfolding behind
behind_takes word bytes rest e =
    let n = length word in
    let a = if_none (ltb (length bytes) n) (cond (bytes_eq (take n bytes) word) (Some (drop n bytes)) None) rest e in
    let b = if_some (bytes_eq (take n bytes) word) (Some (drop n bytes)) rest a.1 in
    let front : take n bytes ≡ word = (bytes_eq-Decides (take n bytes) word).0 b.0 in
    let back : drop n bytes ≡ rest = same_Some _ _ b.1 in
    sym (take-append-drop n bytes) ∙ ap (λ (t : List ℕ). t ++ drop n bytes) front ∙ ap (λ (t : List ℕ). word ++ t) back

behind_again : (word rest : List ℕ) → behind word (word ++ rest) ≡ Some rest
unfolding behind
behind_again word rest =
    let long : ltb (length (word ++ rest)) (length word) ≡ false = le-ltb _ _ (omega (arith, length-append word rest)) in
    let same : bytes_eq word word ≡ true = (bytes_eq-Decides word word).1 refl in
    rw (long, take_at word rest (length word) refl, drop_at word rest (length word) refl, same) refl

-- ---- the head

side_takes : (end : ℕ) (bytes : List ℕ) (n : ℕ) (rest : List ℕ) → side_at (end ∷ []) bytes ≡ Some (n, rest) → (bytes ≡ decimal n ++ end ∷ rest) × IsSide n
unfolding side_at
side_takes end bytes n rest e =
    let k = prefix_len is_digit bytes in
    let a = bind_some (behind (end ∷ []) (drop k bytes)) (λ r. number 65535 (take k bytes) >>= λ s. cond (leb 1 s) (Some (s, r)) None) (n, rest) e in
    let b = bind_some (number 65535 (take k bytes)) (λ s. cond (leb 1 s) (Some (s, a.0)) None) (n, rest) a.2 in
    let d = if_some (leb 1 b.0) (Some (b.0, a.0)) (n, rest) b.2 in
    let both : (b.0, a.0) ≡ (n, rest) = same_Some _ _ d.1 in
    let back = behind_takes (end ∷ []) (drop k bytes) a.0 a.1 in
    let digits = number_takes 65535 (take k bytes) b.0 (lit< tt) b.1 in
    let whole : bytes ≡ decimal b.0 ++ end ∷ a.0 = sym (take-append-drop k bytes) ∙ ap (λ (t : List ℕ). t ++ drop k bytes) digits.0 ∙ ap (λ (t : List ℕ). decimal b.0 ++ t) back in
    subst (λ (x : ℕ × List ℕ). (bytes ≡ decimal x.0 ++ end ∷ x.1) × IsSide x.0) both (whole, (leb-true 1 b.0 d.0, digits.1))

side_again : (end n : ℕ) (rest : List ℕ) → is_digit end ≡ false → IsSide n → side_at (end ∷ []) (decimal n ++ end ∷ rest) ≡ Some (n, rest)
unfolding side_at
side_again end n rest no_digit is =
    let len = prefix-all (decimal n) end rest (decimal-digits n (omega (arith, is.1))) no_digit in
    rw (
      len,
      drop_at (decimal n) (end ∷ rest) (length (decimal n)) refl,
      take_at (decimal n) (end ∷ rest) (length (decimal n)) refl,
      behind_again (end ∷ []) rest,
      number_again 65535 n (lit< tt) is.1,
      le-leb 1 n is.0,
    ) refl

abbrev head_of : (width height : ℕ) → List ℕ → Head
head_of width height rest = record { width = width; height = height; rest = rest }

regrouped : (width height : ℕ) (rest : List ℕ) → text_head width height ++ rest ≡ codes "P6\n" ++ (decimal width ++ 32 ∷ (decimal height ++ 10 ∷ (codes "255\n" ++ rest)))
regrouped width height rest =
    let last = decimal height ++ codes "\n255\n" in
    ap (λ (t : List ℕ). codes "P6\n" ++ t)
    (append_assoc (decimal width) (codes " " ++ last) rest ∙ ap (λ (t : List ℕ). decimal width ++ 32 ∷ t) (append_assoc (decimal height) (codes "\n255\n") rest))

head_takes : (bytes : List ℕ) (h : Head) → head_at bytes ≡ Some h → (bytes ≡ text_head h.width h.height ++ h.rest) × IsSide h.width × IsSide h.height
unfolding head_at
head_takes bytes h e =
    let a = bind_some (behind (codes "P6\n") bytes) (λ s. side_at (codes " ") s >>= λ w. side_at (codes "\n") w.1 >>= λ g. behind (codes "255\n") g.1 >>= λ r. Some (head_of w.0 g.0 r)) h e in
    let b = bind_some (side_at (codes " ") a.0) (λ w. side_at (codes "\n") w.1 >>= λ g. behind (codes "255\n") g.1 >>= λ r. Some (head_of w.0 g.0 r)) h a.2 in
    let d = bind_some (side_at (codes "\n") b.0.1) (λ g. behind (codes "255\n") g.1 >>= λ r. Some (head_of b.0.0 g.0 r)) h b.2 in
    let f = bind_some (behind (codes "255\n") d.0.1) (λ r. Some (head_of b.0.0 d.0.0 r)) h d.2 in
    let t0 = behind_takes (codes "P6\n") bytes a.0 a.1 in
    let t1 = side_takes 32 a.0 b.0.0 b.0.1 b.1 in
    let t2 = side_takes 10 b.0.1 d.0.0 d.0.1 d.1 in
    let t3 = behind_takes (codes "255\n") d.0.1 f.0 f.1 in
    let whole : bytes ≡ text_head b.0.0 d.0.0 ++ f.0 =
    t0 ∙ ap (λ (t : List ℕ). codes "P6\n" ++ t) (t1.0 ∙ ap (λ (t : List ℕ). decimal b.0.0 ++ 32 ∷ t) (t2.0 ∙ ap (λ (t : List ℕ). decimal d.0.0 ++ 10 ∷ t) t3)) ∙ sym (regrouped b.0.0 d.0.0 f.0) in
    subst (λ (x : Head). (bytes ≡ text_head x.width x.height ++ x.rest) × IsSide x.width × IsSide x.height) (same_Some (head_of b.0.0 d.0.0 f.0) h f.2) (whole, t1.1, t2.1)

head_again : (width height : ℕ) (rest : List ℕ) → IsSide width → IsSide height → head_at (text_head width height ++ rest) ≡ Some (head_of width height rest)
unfolding head_at
head_again width height rest wide high =
    let after = codes "255\n" ++ rest in
    ap head_at (regrouped width height rest)
    ∙ rw (behind_again (codes "P6\n") (decimal width ++ 32 ∷ (decimal height ++ 10 ∷ after)), side_again 32 width (decimal height ++ 10 ∷ after) refl wide, side_again 10 height after refl high, behind_again (codes "255\n") rest) refl

-- ---- pictures

pub picture_takes : (bytes : List ℕ) (x : Picture × List ℕ) → picture_at bytes ≡ Some x → (bytes ≡ picture_text x.0 ++ x.1) × IsPicture x.0
unfolding picture_at
picture_takes bytes x e =
    let a = bind_some (head_at bytes) cut x e in
    let h = a.0 in
    let n = 3 * (h.width * h.height) in
    let p : Picture = record { width = h.width; height = h.height; bytes = take n h.rest } in
    let b = if_none (ltb (length h.rest) n) (Some (p, drop n h.rest)) x a.2 in
    let t = head_takes bytes h a.1 in
    let long : n ≤ length h.rest = ltb-false _ _ b.0 in
    let whole : bytes ≡ picture_text p ++ drop n h.rest =
    t.0 ∙ ap (λ (r : List ℕ). text_head h.width h.height ++ r) (sym (take-append-drop n h.rest)) ∙ sym (append_assoc (text_head h.width h.height) (take n h.rest) (drop n h.rest)) in
    let full : length (take n h.rest) ≡ n = omega (arith, length-take n h.rest, long) in
    let is : IsPicture p = record { wide = t.1; high = t.2; whole = full } in
    subst (λ (y : Picture × List ℕ). (bytes ≡ picture_text y.0 ++ y.1) × IsPicture y.0) (same_Some _ _ b.1) (whole, is)

pub picture_again : (p : Picture) (rest : List ℕ) → IsPicture p → picture_at (picture_text p ++ rest) ≡ Some (p, rest)
unfolding picture_at
picture_again p rest is =
    let n = 3 * (p.width * p.height) in
    let long : ltb (length (p.bytes ++ rest)) n ≡ false = le-ltb _ _ (omega (arith, length-append p.bytes rest, is.whole)) in
    ap picture_at (append_assoc (text_head p.width p.height) p.bytes rest)
    ∙ rw (head_again p.width p.height (p.bytes ++ rest) is.wide is.high, long, take_at p.bytes rest n is.whole, drop_at p.bytes rest n is.whole) refl

pub text-some : (p : Picture) → 0 < length (picture_text p)
text-some p = omega arith

-- ---- several pictures

abbrev pub texts : List Picture → List ℕ
texts ps = flat_map picture_text ps

some-texts : (p : Picture) (ps : List Picture) → texts (p ∷ ps) ≡ [] → ⊥
some-texts p ps e = omega (arith, ap length e, length-append (picture_text p) (texts ps), text-some p)

same-front : (p q : Picture) (xs ys : List ℕ) → IsPicture p → IsPicture q → picture_text p ++ xs ≡ picture_text q ++ ys → (p ≡ q) × (xs ≡ ys)
same-front p q xs ys a b e =
    let both : (p, xs) ≡ (q, ys) = same_Some _ _ (sym (picture_again p xs a) ∙ ap picture_at e ∙ picture_again q ys b) in
    (ap (λ (x : Picture × List ℕ). x.0) both, ap (λ (x : Picture × List ℕ). x.1) both)

-- bytes are the texts of one list of pictures
pub texts-same : (ps qs : List Picture) → AllByRecursion IsPicture ps → AllByRecursion IsPicture qs → texts ps ≡ texts qs → ps ≡ qs
texts-same [] [] a b e = refl
texts-same [] (q ∷ qs) a b e = absurd (some-texts q qs (sym e))
texts-same (p ∷ ps) [] a b e = absurd (some-texts p ps e)
texts-same (p ∷ ps) (q ∷ qs) a b e =
    let both = same-front p q (texts ps) (texts qs) a.0 b.0 e in
    let rest = texts-same ps qs a.1 b.1 both.1 in
    λ i. both.0 i ∷ rest i

pub reading-same : (bytes : List ℕ) (ps qs : List Picture) → AreTextsOf bytes ps → AreTextsOf bytes qs → ps ≡ qs
reading-same bytes ps qs a b = texts-same ps qs a.each b.each (sym a.joined ∙ b.joined)

broken-texts : (front ps : List Picture) (rest : List ℕ) → AllByRecursion IsPicture front → AllByRecursion IsPicture ps → 0 < length rest → HasNoPicture rest → texts ps ≡ texts front ++ rest → ⊥
broken-texts [] [] rest a b some none e = omega (arith, ap length e, some)
broken-texts [] (p ∷ ps) rest a b some none e = none p (texts ps) b.0 (sym e)
broken-texts (f ∷ fs) [] rest a b some none e = omega (arith, ap length e, length-append (texts (f ∷ fs)) rest, some)
broken-texts (f ∷ fs) (p ∷ ps) rest a b some none e =
    broken-texts fs ps rest a.1 b.1 some none (same-front p f (texts ps) (texts fs ++ rest) b.0 a.0 (e ∙ append_assoc (picture_text f) (texts fs) rest)).1

-- pictures are not broken
pub not-broken : (bytes : List ℕ) (count at : ℕ) (ps : List Picture) → IsBroken bytes count at → AreTextsOf bytes ps → ⊥
not-broken bytes count at ps broken are =
    let some : 0 < length (drop at bytes) = omega (arith, broken.more, length-append (take at bytes) (drop at bytes), ap length (take-append-drop at bytes), length-take at bytes) in
    broken-texts broken.front ps (drop at bytes) broken.read.each are.each some broken.broken
    (sym are.joined ∙ sym (take-append-drop at bytes) ∙ ap (λ (t : List ℕ). t ++ drop at bytes) broken.read.joined)

-- ---- one picture more

all-more : (ps : List Picture) (p : Picture) → AllByRecursion IsPicture ps → IsPicture p → AllByRecursion IsPicture (ps ++ p ∷ [])
all-more [] p a b = (b, tt)
all-more (q ∷ ps) p a b = (a.0, all-more ps p a.1 b)

-- the pictures so far, and the bytes behind them
pub record IsReadTo (bytes : List ℕ) (ps : List Picture) (rest : List ℕ) : Type 0 where
  pub each : AllByRecursion IsPicture ps
  pub left : bytes ≡ texts ps ++ rest

pub read-step : (bytes : List ℕ) (ps : List Picture) (rest : List ℕ) (p : Picture) (after : List ℕ) → IsReadTo bytes ps rest → picture_at rest ≡ Some (p, after) → IsReadTo bytes (ps ++ p ∷ []) after
read-step bytes ps rest p after so_far e =
    let t = picture_takes rest (p, after) e in
    record {
      each = all-more ps p so_far.each t.1;
      left = so_far.left ∙ ap (λ (r : List ℕ). texts ps ++ r) t.0 ∙ sym (append_assoc (texts ps) (picture_text p) after)
          ∙ ap (λ (r : List ℕ). r ++ after) (sym (flat_map-append picture_text ps (p ∷ []) ∙ ap (λ (r : List ℕ). texts ps ++ r) (append-nil (picture_text p))));
    }

pub read-shorter : (rest : List ℕ) (p : Picture) (after : List ℕ) → picture_at rest ≡ Some (p, after) → length after < length rest
read-shorter rest p after e = omega (arith, ap length (picture_takes rest (p, after) e).0, length-append (picture_text p) after, text-some p)

pub read-whole : (bytes : List ℕ) (ps : List Picture) (rest : List ℕ) → IsReadTo bytes ps rest → rest ≡ [] → AreTextsOf bytes ps
read-whole bytes ps rest so_far e = record { each = so_far.each; joined = so_far.left ∙ ap (λ (r : List ℕ). texts ps ++ r) e ∙ append-nil (texts ps) }

pub read-broken : (bytes : List ℕ) (ps : List Picture) (rest : List ℕ) (at : ℕ) → IsReadTo bytes ps rest → 0 < length rest → picture_at rest ≡ None → at ≡ length bytes - length rest → IsBroken bytes (length ps) at
read-broken bytes ps rest at so_far some none is =
    let long : length (texts ps) ≡ at = omega (arith, is, ap length so_far.left, length-append (texts ps) rest) in
    let behind_is : drop at bytes ≡ rest = ap (drop at) so_far.left ∙ drop_at (texts ps) rest at long in
    record {
      front = ps;
      many = refl;
      read = record { each = so_far.each; joined = ap (take at) so_far.left ∙ take_at (texts ps) rest at long };
      more = omega (arith, is, some, ap length so_far.left, length-append (texts ps) rest);
      broken = λ p others b e. none-some (p, others) (sym none ∙ ap picture_at (sym behind_is ∙ e) ∙ picture_again p others b);
    }

pub some-bytes : (bytes : List ℕ) (b : Bool) → b ≡ eqb (length bytes) 0 → b ≡ false → 0 < length bytes
some-bytes [] b e f = absurd (cc)
some-bytes (byte ∷ bytes) b e f = omega arith

-- the pictures in front of what is broken are one list
broken-same : (fs gs : List Picture) (xs ys : List ℕ) → AllByRecursion IsPicture fs → AllByRecursion IsPicture gs → HasNoPicture xs → HasNoPicture ys → texts fs ++ xs ≡ texts gs ++ ys → fs ≡ gs
broken-same [] [] xs ys a b none other e = refl
broken-same [] (g ∷ gs) xs ys a b none other e = absurd (none g (texts gs ++ ys) b.0 (e ∙ append_assoc (picture_text g) (texts gs) ys))
broken-same (f ∷ fs) [] xs ys a b none other e = absurd (other f (texts fs ++ xs) a.0 (sym e ∙ append_assoc (picture_text f) (texts fs) xs))
broken-same (f ∷ fs) (g ∷ gs) xs ys a b none other e =
    let both = same-front f g (texts fs ++ xs) (texts gs ++ ys) a.0 b.0 (sym (append_assoc (picture_text f) (texts fs) xs) ∙ e ∙ append_assoc (picture_text g) (texts gs) ys) in
    let rest = broken-same fs gs xs ys a.1 b.1 none other both.1 in
    λ i. both.0 i ∷ rest i

broken-joined : (bytes : List ℕ) (count at : ℕ) (b : IsBroken bytes count at) → texts b.front ++ drop at bytes ≡ bytes
broken-joined bytes count at b = ap (λ (t : List ℕ). t ++ drop at bytes) (sym b.read.joined) ∙ take-append-drop at bytes

broken-long : (bytes : List ℕ) (count at : ℕ) (b : IsBroken bytes count at) → length (texts b.front) ≡ at
broken-long bytes count at b = omega (arith, ap length b.read.joined, length-take at bytes, b.more)

-- bytes are broken at one place
pub broken-once : (bytes : List ℕ) (n at m place : ℕ) → IsBroken bytes n at → IsBroken bytes m place → (n ≡ m) × (at ≡ place)
broken-once bytes n at m place a b =
    let same = broken-same a.front b.front (drop at bytes) (drop place bytes) a.read.each b.read.each a.broken b.broken (broken-joined bytes n at a ∙ sym (broken-joined bytes m place b)) in (
      sym a.many ∙ ap length same ∙ b.many,
      sym (broken-long bytes n at a) ∙ ap (λ (ps : List Picture). length (texts ps)) same ∙ broken-long bytes m place b,
    )

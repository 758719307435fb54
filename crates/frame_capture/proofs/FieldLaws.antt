-- A field that is read is the field that was written, and what was written is read again.
use Rattle.std.proofs.Common.{◌≡◌, ℕ, ◌+◌, ◌*◌, ◌^◌, ◌<◌, ◌≤◌, Bool, true, false, cond, ltb, leb, ◌&&◌, List, ◌++◌, length, get_or, take, drop, Result, Ok, Err, refl, sym, ap, subst, ◌∙◌, append_assoc, arith, inl, inr}
use Rattle.std.specs.Prelude.{codes, bytes_eq}
use Rattle.std.specs.Int.{Width, w16, w32, byte_len, from_le_bytes, to_le_bytes}
use Rattle.std.proofs.lemmas.Bool.{cases_lt, ltb-false, le-ltb, leb-true, le-leb, and_parts, and_from}
use Rattle.std.proofs.lemmas.List.{take_at, drop_at, take-append-drop, length-append, length-take, get_or-drop, get_or-take, get_or_past}
use Rattle.std.proofs.lemmas.Nat.{le_bytes_2, le_bytes_4, from_le_bytes-to_le_bytes_2, from_le_bytes-to_le_bytes_4}
use Rattle.std.proofs.lemmas.Slice.Eq.{bytes_eq-Decides}
use Rattle.frame_capture.specs.Film.{IsSide, text_length}
use Rattle.frame_capture.specs.Fault.{◌>>=◌, Head, number_at, after_mark, side_at, count_at, can_be_captured, head_at, cut_off, other_mark, out_of_range}

-- each is a byte
abbrev pub IsBytes : List ℕ → Type 0
IsBytes bytes = (i : ℕ) → get_or bytes i 0 < 256

IsBytes-drop : (n : ℕ) (bytes : List ℕ) → IsBytes bytes → IsBytes (drop n bytes)
IsBytes-drop n bytes h i = rw get_or-drop (h (n + i))

IsBytes-take : (n : ℕ) (bytes : List ℕ) → IsBytes bytes → IsBytes (take n bytes)
IsBytes-take n bytes h i =
    elim (cases_lt i n) [
      | inl lt ↦ rw (get_or-take n bytes i 0 lt) (h i)
      | inr le ↦ rw (get_or_past (take n bytes) i 0 (omega (arith, length-take n bytes))) (omega arith)
    ]

-- the value of a step that did not fail
pub bind_ok : {E A B : Type 0} (r : Result A E) (f : A → Result B E) (y : B) → (r >>= f) ≡ Ok y → (x : A) × (r ≡ Ok x) × (f x ≡ Ok y)
bind_ok (Ok x) f y e = (x, refl, e)
bind_ok (Err d) f y e = absurd cc

-- a test that did not refuse
pub if_not : {E A : Type 0} (b : Bool) (d : E) (z : Result A E) (y : A) → cond b (Err d) z ≡ Ok y → (b ≡ false) × (z ≡ Ok y)
if_not true d z y e = absurd cc
if_not false d z y e = (refl, e)

pub if_so : {E A : Type 0} (b : Bool) (d : E) (z : Result A E) (y : A) → cond b z (Err d) ≡ Ok y → (b ≡ true) × (z ≡ Ok y)
if_so true d z y e = (refl, e)
if_so false d z y e = absurd cc

abbrev done : {E A : Type 0} → A → Result A E
done x = Ok x

pub ok_is : {E A : Type 0} (x y : A) → done {E = E} x ≡ done y → x ≡ y
ok_is x y e = cc

-- what was taken from the front
pub record Takes (bytes text rest : List ℕ) : Type 0 where
  pub parts : bytes ≡ text ++ rest
  pub rest_fits : IsBytes rest

pub Takes-then : (a x b y c : List ℕ) → Takes a x b → Takes b y c → Takes a (x ++ y) c
Takes-then a x b y c p q = record { parts = p.parts ∙ ap (λ (t : List ℕ). x ++ t) q.parts ∙ sym (append_assoc x y c); rest_fits = q.rest_fits }

-- ---- numbers

pub record IsWide (w : Width) (limit : ℕ) : Type 0 where
  pub len : (n : ℕ) → length (to_le_bytes w n) ≡ byte_len w
  pub back : (bytes : List ℕ) → length bytes ≡ byte_len w → IsBytes bytes → to_le_bytes w (from_le_bytes w bytes) ≡ bytes
  pub again : (n : ℕ) → n < limit → from_le_bytes w (to_le_bytes w n) ≡ n

pub wide16 : IsWide w16 (2 ^ 16)
wide16 = record {
  len = λ n. refl;
  back = λ bytes len fits. le_bytes_2 bytes _ len fits refl;
  again = λ n lt. from_le_bytes-to_le_bytes_2 n lt;
}

pub wide32 : IsWide w32 (2 ^ 32)
wide32 = record {
  len = λ n. refl;
  back = λ bytes len fits. le_bytes_4 bytes _ len fits refl;
  again = λ n lt. from_le_bytes-to_le_bytes_4 n lt;
}

pub number_takes : (w : Width) (limit : ℕ) (wide : IsWide w limit) (bytes : List ℕ) (n : ℕ) (rest : List ℕ) → IsBytes bytes → number_at w bytes ≡ Ok (n, rest) → Takes bytes (to_le_bytes w n) rest
number_takes w limit wide bytes n rest fits e =
    let g = if_not (ltb (length bytes) (byte_len w)) cut_off (Ok (from_le_bytes w (take (byte_len w) bytes), drop (byte_len w) bytes)) (n, rest) e in
    let long : byte_len w ≤ length bytes = ltb-false _ _ g.0 in
    let both = ok_is {E = ℕ} (from_le_bytes w (take (byte_len w) bytes), drop (byte_len w) bytes) (n, rest) g.1 in
    let n-is : from_le_bytes w (take (byte_len w) bytes) ≡ n = ap (λ (p : ℕ × List ℕ). p.0) both in
    let rest-is : drop (byte_len w) bytes ≡ rest = ap (λ (p : ℕ × List ℕ). p.1) both in
    let front : to_le_bytes w n ≡ take (byte_len w) bytes = rw (← n-is) (wide.back (take (byte_len w) bytes) (omega (arith, length-take (byte_len w) bytes)) (IsBytes-take (byte_len w) bytes fits)) in
    record { parts = rw (front, ← rest-is) (sym (take-append-drop (byte_len w) bytes)); rest_fits = rw (← rest-is) (IsBytes-drop (byte_len w) bytes fits) }

pub number_again : (w : Width) (limit : ℕ) (wide : IsWide w limit) (n : ℕ) (rest : List ℕ) → n < limit → number_at w (to_le_bytes w n ++ rest) ≡ Ok (n, rest)
number_again w limit wide n rest lt =
    let len = wide.len n in
    let long : ltb (length (to_le_bytes w n ++ rest)) (byte_len w) ≡ false = le-ltb _ _ (omega (arith, length-append (to_le_bytes w n) rest)) in
    rw (long, take_at (to_le_bytes w n) rest (byte_len w) len, drop_at (to_le_bytes w n) rest (byte_len w) len, wide.again n lt) refl

-- ---- the head

mark_takes : (bytes rest : List ℕ) → IsBytes bytes → after_mark bytes ≡ Ok rest → Takes bytes (codes "GFX1") rest
unfolding after_mark
mark_takes bytes rest fits e =
    let g = if_not (ltb (length bytes) 4) cut_off (cond (bytes_eq (take 4 bytes) (codes "GFX1")) (Ok (drop 4 bytes)) (Err other_mark)) rest e in
    let h = if_so (bytes_eq (take 4 bytes) (codes "GFX1")) other_mark (Ok (drop 4 bytes)) rest g.1 in
    let front : take 4 bytes ≡ codes "GFX1" = (bytes_eq-Decides (take 4 bytes) (codes "GFX1")).0 h.0 in
    let back : drop 4 bytes ≡ rest = ok_is {E = ℕ} (drop 4 bytes) rest h.1 in
    record {
      parts = sym (take-append-drop 4 bytes) ∙ ap (λ (t : List ℕ). t ++ drop 4 bytes) front ∙ ap (λ (t : List ℕ). codes "GFX1" ++ t) back;
      rest_fits = subst (λ (t : List ℕ). IsBytes t) back (IsBytes-drop 4 bytes fits);
    }

mark_again : (rest : List ℕ) → after_mark (codes "GFX1" ++ rest) ≡ Ok rest
unfolding after_mark
mark_again rest =
    let long : ltb (length (codes "GFX1" ++ rest)) 4 ≡ false = le-ltb _ _ (omega (arith, length-append (codes "GFX1") rest)) in
    rw long refl

side_takes : (bytes : List ℕ) (n : ℕ) (rest : List ℕ) → IsBytes bytes → side_at bytes ≡ Ok (n, rest) → Takes bytes (to_le_bytes w16 n) rest × IsSide n
unfolding side_at
side_takes bytes n rest fits e =
    let a = bind_ok (number_at w16 bytes) (λ x. cond (leb 1 x.0 && leb x.0 2048) (Ok x) (Err out_of_range)) (n, rest) e in
    let g = if_so (leb 1 a.0.0 && leb a.0.0 2048) out_of_range (Ok a.0) (n, rest) a.2 in
    let both = and_parts (leb 1 a.0.0) (leb a.0.0 2048) g.0 in
    let is : a.0 ≡ (n, rest) = ok_is {E = ℕ} a.0 (n, rest) g.1 in
    subst (λ (x : ℕ × List ℕ). Takes bytes (to_le_bytes w16 x.0) x.1 × IsSide x.0) is
    (number_takes w16 (2 ^ 16) wide16 bytes a.0.0 a.0.1 fits a.1, (leb-true 1 a.0.0 both.0, leb-true a.0.0 2048 both.1))

side_again : (n : ℕ) (rest : List ℕ) → IsSide n → side_at (to_le_bytes w16 n ++ rest) ≡ Ok (n, rest)
unfolding side_at
side_again n rest is =
    let test : (leb 1 n && leb n 2048) ≡ true = and_from (leb 1 n) (leb n 2048) (le-leb 1 n is.0) (le-leb n 2048 is.1) in
    rw (number_again w16 (2 ^ 16) wide16 n rest (omega (arith, is.1)), test) refl

-- so many frames can be captured
abbrev pub AreFew : (width height frames : ℕ) → Type 0
AreFew width height frames = (1 ≤ frames) × (frames ≤ 1024) × (frames * text_length width height ≤ 134217728)

count_takes : (width height : ℕ) (bytes : List ℕ) (n : ℕ) (rest : List ℕ) → IsBytes bytes → count_at width height bytes ≡ Ok (n, rest) → Takes bytes (to_le_bytes w32 n) rest × AreFew width height n
unfolding count_at
count_takes width height bytes n rest fits e =
    let a = bind_ok (number_at w32 bytes) (λ x. cond (can_be_captured width height x.0) (Ok x) (Err out_of_range)) (n, rest) e in
    let g = if_so (can_be_captured width height a.0.0) out_of_range (Ok a.0) (n, rest) a.2 in
    let few = and_parts (leb 1 a.0.0) (leb a.0.0 1024 && leb (a.0.0 * text_length width height) 134217728) g.0 in
    let both = and_parts (leb a.0.0 1024) (leb (a.0.0 * text_length width height) 134217728) few.1 in
    let is : a.0 ≡ (n, rest) = ok_is {E = ℕ} a.0 (n, rest) g.1 in
    subst (λ (x : ℕ × List ℕ). Takes bytes (to_le_bytes w32 x.0) x.1 × AreFew width height x.0) is
    (number_takes w32 (2 ^ 32) wide32 bytes a.0.0 a.0.1 fits a.1, (leb-true 1 a.0.0 few.0, leb-true a.0.0 1024 both.0, leb-true _ _ both.1))

count_again : (width height : ℕ) (n : ℕ) (rest : List ℕ) → AreFew width height n → count_at width height (to_le_bytes w32 n ++ rest) ≡ Ok (n, rest)
unfolding count_at
count_again width height n rest is =
    let both = and_from (leb n 1024) (leb (n * text_length width height) 134217728) (le-leb n 1024 is.1) (le-leb _ _ is.2) in
    let test : can_be_captured width height n ≡ true = and_from (leb 1 n) (leb n 1024 && leb (n * text_length width height) 134217728) (le-leb 1 n is.0) both in
    rw (number_again w32 (2 ^ 32) wide32 n rest (omega (arith, is.1)), test) refl

-- the head's bytes
abbrev pub head_bytes : Head → List ℕ
head_bytes h = codes "GFX1" ++ (to_le_bytes w16 h.width ++ (to_le_bytes w16 h.height ++ to_le_bytes w32 h.frames))

abbrev pub IsHead : Head → Type 0
IsHead h = IsSide h.width × IsSide h.height × AreFew h.width h.height h.frames

pub head_takes : (bytes : List ℕ) (x : Head × List ℕ) → IsBytes bytes → head_at bytes ≡ Ok x → Takes bytes (head_bytes x.0) x.1 × IsHead x.0
unfolding head_at
head_takes bytes x fits e =
    let a = bind_ok (after_mark bytes) (λ r. side_at r >>= λ w. side_at w.1 >>= λ h. count_at w.0 h.0 h.1 >>= λ n. Ok (record { width = w.0; height = h.0; frames = n.0 }, n.1)) x e in
    let b = bind_ok (side_at a.0) (λ w. side_at w.1 >>= λ h. count_at w.0 h.0 h.1 >>= λ n. Ok (record { width = w.0; height = h.0; frames = n.0 }, n.1)) x a.2 in
    let c = bind_ok (side_at b.0.1) (λ h. count_at b.0.0 h.0 h.1 >>= λ n. Ok (record { width = b.0.0; height = h.0; frames = n.0 }, n.1)) x b.2 in
    let d = bind_ok (count_at b.0.0 c.0.0 c.0.1) (λ n. Ok (record { width = b.0.0; height = c.0.0; frames = n.0 }, n.1)) x c.2 in
    let t0 = mark_takes bytes a.0 fits a.1 in
    let t1 = side_takes a.0 b.0.0 b.0.1 t0.rest_fits b.1 in
    let t2 = side_takes b.0.1 c.0.0 c.0.1 t1.0.rest_fits c.1 in
    let t3 = count_takes b.0.0 c.0.0 c.0.1 d.0.0 d.0.1 t2.0.rest_fits d.1 in
    let e23 = Takes-then b.0.1 (to_le_bytes w16 c.0.0) c.0.1 (to_le_bytes w32 d.0.0) d.0.1 t2.0 t3.0 in
    let e13 = Takes-then a.0 (to_le_bytes w16 b.0.0) b.0.1 (to_le_bytes w16 c.0.0 ++ to_le_bytes w32 d.0.0) d.0.1 t1.0 e23 in
    let e03 = Takes-then bytes (codes "GFX1") a.0 (to_le_bytes w16 b.0.0 ++ (to_le_bytes w16 c.0.0 ++ to_le_bytes w32 d.0.0)) d.0.1 t0 e13 in
    let made : Head × List ℕ = (record { width = b.0.0; height = c.0.0; frames = d.0.0 }, d.0.1) in
    subst (λ (y : Head × List ℕ). Takes bytes (head_bytes y.0) y.1 × IsHead y.0) (ok_is {E = ℕ} made x d.2) (e03, (t1.1, t2.1, t3.1))

pub head_again : (h : Head) (rest : List ℕ) → IsHead h → head_at (head_bytes h ++ rest) ≡ Ok (h, rest)
unfolding head_at
head_again h rest is =
    let n = to_le_bytes w32 h.frames in
    let two = to_le_bytes w16 h.height ++ n in
    let three = to_le_bytes w16 h.width ++ two in
    let regrouped : head_bytes h ++ rest ≡ codes "GFX1" ++ (to_le_bytes w16 h.width ++ (to_le_bytes w16 h.height ++ (n ++ rest))) =
    append_assoc (codes "GFX1") three rest
    ∙ ap (λ (x : List ℕ). codes "GFX1" ++ x) (append_assoc (to_le_bytes w16 h.width) two rest)
    ∙ ap (λ (x : List ℕ). codes "GFX1" ++ (to_le_bytes w16 h.width ++ x)) (append_assoc (to_le_bytes w16 h.height) n rest) in
    ap head_at regrouped ∙ rw (mark_again (to_le_bytes w16 h.width ++ (to_le_bytes w16 h.height ++ (n ++ rest))), side_again h.width (to_le_bytes w16 h.height ++ (n ++ rest)) is.0, side_again h.height (n ++ rest) is.1, count_again h.width h.height h.frames rest is.2) refl

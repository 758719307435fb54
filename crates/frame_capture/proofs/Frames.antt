-- The frames of a capture, and the whole of it.
use Rattle.std.proofs.Common.{◌≡◌, ℕ, zero, suc, ◌+◌, ◌*◌, ◌^◌, ◌<◌, ◌≤◌, cond, eqb, List, [], ◌∷◌, ◌++◌, length, None, Result, Ok, Err, refl, sym, ap, ◌∙◌, append_assoc, arith, suc-mul}
use Rattle.std.specs.Prelude.{flat_map}
use Rattle.std.specs.List.{AllByRecursion}
use Rattle.std.specs.Int.{w32, to_le_bytes}
use Rattle.std.proofs.lemmas.Bool.{eqb-true, eq-eqb}
use Rattle.std.proofs.lemmas.List.{length-append}
use Rattle.frame_capture.specs.declared.run.Color.{Color}
use Rattle.frame_capture.specs.Film.{Film, color_bytes, text_head, text_length, texts}
use Rattle.frame_capture.specs.Capture.{run_bytes, run_pixels, AreRunsOf, AreFrames, IsCapture}
use Rattle.frame_capture.specs.Fault.{◌>>=◌, Fault, Head, number_at, runs_at, frame_at, frames_at, behind_frames, ended, head_at, shown, misplaced}
use Rattle.frame_capture.proofs.FieldLaws.{IsBytes, bind_ok, if_so, ok_is, wide32, number_takes, number_again, head_bytes, IsHead, head_takes, head_again}
use Rattle.frame_capture.proofs.Runs.{runs-take, runs-again}

-- ---- lengths

pub colors-length : (p : List Color) → length (flat_map color_bytes p) ≡ 3 * length p
colors-length [] = refl
colors-length (c ∷ cs) = omega (arith, colors-length cs)

-- the picture texts with this head
abbrev pub texts_with : (head : List ℕ) → List (List Color) → List ℕ
texts_with head ps = flat_map (λ p. head ++ flat_map color_bytes p) ps

-- each picture has so many pixels
abbrev pub AreWhole : ℕ → List (List Color) → Type 0
AreWhole pixels ps = AllByRecursion (λ p. length p ≡ pixels) ps

pub texts-length : (head : List ℕ) (pixels : ℕ) (ps : List (List Color)) → AreWhole pixels ps → length (texts_with head ps) ≡ length ps * (length head + 3 * pixels)
texts-length head pixels [] whole = let none : 0 ≡ 0 * (length head + 3 * pixels) = omega arith in none
texts-length head pixels (p ∷ ps) whole =
    let text = head ++ flat_map color_bytes p in
    let one : length text ≡ length head + 3 * pixels = omega (arith, length-append head (flat_map color_bytes p), colors-length p, whole.0) in
    let all : length (text ++ texts_with head ps) ≡ length text + length (texts_with head ps) = length-append text (texts_with head ps) in
    all ∙ ap (λ (n : ℕ). n + length (texts_with head ps)) one ∙ ap (λ (n : ℕ). length head + 3 * pixels + n) (texts-length head pixels ps whole.1) ∙ one_more
  where
    one_more : length head + 3 * pixels + length ps * (length head + 3 * pixels) ≡ suc (length ps) * (length head + 3 * pixels)
    one_more = omega (arith, suc-mul (length ps) (length head + 3 * pixels))

-- ---- frames

behind-ok : {A : Type 0} (k : ℕ) (r : Result A ℕ) (x : A) → behind_frames k r ≡ Ok x → r ≡ Ok x
behind-ok k (Ok y) x e = cc
behind-ok k (Err cause) x e = absurd cc

-- a frame that was read
pub record TakesFrame (k pixels : ℕ) (bytes text rest : List ℕ) : Type 0 where
  pub runs : List ℕ
  pub picture : List Color
  pub are : AreRunsOf runs picture
  pub many : length picture ≡ pixels
  pub text_is : text ≡ flat_map color_bytes picture
  pub parts : bytes ≡ to_le_bytes w32 k ++ (runs ++ rest)
  pub rest_fits : IsBytes rest

frame-takes : (k pixels : ℕ) (bytes : List ℕ) (x : List ℕ × List ℕ) → IsBytes bytes → frame_at k pixels bytes ≡ Ok x → TakesFrame k pixels bytes x.0 x.1
unfolding frame_at
frame-takes k pixels bytes x fits e =
    let a = bind_ok (number_at w32 bytes) (λ n. cond (eqb n.0 k) (runs_at None pixels n.1) (Err misplaced)) x e in
    let g = if_so (eqb a.0.0 k) misplaced (runs_at None pixels a.0.1) x a.2 in
    let t = number_takes w32 (2 ^ 32) wide32 bytes a.0.0 a.0.1 fits a.1 in
    let h = runs-take None pixels a.0.1 x t.rest_fits g.1 in
    record {
      runs = flat_map run_bytes h.runs;
      picture = flat_map run_pixels h.runs;
      are = record { runs = h.runs; lawful = h.lawful; stand_for = refl; spelled = refl };
      many = h.many;
      text_is = h.text_is;
      parts = t.parts ∙ ap (λ (r : List ℕ). to_le_bytes w32 a.0.0 ++ r) h.takes.parts ∙ ap (λ (n : ℕ). to_le_bytes w32 n ++ (flat_map run_bytes h.runs ++ x.1)) (eqb-true a.0.0 k g.0);
      rest_fits = h.takes.rest_fits;
    }

frame-again : (k pixels : ℕ) (runs rest : List ℕ) (picture : List Color) → k < 2 ^ 32 → AreRunsOf runs picture → length picture ≡ pixels
    → frame_at k pixels (to_le_bytes w32 k ++ (runs ++ rest)) ≡ Ok (flat_map color_bytes picture, rest)
unfolding frame_at
frame-again k pixels runs rest picture small are many =
    let read : runs_at None pixels (flat_map run_bytes are.runs ++ rest) ≡ Ok (flat_map color_bytes (flat_map run_pixels are.runs), rest) =
    runs-again are.runs None pixels rest are.lawful tt (ap length (sym are.stand_for) ∙ many) in
    let own : runs_at None pixels (runs ++ rest) ≡ Ok (flat_map color_bytes picture, rest) =
    ap (λ (b : List ℕ). runs_at None pixels (b ++ rest)) are.spelled ∙ read ∙ ap (λ (p : List Color). Ok (flat_map color_bytes p, rest)) (sym are.stand_for) in
    rw (number_again w32 (2 ^ 32) wide32 k (runs ++ rest) small, eq-eqb k k refl) own

-- frames that were read
pub record TakesFrames (head : List ℕ) (pixels k n : ℕ) (bytes text : List ℕ) : Type 0 where
  pub pictures : List (List Color)
  pub are : AreFrames k bytes pictures
  pub whole : AreWhole pixels pictures
  pub many : length pictures ≡ n
  pub text_is : text ≡ texts_with head pictures

nothing-left : (k : ℕ) (bytes text : List ℕ) → ended k bytes ≡ Ok text → (bytes ≡ []) × (text ≡ [])
nothing-left k [] text e = (refl, sym (ok_is {E = Fault} [] text e))
nothing-left k (b ∷ bytes) text e = absurd cc

frames-take : (head : List ℕ) (pixels k n : ℕ) (bytes text : List ℕ) → IsBytes bytes → frames_at head pixels k n bytes ≡ Ok text → TakesFrames head pixels k n bytes text
unfolding frames_at
frames-take head pixels k zero bytes text fits e =
    let h = nothing-left k bytes text e in
    record { pictures = []; are = h.0; whole = tt; many = refl; text_is = h.1 }
frames-take head pixels k (suc n) bytes text fits e =
    let a = bind_ok (behind_frames k (frame_at k pixels bytes)) (λ f. frames_at head pixels (k + 1) n f.1 >>= λ o. Ok (head ++ (f.0 ++ o))) text e in
    let b = bind_ok (frames_at head pixels (k + 1) n a.0.1) (λ o. Ok (head ++ (a.0.0 ++ o))) text a.2 in
    let one = frame-takes k pixels bytes a.0 fits (behind-ok k (frame_at k pixels bytes) a.0 a.1) in
    let others = frames-take head pixels (k + 1) n a.0.1 b.0 one.rest_fits b.1 in
    let joined : text ≡ head ++ (a.0.0 ++ b.0) = sym (ok_is {E = Fault} (head ++ (a.0.0 ++ b.0)) text b.2) in
    record {
      pictures = one.picture ∷ others.pictures;
      are = (one.runs, a.0.1, one.parts, one.are, others.are);
      whole = (one.many, others.whole);
      many = ap suc others.many;
      text_is = joined ∙ ap (λ (t : List ℕ). head ++ (t ++ b.0)) one.text_is ∙ ap (λ (t : List ℕ). head ++ (flat_map color_bytes one.picture ++ t)) others.text_is
          ∙ sym (append_assoc head (flat_map color_bytes one.picture) (texts_with head others.pictures));
    }

frames-again : (head : List ℕ) (pixels k : ℕ) (ps : List (List Color)) (bytes : List ℕ) → k + length ps ≤ 2 ^ 32 → AreFrames k bytes ps → AreWhole pixels ps
    → frames_at head pixels k (length ps) bytes ≡ Ok (texts_with head ps)
unfolding frames_at
frames-again head pixels k [] bytes few are whole = ap (ended k) are
frames-again head pixels k (p ∷ ps) bytes few are whole =
    let one : frame_at k pixels bytes ≡ Ok (flat_map color_bytes p, are.1) = ap (frame_at k pixels) are.2 ∙ frame-again k pixels are.0 are.1 p (omega (arith, few)) are.3 whole.0 in
    let others : frames_at head pixels (k + 1) (length ps) are.1 ≡ Ok (texts_with head ps) = frames-again head pixels (k + 1) ps are.1 (omega (arith, few)) are.4 whole.1 in
    rw (one, others) (ap (λ (t : List ℕ). Ok t) (sym (append_assoc head (flat_map color_bytes p) (texts_with head ps))))

-- ---- captures

pub shown-takes : (bytes text : List ℕ) → IsBytes bytes → shown bytes ≡ Ok text → (f : Film) × IsCapture bytes f × (text ≡ texts f)
unfolding shown
shown-takes bytes text fits e =
    let a = bind_ok (behind_frames 0 (head_at bytes)) (λ h. frames_at (text_head h.0.width h.0.height) (h.0.width * h.0.height) 0 h.0.frames h.1) text e in
    let h = a.0.0 in
    let head = text_head h.width h.height in
    let t = head_takes bytes a.0 fits (behind-ok 0 (head_at bytes) a.0 a.1) in
    let r = frames-take head (h.width * h.height) 0 h.frames a.0.1 text t.0.rest_fits a.2 in
    let f : Film = record { width = h.width; height = h.height; pictures = r.pictures } in
    let few : length (texts f) ≡ h.frames * text_length h.width h.height = texts-length head (h.width * h.height) r.pictures r.whole ∙ ap (λ (n : ℕ). n * text_length h.width h.height) r.many in (
      f,
      record {
        frames = a.0.1;
        can = record {
          sides = (t.1.0, t.1.1);
          count = (omega (arith, r.many, t.1.2.0), omega (arith, r.many, t.1.2.1));
          whole = r.whole;
          short = omega (arith, few, t.1.2.2);
        };
        spelled = t.0.parts ∙ ap (λ (n : ℕ). head_bytes (record { width = h.width; height = h.height; frames = n }) ++ a.0.1) (sym r.many);
        framed = r.are;
      },
      r.text_is,
    )

pub shown-again : (bytes : List ℕ) (f : Film) → IsCapture bytes f → shown bytes ≡ Ok (texts f)
unfolding shown
shown-again bytes f is =
    let h : Head = record { width = f.width; height = f.height; frames = length f.pictures } in
    let head = text_head f.width f.height in
    let can = is.can in
    let few : length (texts f) ≡ h.frames * text_length h.width h.height = texts-length head (f.width * f.height) f.pictures can.whole in
    let lawful : IsHead h = (can.sides.0, can.sides.1, (can.count.0, can.count.1, omega (arith, few, can.short))) in
    let read : head_at bytes ≡ Ok (h, is.frames) = ap head_at is.spelled ∙ head_again h is.frames lawful in
    let others : frames_at head (f.width * f.height) 0 (length f.pictures) is.frames ≡ Ok (texts f) = frames-again head (f.width * f.height) 0 f.pictures is.frames (omega (arith, can.count.1)) is.framed can.whole in
    rw read others

-- no bytes are the capture of pictures with other texts
pub same-texts : (bytes : List ℕ) (f g : Film) → IsCapture bytes f → IsCapture bytes g → texts f ≡ texts g
same-texts bytes f g a b = ok_is {E = Fault} (texts f) (texts g) (sym (shown-again bytes f a) ∙ shown-again bytes g b)

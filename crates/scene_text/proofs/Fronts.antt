-- Reading the scene at the front of a text, line by line.
use Rattle.std.proofs.Common.{◌≡◌, ℕ, ◌+◌, ◌-◌, ◌<◌, ◌≤◌, length, take, drop, true, false, List, [], ◌∷◌, Result, Ok, Err, refl, ap, sym, ◌∙◌, arith}
use Rattle.std.proofs.lemmas.List.{length-drop, length-take-le}
use Rattle.scene_model.specs.Scene.{Scene}
use Rattle.scene_model.specs.Field.{split_at}
use Rattle.scene_model.specs.Grammar.{Language, Reading, Fault, line_read, front_pieces, scene_read, is_at_end}
use Rattle.scene_text.specs.declared.fault.LineFault.{LineFault}
use Rattle.scene_text.specs.declared.fault.LineFault.TheVariants as faults
use Rattle.scene_text.specs.Gives.{Fails, number_of}
use Rattle.scene_text.specs.Reads.{at, FailsAt}
use Rattle.scene_text.proofs.Lines.{parts}

-- one line is read
front_step : (known : Language) (n place : ℕ) (r : Reading) (p rest : List ℕ) → is_at_end r.stage ≡ false → front_pieces known n place (Ok r) (p ∷ split_at 10 rest) ≡ front_pieces known (n + 1) (place + length p + 1) (line_read known r p) (split_at 10 rest)
front_step known n place r p rest e =
    let s = parts 10 rest in
    rw (s.are, e) refl

pub front_more : (known : Language) (n total : ℕ) (r q : Reading) (k : ℕ) (text : List ℕ) (whole : Result (Scene × ℕ) Fault) → is_at_end r.stage ≡ false → k < length text → length text ≤ total → front_pieces known n (total - length text) (Ok r) (split_at 10 text) ≡ whole → split_at 10 text ≡ take k text ∷ split_at 10 (drop (k + 1) text) → line_read known r (take k text) ≡ Ok q → front_pieces known (n + 1) (total - length (drop (k + 1) text)) (Ok q) (split_at 10 (drop (k + 1) text)) ≡ whole
front_more known n total r q k text whole e lt le h s l =
    let place : total - length (drop (k + 1) text) ≡ total - length text + length (take k text) + 1 = omega (arith, length-drop (k + 1) text, length-take-le k text (omega arith)) in
    rw place
    (ap (λ x. front_pieces known (n + 1) (total - length text + length (take k text) + 1) x (split_at 10 (drop (k + 1) text))) (sym l)
    ∙ sym (front_step known n (total - length text) r (take k text) (drop (k + 1) text) e)
    ∙ ap (front_pieces known n (total - length text) (Ok r)) (sym s) ∙ h)

-- a line that fails ends it
pub front_stops : (known : Language) (f : LineFault) (n place : ℕ) (r : Reading) (p text rest : List ℕ) (whole : Result (Scene × ℕ) Fault) → is_at_end r.stage ≡ false → front_pieces known n place (Ok r) (split_at 10 text) ≡ whole → split_at 10 text ≡ p ∷ split_at 10 rest → Fails f (line_read known r p) → FailsAt (at f n) whole
front_stops known faults.OutOfMemory n place r p text rest whole a e s l = tt
front_stops known (faults.Bad cause) n place r p text rest whole a e s l =
    let k : n + 1 - 1 ≡ n = omega arith in
    sym e ∙ ap (front_pieces known n place (Ok r)) s ∙ front_step known n place r p rest a ∙ ap (λ x. front_pieces known (n + 1) (place + length p + 1) x (split_at 10 rest)) l ∙ ap (λ m. failed m (number_of cause)) k
  where
    failed : ℕ → ℕ → Result (Scene × ℕ) Fault
    failed line cause = Err (record { line = line; cause = cause })

-- behind the `done` line nothing is read
pub front_ends : (known : Language) (n place : ℕ) (r : Reading) (rest : List ℕ) (scene : Scene) (whole : Result (Scene × ℕ) Fault) → is_at_end r.stage ≡ true → front_pieces known n place (Ok r) (split_at 10 rest) ≡ whole → scene ≡ scene_read r → whole ≡ Ok (scene, place)
front_ends known n place r rest scene whole e h same = let s = parts 10 rest in sym h ∙ ap (front_pieces known n place (Ok r)) s.are ∙ by s.first s.rest ∙ ap (λ (t : Scene). found t) (sym same)
  where
    found : Scene → Result (Scene × ℕ) Fault
    found t = Ok (t, place)

    by : (p : List ℕ) (ps : List (List ℕ)) → front_pieces known n place (Ok r) (p ∷ ps) ≡ Ok (scene_read r, place)
    by p [] = rw e refl
    by p (q ∷ qs) = rw e refl

-- A scene at the front of a text is read as the whole of some text that has no more pieces.
use Rattle.std.proofs.Common.{◌≡◌, ℕ, suc, ◌+◌, ◌≤◌, Bool, true, false, not, ◌&&◌, ◌==◌, cond, List, [], ◌∷◌, ◌++◌, length, Ok, Err, Result, refl, ap, sym, ◌∙◌, arith}
use Rattle.std.specs.Bool.{⊤}
use Rattle.scene_model.specs.Scene.{Scene}
use Rattle.scene_model.specs.Field.{Read, split_at, with_head}
use Rattle.scene_model.specs.Grammar.{Language, Reading, nothing_read, Fault, is_at_end, scene_read, at_last_piece, line_read, read_pieces, scene_of, with_place, front_pieces, front_of}
use Rattle.scene_model.proofs.SplitLaws.{is_free_of, split-found, split-none, split-has}
use Rattle.spelling_model.proofs.Joins.{joined_by}

-- no piece has a newline
abbrev AreFree : List (List ℕ) → Type 0
AreFree [] = ⊤
AreFree (p ∷ ps) = (is_free_of 10 p ≡ true) × AreFree ps

head_free : (b : ℕ) (ps : List (List ℕ)) → (b == 10) ≡ false → AreFree ps → AreFree (with_head b ps)
head_free b [] h k = (ap (λ t. not t && true) h, tt)
head_free b (p ∷ ps) h k = (ap (λ t. not t && is_free_of 10 p) h ∙ k.0, k.1)

pieces_free : (xs : List ℕ) → AreFree (split_at 10 xs)
pieces_free [] = (refl, tt)
pieces_free (x ∷ xs) = by (x == 10) refl (pieces_free xs)
  where
    by : (t : Bool) → (x == 10) ≡ t → AreFree (split_at 10 xs) → AreFree (cond t ([] ∷ split_at 10 xs) (with_head x (split_at 10 xs)))
    by true h k = (refl, k)
    by false h k = head_free x (split_at 10 xs) h k

-- pieces without a newline are those of their text
apart : (p : List ℕ) (ps : List (List ℕ)) → AreFree (p ∷ ps) → split_at 10 (joined_by 10 (p ∷ ps)) ≡ p ∷ ps
apart p [] h = split-none 10 p h.0
apart p (q ∷ ps) h = split-found 10 p (joined_by 10 (q ∷ ps)) h.0 ∙ ap (λ k. p ∷ k) (apart q ps h.1)

-- fewer pieces that are read to the scene
record Front (known : Language) (n : ℕ) (r : Reading) (pieces : List (List ℕ)) (s : Scene) : Type 0 where
  first : List ℕ
  rest : List (List ℕ)
  free : AreFree (first ∷ rest)
  few : length (first ∷ rest) ≤ length pieces
  read : read_pieces known n (Ok r) (first ∷ rest) ≡ Ok s

ended : (known : Language) (n : ℕ) (r : Reading) (p : List ℕ) (ps : List (List ℕ)) (f : Scene × ℕ) (place : ℕ) → is_at_end r.stage ≡ true → ◌≡◌ {A = Result (Scene × ℕ) Fault} (Ok (scene_read r, place)) (Ok f) → Front known n r (p ∷ ps) f.0
ended known n r p ps f place end e =
    let same : (scene_read r, place) ≡ f = cc e in
    record { first = []; rest = []; free = (refl, tt); few = omega arith; read = rw end (ap (λ k. Ok k.0) same) }

placed : (place : ℕ) (m : Result Scene Fault) (f : Scene × ℕ) → with_place place m ≡ Ok f → m ≡ Ok f.0
placed place (Ok s) f e = let same : (s, place) ≡ f = cc e in ap (λ k. Ok k.0) same
placed place (Err c) f e = absurd (cc e)

front_read : (known : Language) (pieces : List (List ℕ)) (n place : ℕ) (r : Reading) (f : Scene × ℕ) → AreFree pieces → front_pieces known n place (Ok r) pieces ≡ Ok f → Front known n r pieces f.0
front_read known [] n place r f h e = absurd (cc e)
front_read known (p ∷ []) n place r f h e = by (is_at_end r.stage) refl e
  where
    by : (b : Bool) → is_at_end r.stage ≡ b → cond {A = Result (Scene × ℕ) Fault} b (Ok (scene_read r, place)) (with_place place (at_last_piece n r p)) ≡ Ok f → Front known n r (p ∷ []) f.0
    by true end e = ended known n r p [] f place end e
    by false end e = record { first = p; rest = []; free = h; few = omega arith; read = placed place (at_last_piece n r p) f e }
front_read known (p ∷ q ∷ rest) n place r f h e = by (is_at_end r.stage) refl e (line_read known r p) refl (λ k l. front_read known (q ∷ rest) (n + 1) (place + length p + 1) k f h.1 l)
  where
    further : (m : Read Reading) → line_read known r p ≡ m → ((k : Reading) → front_pieces known (n + 1) (place + length p + 1) (Ok k) (q ∷ rest) ≡ Ok f → Front known (n + 1) k (q ∷ rest) f.0) → front_pieces known (n + 1) (place + length p + 1) m (q ∷ rest) ≡ Ok f → Front known n r (p ∷ q ∷ rest) f.0
    further (Err c) l later e = absurd (cc e)
    further (Ok k) l later e =
        let t = later k e in
        record { first = p; rest = t.first ∷ t.rest; free = (h.0, t.free); few = (let x = t.few in omega (arith, x)); read = ap (λ m. read_pieces known (n + 1) m (t.first ∷ t.rest)) l ∙ t.read }

    by : (b : Bool) → is_at_end r.stage ≡ b → cond {A = Result (Scene × ℕ) Fault} b (Ok (scene_read r, place)) (front_pieces known (n + 1) (place + length p + 1) (line_read known r p) (q ∷ rest)) ≡ Ok f
        → (m : Read Reading) → line_read known r p ≡ m → ((k : Reading) → front_pieces known (n + 1) (place + length p + 1) (Ok k) (q ∷ rest) ≡ Ok f → Front known (n + 1) k (q ∷ rest) f.0) → Front known n r (p ∷ q ∷ rest) f.0
    by true end e m l later = ended known n r p (q ∷ rest) f place end e
    by false end e m l later = further m l later (ap (λ m. front_pieces known (n + 1) (place + length p + 1) m (q ∷ rest)) (sym l) ∙ e)

-- a scene at the front of a text is the whole of a text
pub front-reads : (known : Language) (bytes : List ℕ) (f : Scene × ℕ) → front_of known bytes ≡ Ok f → (text : List ℕ) × (length (split_at 10 text) ≤ length (split_at 10 bytes)) × (scene_of known text ≡ Ok f.0)
front-reads known bytes f e =
    let t = front_read known (split_at 10 bytes) 1 0 nothing_read f (pieces_free bytes) e in
    let same = apart t.first t.rest t.free in
    let few = t.few in
    (joined_by 10 (t.first ∷ t.rest), omega (arith, few, ap length same), ap (read_pieces known 1 (Ok nothing_read)) same ∙ t.read)

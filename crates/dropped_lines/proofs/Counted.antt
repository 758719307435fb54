-- As many lines of a frame are listed as its note says that it dropped.
use Rattle.std.proofs.Common.{◌≡◌, ℕ, zero, suc, ◌+◌, ◌<◌, ◌≤◌, ◌==◌, Bool, true, false, cond, List, [], ◌∷◌, ◌++◌, map, fold, length, filter, flat_map, sum_by, Option, Some, None, slice_get, Result, Ok, Err, refl, sym, ap, subst, ◌∙◌, arith}
use Rattle.std.specs.Bool.{⊤}
use Rattle.std.specs.List.{AllByRecursion, range_with_len}
use Rattle.std.proofs.lemmas.List.Concat.{flat_map-cons}
use Rattle.std.proofs.lemmas.List.Sums.{sum_by-cons}
use Rattle.gfx_model.specs.Resources.{ResourceCall, Refusal, first_refusal, refusal_of, effect, or_refusal}
use Rattle.gfx_model.specs.Recorder.{EncoderCall, refusals, asked, after, Recorder}
use Rattle.gfx_model.specs.Resources as calls
use Rattle.scene_model.specs.Scene.{ResourceLine, EncoderLine, Block, SceneFrame, Scene, views_of}
use Rattle.scene_model.specs.Fold.{Progress, Recording, Accepted, FramePlan, accepted_of, recording_of, recording_after, after_answer, after_call, after_line, after_lines, after_encoder_call, after_encoder_line, resource_call, encoder_call, lines_of, at_start, first_progress, plan_of, plans_from, plans}
use Rattle.scene_model.specs.Output.{frame_dropped}
use Rattle.scene_model.specs.Grammar.{Field}
use Rattle.spelling_model.specs.Readable.{IsReadable, IsBlock, IsFrame, AreFrames, AreAscending, bound_by_frame}
use Rattle.spelling_model.proofs.Reading.{reading-law}
use Rattle.dropped_lines.specs.Reasons.{Reason, refused, reason_of_call, resource_reason, reason_of_encoder_call, encoder_reason}
use Rattle.dropped_lines.specs.Verdicts.{Verdict, resource_verdicts, encoder_verdicts, block_verdicts, recording_begun, frame_verdicts, verdicts_from, verdicts}
use Rattle.dropped_lines.specs.Numbers.{line_numbers}
use Rattle.dropped_lines.specs.Dropped.{Dropped, with_line, dropped_with, dropped_lines}
use Rattle.dropped_lines.specs.Laws.{CountLaw, SilentLaw, IsNumbered, dropped_for, StepLaw}
use Rattle.dropped_lines.proofs.Numbered.{number-law}

-- ---- how many of some lines are dropped

abbrev one : Option Reason → ℕ
one None = 0
one (Some r) = 1

abbrev drops : List Verdict → ℕ
drops [] = 0
drops (v ∷ vs) = one v.reason + drops vs

abbrev when : Bool → ℕ → ℕ
when b n = cond b n 0

abbrev drops_in : ℕ → List Verdict → ℕ
drops_in k [] = 0
drops_in k (v ∷ vs) = when (v.frame == k) (one v.reason) + drops_in k vs

abbrev of_frame : ℕ → Dropped → Bool
of_frame k d = d.frame == k

more : {m n : ℕ} → m ≡ n → suc m ≡ 1 + n
more h = omega (arith, h)

same : {m n : ℕ} → m ≡ n → m ≡ 0 + n
same h = omega (arith, h)

listed : (k : ℕ) (ns : List ℕ) (vs : List Verdict) → length vs ≡ length ns → length (filter (λ d. d.frame == k) (dropped_with ns vs)) ≡ drops_in k vs
listed k [] [] e = refl
listed k [] (v ∷ vs) e = absurd (cc e)
listed k (n ∷ ns) [] e = absurd (cc e)
listed k (n ∷ ns) (v ∷ vs) e = step v.reason (v.frame == k) refl (listed k ns vs (cc e))
  where
    step : (o : Option Reason) (b : Bool) → (v.frame == k) ≡ b → length (filter (λ d. d.frame == k) (dropped_with ns vs)) ≡ drops_in k vs
        → length (filter (λ d. d.frame == k) (with_line n v o (dropped_with ns vs))) ≡ when b (one o) + drops_in k vs
    step None true s rest = omega (arith, rest)
    step None false s rest = omega (arith, rest)
    step (Some r) true s rest = ap (λ t. length (cond t (record { line = n; frame = v.frame; encoder = v.encoder; reason = r } ∷ filter (λ d. d.frame == k) (dropped_with ns vs)) (filter (λ d. d.frame == k) (dropped_with ns vs)))) s ∙ more rest
    step (Some r) false s rest = ap (λ t. length (cond t (record { line = n; frame = v.frame; encoder = v.encoder; reason = r } ∷ filter (λ d. d.frame == k) (dropped_with ns vs)) (filter (λ d. d.frame == k) (dropped_with ns vs)))) s ∙ same rest

in-append : (k : ℕ) (a b : List Verdict) → drops_in k (a ++ b) ≡ drops_in k a + drops_in k b
in-append k [] b = omega arith
in-append k (v ∷ a) b = let h = in-append k a b in omega (arith, h)

drops-append : (a b : List Verdict) → drops (a ++ b) ≡ drops a + drops b
drops-append [] b = omega arith
drops-append (v ∷ a) b = let h = drops-append a b in omega (arith, h)

-- ---- lines of one frame

abbrev AreOf : ℕ → List Verdict → Type 0
AreOf j vs = AllByRecursion (λ v. v.frame ≡ j) vs

of-append : (j : ℕ) (a b : List Verdict) → AreOf j a → AreOf j b → AreOf j (a ++ b)
of-append j [] b h i = i
of-append j (v ∷ a) b h i = (h.0, of-append j a b h.1 i)

own : (k j : ℕ) (vs : List Verdict) → AreOf j vs → drops_in k vs ≡ when (j == k) (drops vs)
own k j [] h = none (j == k)
  where
    none : (b : Bool) → 0 ≡ when b 0
    none true = refl
    none false = refl
own k j (v ∷ vs) h = ap (λ f. when (f == k) (one v.reason) + drops_in k vs) h.0 ∙ ap (λ t. when (j == k) (one v.reason) + t) (own k j vs h.1) ∙ join (j == k)
  where
    join : (b : Bool) → when b (one v.reason) + when b (drops vs) ≡ when b (one v.reason + drops vs)
    join true = refl
    join false = refl

resource-own : (names : List Field) (k : ℕ) (p : Progress) (ls : List ResourceLine) → AreOf k (resource_verdicts names k p ls)
resource-own names k p [] = tt
resource-own names k p (l ∷ ls) = (refl, resource-own names k (after_line names p l) ls)

encoder-own : (k e : ℕ) (p : Progress) (r : Recording) (ls : List EncoderLine) → AreOf k (encoder_verdicts k e p r ls)
encoder-own k e p r [] = tt
encoder-own k e p r (l ∷ ls) = (refl, encoder-own k e p (after_encoder_line p r l) ls)

blocks-own : (s : Scene) (k : ℕ) (p : Progress) (bs : List Block) → AreOf k (flat_map (block_verdicts s k p) bs)
blocks-own s k p [] = tt
blocks-own s k p (b ∷ bs) =
    subst (AreOf k) (sym (flat_map-cons (block_verdicts s k p) b bs)) (of-append k (block_verdicts s k p b) (flat_map (block_verdicts s k p) bs) (encoder-own k b.encoder p (recording_begun s k) b.lines) (blocks-own s k p bs))

frame-own : (s : Scene) (k : ℕ) (p q : Progress) (f : SceneFrame) → AreOf k (frame_verdicts s k p q f)
frame-own s k p q f =
    of-append k (resource_verdicts s.names k p f.before) (flat_map (block_verdicts s k q) f.blocks ++ resource_verdicts s.names k q f.beside) (resource-own s.names k p f.before)
    (of-append k (flat_map (block_verdicts s k q) f.blocks) (resource_verdicts s.names k q f.beside) (blocks-own s k q f.blocks) (resource-own s.names k q f.beside))

-- ---- what the folds count

refusal-counted : (p : Progress) (l : ResourceLine) (c : ResourceCall) (o : Option Refusal) → one (Rattle.std.proofs.Common.option_map refused o) + p.dropped ≡ (after_answer p l (or_refusal (effect p.resources c) o)).dropped
refusal-counted p l c None = omega arith
refusal-counted p l c (Some r) = omega arith

call-counted : (p : Progress) (l : ResourceLine) (o : Option ResourceCall) → one (reason_of_call p.resources l o) + p.dropped ≡ (after_call p l o).dropped
call-counted p l None = omega arith
call-counted p l (Some c) = refusal-counted p l c (refusal_of p.resources c)

resource-counted : (names : List Field) (k : ℕ) (p : Progress) (ls : List ResourceLine) → drops (resource_verdicts names k p ls) + p.dropped ≡ (after_lines names p ls).dropped
resource-counted names k p [] = omega arith
resource-counted names k p (l ∷ ls) =
    let head = call-counted p l (resource_call p.bindings names l) in
    let rest = resource-counted names k (after_line names p l) ls in
    omega (arith, head, rest)

recorded-counted : (r : Recording) (e : Recorder) (o : Option Refusal) → one (Rattle.std.proofs.Common.option_map refused o) + r.dropped ≡ (recording_after r (or_refusal e o)).dropped
recorded-counted r e None = omega arith
recorded-counted r e (Some x) = omega arith

encoder-call-counted : (p : Progress) (r : Recording) (o : Option EncoderCall) → one (reason_of_encoder_call p.resources r.recorder o) + r.dropped ≡ (after_encoder_call p.resources r o).dropped
encoder-call-counted p r None = omega arith
encoder-call-counted p r (Some c) = recorded-counted r (after r.recorder c) (first_refusal (refusals r.recorder (map (calls.word_of p.resources) (asked c)) c))

one_is : (o : Option Reason) → one o ≡ dropped_for o
one_is None = refl
one_is (Some r) = refl

pub step-law : StepLaw
step-law = record {
  resource = λ names p line.
      let counts = call-counted p line (resource_call p.bindings names line) in
      let same_number = one_is (resource_reason names p line) in
      omega (arith, counts, same_number);
  encoder = λ p r line.
      let counts = encoder-call-counted p r (encoder_call p.bindings line) in
      let same_number = one_is (encoder_reason p r line) in
      omega (arith, counts, same_number);
}

encoder-counted : (k e : ℕ) (p : Progress) (r : Recording) (ls : List EncoderLine) → drops (encoder_verdicts k e p r ls) + r.dropped ≡ (fold (after_encoder_line p) r ls).dropped
encoder-counted k e p r [] = omega arith
encoder-counted k e p r (l ∷ ls) =
    let head = encoder-call-counted p r (encoder_call p.bindings l) in
    let rest = encoder-counted k e p (after_encoder_line p r l) ls in
    omega (arith, head, rest)

-- ---- the encoders of a frame have its blocks

-- blocks of ascending numbers from a on, below n
abbrev FromTo : ℕ → ℕ → List Block → Type 0
FromTo a n [] = ⊤
FromTo a n (b ∷ bs) = (a ≤ b.encoder) × (b.encoder < n) × FromTo (suc b.encoder) n bs

below_from : (n a c : ℕ) (bs : List Block) → a ≤ c → FromTo c n bs → FromTo a n bs
below_from n a c [] le h = tt
below_from n a c (b ∷ bs) le h = (omega (arith, le, h.0), h.1, h.2)

same_test : (m n : ℕ) → (m == n) ≡ true → m ≡ n
same_test m n e = grind (arith, e)

other_test : (m n : ℕ) → (m == n) ≡ false → m ≡ n → ⊥
other_test m n e s = grind (arith, e, s)

not_same : (m n : ℕ) → m < n → (n == m) ≡ false
not_same m n lt = grind (arith, lt)

none-there : (n a c : ℕ) (bs : List Block) → a < c → FromTo c n bs → lines_of a bs ≡ []
none-there n a c [] lt h = refl
none-there n a c (b ∷ bs) lt h =
    ap (λ t. cond t b.lines (lines_of a bs)) (not_same a b.encoder (omega (arith, lt, h.0)))
    ∙ none-there n a (suc b.encoder) bs (omega (arith, lt, h.0)) h.2

abbrev sum_to : (List EncoderLine → ℕ) → ℕ → ℕ → List Block → ℕ
sum_to d zero a bs = 0
sum_to d (suc m) a bs = d (lines_of a bs) + sum_to d m (suc a) bs

abbrev sum_of : (List EncoderLine → ℕ) → List Block → ℕ
sum_of d [] = 0
sum_of d (b ∷ bs) = d b.lines + sum_of d bs

less_same : (m n : ℕ) → m < n → (m == n) ≡ false
less_same m n lt = grind (arith, lt)

-- a block of a lesser number is not looked at
skipped : (d : List EncoderLine → ℕ) (m a : ℕ) (b : Block) (bs : List Block) → b.encoder < a → sum_to d m a (b ∷ bs) ≡ sum_to d m a bs
skipped d zero a b bs lt = refl
skipped d (suc m) a b bs lt =
    let head : d (lines_of a (b ∷ bs)) ≡ d (lines_of a bs) = ap (λ t. d (cond t b.lines (lines_of a bs))) (less_same b.encoder a lt) in
    let rest = skipped d m (suc a) b bs (omega (arith, lt)) in
    omega (arith, head, rest)

nothing_to : (d : List EncoderLine → ℕ) → d [] ≡ 0 → (m a : ℕ) → sum_to d m a [] ≡ 0
nothing_to d z zero a = refl
nothing_to d z (suc m) a = let rest = nothing_to d z m (suc a) in omega (arith, z, rest)

blocks-summed : (d : List EncoderLine → ℕ) → d [] ≡ 0 → (m a : ℕ) (bs : List Block) → FromTo a (a + m) bs → sum_to d m a bs ≡ sum_of d bs
blocks-summed d z m a [] h = nothing_to d z m a
blocks-summed d z zero a (b ∷ bs) h = absurd (omega (arith, h.0, h.1))
blocks-summed d z (suc m) a (b ∷ bs) h = step (b.encoder == a) refl (λ i. blocks-summed d z m (suc a) bs i) (λ i. blocks-summed d z m (suc a) (b ∷ bs) i)
  where
    step : (t : Bool) → (b.encoder == a) ≡ t → (FromTo (suc a) (suc a + m) bs → sum_to d m (suc a) bs ≡ sum_of d bs) → (FromTo (suc a) (suc a + m) (b ∷ bs) → sum_to d m (suc a) (b ∷ bs) ≡ sum_of d (b ∷ bs))
        → d (cond t b.lines (lines_of a bs)) + sum_to d m (suc a) (b ∷ bs) ≡ d b.lines + sum_of d bs
    step true e here later =
        let at : b.encoder ≡ a = same_test b.encoder a e in
        let top : a + suc m ≡ suc a + m = omega arith in
        let over = skipped d m (suc a) b bs (omega (arith, at)) in
        let rest = here (subst (λ n. FromTo (suc a) n bs) top (subst (λ x. FromTo (suc x) (a + suc m) bs) at h.2)) in
        omega (arith, over, rest)
    step false e here later =
        let above : suc a ≤ b.encoder = grind (arith, other_test b.encoder a e, h.0) in
        let top : a + suc m ≡ suc a + m = omega arith in
        let gone : d (lines_of a bs) ≡ 0 = ap d (none-there (a + suc m) a (suc b.encoder) bs (omega (arith, above)) h.2) ∙ z in
        let rest = later (above, omega (arith, h.1), subst (λ n. FromTo (suc b.encoder) n bs) top h.2) in
        omega (arith, gone, rest)

ascending-from : (n : ℕ) (bound : List Bool) (b : Block) (bs : List Block) → AreAscending (b ∷ bs) → AllByRecursion (IsBlock n bound) (b ∷ bs) → FromTo (suc b.encoder) n bs
ascending-from n bound b [] up all = tt
ascending-from n bound b (c ∷ bs) up all = (up.0, all.1.0.0, ascending-from n bound c bs up.1 all.1)

blocks-from : (n : ℕ) (bound : List Bool) (bs : List Block) → AreAscending bs → AllByRecursion (IsBlock n bound) bs → FromTo 0 n bs
blocks-from n bound [] up all = tt
blocks-from n bound (b ∷ bs) up all = (omega arith, all.0.0, ascending-from n bound b bs up all)

-- ---- frames

abbrev block_drops : Scene → ℕ → Progress → List EncoderLine → ℕ
block_drops s k p ls = (fold (after_encoder_line p) (recording_begun s k) ls).dropped

blocks-counted : (s : Scene) (k : ℕ) (p : Progress) (bs : List Block) → drops (flat_map (block_verdicts s k p) bs) ≡ sum_of (block_drops s k p) bs
blocks-counted s k p [] = refl
blocks-counted s k p (b ∷ bs) =
    let head = encoder-counted k b.encoder p (recording_begun s k) b.lines in
    let rest = blocks-counted s k p bs in
    let split = ap drops (flat_map-cons (block_verdicts s k p) b bs) ∙ drops-append (block_verdicts s k p b) (flat_map (block_verdicts s k p) bs) in
    omega (arith, head, rest, split)

encoders-counted : (s : Scene) (k : ℕ) (p : Progress) (f : SceneFrame) (m a : ℕ)
    → sum_by (λ (x : Accepted). x.dropped) (map (λ e. accepted_of (recording_of s k p f e)) (range_with_len a m)) ≡ sum_to (block_drops s k p) m a f.blocks
encoders-counted s k p f zero a = refl
encoders-counted s k p f (suc m) a =
    let next : a + 1 ≡ suc a = omega arith in
    sum_by-cons (λ (x : Accepted). x.dropped) (accepted_of (recording_of s k p f a)) (map (λ e. accepted_of (recording_of s k p f e)) (range_with_len (a + 1) m))
    ∙ ap (λ t. block_drops s k p (lines_of a f.blocks) + t) (encoders-counted s k p f m (a + 1) ∙ ap (λ x. sum_to (block_drops s k p) m x f.blocks) next)

frame-counted : (s : Scene) (k : ℕ) (gone : List ℕ) (p : Progress) (views : ℕ) (bound : List Bool) (f : SceneFrame) → IsFrame views s.encoders bound f → p.dropped ≡ 0
    → drops (frame_verdicts s k p (after_lines s.names p f.before) f) ≡ frame_dropped (plan_of s k f gone (after_lines s.names p f.before) (after_lines s.names (after_lines s.names p f.before) f.beside))
frame-counted s k gone p views bound f fits zero_first =
    let q : Progress = after_lines s.names p f.before in
    let before = resource-counted s.names k p f.before in
    let beside = resource-counted s.names k q f.beside in
    let drawn = blocks-counted s k q f.blocks in
    let none_first : s.encoders ≡ 0 + s.encoders = omega arith in
    let summed = blocks-summed (block_drops s k q) refl s.encoders 0 f.blocks (subst (λ n. FromTo 0 n f.blocks) none_first (blocks-from s.encoders _ f.blocks fits.ascending fits.blocks)) in
    let encoders = encoders-counted s k q f s.encoders 0 in
    let outer = drops-append (resource_verdicts s.names k p f.before) (flat_map (block_verdicts s k q) f.blocks ++ resource_verdicts s.names k q f.beside) in
    let inner = drops-append (flat_map (block_verdicts s k q) f.blocks) (resource_verdicts s.names k q f.beside) in
    omega (arith, zero_first, before, beside, drawn, summed, encoders, outer, inner)

-- ---- the law

later_frames : (s : Scene) (j k : ℕ) (p : Progress) (fs : List SceneFrame) → j < k → drops_in j (verdicts_from s k p fs) ≡ 0
later_frames s j k p [] lt = refl
later_frames s j k p (f ∷ fs) lt =
    let before : Progress = after_lines s.names (at_start k p) f.before in
    let all : Progress = after_lines s.names before f.beside in
    let here = own j k (frame_verdicts s k (at_start k p) before f) (frame-own s k (at_start k p) before f) ∙ ap (λ t. when t (drops (frame_verdicts s k (at_start k p) before f))) (not_same j k lt) in
    let rest = later_frames s j (k + 1) all fs (omega (arith, lt)) in
    let split = in-append j (frame_verdicts s k (at_start k p) before f) (verdicts_from s (k + 1) all fs) in
    omega (arith, here, rest, split)

next_place : (k i : ℕ) → k + suc i ≡ k + 1 + i
next_place k i = omega arith

self_same : (n : ℕ) → (n == n) ≡ true
self_same n = grind arith

frames-counted : (s : Scene) (k : ℕ) (gone : List ℕ) (p : Progress) (views : ℕ) (bound : List Bool) (fs : List SceneFrame) → AreFrames views s.encoders bound fs
    → (i : ℕ) (x : FramePlan) → slice_get (plans_from s k gone p fs) i ≡ Some x → drops_in (k + i) (verdicts_from s k p fs) ≡ frame_dropped x
frames-counted s k gone p views bound [] fits i x e = absurd (cc e)
frames-counted s k gone p views bound (f ∷ fs) fits zero x e =
    let start : Progress = at_start k p in
    let before : Progress = after_lines s.names start f.before in
    let all : Progress = after_lines s.names before f.beside in
    let here = own k k (frame_verdicts s k start before f) (frame-own s k start before f) ∙ ap (λ t. when t (drops (frame_verdicts s k start before f))) (self_same k) in
    let rest = later_frames s k (k + 1) all fs (omega arith) in
    let split = in-append k (frame_verdicts s k start before f) (verdicts_from s (k + 1) all fs) in
    let counted = frame-counted s k gone start views bound f fits.0 refl in
    let plan : plan_of s k f gone before all ≡ x = cc e in
    let sum : drops_in k (verdicts_from s k p (f ∷ fs)) ≡ frame_dropped (plan_of s k f gone before all) = omega (arith, here, rest, split, counted) in
    ap (λ j. drops_in j (verdicts_from s k p (f ∷ fs))) (omega arith) ∙ sum ∙ ap frame_dropped plan
frames-counted s k gone p views bound (f ∷ fs) fits (suc i) x e =
    let start : Progress = at_start k p in
    let before : Progress = after_lines s.names start f.before in
    let all : Progress = after_lines s.names before f.beside in
    let here = own (k + suc i) k (frame_verdicts s k start before f) (frame-own s k start before f) ∙ ap (λ t. when t (drops (frame_verdicts s k start before f))) (less_same k (k + suc i) (omega arith)) in
    let rest = frames-counted s (k + 1) (calls.deaths_in k all.resources) all views (bound_by_frame bound f) fs fits.1 i x e in
    let at = ap (λ j. drops_in j (verdicts_from s (k + 1) all fs)) (next_place k i) in
    let split = in-append (k + suc i) (frame_verdicts s k start before f) (verdicts_from s (k + 1) all fs) in
    omega (arith, here, rest, at, split)

pub count-law : CountLaw
count-law bytes s e k x at =
    let readable = ((reading-law s bytes).0 e).0 in
    let numbered = number-law bytes s e in
    let shift : k ≡ 0 + k = omega arith in
    listed k (line_numbers bytes) (verdicts s) numbered.judged ∙ ap (λ j. drops_in j (verdicts s)) shift
    ∙ frames-counted s 0 [] (first_progress s) (views_of s) [] s.frames readable.frames k x at

-- ---- none in all

all-listed : (ns : List ℕ) (vs : List Verdict) → length vs ≡ length ns → length (dropped_with ns vs) ≡ drops vs
all-listed [] [] e = refl
all-listed [] (v ∷ vs) e = absurd (cc e)
all-listed (n ∷ ns) [] e = absurd (cc e)
all-listed (n ∷ ns) (v ∷ vs) e = step v.reason (all-listed ns vs (cc e))
  where
    step : (o : Option Reason) → length (dropped_with ns vs) ≡ drops vs → length (with_line n v o (dropped_with ns vs)) ≡ one o + drops vs
    step None rest = omega (arith, rest)
    step (Some r) rest = omega (arith, rest)

abbrev total : List FramePlan → ℕ
total [] = 0
total (x ∷ xs) = frame_dropped x + total xs

frames-total : (s : Scene) (k : ℕ) (gone : List ℕ) (p : Progress) (views : ℕ) (bound : List Bool) (fs : List SceneFrame) → AreFrames views s.encoders bound fs
    → drops (verdicts_from s k p fs) ≡ total (plans_from s k gone p fs)
frames-total s k gone p views bound [] fits = refl
frames-total s k gone p views bound (f ∷ fs) fits =
    let start : Progress = at_start k p in
    let before : Progress = after_lines s.names start f.before in
    let all : Progress = after_lines s.names before f.beside in
    let split = drops-append (frame_verdicts s k start before f) (verdicts_from s (k + 1) all fs) in
    let here = frame-counted s k gone start views bound f fits.0 refl in
    let rest = frames-total s (k + 1) (calls.deaths_in k all.resources) all views (bound_by_frame bound f) fs fits.1 in
    omega (arith, split, here, rest)

none-from : (xs : List FramePlan) → total xs ≡ 0 → AllByRecursion (λ p. frame_dropped p ≡ 0) xs
none-from [] e = tt
none-from (x ∷ xs) e = (omega (arith, e), none-from xs (omega (arith, e)))

none-to : (xs : List FramePlan) → AllByRecursion (λ p. frame_dropped p ≡ 0) xs → total xs ≡ 0
none-to [] h = refl
none-to (x ∷ xs) h = let rest = none-to xs h.1 in omega (arith, h.0, rest)

no_element : {A : Type 0} (xs : List A) → length xs ≡ 0 → xs ≡ []
no_element [] e = refl
no_element (x ∷ xs) e = absurd (cc e)

pub silent-law : SilentLaw
silent-law bytes s e =
    let readable = ((reading-law s bytes).0 e).0 in
    let numbered = number-law bytes s e in
    let many : length (dropped_lines bytes s) ≡ total (plans s) =
    all-listed (line_numbers bytes) (verdicts s) numbered.judged ∙ frames-total s 0 [] (first_progress s) (views_of s) [] s.frames readable.frames in
    (λ h. none-from (plans s) (sym many ∙ ap length h), λ h. no_element (dropped_lines bytes s) (many ∙ none-to (plans s) h))

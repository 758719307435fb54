-- As many lines record an encoder's items in a frame as its plan has items.
use Rattle.std.proofs.Common.{◌≡◌, ◌≢◌, ◌∙◌, ℕ, zero, suc, ◌+◌, ◌<◌, ◌≤◌, ◌==◌, Bool, true, false, ◌&&◌, cond, if◌then◌else◌, List, [], ◌∷◌, ◌++◌, map, filter, fold, length, slice_get, get_or, Option, Some, None, Result, ◌⊎◌, inl, inr, refl, sym, ap, subst, arith, eq-eqb, ne_eqb}
use Rattle.std.specs.Prelude.{option_map, option_and_then, ⊤}
use Rattle.std.specs.List.{AllByRecursion, flat_map, range_with_len}
use Rattle.std.proofs.lemmas.List.{length-append, length-map}
use Rattle.std.proofs.lemmas.List.Concat.{flat_map-cons}
use Rattle.std.proofs.lemmas.List.FromFn.{get_or-map-range_with_len, length-map-range_with_len}
use Rattle.std.proofs.lemmas.Option.{slice_get_within, get_or_from_slice_get}
use Rattle.std.proofs.lemmas.Bool.{eqb-false}
use Rattle.std.proofs.lemmas.Bool.Decides.{eqb_tells}
use Rattle.gfx_model.specs.Words.{Handle}
use Rattle.gfx_model.specs.Resources as calls
use Rattle.gfx_model.specs.Resources.{Refusal, first_refusal, or_refusal}
use Rattle.gfx_model.specs.Recorder.{Recorder, EncoderCall, asked, refusals, after, draw_of, set_state, set_stencil, set_scissor, set_transform, set_vertices, set_indices, set_transient_vertices, set_transient_indices, set_texture, set_uniform, submit, touch, blit}
use Rattle.gfx_model.specs.World.{draw_item, touch_item, blit_item}
use Rattle.scene_model.specs.Scene.{EncoderLine, state_line, stencil_line, scissor_line, transform_line, vertices_line, indices_line, transient_vertices_line, transient_indices_line, bind_line, set_line, submit_line, touch_line, blit_line, Block, SceneFrame, Scene, views_of}
use Rattle.scene_model.specs.Fold.{Bindings, Progress, Recording, Accepted, FramePlan, accepted_of, recording_of, recording_after, after_encoder_call, after_encoder_line, after_lines, encoder_call, blit_call, thing_named, lines_of, at_start, first_progress, plan_of, plans_from, plans}
use Rattle.scene_model.specs.Grammar.{scene_of, whole_language}
use Rattle.spelling_model.specs.Readable.{IsReadable, IsFrame, AreFrames, AreAscending}
use Rattle.dropped_lines.specs.Reasons.{Reason, refused, reason_of_encoder_call, encoder_reason}
use Rattle.dropped_lines.specs.Verdicts.{Verdict, resource_verdicts, encoder_verdicts, block_verdicts, recording_begun, frame_verdicts, verdicts_from, verdicts}
use Rattle.dropped_lines.specs.Numbers.{line_numbers}
use Rattle.dropped_lines.specs.Laws.{NumberLaw}
use Rattle.item_lines.specs.declared.places.Place.{Place}
use Rattle.item_lines.specs.declared.accepted.ItemLine.{ItemLine}
use Rattle.item_lines.specs.Items.{is_item_line, line_place, block_places, no_place, frame_places, places_from, item_places, with_item, items_with, is_of, numbers_of}
use Rattle.item_lines.specs.Laws.{ItemsLaw}
use Rattle.item_lines.proofs.PlaceLaws.{resource-many, encoder-many, blocks-many, frame-many}

-- ---- a count

abbrev here : (k e : ℕ) → Place → Bool
here k e p = (p.frame == k) && (p.encoder == e)

-- a line that is accepted and records an item of the encoder in the frame
abbrev one : (k e : ℕ) → Option Reason → Option Place → ℕ
one k e None None = 0
one k e None (Some p) = if here k e p then 1 else 0
one k e (Some r) q = 0

abbrev counted : (k e : ℕ) → List Verdict → List (Option Place) → ℕ
counted k e [] qs = 0
counted k e (v ∷ vs) [] = 0
counted k e (v ∷ vs) (q ∷ qs) = one k e v.reason q + counted k e vs qs

abbrev one_if : Bool → ℕ
one_if b = if b then 1 else 0

one-more : (c : ℕ) → suc c ≡ 1 + c
one-more c = omega arith

none-more : (c : ℕ) → c ≡ 0 + c
none-more c = omega arith

listed : (k e : ℕ) (ns : List ℕ) (vs : List Verdict) (qs : List (Option Place)) → length vs ≡ length ns → length (numbers_of k e (items_with ns vs qs)) ≡ counted k e vs qs
listed k e [] [] qs h = refl
listed k e [] (v ∷ vs) qs h = absurd (cc h)
listed k e (n ∷ ns) [] qs h = refl
listed k e (n ∷ ns) (v ∷ vs) [] h = refl
listed k e (n ∷ ns) (v ∷ vs) (q ∷ qs) h = step v.reason q (listed k e ns vs qs (omega (arith, h)))
  where
    by : (p : Place) (b : Bool) → length (numbers_of k e (items_with ns vs qs)) ≡ counted k e vs qs
        → length (map (λ (i : ItemLine). i.line) (cond b (record { line = n; place = p } ∷ filter (is_of k e) (items_with ns vs qs)) (filter (is_of k e) (items_with ns vs qs)))) ≡ (if b then 1 else 0) + counted k e vs qs
    by p true rest = ap suc rest ∙ one-more (counted k e vs qs)
    by p false rest = rest ∙ none-more (counted k e vs qs)

    step : (o : Option Reason) (q : Option Place) → length (numbers_of k e (items_with ns vs qs)) ≡ counted k e vs qs → length (numbers_of k e (with_item n o q (items_with ns vs qs))) ≡ one k e o q + counted k e vs qs
    step None None rest = rest ∙ none-more (counted k e vs qs)
    step None (Some p) rest = by p (here k e p) rest
    step (Some r) q rest = rest ∙ none-more (counted k e vs qs)

parts : (k e : ℕ) (vs ws : List Verdict) (cs ds : List (Option Place)) → length vs ≡ length cs → counted k e (vs ++ ws) (cs ++ ds) ≡ counted k e vs cs + counted k e ws ds
parts k e [] ws [] ds h = omega arith
parts k e [] ws (c ∷ cs) ds h = absurd (cc h)
parts k e (v ∷ vs) ws [] ds h = absurd (cc h)
parts k e (v ∷ vs) ws (c ∷ cs) ds h = let rest = parts k e vs ws cs ds (omega (arith, h)) in omega (arith, rest)

-- ---- lines of others

abbrev Misses : (k e : ℕ) → Option Place → Type 0
Misses k e None = ⊤
Misses k e (Some p) = here k e p ≡ false

missed : (k e : ℕ) (vs : List Verdict) (qs : List (Option Place)) → AllByRecursion (Misses k e) qs → counted k e vs qs ≡ 0
missed k e [] qs a = refl
missed k e (v ∷ vs) [] a = refl
missed k e (v ∷ vs) (q ∷ qs) a = let first = step v.reason q a.0 in let rest = missed k e vs qs a.1 in omega (arith, first, rest)
  where
    step : (o : Option Reason) (q : Option Place) → Misses k e q → one k e o q ≡ 0
    step None None h = refl
    step None (Some p) h = ap (λ b. if b then 1 else 0) h
    step (Some r) q h = refl

all-append : {A : Type 0} (P : A → Type 0) (xs ys : List A) → AllByRecursion P xs → AllByRecursion P ys → AllByRecursion P (xs ++ ys)
all-append P [] ys a b = b
all-append P (x ∷ xs) ys a b = (a.0, all-append P xs ys a.1 b)

none-missed : {A : Type 0} (k e : ℕ) (xs : List A) → AllByRecursion (Misses k e) (map no_place xs)
none-missed k e [] = tt
none-missed k e (x ∷ xs) = (tt, none-missed k e xs)

and-false : (b c : Bool) → c ≡ false → (b && c) ≡ false
and-false true c h = h
and-false false c h = refl

false-and : (b c : Bool) → b ≡ false → (b && c) ≡ false
false-and b c h = ap (λ d. d && c) h

other : (k e j d : ℕ) → (j ≢ k) ⊎ (d ≢ e) → here k e (record { frame = j; encoder = d }) ≡ false
other k e j d (inl h) = false-and (j == k) (d == e) (ne_eqb j k h)
other k e j d (inr h) = and-false (j == k) (d == e) (ne_eqb d e h)

lines-missed : (k e j d : ℕ) → (j ≢ k) ⊎ (d ≢ e) → (ls : List EncoderLine) → AllByRecursion (Misses k e) (map (line_place j d) ls)
lines-missed k e j d h [] = tt
lines-missed k e j d h (l ∷ ls) = (step (is_item_line l), lines-missed k e j d h ls)
  where
    step : (b : Bool) → Misses k e (if b then Some (record { frame = j; encoder = d }) else None)
    step true = other k e j d h
    step false = tt

blocks-missed : (k e j : ℕ) (bs : List Block) → AllByRecursion (λ b. (j ≢ k) ⊎ (b.encoder ≢ e)) bs → AllByRecursion (Misses k e) (flat_map (block_places j) bs)
blocks-missed k e j [] a = tt
blocks-missed k e j (b ∷ bs) a =
    subst (AllByRecursion (Misses k e)) (sym (flat_map-cons (block_places j) b bs))
    (all-append (Misses k e) (block_places j b) (flat_map (block_places j) bs) (lines-missed k e j b.encoder a.0 b.lines) (blocks-missed k e j bs a.1))

each : (k e j : ℕ) → j ≢ k → (bs : List Block) → AllByRecursion (λ b. (j ≢ k) ⊎ (b.encoder ≢ e)) bs
each k e j h [] = tt
each k e j h (b ∷ bs) = (inl h, each k e j h bs)

frame-missed : (k e j : ℕ) → j ≢ k → (f : SceneFrame) → AllByRecursion (Misses k e) (frame_places j f)
frame-missed k e j h f =
    all-append (Misses k e) (map no_place f.before) (flat_map (block_places j) f.blocks ++ map no_place f.beside) (none-missed k e f.before)
    (all-append (Misses k e) (flat_map (block_places j) f.blocks) (map no_place f.beside) (blocks-missed k e j f.blocks (each k e j h f.blocks)) (none-missed k e f.beside))

frames-missed : (k e j : ℕ) → k < j → (fs : List SceneFrame) → AllByRecursion (Misses k e) (places_from j fs)
frames-missed k e j lt [] = tt
frames-missed k e j lt (f ∷ fs) =
    all-append (Misses k e) (frame_places j f) (places_from (j + 1) fs) (frame-missed k e j (λ same. omega (arith, lt, same)) f) (frames-missed k e (j + 1) (omega (arith, lt)) fs)

-- ---- a line of the encoder

abbrev takes : EncoderCall → Bool
takes (submit v h depth flags) = true
takes (touch v) = true
takes (blit b) = true
takes _ = false

abbrev Takes : Bool → Option EncoderCall → Type 0
Takes b None = ⊤
Takes b (Some c) = takes c ≡ b

taken-map : {A : Type 0} (b : Bool) (f : A → EncoderCall) (o : Option A) → ((x : A) → takes (f x) ≡ b) → Takes b (option_map f o)
taken-map b f None h = tt
taken-map b f (Some x) h = h x

taken-then : {A : Type 0} (b : Bool) (f : A → Option EncoderCall) (o : Option A) → ((x : A) → Takes b (f x)) → Takes b (option_and_then f o)
taken-then b f None h = tt
taken-then b f (Some x) h = h x

line-takes : (bs : Bindings) (l : EncoderLine) → Takes (is_item_line l) (encoder_call bs l)
line-takes bs (state_line word) = refl
line-takes bs (stencil_line front back) = refl
line-takes bs (scissor_line rect) = refl
line-takes bs (transform_line m) = refl
line-takes bs (vertices_line n first count) = taken-map false _ _ (λ h. refl)
line-takes bs (indices_line n first count) = taken-map false _ _ (λ h. refl)
line-takes bs (transient_vertices_line l bytes) = taken-map false _ _ (λ h. refl)
line-takes bs (transient_indices_line bytes) = refl
line-takes bs (bind_line stage n) = taken-map false _ _ (λ h. refl)
line-takes bs (set_line n v) = taken-map false _ _ (λ h. refl)
line-takes bs (submit_line v n depth flags) = taken-map true _ _ (λ h. refl)
line-takes bs (touch_line v) = refl
line-takes bs (blit_line v d dx dy s sx sy w h) =
    taken-then {A = Handle} true (λ dst. option_map (λ src. blit_call v dx dy sx sy w h dst src) (thing_named bs s)) (thing_named bs d)
    (λ dst. taken-map {A = Handle} true (λ src. blit_call v dx dy sx sy w h dst src) (thing_named bs s) (λ src. refl))

items-after : (e : Recorder) (c : EncoderCall) → length (after e c).items ≡ one_if (takes c) + length e.items
items-after e (set_state word) = omega arith
items-after e (set_stencil front back) = omega arith
items-after e (set_scissor rect) = omega arith
items-after e (set_transform model) = omega arith
items-after e (set_vertices h first count) = omega arith
items-after e (set_indices h first count) = omega arith
items-after e (set_transient_vertices h bytes) = omega arith
items-after e (set_transient_indices bytes) = omega arith
items-after e (set_texture stage h) = omega arith
items-after e (set_uniform h v) = omega arith
items-after e (submit v h depth flags) = let more = length-append e.items (draw_item (draw_of e v h depth) ∷ []) in omega (arith, more)
items-after e (touch v) = let more = length-append e.items (touch_item (record { view = v; values = e.pending }) ∷ []) in omega (arith, more)
items-after e (blit b) = let more = length-append e.items (blit_item b ∷ []) in omega (arith, more)

abbrev place_if : (k e : ℕ) → Bool → Option Place
place_if k e b = if b then Some (record { frame = k; encoder = e }) else None

own : (k e : ℕ) (b : Bool) → one k e None (place_if k e b) ≡ one_if b
own k e true = ap one_if ((λ i. eq-eqb k k refl i && eq-eqb e e refl i))
own k e false = refl

call-counted : (k e : ℕ) (p : Progress) (r : Recording) (b : Bool) (o : Option EncoderCall) → Takes b o
    → one k e (reason_of_encoder_call p.resources r.recorder o) (place_if k e b) + length r.recorder.items ≡ length (after_encoder_call p.resources r o).recorder.items
call-counted k e p r b None t = omega arith
call-counted k e p r b (Some c) t = step (first_refusal (refusals r.recorder (map (calls.word_of p.resources) (asked c)) c))
  where
    step : (fr : Option Refusal) → one k e (option_map refused fr) (place_if k e b) + length r.recorder.items ≡ length (recording_after r (or_refusal (after r.recorder c) fr)).recorder.items
    step None = let mine = own k e b in let all = items-after r.recorder c in let same = ap one_if t in omega (arith, mine, all, same)
    step (Some x) = omega arith

lines-counted : (k e : ℕ) (p : Progress) (r : Recording) (ls : List EncoderLine)
    → counted k e (encoder_verdicts k e p r ls) (map (line_place k e) ls) + length r.recorder.items ≡ length (fold (after_encoder_line p) r ls).recorder.items
lines-counted k e p r [] = omega arith
lines-counted k e p r (l ∷ ls) =
    let first = call-counted k e p r (is_item_line l) (encoder_call p.bindings l) (line-takes p.bindings l) in
    let rest = lines-counted k e p (after_encoder_line p r l) ls in
    omega (arith, first, rest)

-- ---- the blocks of a frame

above : (m : ℕ) (b : Block) (bs : List Block) → m ≤ b.encoder → AreAscending (b ∷ bs) → AllByRecursion (λ c. m < c.encoder) bs
above m b [] le h = tt
above m b (c ∷ cs) le h = let lt = h.0 in (omega (arith, le, lt), above m c cs (omega (arith, le, lt)) h.1)

not-below : (k e : ℕ) (bs : List Block) → AllByRecursion (λ c. e < c.encoder) bs → AllByRecursion (λ b. (k ≢ k) ⊎ (b.encoder ≢ e)) bs
not-below k e [] a = tt
not-below k e (b ∷ bs) a = let lt = a.0 in (inr (λ same. omega (arith, lt, same)), not-below k e bs a.1)

later-ascend : (b : Block) (bs : List Block) → AreAscending (b ∷ bs) → AreAscending bs
later-ascend b [] h = tt
later-ascend b (c ∷ cs) h = h.1

blocks-counted : (s : Scene) (k e : ℕ) (p : Progress) (bs : List Block) → AreAscending bs
    → counted k e (flat_map (block_verdicts s k p) bs) (flat_map (block_places k) bs) ≡ length (fold (after_encoder_line p) (recording_begun s k) (lines_of e bs)).recorder.items
blocks-counted s k e p [] h = refl
blocks-counted s k e p (b ∷ bs) h = split ∙ step (b.encoder == e) (eqb_tells b.encoder e) (blocks-counted s k e p bs (later-ascend b bs h))
  where
    split : counted k e (flat_map (block_verdicts s k p) (b ∷ bs)) (flat_map (block_places k) (b ∷ bs))
        ≡ counted k e (block_verdicts s k p b) (block_places k b) + counted k e (flat_map (block_verdicts s k p) bs) (flat_map (block_places k) bs)
    split =
        (λ i. counted k e (flat_map-cons (block_verdicts s k p) b bs i) (flat_map-cons (block_places k) b bs i))
        ∙ parts k e (block_verdicts s k p b) (flat_map (block_verdicts s k p) bs) (block_places k b) (flat_map (block_places k) bs)
        (encoder-many k b.encoder p (recording_begun s k) b.lines ∙ sym (length-map b.lines (line_place k b.encoder)))

    first-own : b.encoder ≡ e → counted k e (block_verdicts s k p b) (block_places k b) ≡ length (fold (after_encoder_line p) (recording_begun s k) b.lines).recorder.items
    first-own same =
        let mine : counted k e (encoder_verdicts k e p (recording_begun s k) b.lines) (map (line_place k e) b.lines) + 0 ≡ length (fold (after_encoder_line p) (recording_begun s k) b.lines).recorder.items = lines-counted k e p (recording_begun s k) b.lines in
        (λ i. counted k e (encoder_verdicts k (same i) p (recording_begun s k) b.lines) (map (line_place k (same i)) b.lines)) ∙ omega (arith, mine)

    step : (t : Bool) → ((t ≡ true) × (b.encoder ≡ e)) ⊎ ((t ≡ false) × (b.encoder ≢ e))
        → counted k e (flat_map (block_verdicts s k p) bs) (flat_map (block_places k) bs) ≡ length (fold (after_encoder_line p) (recording_begun s k) (lines_of e bs)).recorder.items
        → counted k e (block_verdicts s k p b) (block_places k b) + counted k e (flat_map (block_verdicts s k p) bs) (flat_map (block_places k) bs)
        ≡ length (fold (after_encoder_line p) (recording_begun s k) (cond t b.lines (lines_of e bs))).recorder.items
    step true (inl (is, same)) later =
        let first = first-own same in
        let rest = missed k e (flat_map (block_verdicts s k p) bs) (flat_map (block_places k) bs) (blocks-missed k e k bs (not-below k e bs (above e b bs (omega (arith, same)) h))) in
        omega (arith, first, rest)
    step true (inr (is, differ)) later = absurd (cc is)
    step false (inl (is, same)) later = absurd (cc is)
    step false (inr (is, differ)) later =
        let first = missed k e (block_verdicts s k p b) (block_places k b) (lines-missed k e k b.encoder (inr differ) b.lines) in
        omega (arith, first, later)

frame-counted : (s : Scene) (k e : ℕ) (q p : Progress) (f : SceneFrame) → AreAscending f.blocks
    → counted k e (frame_verdicts s k q p f) (frame_places k f) ≡ length (accepted_of (recording_of s k p f e)).items
frame-counted s k e q p f h =
    let all = parts k e (resource_verdicts s.names k q f.before) (flat_map (block_verdicts s k p) f.blocks ++ resource_verdicts s.names k p f.beside) (map no_place f.before) (flat_map (block_places k) f.blocks ++ map no_place f.beside)
    (resource-many s.names k q f.before ∙ sym (length-map f.before no_place)) in
    let behind = parts k e (flat_map (block_verdicts s k p) f.blocks) (resource_verdicts s.names k p f.beside) (flat_map (block_places k) f.blocks) (map no_place f.beside) (blocks-many s k p f.blocks) in
    let before = missed k e (resource_verdicts s.names k q f.before) (map no_place f.before) (none-missed k e f.before) in
    let beside = missed k e (resource_verdicts s.names k p f.beside) (map no_place f.beside) (none-missed k e f.beside) in
    let blocks = blocks-counted s k e p f.blocks h in
    all ∙ omega (arith, behind, before, beside, blocks)

-- ---- frames

some-same : {A : Type 0} (a b : A) → Some a ≡ Some b → a ≡ b
some-same a b is = cc is

planned-one : (f : ℕ → Accepted) (n e : ℕ) (a : Accepted) → slice_get (map f (range_with_len 0 n)) e ≡ Some a → f e ≡ a
planned-one f n e a is =
    let within = slice_get_within (map f (range_with_len 0 n)) e a is in
    let many = length-map-range_with_len f 0 n in
    sym (get_or-map-range_with_len f 0 n e e a (omega (arith, within, many)) (omega arith)) ∙ get_or_from_slice_get (map f (range_with_len 0 n)) e a a is

frames-counted : (s : Scene) (k e i j : ℕ) (gone : List ℕ) (q : Progress) (fs : List SceneFrame) (views encoders : ℕ) (bound : List Bool) (p : FramePlan) (a : Accepted)
    → j + i ≡ k → AreFrames views encoders bound fs → slice_get (plans_from s j gone q fs) i ≡ Some p → slice_get p.encoders e ≡ Some a
    → counted k e (verdicts_from s j q fs) (places_from j fs) ≡ length a.items
frames-counted s k e i j gone q [] views encoders bound p a at all is own = absurd (cc is)
frames-counted s k e zero j gone q (f ∷ fs) views encoders bound p a at all is own =
    let before = after_lines s.names (at_start j q) f.before in
    let next = after_lines s.names before f.beside in
    let plan : plan_of s j f gone before next ≡ p = some-same _ p is in
    let mine : accepted_of (recording_of s j before f e) ≡ a =
    planned-one (λ d. accepted_of (recording_of s j before f d)) s.encoders e a (ap (λ (x : FramePlan). slice_get x.encoders e) plan ∙ own) in
    let number : j ≡ k = omega (arith, at) in
    let split = parts k e (frame_verdicts s j (at_start j q) before f) (verdicts_from s (j + 1) next fs) (frame_places j f) (places_from (j + 1) fs) (frame-many s j (at_start j q) before f) in
    let first : counted k e (frame_verdicts s j (at_start j q) before f) (frame_places j f) ≡ length a.items =
    (λ i. counted (sym number i) e (frame_verdicts s j (at_start j q) before f) (frame_places j f)) ∙ frame-counted s j e (at_start j q) before f all.0.ascending ∙ ap (λ (x : Accepted). length x.items) mine in
    let rest = missed k e (verdicts_from s (j + 1) next fs) (places_from (j + 1) fs) (frames-missed k e (j + 1) (omega (arith, number)) fs) in
    split ∙ omega (arith, first, rest)
frames-counted s k e (suc i) j gone q (f ∷ fs) views encoders bound p a at all is own =
    let before = after_lines s.names (at_start j q) f.before in
    let next = after_lines s.names before f.beside in
    let split = parts k e (frame_verdicts s j (at_start j q) before f) (verdicts_from s (j + 1) next fs) (frame_places j f) (places_from (j + 1) fs) (frame-many s j (at_start j q) before f) in
    let first = missed k e (frame_verdicts s j (at_start j q) before f) (frame_places j f) (frame-missed k e j (λ same. omega (arith, same, at)) f) in
    let rest = frames-counted s k e i (j + 1) _ next fs views encoders _ p a (omega (arith, at)) all.1 is own in
    split ∙ omega (arith, first, rest)

pub items-law : NumberLaw → ItemsLaw
items-law numbers bytes s is readable k e p a planned own =
    listed k e (line_numbers bytes) (verdicts s) (item_places s) (numbers bytes s is).judged
    ∙ frames-counted s k e k 0 [] (first_progress s) s.frames (views_of s) s.encoders [] p a (omega arith) readable.frames planned own

-- Each line of a scene has a verdict and a place; line numbers ascend.
use Rattle.std.proofs.Common.{◌≡◌, ◌∙◌, ℕ, zero, suc, ◌+◌, ◌<◌, ◌≤◌, Bool, true, false, cond, List, [], ◌∷◌, ◌++◌, map, length, drop, Option, Some, get_or, refl, sym, ap, subst, arith}
use Rattle.std.specs.List.{AllByRecursion, flat_map}
use Rattle.std.specs.List.{range_with_len}
use Rattle.std.specs.declared.vec.Vec.{Vec}
use Rattle.std.proofs.lemmas.List.FromFn.{map-range_with_len_more}
use Rattle.std.proofs.lemmas.List.{length-append, length-map, drop_more, append_assoc, append-nil, drop_all, get_or-map, map-append}
use Rattle.std.proofs.lemmas.List.Concat.{flat_map-cons}
use Rattle.scene_model.specs.Scene.{ResourceLine, EncoderLine, Block, SceneFrame, Scene}
use Rattle.scene_model.specs.Fold.{Progress, Recording, after_line, after_lines, after_encoder_line, at_start, first_progress}
use Rattle.dropped_lines.specs.Verdicts.{resource_verdicts, encoder_verdicts, block_verdicts, frame_verdicts, verdicts_from, verdicts, recording_begun}
use Rattle.dropped_lines.specs.Numbers.{is_numbered, numbers_from, line_numbers}
use Rattle.item_lines.specs.declared.places.Place.{Place}
use Rattle.scene_text.specs.declared.scene.SceneFrame as code
use Rattle.scene_text.specs.Seen.{frame_seen}
use Rattle.item_lines.specs.Items.{no_place, line_place, block_places, frame_places, places_from, item_places, numbers_seen}
use Rattle.item_lines.specs.Merging.{Ascend}

pub resource-many : (names : List (List ℕ)) (k : ℕ) (p : Progress) (ls : List ResourceLine) → length (resource_verdicts names k p ls) ≡ length ls
resource-many names k p [] = refl
resource-many names k p (l ∷ ls) = ap suc (resource-many names k (after_line names p l) ls)

pub encoder-many : (k e : ℕ) (p : Progress) (r : Recording) (ls : List EncoderLine) → length (encoder_verdicts k e p r ls) ≡ length ls
encoder-many k e p r [] = refl
encoder-many k e p r (l ∷ ls) = ap suc (encoder-many k e p (after_encoder_line p r l) ls)

both-many : {A B : Type 0} (a b : List A) (c d : List B) → length a ≡ length c → length b ≡ length d → length (a ++ b) ≡ length (c ++ d)
both-many a b c d e f = length-append a b ∙ ap (λ t. t + length b) e ∙ ap (λ t. length c + t) f ∙ sym (length-append c d)

pub blocks-many : (s : Scene) (k : ℕ) (p : Progress) (bs : List Block) → length (flat_map (block_verdicts s k p) bs) ≡ length (flat_map (block_places k) bs)
blocks-many s k p [] = refl
blocks-many s k p (b ∷ bs) =
    ap length (flat_map-cons (block_verdicts s k p) b bs)
    ∙ both-many (block_verdicts s k p b) (flat_map (block_verdicts s k p) bs) (block_places k b) (flat_map (block_places k) bs)
    (encoder-many k b.encoder p (recording_begun s k) b.lines ∙ sym (length-map b.lines (line_place k b.encoder))) (blocks-many s k p bs)
    ∙ sym (ap length (flat_map-cons (block_places k) b bs))

pub frame-many : (s : Scene) (k : ℕ) (p q : Progress) (f : SceneFrame) → length (frame_verdicts s k p q f) ≡ length (frame_places k f)
frame-many s k p q f =
    both-many (resource_verdicts s.names k p f.before) (flat_map (block_verdicts s k q) f.blocks ++ resource_verdicts s.names k q f.beside) (map no_place f.before) (flat_map (block_places k) f.blocks ++ map no_place f.beside)
    (resource-many s.names k p f.before ∙ sym (length-map f.before no_place))
    (both-many (flat_map (block_verdicts s k q) f.blocks) (resource_verdicts s.names k q f.beside) (flat_map (block_places k) f.blocks) (map no_place f.beside) (blocks-many s k q f.blocks)
    (resource-many s.names k q f.beside ∙ sym (length-map f.beside no_place)))

frames-many : (s : Scene) (k : ℕ) (p : Progress) (fs : List SceneFrame) → length (verdicts_from s k p fs) ≡ length (places_from k fs)
frames-many s k p [] = refl
frames-many s k p (f ∷ fs) =
    let before = after_lines s.names (at_start k p) f.before in
    both-many (frame_verdicts s k (at_start k p) before f) (verdicts_from s (k + 1) (after_lines s.names before f.beside) fs) (frame_places k f) (places_from (k + 1) fs)
    (frame-many s k (at_start k p) before f) (frames-many s (k + 1) (after_lines s.names before f.beside) fs)

-- as many verdicts as places
pub verdicts-many : (s : Scene) → length (verdicts s) ≡ length (item_places s)
verdicts-many s = frames-many s 0 (first_progress s) s.frames

-- ---- line numbers

higher : (m n : ℕ) (ls : List (List ℕ)) → m < n → AllByRecursion (λ k. m < k) (numbers_from n ls)
higher m n [] lt = tt
higher m n (l ∷ ls) lt = step (is_numbered l) (higher m (n + 1) ls (omega (arith, lt)))
  where
    step : (b : Bool) → AllByRecursion (λ k. m < k) (numbers_from (n + 1) ls) → AllByRecursion (λ k. m < k) (cond b (n ∷ numbers_from (n + 1) ls) (numbers_from (n + 1) ls))
    step true rest = (lt, rest)
    step false rest = rest

pub ascend-from : (n : ℕ) (ls : List (List ℕ)) → Ascend (numbers_from n ls)
ascend-from n [] = tt
ascend-from n (l ∷ ls) = step (is_numbered l) (ascend-from (n + 1) ls)
  where
    step : (b : Bool) → Ascend (numbers_from (n + 1) ls) → Ascend (cond b (n ∷ numbers_from (n + 1) ls) (numbers_from (n + 1) ls))
    step true rest = (higher n (n + 1) ls (omega arith), rest)
    step false rest = rest

-- ---- the places of frames

-- one frame more
pub frame-more : (so_far whole new : List (Option Place)) (i : ℕ) (f : SceneFrame) (fs : List SceneFrame) → so_far ++ places_from i (drop i fs) ≡ whole → drop i fs ≡ f ∷ drop (i + 1) fs → new ≡ so_far ++ frame_places i f
    → new ++ places_from (i + 1) (drop (i + 1) fs) ≡ whole
frame-more so_far whole new i f fs left cut put =
    ap (λ t. t ++ places_from (i + 1) (drop (i + 1) fs)) put ∙ append_assoc so_far (frame_places i f) (places_from (i + 1) (drop (i + 1) fs))
    ∙ ap (λ (gs : List SceneFrame). so_far ++ places_from i gs) (sym cut) ∙ left

pub frames-none : (so_far whole : List (Option Place)) (i : ℕ) (fs : List SceneFrame) → length fs ≤ i → so_far ++ places_from i (drop i fs) ≡ whole → so_far ≡ whole
frames-none so_far whole i fs few left = sym (append-nil so_far) ∙ ap (λ (gs : List SceneFrame). so_far ++ places_from i gs) (sym (drop_all i fs few)) ∙ left

pub frame-cut : (fs : List code.SceneFrame) (i : ℕ) (f : code.SceneFrame) → i < length fs → f ≡ get_or fs i f → drop i (map frame_seen fs) ≡ frame_seen f ∷ drop (i + 1) (map frame_seen fs)
frame-cut fs i f lt is =
    drop_more (map frame_seen fs) i (frame_seen f) (let many = length-map fs frame_seen in omega (arith, lt, many))
    ∙ ap (λ (g : SceneFrame). g ∷ drop (i + 1) (map frame_seen fs)) (get_or-map frame_seen fs i f (frame_seen f) lt ∙ ap frame_seen (sym is))

-- ---- the encoders of a frame

pub encoder-more : {A : Type 0} (f : ℕ → List ℕ) (e : ℕ) (before after : List (Vec ℕ A)) (one : Vec ℕ A) → numbers_seen before ≡ map f (range_with_len 0 e) → one.items ≡ f e → after ≡ before ++ one ∷ []
    → numbers_seen after ≡ map f (range_with_len 0 (e + 1))
encoder-more {A} f e before after one so_far is more =
    ap (λ (vs : List (Vec ℕ A)). numbers_seen vs) more
    ∙ map-append (λ (v : Vec ℕ A). v.items) before (one ∷ [])
    ∙ ap (λ (ns : List (List ℕ)). ns ++ one.items ∷ []) so_far
    ∙ ap (λ (n : List ℕ). map f (range_with_len 0 e) ++ n ∷ []) is
    ∙ sym (map-range_with_len_more f 0 e e (omega arith))

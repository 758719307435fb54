-- The frames of the generated scene are readable and bounded.
use Rattle.std.proofs.Common.{◌≡◌, ℕ, zero, suc, ◌+◌, ◌%◌, ◌^◌, ◌==◌, ◌≤◌, ◌<◌, List, [], length, map, refl, ap, arith}
use Rattle.std.specs.List.{All, AllByRecursion, IsDistinct, range_with_len}
use Rattle.std.proofs.lemmas.List.Elements.{All-nil, All-from_recursion}
use Rattle.std.proofs.lemmas.List.FromFn.{length-map-range_with_len}
use Rattle.scene_model.specs.Scene.{Block, SceneFrame, views_of}
use Rattle.scene_model.specs.Generated.{draw_lines, block_of, first_lines, lines_before, generated_frame, generated}
use Rattle.spelling_model.specs.Readable.{AreResourceLines, IsEncoderLine, AreAscending, IsBlock, IsFrame, bound_by_frames, AreFrames, IsReadable}
use Rattle.scene_text.specs.Bounds.{HasBlocks, resource_names, encoder_names, AreBelow, HasNames, HasFewLines, IsBounded}
use Rattle.generated_scene.proofs.Ranges.{all_mapped, all_picked, picked_length}
use Rattle.generated_scene.proofs.Lines.{both_bound, lines_in_range, names_below}
use Rattle.generated_scene.specs.Laws.{GeneratedLaw}

-- ---- blocks

block_readable : (f e : ℕ) → e < 4 → IsBlock 4 both_bound (block_of f e)
block_readable f e lt = (lt, all_picked (draw_lines f) (λ d. d % 4 == e) (IsEncoderLine both_bound) 0 1200 (lines_in_range f))

blocks_readable : (f : ℕ) → AllByRecursion (IsBlock 4 both_bound) (map (block_of f) (range_with_len 0 4))
blocks_readable f = all_mapped (IsBlock 4 both_bound) (block_of f) 0 4 (block_readable f)

blocks_ascend : (f a n : ℕ) → AreAscending (map (block_of f) (range_with_len a n))
blocks_ascend f a zero = tt
blocks_ascend f a (suc zero) = tt
blocks_ascend f a (suc (suc n)) = (omega arith, blocks_ascend f (a + 1) (suc n))

blocks_below : (f : ℕ) → AllByRecursion (λ b. b.encoder < 4) (map (block_of f) (range_with_len 0 4))
blocks_below f = all_mapped (λ b. b.encoder < 4) (block_of f) 0 4 (λ e lt. lt)

block_names : (f e : ℕ) → AllByRecursion (λ l. AreBelow 2 (encoder_names l)) (block_of f e).lines
block_names f e = all_picked (draw_lines f) (λ d. d % 4 == e) (λ l. AreBelow 2 (encoder_names l)) 0 1200 (λ d lt. names_below f d)

three_lines : (f d : ℕ) → length (draw_lines f d) ≤ 3
three_lines f d = omega arith

block_few : (f e : ℕ) → length (block_of f e).lines < 2 ^ 32
block_few f e = let few = picked_length (draw_lines f) (λ d. d % 4 == e) 0 1200 (three_lines f) in omega (arith, few)

-- ---- a frame

first_readable : (views : ℕ) → AreResourceLines views [] first_lines
first_readable views = (
  (refl, omega arith, omega arith, ((omega arith, omega arith), ((omega arith, omega arith), tt))),
  (refl, ((omega arith, (omega arith, (refl, (omega arith, (omega arith, (omega arith, (omega arith, tt))))), omega arith, omega arith)), tt)),
)

first_frame : (views : ℕ) → IsFrame views 4 [] (generated_frame 0)
first_frame views = record { before = first_readable views; ascending = blocks_ascend 0 0 4; blocks = blocks_readable 0; beside = tt }

later_frame : (views f : ℕ) → IsFrame views 4 both_bound (generated_frame (suc f))
later_frame views f = record { before = tt; ascending = blocks_ascend (suc f) 0 4; blocks = blocks_readable (suc f); beside = tt }

before_names : (f : ℕ) → AllByRecursion (λ l. AreBelow 2 (resource_names l)) (lines_before f)
before_names zero = ((omega arith, tt), ((omega arith, tt), (tt, tt)))
before_names (suc f) = tt

few_before : (f : ℕ) → length (lines_before f) < 2 ^ 32
few_before zero = omega arith
few_before (suc f) = omega arith

frame_blocks : (f : ℕ) → HasBlocks 4 (generated_frame f)
frame_blocks f = record { ascending = blocks_ascend f 0 4; below = All-from_recursion (λ b. b.encoder < 4) (generated_frame f).blocks (blocks_below f) }

frame_names : (f : ℕ) → HasNames 2 (generated_frame f)
frame_names f =
    let IsNamed : Block → Type 0 = λ b. All (λ l. AreBelow 2 (encoder_names l)) b.lines in
    record {
      before = All-from_recursion (λ l. AreBelow 2 (resource_names l)) (lines_before f) (before_names f);
      blocks = All-from_recursion IsNamed (generated_frame f).blocks (all_mapped IsNamed (block_of f) 0 4 (λ e lt. All-from_recursion (λ l. AreBelow 2 (encoder_names l)) (block_of f e).lines (block_names f e)));
      beside = All-nil (λ l. AreBelow 2 (resource_names l));
    }

frame_few : (f : ℕ) → HasFewLines (generated_frame f)
frame_few f = record {
  before = few_before f;
  blocks = All-from_recursion (λ b. length b.lines < 2 ^ 32) (generated_frame f).blocks (all_mapped (λ b. length b.lines < 2 ^ 32) (block_of f) 0 4 (λ e lt. block_few f e));
  beside = omega arith;
}

-- ---- frames

later_frames : (views a n : ℕ) → 1 ≤ a → AreFrames views 4 both_bound (map generated_frame (range_with_len a n))
later_frames views zero n lt = absurd (omega (arith, lt))
later_frames views (suc a) zero lt = tt
later_frames views (suc a) (suc n) lt = (later_frame views a, later_frames views (suc a + 1) n (omega arith))

none_bound_later : (a n : ℕ) → 1 ≤ a → bound_by_frames both_bound (map generated_frame (range_with_len a n)) ≡ both_bound
none_bound_later zero n lt = absurd (omega (arith, lt))
none_bound_later (suc a) zero lt = refl
none_bound_later (suc a) (suc n) lt = none_bound_later (suc a + 1) n (omega arith)

frames_readable : (views n : ℕ) → AreFrames views 4 [] (map generated_frame (range_with_len 0 n))
frames_readable views zero = tt
frames_readable views (suc n) = (first_frame views, later_frames views 1 n (omega arith))

two_bound : (n : ℕ) → 1 ≤ n → length (bound_by_frames [] (map generated_frame (range_with_len 0 n))) ≡ 2
two_bound zero lt = absurd (omega (arith, lt))
two_bound (suc n) lt = ap length (none_bound_later 1 n (omega arith))

-- ---- the scene

frame_count : (n : ℕ) → length (generated n).frames ≡ n
frame_count n = length-map-range_with_len generated_frame 0 n

readable : (n : ℕ) → 1 ≤ n → n ≤ 512 → IsReadable (generated n)
unfolding IsDistinct
readable n low high =
    let count = frame_count n in
    record {
      known_version = (omega arith, omega arith);
      sides = record { wide = omega arith; high = omega arith; narrow = omega arith; low = omega arith };
      encoders = (omega arith, omega arith);
      room = (omega arith, omega arith, omega arith, omega arith);
      latency = (omega arith, omega arith);
      one_out = λ e. refl;
      frame_count = (omega (arith, count, low), omega (arith, count, high));
      frames = frames_readable (views_of (generated n)) n;
      names = (refl, (refl, tt));
      distinct = ((refl, tt), (tt, tt));
      all_bound = two_bound n low;
    }

bounded : (n : ℕ) → 1 ≤ n → n ≤ 512 → IsBounded (generated n)
bounded n low high =
    let read = readable n low high in
    let frames : List SceneFrame = (generated n).frames in
    record {
      known_version = read.known_version;
      sides = read.sides;
      encoders = read.encoders;
      room = read.room;
      latency = read.latency;
      one_out = read.one_out;
      some_frame = read.frame_count.0;
      few_frames = read.frame_count.1;
      blocks = All-from_recursion (HasBlocks 4) frames (all_mapped (HasBlocks 4) generated_frame 0 n (λ f lt. frame_blocks f));
      names = All-from_recursion (HasNames 2) frames (all_mapped (HasNames 2) generated_frame 0 n (λ f lt. frame_names f));
      lines = All-from_recursion HasFewLines frames (all_mapped HasFewLines generated_frame 0 n (λ f lt. frame_few f));
    }

pub generated_keeps : GeneratedLaw
generated_keeps n low high = (readable n low high, bounded n low high)

-- Frames of draws with occlusion queries, and what is noted of them.
use Rattle.std.specs.Prelude.{ℕ, ◌+◌, ◌*◌, Bool, true, not, ◌==◌, if◌then◌else◌, List, [], ◌∷◌, ◌++◌, length, fold, replicate, Option, Some, None, slice_index_or, slice_set, unwrap_or, codes, decimal}
use Rattle.gfx_model.specs.Number.{map_from}
use Rattle.gfx_model.specs.World.{later_of}
use Rattle.gfx_query.specs.Counting.{Counted, counted_on, words_in, passed_in}
use Rattle.gfx_query.specs.Draws.{draw_facings}

-- when a draw is drawn: always, or by the last result of a query in an earlier frame
pub data Condition : Type 0 where
  always : Condition
  where_seen : (query : ℕ) → Condition
  where_unseen : (query : ℕ) → Condition

-- a draw: the query that counts it, if any, its condition, and its vertices and transforms as bytes
pub record Draw : Type 0 where
  pub query : Option ℕ
  pub condition : Condition
  pub vertices : List ℕ
  pub instances : List ℕ

-- what a line of a frame does: give each pixel a depth word, set the state word or the stencil words, or draw
pub data Step : Type 0 where
  clear_step : (word : ℕ) → Step
  state_step : (word : ℕ) → Step
  stencil_step : (front back : ℕ) → Step
  draw_step : Draw → Step

-- the target's sides, and the frames in order
pub record Script : Type 0 where
  pub width : ℕ
  pub height : ℕ
  pub frames : List (List Step)

-- what stays over frames: the depth word of each pixel, and the words of draws
pub record Target : Type 0 where
  pub words : List ℕ
  pub state : ℕ
  pub front : ℕ
  pub back : ℕ

-- depths and stencils of 0, all channels written, no tests
abbrev pub first_target : (width height : ℕ) → Target
first_target width height = record { words = replicate (width * height) 0; state = 15; front = 0; back = 0 }

-- a number for each of the 64 queries, where there is one
abbrev pub Results : Type 0
Results = List (Option ℕ)

-- no query has a result
abbrev pub no_results : Results
no_results = replicate 64 None

-- the result of a query, where there is one
abbrev pub result_of : Results → ℕ → Option ℕ
result_of results q = slice_index_or results q None

-- whether the last result is not 0; without one it counts as such
abbrev pub was_seen : Option ℕ → Bool
was_seen None = true
was_seen (Some n) = not (n == 0)

-- whether the last result is 0; without one it counts as such
abbrev pub was_unseen : Option ℕ → Bool
was_unseen None = true
was_unseen (Some n) = n == 0

-- whether a draw is drawn, by the results of the frames before
abbrev pub is_met : Results → Condition → Bool
is_met results always = true
is_met results (where_seen q) = was_seen (result_of results q)
is_met results (where_unseen q) = was_unseen (result_of results q)

-- a frame so far: the target, and the sum of the counts of each query's draws, where one was drawn
pub record Progress : Type 0 where
  pub target : Target
  pub sums : Results

-- a draw's count added to its query's sum
abbrev pub with_count : Option ℕ → ℕ → Results → Results
with_count None count sums = sums
with_count (Some q) count sums = slice_set sums q (Some (unwrap_or (result_of sums q) 0 + count))

-- the pixels of the target after a draw, with its count
abbrev pub draw_pixels : (width height : ℕ) → Target → Draw → List Counted
draw_pixels width height t d = counted_on width t.state (draw_facings width height t.state t.front t.back d.vertices d.instances) t.words

-- a frame after a draw that is drawn
abbrev pub after_draw : (width height : ℕ) → Progress → Draw → Progress
after_draw width height p d = record {
  target = record p.target { words = words_in (draw_pixels width height p.target d) };
  sums = with_count d.query (passed_in (draw_pixels width height p.target d)) p.sums;
}

-- a frame after a line, where these are the results of the frames before
abbrev pub after_step : (width height : ℕ) → Results → Progress → Step → Progress
after_step width height results p (clear_step word) = record p { target = record p.target { words = replicate (length p.target.words) word } }
after_step width height results p (state_step word) = record p { target = record p.target { state = word } }
after_step width height results p (stencil_step front back) = record p { target = record p.target { front = front; back = back } }
after_step width height results p (draw_step d) = if is_met results d.condition then after_draw width height p d else p

-- a whole frame
abbrev pub frame_after : (width height : ℕ) → Results → Target → List Step → Progress
frame_after width height results t steps = fold (after_step width height results) (record { target = t; sums = no_results }) steps

-- a query's result after a frame: its sum there, and its last result where none of its draws was drawn
abbrev pub newest_of : Results → ℕ → Option ℕ → Option ℕ
newest_of sums q last = later_of (result_of sums q) last

-- the results after a frame
abbrev pub results_after : Results → Results → Results
results_after sums results = map_from (newest_of sums) 0 results

-- the result of a query in a frame, as it is noted
abbrev pub query_note : ℕ → Option ℕ → List ℕ
query_note q None = []
query_note q (Some n) = codes " " ++ (decimal q ++ (codes ":" ++ decimal n))

-- those of the queries from one on
abbrev pub query_notes : ℕ → Results → List ℕ
query_notes q [] = []
query_notes q (r ∷ rest) = query_note q r ++ query_notes (q + 1) rest

-- the line of a frame
abbrev pub frame_note : ℕ → Results → List ℕ
frame_note k sums = codes "frame " ++ (decimal k ++ (query_notes 0 sums ++ codes "\n"))

-- the lines of the frames from one on, with the results and the target before it
abbrev pub notes_from : (width height : ℕ) → ℕ → Results → Target → List (List Step) → List ℕ
notes_from width height k results t [] = []
notes_from width height k results t (steps ∷ rest) =
    let p = frame_after width height results t steps in
    frame_note k p.sums ++ notes_from width height (k + 1) (results_after p.sums results) p.target rest

-- the notes of all frames
abbrev pub notes_of : Script → List ℕ
notes_of s = notes_from s.width s.height 0 no_results (first_target s.width s.height) s.frames

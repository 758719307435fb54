-- Worked examples, each by computation.
use Rattle.std.proofs.Common.{◌≡◌, ℕ, List, [], ◌∷◌, ◌++◌, length, Ok, Err, refl, arith}
use Rattle.std.specs.Prelude.{codes, replicate}
use Rattle.std.specs.Fmt.{digits}
use Rattle.frame_capture.specs.declared.run.Color.{Color}
use Rattle.frame_capture.specs.Film.{texts}
use Rattle.frame_capture.specs.Fault.{shown, after_mark, side_at, count_at, head_at, run_at, runs_at, frame_at, frames_at}
use Rattle.frame_capture.specs.Spelling.{AreTexts, film}

abbrev red : Color
red = record { red = 255; green = 0; blue = 0 }

-- a picture of two by two pixels of one colour
abbrev red_picture : List Color
red_picture = red ∷ red ∷ red ∷ red ∷ []

-- its text
abbrev pub red_text : List ℕ
red_text = codes "P6\n2 2\n255\n" ++ (255 ∷ 0 ∷ 0 ∷ 255 ∷ 0 ∷ 0 ∷ 255 ∷ 0 ∷ 0 ∷ 255 ∷ 0 ∷ 0 ∷ [])

-- the head of its capture
abbrev red_head : List ℕ
red_head = codes "GFX1" ++ (2 ∷ 0 ∷ 2 ∷ 0 ∷ 1 ∷ 0 ∷ 0 ∷ 0 ∷ [])

-- the capture with these runs, and these bytes behind them
abbrev red_capture : List ℕ → List ℕ
red_capture runs = red_head ++ (0 ∷ 0 ∷ 0 ∷ 0 ∷ runs)

text-is : red_text ≡ texts (film 2 2 (red_picture ∷ []))
unfolding digits
text-is = refl

text-long : length (texts (film 2 2 (red_picture ∷ []))) ≡ 23
unfolding digits
text-long = refl

pub are-texts : AreTexts 2 2 red_text
are-texts = (
  red_picture ∷ [],
  (
    record {
      sides = ((omega arith, omega arith), (omega arith, omega arith));
      count = (omega arith, omega arith);
      whole = (refl, tt);
      short = omega (arith, text-long);
    },
    text-is,
  ),
)

-- a picture of one colour is one run
whole-run : shown (red_capture (4 ∷ 255 ∷ 0 ∷ 0 ∷ [])) ≡ Ok red_text
unfolding digits shown after_mark side_at count_at head_at run_at runs_at frame_at frames_at
whole-run = refl

-- without its last byte
cut-short : shown (red_capture (4 ∷ 255 ∷ 0 ∷ [])) ≡ Err (record { frame = 0; cause = 3 })
unfolding digits shown after_mark side_at count_at head_at run_at runs_at frame_at frames_at
cut-short = refl

-- a run that is followed by its own colour
split-run : shown (red_capture (2 ∷ 255 ∷ 0 ∷ 0 ∷ 2 ∷ 255 ∷ 0 ∷ 0 ∷ [])) ≡ Err (record { frame = 0; cause = 5 })
unfolding digits shown after_mark side_at count_at head_at run_at runs_at frame_at frames_at
split-run = refl

-- a byte behind the last frame
one-more : shown (red_capture (4 ∷ 255 ∷ 0 ∷ 0 ∷ 0 ∷ [])) ≡ Err (record { frame = 1; cause = 6 })
unfolding digits shown after_mark side_at count_at head_at run_at runs_at frame_at frames_at
one-more = refl

-- a pixel of each colour in the second picture, of which the first goes on in the colour of the picture before
abbrev green : Color
green = record { red = 0; green = 255; blue = 0 }

abbrev blue : Color
blue = record { red = 0; green = 0; blue = 255 }

abbrev two_pictures : List (List Color)
two_pictures = red_picture ∷ (red ∷ green ∷ green ∷ blue ∷ []) ∷ []

-- their texts
abbrev pub two_texts : List ℕ
two_texts = red_text ++ (codes "P6\n2 2\n255\n" ++ (255 ∷ 0 ∷ 0 ∷ 0 ∷ 255 ∷ 0 ∷ 0 ∷ 255 ∷ 0 ∷ 0 ∷ 0 ∷ 255 ∷ []))

two-texts-are : two_texts ≡ texts (film 2 2 two_pictures)
unfolding digits
two-texts-are = refl

two-texts-long : length (texts (film 2 2 two_pictures)) ≡ 46
unfolding digits
two-texts-long = refl

pub are-two-texts : AreTexts 2 2 two_texts
are-two-texts = (
  two_pictures,
  (
    record {
      sides = ((omega arith, omega arith), (omega arith, omega arith));
      count = (omega arith, omega arith);
      whole = (refl, (refl, tt));
      short = omega (arith, two-texts-long);
    },
    two-texts-are,
  ),
)

-- the capture of both; the number of the second frame
abbrev two_capture : ℕ → List ℕ
two_capture number =
    codes "GFX1" ++ (2 ∷ 0 ∷ 2 ∷ 0 ∷ 2 ∷ 0 ∷ 0 ∷ 0 ∷ 0 ∷ 0 ∷ 0 ∷ 0 ∷ 4 ∷ 255 ∷ 0 ∷ 0
    ∷ number ∷ 0 ∷ 0 ∷ 0 ∷ 1 ∷ 255 ∷ 0 ∷ 0 ∷ 2 ∷ 0 ∷ 255 ∷ 0 ∷ 1 ∷ 0 ∷ 0 ∷ 255 ∷ [])

two-frames : shown (two_capture 1) ≡ Ok two_texts
unfolding digits shown after_mark side_at count_at head_at run_at runs_at frame_at frames_at
two-frames = refl

-- a frame's number that is not its place
out-of-place : shown (two_capture 0) ≡ Err (record { frame = 1; cause = 4 })
unfolding digits shown after_mark side_at count_at head_at run_at runs_at frame_at frames_at
out-of-place = refl

-- another mark
other-mark : shown (codes "GFX2") ≡ Err (record { frame = 0; cause = 1 })
unfolding shown after_mark head_at
other-mark = refl

-- a side of 0
no-side : shown (codes "GFX1" ++ (0 ∷ 0 ∷ [])) ≡ Err (record { frame = 0; cause = 2 })
unfolding shown after_mark side_at head_at
no-side = refl

-- a full run may be followed by its own colour
full-run : shown (codes "GFX1" ++ (0 ∷ 1 ∷ 1 ∷ 0 ∷ 1 ∷ 0 ∷ 0 ∷ 0 ∷ 0 ∷ 0 ∷ 0 ∷ 0 ∷ 255 ∷ 7 ∷ 7 ∷ 7 ∷ 1 ∷ 7 ∷ 7 ∷ 7 ∷ [])) ≡ Ok (codes "P6\n256 1\n255\n" ++ replicate 768 7)
unfolding digits shown after_mark side_at count_at head_at run_at runs_at frame_at frames_at
full-run = refl

-- no bytes
nothing : shown [] ≡ Err (record { frame = 0; cause = 3 })
unfolding shown after_mark head_at
nothing = refl

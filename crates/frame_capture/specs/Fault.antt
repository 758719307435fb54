-- Reading from left to right: the picture texts that bytes stand for, or the first field that can't stand.
use Rattle.std.specs.Prelude.{ℕ, zero, suc, ◌+◌, ◌-◌, ◌*◌, Bool, false, not, ◌&&◌, ◌==◌, nat_le, nat_lt, if◌then◌else◌, List, [], ◌∷◌, ◌++◌, length, take, drop, codes, bytes_eq, Option, Some, None, Result, Ok, Err}
use Rattle.std.specs.Int.{Width, w16, w32, byte_len, from_le_bytes}
use Rattle.frame_capture.specs.declared.run.Color.{Color}
use Rattle.frame_capture.specs.declared.run.Run.{Run}
use Rattle.frame_capture.specs.Film.{text_head, text_length}
use Rattle.frame_capture.specs.Capture.{run_text}

infixl 10 ◌>>=◌
-- what is read, handed on; a fault stays
abbrev pub ◌>>=◌ : {E A B : Type 0} → Result A E → (A → Result B E) → Result B E
(Ok x) >>= f = f x
(Err e) >>= f = Err e

-- ---- causes

-- another mark
abbrev pub other_mark : ℕ
other_mark = 1

-- a side or a number of frames out of range, or more frames than fit
abbrev pub out_of_range : ℕ
out_of_range = 2

-- a field that is cut off by the end, or is missing
abbrev pub cut_off : ℕ
cut_off = 3

-- a frame's number that is not its place
abbrev pub misplaced : ℕ
misplaced = 4

-- a run that can't stand
abbrev pub cannot_stand : ℕ
cannot_stand = 5

-- a byte behind the last frame
abbrev pub too_much : ℕ
too_much = 6

-- ---- the head

-- the number at the front, and the bytes after it
abbrev pub number_at : Width → List ℕ → Result (ℕ × List ℕ) ℕ
number_at w bytes = if nat_lt (length bytes) (byte_len w) then Err cut_off else Ok (from_le_bytes w (take (byte_len w) bytes), drop (byte_len w) bytes)

-- the bytes after the mark
unfoldable pub after_mark : List ℕ → Result (List ℕ) ℕ
after_mark bytes = if nat_lt (length bytes) 4 then Err cut_off else (if bytes_eq (take 4 bytes) (codes "GFX1") then Ok (drop 4 bytes) else Err other_mark)

-- a side of 1 to 2,048, and the bytes after it
unfoldable pub side_at : List ℕ → Result (ℕ × List ℕ) ℕ
side_at bytes = number_at w16 bytes >>= λ n. if nat_le 1 n.0 && nat_le n.0 2048 then Ok n else Err out_of_range

-- so many frames can be captured
abbrev pub can_be_captured : (width height frames : ℕ) → Bool
can_be_captured width height frames = nat_le 1 frames && (nat_le frames 1024 && nat_le (frames * text_length width height) 134217728)

-- the number of frames, and the bytes after it
unfoldable pub count_at : (width height : ℕ) → List ℕ → Result (ℕ × List ℕ) ℕ
count_at width height bytes = number_at w32 bytes >>= λ n. if can_be_captured width height n.0 then Ok n else Err out_of_range

-- the sides and the number of frames
pub record Head : Type 0 where
  pub width : ℕ
  pub height : ℕ
  pub frames : ℕ

-- the head, and the bytes after it
unfoldable pub head_at : List ℕ → Result (Head × List ℕ) ℕ
head_at bytes = do
  rest ← after_mark bytes
  width ← side_at rest
  height ← side_at width.1
  frames ← count_at width.0 height.0 height.1
  Ok (record { width = width.0; height = height.0; frames = frames.0 }, frames.1)

-- ---- runs

-- two colours are one
abbrev pub same_color : Color → Color → Bool
same_color a b = (a.red == b.red) && ((a.green == b.green) && (a.blue == b.blue))

-- the run is of the colour of the one before it, which is not full
abbrev pub repeats : Option Run → Run → Bool
repeats None r = false
repeats (Some before) r = nat_lt before.count 255 && same_color before.color r.color

-- the run has a pixel, passes none of those that are wanted, and does not repeat the one before it
abbrev pub can_stand : Option Run → (wanted : ℕ) → Run → Bool
can_stand before wanted r = nat_lt 0 r.count && (nat_le r.count wanted && not (repeats before r))

-- the run of these bytes
abbrev pub run_of : (count red green blue : ℕ) → Run
run_of count red green blue = record { count = count; color = record { red = red; green = green; blue = blue } }

-- the run at the front, and the bytes after it
unfoldable pub run_at : Option Run → (wanted : ℕ) → List ℕ → Result (Run × List ℕ) ℕ
run_at before wanted (count ∷ red ∷ green ∷ blue ∷ bytes) = if can_stand before wanted (run_of count red green blue) then Ok (run_of count red green blue, bytes) else Err cannot_stand
run_at before wanted bytes = Err cut_off

-- pixels that were read, before those that are read
abbrev pub behind : {E : Type 0} → List ℕ → Result (List ℕ × List ℕ) E → Result (List ℕ × List ℕ) E
behind front read = read >>= λ x. Ok (front ++ x.0, x.1)

-- the pixels that are wanted behind a run, as bytes of a picture text, and the bytes after them
unfoldable pub runs_at : Option Run → (wanted : ℕ) → List ℕ → Result (List ℕ × List ℕ) ℕ
runs_at before zero bytes = Ok ([], bytes)
runs_at before (suc n) (count ∷ red ∷ green ∷ blue ∷ bytes) =
    if can_stand before (suc n) (run_of count red green blue)
    then behind (run_text (run_of count red green blue)) (runs_at (Some (run_of count red green blue)) (suc n - count) bytes)
    else Err cannot_stand
runs_at before (suc n) bytes = Err cut_off

-- ---- frames

-- the pixels of the frame with this number, and the bytes after it
unfoldable pub frame_at : (k pixels : ℕ) → List ℕ → Result (List ℕ × List ℕ) ℕ
frame_at k pixels bytes = number_at w32 bytes >>= λ n. if n.0 == k then runs_at None pixels n.1 else Err misplaced

-- where the first field that can't stand is: how many frames stand whole before it, and its cause
pub record Fault : Type 0 where
  pub frame : ℕ
  pub cause : ℕ

-- what is read behind so many whole frames
abbrev pub behind_frames : {A : Type 0} → (k : ℕ) → Result A ℕ → Result A Fault
behind_frames k (Ok x) = Ok x
behind_frames k (Err cause) = Err (record { frame = k; cause = cause })

-- nothing is left behind so many frames
abbrev pub ended : (k : ℕ) → List ℕ → Result (List ℕ) Fault
ended k [] = Ok []
ended k (byte ∷ bytes) = Err (record { frame = k; cause = too_much })

-- the picture texts of so many frames from number k on, each with this head and so many pixels
unfoldable pub frames_at : (head : List ℕ) → (pixels : ℕ) → (k frames : ℕ) → List ℕ → Result (List ℕ) Fault
frames_at head pixels k zero bytes = ended k bytes
frames_at head pixels k (suc n) bytes = do
  frame ← behind_frames k (frame_at k pixels bytes)
  others ← frames_at head pixels (k + 1) n frame.1
  Ok (head ++ (frame.0 ++ others))

-- the picture texts that a capture shows, or where the first field is that can't stand
unfoldable pub shown : List ℕ → Result (List ℕ) Fault
shown bytes = behind_frames 0 (head_at bytes) >>= λ head. frames_at (text_head head.0.width head.0.height) (head.0.width * head.0.height) 0 head.0.frames head.1

-- Which lines of a scene's text record items.
use Rattle.std.specs.Prelude.{ℕ, ◌+◌, Bool, true, false, ◌&&◌, ◌==◌, if◌then◌else◌, List, [], ◌∷◌, ◌++◌, map, filter, flat_map, Option, Some, None}
use Rattle.std.specs.List.{range_with_len}
use Rattle.std.specs.declared.vec.Vec.{Vec}
use Rattle.scene_model.specs.Scene.{EncoderLine, submit_line, touch_line, blit_line, Block, SceneFrame, Scene}
use Rattle.dropped_lines.specs.Reasons.{Reason}
use Rattle.dropped_lines.specs.Verdicts.{Verdict, verdicts}
use Rattle.dropped_lines.specs.Numbers.{line_numbers}
use Rattle.item_lines.specs.declared.places.Place.{Place}
use Rattle.item_lines.specs.declared.accepted.ItemLine.{ItemLine}

-- whether a line of an encoder records an item where it is accepted
abbrev pub is_item_line : EncoderLine → Bool
is_item_line (submit_line v n depth flags) = true
is_item_line (touch_line v) = true
is_item_line (blit_line v d dx dy s sx sy w h) = true
is_item_line _ = false

-- the frame and the encoder of such a line; nothing of another
abbrev pub line_place : (frame encoder : ℕ) → EncoderLine → Option Place
line_place k e l = if is_item_line l then Some (record { frame = k; encoder = e }) else None

-- of each line of a block
abbrev pub block_places : (frame : ℕ) → Block → List (Option Place)
block_places k b = map (line_place k b.encoder) b.lines

-- a line of the API thread records none
abbrev pub no_place : {A : Type 0} → A → Option Place
no_place l = None

-- of each line of a frame, in the order of the text
abbrev pub frame_places : (frame : ℕ) → SceneFrame → List (Option Place)
frame_places k f = map no_place f.before ++ (flat_map (block_places k) f.blocks ++ map no_place f.beside)

-- of each line of the frames from number k on
abbrev pub places_from : ℕ → List SceneFrame → List (Option Place)
places_from k [] = []
places_from k (f ∷ rest) = frame_places k f ++ places_from (k + 1) rest

-- of each line of a scene
abbrev pub item_places : Scene → List (Option Place)
item_places s = places_from 0 s.frames

-- a line that is accepted and records an item, in front of others
abbrev pub with_item : ℕ → Option Reason → Option Place → List ItemLine → List ItemLine
with_item n None None rest = rest
with_item n None (Some p) rest = record { line = n; place = p } ∷ rest
with_item n (Some reason) place rest = rest

-- the lines that record items, of numbered lines with what becomes of each and its place
abbrev pub items_with : List ℕ → List Verdict → List (Option Place) → List ItemLine
items_with (n ∷ ns) (v ∷ vs) (p ∷ ps) = with_item n v.reason p (items_with ns vs ps)
items_with _ _ _ = []

-- whether it is an encoder's in a frame
abbrev pub is_of : (frame encoder : ℕ) → ItemLine → Bool
is_of k e i = (i.place.frame == k) && (i.place.encoder == e)

-- the numbers of an encoder's lines in a frame
abbrev pub numbers_of : (frame encoder : ℕ) → List ItemLine → List ℕ
numbers_of k e items = map (λ i. i.line) (filter (is_of k e) items)

-- the numbers, from 1, of the lines of a scene's text that record an encoder's items in a frame, in their order
abbrev pub encoder_item_lines : List ℕ → Scene → (frame encoder : ℕ) → List ℕ
encoder_item_lines bytes s k e = numbers_of k e (items_with (line_numbers bytes) (verdicts s) (item_places s))

-- of each encoder
abbrev pub item_lines : List ℕ → Scene → (frame : ℕ) → List (List ℕ)
item_lines bytes s k = map (encoder_item_lines bytes s k) (range_with_len 0 s.encoders)

-- numbers of the code
abbrev pub numbers_seen : {A : Type 0} → List (Vec ℕ A) → List (List ℕ)
numbers_seen numbers = map (λ v. v.items) numbers

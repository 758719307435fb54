-- The two versions by computation: which lines stand in which, and how many views there are.
use Rattle.std.specs.Prelude.{◌≡◌, ℕ, List, [], ◌∷◌, ◌++◌, map, flat_map, decimal, Result, Ok, Err, refl, codes}
use Rattle.std.specs.List.{range_with_len}
use Rattle.std.specs.Fmt.{digits}
use Rattle.scene_model.specs.Scene.{ResourceLine, order_line, SceneFrame, Scene, views_of, latency_of}
use Rattle.scene_model.specs.Grammar.{Fault, scene_of, whole_language, after_word, after_resource}

abbrev fault : ℕ → ℕ → Result Scene Fault
fault line cause = Err (record { line = line; cause = cause })

-- the lines before the drawing of each frame
abbrev lines_before : SceneFrame → List ResourceLine
lines_before f = f.before

-- what a text says of its version: the version, the views and the latency
abbrev numbers : Result Scene Fault → List ℕ
numbers (Ok s) = s.version ∷ views_of s ∷ latency_of s ∷ []
numbers (Err f) = []

-- an `order` line that lists the first views
abbrev order_of : ℕ → List ℕ
order_of n = codes "order" ++ (flat_map (λ v. codes " " ++ decimal v) (range_with_len 0 n) ++ codes "\n")

-- a scene of one frame with one line
abbrev with_line : List ℕ → List ℕ → List ℕ
with_line front line = front ++ (codes "size 1 1\nencoders 1\nframe\n" ++ (line ++ codes "done\n"))

abbrev lines_of : Result Scene Fault → List (List ResourceLine)
lines_of (Ok s) = map lines_before s.frames
lines_of (Err f) = []

-- ---- the numbers of a version

version_one : numbers (scene_of whole_language (codes "scene 1\nsize 1 1\nencoders 1\nframe\ndone\n")) ≡ 1 ∷ 256 ∷ 1 ∷ []
unfolding after_word
version_one = refl

version_two : numbers (scene_of whole_language (codes "scene 2\nsize 1 1\nencoders 1\nframe\ndone\n")) ≡ 2 ∷ 512 ∷ 1 ∷ []
unfolding after_word
version_two = refl

latency_behind_encoders : numbers (scene_of whole_language (codes "scene 2\nsize 1 1\nencoders 1\nlatency 1\nframe\ndone\n")) ≡ 2 ∷ 512 ∷ 1 ∷ []
unfolding after_word
latency_behind_encoders = refl

latency_behind_room : numbers (scene_of whole_language (codes "scene 2\nsize 1 1\nencoders 1\nroom 1 0 0\nlatency 3\nframe\ndone\n")) ≡ 2 ∷ 512 ∷ 3 ∷ []
unfolding after_word
latency_behind_room = refl

-- ---- the `latency` line refused

latency_in_version_one : scene_of whole_language (codes "scene 1\nsize 1 1\nencoders 1\nlatency 1\nframe\ndone\n") ≡ fault 4 4
unfolding after_word
latency_in_version_one = refl

latency_of_none : scene_of whole_language (codes "scene 2\nsize 1 1\nencoders 1\nlatency 0\nframe\ndone\n") ≡ fault 4 7
unfolding after_word
latency_of_none = refl

latency_of_four : scene_of whole_language (codes "scene 2\nsize 1 1\nencoders 1\nlatency 4\nframe\ndone\n") ≡ fault 4 7
unfolding after_word
latency_of_four = refl

latency_misspelt : scene_of whole_language (codes "scene 2\nsize 1 1\nencoders 1\nlatency 02\nframe\ndone\n") ≡ fault 4 6
unfolding after_word
latency_misspelt = refl

latency_without_number : scene_of whole_language (codes "scene 2\nsize 1 1\nencoders 1\nlatency\nframe\ndone\n") ≡ fault 4 5
unfolding after_word
latency_without_number = refl

latency_twice : scene_of whole_language (codes "scene 2\nsize 1 1\nencoders 1\nlatency 2\nlatency 2\nframe\ndone\n") ≡ fault 5 4
unfolding after_word
latency_twice = refl

latency_before_room : scene_of whole_language (codes "scene 2\nsize 1 1\nencoders 1\nlatency 2\nroom 1 0 0\nframe\ndone\n") ≡ fault 5 4
unfolding after_word
latency_before_room = refl

latency_before_encoders : scene_of whole_language (codes "scene 2\nsize 1 1\nlatency 2\nencoders 1\nframe\ndone\n") ≡ fault 3 4
unfolding after_word
latency_before_encoders = refl

latency_in_a_frame : scene_of whole_language (codes "scene 2\nsize 1 1\nencoders 1\nframe\nlatency 2\ndone\n") ≡ fault 5 4
unfolding after_word
latency_in_a_frame = refl

-- ---- other versions

version_three_behind_done : scene_of whole_language (codes "scene 2\nsize 1 1\nencoders 1\nframe\ndone\nscene 3\n") ≡ fault 6 12
unfolding after_word
version_three_behind_done = refl

version_two_again : scene_of whole_language (codes "scene 2\nscene 2\n") ≡ fault 2 4
unfolding after_word
version_two_again = refl

last_version : scene_of whole_language (codes "scene 255\n") ≡ fault 1 12
last_version = refl

version_of_three_fields : scene_of whole_language (codes "scene 3 4\n") ≡ fault 1 5
unfolding after_word
version_of_three_fields = refl

version_zero : scene_of whole_language (codes "scene 0\n") ≡ fault 1 7
unfolding after_word
version_zero = refl

-- ---- the `order` line

order_of_256_in_version_one : lines_of (scene_of whole_language (with_line (codes "scene 1\n") (order_of 256))) ≡ (order_line (range_with_len 0 256) ∷ []) ∷ []
unfolding digits after_word after_resource
order_of_256_in_version_one = refl

order_of_257_in_version_one : scene_of whole_language (with_line (codes "scene 1\n") (order_of 257)) ≡ fault 5 5
unfolding digits after_word after_resource
order_of_257_in_version_one = refl

order_of_257_in_version_two : lines_of (scene_of whole_language (with_line (codes "scene 2\n") (order_of 257))) ≡ (order_line (range_with_len 0 257) ∷ []) ∷ []
unfolding digits after_word after_resource
order_of_257_in_version_two = refl

order_of_512_in_version_two : lines_of (scene_of whole_language (with_line (codes "scene 2\n") (order_of 512))) ≡ (order_line (range_with_len 0 512) ∷ []) ∷ []
unfolding digits after_word after_resource
order_of_512_in_version_two = refl

order_of_513_in_version_two : scene_of whole_language (with_line (codes "scene 2\n") (order_of 513)) ≡ fault 5 5
unfolding digits after_word after_resource
order_of_513_in_version_two = refl

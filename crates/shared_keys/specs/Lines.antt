-- Where the pictures of a scene can depend on the threads' schedule: the views of its frames in which two encoders share a key.
use Rattle.std.specs.Prelude.{ℕ, ◌+◌, ◌&&◌, ◌==◌, List, [], ◌∷◌, ◌++◌, length, flat_map, decimal, codes}
use Rattle.std.specs.List.{list_any}
use Rattle.gfx_model.specs.Views.{Views, view_count}
use Rattle.gfx_model.specs.World.{is_of_view}
use Rattle.scene_model.specs.Scene.{Scene}
use Rattle.scene_model.specs.Fold.{FramePlan, plans}
use Rattle.scene_model.specs.Journal.{Tagged, tagged_from, share_key}
use Rattle.shared_keys.specs.Pairs.{Sharing, sharing_views}

-- of some items one of the first encoder is of the view and shares a key with one of the second
abbrev pub encoders_share : Views → List Tagged → Sharing
encoders_share vs items v a b = list_any (λ x. (x.encoder == a) && is_of_view v x.item && list_any (λ y. (y.encoder == b) && share_key vs x y) items) items

-- the views of a frame in which two encoders share a key, ascending, each with the least pair of such encoders
abbrev pub shared_views : FramePlan → List (ℕ × (ℕ × ℕ))
shared_views p = sharing_views (encoders_share p.views (tagged_from 0 p.encoders)) (length p.encoders) (view_count p.views)

-- `frame K view V encoders A B`
abbrev pub shared_line : (frame : ℕ) → ℕ × (ℕ × ℕ) → List ℕ
shared_line k x =
    codes "frame " ++ (decimal k ++ (codes " view " ++ (decimal x.0 ++ (codes " encoders " ++ (decimal x.1.0 ++ (codes " " ++ (decimal x.1.1 ++ codes "\n")))))))

-- the lines of a frame
abbrev pub frame_lines : (frame : ℕ) → List (ℕ × (ℕ × ℕ)) → List ℕ
frame_lines k views = flat_map (shared_line k) views

-- the lines of frames from number k on
abbrev pub lines_from : (k : ℕ) → List FramePlan → List ℕ
lines_from k [] = []
lines_from k (p ∷ ps) = frame_lines k (shared_views p) ++ lines_from (k + 1) ps

-- one line for each frame and view in which two encoders share a key
abbrev pub shared_lines : Scene → List ℕ
shared_lines s = lines_from 0 (plans s)

-- What holds of the pairs.
use Rattle.std.specs.Prelude.{◌≡◌, map}
use Rattle.scene_model.specs.Fold.{FramePlan}
use Rattle.shared_keys.specs.Lines.{shared_views}
use Rattle.shared_items.specs.Items.{frame_pairs, view_of_pair}

-- the views and encoders of a frame's pairs are those of its shared views: each of these has its least pair of items
abbrev pub PairsLaw : Type 0
PairsLaw = (p : FramePlan) → map view_of_pair (frame_pairs p) ≡ shared_views p

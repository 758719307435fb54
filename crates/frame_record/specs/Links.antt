-- What went to a link and came back.
use Rattle.std.specs.Prelude.{◌≡◌, List, [], ◌∷◌, ◌++◌, map, length, drop}
use Rattle.frame_record.specs.declared.frame.Frame.{Frame}
use Rattle.frame_record.specs.declared.frame.RenderedFrame.{RenderedFrame}

-- the frames of what came back
abbrev pub frames_of : List RenderedFrame → List Frame
frames_of rs = map (λ r. r.frame) rs

-- the frames that are out, the oldest first
abbrev pub out_of : List Frame → List RenderedFrame → List Frame
out_of given back = drop (length back) given

-- the oldest frame that was out came back, and what came back are the first of the frames that were given, each unchanged
pub record CameBack (given : List Frame) (old new : List RenderedFrame) (r : RenderedFrame) : Type 0 where
  pub back : new ≡ old ++ r ∷ []
  pub oldest : out_of given old ≡ r.frame ∷ out_of given new
  pub prefix : given ≡ frames_of new ++ out_of given new

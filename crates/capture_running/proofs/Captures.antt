-- Each list of pictures has its capture.
use Rattle.std.proofs.Common.{◌≡◌, ℕ, length, refl}
use Rattle.frame_capture.specs.Film.{Film, CanBeCaptured, text_head, text_length, texts}
use Rattle.frame_capture.specs.Capture.{IsCapture, head_of}
use Rattle.frame_capture.specs.Spelling.{film, frames_of}
use Rattle.frame_capture.proofs.Whole.{captured}
use Rattle.std.proofs.Common.{List, ◌++◌}

-- the capture of pictures, by the longest runs from the left
abbrev spelled : Film → List ℕ
spelled f =
    head_of f.width f.height (length f.pictures) ++ frames_of (length (text_head f.width f.height)) (text_length f.width f.height) 0 (length f.pictures) (texts f)

pub has-capture : (f : Film) → CanBeCaptured f → (bytes : List ℕ) × IsCapture bytes f
has-capture f can =
    (spelled f, captured f.width f.height (length (text_head f.width f.height)) (text_length f.width f.height) (length f.pictures) (texts f) (spelled f) f.pictures (can, refl) refl refl refl refl)

use Rattle.frame_capture.proofs.Rows.{are-texts}
use Rattle.test_scenes.proofs.frame_capture_tests.one_picture_of_one_colour.Goals as goal

pub encode-requires : goal.encode-requires
encode-requires c asked = are-texts

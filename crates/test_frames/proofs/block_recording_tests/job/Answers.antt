use Rattle.std.proofs.Common.{List, [], None, Option, slice_index_or, ap, arith}
use Rattle.std.proofs.lemmas.List.{length-map}
use Rattle.gfx_model.specs.Words.{Handle}
use Rattle.gfx_model.specs.Resources.{opening}
use Rattle.scene_model.specs.Fold.{Progress}
use Rattle.scene_text.specs.Seen.{encoder_line_seen}
use Rattle.test_frames.proofs.block_recording_tests.job.Goals as goal

-- nothing is made or named
abbrev nothing : Progress
nothing = record { resources = opening 256 1 0 1; bindings = []; changes = []; dropped = 0 }

pub new-requires : goal.new-requires
new-requires g c =
    let all = length-map c.args.lines.now encoder_line_seen in
    record {
      ready = record {
        few = omega (arith, all, c.requires.few);
        frame = c.requires.frame;
        state = nothing;
        stand = record {
          named = λ n. ap (λ (names : List (Option Handle)). slice_index_or names n None) c.requires.names;
          placed = λ n h is. cc is;
        };
        admitted = c.requires.admits _ _ _ _;
      };
    }

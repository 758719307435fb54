use Rattle.std.proofs.Common.{◌≡◌, take}
use Rattle.std.specs.Prelude.{fold}
use Rattle.view_drawing.specs.Entered.{blit_in}
use Rattle.view_drawing.specs.Entries.{blits_of}
use Rattle.view_drawing.proofs.blits.blit_all.Given as goal

abbrev pub invariant-loop-one : goal.invariant-loop-one
invariant-loop-one l = l.textures ≡ fold blit_in l.fn.textures (blits_of l.frame (take l.one-index l.blits))

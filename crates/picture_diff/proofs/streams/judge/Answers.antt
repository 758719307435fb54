use Rattle.std.proofs.Common.{List, map, sym, subst}
use Rattle.std.specs.List.{AllByRecursion}
use Rattle.picture_diff.specs.Picture.{IsPicture}
use Rattle.picture_diff.specs.Told.{picture_seen}
use Rattle.picture_diff.specs.declared.picture.Picture as code
use Rattle.picture_diff.proofs.Frames.{all-first, all-second}
use Rattle.picture_diff.proofs.streams.judge.Goals as goal

pub compare-requires-clause-ones : goal.compare-requires-clause-ones
compare-requires-clause-ones c = subst (λ (xs : List code.Picture). AllByRecursion IsPicture (map picture_seen xs)) (sym c.split_at.ensures.front) (all-first _ c.args.pictures.now c.requires)

pub compare-requires-clause-others : goal.compare-requires-clause-others
compare-requires-clause-others c = subst (λ (xs : List code.Picture). AllByRecursion IsPicture (map picture_seen xs)) (sym c.split_at.ensures.back) (all-second _ c.args.pictures.now c.requires)

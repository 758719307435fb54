use Rattle.std.proofs.Common.{◌≡◌, ap, sym, subst, ◌∙◌, List}
use Rattle.std.specs.List.{AllByRecursion}
use Rattle.gfx_model.specs.Views.{Views, view_count}
use Rattle.shared_keys.specs.declared.marks.Mark.{Mark}
use Rattle.shared_keys.specs.Marks.{AreMarksOf, IsThere}
use Rattle.draw_encoder.specs.declared.items.Recording.{Recording}
use Rattle.draw_encoder.specs.Bundles.{items_of}
use Rattle.recorded_keys.specs.Recorded.{marks_of}
use Rattle.recorded_keys.proofs.Planned.{planned-marks, all-there}
use Rattle.recorded_keys.proofs.frames.recorded_marks.Goals as goal

pub returns : goal.returns
returns c = λ s k p e v h.
    let rs : List Recording = c.args.recordings.now in
    let there = subst (λ (vs : Views). AllByRecursion (λ (r : Recording). AllByRecursion (IsThere (view_count vs)) (items_of r)) rs) (sym v) (all-there c.there_law.ensures s k p rs e h) in
    let marks : c.in_ok-marks.marks.items ≡ marks_of p.views rs = c.in_ok-marks.ensures there ∙ ap (λ (vs : Views). marks_of vs rs) v in
    subst (λ (ms : List Mark). AreMarksOf p ms) (sym marks) (planned-marks p rs h)

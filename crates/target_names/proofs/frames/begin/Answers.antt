use Rattle.std.proofs.Common.{◌≡◌, None, List, [], Option, length, replicate, ap, sym, ◌∙◌}
use Rattle.std.proofs.lemmas.List.{length-map}
use Rattle.gfx_model.specs.Words.{Handle}
use Rattle.gfx_model.specs.Resources.{opening}
use Rattle.resource_book.specs.Written.{BookView}
use Rattle.scene_text.specs.Seen.{scene_seen, name_seen}
use Rattle.scene_check.proofs.SceneLaws.{first_reached}
use Rattle.target_names.proofs.frames.begin.Goals as goal

abbrev none : Option Handle
none = None

pub returns : goal.returns
returns c =
    first_reached (scene_seen c.args.scene.now) c.in_ok-book.book c.in_ok-handles.handles.items
    (c.in_ok-book.ensures ∙ ap (λ v. let q : BookView = record { resources = opening v c.args.scene.now.latency 0 1; pre = []; post = []; payloads = [] } in q) c.view_count.ensures.value)
    (c.in_ok-handles.ensures ∙ ap (λ n. replicate n none) (sym (length-map c.args.scene.now.names name_seen)))

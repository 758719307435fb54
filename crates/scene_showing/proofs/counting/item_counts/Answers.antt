use Rattle.std.proofs.Common.{◌≡◌, ℕ, List, IfOk, map, ap, subst, ◌∙◌}
use Rattle.scene_text.specs.Seen.{scene_seen}
use Rattle.scene_showing.proofs.Counts.{entry_counts, of_lawful, lawful_when_whole}
use Rattle.scene_showing.proofs.counting.item_counts.Goals as goal

pub returns : goal.returns
returns g c =
    let s = scene_seen c.args.scene.now in
    let played = c.play_frames-played in
    let lawful = lawful_when_whole s _ _ _ c.lawful_law.ensures.count _ c.if-not-played.false played.ensures.played.ended in
    let all = ap (map (entry_counts s.encoders)) c.as_slice.ensures ∙ of_lawful s played.result.journal.frames lawful in
    subst (λ (cs : List (List ℕ)). IfOk c.counts_of_frames.result (λ counts. counts.items ≡ cs)) all c.counts_of_frames.ensures

use Rattle.std.proofs.Common.{map, ap, sym, ◌∙◌, ◌≡◌, ◌≤◌, ℕ, arith, length, slice_index_or, None}
use Rattle.gfx_words.specs.Seen.{entry_seen}
use Rattle.scene_text.specs.Seen.{scene_seen}
use Rattle.scene_playing.specs.Frames.{note_seen}
use Rattle.scene_playing.specs.Steps.{first_after}
use Rattle.scene_playing.proofs.FrameLaws.{played_when_back, outcome_closed}
use Rattle.scene_playing.proofs.frames.finish.Goals as goal

pub returns-clause-played : goal.returns-clause-played
returns-clause-played g c =
    let closes = c.close-closed.ensures.closes in
    let kept = c.tell_facts.ensures.keeps in
    let few : length closes.came ≤ 3 = let a = kept.few in let b = kept.latency.1 in let m = closes.many in omega (arith, a, b, m) in
    let third = c.later-outcome.ensures in
    let second = c.later-2.ensures in
    let first = c.later.ensures in
    let told = third ∙ ap (λ o. first_after o (slice_index_or c.close-closed.result.backs 2 None)) (second ∙ ap (λ o. first_after o (slice_index_or c.close-closed.result.backs 1 None)) first) in
    played_when_back (scene_seen c.args.scene.now) c.args.context.given _ _ _ _ _ _ c.args.is_whole c.requires.ended closes.given_is closes.unchanged (ap (map (map entry_seen)) c.from_vec.ensures)
    (told ∙ outcome_closed c.args.told.outcome c.close-closed.result.backs c.args.context.back closes.came _ few c.requires.outcome closes.back_is closes.notes_are)

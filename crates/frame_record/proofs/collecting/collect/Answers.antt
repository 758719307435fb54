use Rattle.std.proofs.Common.{◌≡◌, ◌++◌, length, map, take, ap, ◌∙◌, arith}
use Rattle.std.specs.List.{flat_map}
use Rattle.std.proofs.lemmas.Result.{IfOk-weaker}
use Rattle.gfx_model.specs.Frames.{numbered_entries}
use Rattle.gfx_model.specs.World.{sorted_by_key}
use Rattle.draw_encoder.specs.declared.items.Recording.{Recording}
use Rattle.frame_record.specs.Merged.{pair_of}
use Rattle.frame_record.specs.Seen.{entry_seen, recorded_seen, recordings_seen}
use Rattle.frame_record.proofs.CollectLaws.{few_each, sorted_when, collect_more, collected_all}
use Rattle.frame_record.proofs.KeptLaws.{all_ascend}
use Rattle.frame_record.proofs.collecting.collect.Goals as goal

pub merged-requires-clause-few : goal.merged-requires-clause-few
merged-requires-clause-few c =
    let same : length c.recording-item.result.items ≡ _ = ap (λ (r : Recording). length r.items) c.recording-item.is in
    omega (arith, same, few_each c.args.recordings.now c.loop-recording.recording-index c.recording-item.result c.loop-recording-test.true, c.requires.few)

pub merged-requires-clause-left : goal.merged-requires-clause-left
merged-requires-clause-left c =
    sorted_when (map pair_of c.deref.result.now) (flat_map numbered_entries (recordings_seen (take c.loop-recording.recording-index c.args.recordings.now)))
    (ap (map pair_of) c.deref.ensures.value ∙ c.loop-recording.invariant)

pub loop-recording-preserved : goal.loop-recording-preserved
loop-recording-preserved c =
    collect_more c.args.recordings.now c.loop-recording.recording-index c.recording-item.result (map pair_of c.loop-recording.all.items) (map pair_of c.in_ok-all.all.items)
    c.loop-recording-test.true c.recording-item.is c.loop-recording.invariant
    (c.in_ok-all.ensures ∙ ap (λ xs. sorted_by_key (map pair_of xs ++ numbered_entries (recorded_seen c.recording-item.result))) c.deref.ensures.value)

pub returns-clause-ascend : goal.returns-clause-ascend
returns-clause-ascend c = IfOk-weaker c.entries_of.result _ _ (λ journal told. all_ascend c.args.recordings.now c.requires.ascends) c.entries_of.ensures

pub returns-clause-journal : goal.returns-clause-journal
returns-clause-journal c =
    let all = collected_all c.args.recordings.now c.loop-recording.recording-index c.loop-recording.all.items (omega (arith, c.loop-recording-test.false)) c.loop-recording.invariant in
    IfOk-weaker c.entries_of.result _ _ (λ journal told. told ∙ ap (map (λ n. entry_seen n.entry)) c.deref-2.ensures.value ∙ all) c.entries_of.ensures

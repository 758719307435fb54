use Rattle.std.proofs.Common.{List, length, ap, sym, subst, ◌∙◌, map, arith}
use Rattle.std.proofs.lemmas.Result.{on_ok_weaker}
use Rattle.std.specs.List.{AllByRecursion}
use Rattle.gfx_model.specs.Frames.{keyed_entries}
use Rattle.gfx_model.specs.World.{sorted_by_key}
use Rattle.draw_encoder.specs.declared.items.Recording.{Recording}
use Rattle.frame_record.specs.Ordered.{keyed_of, IsPlaced}
use Rattle.frame_record.specs.Seen.{entry_seen, recordings_seen}
use Rattle.frame_record.proofs.KeptLaws.{few_entries, kept_of}
use Rattle.frame_record.proofs.KeyLaws.{entries_seen, placed_sorted, positions_ascend}
use Rattle.frame_record.proofs.frame.Frame.ordered.Goals as goal

pub with_keys-requires : goal.with_keys-requires
with_keys-requires c =
    let f = c.args.self.now in
    let same = ap length c.deref-2.ensures.value in
    let few = few_entries f.recordings.items f.journal.items (kept_of f.recordings.items f.journal.items f.kept) in
    omega (arith, same, few)

pub returns-clause-keyed : goal.returns-clause-keyed
returns-clause-keyed c =
    let views = c.args.self.now.views in
    on_ok_weaker c.sort.result
    (λ e. e
    ∙ ap sorted_by_key (c.in_ok-with_keys.ensures.keyed
    ∙ ap (λ rs. keyed_entries views (recordings_seen rs) (map entry_seen c.deref-2.result.now)) c.deref.ensures.value
    ∙ ap (λ es. keyed_entries views (recordings_seen c.args.self.now.recordings.items) (map entry_seen es)) c.deref-2.ensures.value))
    c.sort.ensures

pub returns-clause-order : goal.returns-clause-order
returns-clause-order c =
    let views = c.args.self.now.views in
    on_ok_weaker c.sort.result
    (λ e. sym (entries_seen c.sort.new.all.items)
    ∙ ap (map (λ x. x.1)) (e
    ∙ ap sorted_by_key (c.in_ok-with_keys.ensures.keyed
    ∙ ap (λ rs. keyed_entries views (recordings_seen rs) (map entry_seen c.deref-2.result.now)) c.deref.ensures.value
    ∙ ap (λ es. keyed_entries views (recordings_seen c.args.self.now.recordings.items) (map entry_seen es)) c.deref-2.ensures.value)))
    c.sort.ensures

pub returns-clause-ascend : goal.returns-clause-ascend
returns-clause-ascend c = on_ok_weaker c.sort.result (λ e. positions_ascend (map keyed_of c.with_keys.new.room.items) c.sort.new.all.items e) c.sort.ensures

pub returns-clause-placed : goal.returns-clause-placed
returns-clause-placed c =
    let views = c.args.self.now.views in
    let old = map keyed_of c.with_keys.new.room.items in
    let all = subst (λ (rs : List Recording). AllByRecursion (IsPlaced views (recordings_seen rs)) old) c.deref.ensures.value c.in_ok-with_keys.ensures.placed in
    on_ok_weaker c.sort.result (λ e. placed_sorted (IsPlaced views (recordings_seen c.args.self.now.recordings.items)) old (map keyed_of c.sort.new.all.items) e all) c.sort.ensures

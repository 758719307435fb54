use Rattle.std.proofs.Common.{◌≡◌, List, [], ◌∷◌, ◌++◌, map, sym, ap, subst, ◌∙◌}
use Rattle.std.specs.List.{AllByRecursion}
use Rattle.gfx_model.specs.Frames.{collected, NumbersAscend}
use Rattle.draw_encoder.specs.declared.items.Item.{Item}
use Rattle.draw_encoder.specs.declared.items.Recording.{Recording}
use Rattle.frame_record.specs.Kept.{IsKept, IsCollectable}
use Rattle.frame_record.specs.Seen.{entry_seen, recordings_seen}
use Rattle.frame_record.proofs.OneRecording.{IsAscending, collectable, kept}
use Rattle.test_raster.proofs.render_core_tests.recorded.Goals as goal

pub collect-requires : goal.collect-requires
collect-requires c =
    let r = c.recording.result in
    let items : c.push.new.self.items ≡ r ∷ [] = c.in_ok-push.ensures.items ∙ ap (λ (rs : List Recording). rs ++ r ∷ []) c.new-recordings.ensures.items in
    let own : IsAscending r = subst (λ (is : List Item). IsAscending (record r { items = is })) (sym c.recording.ensures) (c.requires.few, c.requires.ascend) in
    subst IsCollectable (sym (c.deref.ensures.value ∙ items)) (collectable r own)

pub new-requires : goal.new-requires
new-requires c =
    let r = c.recording.result in
    let journal = c.in_ok-journal.journal.items in
    let items : c.push.new.self.items ≡ r ∷ [] = c.in_ok-push.ensures.items ∙ ap (λ (rs : List Recording). rs ++ r ∷ []) c.new-recordings.ensures.items in
    let slice : c.deref.result.now ≡ r ∷ [] = c.deref.ensures.value ∙ items in
    let own : IsAscending r = subst (λ (is : List Item). IsAscending (record r { items = is })) (sym c.recording.ensures) (c.requires.few, c.requires.ascend) in
    subst (λ (rs : List Recording). IsKept rs journal) (sym items)
    (kept r journal own
    (subst (λ (rs : List Recording). map entry_seen journal ≡ collected (recordings_seen rs)) slice c.in_ok-journal.ensures.journal)
    (subst (λ (rs : List Recording). AllByRecursion (λ r. NumbersAscend 0 r.items) (recordings_seen rs)) slice c.in_ok-journal.ensures.ascend))

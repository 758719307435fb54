use Rattle.std.proofs.Common.{◌≡◌, ℕ, ◌+◌, length, map, refl, sym, ap, ◌∙◌, subst}
use Rattle.scene_text.specs.Seen.{frame_seen, scene_seen}
use Rattle.frame_record.specs.Seen.{entry_seen}
use Rattle.gfx_context.specs.Kept.{IsContext}
use Rattle.gfx_context.specs.Ended.{Collects}
use Rattle.scene_playing.specs.Steps.{FrameEnds}
use Rattle.scene_playing.proofs.Collecting.{none_off_ended}
use Rattle.scene_playing.proofs.EndLaws.{frame_ends, frame_back}
use Rattle.scene_playing.proofs.FrameLaws.{outcome_after}
use Rattle.scene_playing.proofs.frame.end_frame.Goals as goal

pub returns-clause-ended : goal.returns-clause-ended
returns-clause-ended g c =
    let s = scene_seen c.args.scene.now in
    let k = c.args.context.now.book.resources.frame in
    let f = frame_seen c.args.frame.now in
    let report = c.in-Ok.report in
    let handles = c.args.handles.now in
    let old = c.args.context.now in
    let new = c.end.new.self in
    let mid = c.collect.new.context in
    let planned = c.plan_law.ensures.plan s k f c.requires.recorded.there in
    let kept = subst (λ n. IsContext g.C.Naming.admits n old) c.requires.views c.tell_facts.ensures.keeps in
    let collects = subst (λ n. Collects g.C.Naming.admits n old mid) c.requires.views c.collect.ensures.collects in
    let ends = frame_ends g.C.Naming.admits s k f handles old mid new report c.args.dropped c.requires.admitted c.next_law.ensures.next c.bare_start_law.ensures c.recorded_law.ensures c.frame_law.ensures
    planned.0 planned.1 kept refl c.requires.recorded c.requires.dropped collects c.in-Ok.ensures.answer in
    let items : c.len.result ≡ length report.journal.items = c.len.ensures ∙ report.journal.ok.0 in
    let dropped : c.from.result + c.from-2.result ≡ report.dropped + c.args.dropped = λ i. c.from.ensures i + c.from-2.ensures i in
    subst (λ (n : ℕ). FrameEnds s k f (map entry_seen report.journal.items) (n, c.from.result + c.from-2.result) report.given handles old new) (sym items)
    (subst (λ (n : ℕ). FrameEnds s k f (map entry_seen report.journal.items) (length report.journal.items, n) report.given handles old new) (sym dropped) ends)

pub returns-clause-back : goal.returns-clause-back
returns-clause-back g c =
    let s = scene_seen c.args.scene.now in
    let k = c.args.context.now.book.resources.frame in
    let f = frame_seen c.args.frame.now in
    let old = c.args.context.now in
    let new = c.end.new.self in
    let mid = c.collect.new.context in
    let planned = c.plan_law.ensures.plan s k f c.requires.recorded.there in
    let kept = subst (λ n. IsContext g.C.Naming.admits n old) c.requires.views c.tell_facts.ensures.keeps in
    let collects = subst (λ n. Collects g.C.Naming.admits n old mid) c.requires.views c.collect.ensures.collects in
    outcome_after c.in-Ok.report.back old new.back
    (frame_back g.C.Naming.admits s k f c.args.handles.now old mid new c.in-Ok.report c.args.dropped c.requires.admitted c.next_law.ensures.next c.bare_start_law.ensures c.recorded_law.ensures c.frame_law.ensures
    planned.0 planned.1 kept refl c.requires.recorded c.requires.dropped collects c.in-Ok.ensures.answer)

pub returns-clause-none_off : goal.returns-clause-none_off
returns-clause-none_off g c = none_off_ended c.end.result c.collect.new.context c.end.new.self c.end.ensures.answer c.collect.ensures.collects.none_off

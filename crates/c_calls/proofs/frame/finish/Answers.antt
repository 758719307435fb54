use Rattle.std.proofs.Common.{ap, ◌∙◌, arith, subst, sym}
use Rattle.frame_record.specs.declared.frame.Frame.{Frame}
use Rattle.context_core.specs.Ended.{Gives}
use Rattle.context_core.specs.States.{CoreView}
use Rattle.context_core.proofs.Ends.{gives_both}
use Rattle.c_calls.proofs.Frames.{none_off, accepted, taken, same_views, same_journal, made_some, made_none, some_out, is_oldest, back}
use Rattle.c_calls.proofs.frame.finish.Goals as goal

pub make-frame-requires-clause-none_off : goal.make-frame-requires-clause-none_off
make-frame-requires-clause-none_off c = none_off c.args.prepared c.requires.ready.0 c.args.core.now c.requires.ready.1

pub make-frame-requires-clause-out : goal.make-frame-requires-clause-out
make-frame-requires-clause-out c = λ _. (let none = c.requires.none_out in let late = c.tell_facts.ensures.keeps.latency.0 in omega (arith, none, late))

pub make-frame-requires-clause-accepted : goal.make-frame-requires-clause-accepted
make-frame-requires-clause-accepted c = accepted c.args.prepared c.requires.ready.0 c.args.core.now c.requires.ready.1

pub make-frame-requires-clause-views : goal.make-frame-requires-clause-views
make-frame-requires-clause-views c = same_views c.args.prepared c.requires.ready.0 c.args.core.now c.requires.ready.1

pub make-frame-requires-clause-room : goal.make-frame-requires-clause-room
make-frame-requires-clause-room c = c.requires.ready.1.prepared.room

pub make-frame-requires-clause-journal : goal.make-frame-requires-clause-journal
make-frame-requires-clause-journal c = same_journal c.args.prepared c.requires.ready.0 c.args.core.now c.requires.ready.1

pub start_next-requires-clause-table : goal.start_next-requires-clause-table
start_next-requires-clause-table c =
    let m = made_some c.args.prepared.work c.make-frame.result.frame c.in-Some.frame c.args.core.now c.make-frame.new.self c.in-Some.is c.make-frame.ensures.answer in
    ap (λ (x : CoreView). x.table) m.same ∙ c.requires.table

pub start_next-requires-clause-given : goal.start_next-requires-clause-given
start_next-requires-clause-given c =
    let m = made_some c.args.prepared.work c.make-frame.result.frame c.in-Some.frame c.args.core.now c.make-frame.new.self c.in-Some.is c.make-frame.ensures.answer in
    ap (λ (x : CoreView). x.state.is_given) m.same

pub start_next-requires-clause-taken : goal.start_next-requires-clause-taken
start_next-requires-clause-taken c =
    let m = made_some c.args.prepared.work c.make-frame.result.frame c.in-Some.frame c.args.core.now c.make-frame.new.self c.in-Some.is c.make-frame.ensures.answer in
    ap (λ (x : CoreView). x.state.book.post) m.same ∙ (taken c.args.prepared c.requires.ready.0 c.args.core.now c.requires.ready.1).1

pub came_back-requires-clause-some : goal.came_back-requires-clause-some
came_back-requires-clause-some c =
    let m = made_some c.args.prepared.work c.make-frame.result.frame c.in-Some.frame c.args.core.now c.make-frame.new.self c.in-Some.is c.make-frame.ensures.answer in
    let made = c.start_next.new.self in
    let g = gives_both c.args.prepared.work c.in-Some.frame c.args.core.now c.make-frame.new.self made m c.start_next.ensures.starts (taken c.args.prepared c.requires.ready.0 c.args.core.now c.requires.ready.1) in
    some_out c.args.prepared.work c.in-Some.frame c.args.core.now made c.requires.none_out g

pub came_back-requires-clause-oldest : goal.came_back-requires-clause-oldest
came_back-requires-clause-oldest c =
    let m = made_some c.args.prepared.work c.make-frame.result.frame c.in-Some.frame c.args.core.now c.make-frame.new.self c.in-Some.is c.make-frame.ensures.answer in
    let made = c.start_next.new.self in
    let g = gives_both c.args.prepared.work c.in-Some.frame c.args.core.now c.make-frame.new.self made m c.start_next.ensures.starts (taken c.args.prepared c.requires.ready.0 c.args.core.now c.requires.ready.1) in
    let same : Gives c.args.prepared.work c.render-rendered.result.frame c.args.core.now made = subst (λ (f : Frame). Gives c.args.prepared.work f c.args.core.now made) (sym c.render-rendered.ensures.frame) g in
    is_oldest c.args.prepared.work c.render-rendered.result.frame c.args.core.now made c.requires.none_out same

pub unreachable-requires : goal.unreachable-requires
unreachable-requires c = made_none c.args.prepared.work c.make-frame.result.frame c.args.core.now c.make-frame.new.self c.in-None.is c.make-frame.ensures.answer

pub returns-clause-made : goal.returns-clause-made
returns-clause-made c =
    let m = made_some c.args.prepared.work c.make-frame.result.frame c.in-Some.frame c.args.core.now c.make-frame.new.self c.in-Some.is c.make-frame.ensures.answer in
    let made = c.start_next.new.self in
    let g = gives_both c.args.prepared.work c.in-Some.frame c.args.core.now c.make-frame.new.self made m c.start_next.ensures.starts (taken c.args.prepared c.requires.ready.0 c.args.core.now c.requires.ready.1) in
    let same : Gives c.args.prepared.work c.render-rendered.result.frame c.args.core.now made = subst (λ (f : Frame). Gives c.args.prepared.work f c.args.core.now made) (sym c.render-rendered.ensures.frame) g in
    (made, same, back c.args.prepared.work c.render-rendered.result.frame c.args.core.now made c.requires.none_out same _ c.came_back.ensures)

use Rattle.std.proofs.Common.{◌≡◌, true, List, sym, subst, ◌∙◌}
use Rattle.std.proofs.lemmas.Result.{IfOk-weaker}
use Rattle.gfx_words.specs.Seen.{entry_seen}
use Rattle.draw_encoder.specs.Seen.{item_seen}
use Rattle.draw_encoder.specs.declared.items.UniformSet.{UniformSet}
use Rattle.harmless_views.specs.Checked.{is_plain}
use Rattle.harmless_views.specs.Seen.{looked, recorded_in}
use Rattle.harmless_views.proofs.Checking.{entry-covered, entry-adds, entry-lacks}
use Rattle.harmless_views.proofs.judging.check_entry.Goals as goal

pub returns-clause-checked : goal.returns-clause-checked
returns-clause-checked c =
    let s = c.args.scope.now in
    let r = c.in-Some.recording.now in
    let i = item_seen r.bytes r.uniforms c.in-Some.item.now in
    let plain : is_plain i ≡ true = subst (λ (sets : List UniformSet). is_plain (item_seen r.bytes sets c.in-Some.item.now) ≡ true) c.as_slice.ensures (sym (c.is_plain.ensures r.bytes) ∙ c.if-not-is_plain.false) in
    IfOk-weaker c.push_draw.result _ _
    (λ done covered fine. entry-covered (looked s) (recorded_in s) (entry_seen c.args.entry) r.encoder i c.in-Some-clash_of.mark c.in-Some.ensures.content c.in-Some.ensures.own.0 c.in-Some-clash_of.ensures c.push_draw.new.runs.items plain (covered fine)) c.push_draw.ensures.has

pub returns-clause-adds : goal.returns-clause-adds
returns-clause-adds c =
    let s = c.args.scope.now in
    let r = c.in-Some.recording.now in
    let i = item_seen r.bytes r.uniforms c.in-Some.item.now in
    IfOk-weaker c.push_draw.result _ _
    (λ done adds there. entry-adds (looked s) (recorded_in s) (entry_seen c.args.entry) r.encoder i c.in-Some-clash_of.mark c.in-Some.ensures.content c.in-Some.ensures.own.0 c.in-Some-clash_of.ensures c.args.runs.now.items c.push_draw.new.runs.items there adds) c.push_draw.ensures.adds

pub returns-clause-stops : goal.returns-clause-stops
returns-clause-stops c =
    let s = c.args.scope.now in
    let r = c.in-Some.recording.now in
    let i = item_seen r.bytes r.uniforms c.in-Some.item.now in
    let plain : is_plain i ≡ true = subst (λ (sets : List UniformSet). is_plain (item_seen r.bytes sets c.in-Some.item.now) ≡ true) c.as_slice.ensures (sym (c.is_plain.ensures r.bytes) ∙ c.if-not-is_plain.false) in
    IfOk-weaker c.push_draw.result _ _
    (λ done lacks missing there. entry-lacks (looked s) (recorded_in s) (entry_seen c.args.entry) r.encoder i c.in-Some-clash_of.mark c.in-Some.ensures.content c.in-Some.ensures.own.0 c.in-Some-clash_of.ensures plain (lacks missing) there) c.push_draw.ensures.lacks

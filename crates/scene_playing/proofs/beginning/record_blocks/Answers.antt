use Rattle.std.proofs.Common.{ℕ, sym, subst}
use Rattle.scene_playing.proofs.Collecting.{off_begun}
use Rattle.scene_playing.proofs.beginning.record_blocks.Goals as goal

pub returns-clause-owes : goal.returns-clause-owes
returns-clause-owes g c =
    let off = off_begun g.C.Naming.admits g.C.Naming.views c.args.context.now c.begin_all-all.new.context c.tell_facts.ensures.keeps c.tell_facts-2.ensures.keeps c.requires.none c.begin_all-all.ensures.same in
    subst (λ (n : ℕ). g.W.Recorders.owes c.work.new.self n) (sym off) (c.work.ensures c.begin_all-all.new.context.begun c.begin_all-all.ensures.owes)

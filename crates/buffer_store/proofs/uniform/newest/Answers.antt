use Rattle.std.proofs.Common.{arith, subst, sym, ◌∙◌, ◌<◌, ◌≡◌, length}
use Rattle.gfx_words.specs.Seen.{uniform_seen}
use Rattle.buffer_store.specs.Search.{IsFound}
use Rattle.buffer_store.proofs.SearchLaws.{found_kept, found_next, found_all}
use Rattle.buffer_store.proofs.uniform.newest.Goals as goal
use Rattle.buffer_store.proofs.uniform.newest.Goals.{then-takes_over, else-takes_over}

pub loop-index-preserved : goal.loop-index-preserved
loop-index-preserved c =
    let lt : c.loop-index.index < length c.args.uniforms.now = omega (arith, c.loop-index-test.true, c.requires.within) in
    elim c.if-takes_over.branch [
      | then-takes_over w ↦ rw w.best-is
          (found_next c.args.name.now (uniform_seen c.args.kind) c.args.uniforms.now c.loop-index.index c.loop-index.best lt (sym c.takes_over.ensures ∙ w.if-takes_over.true) c.loop-index.invariant)
      | else-takes_over w ↦ rw w.best-is
          (found_kept c.args.name.now (uniform_seen c.args.kind) c.args.uniforms.now c.loop-index.index c.loop-index.best lt (sym c.takes_over.ensures ∙ w.if-takes_over.false) c.loop-index.invariant)
    ]

pub returns : goal.returns
returns c =
    let done : c.loop-index.index ≡ c.args.end = omega (arith, c.loop-index-test.false, c.loop-index.auto.index-end) in
    found_all c.args.name.now (uniform_seen c.args.kind) c.args.uniforms.now c.args.end c.loop-index.best c.requires.within c.requires.empty
    (subst (λ n. IsFound c.args.name.now (uniform_seen c.args.kind) c.args.uniforms.now n c.loop-index.best) done c.loop-index.invariant)

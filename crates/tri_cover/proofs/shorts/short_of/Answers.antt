use Rattle.std.proofs.Common.{refl}
use Rattle.tri_cover.specs.declared.shorts.Short.{Short}
use Rattle.tri_cover.proofs.Shortened.{free_short}
use Rattle.tri_cover.proofs.shorts.short_of.Goals as goal

pub returns-then-is_free : goal.returns-then-is_free
returns-then-is_free c =
    let s : Short = record { at = 4294967295; step = 0 } in
    free_short c.args.bound.now s refl refl (c.is_free.ensures c.if-is_free.true)

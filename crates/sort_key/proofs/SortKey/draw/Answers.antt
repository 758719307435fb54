use Rattle.std.proofs.Common.{if◌then◌else◌, sym, subst, arith}
use Rattle.gfx_words.specs.Seen.{mode_seen}
use Rattle.sort_key.specs.Fields.{IsKeyFields, IsKey}
use Rattle.sort_key.specs.Seen.{fields_seen}
use Rattle.sort_key.proofs.Again.{IsKey-from, IsKeyFields-key_fields, one_bit}
use Rattle.sort_key.proofs.SortKey.draw.Goals as goal

pub invariant_of-result : goal.invariant_of-result
invariant_of-result c =
    let fit : IsKeyFields (fields_seen c.fields-key.result)
    = subst IsKeyFields (sym c.fields-key.ensures)
    (IsKeyFields-key_fields (mode_seen c.args.mode) c.args.position (if c.args.blended then 1 else 0) c.args.program c.args.depth c.args.number
    c.requires.position (one_bit c.args.blended) c.requires.program c.ranges.depth.fits c.requires.number) in
    subst IsKey (omega (arith, fit.position, fit.mode_type, c.low_bits.ensures)) (IsKey-from (fields_seen c.fields-key.result) fit)

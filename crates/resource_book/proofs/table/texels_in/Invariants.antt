use Rattle.std.proofs.Common.{◌≡◌, ◌≤◌, ◌*◌, take}
use Rattle.resource_book.specs.Seen.{rows_seen}
use Rattle.resource_book.specs.Tables.{texels_of, most_texels}
use Rattle.resource_book.proofs.table.texels_in.Given as goal

abbrev pub invariant-loop-i : goal.invariant-loop-i
invariant-loop-i l = record {
  sum : l.texels ≡ texels_of (rows_seen (take l.i l.rows));
  most : l.texels ≤ most_texels * l.i;
}

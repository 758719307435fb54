use Rattle.std.proofs.Common.{◌≡◌, ◌*◌, ◌/◌, true, length, sym, ap, ◌∙◌, arith}
use Rattle.std.specs.Prelude.{◌==◌}
use Rattle.std.proofs.lemmas.Bool.{eqb-true}
use Rattle.std.proofs.lemmas.List.FromFn.{length-map-range_with_len}
use Rattle.gfx_model.specs.Resources.{source_fits}
use Rattle.gfx_model.specs.World.{texel_in}
use Rattle.texture_store.specs.Seen.{source_seen}
use Rattle.texture_store.proofs.pictures.made_of.Goals as goal

pub from_parts-requires-clause-whole : goal.from_parts-requires-clause-whole
from_parts-requires-clause-whole c =
    let bytes = c.in-Bytes.bytes.now in
    let fits : (length c.in-Bytes.bytes.now == 4 * (c.args.width * c.args.height)) ≡ true = sym (ap (λ s. source_fits c.args.width c.args.height (source_seen s)) c.in-Bytes.is) ∙ c.requires.enough in
    let size : length c.in-Bytes.bytes.now ≡ 4 * (c.args.width * c.args.height) = eqb-true (length bytes) (4 * (c.args.width * c.args.height)) fits in
    let many : length c.in-Bytes.bytes.now / 4 ≡ c.args.width * c.args.height = omega (arith, size) in
    ap length c.from_vec.ensures ∙ ap length c.in_ok-list-in-Bytes.ensures ∙ length-map-range_with_len (texel_in bytes) 0 (length bytes / 4) ∙ many

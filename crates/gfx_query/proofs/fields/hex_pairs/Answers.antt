use Rattle.std.proofs.Common.{◌≡◌, ◌++◌, ◌∷◌, [], length, ap, sym, ◌∙◌, arith}
use Rattle.std.proofs.lemmas.List.{take_rest, length-append, length-drop}
use Rattle.scene_model.specs.Field.{hex_pairs}
use Rattle.gfx_query.specs.Text.{some_read}
use Rattle.gfx_query.proofs.Hex.{behind, pair_step}
use Rattle.gfx_query.proofs.fields.hex_pairs.Goals as goal

pub loop-rest-preserved : goal.loop-rest-preserved
loop-rest-preserved c =
    let xs = c.loop-rest.rest.now in
    let front = c.loop-rest.bytes.items in
    let v = c.in-Some.byte in
    let push : c.push.new.self.items ≡ front ++ v ∷ [] = c.in_ok-push-in-Some.ensures.items in
    record {
      left = pair_step front xs _ v c.in-len2-up.len_at_least (sym c.hex_byte.ensures ∙ c.in-Some.is) c.loop-rest.invariant.left
          ∙ (λ i. behind (sym push i) (some_read (hex_pairs (sym (take_rest xs 2) i))));
      few = omega (arith, ap length push, length-append front (v ∷ []), ap length (take_rest xs 2), length-drop 2 xs, c.loop-rest.invariant.few, c.in-len2-up.len_at_least);
    }

use Rattle.std.proofs.Common.{rules, ◌≡◌, pos, [], ◌∷◌, FitsSigned, w32, ap, ◌∙◌, slice_index_or}
use Rattle.std.proofs.lemmas.Int.{to_z-of_z}
use Rattle.gfx_model.specs.Number.{at_least_zero, int_at}
use Rattle.gfx_model.specs.Raster.{weighted, weighted_number}
use Rattle.tri_cover.specs.Seen.{triangle_seen}
use Rattle.tri_cover.proofs.Means.{weighted_is}
use Rattle.tri_cover.proofs.triangles.Setup.at.Goals as goal

pub returns : goal.returns
returns c =
    let s = c.args.self.now in
    let t = triangle_seen s.a s.b s.c in
    let x = c.args.x in
    let y = c.args.y in
    let r = c.weights-by.result in
    let by = c.weights-by.ensures in
    let depth : c.mean_depth.result ≡ weighted_number t x y s.a.depth s.b.depth s.c.depth = c.mean_depth.ensures.value ∙ ap at_least_zero (weighted_is t x y r.a r.b r.c r.sum (pos s.a.depth) (pos s.b.depth) (pos s.c.depth) s.turned by.a by.b by.c by.sum) in
    let channel0 : c.mean_channel.result ≡ weighted_number t x y (slice_index_or s.a.color 0 0) (slice_index_or s.b.color 0 0) (slice_index_or s.c.color 0 0) = (c.mean_channel.ensures ∙ ap at_least_zero (weighted_is t x y r.a r.b r.c r.sum (pos (slice_index_or s.a.color 0 0)) (pos (slice_index_or s.b.color 0 0)) (pos (slice_index_or s.c.color 0 0)) s.turned by.a by.b by.c by.sum)) in
    let channel1 : c.mean_channel-2.result ≡ weighted_number t x y (slice_index_or s.a.color 1 0) (slice_index_or s.b.color 1 0) (slice_index_or s.c.color 1 0) = (c.mean_channel-2.ensures ∙ ap at_least_zero (weighted_is t x y r.a r.b r.c r.sum (pos (slice_index_or s.a.color 1 0)) (pos (slice_index_or s.b.color 1 0)) (pos (slice_index_or s.c.color 1 0)) s.turned by.a by.b by.c by.sum)) in
    let channel2 : c.mean_channel-3.result ≡ weighted_number t x y (slice_index_or s.a.color 2 0) (slice_index_or s.b.color 2 0) (slice_index_or s.c.color 2 0) = (c.mean_channel-3.ensures ∙ ap at_least_zero (weighted_is t x y r.a r.b r.c r.sum (pos (slice_index_or s.a.color 2 0)) (pos (slice_index_or s.b.color 2 0)) (pos (slice_index_or s.c.color 2 0)) s.turned by.a by.b by.c by.sum)) in
    let channel3 : c.mean_channel-4.result ≡ weighted_number t x y (slice_index_or s.a.color 3 0) (slice_index_or s.b.color 3 0) (slice_index_or s.c.color 3 0) = (c.mean_channel-4.ensures ∙ ap at_least_zero (weighted_is t x y r.a r.b r.c r.sum (pos (slice_index_or s.a.color 3 0)) (pos (slice_index_or s.b.color 3 0)) (pos (slice_index_or s.c.color 3 0)) s.turned by.a by.b by.c by.sum)) in
    let g0a : FitsSigned w32 (int_at c.args.self.now.a.texcoord 0) = search rules in
    let g0b : FitsSigned w32 (int_at c.args.self.now.b.texcoord 0) = search rules in
    let g0c : FitsSigned w32 (int_at c.args.self.now.c.texcoord 0) = search rules in
    let f0 : FitsSigned w32 c.mean_place.result = search rules in
    let place0 : c.mean_place.result ≡ weighted t x y (int_at s.a.texcoord 0) (int_at s.b.texcoord 0) (int_at s.c.texcoord 0) = (simp to_z-of_z at c.mean_place.ensures) ∙ weighted_is t x y r.a r.b r.c r.sum (int_at s.a.texcoord 0) (int_at s.b.texcoord 0) (int_at s.c.texcoord 0) s.turned by.a by.b by.c by.sum in
    let g1a : FitsSigned w32 (int_at c.args.self.now.a.texcoord 1) = search rules in
    let g1b : FitsSigned w32 (int_at c.args.self.now.b.texcoord 1) = search rules in
    let g1c : FitsSigned w32 (int_at c.args.self.now.c.texcoord 1) = search rules in
    let f1 : FitsSigned w32 c.mean_place-2.result = search rules in
    let place1 : c.mean_place-2.result ≡ weighted t x y (int_at s.a.texcoord 1) (int_at s.b.texcoord 1) (int_at s.c.texcoord 1) = (simp to_z-of_z at c.mean_place-2.ensures) ∙ weighted_is t x y r.a r.b r.c r.sum (int_at s.a.texcoord 1) (int_at s.b.texcoord 1) (int_at s.c.texcoord 1) s.turned by.a by.b by.c by.sum in
    simp to_z-of_z (λ i. record { depth = depth i; color = channel0 i ∷ channel1 i ∷ channel2 i ∷ channel3 i ∷ []; texcoord = place0 i ∷ place1 i ∷ [] })

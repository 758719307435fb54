-- Triangles and instances one after the other.
use Rattle.std.proofs.Common.{◌≡◌, ℕ, ◌+◌, ◌==◌, if◌then◌else◌, true, false, length, List, [], ◌∷◌, ◌++◌, map, fold, flat_map, refl, ap, sym, ◌∙◌, arith}
use Rattle.std.proofs.lemmas.List.Folds.{fold-map}
use Rattle.std.proofs.lemmas.List.Sums.{fold-append}
use Rattle.gfx_model.specs.Number.{map_from}
use Rattle.std.specs.List.{range_with_len}
use Rattle.std.proofs.lemmas.List.{append-nil}
use Rattle.std.proofs.lemmas.List.FromFn.{map-range_with_len_more}
use Rattle.gfx_query.specs.Draws.{instances_of, transforms_in}
use Rattle.gfx_model.specs.Raster.{Affine, identity}
use Rattle.gfx_model.specs.World.{Facing}
use Rattle.gfx_model.proofs.PixelLaws.{fold-map_from}
use Rattle.tri_cover.specs.declared.triangles.Setup.{Setup}
use Rattle.gfx_query.specs.Counting.{Counted, fresh, counted_by, words_in}
use Rattle.gfx_query.specs.Standing.{Stand, place_change, facing_seen}

-- each triangle on all pixels, one after the other, is all triangles at each pixel
pub triangles_in_turn : (width state : ℕ) (fs : List Facing) (ps : List Counted) → fold (λ qs f. map_from (place_change width state f) 0 qs) ps fs ≡ counted_by width state fs ps
triangles_in_turn width state fs ps = fold-map_from (λ i p f. place_change width state f i p) fs 0 ps

pub setups_in_turn : (width state front back : ℕ) (ss : List Setup) (ps : List Counted) →
    fold (λ qs s. map_from (place_change width state (facing_seen front back s)) 0 qs) ps ss ≡ counted_by width state (map (facing_seen front back) ss) ps
setups_in_turn width state front back ss ps =
    sym (fold-map (λ qs f. map_from (place_change width state f) 0 qs) (facing_seen front back) ps ss)
    ∙ triangles_in_turn width state (map (facing_seen front back) ss) ps

-- two lists of triangles one after the other
counted_append : (width state : ℕ) (fs gs : List Facing) (ps : List Counted) → counted_by width state gs (counted_by width state fs ps) ≡ counted_by width state (fs ++ gs) ps
counted_append width state fs gs ps =
    sym (triangles_in_turn width state gs (counted_by width state fs ps))
    ∙ ap (λ qs. fold (λ qs f. map_from (place_change width state f) 0 qs) qs gs) (sym (triangles_in_turn width state fs ps))
    ∙ sym (fold-append (λ qs f. map_from (place_change width state f) 0 qs) ps fs gs)
    ∙ triangles_in_turn width state (fs ++ gs) ps

-- lists of triangles one after the other are all of them
pub lists_in_turn : {M : Type 0} (width state : ℕ) (h : M → List Facing) (ms : List M) (ps : List Counted) → fold (λ qs m. counted_by width state (h m) qs) ps ms ≡ counted_by width state (flat_map h ms) ps
lists_in_turn width state h [] ps = triangles_in_turn width state [] ps
lists_in_turn width state h (m ∷ ms) ps = lists_in_turn width state h ms (counted_by width state (h m) ps) ∙ counted_append width state (h m) (flat_map h ms) ps

fresh_words : (words : List ℕ) → words ≡ words_in (map fresh words)
fresh_words [] = refl
fresh_words (w ∷ ws) = ap (λ xs. w ∷ xs) (fresh_words ws)

fresh_sum : (n : ℕ) (words : List ℕ) → fold (λ a (p : Counted). a + p.passed) n (map fresh words) ≡ n
fresh_sum n [] = refl
fresh_sum n (w ∷ ws) = let none : n + 0 ≡ n = omega arith in ap (λ m. fold (λ a (p : Counted). a + p.passed) m (map fresh ws)) none ∙ fresh_sum n ws

-- before a draw nothing is counted
pub fresh_stand : (words : List ℕ) → Stand words 0 (map fresh words)
fresh_stand words = record { words_are = fresh_words words; passed_is = sym (fresh_sum 0 words) }

-- one instance more
pub instance_more : (width state : ℕ) (h : Affine → List Facing) (t : ℕ → Affine) (k : ℕ) (m : Affine) (ps : List Counted) → m ≡ t k →
    counted_by width state (h m) (fold (λ qs m. counted_by width state (h m) qs) ps (map t (range_with_len 0 k))) ≡ fold (λ qs m. counted_by width state (h m) qs) ps (map t (range_with_len 0 (k + 1)))
instance_more width state h t k m ps e =
    let step : List Counted → Affine → List Counted = λ qs m. counted_by width state (h m) qs in
    let before : List Affine = map t (range_with_len 0 k) in
    ap (λ x. counted_by width state (h x) (fold step ps before)) e
    ∙ sym (ap (fold step ps) (map-range_with_len_more t 0 k k (omega arith)) ∙ fold-append step ps before (t k ∷ []))

-- no transform is one instance
pub one_instance : (h : Affine → List Facing) (bytes : List ℕ) → (length bytes == 0) ≡ true → h identity ≡ flat_map h (instances_of bytes)
one_instance h bytes e = sym (append-nil (h identity)) ∙ ap (λ b. flat_map h (if b then identity ∷ [] else transforms_in bytes)) (sym e)

pub some_instances : (h : Affine → List Facing) (bytes : List ℕ) → (length bytes == 0) ≡ false → flat_map h (transforms_in bytes) ≡ flat_map h (instances_of bytes)
some_instances h bytes e = ap (λ b. flat_map h (if b then identity ∷ [] else transforms_in bytes)) (sym e)

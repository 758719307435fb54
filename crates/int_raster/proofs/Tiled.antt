-- Tiles: which stored depths they go over, and what they leave of a pixel.
use Rattle.std.proofs.Common.{◌≡◌, ◌≤◌, ◌<◌, ◌+◌, ◌-◌, ◌*◌, ◌/◌, ◌%◌, ◌^◌, ℕ, [], ◌∷◌, Bool, true, false, not, ◌&&◌, nat_le, nat_lt, if◌then◌else◌, slice_index, refl, sym, ap, ◌∙◌, arith}
use Rattle.std.specs.Prelude.{◌==◌}
use Rattle.std.proofs.lemmas.Bool.Decides.{nat_tests}
use Rattle.gfx_model.specs.Number.{u32_at}
use Rattle.gfx_model.specs.Vertex.{Color}
use Rattle.tri_cover.specs.declared.triangles.Setup.{Setup}
use Rattle.int_raster.specs.declared.lists.Prepared.{Prepared}
use Rattle.int_raster.specs.declared.opaque.Level.{Level}
use Rattle.int_raster.specs.declared.opaque.Tile.{Tile}
use Rattle.int_raster.specs.Places.{deep_pixel}
use Rattle.int_raster.specs.Painted.{bytes_of}
use Rattle.int_raster.specs.Rules.{IsLevel, IsTile, IsStored, by_order}
use Rattle.int_raster.specs.Seen.{step_seen}
use Rattle.int_raster.specs.Tiled.{word_bytes, deep_word, is_among}
use Rattle.int_raster.proofs.Vectors.{below_four}
use Rattle.int_raster.proofs.Tested.{plain_deep, stored_is}

-- the stored depths that a depth passes lie side by side, but where all pass except an equal one
pub order_is : (l e g : Bool) (d s : ℕ) → s < 16777216 → d ≤ 16777215 → (l && (g && not e)) ≡ false
    → (if nat_lt d s then l else (if d == s then e else g)) ≡ (nat_le (if g then 0 else (if e then d else d + 1)) s && nat_lt s (if l then 16777216 else (if e then d + 1 else d)))
order_is true true true d s small few h = grind (arith, nat_tests)
order_is true true false d s small few h = grind (arith, nat_tests)
order_is true false true d s small few h = cc
order_is true false false d s small few h = grind (arith, nat_tests)
order_is false true true d s small few h = grind (arith, nat_tests)
order_is false true false d s small few h = grind (arith, nat_tests)
order_is false false true d s small few h = grind (arith, nat_tests)
order_is false false false d s small few h = grind (arith, nat_tests)

pub some_among : (first after s : ℕ) → first < after → (nat_le first s && nat_lt s after) ≡ is_among first (after - first - 1) s
some_among first after s h = grind (arith, nat_tests)

pub none_among : (first after s : ℕ) → s < 16777216 → after ≤ first → (nat_le first s && nat_lt s after) ≡ is_among 16777216 0 s
none_among first after s small h = grind (arith, nat_tests)

pub splat_lane : (n j : ℕ) → j < 4 → slice_index (n ∷ n ∷ n ∷ n ∷ []) j ≡ n
splat_lane n = below_four (λ j. slice_index (n ∷ n ∷ n ∷ n ∷ []) j ≡ n) refl refl refl refl

-- a texel of a lane that is one of the first
pub lane_stored : (b a : Bool) (new old lane n : ℕ) (texel before : Color) → b ≡ true → texel ≡ word_bytes lane → lane ≡ (if b && a then new else old) → new ≡ n → word_bytes old ≡ before
    → texel ≡ (if a then word_bytes n else before)
lane_stored true true new old lane n texel before h e f g k = e ∙ ap word_bytes f ∙ ap word_bytes g
lane_stored true false new old lane n texel before h e f g k = e ∙ ap word_bytes f ∙ k
lane_stored false a new old lane n texel before h e f g k = cc

-- the same where what is stored depends on the lane
pub lane_over : (b a : Bool) (new old lane : ℕ) (texel over before : Color) → b ≡ true → texel ≡ word_bytes lane → lane ≡ (if b && a then new else old) → word_bytes new ≡ over → word_bytes old ≡ before
    → texel ≡ (if a then over else before)
lane_over true true new old lane texel over before h e f g k = e ∙ ap word_bytes f ∙ g
lane_over true false new old lane texel over before h e f g k = e ∙ ap word_bytes f ∙ k
lane_over false a new old lane texel over before h e f g k = cc

-- a texel of another lane
pub lane_kept : (b a : Bool) (new old lane : ℕ) (texel before : Color) → b ≡ false → texel ≡ word_bytes lane → lane ≡ (if b && a then new else old) → word_bytes old ≡ before
    → texel ≡ before
lane_kept true a new old lane texel before h e f k = cc
lane_kept false a new old lane texel before h e f k = e ∙ ap word_bytes f ∙ k

-- a depth word of a lane that is one of the first
pub lane_deep : (b : Bool) (a : ℕ → Bool) (f : ℕ → ℕ) (new old lane word n : ℕ) → b ≡ true → word ≡ lane → lane ≡ (if b && a old then new else old) → new ≡ f old → old ≡ n
    → word ≡ (if a n then f n else n)
lane_deep b a f new old lane word n h e k g s =
    e ∙ k ∙ (λ i. if h i && a (s i) then (g ∙ ap f s) i else s i)

-- the depth word that a tile leaves, its stencil kept
pub word_of_two : (p w : Bool) (new depth word : ℕ) → new ≡ (if w then depth else word % 2 ^ 24) + 2 ^ 24 * (word / 2 ^ 24)
    → (if p then new else word) ≡ (if p && w then depth else word % 2 ^ 24) + 2 ^ 24 * (word / 2 ^ 24)
word_of_two true w new depth word e = e
word_of_two false w new depth word e = omega arith

-- what a tile leaves of a covered pixel is the pixel after its triangle
pub tiled_deep : (t : Tile) (l : Level) (d : Prepared) (s : Setup) (x y : ℕ) (old deep color z : Color) → IsLevel l d s → IsTile t l.color l.depth l.rule
    → u32_at deep 0 < 2 ^ 32 → IsStored t old deep color z → deep_pixel color z ≡ step_seen d s x y (deep_pixel old deep)
tiled_deep t l d s x y old deep color z level tile few stored =
    let word = u32_at deep 0 in
    let among = is_among t.least t.more (word % 2 ^ 24) in
    let pass = by_order l.rule l.depth (word % 2 ^ 24) in
    let test : among ≡ pass = sym (tile.test (word % 2 ^ 24) (omega arith)) in
    let bytes : word_bytes t.color ≡ bytes_of l.color = ap bytes_of tile.color in
    let hc : color ≡ (if pass then bytes_of l.color else old) = stored.0 ∙ (λ i. if test i then bytes i else old) in
    let hk : u32_at z 0 ≡ (if pass && l.rule.writes then l.depth else word % 2 ^ 24) + 2 ^ 24 * (word / 2 ^ 24) =
    stored.1 ∙ ap (λ b. if b then deep_word t.bits t.depth word else word) test ∙ word_of_two pass l.rule.writes (deep_word t.bits t.depth word) l.depth word (tile.stores word few) in
    plain_deep l.rule d s x y word (u32_at z 0) l.depth l.color old color deep z level.plain refl refl (level.paints x y) (level.depths x y)
    (stored_is l.rule d.state word l.depth (u32_at z 0) old l.color color pass (pass && l.rule.writes) level.plain.opaque level.plain.rule refl refl hc hk)

-- A content among things, one of which is changed.
use Rattle.std.proofs.Common.{◌≡◌, ◌≢◌, ℕ, Bool, true, false, cond, eqb, List, [], ◌∷◌, Option, Some, None, refl, sym, ap, ◌∙◌}
use Rattle.std.proofs.lemmas.Bool.{eqb-true, ne_eqb}
use Rattle.std.proofs.lemmas.Option.{none-some, same_Some}
use Rattle.std.specs.Prelude.{option_map}
use Rattle.gfx_model.specs.Words.{UniformValue}
use Rattle.gfx_model.specs.Raster.{Texels}
use Rattle.gfx_model.specs.World.{Content, layout_content, vertex_content, index_content, texture_content, frame_buffer_content, program_content, uniform_content, content_in, change_thing, with_texels, with_value, texels_of}

pub in-changed : (g : Content → Content) (n : ℕ) (ts : List (ℕ × Content)) → content_in (change_thing g n ts) n ≡ option_map g (content_in ts n)
in-changed g n [] = refl
in-changed g n (t ∷ ts) = go (eqb t.0 n) refl (in-changed g n ts)
  where
    go : (b : Bool) → eqb t.0 n ≡ b → content_in (change_thing g n ts) n ≡ option_map g (content_in ts n) → content_in (cond b ((t.0, g t.1) ∷ ts) (t ∷ change_thing g n ts)) n ≡ option_map g (cond b (Some t.1) (content_in ts n))
    go true e rest = rw e refl
    go false e rest = rw e rest

pub in-beside : (g : Content → Content) (n m : ℕ) (ts : List (ℕ × Content)) → m ≢ n → content_in (change_thing g n ts) m ≡ content_in ts m
in-beside g n m [] ne = refl
in-beside g n m (t ∷ ts) ne = go (eqb t.0 n) refl (in-beside g n m ts ne)
  where
    go : (b : Bool) → eqb t.0 n ≡ b → content_in (change_thing g n ts) m ≡ content_in ts m → content_in (cond b ((t.0, g t.1) ∷ ts) (t ∷ change_thing g n ts)) m ≡ content_in (t ∷ ts) m
    go true e rest =
        let other : eqb t.0 m ≡ false = ne_eqb t.0 m (λ same. ne (sym same ∙ eqb-true t.0 n e)) in
        rw other refl
    go false e rest = ap (λ o. cond (eqb t.0 m) (Some t.1) o) rest

-- a content that a change leaves as it is stays
pub in-kept : (g : Content → Content) (c : Content) (n m : ℕ) (ts : List (ℕ × Content)) → g c ≡ c → content_in ts m ≡ Some c → content_in (change_thing g n ts) m ≡ Some c
in-kept g c n m [] fix is = is
in-kept g c n m (t ∷ ts) fix is = go (eqb t.0 n) (eqb t.0 m) refl is (in-kept g c n m ts fix)
  where
    go : (a b : Bool) → eqb t.0 m ≡ b → cond b (Some t.1) (content_in ts m) ≡ Some c → (content_in ts m ≡ Some c → content_in (change_thing g n ts) m ≡ Some c)
        → content_in (cond a ((t.0, g t.1) ∷ ts) (t ∷ change_thing g n ts)) m ≡ Some c
    go true true e it rest = rw e (ap (λ u. Some (g u)) (same_Some t.1 c it) ∙ ap Some fix)
    go true false e it rest = rw e it
    go false true e it rest = rw e it
    go false false e it rest = rw e (rest it)

-- ---- texels

-- a change that leaves the texels of each content
abbrev pub KeepsTexels : (Content → Content) → Type 0
KeepsTexels g = (c : Content) → texels_of (Some (g c)) ≡ texels_of (Some c)

pub texels-kept : (g : Content → Content) → KeepsTexels g → (n m : ℕ) (ts : List (ℕ × Content)) → texels_of (content_in (change_thing g n ts) m) ≡ texels_of (content_in ts m)
texels-kept g keeps n m [] = refl
texels-kept g keeps n m (t ∷ ts) = go (eqb t.0 n) (eqb t.0 m) refl (texels-kept g keeps n m ts)
  where
    go : (a b : Bool) → eqb t.0 m ≡ b → texels_of (content_in (change_thing g n ts) m) ≡ texels_of (content_in ts m)
        → texels_of (content_in (cond a ((t.0, g t.1) ∷ ts) (t ∷ change_thing g n ts)) m) ≡ texels_of (cond b (Some t.1) (content_in ts m))
    go true true e rest = rw e (keeps t.1)
    go true false e rest = rw e refl
    go false true e rest = rw e refl
    go false false e rest = rw e rest

pub value-texels : (v : UniformValue) → KeepsTexels (with_value v)
value-texels v (layout_content l) = refl
value-texels v (vertex_content l bytes) = refl
value-texels v (index_content bytes) = refl
value-texels v (texture_content f t) = refl
value-texels v (frame_buffer_content color depth) = refl
value-texels v (program_content k) = refl
value-texels v (uniform_content name old) = refl

-- a texture's texels are those that it was given
replaced : (x t : Texels) (o : Option Content) → texels_of o ≡ Some t → texels_of (option_map (with_texels x) o) ≡ Some x
replaced x t None is = absurd (none-some t is)
replaced x t (Some (layout_content l)) is = absurd (none-some t is)
replaced x t (Some (vertex_content l bytes)) is = absurd (none-some t is)
replaced x t (Some (index_content bytes)) is = absurd (none-some t is)
replaced x t (Some (texture_content f old)) is = refl
replaced x t (Some (frame_buffer_content color depth)) is = absurd (none-some t is)
replaced x t (Some (program_content k)) is = absurd (none-some t is)
replaced x t (Some (uniform_content name v)) is = absurd (none-some t is)

pub texels-changed : (x t : Texels) (n : ℕ) (ts : List (ℕ × Content)) → texels_of (content_in ts n) ≡ Some t → texels_of (content_in (change_thing (with_texels x) n ts) n) ≡ Some x
texels-changed x t n ts is = ap texels_of (in-changed (with_texels x) n ts) ∙ replaced x t (content_in ts n) is

pub texels-beside : (x : Texels) (n m : ℕ) (ts : List (ℕ × Content)) → m ≢ n → texels_of (content_in (change_thing (with_texels x) n ts) m) ≡ texels_of (content_in ts m)
texels-beside x n m ts ne = ap texels_of (in-beside (with_texels x) n m ts ne)

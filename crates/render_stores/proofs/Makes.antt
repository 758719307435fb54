-- What creates and updates make of the stores.
use Rattle.std.proofs.Common.{◌≡◌, ℕ, Bool, true, false, List, Option, Some, None, refl, sym, ap, ◌∙◌}
use Rattle.std.specs.Prelude.{if◌then◌else◌, not, option_map, is_some, is_none, IsSome, IfSome}
use Rattle.gfx_model.specs.Words.{Format}
use Rattle.gfx_model.specs.Vertex.{Layout}
use Rattle.gfx_model.specs.Resources.{TexelSource, Refusal, first_refusal, texels_from}
use Rattle.store_model.specs.Slots.{filled_at}
use Rattle.store_model.specs.Buffers.{Buffers, new_vertices}
use Rattle.store_model.specs.Textures.{Textures, new_texture, create_refusals}
use Rattle.store_laws.specs.ByIndex.{vertices_made, texture_made}
use Rattle.render_stores.specs.Free.{is_free}

pub there_is : {X Y : Type 0} (f : Y → X) (o : Option Y) (p : Option X) (b : Bool) → is_some o ≡ not b → option_map f o ≡ p → b ≡ false → IsSome p
there_is f None p true e h is = cc is
there_is f None p false e h is = cc e
there_is f (Some y) None b e h is = cc h
there_is f (Some y) (Some x) b e h is = refl

pub vertices_is : (o : Option Layout) (index : ℕ) (bytes : List ℕ) (old new : Buffers) → IfSome o (λ l. new ≡ record old { vertices = filled_at index (new_vertices l bytes) old.vertices })
    → is_free index old.vertices ≡ true → IsSome o → new ≡ vertices_made index o (Some bytes) old
vertices_is None index bytes old new made free some = cc some
vertices_is (Some l) index bytes old new made free some =
    made ∙ sym (λ i. record old { vertices = if free i then filled_at index (new_vertices l bytes) old.vertices else old.vertices })

pub vertices_kept : (o : Option Layout) (index : ℕ) (bytes : List ℕ) (old : Buffers) → is_free index old.vertices ≡ false → old ≡ vertices_made index o (Some bytes) old
vertices_kept None index bytes old free = refl
vertices_kept (Some l) index bytes old free = sym (λ i. record old { vertices = if free i then filled_at index (new_vertices l bytes) old.vertices else old.vertices })

pub texture_is : (index width height : ℕ) (f : Format) (s : TexelSource) (old new : Textures) → first_refusal (create_refusals width height s) ≡ None → is_free index old.textures ≡ true
    → new ≡ record old { textures = filled_at index (new_texture f (texels_from width height s)) old.textures } → new ≡ texture_made index width height (Some f) (Some s) old
texture_is index width height f s old new fits free made =
    made ∙ sym (λ i. if is_none (fits i) then record old { textures = if free i then filled_at index (new_texture f (texels_from width height s)) old.textures else old.textures } else old)

pub texture_refused : (index width height : ℕ) (f : Format) (s : TexelSource) (r : Option Refusal) (old new : Textures) → r ≡ first_refusal (create_refusals width height s) → is_none r ≡ false → new ≡ old
    → new ≡ texture_made index width height (Some f) (Some s) old
texture_refused index width height f s r old new first some same =
    let refused : is_none (first_refusal (create_refusals width height s)) ≡ false = ap is_none (sym first) ∙ some in
    same ∙ sym (λ i. if refused i then record old { textures = if is_free index old.textures then filled_at index (new_texture f (texels_from width height s)) old.textures else old.textures } else old)

pub texture_kept : (index width height : ℕ) (f : Format) (s : TexelSource) (old : Textures) → is_free index old.textures ≡ false → old ≡ texture_made index width height (Some f) (Some s) old
texture_kept index width height f s old free = sym (go (is_none (first_refusal (create_refusals width height s))))
  where
    go : (b : Bool) → (if b then record old { textures = if is_free index old.textures then filled_at index (new_texture f (texels_from width height s)) old.textures else old.textures } else old) ≡ old
    go true = λ i. record old { textures = if free i then filled_at index (new_texture f (texels_from width height s)) old.textures else old.textures }
    go false = refl

pub vertices_without : {Y : Type 0} (f : Y → Layout) (o : Option Y) (p : Option Layout) (b : Bool) (index : ℕ) (bytes : List ℕ) (old : Buffers) → is_some o ≡ not b → option_map f o ≡ p → b ≡ true
    → old ≡ vertices_made index p (Some bytes) old
vertices_without f None None b index bytes old e h is = refl
vertices_without f None (Some l) b index bytes old e h is = cc h
vertices_without f (Some y) None b index bytes old e h is = cc h
vertices_without f (Some y) (Some l) true index bytes old e h is = cc e
vertices_without f (Some y) (Some l) false index bytes old e h is = cc is

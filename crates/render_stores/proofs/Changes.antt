-- Creates that change the stores.
use Rattle.std.proofs.Common.{◌≡◌, ◌≢◌, ℕ, ◌<◌, true, List, length, Option, Some, None, refl, sym, ap, ◌∙◌}
use Rattle.std.specs.Prelude.{if◌then◌else◌, is_none, IsSome}
use Rattle.std.proofs.lemmas.List.{get_or-set_same}
use Rattle.std.proofs.lemmas.Option.{none-some, unwrap_or-slice_get}
use Rattle.gfx_model.specs.Words.{Format, UniformKind}
use Rattle.gfx_model.specs.Vertex.{Layout}
use Rattle.gfx_model.specs.Resources.{TexelSource, first_refusal, texels_from}
use Rattle.store_model.specs.Slots.{at, filled_at}
use Rattle.store_model.specs.Buffers.{Buffers, new_vertices, new_uniform}
use Rattle.store_model.specs.Textures.{Textures, new_texture, create_refusals}
use Rattle.store_laws.specs.ByIndex.{Stores, with_buffers, with_textures, newly_filled, vertices_made, indices_made, uniform_made, texture_made}
use Rattle.render_stores.specs.Free.{is_free}
use Rattle.render_stores.proofs.Frees.{free_below, free_none}

-- something in a slot that had nothing
newly_changes : {X : Type 0} (i : ℕ) (x : X) (slots : List (Option X)) → is_free i slots ≡ true → newly_filled i x slots ≢ slots
newly_changes i x slots free same =
    let filled : filled_at i x slots ≡ slots = sym (λ j. if free j then filled_at i x slots else slots) ∙ same in
    let now : at (filled_at i x slots) i ≡ Some x = unwrap_or-slice_get (filled_at i x slots) i None ∙ get_or-set_same slots i (Some x) None (free_below i (length slots) slots refl free) in
    none-some x (sym (free_none i slots free) ∙ ap (λ s. at s i) (sym filled) ∙ now)

pub vertices_change : (o : Option Layout) (index : ℕ) (bytes : List ℕ) (old : Buffers) → is_free index old.vertices ≡ true → IsSome o → vertices_made index o (Some bytes) old ≢ old
vertices_change None index bytes old free some same = cc some
vertices_change (Some l) index bytes old free some same = newly_changes index (new_vertices l bytes) old.vertices free (ap (λ (b : Buffers). b.vertices) same)

pub indices_change : (index : ℕ) (bytes : List ℕ) (old : Buffers) → is_free index old.indices ≡ true → indices_made index (Some bytes) old ≢ old
indices_change index bytes old free same = newly_changes index bytes old.indices free (ap (λ (b : Buffers). b.indices) same)

pub uniform_change : (index serial : ℕ) (kind : UniformKind) (name : List ℕ) (old : Buffers) → is_free index old.uniforms ≡ true → uniform_made index serial (Some kind) (Some name) old ≢ old
uniform_change index serial kind name old free same = newly_changes index (new_uniform serial kind name) old.uniforms free (ap (λ (b : Buffers). b.uniforms) same)

pub texture_change : (index width height : ℕ) (f : Format) (s : TexelSource) (old : Textures) → first_refusal (create_refusals width height s) ≡ None → is_free index old.textures ≡ true
    → texture_made index width height (Some f) (Some s) old ≢ old
texture_change index width height f s old fits free same =
    let new = newly_filled index (new_texture f (texels_from width height s)) old.textures in
    newly_changes index (new_texture f (texels_from width height s)) old.textures free
    (ap (λ (t : Textures). t.textures) (sym (λ i. if is_none (fits i) then record old { textures = new } else old) ∙ same))

-- the stores have changed where a part of them has
pub buffers_change : (h : Stores) (b : Buffers) → b ≢ h.buffers → with_buffers h b ≢ h
buffers_change h b ne same = ne (ap (λ (s : Stores). s.buffers) same)

pub textures_change : (h : Stores) (t : Textures) → t ≢ h.textures → with_textures h t ≢ h
textures_change h t ne same = ne (ap (λ (s : Stores). s.textures) same)

-- What a shown frame is in the definitions.
use Rattle.std.proofs.Common.{◌≡◌, ◌<◌, ℕ, List, [], ◌∷◌, length, Option, Some, None, refl, sym, ap, subst, ◌∙◌, arith}
use Rattle.io_edge.specs.Edge.{with_back}
use Rattle.gfx_model.specs.Raster.{Texels}
use Rattle.gfx_model.specs.Words.{Kind, layout_kind, vertex_buffer_kind, index_buffer_kind, texture_kind, frame_buffer_kind, program_kind, uniform_kind, kind_of_number}
use Rattle.gfx_model.specs.Commands.{Command, create_layout_command, create_vertex_buffer_command, create_index_buffer_command, create_texture_command, create_frame_buffer_command, create_program_command, create_uniform_command, update_buffer_command, update_texture_command, destroy_command}
use Rattle.gfx_model.specs.World.{World, FrameContent, frame_step}
use Rattle.scene_model.specs.Output.{picture_text}
use Rattle.store_laws.specs.ByIndex.{Stores, all_commanded, after_command, destroyed_by, FrameData, frame_by_index, drawn_by_index}
use Rattle.store_laws.specs.Laws.{FrameLaw}
use Rattle.store_laws.specs.Says.{StandsFor, Says, left}
use Rattle.frame_record.specs.declared.frame.Outcome.{Outcome}
use Rattle.frame_record.specs.declared.frame.Outcome.TheVariants as outcomes
use Rattle.render_core.specs.Outcomes.{IsShown}
use Rattle.render_core.specs.Shown.{StoresAfter, HeldAfter}

pub stores_if : (o : Outcome) (old new : Stores) (f : FrameData) → StoresAfter o old f new → IsShown o → new ≡ frame_by_index old f
stores_if outcomes.Shown old new f k s = k
stores_if outcomes.PictureFault old new f k s = cc s
stores_if outcomes.OutOfMemory old new f k s = cc s
stores_if outcomes.Skipped old new f k s = cc s

pub held_if : (o : Outcome) (text : List ℕ) (old new : Option (List ℕ)) → HeldAfter o text old new → IsShown o → new ≡ with_back old text
held_if outcomes.Shown text old new k s = k
held_if outcomes.PictureFault text old new k s = cc s
held_if outcomes.OutOfMemory text old new k s = cc s
held_if outcomes.Skipped text old new k s = cc s

pub stands_after : FrameLaw → (o : Outcome) (h new : Stores) (f : FrameData) → StoresAfter o h f new
    → (place : ℕ → ℕ) (w : World) (content : FrameContent) (gone : List ℕ) → StandsFor place h (left content.gone w) → Says place w f content gone → IsShown o
    → StandsFor place new (left gone (frame_step w content))
stands_after law o h new f k place w content gone s says shown =
    let P : Stores → Type 0 = λ x. StandsFor place x (left gone (frame_step w content)) in
    subst P (sym (stores_if o h new f k shown)) (law place h w f content gone s says).1

back_destroyed : (k : Option Kind) (index : ℕ) (h : Stores) → (destroyed_by k index h).back ≡ h.back
back_destroyed None index h = refl
back_destroyed (Some layout_kind) index h = refl
back_destroyed (Some vertex_buffer_kind) index h = refl
back_destroyed (Some index_buffer_kind) index h = refl
back_destroyed (Some texture_kind) index h = refl
back_destroyed (Some frame_buffer_kind) index h = refl
back_destroyed (Some program_kind) index h = refl
back_destroyed (Some uniform_kind) index h = refl

back_after : (payloads : List (List ℕ)) (h : Stores) (c : Command) → (after_command payloads h c).back ≡ h.back
back_after payloads h (create_layout_command index l) = refl
back_after payloads h (create_vertex_buffer_command index layout payload) = refl
back_after payloads h (create_index_buffer_command index payload) = refl
back_after payloads h (create_texture_command index width height format destination source value) = refl
back_after payloads h (create_frame_buffer_command index color depth) = refl
back_after payloads h (create_program_command index kind) = refl
back_after payloads h (create_uniform_command index serial kind payload) = refl
back_after payloads h (update_buffer_command kind index offset payload) = refl
back_after payloads h (update_texture_command index x y w high payload) = refl
back_after payloads h (destroy_command kind index) = back_destroyed (kind_of_number kind) index h

-- commands leave the back buffer
pub back_commanded : (payloads : List (List ℕ)) (h : Stores) (cs : List Command) → (all_commanded payloads h cs).back ≡ h.back
back_commanded payloads h [] = refl
back_commanded payloads h (c ∷ cs) = back_commanded payloads (after_command payloads h c) cs ∙ back_after payloads h c

pub picture_after : FrameLaw → (o : Outcome) (h new : Stores) (f : FrameData) (held after : Option (List ℕ)) → StoresAfter o h f new → HeldAfter o (picture_text new.back.color) held after
    → (place : ℕ → ℕ) (w : World) (content : FrameContent) (gone : List ℕ) → StandsFor place h (left content.gone w) → Says place w f content gone → IsShown o
    → after ≡ with_back held (picture_text (frame_step w content).back.color)
picture_after law o h new f held after k t place w content gone s says shown =
    held_if o (picture_text new.back.color) held after t shown
    ∙ ap (λ b. with_back held (picture_text b.color)) (ap (λ x. x.back) (stores_if o h new f k shown) ∙ back_commanded f.payloads (drawn_by_index h f) f.post ∙ (law place h w f content gone s says).0)

-- a picture's text has something
pub some_text : (t : Texels) → 0 < length (picture_text t)
some_text t = omega arith

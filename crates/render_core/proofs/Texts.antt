-- The texts of the pictures of frames, one behind the other.
use Rattle.std.proofs.Common.{◌≡◌, ℕ, List, [], ◌∷◌, ◌++◌, refl, sym, ap, ◌∙◌, append-nil}
use Rattle.std.specs.Prelude.{flat_map, fold}
use Rattle.std.proofs.lemmas.List.{map-append}
use Rattle.std.proofs.lemmas.List.Sums.{fold-append}
use Rattle.std.proofs.lemmas.Grind.{flat_map-append}
use Rattle.gfx_model.specs.Raster.{Texels}
use Rattle.scene_model.specs.Output.{picture_text}
use Rattle.store_laws.specs.ByIndex.{Stores, FrameData, drawn_by_index, frame_by_index}
use Rattle.store_laws.specs.Run.{pictures_by_index}
use Rattle.frame_record.specs.declared.frame.RenderedFrame.{RenderedFrame}
use Rattle.render_core.specs.Ended.{pictures_seen, texts_seen}
use Rattle.render_core.specs.Laws.{frames_seen}
use Rattle.render_core.specs.Seen.{frame_seen}
use Rattle.render_core.proofs.Shows.{back_commanded}

-- the stores after frames
abbrev pub stores_seen_after : Stores → List RenderedFrame → Stores
stores_seen_after h rs = fold frame_by_index h (frames_seen rs)

-- the picture of a frame, and its text
abbrev pub picture_at : Stores → FrameData → Texels
picture_at h f = (drawn_by_index h f).back.color

abbrev pub text_at : Stores → FrameData → List ℕ
text_at h f = picture_text (picture_at h f)

frames_more : (rs : List RenderedFrame) (r : RenderedFrame) → frames_seen (rs ++ r ∷ []) ≡ frames_seen rs ++ frame_seen r.frame ∷ []
frames_more rs r = map-append (λ r. frame_seen r.frame) rs (r ∷ [])

by_index_more : (h : Stores) (fs : List FrameData) (f : FrameData) → pictures_by_index h (fs ++ f ∷ []) ≡ pictures_by_index h fs ++ picture_at (fold frame_by_index h fs) f ∷ []
by_index_more h [] f = refl
by_index_more h (g ∷ fs) f = ap (λ ts. picture_at h g ∷ ts) (by_index_more (frame_by_index h g) fs f)

-- one frame more: the stores, the pictures, the texts
pub stores_more : (h : Stores) (rs : List RenderedFrame) (r : RenderedFrame) → frame_by_index (stores_seen_after h rs) (frame_seen r.frame) ≡ stores_seen_after h (rs ++ r ∷ [])
stores_more h rs r = sym (fold-append frame_by_index h (frames_seen rs) (frame_seen r.frame ∷ [])) ∙ ap (fold frame_by_index h) (sym (frames_more rs r))

pub pictures_more : (h : Stores) (rs : List RenderedFrame) (r : RenderedFrame) → pictures_seen h rs ++ picture_at (stores_seen_after h rs) (frame_seen r.frame) ∷ [] ≡ pictures_seen h (rs ++ r ∷ [])
pictures_more h rs r = sym (by_index_more h (frames_seen rs) (frame_seen r.frame)) ∙ ap (pictures_by_index h) (sym (frames_more rs r))

pub texts_more : (h : Stores) (rs : List RenderedFrame) (r : RenderedFrame) → texts_seen h rs ++ text_at (stores_seen_after h rs) (frame_seen r.frame) ≡ texts_seen h (rs ++ r ∷ [])
texts_more h rs r =
    let t : Texels = picture_at (stores_seen_after h rs) (frame_seen r.frame) in
    ap (λ ys. texts_seen h rs ++ ys) (sym (append-nil (picture_text t)))
    ∙ sym (flat_map-append picture_text (pictures_seen h rs) (t ∷ []))
    ∙ ap (flat_map picture_text) (pictures_more h rs r)

-- the picture that a frame leaves
pub text_is : (h mid new : Stores) (f : FrameData) → mid ≡ h → new ≡ frame_by_index mid f → picture_text new.back.color ≡ text_at h f
text_is h mid new f was is = ap (λ x. picture_text x.back.color) (is ∙ ap (λ x. frame_by_index x f) was) ∙ ap (λ s. picture_text s.color) (back_commanded f.payloads (drawn_by_index h f) f.post)

-- The frames of a scene by index by a journal that has one entry.
use Rattle.std.proofs.Common.{◌≡◌, ◌∙◌, ℕ, zero, suc, ◌+◌, List, [], ◌∷◌, map, Option, Some, None, option_map, slice_get, refl, sym, ap}
use Rattle.std.specs.Prelude.{fold, take, filter}
use Rattle.std.specs.List.{list_any}
use Rattle.gfx_model.specs.World.{World, is_of_view, begin_frame, frame_step, FrameContent}
use Rattle.store_laws.specs.ByIndex.{Stores, FrameData, all_commanded, enter_by_index, frame_by_index}
use Rattle.scene_model.specs.Scene.{Scene, SceneFrame}
use Rattle.scene_model.specs.Fold.{Progress, at_start, after_lines, FramePlan}
use Rattle.scene_model.specs.Journal.{Entry, Journal, frame_content}
use Rattle.scene_laws.specs.SceneFrames.{frame_data, frames_from}
use Rattle.scene_laws.proofs.Pictures.{contents_from}
use Rattle.bare_worlds.specs.Bare.{bare_from, bare_after, begun_by}

-- a journal up to frame n, of which that has one entry, and those before have none
abbrev pub only : ℕ → Entry → Journal → Journal
only zero m [] = []
only zero m (entries ∷ j) = (m ∷ []) ∷ []
only (suc n) m [] = []
only (suc n) m (entries ∷ j) = [] ∷ only n m j

-- a frame by index without its items
abbrev pub bare : FrameData → FrameData
bare f = record f { items = []; ordered = [] }

none-entered : (vs : List ℕ) → filter (λ v. list_any (is_of_view v) []) vs ≡ []
none-entered [] = refl
none-entered (v ∷ vs) = none-entered vs

bare-step : (h : Stores) (f : FrameData) → frame_by_index h (bare f) ≡ bare_after h f
bare-step h f = ap (λ vs. all_commanded f.payloads (fold (enter_by_index f.views [] []) (begun_by h f) vs) f.post) (none-entered f.sequence)

bare-steps : (fs : List FrameData) (h : Stores) → fold frame_by_index h (map bare fs) ≡ fold bare_after h fs
bare-steps [] h = refl
bare-steps (f ∷ fs) h = ap (λ u. fold frame_by_index u (map bare fs)) (bare-step h f) ∙ bare-steps fs (bare_after h f)

-- ---- the frames of the scene

module _ (s : Scene) (m : Entry) where
  abbrev next : ℕ → Progress → SceneFrame → Progress
  next k p f = after_lines s.names (after_lines s.names (at_start k p) f.before) f.beside

  front-bare : (n k : ℕ) (p : Progress) (fs : List SceneFrame) (j : Journal) → take n (frames_from s k p fs (only n m j)) ≡ map bare (take n (frames_from s k p fs j))
  front-bare zero k p fs j = refl
  front-bare (suc n) k p [] j = refl
  front-bare (suc n) k p (f ∷ fs) [] = refl
  front-bare (suc n) k p (f ∷ fs) (entries ∷ j) = ap (λ (ds : List FrameData). bare (frame_data s k (at_start k p) f entries) ∷ ds) (front-bare n (k + 1) (next k p f) fs j)

  -- but for its items it is the frame that it was
  pub frame-kept : (n k : ℕ) (p : Progress) (fs : List SceneFrame) (j : Journal) → option_map bare (slice_get (frames_from s k p fs (only n m j)) n) ≡ option_map bare (slice_get (frames_from s k p fs j) n)
  frame-kept n k p [] j = refl
  frame-kept zero k p (f ∷ fs) [] = refl
  frame-kept zero k p (f ∷ fs) (entries ∷ j) = refl
  frame-kept (suc n) k p (f ∷ fs) [] = refl
  frame-kept (suc n) k p (f ∷ fs) (entries ∷ j) = frame-kept n (k + 1) (next k p f) fs j

  -- the stores before it
  pub stores-bare : (h : Stores) (n k : ℕ) (p : Progress) (fs : List SceneFrame) (j : Journal) → fold frame_by_index h (take n (frames_from s k p fs (only n m j))) ≡ fold bare_after h (take n (frames_from s k p fs j))
  stores-bare h n k p fs j = ap (fold frame_by_index h) (front-bare n k p fs j) ∙ bare-steps (take n (frames_from s k p fs j)) h

-- ---- the worlds

-- the worlds before frames, with what they are drawn from
abbrev pub moments_of : World → List FrameContent → List (World × FrameContent)
moments_of w [] = []
moments_of w (c ∷ cs) = (w, c) ∷ moments_of (frame_step w c) cs

-- the world before frame n, by that journal
pub record BegunAt (w : World) (ps : List FramePlan) (j : Journal) (m : Entry) (n : ℕ) (p : FramePlan) (u : World) : Type 0 where
  pub world : World
  pub at : slice_get (moments_of w (contents_from ps (only n m j))) n ≡ Some (world, frame_content p (m ∷ []))
  pub begins : u ≡ begin_frame p.gone p.changes world

some-same : {A : Type 0} (a b : A) → Some a ≡ Some b → a ≡ b
some-same a b is = cc is

pub begun-at : (n : ℕ) (w : World) (ps : List FramePlan) (j : Journal) (m : Entry) (p : FramePlan) (u : World) (entries : List Entry) → slice_get ps n ≡ Some p → slice_get (bare_from w ps) n ≡ Some u → slice_get j n ≡ Some entries
    → BegunAt w ps j m n p u
begun-at n w [] j m p u entries a b c = absurd (cc a)
begun-at zero w (q ∷ ps) [] m p u entries a b c = absurd (cc c)
begun-at zero w (q ∷ ps) (es ∷ j) m p u entries a b c = record {
  world = w;
  at = ap (λ (r : FramePlan). Some (with-world w (frame_content r (m ∷ [])))) (some-same q p a);
  begins = sym (some-same (begin_frame q.gone q.changes w) u b) ∙ ap (λ (r : FramePlan). begin_frame r.gone r.changes w) (some-same q p a);
}
  where
    with-world : World → FrameContent → World × FrameContent
    with-world v f = (v, f)
begun-at (suc n) w (q ∷ ps) [] m p u entries a b c = absurd (cc c)
begun-at (suc n) w (q ∷ ps) (es ∷ j) m p u entries a b c =
    let rest = begun-at n (frame_step w (frame_content q [])) ps j m p u entries a b c in
    record { world = rest.world; at = rest.at; begins = rest.begins }

-- a frame that the journal has, has entries
pub has-entries : (s : Scene) (n k : ℕ) (p : Progress) (fs : List SceneFrame) (j : Journal) (f : FrameData) → slice_get (frames_from s k p fs j) n ≡ Some f → (entries : List Entry) × (slice_get j n ≡ Some entries)
has-entries s n k p [] j f at = absurd (cc at)
has-entries s n k p (g ∷ fs) [] f at = absurd (cc at)
has-entries s zero k p (g ∷ fs) (entries ∷ j) f at = (entries, refl)
has-entries s (suc n) k p (g ∷ fs) (entries ∷ j) f at = has-entries s n (k + 1) (after_lines s.names (after_lines s.names (at_start k p) g.before) g.beside) fs j f at

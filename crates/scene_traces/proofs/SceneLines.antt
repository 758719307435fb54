-- The lines of a scene's frame by index.
use Rattle.std.proofs.Common.{◌≡◌, ◌∙◌, ℕ, zero, suc, ◌+◌, List, [], ◌∷◌, Option, Some, None, refl, sym, ap, subst}
use Rattle.std.specs.Prelude.{slice_get, slice_index_or}
use Rattle.gfx_model.specs.Frames.{Recorded, Entry}
use Rattle.gfx_model.specs.World.{World, frame_step, first_world}
use Rattle.gfx_model.specs.Pixel.{Pixel}
use Rattle.scene_model.specs.Fold.{FramePlan, plans}
use Rattle.scene_model.specs.Journal.{Journal, frame_content}
use Rattle.store_laws.specs.ByIndex.{FrameData}
use Rattle.scene_laws.specs.SceneFrames.{HasColors, scene_frames}
use Rattle.trace_laws.specs.Doers.{Doer, doers, doers_in}
use Rattle.trace_laws.specs.History.{Made, pixel_at, pixel_history}
use Rattle.trace_laws.specs.Moments.{Moment, moments_from}
use Rattle.trace_laws.specs.ByIndex.{IsTraced, history_in, begun_in, deeds_in}
use Rattle.trace_laws.specs.Text.{stroke_lines, pixel_lines, pixel_lines_from, lines_in, scene_pixel_lines}
use Rattle.scene_traces.specs.Traced.{SceneLinesLaw, stores_before}
use Rattle.scene_traces.proofs.Traces.{scene-traced-law, some-same}
use Rattle.scene_traces.proofs.Gathered.{gathered-doers-law}

-- the moment of a frame that has a plan and entries, and the frame's lines
record HasMoment (w : World) (ps : List FramePlan) (j : Journal) (k x y : ℕ) (p : FramePlan) (entries : List Entry) : Type 0 where
  world : World
  begins : slice_get (moments_from w ps j) k ≡ Some (record { world = world; content = frame_content p entries })
  lines : slice_index_or (pixel_lines_from w ps j x y) k [] ≡ pixel_lines world p entries x y

has-moment : (w : World) (ps : List FramePlan) (j : Journal) (k x y : ℕ) (p : FramePlan) (entries : List Entry) → slice_get ps k ≡ Some p → slice_get j k ≡ Some entries → HasMoment w ps j k x y p entries
has-moment w [] j k x y p entries a b = cc a
has-moment w (q ∷ ps) [] k x y p entries a b = cc b
has-moment w (q ∷ ps) (es ∷ j) zero x y p entries a b =
    let same_plan : q ≡ p = some-same q p a in
    let same_entries : es ≡ entries = some-same es entries b in
    record {
      world = w;
      begins = ap (λ (r : FramePlan). Some (moment-of w r es)) same_plan ∙ ap (λ (ns : List Entry). Some (moment-of w p ns)) same_entries;
      lines = ap (λ (r : FramePlan). pixel_lines w r es x y) same_plan ∙ ap (λ (ns : List Entry). pixel_lines w p ns x y) same_entries;
    }
  where
    moment-of : World → FramePlan → List Entry → Moment
    moment-of u r ns = record { world = u; content = frame_content r ns }
has-moment w (q ∷ ps) (es ∷ j) (suc k) x y p entries a b =
    let next = has-moment (frame_step w (frame_content q es)) ps j k x y p entries a b in
    record { world = next.world; begins = next.begins; lines = next.lines }

pub scene-lines-law : SceneLinesLaw
scene-lines-law s j colors k x y f p entries rs has plan order gathered =
    let at = has-moment (first_world s.width s.height) (plans s) j k x y p entries plan order in
    let moment : Moment = record { world = at.world; content = frame_content p entries } in
    let traced : IsTraced (stores_before s j k) at.world f (frame_content p entries) = scene-traced-law s j colors k f moment has at.begins in
    ap (λ (ds : List Doer). lines_in (stores_before s j k) f ds x y) (gathered-doers-law p rs entries gathered)
    ∙ ap (λ b. stroke_lines (doers p entries) (pixel_at b x y) (history_in x y 0 (begun_in (stores_before s j k) f) (deeds_in f))) traced.back
    ∙ ap (λ (ms : List Made). stroke_lines (doers p entries) (pixel_at at.world.back x y) ms) (traced.history x y)
    ∙ sym at.lines

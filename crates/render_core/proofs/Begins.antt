-- Where a frame stands that is begun.
use Rattle.std.proofs.Common.{◌≡◌, ℕ, ◌≤◌, ◌<◌, ◌-◌, false, List, Option, take, drop, length, sym, ap, subst}
use Rattle.std.specs.Prelude.{fold}
use Rattle.store_laws.specs.ByIndex.{Stores}
use Rattle.frame_record.specs.declared.frame.Frame.{Frame}
use Rattle.frame_record.specs.declared.frame.Outcome.{Outcome}
use Rattle.frame_record.specs.declared.frame.RenderedFrame.{RenderedFrame}
use Rattle.render_stores.specs.Seen.{stores_seen}
use Rattle.view_drawing.specs.Passes.{after_part}
use Rattle.render_core.specs.Begun.{AreReady, IsWithin, StandsAt, skips}
use Rattle.render_core.specs.Rendered.{IsRendered, Rendering, seen_by}
use Rattle.render_core.specs.Seen.{frame_seen}
use Rattle.render_core.specs.ViewParts.{parts_in}
use Rattle.render_core.specs.declared.lists.Lists.{Lists}
use Rattle.render_core.specs.declared.renderer.Renderer.{Renderer}
use Rattle.render_core.specs.declared.stages.Stage.{Stage}
use Rattle.render_core.specs.declared.stages.Stage.TheVariants as stages
use Rattle.render_core.proofs.PartsIn.{within_more}

-- with some views more
pub within_next : (h : Stores) (f : Frame) (l m : Lists) (e n : ℕ) (mid last : Stores) → m ≡ l → IsWithin h f l e mid → e < n → n ≤ length (parts_in (frame_seen f))
    → last ≡ fold after_part mid (take (n - e) (drop e (parts_in (frame_seen f)))) → IsWithin h f m n last
within_next h f l m e n mid last same w later many more =
    record { many = many; stores = within_more h (frame_seen f) e n mid last later w.stores more; ready = subst (AreReady f) (sym same) w.ready }

-- ---- where so many views are entered

pub entered_stands : (s : Stage) (e : ℕ) (h : Stores) (f : Frame) (l : Lists) (now : Stores) → s ≡ stages.Entered e → StandsAt s h f l now → IsWithin h f l e now
entered_stands s e h f l now is stands = subst (λ (t : Stage). StandsAt t h f l now) is stands

pub entered_draws : (s : Stage) (e : ℕ) → s ≡ stages.Entered e → skips s ≡ false
entered_draws s e is = ap skips is

-- ---- a render

-- what is rendered behind the outcomes of a renderer, into its sink, is rendered by it
pub rendered_on : {P : Type 0} (held : P → Option (List ℕ)) (tally : P → Option (ℕ × ℕ)) (faults : P → ℕ) (sure : P → Option ℕ) (opening : Renderer P) (os : List Outcome) (sink : P) (r : RenderedFrame) (new : Rendering)
    → os ≡ opening.outcomes → sink ≡ opening.sink
    → IsRendered (record { stores = stores_seen opening.canvas.stores; outcomes = os; held = held sink; tally = tally sink; faults = faults sink; sure = sure sink }) r new
    → IsRendered (seen_by held tally faults sure opening) r new
rendered_on {P} held tally faults sure opening os sink r new outcomes same is =
    subst (λ (p : List Outcome × P). IsRendered (record { stores = stores_seen opening.canvas.stores; outcomes = p.0; held = held p.1; tally = tally p.1; faults = faults p.1; sure = sure p.1 }) r new)
    (λ j. (outcomes j, same j)) is

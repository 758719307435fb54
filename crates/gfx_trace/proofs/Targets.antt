-- What is put and told of a pixel of a frame buffer.
use Rattle.std.proofs.Common.{◌≡◌, ◌∙◌, ◌<◌, ℕ, List, [], length, Option, Some, None, sym, ap}
use Rattle.std.specs.Prelude.{IsSome, is_some, unwrap_or}
use Rattle.std.proofs.lemmas.Bool.{lt-ltb}
use Rattle.scene_model.specs.Scene.{Scene}
use Rattle.scene_model.specs.Journal.{Journal}
use Rattle.item_lines.specs.Items.{item_lines}
use Rattle.target_scenes.specs.Numbered.{scene_numbered_target_lines, scene_target_named}
use Rattle.target_scenes.proofs.Tells.{same-told}
use Rattle.gfx_trace.specs.Asked.{Asked, scene_by, asked_of}
use Rattle.gfx_trace.specs.Ended.{asked_status, asked_text, text_of}
use Rattle.gfx_trace.specs.Jobs.{Job}
use Rattle.gfx_trace.specs.Jobs as jobs
use Rattle.gfx_trace.specs.Refusals.{pixel_line, refusal_line, target_line, target_pixel_line}
use Rattle.gfx_trace.specs.declared.words.Place.{Place}
use Rattle.gfx_trace.specs.declared.status.TraceStatus.TheVariants as status
use Rattle.gfx_trace.proofs.Ends.{target_told, target_none, pixel_refused}

module _ (bytes : List ℕ) (s : Scene) (j : Journal) (p : Place) (name : List ℕ) (found : asked_of bytes ≡ scene_by s j) (frame : p.frame < length s.frames) where
  abbrev job : Job
  job = jobs.target_job p name

  abbrev lines : Option (List ℕ)
  lines = scene_numbered_target_lines (item_lines bytes s p.frame) s j p.frame name p.x p.y

  pub lines_done : (text : List ℕ) → lines ≡ Some text → asked_status job (asked_of bytes) ≡ status.Done
  lines_done text told = ap (asked_status job) found ∙ target_told s j p name (lt-ltb p.frame (length s.frames) frame) (sym (same-told (item_lines bytes s p.frame) s j p.frame name p.x p.y) ∙ ap is_some told)

  pub lines_text : (text : List ℕ) → lines ≡ Some text → text_of job bytes ≡ text
  lines_text text told = ap (asked_text job bytes) found ∙ ap (λ o. unwrap_or o []) told

  pub none_missing : lines ≡ None → asked_status job (asked_of bytes) ≡ status.NoPixel
  none_missing told = ap (asked_status job) found ∙ target_none s j p name (lt-ltb p.frame (length s.frames) frame) (sym (same-told (item_lines bytes s p.frame) s j p.frame name p.x p.y) ∙ ap is_some told)

  pub name_line : scene_target_named s p.frame name ≡ None → refusal_line job (asked_of bytes) status.NoPixel ≡ target_line p.frame name
  name_line none = ap (λ (a : Asked). refusal_line job a status.NoPixel) found ∙ ap (target_pixel_line p name) none

  pub spot_line : IsSome (scene_target_named s p.frame name) → refusal_line job (asked_of bytes) status.NoPixel ≡ pixel_line p.x p.y
  spot_line is = ap (λ (a : Asked). refusal_line job a status.NoPixel) found ∙ pixel_refused s j p name (scene_target_named s p.frame name) is

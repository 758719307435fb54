-- The crate's types as the definitions see them.
use Rattle.std.specs.Prelude.{ℕ, ◌≤◌, List, map, length, option_map}
use Rattle.std.specs.Global.{Vec}
use Rattle.scene_model.specs.Grammar.{field}
use Rattle.gfx_query.specs.Queries as model
use Rattle.gfx_query.specs.declared.script.Query.{Query}
use Rattle.gfx_query.specs.declared.script.Condition.{Condition}
use Rattle.gfx_query.specs.declared.script.Condition.TheVariants as conditions
use Rattle.gfx_query.specs.declared.script.Draw.{Draw}
use Rattle.gfx_query.specs.declared.script.Step.{Step}
use Rattle.gfx_query.specs.declared.script.Step.TheVariants as steps
use Rattle.gfx_query.specs.declared.script.Script.{Script}

-- a query's number
abbrev pub query_seen : Query → ℕ
query_seen q = q.number

-- when a draw is drawn
abbrev pub condition_seen : Condition → model.Condition
condition_seen conditions.Always = model.always
condition_seen (conditions.Seen q) = model.where_seen q.number
condition_seen (conditions.Unseen q) = model.where_unseen q.number

-- a draw as the definitions see it
abbrev pub draw_seen : Draw → model.Draw
draw_seen d = record { query = option_map query_seen d.query; condition = condition_seen d.condition; vertices = d.vertices.items; instances = d.instances.items }

-- a line of a frame
abbrev pub step_seen : Step → model.Step
step_seen (steps.Clear word) = model.clear_step word
step_seen (steps.State word) = model.state_step word
step_seen (steps.Stencil front back) = model.stencil_step front back
step_seen (steps.Draw d) = model.draw_step (draw_seen d)

-- a frame's lines
abbrev pub frame_seen : Vec Step → List model.Step
frame_seen f = map step_seen f.items

-- a script
abbrev pub script_seen : Script → model.Script
script_seen s = record { width = s.sides.width; height = s.sides.height; frames = map frame_seen s.frames.items }

-- each field has at most so many bytes
abbrev pub AreShort : List (List ℕ) → Type 0
AreShort fs = (k : ℕ) → length (field fs k) ≤ 16777216

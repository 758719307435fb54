-- What is known of a thing, as the definitions see it.
use Rattle.std.specs.Prelude.{List, [], map, replicate}
use Rattle.gfx_model.specs.World as world
use Rattle.gfx_model.specs.Resources as model
use Rattle.gfx_model.specs.Resources.{no_layout, zero_value}
use Rattle.gfx_words.specs.Kinds.{format_seen, program_seen, uniform_seen}
use Rattle.resource_book.specs.declared.rows.Fact.{Fact}
use Rattle.resource_book.specs.declared.rows.Fact.TheVariants as facts
use Rattle.resource_book.specs.declared.rows.Row.{Row}

-- what a row tells of a thing's content
abbrev pub fact_seen : Fact → world.Content
fact_seen (facts.Layout l) = world.layout_content l
fact_seen (facts.Vertices bytes) = world.vertex_content no_layout (replicate bytes 0)
fact_seen (facts.Indices bytes) = world.index_content (replicate bytes 0)
fact_seen (facts.Texture f width height) = world.texture_content (format_seen f) (record { width = width; height = height; texels = [] })
fact_seen (facts.FrameBuffer color depth) = world.frame_buffer_content color depth
fact_seen (facts.Program k) = world.program_content (program_seen k)
fact_seen (facts.Uniform k name) = world.uniform_content name.items (zero_value (uniform_seen k))

-- a row as a thing of the definitions
abbrev pub row_seen : Row → model.Thing
row_seen r = record {
  handle = r.handle;
  birth = r.birth;
  death = r.death;
  content = fact_seen r.fact;
  references = r.references;
}

-- rows in order
abbrev pub rows_seen : List Row → List model.Thing
rows_seen rows = map row_seen rows

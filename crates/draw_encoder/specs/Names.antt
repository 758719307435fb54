-- What is known of the handles that an encoder recorded.
use Rattle.std.specs.Prelude.{◌≡◌, ℕ, ◌<◌, ◌⊎◌, ◌&&◌, List, [], ◌∷◌, Option, Some, None, IsTrue, ⊤}
use Rattle.std.specs.List.{AllByRecursion}
use Rattle.gfx_model.specs.Words.{Handle, layout_kind, vertex_buffer_kind, index_buffer_kind, program_kind, uniform_kind, is_kind, place_of_handle, is_usable_in}
use Rattle.gfx_model.specs.World.{VertexSet, no_vertices, stored_vertices, transient_vertices, IndexSet, no_indices, stored_indices, transient_indices, UniformSet, Item, draw_item, touch_item, blit_item}
use Rattle.gfx_model.specs.Recorder.{Recorder, format_of, is_rgba8_option, same_formats, is_blit_destination_in, takes_value}
pub use Rattle.hold_table.specs.Views.{IsNamedIn, HasNamed}

-- ---- each handle is named, and is of the kind that its call asks

module _ (Named : Handle → Type 0) where
  abbrev pub FitsVertices : VertexSet → Type 0
  FitsVertices no_vertices = ⊤
  FitsVertices (stored_vertices buffer first count) = Named buffer × IsTrue (is_kind buffer.kind vertex_buffer_kind)
  FitsVertices (transient_vertices layout bytes) = Named layout × IsTrue (is_kind layout.kind layout_kind)

  abbrev pub FitsIndices : IndexSet → Type 0
  FitsIndices no_indices = ⊤
  FitsIndices (stored_indices buffer first count) = Named buffer × IsTrue (is_kind buffer.kind index_buffer_kind)
  FitsIndices (transient_indices bytes) = ⊤

  abbrev pub FitsTexture : Option Handle → Type 0
  FitsTexture None = ⊤
  FitsTexture (Some h) = Named h × IsTrue (is_rgba8_option (format_of h))

  abbrev pub FitsUniform : UniformSet → Type 0
  FitsUniform s = Named s.uniform × IsTrue (is_kind s.uniform.kind uniform_kind && takes_value s.uniform.info s.value)

  -- the item's view is below a number too
  abbrev pub FitsItem : ℕ → Item → Type 0
  FitsItem views (draw_item d) =
      (d.view < views) × (Named d.program × IsTrue (is_kind d.program.kind program_kind))
      × FitsVertices d.vertices × FitsIndices d.indices × AllByRecursion FitsTexture d.textures × AllByRecursion FitsUniform d.values
  FitsItem views (touch_item t) = (t.view < views) × AllByRecursion FitsUniform t.values
  FitsItem views (blit_item b) =
      (b.view < views) × Named b.destination × Named b.source × IsTrue (same_formats (format_of b.destination) (format_of b.source))
      × IsTrue (is_blit_destination_in b.destination.info)

  -- and so are those of the state for the next draw, of the pending values and of all items
  pub record FitsRecorder (e : Recorder) : Type 0 where
    pub vertices : FitsVertices e.current.vertices
    pub indices : FitsIndices e.current.indices
    pub textures : AllByRecursion FitsTexture e.current.textures
    pub pending : AllByRecursion FitsUniform e.pending
    pub items : AllByRecursion (FitsItem e.view_count) e.items

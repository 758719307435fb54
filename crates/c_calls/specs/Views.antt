-- A context and an encoder that C holds.
use Rattle.std.specs.Prelude.{◌≡◌, ℕ, false, List, Option}
use Rattle.gfx_model.specs.Words.{Handle}
use Rattle.gfx_model.specs.Views.{view_count}
use Rattle.atomic_table.specs.Seated.{TableId}
use Rattle.context_core.specs.States.{CoreView}
use Rattle.draw_encoder.specs.Calls.{RecorderView}
use Rattle.render_core.specs.Rendered.{Rendering}
use Rattle.c_calls.specs.declared.standing.Standing.{Standing}

-- the state of the calls, the handles that were given by their places, the renderer, how it stands, and how many bytes a picture has at most
pub record ContextView : Type 0 where
  pub core : CoreView
  pub rows : List (Option Handle)
  pub renderer : Rendering
  pub standing : Standing
  pub most : ℕ

-- a recorder, and the handles that had been given when it began
pub record EncoderView : Type 0 where
  pub recorder : RecorderView
  pub rows : List (Option Handle)

-- a core of this table, with 512 views, which is not ended, and of which no frame is out or given
pub record IsOn (table : TableId) (c : CoreView) : Type 0 where
  pub table_is : c.table ≡ table
  pub views_are : view_count c.state.book.resources.views ≡ 512
  pub none_out : c.state.out ≡ 0
  pub none_given : c.state.is_given ≡ false
  pub runs : c.state.is_ended ≡ false

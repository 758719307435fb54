-- The crate's types as the definitions see them.
use Rattle.gfx_model.specs.Views as model
use Rattle.gfx_words.specs.Seen.{mode_seen}
use Rattle.fix_math.specs.Seen.{rect_seen, affine_seen}
use Rattle.view_table.specs.declared.clears.Clear.{Clear}
use Rattle.view_table.specs.declared.views.View.{View}

-- a clear with the same flags and values
abbrev pub clear_seen : Clear → model.Clear
clear_seen c = record { flags = c.flags; color = c.color; depth = c.depth; stencil = c.stencil }

-- a view with the same settings
abbrev pub view_seen : View → model.View
view_seen v = record {
  rect = rect_seen v.rect;
  scissor = rect_seen v.scissor;
  clear = clear_seen v.clear;
  mode = mode_seen v.mode;
  target = v.target;
  transform = affine_seen v.transform;
}

-- The crate's types as the definitions see them.
use Rattle.std.specs.Prelude.{if◌then◌else◌}
use Rattle.gfx_model.specs.Views as model
use Rattle.sort_key.specs.declared.KeyFields.{KeyFields}

-- the fields of a key as the definitions name them
abbrev pub fields_seen : KeyFields → model.KeyFields
fields_seen k = record {
  position = k.position;
  mode_type = k.mode_type;
  blended = if k.blended then 1 else 0;
  program = k.program;
  depth_field = k.depth_field;
  number = k.number;
}

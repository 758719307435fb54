-- What the fields of a line must be, by its first field: the line forms of the scene text.
use Rattle.std.specs.Prelude.{if◌then◌else◌, List, [], ◌∷◌, bytes_eq, codes}
use Rattle.scene_model.specs.Grammar.{Field}
use Rattle.fault_fields.specs.declared.kind.Kind.{Kind}
use Rattle.fault_fields.specs.declared.kind.Kind.TheVariants as kinds

-- a number of one byte
abbrev pub byte_kind : Kind
byte_kind = kinds.Number 0 255

-- a number of two bytes
abbrev pub short_kind : Kind
short_kind = kinds.Number 0 65535

-- a number of four bytes
abbrev pub long_kind : Kind
long_kind = kinds.Number 0 4294967295

-- a line of the order of lines
abbrev pub order_kinds : Field → List Kind
order_kinds w =
    if bytes_eq (codes "scene") w then kinds.Any ∷ kinds.Number 1 2 ∷ []
    else (if bytes_eq (codes "size") w then kinds.Any ∷ kinds.Number 1 2048 ∷ []
    else (if bytes_eq (codes "encoders") w then kinds.Any ∷ kinds.Number 1 8 ∷ []
    else (if bytes_eq (codes "room") w then kinds.Any ∷ kinds.Number 1 8191 ∷ kinds.Number 0 1048576 ∷ kinds.Number 0 8191 ∷ []
    else (if bytes_eq (codes "latency") w then kinds.Any ∷ kinds.Number 1 3 ∷ []
    else (if bytes_eq (codes "encoder") w then kinds.Any ∷ byte_kind ∷ []
    else [])))))

-- a line that makes a thing
abbrev pub create_kinds : Field → List Kind
create_kinds w =
    if bytes_eq (codes "layout") w then kinds.Any ∷ kinds.NewName ∷ kinds.Part ∷ []
    else (if bytes_eq (codes "vb") w then kinds.Any ∷ kinds.NewName ∷ kinds.Name ∷ kinds.Hex ∷ []
    else (if bytes_eq (codes "ib") w then kinds.Any ∷ kinds.NewName ∷ kinds.Hex ∷ []
    else (if bytes_eq (codes "texture") w then kinds.Any ∷ kinds.NewName ∷ short_kind ∷ short_kind ∷ kinds.Format ∷ kinds.Destination ∷ kinds.Source ∷ []
    else (if bytes_eq (codes "fb") w then kinds.Any ∷ kinds.NewName ∷ kinds.Name ∷ kinds.NameOrNone ∷ []
    else (if bytes_eq (codes "program") w then kinds.Any ∷ kinds.NewName ∷ kinds.Program ∷ []
    else (if bytes_eq (codes "uniform") w then kinds.Any ∷ kinds.NewUniform ∷ kinds.Uniform ∷ []
    else order_kinds w))))))

-- another line of the API thread, beside `view`
abbrev pub resource_kinds : Field → List Kind
resource_kinds w =
    if bytes_eq (codes "update") w then kinds.Any ∷ kinds.Name ∷ long_kind ∷ kinds.Hex ∷ []
    else (if bytes_eq (codes "texupdate") w then kinds.Any ∷ kinds.Name ∷ short_kind ∷ short_kind ∷ short_kind ∷ short_kind ∷ kinds.Hex ∷ []
    else (if bytes_eq (codes "destroy") w then kinds.Any ∷ kinds.Name ∷ []
    else (if bytes_eq (codes "order") w then kinds.Any ∷ short_kind ∷ []
    else create_kinds w)))

-- an encoder's line that sets what follows
abbrev pub state_kinds : Field → List Kind
state_kinds w =
    if bytes_eq (codes "state") w then kinds.Any ∷ kinds.Number 0 18446744073709551615 ∷ []
    else (if bytes_eq (codes "stencil") w then kinds.Any ∷ long_kind ∷ []
    else (if bytes_eq (codes "scissor") w then kinds.Any ∷ short_kind ∷ []
    else (if bytes_eq (codes "transform") w then kinds.Any ∷ kinds.Integer ∷ []
    else (if bytes_eq (codes "vertices") w then kinds.Any ∷ kinds.Name ∷ long_kind ∷ []
    else (if bytes_eq (codes "indices") w then kinds.Any ∷ kinds.Name ∷ long_kind ∷ []
    else resource_kinds w)))))

-- another line of an encoder
abbrev pub encoder_kinds : Field → List Kind
encoder_kinds w =
    if bytes_eq (codes "tvertices") w then kinds.Any ∷ kinds.Name ∷ kinds.Hex ∷ []
    else (if bytes_eq (codes "tindices") w then kinds.Any ∷ kinds.Hex ∷ []
    else (if bytes_eq (codes "bind") w then kinds.Any ∷ byte_kind ∷ kinds.NameOrNone ∷ []
    else (if bytes_eq (codes "set") w then kinds.Any ∷ kinds.Name ∷ kinds.Integer ∷ []
    else (if bytes_eq (codes "submit") w then kinds.Any ∷ short_kind ∷ kinds.Name ∷ long_kind ∷ byte_kind ∷ []
    else (if bytes_eq (codes "touch") w then kinds.Any ∷ short_kind ∷ []
    else (if bytes_eq (codes "blit") w then kinds.Any ∷ short_kind ∷ kinds.Name ∷ short_kind ∷ short_kind ∷ kinds.Name ∷ short_kind ∷ []
    else state_kinds w))))))

-- a `view` line, by the word of what it sets
abbrev pub view_kinds : Field → List Kind
view_kinds w =
    if bytes_eq (codes "clear") w then kinds.Any ∷ short_kind ∷ kinds.Setting ∷ byte_kind ∷ kinds.Color ∷ kinds.Number 0 16777215 ∷ byte_kind ∷ []
    else (if bytes_eq (codes "mode") w then kinds.Any ∷ short_kind ∷ kinds.Setting ∷ kinds.Mode ∷ []
    else (if bytes_eq (codes "target") w then kinds.Any ∷ short_kind ∷ kinds.Setting ∷ kinds.NameOrNone ∷ []
    else (if bytes_eq (codes "transform") w then kinds.Any ∷ short_kind ∷ kinds.Setting ∷ kinds.Integer ∷ []
    else kinds.Any ∷ short_kind ∷ kinds.Setting ∷ short_kind ∷ [])))

-- a line by its first field, and a `view` line by its third as well
abbrev pub line_kinds : (first third : Field) → List Kind
line_kinds first third = if bytes_eq (codes "view") first then view_kinds third else encoder_kinds first

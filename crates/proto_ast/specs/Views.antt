-- What the declared types of parts say, as the plain records of `Parts` and `Scenes`.
use Rattle.std.specs.Prelude.{option_map}
use Rattle.proto_ast.specs.declared.fields.OptionAt.{OptionAt}
use Rattle.proto_ast.specs.declared.fields.FieldAt.{FieldAt}
use Rattle.proto_ast.specs.declared.scene.EnumAt.{EnumAt}
use Rattle.proto_ast.specs.declared.scene.MeantAt.{MeantAt}
use Rattle.proto_ast.specs.Parts.{FieldOf, OptionOf, settings_of}
use Rattle.proto_ast.specs.Scenes.{EnumOf, MeantOf}

-- an option, by what it says
abbrev pub option_of : OptionAt → OptionOf
option_of o = record { name = o.name; value = o.value.now }

-- a field, by what it says
abbrev pub field_of : FieldAt → FieldOf
field_of f = record {
  label = f.label;
  map_key = f.map_key;
  oneof = f.oneof;
  kind = f.kind.now;
  name = f.name;
  number = f.number;
  options = settings_of (option_map (λ s. s.now) f.settings);
}

-- an enum, by what is read of it
abbrev pub enum_of : EnumAt → EnumOf
enum_of e = record {
  is_proto3 = e.is_proto3;
  starts_past_zero = e.starts_past_zero;
  values = e.values.now;
}

-- a reference, by what it means
abbrev pub meant_of : MeantAt → MeantOf
meant_of m = record { token = m.token; name = m.name.now; enum = option_map enum_of m.enumeration }

-- The names that descriptor.proto gives to labels, types, modes, levels and C++ types.
use Rattle.std.specs.Prelude.{codes}
use Rattle.proto_base.specs.Texts.{Text}
use Rattle.proto_descriptors.specs.declared.field.CType.{CType}
use Rattle.proto_descriptors.specs.declared.field.CType.TheVariants as c_type
use Rattle.proto_descriptors.specs.declared.field.JsType.{JsType}
use Rattle.proto_descriptors.specs.declared.field.JsType.TheVariants as js_type
use Rattle.proto_descriptors.specs.declared.field.FieldType.{FieldType}
use Rattle.proto_descriptors.specs.declared.field.FieldType.TheVariants as field_type
use Rattle.proto_descriptors.specs.declared.field.Label.{Label}
use Rattle.proto_descriptors.specs.declared.field.Label.TheVariants as label
use Rattle.proto_descriptors.specs.declared.file.OptimizeMode.{OptimizeMode}
use Rattle.proto_descriptors.specs.declared.file.OptimizeMode.TheVariants as optimize_mode
use Rattle.proto_descriptors.specs.declared.service.IdempotencyLevel.{IdempotencyLevel}
use Rattle.proto_descriptors.specs.declared.service.IdempotencyLevel.TheVariants as idempotency_level

-- the name of a label in descriptor.proto
abbrev pub label_name : Label → Text
label_name label.Optional = codes "LABEL_OPTIONAL"
label_name label.Required = codes "LABEL_REQUIRED"
label_name label.Repeated = codes "LABEL_REPEATED"

-- the name of a type in descriptor.proto: `TYPE_`, then the word of the type in capitals
abbrev pub type_word : FieldType → Text
type_word field_type.Double = codes "TYPE_DOUBLE"
type_word field_type.Float = codes "TYPE_FLOAT"
type_word field_type.Int64 = codes "TYPE_INT64"
type_word field_type.Uint64 = codes "TYPE_UINT64"
type_word field_type.Int32 = codes "TYPE_INT32"
type_word field_type.Fixed64 = codes "TYPE_FIXED64"
type_word field_type.Fixed32 = codes "TYPE_FIXED32"
type_word field_type.Bool = codes "TYPE_BOOL"
type_word field_type.String = codes "TYPE_STRING"
type_word field_type.Message = codes "TYPE_MESSAGE"
type_word field_type.Bytes = codes "TYPE_BYTES"
type_word field_type.Uint32 = codes "TYPE_UINT32"
type_word field_type.Enum = codes "TYPE_ENUM"
type_word field_type.Sfixed32 = codes "TYPE_SFIXED32"
type_word field_type.Sfixed64 = codes "TYPE_SFIXED64"
type_word field_type.Sint32 = codes "TYPE_SINT32"
type_word field_type.Sint64 = codes "TYPE_SINT64"

-- the word of a mode, as a file writes it at its option `optimize_for`
abbrev pub optimize_mode_name : OptimizeMode → Text
optimize_mode_name optimize_mode.Speed = codes "SPEED"
optimize_mode_name optimize_mode.CodeSize = codes "CODE_SIZE"
optimize_mode_name optimize_mode.LiteRuntime = codes "LITE_RUNTIME"

-- the word of a level, as a method writes it at its option `idempotency_level`
abbrev pub idempotency_level_name : IdempotencyLevel → Text
idempotency_level_name idempotency_level.Unknown = codes "IDEMPOTENCY_UNKNOWN"
idempotency_level_name idempotency_level.NoSideEffects = codes "NO_SIDE_EFFECTS"
idempotency_level_name idempotency_level.Idempotent = codes "IDEMPOTENT"

-- the word of a C++ type, as a field writes it at its option `ctype`
abbrev pub c_type_name : CType → Text
c_type_name c_type.String = codes "STRING"
c_type_name c_type.Cord = codes "CORD"
c_type_name c_type.StringPiece = codes "STRING_PIECE"

-- the word of a JavaScript type, as a field writes it at its option `jstype`
abbrev pub js_type_name : JsType → Text
js_type_name js_type.Normal = codes "JS_NORMAL"
js_type_name js_type.String = codes "JS_STRING"
js_type_name js_type.Number = codes "JS_NUMBER"

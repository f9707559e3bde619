-- What proofs of this crate name of its own definitions, passed on from one place.
-- Declares nothing.
pub use Rattle.proto_ast.specs.Options.{is_named}
pub use Rattle.proto_ast.specs.Parts.{FieldOf, fields_from, fields_in, oneof_count, setting_options, options_in, separated, statement_fields, statements}
pub use Rattle.proto_ast.specs.Scenes.{MeantOf, is_proto3, is_proto3_statement, text}
pub use Rattle.proto_ast.specs.Views.{field_of, meant_of, option_of}

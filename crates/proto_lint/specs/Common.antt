-- What proofs of this crate name of its own definitions, passed on from one place.
-- Declares nothing.
pub use Rattle.proto_lint.specs.Heads.{IsProtoPath, head_of, head_of_file, heads, heads_from, is_there}
pub use Rattle.proto_lint.specs.ImportTables.{LeadsToMarked, MarksMeant, MarksUsed}
pub use Rattle.proto_lint.specs.Imports.{import_used, imports_finds, is_reached, is_used, import_path}
pub use Rattle.proto_lint.specs.Packages.{Head, head_finds, package_name}

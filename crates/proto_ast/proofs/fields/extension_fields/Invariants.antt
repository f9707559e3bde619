use Rattle.std.proofs.Common.{◌≡◌, ◌++◌, map, drop}
use Rattle.proto_tree.specs.File.{trees, extension_tree}
use Rattle.proto_ast.specs.Common.{fields_in, field_of}
use Rattle.proto_ast.proofs.fields.extension_fields.Given as goal

abbrev pub invariant-loop-extension : goal.invariant-loop-extension
invariant-loop-extension l = map field_of l.fields.items ++ fields_in (trees extension_tree (drop l.extension-index l.extensions)) ≡ fields_in (trees extension_tree l.extensions)

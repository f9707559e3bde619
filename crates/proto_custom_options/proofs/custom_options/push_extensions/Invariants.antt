use Rattle.std.proofs.Common.{◌≡◌, ◌++◌, [], map, drop}
use Rattle.proto_tree.specs.File.{trees, extension_tree}
use Rattle.proto_custom_options.specs.CustomOptions.{customs_below}
use Rattle.proto_custom_options.specs.Views.{custom_of}
use Rattle.proto_custom_options.proofs.custom_options.push_extensions.Given as goal

abbrev pub invariant-loop-extension : goal.invariant-loop-extension
invariant-loop-extension l = map custom_of l.found.items ++ customs_below [] (trees extension_tree (drop l.extension-index l.extensions)) ≡ map custom_of l.fn.found.items ++ customs_below [] (trees extension_tree l.extensions)

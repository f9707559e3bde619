use Rattle.std.proofs.Common.{◌≡◌, map, take, string_bytes}
use Rattle.proto_names_outline.specs.Listing.{wanted_of}
use Rattle.proto_ast.specs.Scenes.{value}
use Rattle.proto_desc.proofs.head.dependencies.Given as goal

abbrev pub invariant-loop-import : goal.invariant-loop-import
invariant-loop-import l = map string_bytes l.paths.items ≡ map (λ w. value l.scene w.path) (map wanted_of (take l.import-index l.imports))

use Rattle.std.proofs.Common.{◌≡◌, ◌++◌, List, map, take, flat_map}
use Rattle.proto_files.proofs.Common.{paths_of, ReadOf, AreRead}
use Rattle.proto_names_imports.specs.Links.{names_of_files}
use Rattle.proto_lint.specs.Imports.{import_finds}
use Rattle.proto_lint.proofs.imports.FileImports.add_statements.Given as goal

abbrev pub invariant-loop-import : goal.invariant-loop-import
invariant-loop-import l = (reads : List ReadOf) → AreRead l.self.files reads
    → l.found ≡ l.initial.found ++ flat_map (import_finds l.self.rules (names_of_files l.self.files reads) (paths_of l.self.files) l.self.read l.self.file) (map (λ i. i.now) (take l.import-index l.statements))

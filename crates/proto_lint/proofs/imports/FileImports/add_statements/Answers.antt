use Rattle.std.proofs.Common.{◌++◌, None, Bor, List, map, sym, ◌∙◌, ap, take_all, flat_map}
use Rattle.proto_tree.specs.declared.tree.Import.{Import}
use Rattle.proto_files.proofs.Common.{paths_of, ReadOf}
use Rattle.proto_names_imports.specs.Links.{names_of_files}
use Rattle.proto_lint_names.proofs.Common.{Found}
use Rattle.proto_base.proofs.Turns.{then_added}
use Rattle.proto_lint.proofs.ImportLists.{finds_more}
use Rattle.proto_lint.specs.Imports.{import_finds}
use Rattle.proto_lint.proofs.imports.FileImports.add_statements.Goals as goal

-- an import for no place
abbrev no_import : Bor Import
no_import = record { ref_ptr = (0, 0); now = record { keyword = 0; modifier = None; path = 0; semicolon = 0 } }

pub loop-import-preserved : goal.loop-import-preserved
loop-import-preserved c = λ (reads : List ReadOf) are.
    (let finds = import_finds c.args.self.now.rules (names_of_files c.args.self.now.files reads) (paths_of c.args.self.now.files) c.args.self.now.read c.args.self.now.file in
    then_added _ _ _ _ _ (c.loop-import.invariant reads are) (c.in_ok-add_import.ensures reads are)
    ∙ ap (λ (fs : List Found). c.args.found.now ++ fs) (sym (finds_more finds c.args.statements.now c.loop-import.import-index no_import c.loop-import-test.true)))

pub add_import-requires : goal.add_import-requires
add_import-requires c = c.requires c.loop-import.import-index no_import c.loop-import-test.true

pub returns : goal.returns
returns c = λ (reads : List ReadOf) are.
    (let finds = import_finds c.args.self.now.rules (names_of_files c.args.self.now.files reads) (paths_of c.args.self.now.files) c.args.self.now.read c.args.self.now.file in
    c.loop-import.invariant reads are
    ∙ ap (λ (is : List (Bor Import)). c.args.found.now ++ flat_map finds (map (λ i. i.now) is)) (take_all c.loop-import.import-index c.args.statements.now c.loop-import-test.false))

use Rattle.std.proofs.Common.{◌++◌, List, ap, ◌∙◌}
use Rattle.proto_base.proofs.Common.{on_ok_weaker, then_added}
use Rattle.proto_files.proofs.Common.{paths_of, ReadOf}
use Rattle.proto_names_imports.specs.Links.{names_of_files}
use Rattle.proto_lint_rules.specs.declared.rule.Rule.TheVariants as rule
use Rattle.proto_lint_names.proofs.Common.{Found, found_by}
use Rattle.proto_lint.specs.Imports.{ImportsOf, import_no_public, import_used}
use Rattle.proto_lint.proofs.imports.FileImports.add_import.Goals as goal

pub returns : goal.returns
returns c =
    let i = c.args.import.now in
    let s : ImportsOf = c.args.self.now in
    let before = c.args.found.now in
    let public : ImportsOf → List Found = λ x. found_by x.rules x.read rule.ImportNoPublic (import_no_public x.read i) in
    let first = c.in_ok-add_import_no_public.ensures ∙ ap (λ (x : ImportsOf). before ++ public x) c.self.view_is in
    on_ok_weaker c.add_used.result
    (λ h (reads : List ReadOf) are. then_added (public s) (found_by s.rules s.read rule.ImportUsed (import_used (names_of_files s.files reads) (paths_of s.files) s.read s.file i)) before c.add_import_no_public.new.found c.add_used.new.found first (h reads are))
    c.add_used.ensures

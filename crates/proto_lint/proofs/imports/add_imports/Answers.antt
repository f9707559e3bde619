use Rattle.std.proofs.Common.{◌≡◌, ◌++◌, List, map, get_or, sym, ◌∙◌, ap, subst, Contains, flat_map, OnOk}
use Rattle.proto_base.proofs.Common.{Contains-get_or, on_ok_weaker, contains_map}
use Rattle.proto_text.specs.Strings.{IsString}
use Rattle.proto_tree.specs.File.{tree_of_file}
use Rattle.proto_tree.specs.declared.tree.Import.{Import}
use Rattle.proto_files.proofs.Common.{file_at, paths_of, ReadOf, AreRead, read_at, same_tree}
use Rattle.proto_names_imports.specs.Links.{names_of_files}
use Rattle.proto_lint_names.proofs.Common.{Found, LintFile, reading_of, word_in}
use Rattle.proto_lint.proofs.ImportLists.{paths_are_strings}
use Rattle.proto_lint.specs.Imports.{ImportsOf, import_finds, import_statements_in}
use Rattle.proto_lint.proofs.imports.add_imports.Goals as goal

pub add_statements-requires : goal.add_statements-requires
add_statements-requires c =
    let files = c.args.linter.now.linked.now.files in
    let file = c.args.reading.now.file in
    let reads : List ReadOf = c.files-files.ensures.linked.reads in
    let are = c.files-files.ensures.linked.read in
    let tree_is = rw c.files-files.ensures.files at c.tree.ensures in
    let tree = (read_at reads file).tree in
    let all = c.deref.result.now in
    let same : map (λ i. i.now) all ≡ import_statements_in tree = ap (map (λ i. i.now)) c.deref.ensures.value ∙ c.in_ok-statements.ensures ∙ ap import_statements_in (sym (same_tree files reads file (tree_of_file c.tree.result.now) are c.requires.file tree_is)) in
    λ k d l.
    (let i : Import = (get_or all k d).now in
    let there : Contains (import_statements_in tree) i = subst (λ (is : List Import). Contains is i) same (contains_map (λ x. x.now) all (get_or all k d) (Contains-get_or all k d l)) in
    subst (λ (x : ImportsOf). IsString (word_in x.read i.path)) (sym c.in_ok-imports.ensures)
    (subst (λ (r : LintFile). IsString (word_in r i.path)) (sym (c.requires.reading reads are)) (paths_are_strings (file_at files file).profile (file_at files file).bytes (read_at reads file).tokens tree (are.trees file c.requires.file) i there)))

pub returns : goal.returns
returns c =
    let files = c.args.linter.now.linked.now.files in
    let file = c.args.reading.now.file in
    let before = c.args.found.now in
    let finds : ImportsOf → List ReadOf → Import → List Found = λ x reads. import_finds x.rules (names_of_files x.files reads) (paths_of x.files) x.read x.file in
    let known : ImportsOf = record { rules = c.args.linter.now.rules.now.chosen; files = files; read = reading_of c.args.reading.now; file = file } in
    let added : OnOk c.add_statements.result ((reads : List ReadOf) → AreRead files reads → c.add_statements.new.found ≡ before ++ flat_map (finds known reads) (map (λ i. i.now) c.deref.result.now)) =
    subst (λ (x : ImportsOf). OnOk c.add_statements.result ((reads : List ReadOf) → AreRead x.files reads → c.add_statements.new.found ≡ before ++ flat_map (finds x reads) (map (λ i. i.now) c.deref.result.now))) c.in_ok-imports.ensures c.add_statements.ensures in
    on_ok_weaker c.add_statements.result
    (λ h (reads : List ReadOf) are. h reads are ∙ ap (λ (is : List Import). before ++ flat_map (finds known reads) is)
    (ap (map (λ i. i.now)) c.deref.ensures.value ∙ c.in_ok-statements.ensures ∙ ap import_statements_in (sym (same_tree files reads file (tree_of_file c.tree.result.now) are c.requires.file (rw c.files-files.ensures.files at c.tree.ensures)))))
    added

use Rattle.std.proofs.Common.{◌<◌, All, arith, sym, subst, ◌∙◌}
use Rattle.std.proofs.lemmas.Bool.{both_ways}
use Rattle.proto_names_imports.specs.declared.import.FileImport.{FileImport}
use Rattle.proto_names_rules.specs.Cycles.{Leads}
use Rattle.proto_edit_statements.proofs.Additions.{free_14, refused_12, refused_14}
use Rattle.proto_edit_statements.proofs.MoreOrLess.{place_within}
use Rattle.proto_edit_statements.proofs.NamedImports.{is_imported, not_imported}
use Rattle.proto_edit_statements.proofs.adding.check_new.Goals as goal

pub returns-then-is_some-clause-err : goal.returns-then-is_some-clause-err
returns-then-is_some-clause-err c =
    let files = c.args.files.now in
    let reads = c.are_read.ensures.0 in
    let are = c.are_read.ensures.1 in
    let file = c.args.paths.from in
    let path = c.args.paths.path.now in
    let within = place_within files c.args.paths.file.now file c.requires.file in
    refused_12 files reads are c.args.paths.file.now path file c.args.paths.to c.requires.file c.requires.to within c.requires.before
    (is_imported files reads file path c.import_named.result (c.import_named.ensures reads are) (sym c.is_some.ensures ∙ c.if-is_some.true))

pub returns-then-branch-clause-err : goal.returns-then-branch-clause-err
returns-then-branch-clause-err c =
    let files = c.args.files.now in
    let reads = c.are_read.ensures.0 in
    let are = c.are_read.ensures.1 in
    let file = c.args.paths.from in
    let path = c.args.paths.path.now in
    let within = place_within files c.args.paths.file.now file c.requires.file in
    refused_14 files reads are c.args.paths.file.now path file c.args.paths.to c.requires.file c.requires.to within c.requires.before
    (not_imported files reads file path c.import_named.result (c.import_named.ensures reads are) (sym c.is_some.ensures ∙ c.if-is_some.false)) (subst (λ z. Leads z c.args.paths.to file) (c.requires.imports.are reads are) (c.in_ok-leads.ensures.0 c.if-branch.true))

pub returns-clause-free : goal.returns-clause-free
returns-clause-free c =
    let files = c.args.files.now in
    let reads = c.are_read.ensures.0 in
    let are = c.are_read.ensures.1 in
    let file = c.args.paths.from in
    let path = c.args.paths.path.now in
    let within = place_within files c.args.paths.file.now file c.requires.file in
    free_14 files reads are c.args.paths.file.now path file c.args.paths.to c.requires.file c.requires.to within c.requires.before
    (not_imported files reads file path c.import_named.result (c.import_named.ensures reads are) (sym c.is_some.ensures ∙ c.if-is_some.false))
    (λ h. both_ways c.in_ok-leads.field-0 c.if-branch.false (c.in_ok-leads.ensures.1 (subst (λ z. Leads z c.args.paths.to file) (sym (c.requires.imports.are reads are)) h)))

pub leads-requires-clause-within : goal.leads-requires-clause-within
leads-requires-clause-within c =
    subst (λ n. All (λ v. All (λ (i : FileImport). i.to < n) v.items) c.args.imports.now) (sym c.requires.imports.len) c.requires.imports.within

pub leads-requires-clause-from : goal.leads-requires-clause-from
leads-requires-clause-from c =
    let within = place_within c.args.files.now c.args.paths.path.now c.args.paths.to c.requires.to in
    let count = c.requires.imports.len in
    omega (arith, within, count)

pub leads-requires-clause-to : goal.leads-requires-clause-to
leads-requires-clause-to c =
    let within = place_within c.args.files.now c.args.paths.file.now c.args.paths.from c.requires.file in
    let count = c.requires.imports.len in
    omega (arith, within, count)

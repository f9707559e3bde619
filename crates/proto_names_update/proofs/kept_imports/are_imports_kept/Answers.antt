use Rattle.std.proofs.Common.{List, sym, ◌∙◌, subst, IfSome}
use Rattle.proto_base.proofs.Common.{both_ways}
use Rattle.proto_files.specs.FilesRead.{AreRead, ReadOf}
use Rattle.proto_names_imports.specs.Laws.{AreImportsOf}
use Rattle.proto_names_update.proofs.ImportsByFile.{same_imports}
use Rattle.proto_names_update.proofs.kept_imports.are_imports_kept.Goals as goal

pub returns-in-Some-clause-kept : goal.returns-in-Some-clause-kept
returns-in-Some-clause-kept c = λ same reads are.
    let now = subst (λ o. IfSome o (λ v. (rs : List ReadOf) → AreRead c.args.files.now rs → AreImportsOf c.args.files.now rs c.args.file v.items)) c.in-Some.is c.in_ok-now.ensures.imports in
    subst (AreImportsOf c.args.files.now reads c.args.file) (sym c.deref.ensures.value ∙ c.are_same.ensures.0 same) (now reads are)

pub returns-in-Some-clause-changed : goal.returns-in-Some-clause-changed
returns-in-Some-clause-changed c = λ differ reads are there.
    (let now = subst (λ o. IfSome o (λ v. (rs : List ReadOf) → AreRead c.args.files.now rs → AreImportsOf c.args.files.now rs c.args.file v.items)) c.in-Some.is c.in_ok-now.ensures.imports in
    let same = same_imports c.args.file c.in-Some.now.items c.args.before.now (sym (now reads are).same ∙ there.same) in
    both_ways c.are_same.result differ (c.are_same.ensures.1 (c.deref.ensures.value ∙ same)))

pub returns-in-None-clause-changed : goal.returns-in-None-clause-changed
returns-in-None-clause-changed c = λ differ reads are there. c.in_ok-now.ensures.none c.in-None.is reads are c.args.before.now there

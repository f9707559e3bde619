use Rattle.std.proofs.Common.{◌≡◌, List, Some, subst, sym, rules}
use Rattle.proto_base.specs.GivenFiles.{FileOf, files_of_as}
use Rattle.proto_files.specs.Faults.{HasNoFault, IsLeastFault, fault_at}
use Rattle.proto_desc.specs.Whole.{IsSortedOf, WorkspaceFaults}
use Rattle.proto_session_files.specs.Compiling.{IsWorkspaceOf}
use Rattle.proto_session_files.proofs.InLanguage.{same_given}
use Rattle.proto_session_files.proofs.compiling.opened.Goals as goal

pub returns-in-Ok : goal.returns-in-Ok
returns-in-Ok c =
    let same = same_given c.args.profile c.in_ok-copies.copies.items c.args.seen.now c.in_ok-copies.ensures in
    let put : c.replace.new.dest ≡ Some c.in-Ok.workspace = search rules in
    subst (IsWorkspaceOf (files_of_as c.args.profile c.args.seen.now)) (sym put)
    (subst (λ (fs : List FileOf). IsSortedOf fs c.in-Ok.workspace) same c.in-Ok.ensures.files, subst (λ (fs : List FileOf). HasNoFault (WorkspaceFaults fs)) same c.in-Ok.ensures.clean)

pub returns : goal.returns
returns c = λ clean.
    (let given = files_of_as c.args.profile c.in_ok-copies.copies.items in
    let same = same_given c.args.profile c.in_ok-copies.copies.items c.args.seen.now c.in_ok-copies.ensures in
    let x = fault_at c.in-Err-Schema.field-0-0 in
    let least : IsLeastFault (WorkspaceFaults given) x = rw c.in-Err-Schema.field-0-is at c.in-Err-Schema.ensures.fault in
    clean x (subst (λ (fs : List FileOf). WorkspaceFaults fs x) same least.is_fault))

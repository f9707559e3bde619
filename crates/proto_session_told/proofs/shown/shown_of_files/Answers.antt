use Rattle.std.proofs.Common.{◌≡◌, List, map, ap, ◌∙◌}
use Rattle.proto_base.proofs.Common.{IfOk-weaker, Vec}
use Rattle.proto_base.specs.GivenFiles.{files_of_as}
use Rattle.proto_base.specs.declared.fault.Fault.{Fault}
use Rattle.proto_files.specs.Faults.{fault_at}
use Rattle.proto_session_told.specs.Shown.{IsShown, shown_fault, shown_of}
use Rattle.proto_session_told.specs.declared.shown.Shown.{Shown}
use Rattle.proto_session_told.proofs.ShownKinds.{faults_are_shown, not_brought}
use Rattle.proto_session_told.proofs.shown.shown_of_files.Goals as goal

pub returns : goal.returns
returns c =
    let files = files_of_as c.args.profile c.args.files.now in
    let listed = map fault_at c.in_ok-listed.listed.items in
    IfOk-weaker c.shown_faults.result (λ (v : Vec Shown). map shown_of v.items ≡ map shown_fault (map fault_at c.as_slice.result.now)) (λ (v : Vec Shown). IsShown files (map shown_of v.items))
    (λ (v : Vec Shown) e.
    faults_are_shown c.first_is_least.ensures.none files listed (map shown_of v.items) (not_brought files _ _ c.if-branch.false c.in_ok-bring.ensures) c.in_ok-listed.ensures (e ∙ ap (λ (xs : List Fault). map shown_fault (map fault_at xs)) c.as_slice.ensures.value))
    c.shown_faults.ensures

use Rattle.std.proofs.Common.{map, Some}
use Rattle.proto_base.proofs.Common.{IfOk-weaker}
use Rattle.proto_files.specs.Faults.{fault_at}
use Rattle.proto_ast.specs.Numbers.{past}
use Rattle.proto_names_faults.specs.AllFaults.{AreAllOf}
use Rattle.proto_all_faults.specs.Common.{CheckFaultsUpTo, FileFaultsUpTo, FirstPhase}
use Rattle.proto_all_faults.proofs.FilePhases.{checks_last}
use Rattle.proto_all_faults.proofs.links.file_faults.Goals as goal

pub returns-in-Ok : goal.returns-in-Ok
returns-in-Ok c =
    let files = c.args.files.now in
    IfOk-weaker c.check_faults-listed.result (λ v. AreAllOf (CheckFaultsUpTo (Some past) files) (map fault_at v.items)) (λ v. AreAllOf (FirstPhase (FileFaultsUpTo (Some past) files)) (map fault_at v.items))
    (λ v all. checks_last (Some past) files c.len-count.ensures.clean (map fault_at v.items) c.in-Ok.ensures.clean all) (rw c.new-in-Ok.ensures.files at c.check_faults-listed.ensures)

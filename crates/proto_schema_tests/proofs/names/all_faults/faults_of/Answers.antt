use Rattle.std.proofs.Common.{◌≡◌, [], map, sym, ◌∙◌, ap, arith, eqb-true}
use Rattle.proto_base.proofs.Common.{nil_from_length}
use Rattle.proto_files.proofs.Common.{fault_at}
use Rattle.proto_names_faults.specs.AllFaults.{NameFaults}
use Rattle.proto_names_faults.proofs.NoneListed.{none_listed}
use Rattle.proto_schema_tests.proofs.names.all_faults.faults_of.Goals as goal

pub reference_faults-requires : goal.reference_faults-requires
reference_faults-requires c =
    let items = c.in_ok-names.names.items in
    let empty : items ≡ [] = nil_from_length items (omega (arith, c.in_ok-names.names.ok.0, eqb-true _ 0 (sym c.is_empty-2.ensures ∙ c.if-not-is_empty-2.false))) in
    record { names = none_listed (NameFaults c.args.files.now) (map fault_at items) c.in_ok-names.ensures.exact (ap (map fault_at) empty) }
